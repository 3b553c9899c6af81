-- The nodes and edges of conditions. A condition begins at a node without temporaries and leads to two nodes without
-- temporaries: one where it holds and one where it does not.
use Rattle.std.specs.Prelude.{ℕ, zero, suc, ◌+◌, Bool, true, false, not, ◌&&◌, ◌||◌, if◌then◌else◌, nat_lt, List, [], ◌∷◌, ◌++◌, ℤ, pos, ◌+ℤ◌, Option, Some, None, is_none, slice_index_or}
use Rattle.std.specs.Option.{option_map_or}
use Rattle.wm_ops.specs.declared.operators.Op.{Op}
use Rattle.wm_ops.specs.declared.operators.Op.TheVariants as ops
use Rattle.wm_domain.specs.declared.form.Relation.{Relation}
use Rattle.wm_domain.specs.declared.form.Relation.TheVariants.{AtMost, Equal, NotEqual}
use Rattle.wm_program.specs.declared.tree.Comparison.{Comparison}
use Rattle.wm_program.specs.declared.tree.Comparison.TheVariants as compare
use Rattle.wm_program.specs.Tree.{Expression, Arguments, Test, Constant, Named, Element, Operator, Invoke, Plain, Negate, Plus, Cast, Always, Either, Both, Not, Compare, Truth}
use Rattle.wm_flow.specs.declared.kept.Kept.{Kept}
use Rattle.wm_flow.specs.declared.scene.Sides.{Sides}
use Rattle.wm_flow.specs.Plain.{Doing, Keep}
use Rattle.wm_flow.specs.Kept.{form_of, constant, variable, collected, negative_of, is_side, is_zero}
use Rattle.wm_flow.specs.declared.scene.Scene.{Scene}
use Rattle.wm_flow.specs.declared.scene.Bases.{Bases}
use Rattle.wm_flow.specs.Places.{Plan, bases_of, temporary}
use Rattle.wm_flow.specs.Strokes.{Stroke, Line, point, nothing}
use Rattle.wm_flow.specs.declared.scene.Held.{Held}
use Rattle.wm_flow.specs.declared.scene.Coming.{Coming}
use Rattle.wm_flow.specs.Yields.{coming, yielded, yield_size, yield_strokes, to_temporary, after}
use Rattle.wm_flow.specs.Expressions.{value, values_after, size, sizes, strokes, all_strokes, operate_size, operands, operate_strokes, no_values, left_waiting, only_value, behind}

-- ---- comparisons

abbrev pub other_way : Comparison → Comparison
other_way compare.Less = compare.GreaterEqual
other_way compare.LessEqual = compare.Greater
other_way compare.Greater = compare.LessEqual
other_way compare.GreaterEqual = compare.Less
other_way compare.Equal = compare.NotEqual
other_way compare.NotEqual = compare.Equal

-- the comparison with its sides changed
abbrev pub from_right : Comparison → Comparison
from_right compare.Less = compare.Greater
from_right compare.LessEqual = compare.GreaterEqual
from_right compare.Greater = compare.Less
from_right compare.GreaterEqual = compare.LessEqual
from_right compare.Equal = compare.Equal
from_right compare.NotEqual = compare.NotEqual

abbrev pub one_more : Kept → Kept
one_more kept = record kept { constant = kept.constant +ℤ pos 1 }

-- keeps the points at which the sides with this difference compare so
unfoldable pub keeping : Comparison → Kept → Doing
keeping compare.Less difference = Keep (form_of (one_more difference)) AtMost
keeping compare.LessEqual difference = Keep (form_of difference) AtMost
keeping compare.Greater difference = Keep (form_of (one_more (negative_of difference))) AtMost
keeping compare.GreaterEqual difference = Keep (form_of (negative_of difference)) AtMost
keeping compare.Equal difference = Keep (form_of difference) Equal
keeping compare.NotEqual difference = Keep (form_of difference) NotEqual

-- two edges from a node, the one with the lower target first
unfoldable pub fork : (node hit : ℕ) → Doing → (miss : ℕ) → Doing → List Stroke
fork node hit holds miss fails =
    if nat_lt hit miss
    then Line node hit holds None ∷ Line node miss fails None ∷ []
    else Line node miss fails None ∷ Line node hit holds None ∷ []

-- the two ways of a comparison of sides with this difference
abbrev pub ways : Comparison → Kept → (node hit miss : ℕ) → List Stroke
ways mark difference node hit miss =
    fork node hit (keeping mark difference) miss (keeping (other_way mark) difference)

-- ---- the two sides: where their difference is no form, each side that is no variable and no constant goes to a temporary

abbrev pub is_apart : Sides → Bool
is_apart sides = is_none (collected sides.left true sides.right)

abbrev pub goes : Bool → Kept → Bool
goes apart kept = apart && not (is_side kept)

-- a side as it is compared, the temporary being the next one
abbrev pub side_value : Bases → Bool → Kept → (temporaries : ℕ) → Kept
side_value bases apart kept temporaries =
    if goes apart kept then variable (temporary bases temporaries) else kept

abbrev pub side_size : Bool → Kept → ℕ
side_size apart kept = if goes apart kept then 1 else 0

abbrev pub side_strokes : Plan → Scene → Bool → Kept → (node temporaries : ℕ) → List Stroke
side_strokes plan scene apart kept node temporaries =
    if goes apart kept then to_temporary plan scene node temporaries kept else []

-- the difference of two sides of which each is a variable or a constant, or which are one form
abbrev pub difference_of : Kept → Kept → Kept
difference_of a b = option_map_or (λ kept. kept) (collected a true b) (constant (pos 0))

abbrev pub sides_size : Sides → ℕ
sides_size sides = side_size (is_apart sides) sides.left + side_size (is_apart sides) sides.right

-- sides that stand at a node, and the two ways from there
unfoldable pub sides_strokes : Plan → Scene → Comparison → Sides → (node hit miss : ℕ) → List Stroke
sides_strokes plan scene mark sides node hit miss =
    let bases = bases_of plan scene in
    let apart = is_apart sides in
    let second = sides.temporaries + side_size apart sides.left in
    side_strokes plan scene apart sides.left node sides.temporaries
    ++ side_strokes plan scene apart sides.right (node + side_size apart sides.left) second
    ++ ways mark
    (difference_of (side_value bases apart sides.left sides.temporaries) (side_value bases apart sides.right second))
    (node + sides_size sides) hit miss

-- ---- what is compared

-- `sub(a, b)` and `L_sub(a, b)` compared with 0 are the operator and then a comparison of a and b
pub data Compared : Type 0 where
  -- the comparison of two expressions
  Plainly : Expression → Comparison → Expression → Compared
  -- a number that is compared with 0
  Number : Expression → Compared
  -- a difference that is compared with 0
  Applied : Op → Arguments → (site : ℕ) → Comparison → Compared

-- the arguments of a subtraction
pub record Subtraction : Type 0 where
  pub op : Op
  pub arguments : Arguments
  pub site : ℕ

abbrev pub subtraction : Expression → Option Subtraction
subtraction (Operator ops.Sub args site) = Some (record { op = ops.Sub; arguments = args; site = site })
subtraction (Operator ops.LSub args site) = Some (record { op = ops.LSub; arguments = args; site = site })
subtraction _ = None

abbrev pub is_nought : Expression → Bool
is_nought (Constant z) = is_zero z
is_nought _ = false

abbrev pub applied : Option Subtraction → Comparison → Compared → Compared
applied None mark otherwise = otherwise
applied (Some it) mark otherwise = Applied it.op it.arguments it.site mark

-- what `x mark y` compares
unfoldable pub compared : Expression → Comparison → Expression → Compared
compared x mark y =
    if is_nought y then applied (subtraction x) mark (Plainly x mark y)
    else if is_nought x then applied (subtraction y) (from_right mark) (Plainly x mark y)
    else Plainly x mark y

-- what a number as a condition compares
unfoldable pub compared_number : Expression → Compared
compared_number x = applied (subtraction x) compare.NotEqual (Number x)

module _ (plan : Plan) (scene : Scene) where
  -- the sides when they have been evaluated
  abbrev pub sides_of : Compared → Sides
  sides_of (Plainly x mark y) =
      let left = left_waiting plan scene (value plan scene x 0) y 0 in
      record { left = only_value plan scene left; right = value plan scene y left.temporaries; temporaries = behind plan scene y left.temporaries }
  sides_of (Number x) =
      record { left = value plan scene x 0; right = constant (pos 0); temporaries = behind plan scene x 0 }
  sides_of (Applied op args site mark) =
      let own = operands (bases_of plan scene) (values_after plan scene args (no_values plan scene 0)) in
      record { left = slice_index_or own.values 0 (constant (pos 0)); right = slice_index_or own.values 1 (constant (pos 0)); temporaries = suc own.temporaries }

  abbrev pub mark_of : Compared → Comparison
  mark_of (Plainly x mark y) = mark
  mark_of (Number x) = compare.NotEqual
  mark_of (Applied op args site mark) = mark

  -- the nodes before the sides stand
  abbrev pub evaluation_size : Compared → ℕ
  evaluation_size (Plainly x mark y) =
      let a = value plan scene x 0 in
      let left = left_waiting plan scene a y 0 in
      size plan scene x 0 + yield_size (bases_of plan scene) (coming y) (a ∷ []) + size plan scene y left.temporaries
  evaluation_size (Number x) = size plan scene x 0
  evaluation_size (Applied op args site mark) =
      sizes plan scene args (no_values plan scene 0)
      + operate_size (bases_of plan scene) (values_after plan scene args (no_values plan scene 0))

  abbrev pub evaluation_strokes : Compared → (node : ℕ) → List Stroke
  evaluation_strokes (Plainly x mark y) node =
      let a = value plan scene x 0 in
      let left = left_waiting plan scene a y 0 in
      let second = node + size plan scene x 0 in
      strokes plan scene x node 0
      ++ yield_strokes plan scene (coming y) (a ∷ []) second (after (bases_of plan scene) a 0)
      ++ strokes plan scene y (second + yield_size (bases_of plan scene) (coming y) (a ∷ [])) left.temporaries
  evaluation_strokes (Number x) node = strokes plan scene x node 0
  evaluation_strokes (Applied op args site mark) node =
      let held = values_after plan scene args (no_values plan scene 0) in
      let own = operands (bases_of plan scene) held in
      all_strokes plan scene args node (no_values plan scene 0)
      ++ operate_strokes plan scene op site held (node + sizes plan scene args (no_values plan scene 0))
      (temporary (bases_of plan scene) own.temporaries) (suc own.temporaries)

  abbrev pub compared_size : Compared → ℕ
  compared_size it = evaluation_size it + sides_size (sides_of it)

  abbrev pub compared_strokes : Compared → (node hit miss : ℕ) → List Stroke
  compared_strokes it node hit miss =
      evaluation_strokes it node
      ++ sides_strokes plan scene (mark_of it) (sides_of it) (node + evaluation_size it) hit miss

  -- ---- conditions

  -- how many nodes are made before its two ways end
  unfoldable pub test_size : Test → ℕ
  test_size Always = 0
  test_size (Either c d) = test_size c + 1 + test_size d
  test_size (Both c d) = test_size c + 1 + test_size d
  test_size (Not c) = test_size c
  test_size (Compare x mark y) = compared_size (compared x mark y)
  test_size (Truth x) = compared_size (compared_number x)

  -- the node at which the second of two conditions begins
  abbrev pub between : Test → (node : ℕ) → ℕ
  between c node = suc (node + test_size c)

  unfoldable pub test_strokes : Test → (node hit miss : ℕ) → List Stroke
  test_strokes Always node hit miss = Line node hit nothing None ∷ []
  test_strokes (Either c d) node hit miss =
      test_strokes c node hit (between c node)
      ++ point plan scene 0 ∷ test_strokes d (between c node) hit miss
  test_strokes (Both c d) node hit miss =
      test_strokes c node (between c node) miss
      ++ point plan scene 0 ∷ test_strokes d (between c node) hit miss
  test_strokes (Not c) node hit miss = test_strokes c node miss hit
  test_strokes (Compare x mark y) node hit miss = compared_strokes (compared x mark y) node hit miss
  test_strokes (Truth x) node hit miss = compared_strokes (compared_number x) node hit miss
