-- The nodes and edges of expressions. A plain sum or difference of numbers and named scalars that collects to a form is
-- kept as the form; every other value goes to a temporary.
use Rattle.std.specs.Prelude.{ℕ, zero, suc, ◌+◌, ◌-◌, Bool, true, false, ◌&&◌, if◌then◌else◌, List, [], ◌∷◌, ◌++◌, map, length, ℤ, pos, negsuc, ◌-ℤ◌, Option, Some, None, is_none, slice_index_or}
use Rattle.std.specs.Option.{option_map_or, option_or}
use Rattle.wm_ops.specs.declared.operators.Op.{Op}
use Rattle.wm_domain.specs.declared.form.Form.{Form}
use Rattle.wm_ops.specs.declared.operators.Width.{Width}
use Rattle.wm_ops.specs.declared.operators.Width.TheVariants.{W16, W32}
use Rattle.wm_ops.specs.declared.words.Counted.TheVariants as counted
use Rattle.wm_program.specs.declared.program.Root.{Root}
use Rattle.wm_program.specs.declared.tree.Scalar.{Scalar}
use Rattle.wm_program.specs.declared.tree.Array.{Array}
use Rattle.wm_program.specs.declared.tree.PlainMark.{PlainMark}
use Rattle.wm_program.specs.declared.tree.PlainMark.TheVariants as mark
use Rattle.wm_program.specs.Tree.{Expression, Arguments, Constant, Named, Element, Operator, Invoke, Plain, Negate, Plus, Cast, Done, Value, Whole, From}
use Rattle.wm_program.specs.Code.{function_of, length_of}
use Rattle.wm_program.specs.State.{root_of}
use Rattle.wm_flow.specs.declared.action.Combined.{Combined}
use Rattle.wm_flow.specs.declared.action.Combined.TheVariants.{Itself, Sum, Difference, Negative}
use Rattle.wm_flow.specs.declared.kept.Kept.{Kept}
use Rattle.wm_flow.specs.Plain.{Doing, AssignForm, AssignRange, Read, Operate, Count}
use Rattle.wm_flow.specs.Plain as plain
use Rattle.wm_flow.specs.Kept.{form_of, constant, variable, collected, negative_of}
use Rattle.wm_flow.specs.Layouts.{range}
use Rattle.wm_flow.specs.declared.scene.Scene.{Scene}
use Rattle.wm_flow.specs.declared.scene.Bases.{Bases}
use Rattle.wm_flow.specs.declared.scene.Source.{Source}
use Rattle.wm_flow.specs.declared.scene.Source.TheVariants.{Variable, Cells, Fixed}
use Rattle.wm_flow.specs.Places.{Plan, bases_of, temporary, overflow_place, scalar_source, array_source, offset_of, here_of, is_named}
use Rattle.wm_flow.specs.Strokes.{Stroke, Line, Part, point, step, tested}
use Rattle.wm_flow.specs.declared.scene.Held.{Held}
use Rattle.wm_flow.specs.declared.scene.Coming.{Coming}
use Rattle.wm_flow.specs.Yields.{coming, own_operator, yielded, yield_size, yield_strokes, to_temporary, after, with_value}
use Rattle.wm_flow.specs.Calls.{result_of, result_size, enter, leave}

-- ---- reads

-- what reads a source into a variable
abbrev pub reading : Source → (target : ℕ) → Doing
reading (Variable v) target = AssignForm target (form_of (variable v))
reading (Cells a) target = Read a target
reading (Fixed low high) target = AssignRange target (range low high)

-- the read of a cell is a read at its site
abbrev pub reading_site : Source → Option ℕ → Option ℕ
reading_site (Variable v) site = None
reading_site (Cells a) site = site
reading_site (Fixed low high) site = None

-- ---- indices: the offset of the array and the index are tested as one form; where they are none, the index goes to a
-- temporary first

abbrev pub moves : Kept → Kept → Bool
moves offset index = is_none (collected offset false index)

-- the form that is tested, with so many temporaries in use behind the index
unfoldable pub place_form : Bases → (offset index : Kept) → (temporaries : ℕ) → Kept
place_form bases offset index temporaries =
    option_map_or (λ kept. kept)
    (option_or (collected offset false index) (collected offset false (variable (temporary bases temporaries)))) index

abbrev pub place_size : (offset index : Kept) → ℕ
place_size offset index = if moves offset index then 2 else 1

-- the test, from `low` to `high`, after which so many temporaries are in use
unfoldable pub place_strokes : Plan → Scene → (offset index : Kept) → (low high : ℤ) → (site node temporaries kept : ℕ) → List Stroke
place_strokes plan scene offset index low high site node temporaries left =
    let kept = place_form (bases_of plan scene) offset index temporaries in
    if moves offset index
    then to_temporary plan scene node temporaries index ++ step plan scene (suc node) (tested kept (kept ∷ []) low high Itself) (Some site) left
    else step plan scene node (tested kept (kept ∷ []) low high Itself) (Some site) left

-- how many cells the root of an array has
abbrev pub cells_in : Plan → Scene → Array → ℕ
cells_in plan scene array = length_of plan.code (root_of (here_of plan scene) array)

abbrev pub last_index : Plan → Scene → Array → ℤ
last_index plan scene array = pos (cells_in plan scene array) -ℤ pos 1

-- ---- plain operators

abbrev pub sum_of : PlainMark → Kept → Kept → Option Kept
sum_of mark.Plus a b = collected a false b
sum_of mark.Minus a b = collected a true b
sum_of mark.Times a b = None
sum_of mark.Divide a b = None

-- the form of a sum or difference of named scalars and numbers, where it is one
unfoldable pub plain_form : Bases → PlainMark → Kept → Kept → Option Kept
plain_form bases mark a b = if is_named bases a && is_named bases b then sum_of mark a b else None

abbrev pub combined_by : PlainMark → Combined
combined_by mark.Plus = Sum
combined_by mark.Minus = Difference
combined_by mark.Times = Itself
combined_by mark.Divide = Itself

-- the value of the operator, in this temporary where it is no form
abbrev pub plain_value : Bases → PlainMark → Kept → Kept → (target : ℕ) → Kept
plain_value bases mark a b target =
    option_map_or (λ kept. kept) (plain_form bases mark a b) (variable (temporary bases target))

abbrev pub least32 : ℤ
least32 = negsuc 2147483647

abbrev pub greatest32 : ℤ
greatest32 = pos 2147483647

abbrev pub plain_doing : Bases → PlainMark → Kept → Kept → (target : ℕ) → Option Kept → Doing
plain_doing bases mark a b target None = plain.Plain mark (form_of a ∷ form_of b ∷ []) (temporary bases target)
plain_doing bases mark a b target (Some kept) = tested kept (a ∷ b ∷ []) least32 greatest32 (combined_by mark)

-- one edge
unfoldable pub plain_strokes : Plan → Scene → PlainMark → Kept → Kept → (site node target : ℕ) → List Stroke
plain_strokes plan scene mark a b site node target =
    let bases = bases_of plan scene in
    step plan scene node (plain_doing bases mark a b target (plain_form bases mark a b)) (Some site)
    (after bases (plain_value bases mark a b target) target)

-- ---- conversions to 16 bits

abbrev pub narrow_size : Option ℕ → ℕ
narrow_size None = 0
narrow_size (Some site) = 1

unfoldable pub narrow_strokes : Plan → Scene → Option ℕ → Kept → (node temporaries : ℕ) → List Stroke
narrow_strokes plan scene None kept node temporaries = []
narrow_strokes plan scene (Some site) kept node temporaries =
    step plan scene node (tested kept (kept ∷ []) (negsuc 32767) (pos 32767) Itself) (Some site) temporaries

-- ---- operators

abbrev pub argument_form : List Kept → ℕ → Form
argument_form values k = form_of (slice_index_or values k (constant (pos 0)))

abbrev pub operate_size : Bases → Held → ℕ
operate_size bases held = yield_size bases own_operator held.values + 2

-- its values as they stand when it is applied
abbrev pub operands : Bases → Held → Held
operands bases held = yielded bases own_operator held.values held.temporaries

-- the operator is counted and applied; the result goes to a variable of a node with so many temporaries
unfoldable pub operate_strokes : Plan → Scene → Op → (site : ℕ) → Held → (node target temporaries : ℕ) → List Stroke
operate_strokes plan scene op site held node target temporaries =
    let bases = bases_of plan scene in
    let own = operands bases held in
    let at = node + yield_size bases own_operator held.values in
    yield_strokes plan scene own_operator held.values node held.temporaries
    ++ step plan scene at (Count (counted.Operator op)) None own.temporaries
    ++ step plan scene (suc at)
    (Operate op (argument_form own.values 0 ∷ argument_form own.values 1 ∷ argument_form own.values 2 ∷ []) target (overflow_place bases))
    (Some site) temporaries

-- ---- calls of functions

-- the last node of an instance lies so far behind its first one
abbrev pub size_at : Plan → ℕ → ℕ
size_at plan instance = slice_index_or plan.sizes instance 0

abbrev pub call_value : Plan → Bases → (function temporaries : ℕ) → Kept
call_value plan bases function temporaries =
    if result_of plan function then variable (temporary bases temporaries) else constant (pos 0)

abbrev pub call_size : Plan → (instance : ℕ) → ℕ
call_size plan instance = size_at plan instance + 2

-- the call of an instance, its nodes, and the return over so many temporaries
unfoldable pub call_strokes : Plan → Scene → (function instance : ℕ) → List Kept → (node temporaries : ℕ) → List Stroke
call_strokes plan scene function instance values node temporaries =
    let exit = suc node + size_at plan instance in
    Line node (suc node) (enter plan scene instance values) None
    ∷ Part instance (suc node)
    ∷ Line exit (suc exit) (leave plan scene instance node temporaries) None
    ∷ point plan scene (temporaries + result_size plan function) ∷ []

-- ---- values

module _ (plan : Plan) (scene : Scene) where
  abbrev pub here : Bases
  here = bases_of plan scene

  abbrev pub named_value : Source → (temporaries : ℕ) → Kept
  named_value (Variable v) temporaries = variable v
  named_value (Cells a) temporaries = variable (temporary here temporaries)
  named_value (Fixed low high) temporaries = variable (temporary here temporaries)

  -- what waits while an expression is evaluated
  abbrev pub waiting : Expression → Held → Held
  waiting x held = yielded here (coming x) held.values held.temporaries

  -- the left operand while the right one is evaluated
  abbrev pub left_waiting : Kept → Expression → (temporaries : ℕ) → Held
  left_waiting a y temporaries = yielded here (coming y) (a ∷ []) (after here a temporaries)

  abbrev pub only_value : Held → Kept
  only_value held = slice_index_or held.values 0 (constant (pos 0))

  unfoldable mutual
    -- the value of an expression, with so many temporaries in use before it
    pub value : Expression → (temporaries : ℕ) → Kept
    value (Constant z) temporaries = constant z
    value (Named scalar) temporaries = named_value (scalar_source plan scene scalar) temporaries
    value (Element array index site) temporaries = variable (temporary here temporaries)
    value (Operator op args site) temporaries = variable (temporary here temporaries)
    value (Invoke function offset args) temporaries =
        call_value plan here (function_of plan.code (scene.instance + offset)) temporaries
    value (Plain mark x y site) temporaries =
        let left = left_waiting (value x temporaries) y temporaries in
        plain_value here mark (only_value left) (value y left.temporaries) temporaries
    value (Negate x site) temporaries = negative_of (value x temporaries)
    value (Plus x) temporaries = value x temporaries
    value (Cast width x) temporaries = variable (temporary here temporaries)

    -- the values of arguments behind some others
    pub values_after : Arguments → Held → Held
    values_after Done held = held
    values_after (Value x narrowing rest) held =
        let wait = waiting x held in
        values_after rest (with_value here wait (value x wait.temporaries))
    values_after (Whole array rest) held = values_after rest (with_value here held (offset_of plan scene array))
    values_after (From array index site rest) held =
        let wait = waiting index held in
        let at = value index wait.temporaries in
        values_after rest
        (with_value here wait (place_form here (offset_of plan scene array) at (after here at wait.temporaries)))

  -- how many temporaries are in use behind an expression
  abbrev pub behind : Expression → (temporaries : ℕ) → ℕ
  behind x temporaries = after here (value x temporaries) temporaries

  abbrev pub no_values : ℕ → Held
  no_values temporaries = record { values = []; temporaries = temporaries }

  abbrev pub named_size : Source → ℕ
  named_size (Variable v) = 0
  named_size (Cells a) = 1
  named_size (Fixed low high) = 1

  -- ---- how many nodes are made

  unfoldable mutual
    pub size : Expression → (temporaries : ℕ) → ℕ
    size (Constant z) temporaries = 0
    size (Named scalar) temporaries = named_size (scalar_source plan scene scalar)
    size (Element array index site) temporaries =
        size index temporaries + place_size (offset_of plan scene array) (value index temporaries) + 1
    size (Operator op args site) temporaries =
        sizes args (no_values temporaries) + operate_size here (values_after args (no_values temporaries))
    size (Invoke function offset args) temporaries =
        sizes args (no_values temporaries) + call_size plan (scene.instance + offset)
    size (Plain mark x y site) temporaries =
        let a = value x temporaries in
        let left = left_waiting a y temporaries in
        size x temporaries + yield_size here (coming y) (a ∷ []) + size y left.temporaries + 1
    size (Negate x site) temporaries = size x temporaries + 1
    size (Plus x) temporaries = size x temporaries
    size (Cast width x) temporaries = size x temporaries + 1

    pub sizes : Arguments → Held → ℕ
    sizes Done held = 0
    sizes (Value x narrowing rest) held =
        let wait = waiting x held in
        yield_size here (coming x) held.values + size x wait.temporaries + narrow_size narrowing
        + sizes rest (with_value here wait (value x wait.temporaries))
    sizes (Whole array rest) held = sizes rest (with_value here held (offset_of plan scene array))
    sizes (From array index site rest) held =
        let wait = waiting index held in
        let at = value index wait.temporaries in
        let offset = offset_of plan scene array in
        yield_size here (coming index) held.values + size index wait.temporaries + place_size offset at
        + sizes rest (with_value here wait (place_form here offset at (after here at wait.temporaries)))

  -- ---- the nodes and edges, from a node on

  abbrev pub named_strokes : Source → (node temporaries : ℕ) → List Stroke
  named_strokes (Variable v) node temporaries = []
  named_strokes (Cells a) node temporaries =
      step plan scene node (reading (Cells a) (temporary here temporaries)) None (suc temporaries)
  named_strokes (Fixed low high) node temporaries =
      step plan scene node (reading (Fixed low high) (temporary here temporaries)) None (suc temporaries)

  -- the test of an index and the read of the element into a temporary
  abbrev pub element_strokes : Array → (site : ℕ) → (at : Kept) → (node temporaries : ℕ) → List Stroke
  element_strokes array site at node temporaries =
      let offset = offset_of plan scene array in
      let source = array_source plan scene array in
      place_strokes plan scene offset at (pos 0) (last_index plan scene array) site node (after here at temporaries)
      (after here at temporaries)
      ++ step plan scene (node + place_size offset at) (reading source (temporary here temporaries)) (reading_site source (Some site)) (suc temporaries)

  abbrev pub cast_doing : Width → Kept → (target : ℕ) → Doing
  cast_doing W16 kept target = plain.Cast (form_of kept) target
  cast_doing W32 kept target = AssignForm target (form_of kept)

  unfoldable mutual
    pub strokes : Expression → (node temporaries : ℕ) → List Stroke
    strokes (Constant z) node temporaries = []
    strokes (Named scalar) node temporaries = named_strokes (scalar_source plan scene scalar) node temporaries
    strokes (Element array index site) node temporaries =
        strokes index node temporaries
        ++ element_strokes array site (value index temporaries) (node + size index temporaries) temporaries
    strokes (Operator op args site) node temporaries =
        all_strokes args node (no_values temporaries)
        ++ operate_strokes plan scene op site (values_after args (no_values temporaries)) (node + sizes args (no_values temporaries)) (temporary here temporaries) (suc temporaries)
    strokes (Invoke function offset args) node temporaries =
        all_strokes args node (no_values temporaries)
        ++ call_strokes plan scene (function_of plan.code (scene.instance + offset)) (scene.instance + offset) (values_after args (no_values temporaries)).values (node + sizes args (no_values temporaries)) temporaries
    strokes (Plain mark x y site) node temporaries =
        let a = value x temporaries in
        let left = left_waiting a y temporaries in
        let second = node + size x temporaries in
        let third = second + yield_size here (coming y) (a ∷ []) in
        strokes x node temporaries
        ++ yield_strokes plan scene (coming y) (a ∷ []) second (after here a temporaries)
        ++ strokes y third left.temporaries
        ++ plain_strokes plan scene mark (only_value left) (value y left.temporaries) site (third + size y left.temporaries) temporaries
    strokes (Negate x site) node temporaries =
        let a = value x temporaries in
        strokes x node temporaries
        ++ step plan scene (node + size x temporaries) (tested (negative_of a) (a ∷ []) least32 greatest32 Negative) (Some site) (after here a temporaries)
    strokes (Plus x) node temporaries = strokes x node temporaries
    strokes (Cast width x) node temporaries =
        strokes x node temporaries
        ++ step plan scene (node + size x temporaries) (cast_doing width (value x temporaries) (temporary here temporaries)) None (suc temporaries)

    pub all_strokes : Arguments → (node : ℕ) → Held → List Stroke
    all_strokes Done node held = []
    all_strokes (Value x narrowing rest) node held =
        let wait = waiting x held in
        let kept = value x wait.temporaries in
        let second = node + yield_size here (coming x) held.values in
        let third = second + size x wait.temporaries in
        yield_strokes plan scene (coming x) held.values node held.temporaries
        ++ strokes x second wait.temporaries
        ++ narrow_strokes plan scene narrowing kept third (after here kept wait.temporaries)
        ++ all_strokes rest (third + narrow_size narrowing) (with_value here wait kept)
    all_strokes (Whole array rest) node held = all_strokes rest node (with_value here held (offset_of plan scene array))
    all_strokes (From array index site rest) node held =
        let wait = waiting index held in
        let at = value index wait.temporaries in
        let offset = offset_of plan scene array in
        let kept = place_form here offset at (after here at wait.temporaries) in
        let second = node + yield_size here (coming index) held.values in
        let third = second + size index wait.temporaries in
        yield_strokes plan scene (coming index) held.values node held.temporaries
        ++ strokes index second wait.temporaries
        ++ place_strokes plan scene offset at (pos 0) (pos (cells_in plan scene array)) site third (after here at wait.temporaries) (after here kept wait.temporaries)
        ++ all_strokes rest (third + place_size offset at) (with_value here wait kept)
