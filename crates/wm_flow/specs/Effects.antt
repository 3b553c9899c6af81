-- The nodes and edges of assignments, updates, dropped values, counting calls and declarations. Each begins and ends at a
-- node without temporaries.
use Rattle.std.specs.Prelude.{ℕ, zero, suc, ◌+◌, Bool, true, false, not, ◌&&◌, if◌then◌else◌, ◌==◌, nat_lt, List, [], ◌∷◌, ◌++◌, length, ℤ, pos, Option, Some, None, slice_index_or}
use Rattle.std.specs.Option.{option_map_or}
use Rattle.wm_ops.specs.declared.operators.Op.{Op}
use Rattle.wm_ops.specs.declared.operators.Width.{Width}
use Rattle.wm_ops.specs.declared.words.Counted.TheVariants as counted
use Rattle.wm_program.specs.declared.tree.Array.{Array}
use Rattle.wm_program.specs.declared.tree.PlainMark.{PlainMark}
use Rattle.wm_program.specs.declared.tree.Scalar.TheVariants as scalar
use Rattle.wm_program.specs.Tree.{Expression, Arguments, Target, Effect, Fresh, Constant, Named, Element, Operator, Invoke, Plain, Negate, Plus, Cast, Variable, Item, Assign, Update, Evaluate, Count, Given, Filled, Blank, Listed}
use Rattle.wm_flow.specs.declared.kept.Kept.{Kept}
use Rattle.wm_flow.specs.Plain.{Range, Doing, AssignForm, SetArray, Write, Clear}
use Rattle.wm_flow.specs.Plain as plain
use Rattle.wm_flow.specs.Kept.{form_of, constant, variable}
use Rattle.wm_flow.specs.Layouts.{range, width_range}
use Rattle.wm_flow.specs.Seats.{low_of, high_of}
use Rattle.wm_flow.specs.declared.scene.Scene.{Scene}
use Rattle.wm_flow.specs.declared.scene.Bases.{Bases}
use Rattle.wm_flow.specs.declared.scene.Source.{Source}
use Rattle.wm_flow.specs.declared.scene.Source.TheVariants.{Cells, Fixed}
use Rattle.wm_flow.specs.Places.{Plan, bases_of, temporary, overflow_place, scalar_source, array_source, offset_of}
use Rattle.wm_flow.specs.declared.scene.Source.TheVariants as places
use Rattle.wm_flow.specs.Strokes.{Stroke, step, nothing}
use Rattle.wm_flow.specs.declared.scene.Held.{Held}
use Rattle.wm_flow.specs.declared.scene.Coming.{Coming}
use Rattle.wm_flow.specs.Yields.{coming, yielded, yield_size, yield_strokes, after}
use Rattle.wm_flow.specs.Expressions.{value, values_after, size, sizes, strokes, all_strokes, operate_size, operate_strokes, no_values, left_waiting, only_value, behind, reading, reading_site, place_size, place_strokes, last_index, cells_in, plain_value, plain_strokes, narrow_size, narrow_strokes}

-- ---- stores

-- what a value is stored by, in an array of so many cells
abbrev pub storing : Source → Kept → (cells : ℕ) → Doing
storing (places.Variable v) kept count = AssignForm v (form_of kept)
storing (Cells a) kept count = Write a (form_of kept) count
storing (Fixed low high) kept count = nothing

-- an operator whose value is assigned to a variable other than Overflow gives it to the variable itself
pub record Direct : Type 0 where
  pub op : Op
  pub arguments : Arguments
  pub site : ℕ
  pub target : ℕ

abbrev pub direct_of : Bool → Op → Arguments → ℕ → ℕ → Option Direct
direct_of true op args site v = None
direct_of false op args site v = Some (record { op = op; arguments = args; site = site; target = v })

abbrev pub direct_to : (overflow : ℕ) → Source → Op → Arguments → ℕ → Option Direct
direct_to overflow (places.Variable v) op args site = direct_of (v == overflow) op args site v
direct_to overflow (Cells a) op args site = None
direct_to overflow (Fixed low high) op args site = None

abbrev pub direct : (overflow : ℕ) → Source → Expression → Option ℕ → Option Direct
direct overflow source (Operator op args site) None = direct_to overflow source op args site
direct overflow source (Operator op args site) (Some narrowing) = None
direct overflow source (Constant z) narrowing = None
direct overflow source (Named scalar) narrowing = None
direct overflow source (Element array index site) narrowing = None
direct overflow source (Invoke function offset args) narrowing = None
direct overflow source (Plain mark x y site) narrowing = None
direct overflow source (Negate x site) narrowing = None
direct overflow source (Plus x) narrowing = None
direct overflow source (Cast width x) narrowing = None

module _ (plan : Plan) (scene : Scene) where
  abbrev pub here : Bases
  here = bases_of plan scene

  -- ---- a value, its conversion, and its store

  abbrev pub stored_size : Option Direct → Expression → Option ℕ → ℕ
  stored_size (Some it) x narrowing =
      sizes plan scene it.arguments (no_values plan scene 0)
      + operate_size here (values_after plan scene it.arguments (no_values plan scene 0))
  stored_size None x narrowing = size plan scene x 0 + narrow_size narrowing + 1

  abbrev pub stored_strokes : Option Direct → Source → (cells : ℕ) → Expression → Option ℕ → (node : ℕ) → List Stroke
  stored_strokes (Some it) source count x narrowing node =
      let none = no_values plan scene 0 in
      all_strokes plan scene it.arguments node none
      ++ operate_strokes plan scene it.op it.site (values_after plan scene it.arguments none)
      (node + sizes plan scene it.arguments none) it.target 0
  stored_strokes None source count x narrowing node =
      let kept = value plan scene x 0 in
      let second = node + size plan scene x 0 in
      strokes plan scene x node 0
      ++ narrow_strokes plan scene narrowing kept second (behind plan scene x 0)
      ++ step plan scene (second + narrow_size narrowing) (storing source kept count) None 0

  unfoldable pub store_size : Source → Expression → Option ℕ → ℕ
  store_size source x narrowing = stored_size (direct (overflow_place here) source x narrowing) x narrowing

  unfoldable pub store_strokes : Source → (cells : ℕ) → Expression → Option ℕ → (node : ℕ) → List Stroke
  store_strokes source count x narrowing node =
      stored_strokes (direct (overflow_place here) source x narrowing) source count x narrowing node

  -- ---- the index of an element that is written: it is used up by its test

  abbrev pub found_size : Array → Expression → ℕ
  found_size array index = size plan scene index 0 + place_size (offset_of plan scene array) (value plan scene index 0)

  unfoldable pub found_strokes : Array → Expression → (site node : ℕ) → List Stroke
  found_strokes array index site node =
      let at = value plan scene index 0 in
      strokes plan scene index node 0
      ++ place_strokes plan scene (offset_of plan scene array) at (pos 0) (last_index plan scene array) site
      (node + size plan scene index 0) (after here at 0) 0

  -- ---- updates: the number of the spot, which waits while the other operand is evaluated, the operator, the conversion
  -- and the store

  -- the number of the spot as it is read
  abbrev pub current : Source → Kept
  current (places.Variable v) = variable v
  current (Cells a) = variable (temporary here 0)
  current (Fixed low high) = variable (temporary here 0)

  abbrev pub current_size : Source → ℕ
  current_size (places.Variable v) = 0
  current_size (Cells a) = 1
  current_size (Fixed low high) = 1

  abbrev pub current_strokes : Source → Option ℕ → (node : ℕ) → List Stroke
  current_strokes (places.Variable v) site node = []
  current_strokes (Cells a) site node =
      step plan scene node (reading (Cells a) (temporary here 0)) (reading_site (Cells a) site) 1
  current_strokes (Fixed low high) site node =
      step plan scene node (reading (Fixed low high) (temporary here 0)) (reading_site (Fixed low high) site) 1

  unfoldable pub update_size : Source → Expression → Option ℕ → ℕ
  update_size source x narrowing =
      let left = left_waiting plan scene (current source) x 0 in
      current_size source + yield_size here (coming x) (current source ∷ []) + size plan scene x left.temporaries
      + 1 + narrow_size narrowing + 1

  unfoldable pub update_strokes : Source → (cells : ℕ) → Option ℕ → PlainMark → Expression → (arithmetic : ℕ) → Option ℕ → (node : ℕ) → List Stroke
  update_strokes source count site mark x arithmetic narrowing node =
      let left = left_waiting plan scene (current source) x 0 in
      let a = only_value plan scene left in
      let b = value plan scene x left.temporaries in
      let kept = plain_value here mark a b 0 in
      let second = node + current_size source in
      let third = second + yield_size here (coming x) (current source ∷ []) in
      let fourth = third + size plan scene x left.temporaries in
      current_strokes source site node
      ++ yield_strokes plan scene (coming x) (current source ∷ []) second (after here (current source) 0)
      ++ strokes plan scene x third left.temporaries
      ++ plain_strokes plan scene mark a b arithmetic fourth 0
      ++ narrow_strokes plan scene narrowing kept (suc fourth) (after here kept 0)
      ++ step plan scene (suc fourth + narrow_size narrowing) (storing source kept count) None 0

  -- ---- effects

  -- a value that is dropped: where it stands in a temporary, one more edge drops that
  abbrev pub dropped_size : Kept → ℕ
  dropped_size kept = if after here kept 0 == 0 then 0 else 1

  abbrev pub dropped_strokes : Kept → (node : ℕ) → List Stroke
  dropped_strokes kept node = if after here kept 0 == 0 then [] else step plan scene node nothing None 0

  unfoldable pub effect_size : Effect → ℕ
  effect_size (Assign (Variable scalar) x narrowing) = store_size (scalar_source plan scene scalar) x narrowing
  effect_size (Assign (Item array index site) x narrowing) =
      found_size array index + store_size (array_source plan scene array) x narrowing
  effect_size (Update (Variable scalar) mark x arithmetic narrowing) =
      update_size (scalar_source plan scene scalar) x narrowing
  effect_size (Update (Item array index site) mark x arithmetic narrowing) =
      found_size array index + update_size (array_source plan scene array) x narrowing
  effect_size (Evaluate x) = size plan scene x 0 + dropped_size (value plan scene x 0)
  effect_size (Count call) = 1

  unfoldable pub effect_strokes : Effect → (node : ℕ) → List Stroke
  effect_strokes (Assign (Variable scalar) x narrowing) node =
      store_strokes (scalar_source plan scene scalar) 1 x narrowing node
  effect_strokes (Assign (Item array index site) x narrowing) node =
      found_strokes array index site node
      ++ store_strokes (array_source plan scene array) (cells_in plan scene array) x narrowing (node + found_size array index)
  effect_strokes (Update (Variable scalar) mark x arithmetic narrowing) node =
      update_strokes (scalar_source plan scene scalar) 1 None mark x arithmetic narrowing node
  effect_strokes (Update (Item array index site) mark x arithmetic narrowing) node =
      found_strokes array index site node
      ++ update_strokes (array_source plan scene array) (cells_in plan scene array) (Some site) mark x arithmetic narrowing (node + found_size array index)
  effect_strokes (Evaluate x) node =
      strokes plan scene x node 0 ++ dropped_strokes (value plan scene x 0) (node + size plan scene x 0)
  effect_strokes (Count call) node = step plan scene node (plain.Count (counted.Call call)) None 0

  unfoldable pub effects_size : List Effect → ℕ
  effects_size [] = 0
  effects_size (effect ∷ rest) = effect_size effect + effects_size rest

  unfoldable pub effects_strokes : List Effect → (node : ℕ) → List Stroke
  effects_strokes [] node = []
  effects_strokes (effect ∷ rest) node = effect_strokes effect node ++ effects_strokes rest (node + effect_size effect)

  -- ---- declarations

  abbrev pub own_source : ℕ → Source
  own_source local = scalar_source plan scene (scalar.Local local)

  -- a scalar that takes any number of its width
  abbrev pub filling : Source → Width → Doing
  filling (places.Variable v) width = Clear (v ∷ [])
  filling (Cells a) width = SetArray a (Some (width_range width))
  filling (Fixed low high) width = nothing

  abbrev pub setting : Source → Option Range → Doing
  setting (places.Variable v) summary = nothing
  setting (Cells a) summary = SetArray a summary
  setting (Fixed low high) summary = nothing

  unfoldable pub fresh_size : Fresh → ℕ
  fresh_size (Given local x narrowing) = store_size (own_source local) x narrowing
  fresh_size (Filled local width) = 1
  fresh_size (Blank local count) = 1
  fresh_size (Listed local count values) = 1

  unfoldable pub fresh_strokes : Fresh → (node : ℕ) → List Stroke
  fresh_strokes (Given local x narrowing) node = store_strokes (own_source local) 1 x narrowing node
  fresh_strokes (Filled local width) node = step plan scene node (filling (own_source local) width) None 0
  fresh_strokes (Blank local count) node = step plan scene node (setting (own_source local) None) None 0
  fresh_strokes (Listed local count values) node =
      step plan scene node (setting (own_source local) (Some (range (low_of count values) (high_of count values)))) None 0

  unfoldable pub declared_size : List Fresh → ℕ
  declared_size [] = 0
  declared_size (fresh ∷ rest) = fresh_size fresh + declared_size rest

  unfoldable pub declared_strokes : List Fresh → (node : ℕ) → List Stroke
  declared_strokes [] node = []
  declared_strokes (fresh ∷ rest) node = fresh_strokes fresh node ++ declared_strokes rest (node + fresh_size fresh)
