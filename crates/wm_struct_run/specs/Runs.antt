-- What a unit with structs does: calls of its functions, and runs over lists of frames.
use Rattle.std.specs.Prelude.{ℕ, zero, suc, ◌+◌, Bool, true, false, ◌&&◌, if◌then◌else◌, ◌==◌, List, [], ◌∷◌, ◌++◌, map, length, replicate, take, drop, ℤ, pos, Option, Some, None}
use Rattle.std.specs.Ordering.{int_eq}
use Rattle.wm_ops.specs.declared.operators.Width.{Width}
use Rattle.wm_ops.specs.declared.words.Counted.{Counted}
use Rattle.wm_lang.specs.declared.expression.BaseType.{BaseType}
use Rattle.wm_lang.specs.declared.expression.Identifier.{Identifier}
use Rattle.wm_lang.specs.declared.statement.Block.{Block}
use Rattle.wm_lang.specs.declared.statement.Declaration.{Declaration}
use Rattle.wm_lang.specs.declared.statement.Declarator.{Declarator}
use Rattle.wm_lang.specs.declared.statement.Statement.{Statement}
use Rattle.wm_lang.specs.declared.unit.Function.{Function}
use Rattle.wm_lang.specs.declared.unit.Item.{Item}
use Rattle.wm_lang.specs.declared.unit.Item.TheVariants as item
use Rattle.wm_lang.specs.declared.unit.StructObjects.{StructObjects}
use Rattle.wm_source.specs.Constants.{width_of}
use Rattle.wm_source.specs.Pieces.{written_items}
use Rattle.wm_source.specs.Steps.{same_bytes}
use Rattle.wm_program.specs.declared.program.SiteInfo.{SiteInfo}
use Rattle.wm_program.specs.declared.program.SiteKind.{SiteKind}
use Rattle.wm_program.specs.declared.program.SiteKind.TheVariants as kind
use Rattle.wm_program.specs.declared.results.End.{End}
use Rattle.wm_program.specs.declared.results.End.TheVariants.{Ended, StepLimit}
use Rattle.wm_program.specs.declared.results.FrameResult.{FrameResult}
use Rattle.wm_program.specs.Runs.{Frame, count_of, grouped}
use Rattle.wm_program.specs.Settings.{Settings, Range}
use Rattle.wm_program.specs.State.{Cells}
use Rattle.wm_struct_run.specs.Memory.{State, Key, Variable, Member, cells_of, with_cells}
use Rattle.wm_struct_run.specs.Flow.{Got, Gives, Halts, Ran, Next, Returned, with_step, then_get, then_run, back}
use Rattle.wm_struct_run.specs.Names.{Field, Thing, Scalar, Array, Structure, Routine, Names, Structs, thing_of, stands, structs_in, names_in, fields_of, name_of}
use Rattle.wm_struct_run.specs.Expressions.{Bound}
use Rattle.wm_struct_run.specs.Statements.{exec_all, own_key, static_cells}

-- ---- sites

abbrev pub same_kind : SiteKind → SiteKind → Bool
same_kind (kind.Operator op) (kind.Operator other) = true
same_kind kind.Index kind.Index = true
same_kind kind.View kind.View = true
same_kind kind.Arithmetic kind.Arithmetic = true
same_kind kind.Narrowing kind.Narrowing = true
same_kind one other = false

-- the number of the site of a token and kind: at one token no two sites have one kind
abbrev pub site_from : ℕ → List SiteInfo → ℕ → SiteKind → ℕ
site_from number [] token wanted = number
site_from number (site ∷ rest) token wanted =
    if site.token == token && same_kind site.kind wanted then number else site_from (suc number) rest token wanted

-- ---- the first state

abbrev pub objects_begun : Declaration → List Declarator → State → State
objects_begun declaration [] s = s
objects_begun declaration (it ∷ rest) s =
    objects_begun declaration rest
    (if stands declaration it then with_cells (own_key it) (static_cells (width_of declaration.base) it) s else s)

abbrev pub count_of_cells : Option ℕ → ℕ
count_of_cells None = 1
count_of_cells (Some count) = count

abbrev pub members_begun : List Field → ℕ → State → State
members_begun [] token s = s
members_begun (field ∷ rest) token s =
    members_begun rest token (with_cells (Member token field.name) (replicate (count_of_cells field.length) (Some (pos 0))) s)

abbrev pub structures_begun : List Field → List Identifier → State → State
structures_begun fields [] s = s
structures_begun fields (name ∷ rest) s = structures_begun fields rest (members_begun fields name.at.token s)

abbrev pub unless_extern : StructObjects → List Field → State → State
unless_extern objects fields s = if objects.words.is_extern then s else structures_begun fields objects.objects s

-- the objects of file scope have their first values, members 0
abbrev pub begun : Structs → List Item → State → State
begun structs [] s = s
begun structs (item.Objects declaration ∷ rest) s = begun structs rest (objects_begun declaration declaration.declarators s)
begun structs (item.Function function ∷ rest) s = begun structs rest s
begun structs (item.Struct structure ∷ rest) s = begun structs rest s
begun structs (item.StructObjects objects ∷ rest) s =
    begun structs rest (unless_extern objects (fields_of objects.structure.name structs) s)

abbrev pub first_state : List Item → List ℤ → State
first_state items fill =
    begun (structs_in items) items
    (record { variables = []; structures = []; overflow = pos 0; fill = fill; steps = 0; log = [] })

-- ---- inputs

abbrev pub has_range : List ℕ → List Range → Bool
has_range name [] = false
has_range name (range ∷ rest) = if same_bytes range.name name then true else has_range name rest

abbrev pub in_range : List Range → List Declarator → List (List ℕ)
in_range ranges [] = []
in_range ranges (it ∷ rest) =
    if has_range (name_of it).name ranges then (name_of it).name ∷ in_range ranges rest else in_range ranges rest

abbrev pub declared_inputs : List Range → List Item → List (List ℕ)
declared_inputs ranges [] = []
declared_inputs ranges (item.Objects declaration ∷ rest) = in_range ranges declaration.declarators ++ declared_inputs ranges rest
declared_inputs ranges (item.Function function ∷ rest) = declared_inputs ranges rest
declared_inputs ranges (item.Struct structure ∷ rest) = declared_inputs ranges rest
declared_inputs ranges (item.StructObjects objects ∷ rest) = declared_inputs ranges rest

-- the inputs in the order of `pack`, or of declaration
abbrev pub inputs_by : Option (List (List ℕ)) → List Range → List Item → List (List ℕ)
inputs_by None ranges items = declared_inputs ranges items
inputs_by (Some pack) ranges items = pack

abbrev pub input_key : Option Thing → Key
input_key None = Variable 0
input_key (Some (Scalar width key)) = key
input_key (Some (Array width key offset)) = key
input_key (Some (Structure token fields)) = Variable token
input_key (Some (Routine function)) = Variable 0

-- each input takes as many numbers as it has cells
abbrev pub with_inputs : Names → List (List ℕ) → List ℤ → State → State
with_inputs names [] values s = s
with_inputs names (input ∷ rest) values s =
    let key = input_key (thing_of input names) in
    with_inputs names rest (drop (length (cells_of key s)) values) (with_cells key (map Some (take (length (cells_of key s)) values)) s)

-- ---- results

abbrev pub result_at : (Counted → Option ℕ) → End → State → FrameResult
result_at weights end s = record { count = count_of weights s.log; overflow = s.overflow; events = grouped [] s.log; end = end }

abbrev pub result_of : (Counted → Option ℕ) → Got ℤ → FrameResult
result_of weights (Gives z s) = result_at weights Ended s
result_of weights (Halts end s) = result_at weights end s

abbrev pub with_numbers : List (ℕ × ℤ) → State → State
with_numbers [] s = s
with_numbers (number ∷ rest) s = with_numbers rest (with_cells (Variable number.0) (Some number.1 ∷ []) s)

abbrev pub base_width : Option BaseType → Option Width
base_width None = None
base_width (Some base) = Some (width_of base)

-- A unit, the sites of its program, and what a specification says.
module _ (items : List Item) (sites : List SiteInfo) (settings : Settings) (weights : Counted → Option ℕ) where
  abbrev pub file_names : Names
  file_names = names_in (structs_in items) items

  -- ---- calls

  abbrev pub run_block : Option Width → Option (Block Statement) → (Function → Bound → State → Got ℤ) → Names → State → Got ℤ
  run_block result None calls names s = Gives (pos 0) s
  run_block result (Some block) calls names s =
      back (with_step s (exec_all (site_from 0 sites) calls result (written_items block.items) names))

  -- each call inside a call is one level less: no function reaches itself
  unfoldable pub call_at : (levels : ℕ) → Function → Bound → State → Got ℤ
  call_at zero function bound s = Halts StepLimit s
  call_at (suc levels) function bound s =
      run_block (base_width function.result) function.body (call_at levels) (bound.names ++ file_names) (with_numbers bound.numbers s)

  abbrev pub call_thing : Option Thing → State → Got ℤ
  call_thing None s = Gives (pos 0) s
  call_thing (Some (Scalar width key)) s = Gives (pos 0) s
  call_thing (Some (Array width key offset)) s = Gives (pos 0) s
  call_thing (Some (Structure token fields)) s = Gives (pos 0) s
  call_thing (Some (Routine function)) s = call_at (length items) function (record { names = []; numbers = [] }) s

  abbrev pub call_named : List ℕ → State → Got ℤ
  call_named name s = call_thing (thing_of name file_names) s

  -- ---- frames

  -- a call as a statement, which is an elementary step
  abbrev pub stated : List ℕ → State → Ran
  stated name s = with_step s (λ s. then_run (call_named name s) (λ z. Next))

  -- `if (call == k) f(); else ..`: each if is an elementary step
  abbrev pub chosen : ℤ → ℕ → List (List ℕ) → State → Ran
  chosen number k [] s = Next s
  chosen number k (name ∷ []) s = stated name s
  chosen number k (name ∷ next ∷ rest) s =
      with_step s (λ s. if int_eq number (pos k) then stated name s else chosen number (suc k) (next ∷ rest) s)

  abbrev pub first_number : List ℤ → ℤ
  first_number [] = pos 0
  first_number (z ∷ rest) = z

  abbrev pub inputs : List (List ℕ)
  inputs = inputs_by settings.pack settings.ranges items

  -- one frame function is called; of several the first number of the frame chooses
  abbrev pub frame_by : List (List ℕ) → List ℤ → State → Got ℤ
  frame_by [] values s = Gives (pos 0) s
  frame_by (name ∷ []) values s = call_named name (with_inputs file_names inputs values s)
  frame_by (name ∷ next ∷ rest) values s =
      back (with_step (with_inputs file_names inputs (drop 1 values) s) (chosen (first_number values) 1 (name ∷ next ∷ rest)))

  abbrev pub fresh : ℕ → State → State
  fresh steps s = record s { steps = steps; log = [] }

  abbrev pub run_frame : Frame → State → Got ℤ
  run_frame frame s = frame_by settings.frames frame.values (fresh frame.steps s)

  abbrev pub run_init : Option (List ℕ) → State → Got ℤ
  run_init None s = Gives (pos 0) s
  run_init (Some name) s = call_named name s

  abbrev pub started : List ℤ → ℕ → Got ℤ
  started fill steps = run_init settings.init (fresh steps (first_state items fill))

  -- a run that has halted stays where it is
  abbrev pub idle : Got ℤ → Got ℤ
  idle (Gives z s) = Gives z s
  idle (Halts end s) = Halts end (fresh s.steps s)

  abbrev pub then_frame : Got ℤ → Frame → Got ℤ
  then_frame before frame = then_get (idle before) (λ z. run_frame frame)

  unfoldable pub results_from : Got ℤ → List Frame → List FrameResult
  results_from before [] = []
  results_from before (frame ∷ frames) =
      let ran = then_frame before frame in
      result_of weights ran ∷ results_from ran frames

  -- the results of the static values with init, and of each frame
  unfoldable pub run_of : List ℤ → ℕ → List Frame → List FrameResult
  run_of fill steps frames = result_of weights (started fill steps) ∷ results_from (started fill steps) frames
