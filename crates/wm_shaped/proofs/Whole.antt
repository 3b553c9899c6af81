-- The points of a well-formed program fit their contexts, so its nodes have the shapes of their points.
use Rattle.std.proofs.Common.{◌≡◌, ℕ, zero, suc, ◌+◌, ◌-◌, ◌<◌, List, [], length, Option, Some, None, refl, ◌∙◌, ap, arith}
use Rattle.std.specs.Prelude.{slice_get, slice_index_or}
use Rattle.std.proofs.lemmas.Option.{slice_get_past, slice_get-get_or}
use Rattle.wm_program.specs.declared.program.InstanceInfo.{InstanceInfo}
use Rattle.wm_program.specs.Code.{Code, routine_at, function_of, no_routine}
use Rattle.wm_program.specs.WellFormed.{WellFormedCode}
use Rattle.wm_flow.specs.declared.graph.Sum.{Sum}
use Rattle.wm_flow.specs.Seats.{tables_of}
use Rattle.wm_flow.specs.Places.{Plan, head_of}
use Rattle.wm_flow.specs.Strokes.{point}
use Rattle.wm_flow.specs.Calls.{scene_of}
use Rattle.wm_flow.specs.Parts.{part_strokes, plan_for, plan_of}
use Rattle.wm_flow.specs.Graphs.{before_frames, frame_strokes, whole_strokes, graph_of}
use Rattle.wm_graph_laws.specs.Calling.{IsThere}
use Rattle.wm_graph_laws.proofs.Formed.{calls_stand}
use Rattle.wm_heads.specs.Bodies.{loops_of, numbers_from, LoopsStand}
use Rattle.wm_heads.proofs.Runs.{Run}
use Rattle.wm_heads.proofs.Standing.{counts, run_at, counted, head_is, heads_count}
use Rattle.wm_shaped.specs.Spots.{all_spots, IsShaped}
use Rattle.wm_shaped.specs.Fitting.{AreFitting}
use Rattle.wm_shaped.specs.Nested.{Nested, depths_of}
use Rattle.wm_shaped.specs.Owners.{owners_of, owner_at, counters_at}
use Rattle.wm_shaped.specs.Laws.{FormedAreShaped}
use Rattle.wm_shaped.proofs.Pieces.{Seated, join2}
use Rattle.wm_shaped.proofs.Trees.{IsSeat, part_fits}
use Rattle.wm_shaped.proofs.Owning.{depths_length, nested_of, span_to, head_from, AreCounted, owned_length, owned_at}
use Rattle.wm_shaped.proofs.Drawing.{whole_shaped}

numbers_length : (first count : ℕ) → length (numbers_from first count) ≡ count
numbers_length first zero = refl
numbers_length first (suc count) = ap suc (numbers_length (suc first) count)

pub record Numbered (first count k l : ℕ) : Type 0 where
  pub is : l ≡ first + k
  pub within : k < count

number_at : (first count k l : ℕ) → slice_get (numbers_from first count) k ≡ Some l → Numbered first count k l
number_at first zero k l e = cc
number_at first (suc count) zero l e = record { is = omega (arith, same first l e); within = omega arith }
  where
    same : (a b : ℕ) → Some a ≡ Some b → a ≡ b
    same a b e = cc
number_at first (suc count) (suc k) l e =
    let more = number_at (suc first) count k l e in record { is = omega (arith, more.is); within = omega (arith, more.within) }

-- what the table tells
owner_is : (plan : Plan) (context instance depth : ℕ) → slice_get (owners_of plan.code) context ≡ Some (record { instance = Some instance; depth = depth }) → (Some instance ≡ owner_at plan context) × (depth + length (slice_index_or plan.sums context []) ≡ counters_at plan context)
owner_is plan context instance depth e = (rw e refl, rw e refl)

owner_past : (plan : Plan) (instance : ℕ) → slice_get (owners_of plan.code) (plan.tables.heads + instance) ≡ None → (Some instance ≡ owner_at plan (plan.tables.heads + instance)) × (0 ≡ counters_at plan (plan.tables.heads + instance))
owner_past plan instance e = (rw e (ap (λ k. Some k) (back plan.tables.heads instance)), rw e refl)
  where
    back : (a b : ℕ) → b ≡ a + b - a
    back a b = omega arith

module _ (code : Code) (formed : WellFormedCode code) (stand : LoopsStand code) where
  abbrev heads_in : List ℕ
  heads_in = counts code formed stand

  abbrev body_of : InstanceInfo → Rattle.wm_program.specs.Tree.Tree
  body_of info = (routine_at code info.function).body

  run_of : (instance : ℕ) (info : InstanceInfo) → slice_get code.instances instance ≡ Some info → Run code.loops info.function (loops_of (body_of info)) 0 (length code.loops)
  run_of instance info e =
      run_at code formed stand info.function (routine_at code info.function) (slice_get-get_or code.routines info.function no_routine (formed.instances instance info e).function)

  are_counted : AreCounted code heads_in code.instances
  are_counted instance info e =
      let run = run_of instance info e in
      let size = counted code formed stand info.function (routine_at code info.function) (slice_get-get_or code.routines info.function no_routine (formed.instances instance info e).function) run in
      omega (arith, size, depths_length (body_of info) 0, ap (λ (ns : List ℕ). length ns) run.is, numbers_length run.first run.size)

  owners_length : length (owners_of code) ≡ (tables_of code).heads
  owners_length = omega (arith, heads_count code formed stand, owned_length code heads_in 0 code.instances are_counted)

  -- a loop of an instance
  head_at : (instance : ℕ) (info : InstanceInfo) → slice_get code.instances instance ≡ Some info → (k l : ℕ) → slice_get (loops_of (body_of info)) k ≡ Some l → head_of (tables_of code) instance l ≡ suc (span_to heads_in code.instances instance + k)
  head_at instance info e k l f =
      let run = run_of instance info e in
      let it = number_at run.first run.size k l (rw run.is at f) in
      head_for (tables_of code) instance l (run.first + k) it.is
      ∙ (head_is code formed stand instance info.function (loops_of (body_of info)) run k it.within
      ∙ omega (arith, head_from heads_in 1 code.instances instance info e))
    where
      head_for : (tables : Rattle.wm_flow.specs.declared.seats.Tables.Tables) (instance a b : ℕ) → a ≡ b → head_of tables instance a ≡ head_of tables instance b
      head_for tables instance a b e = rw e refl

  owned_loop : (instance : ℕ) (info : InstanceInfo) → slice_get code.instances instance ≡ Some info → (k d l : ℕ) → slice_get (depths_of 0 (body_of info)) k ≡ Some d → slice_get (loops_of (body_of info)) k ≡ Some l → slice_get (owners_of code) (head_of (tables_of code) instance l) ≡ Some (record { instance = Some instance; depth = d })
  owned_loop instance info e k d l f g =
      rw (head_at instance info e k l g) (owned_at code heads_in 0 code.instances are_counted instance instance info e (omega arith) k d _ refl f)

  module _ (sums : List Sum) where
    abbrev There : ℕ → Type 0
    There instance = instance < length code.instances

    abbrev Calls : ℕ → ℕ → Type 0
    Calls caller instance = (caller < instance) × (instance < length code.instances)

    abbrev plan : Plan
    plan = plan_of code sums

    outer_seat : (May : ℕ → Type 0) (instance : ℕ) → Seated (owner_at plan) (counters_at plan) May plan (scene_of plan instance)
    unfolding plan_of plan_for
    outer_seat May instance =
        let past = owner_past plan instance (slice_get_past (owners_of code) ((tables_of code).heads + instance) (omega (arith, owners_length))) in
        record { owned = past.0; sized = omega (arith, past.1) }

    loop_seat : (May : ℕ → Type 0) (instance : ℕ) (info : InstanceInfo) → slice_get code.instances instance ≡ Some info → (k d l : ℕ) → slice_get (depths_of 0 (body_of info)) k ≡ Some d → slice_get (loops_of (body_of info)) k ≡ Some l → IsSeat (owner_at plan) (counters_at plan) May plan instance info.function d l
    unfolding plan_of plan_for
    loop_seat May instance info e k d l f g =
        let is = owner_is plan (head_of (tables_of code) instance l) instance d (owned_loop instance info e k d l f g) in
        record { owned = is.0; sized = is.1 }

    parts_fit : (instance start : ℕ) → There instance → AreFitting (owner_at plan) (counters_at plan) (Calls instance) (part_strokes plan instance start)
    unfolding plan_of plan_for
    parts_fit instance start there =
        let e = slice_get-get_or code.instances instance no_info there in
        let info = slice_index_or code.instances instance no_info in
        part_fits (owner_at plan) (counters_at plan) (Calls instance) plan instance start (outer_seat (Calls instance) instance) ((calls_stand code formed).calls instance there)
        (nested_at instance info e)
      where
        no_info : InstanceInfo
        no_info = record { function = 0; caller = None; call = None; roots = [] }

        nested_at : (instance : ℕ) (info : InstanceInfo) → slice_get code.instances instance ≡ Some info → Nested (IsSeat (owner_at plan) (counters_at plan) (Calls instance) plan instance (function_of code instance)) 0 (routine_at code (function_of code instance)).body
        nested_at instance info e =
            let named : function_of code instance ≡ info.function = rw e refl in
            rw named (nested_of (IsSeat (owner_at plan) (counters_at plan) (Calls instance) plan instance info.function) (body_of info) 0 (loop_seat (Calls instance) instance info e))

    before_fit : (init : Option ℕ) → IsThere code init → AreFitting (owner_at plan) (counters_at plan) There (before_frames plan init)
    unfolding plan_of plan_for AreFitting
    before_fit None there = (refl, refl, tt)
    before_fit (Some init) there = (there, tt)

    frames_fit : AreFitting (owner_at plan) (counters_at plan) There (frame_strokes plan)
    unfolding plan_of plan_for frame_strokes point AreFitting
    frames_fit =
        let seat = outer_seat There code.frame in
        (refl, refl, (seat.owned, seat.sized, ((calls_stand code formed).frame, tt)))

    whole_fits : AreFitting (owner_at plan) (counters_at plan) There (whole_strokes plan)
    unfolding plan_of plan_for whole_strokes
    whole_fits =
        join2 (owner_at plan) (counters_at plan) There (before_frames plan code.init) (frame_strokes plan) (before_fit code.init (calls_stand code formed).init) frames_fit

    is_shaped : IsShaped code (all_spots plan) (graph_of code sums)
    unfolding graph_of plan_of plan_for
    is_shaped =
        let shaped = whole_shaped plan (owner_at plan) (counters_at plan) There Calls (λ caller instance c. c.1) parts_fit whole_fits in
        record { instances = shaped.instances; shapes = shaped.shapes }

pub formed_are_shaped : FormedAreShaped
formed_are_shaped code sums formed stand = is_shaped code formed stand sums
