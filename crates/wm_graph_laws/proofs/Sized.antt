-- Each instance has the size that the plan of a program tells.
use Rattle.std.proofs.Common.{◌≡◌, ℕ, zero, suc, ◌+◌, ◌<◌, ◌≤◌, ⊎_elim, List, length, ap, sym, ◌∙◌, arith, length-set}
use Rattle.std.specs.Prelude.{slice_index_or, slice_set, replicate}
use Rattle.std.proofs.lemmas.List.{get_or-set_same, get_or-set_other, length-replicate}
use Rattle.std.proofs.lemmas.Bool.{cases_eq}
use Rattle.wm_program.specs.Code.{Code, routine_at}
use Rattle.wm_flow.specs.declared.graph.Sum.{Sum}
use Rattle.wm_flow.specs.declared.seats.Tables.{Tables}
use Rattle.wm_flow.specs.Places.{sum_rows}
use Rattle.wm_flow.specs.Seats.{tables_of}
use Rattle.wm_flow.specs.Calls.{scene_of, addressed_in}
use Rattle.wm_flow.specs.Parts.{at_exit, part_size, plan_with, sized, plan_for, plan_of}
use Rattle.wm_graph_laws.specs.Calling.{CallsLater, CallsStand}
use Rattle.wm_graph_laws.proofs.SameSizes.{tree_same}
use Rattle.wm_graph_laws.proofs.Lifted.{IsSized}

module _ (code : Code) (calls : (instance : ℕ) → instance < length code.instances → CallsLater code instance) (tables : Tables) (sums : List (List Sum)) where
  part_same : (xs ys : List ℕ) (instance : ℕ) → instance < length code.instances → ((it : ℕ) → instance < it → it < length code.instances → slice_index_or xs it 0 ≡ slice_index_or ys it 0) → part_size (plan_with code tables sums xs) instance ≡ part_size (plan_with code tables sums ys) instance
  unfolding part_size
  part_same xs ys instance there agree =
      let plan = plan_with code tables sums xs in
      let scene = scene_of plan instance in
      ap (λ k. addressed_in plan scene.function + k + 1)
      (tree_same code tables sums xs ys (λ it. (instance < it) × (it < length code.instances)) (λ it may. agree it may.0 may.1) (routine_at code scene.function).body scene (at_exit 0) (calls instance there))

  abbrev AreTold : List ℕ → ℕ → Type 0
  AreTold sizes from =
      (instance : ℕ) → from ≤ instance → instance < length code.instances → part_size (plan_with code tables sums sizes) instance ≡ slice_index_or sizes instance 0

  one_more : (left : ℕ) (sizes : List ℕ) → length sizes ≡ length code.instances → left < length code.instances → AreTold sizes (suc left) → AreTold (slice_set sizes left (part_size (plan_with code tables sums sizes) left)) left
  one_more left sizes counts there told instance from within =
      let size = part_size (plan_with code tables sums sizes) left in
      let new = slice_set sizes left size in
      let others : (it : ℕ) → left < it → slice_index_or new it 0 ≡ slice_index_or sizes it 0 = λ it behind. get_or-set_other sizes left it size 0 (λ e. omega arith) in
      let same : part_size (plan_with code tables sums new) instance ≡ part_size (plan_with code tables sums sizes) instance = part_same new sizes instance within (λ it behind _. others it (omega arith)) in
      ⊎_elim
      (λ (e : instance ≡ left). rw e (rw e at same ∙ sym (get_or-set_same sizes left size 0 (omega (arith, counts)))))
      (λ (ne : instance ≡ left → ⊥). same ∙ (told instance (omega (arith, ne)) within ∙ sym (others instance (omega (arith, ne)))))
      (cases_eq instance left)

  all_told : (left : ℕ) (sizes : List ℕ) → length sizes ≡ length code.instances → left ≤ length code.instances → AreTold sizes left → AreTold (sized code tables sums left sizes) 0
  all_told zero sizes counts there told = told
  all_told (suc left) sizes counts there told =
      let size = part_size (plan_with code tables sums sizes) left in
      all_told left (slice_set sizes left size) (length-set sizes left size ∙ counts) (omega arith) (one_more left sizes counts there told)

pub plan_sized : (code : Code) (sums : List Sum) → CallsStand code → IsSized (plan_of code sums)
unfolding plan_of plan_for
plan_sized code sums stand =
    let count = length code.instances in
    let rows = sum_rows (tables_of code).heads sums in
    record {
      sizes = λ instance there. all_told code stand.calls (tables_of code) rows count (replicate count 0) (length-replicate count 0) (omega arith) (λ it from within. absurd (omega arith)) instance (omega arith) there;
      calls = stand.calls;
    }
