-- What is left of a run while its frames are gone through.
use Rattle.std.proofs.Common.{◌≡◌, ℕ, ◌+◌, ◌<◌, ◌≤◌, Bool, true, false, List, [], ◌∷◌, ◌++◌, length, get_or, drop, ℤ, Option, refl, sym, ap, subst, ◌∙◌, append_assoc}
use Rattle.std.specs.Prelude.{if◌then◌else◌}
use Rattle.std.proofs.lemmas.List.{at_drop_all, drop_more}
use Rattle.wm_ops.specs.declared.words.Counted.{Counted}
use Rattle.wm_program.specs.declared.inputs.Inputs.{Inputs}
use Rattle.wm_program.specs.declared.results.FrameResult.{FrameResult}
use Rattle.wm_program.specs.Code.{Code}
use Rattle.wm_program.specs.Outcomes.{Got}
use Rattle.wm_program.specs.Runs.{Frame, result_of, results_from, run_of, started, then_frame}
use Rattle.wm_interp.specs.Frames.{Stand}
use Rattle.wm_interp.specs.Projected.{Stands}
use Rattle.wm_interp.specs.Standing.{frame_with}
use Rattle.wm_replay.specs.Replay.{is_ended, up_to_halt, frames_of, numbers_of, frames_given}

-- The machine stands somewhere in a run, and the results of what is left stand behind those that were found.
pub record Left (code : Code) (w : Counted → Option ℕ) (whole found : List FrameResult) (stand : Option Stand) (frames : List Frame) : Type 0 where
  pub ran : Got ℤ
  pub stands : Stands w ran stand
  pub left : found ++ up_to_halt (results_from code w ran frames) ≡ whole

pub frames_same : (steps : ℕ) (frames : List Inputs) → frames_given steps frames ≡ frames_of steps (numbers_of frames)
frames_same steps [] = refl
frames_same steps (inputs ∷ rest) = ap (λ fs. frame_with inputs steps ∷ fs) (frames_same steps rest)

pub begins : (code : Code) (w : Counted → Option ℕ) (ran : Got ℤ) (stand : Option Stand) (frames : List Frame) → Stands w ran stand → Left code w (up_to_halt (results_from code w ran frames)) [] stand frames
begins code w ran stand frames h = record { ran = ran; stands = h; left = refl }

-- the results from a frame on are its own and those behind it
unrolled : (code : Code) (w : Counted → Option ℕ) (ran : Got ℤ) (frame : Frame) (frames : List Frame) → results_from code w ran (frame ∷ frames) ≡ result_of w (then_frame code ran frame) ∷ results_from code w (then_frame code ran frame) frames
unfolding results_from
unrolled code w ran frame frames = refl

through : (found : FrameResult) (rest : List FrameResult) (ended : Bool) → is_ended found.end ≡ ended → up_to_halt (found ∷ rest) ≡ found ∷ (if ended then up_to_halt rest else [])
through found rest ended h = ap (λ e. found ∷ (if e then up_to_halt rest else [])) h

-- what one frame leaves
module _ (code : Code) (w : Counted → Option ℕ) (whole found : List FrameResult) (stand : Option Stand) (steps : ℕ) (frames : List Inputs) (i : ℕ) (inputs : Inputs) (shown : FrameResult) (within : i < length frames) (is : inputs ≡ get_or frames i inputs) (h : Left code w whole found stand (frames_given steps (drop i frames))) (result : (ran : Got ℤ) → Stands w ran stand → shown ≡ result_of w (then_frame code ran (frame_with inputs steps))) where
  next : Got ℤ
  next = then_frame code h.ran (frame_with inputs steps)

  here : (ended : Bool) → is_ended shown.end ≡ ended → found ++ (shown ∷ (if ended then up_to_halt (results_from code w (then_frame code h.ran (frame_with inputs steps)) (frames_given steps (drop (i + 1) frames))) else [])) ≡ whole
  here ended e =
      let this : shown ≡ result_of w (then_frame code h.ran (frame_with inputs steps)) = result h.ran h.stands in
      let rest : List Frame = frames_given steps (drop (i + 1) frames) in
      let on : List FrameResult = results_from code w (then_frame code h.ran (frame_with inputs steps)) rest in
      let split : drop i frames ≡ inputs ∷ drop (i + 1) frames = drop_more frames i inputs within ∙ ap (λ x. x ∷ drop (i + 1) frames) (sym is) in
      let first : results_from code w h.ran (frames_given steps (drop i frames)) ≡ shown ∷ on =
      ap (λ xs. results_from code w h.ran (frames_given steps xs)) split
      ∙ unrolled code w h.ran (frame_with inputs steps) rest ∙ ap (λ r. r ∷ on) (sym this) in
      sym (ap (λ rs. found ++ rs) (ap up_to_halt first ∙ through shown on ended e)) ∙ h.left

  pub halts : is_ended shown.end ≡ false → found ++ shown ∷ [] ≡ whole
  halts e = here false e

  pub goes_next : (stand' : Option Stand) → is_ended shown.end ≡ true → ((ran : Got ℤ) → Stands w ran stand → Stands w (then_frame code ran (frame_with inputs steps)) stand') → Left code w whole (found ++ shown ∷ []) stand' (frames_given steps (drop (i + 1) frames))
  goes_next stand' e stands =
      record {
        ran = then_frame code h.ran (frame_with inputs steps);
        stands = stands h.ran h.stands;
        left = append_assoc found (shown ∷ []) (up_to_halt (results_from code w (then_frame code h.ran (frame_with inputs steps)) (frames_given steps (drop (i + 1) frames)))) ∙ here true e;
      }

-- ---- the same of a machine whose program and weights are those of its start

module _ (code code' : Code) (w w' : Counted → Option ℕ) (stand : Option Stand) (frame : Frame) (code_same : code' ≡ code) (weights_same : w' ≡ w) where
  result_as : (shown : FrameResult) → ((ran : Got ℤ) → Stands w' ran stand → shown ≡ result_of w' (then_frame code' ran frame)) → (ran : Got ℤ) → Stands w ran stand → shown ≡ result_of w (then_frame code ran frame)
  result_as shown h =
      let one : (ran : Got ℤ) → Stands w ran stand → shown ≡ result_of w (then_frame code' ran frame) =
      subst (λ (v : Counted → Option ℕ). (ran : Got ℤ) → Stands v ran stand → shown ≡ result_of v (then_frame code' ran frame)) weights_same h in
      subst (λ (k : Code). (ran : Got ℤ) → Stands w ran stand → shown ≡ result_of w (then_frame k ran frame)) code_same one

  stands_as : (stand' : Option Stand) → ((ran : Got ℤ) → Stands w' ran stand → Stands w' (then_frame code' ran frame) stand') → (ran : Got ℤ) → Stands w ran stand → Stands w (then_frame code ran frame) stand'
  stands_as stand' h =
      let one : (ran : Got ℤ) → Stands w ran stand → Stands w (then_frame code' ran frame) stand' =
      subst (λ (v : Counted → Option ℕ). (ran : Got ℤ) → Stands v ran stand → Stands v (then_frame code' ran frame) stand') weights_same h in
      subst (λ (k : Code). (ran : Got ℤ) → Stands w ran stand → Stands w (then_frame k ran frame) stand') code_same one

module _ (code code' : Code) (w w' : Counted → Option ℕ) (whole found new : List FrameResult) (stand : Option Stand) (steps : ℕ) (frames : List Inputs) (i : ℕ) (inputs : Inputs) (shown : FrameResult) (code_same : code' ≡ code) (weights_same : w' ≡ w) (grew : new ≡ found ++ shown ∷ []) (within : i < length frames) (is : inputs ≡ get_or frames i inputs) (h : Left code w whole found stand (frames_given steps (drop i frames))) (result : (ran : Got ℤ) → Stands w' ran stand → shown ≡ result_of w' (then_frame code' ran (frame_with inputs steps))) where
  known : (ran : Got ℤ) → Stands w ran stand → shown ≡ result_of w (then_frame code ran (frame_with inputs steps))
  known = result_as code code' w w' stand (frame_with inputs steps) code_same weights_same shown result

  pub halted : is_ended shown.end ≡ false → new ≡ whole
  halted e = grew ∙ halts code w whole found stand steps frames i inputs shown within is h known e

  pub went_on : (stand' : Option Stand) → is_ended shown.end ≡ true → ((ran : Got ℤ) → Stands w' ran stand → Stands w' (then_frame code' ran (frame_with inputs steps)) stand') → Left code w whole new stand' (frames_given steps (drop (i + 1) frames))
  went_on stand' e stands =
      let next : Left code w whole (found ++ shown ∷ []) stand' (frames_given steps (drop (i + 1) frames)) =
      goes_next code w whole found stand steps frames i inputs shown within is h known stand' e
      (stands_as code code' w w' stand (frame_with inputs steps) code_same weights_same stand' stands) in
      subst (λ (xs : List FrameResult). Left code w whole xs stand' (frames_given steps (drop (i + 1) frames))) (sym grew) next

nothing_left : (code : Code) (w : Counted → Option ℕ) (ran : Got ℤ) → results_from code w ran [] ≡ []
unfolding results_from
nothing_left code w ran = refl

append_nothing : (found : List FrameResult) → found ++ [] ≡ found
append_nothing [] = refl
append_nothing (r ∷ rs) = ap (λ xs. r ∷ xs) (append_nothing rs)

pub ends : (code : Code) (w : Counted → Option ℕ) (whole found : List FrameResult) (stand : Option Stand) (steps : ℕ) (frames : List Inputs) (i : ℕ) → length frames ≤ i → Left code w whole found stand (frames_given steps (drop i frames)) → found ≡ whole
ends code w whole found stand steps frames i past h =
    let all : results_from code w h.ran (frames_given steps (drop i frames)) ≡ [] =
    at_drop_all (λ xs. results_from code w h.ran (frames_given steps xs)) frames i past ∙ nothing_left code w h.ran in
    sym (append_nothing found) ∙ sym (ap (λ rs. found ++ up_to_halt rs) all) ∙ h.left

-- a run is its start and the frames behind it
pub whole_run : (code : Code) (w : Counted → Option ℕ) (steps : ℕ) (frames : List Frame) (start : FrameResult) (found : List FrameResult) → start ≡ result_of w (started code [] steps)
    → found ≡ (if is_ended start.end then up_to_halt (results_from code w (started code [] steps) frames) else []) → start ∷ found ≡ up_to_halt (run_of code w [] steps frames)
unfolding run_of
whole_run code w steps frames start found first rest = rw (rest, first) refl

-- the same of the machine that was made for a program, and that was started
pub shown_run : (code code1 code2 : Code) (w w1 w2 : Counted → Option ℕ) (steps : ℕ) (frames : List Inputs) (fill : List ℤ) (start : FrameResult) (found : List FrameResult)
    → code1 ≡ code → w1 ≡ w → code2 ≡ code1 → w2 ≡ w1 → fill ≡ [] → start ≡ result_of w1 (started code1 fill steps)
    → found ≡ (if is_ended start.end then up_to_halt (results_from code2 w2 (started code2 [] steps) (frames_given steps frames)) else [])
    → start ∷ found ≡ up_to_halt (run_of code w [] steps (frames_of steps (numbers_of frames)))
shown_run code code1 code2 w w1 w2 steps frames fill start found code_made weights_made code_kept weights_kept empty first rest =
    let start_is : start ≡ result_of w (started code [] steps) =
    first ∙ ap (λ (v : Counted → Option ℕ). result_of v (started code1 fill steps)) weights_made
    ∙ ap (λ (k : Code). result_of w (started k fill steps)) code_made ∙ ap (λ (f : List ℤ). result_of w (started code f steps)) empty in
    let found_is : found ≡ (if is_ended start.end then up_to_halt (results_from code w (started code [] steps) (frames_of steps (numbers_of frames))) else []) =
    rest ∙ ap (λ (v : Counted → Option ℕ). if is_ended start.end then up_to_halt (results_from code2 v (started code2 [] steps) (frames_given steps frames)) else []) (weights_kept ∙ weights_made)
    ∙ ap (λ (k : Code). if is_ended start.end then up_to_halt (results_from k w (started k [] steps) (frames_given steps frames)) else []) (code_kept ∙ code_made)
    ∙ ap (λ (fs : List Frame). if is_ended start.end then up_to_halt (results_from code w (started code [] steps) fs) else []) (frames_same steps frames) in
    whole_run code w steps (frames_of steps (numbers_of frames)) start found start_is found_is
