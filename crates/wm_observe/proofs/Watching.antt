-- What is left of the frames while they are run.
use Rattle.std.proofs.Common.{◌≡◌, ℕ, suc, ◌+◌, ◌<◌, ◌≤◌, Bool, true, false, List, [], ◌∷◌, map, length, get_or, drop, ℤ, Option, Some, None, refl, sym, ap, subst, ◌∙◌, arith}
use Rattle.std.specs.Prelude.{if◌then◌else◌, IfOk, Result, Ok, Err}
use Rattle.wm_findings.specs.declared.findings.Seen.{Seen}
use Rattle.wm_program.specs.declared.program.Program.{Program}
use Rattle.std.proofs.lemmas.List.{at_drop_all, drop_more}
use Rattle.wm_ops.specs.declared.words.Counted.{Counted}
use Rattle.wm_program.specs.declared.inputs.Inputs.{Inputs}
use Rattle.wm_program.specs.declared.results.FrameResult.{FrameResult}
use Rattle.wm_program.specs.Code.{Code, code_of}
use Rattle.wm_program.specs.Outcomes.{Got, Gives, Halts}
use Rattle.wm_program.specs.Runs.{Frame, result_of, started, then_frame}
use Rattle.wm_interp.specs.Frames.{Stand, stand_in}
use Rattle.wm_interp.specs.Projected.{Stands, show}
use Rattle.wm_interp.specs.Standing.{frame_with}
use Rattle.wm_observe.specs.Ended.{is_ended}
use Rattle.wm_observe.specs.Functions.{function_of, is_several}
use Rattle.wm_observe.specs.Lines.{Line, looked_at}
use Rattle.wm_observe.specs.Observation.{Moment, Observation, state_in, moment_of, moments, moments_behind, observation, observation_in, raised, unseen, with_moment, with_moments}
use Rattle.wm_observe.specs.Standing.{objects_in}

pub record Left (code : Code) (w : Counted → Option ℕ) (several : Bool) (steps : ℕ) (whole found : Observation) (stand : Option Stand) (frames : List Inputs) : Type 0 where
  pub ran : Got ℤ
  pub stands : Stands w ran stand
  pub left : with_moments several (moments code w ran steps frames) found ≡ whole

pub begins : (code : Code) (w : Counted → Option ℕ) (several : Bool) (steps : ℕ) (found : Observation) (ran : Got ℤ) (stand : Option Stand) (frames : List Inputs) → Stands w ran stand → Left code w several steps (with_moments several (moments code w ran steps frames) found) found stand frames
begins code w several steps found ran stand frames h = record { ran = ran; stands = h; left = refl }

shown_objects : (w : Counted → Option ℕ) (ran : Got ℤ) → (stand_in (show w ran)).held.state.objects ≡ (state_in ran).objects
shown_objects w (Gives z s) = refl
shown_objects w (Halts end s) = refl

objects_same : (w : Counted → Option ℕ) (ran : Got ℤ) (stand : Option Stand) → Stands w ran stand → objects_in stand ≡ (state_in ran).objects
objects_same w ran stand h = ap objects_in h ∙ shown_objects w ran

unrolled : (code : Code) (w : Counted → Option ℕ) (ran : Got ℤ) (steps : ℕ) (inputs : Inputs) (rest : List Inputs) → moments code w ran steps (inputs ∷ rest) ≡ moment_of code w ran (frame_with inputs steps) ∷ (if is_ended (result_of w (then_frame code ran (frame_with inputs steps))).end then moments code w (then_frame code ran (frame_with inputs steps)) steps rest else [])
unfolding moments
unrolled code w ran steps inputs rest = refl

-- two observations with the same parts
alike : (a b : Observation) → a.frames ≡ b.frames → a.lines ≡ b.lines → a.counts ≡ b.counts → a ≡ b
alike a b p q r =
    ap (λ (n : ℕ). record { frames = n; lines = a.lines; counts = a.counts }) p
    ∙ ap (λ (ls : List Line). record { frames = b.frames; lines = ls; counts = a.counts }) q
    ∙ ap (λ (ns : List ℕ). record { frames = b.frames; lines = b.lines; counts = ns }) r

-- what one frame leaves
module _ (code : Code) (w : Counted → Option ℕ) (several : Bool) (steps : ℕ) (whole found : Observation) (stand : Option Stand) (frames : List Inputs) (i : ℕ) (inputs : Inputs) (shown : FrameResult) (new : Observation) (within : i < length frames) (is : inputs ≡ get_or frames i inputs) (h : Left code w several steps whole found stand (drop i frames)) (result : (ran : Got ℤ) → Stands w ran stand → shown ≡ result_of w (then_frame code ran (frame_with inputs steps))) (frames_new : new.frames ≡ suc found.frames) (lines_new : new.lines ≡ map (looked_at (objects_in stand)) found.lines) (counts_new : new.counts ≡ raised found.counts (function_of several inputs.values) shown.count) where
  this : shown ≡ result_of w (then_frame code h.ran (frame_with inputs steps))
  this = result h.ran h.stands

  lines_same : new.lines ≡ map (looked_at (state_in h.ran).objects) found.lines
  lines_same = lines_new ∙ ap (λ objects. map (looked_at objects) found.lines) (objects_same w h.ran stand h.stands)

  counts_same : new.counts ≡ raised found.counts (function_of several inputs.values) (result_of w (then_frame code h.ran (frame_with inputs steps))).count
  counts_same = counts_new ∙ ap (λ (r : FrameResult). raised found.counts (function_of several inputs.values) r.count) this

  rebuilt : new ≡ with_moment several (moment_of code w h.ran (frame_with inputs steps)) found
  rebuilt = alike new (with_moment several (moment_of code w h.ran (frame_with inputs steps)) found) frames_new lines_same counts_same

  here : (ended : Bool) → is_ended shown.end ≡ ended → with_moments several (if ended then moments code w (then_frame code h.ran (frame_with inputs steps)) steps (drop (i + 1) frames) else []) new ≡ whole
  here ended e =
      let split : drop i frames ≡ inputs ∷ drop (i + 1) frames = drop_more frames i inputs within ∙ ap (λ x. x ∷ drop (i + 1) frames) (sym is) in
      let known : is_ended (result_of w (then_frame code h.ran (frame_with inputs steps))).end ≡ ended = ap (λ (r : FrameResult). is_ended r.end) (sym this) ∙ e in
      let rest : Bool → List Moment = λ b. if b then moments code w (then_frame code h.ran (frame_with inputs steps)) steps (drop (i + 1) frames) else [] in
      let all : moments code w h.ran steps (drop i frames) ≡ moment_of code w h.ran (frame_with inputs steps) ∷ rest ended =
      ap (moments code w h.ran steps) split ∙ unrolled code w h.ran steps inputs (drop (i + 1) frames) ∙ ap (λ b. moment_of code w h.ran (frame_with inputs steps) ∷ rest b) known in
      ap (with_moments several (rest ended)) rebuilt ∙ sym (ap (λ ms. with_moments several ms found) all) ∙ h.left

  pub halts : is_ended shown.end ≡ false → new ≡ whole
  halts e = here false e

  pub goes_on : (stand' : Option Stand) → is_ended shown.end ≡ true → ((ran : Got ℤ) → Stands w ran stand → Stands w (then_frame code ran (frame_with inputs steps)) stand') → Left code w several steps whole new stand' (drop (i + 1) frames)
  goes_on stand' e stands = record { ran = then_frame code h.ran (frame_with inputs steps); stands = stands h.ran h.stands; left = here true e }

nothing_left : (code : Code) (w : Counted → Option ℕ) (ran : Got ℤ) (steps : ℕ) → moments code w ran steps [] ≡ []
unfolding moments
nothing_left code w ran steps = refl

pub ends : (code : Code) (w : Counted → Option ℕ) (several : Bool) (steps : ℕ) (whole found : Observation) (stand : Option Stand) (frames : List Inputs) (i : ℕ) → length frames ≤ i → Left code w several steps whole found stand (drop i frames) → found ≡ whole
ends code w several steps whole found stand frames i past h =
    let all : moments code w h.ran steps (drop i frames) ≡ [] =
    at_drop_all (λ xs. moments code w h.ran steps xs) frames i past ∙ nothing_left code w h.ran steps in
    sym (ap (λ ms. with_moments several ms found) all) ∙ h.left

-- ---- the same of a machine whose program and weights are those of its start

module _ (code code' : Code) (w w' : Counted → Option ℕ) (stand : Option Stand) (frame : Frame) (code_same : code' ≡ code) (weights_same : w' ≡ w) where
  result_as : (shown : FrameResult) → ((ran : Got ℤ) → Stands w' ran stand → shown ≡ result_of w' (then_frame code' ran frame)) → (ran : Got ℤ) → Stands w ran stand → shown ≡ result_of w (then_frame code ran frame)
  result_as shown h =
      let one : (ran : Got ℤ) → Stands w ran stand → shown ≡ result_of w (then_frame code' ran frame) =
      subst (λ (v : Counted → Option ℕ). (ran : Got ℤ) → Stands v ran stand → shown ≡ result_of v (then_frame code' ran frame)) weights_same h in
      subst (λ (k : Code). (ran : Got ℤ) → Stands w ran stand → shown ≡ result_of w (then_frame k ran frame)) code_same one

  stands_as : (stand' : Option Stand) → ((ran : Got ℤ) → Stands w' ran stand → Stands w' (then_frame code' ran frame) stand') → (ran : Got ℤ) → Stands w ran stand → Stands w (then_frame code ran frame) stand'
  stands_as stand' h =
      let one : (ran : Got ℤ) → Stands w ran stand → Stands w (then_frame code' ran frame) stand' =
      subst (λ (v : Counted → Option ℕ). (ran : Got ℤ) → Stands v ran stand → Stands v (then_frame code' ran frame) stand') weights_same h in
      subst (λ (k : Code). (ran : Got ℤ) → Stands w ran stand → Stands w (then_frame k ran frame) stand') code_same one

module _ (code code' : Code) (w w' : Counted → Option ℕ) (several : Bool) (steps : ℕ) (whole found : Observation) (stand : Option Stand) (frames : List Inputs) (i : ℕ) (inputs : Inputs) (shown : FrameResult) (new : Observation) (code_same : code' ≡ code) (weights_same : w' ≡ w) (within : i < length frames) (is : inputs ≡ get_or frames i inputs) (h : Left code w several steps whole found stand (drop i frames)) (result : (ran : Got ℤ) → Stands w' ran stand → shown ≡ result_of w' (then_frame code' ran (frame_with inputs steps))) (frames_new : new.frames ≡ suc found.frames) (lines_new : new.lines ≡ map (looked_at (objects_in stand)) found.lines) (counts_new : new.counts ≡ raised found.counts (function_of several inputs.values) shown.count) where
  known : (ran : Got ℤ) → Stands w ran stand → shown ≡ result_of w (then_frame code ran (frame_with inputs steps))
  known = result_as code code' w w' stand (frame_with inputs steps) code_same weights_same shown result

  pub halted : is_ended shown.end ≡ false → new ≡ whole
  halted e = halts code w several steps whole found stand frames i inputs shown new within is h known frames_new lines_new counts_new e

  pub went_on : (stand' : Option Stand) → is_ended shown.end ≡ true → ((ran : Got ℤ) → Stands w' ran stand → Stands w' (then_frame code' ran (frame_with inputs steps)) stand') → Left code w several steps whole new stand' (drop (i + 1) frames)
  went_on stand' e stands =
      goes_on code w several steps whole found stand frames i inputs shown new within is h known frames_new lines_new counts_new stand' e
      (stands_as code code' w w' stand (frame_with inputs steps) code_same weights_same stand' stands)

-- ---- the whole observation

unfolded : (program : Program) (w : Counted → Option ℕ) (frames : List Inputs) (steps : ℕ) → observation program w frames steps ≡ with_moments (is_several program) (if is_ended (result_of w (started (code_of program) [] steps)).end then moments (code_of program) w (started (code_of program) [] steps) steps frames else []) (unseen program)
unfolding observation moments_behind
unfolded program w frames steps = refl

pub whole_observation : (program : Program) (code1 code2 : Code) (w w1 w2 : Counted → Option ℕ) (steps : ℕ) (frames : List Inputs) (fill : List ℤ) (start : FrameResult) (several : Bool) (before after : Observation)
    → code1 ≡ code_of program → w1 ≡ w → code2 ≡ code1 → w2 ≡ w1 → fill ≡ [] → start ≡ result_of w1 (started code1 fill steps) → before ≡ unseen program → several ≡ is_several program
    → after ≡ with_moments several (if is_ended start.end then moments code2 w2 (started code2 [] steps) steps frames else []) before
    → after ≡ observation program w frames steps
whole_observation program code1 code2 w w1 w2 steps frames fill start several before after code_made weights_made code_kept weights_kept empty first none which all =
    let start_is : start ≡ result_of w (started (code_of program) [] steps) =
    first ∙ ap (λ (v : Counted → Option ℕ). result_of v (started code1 fill steps)) weights_made
    ∙ ap (λ (k : Code). result_of w (started k fill steps)) code_made ∙ ap (λ (f : List ℤ). result_of w (started (code_of program) f steps)) empty in
    all
    ∙ ap (λ (v : Counted → Option ℕ). with_moments several (if is_ended start.end then moments code2 v (started code2 [] steps) steps frames else []) before) (weights_kept ∙ weights_made)
    ∙ ap (λ (k : Code). with_moments several (if is_ended start.end then moments k w (started k [] steps) steps frames else []) before) (code_kept ∙ code_made)
    ∙ ap (λ (r : FrameResult). with_moments several (if is_ended r.end then moments (code_of program) w (started (code_of program) [] steps) steps frames else []) before) start_is
    ∙ ap (λ (b : Bool). with_moments b (if is_ended (result_of w (started (code_of program) [] steps)).end then moments (code_of program) w (started (code_of program) [] steps) steps frames else []) before) which
    ∙ ap (λ (o : Observation). with_moments (is_several program) (if is_ended (result_of w (started (code_of program) [] steps)).end then moments (code_of program) w (started (code_of program) [] steps) steps frames else []) o) none
    ∙ sym (unfolded program w frames steps)

pub seen_as : {E : Type 0} (r : Result Seen E) (a b : Observation) → IfOk r (λ (s : Seen). observation_in s ≡ a) → a ≡ b → IfOk r (λ (s : Seen). observation_in s ≡ b)
seen_as (Ok s) a b h e = h ∙ e
seen_as (Err x) a b h e = tt
