-- What is noted, as it is counted and grouped.
use Rattle.std.proofs.Common.{◌≡◌, ℕ, ◌+◌, Bool, true, false, List, [], ◌∷◌, ◌++◌, ℤ, pos, Option, Some, None, refl, sym, ap, ◌∙◌, arith}
use Rattle.wm_ops.specs.declared.words.Counted.{Counted}
use Rattle.wm_ops.specs.declared.words.Counted.TheVariants as counted
use Rattle.wm_ops.specs.declared.words.ControlWord.{ControlWord}
use Rattle.wm_program.specs.declared.results.Cause.{Cause}
use Rattle.wm_program.specs.declared.results.Event.{Event}
use Rattle.wm_program.specs.State.{State, Note, Counts, Evaluated, Failed, Entered, Turned, noted, counting, failed_if, flagged}
use Rattle.wm_program.specs.Runs.{weight_in, count_of, grouped, with_event}
use Rattle.wm_interp.specs.Held.{Held, with_count, failed_on, failed_if_on, flagged_on}
use Rattle.wm_interp.specs.Projected.{bare, seen}

count_counts : (w : Counted → Option ℕ) (word : Counted) (xs : List Note) → count_of w (xs ++ Counts word ∷ []) ≡ count_of w xs + weight_in w word
unfolding count_of
count_counts w word [] = omega arith
count_counts w word (Counts other ∷ xs) = let e = count_counts w word xs in omega (arith, e)
count_counts w word (Evaluated site ∷ xs) = count_counts w word xs
count_counts w word (Failed site cause ∷ xs) = count_counts w word xs
count_counts w word (Entered loop ∷ xs) = count_counts w word xs
count_counts w word (Turned loop turns ∷ xs) = count_counts w word xs

group_counts : (word : Counted) (found : List Event) (xs : List Note) → grouped found (xs ++ Counts word ∷ []) ≡ grouped found xs
unfolding grouped
group_counts word found [] = refl
group_counts word found (Counts other ∷ xs) = group_counts word found xs
group_counts word found (Evaluated site ∷ xs) = group_counts word found xs
group_counts word found (Failed site cause ∷ xs) = group_counts word (with_event site cause found) xs
group_counts word found (Entered loop ∷ xs) = group_counts word found xs
group_counts word found (Turned loop turns ∷ xs) = group_counts word found xs

count_failed : (w : Counted → Option ℕ) (at : ℕ) (why : Cause) (xs : List Note) → count_of w (xs ++ Failed at why ∷ []) ≡ count_of w xs
unfolding count_of
count_failed w at why [] = refl
count_failed w at why (Counts other ∷ xs) = ap (λ n. weight_in w other + n) (count_failed w at why xs)
count_failed w at why (Evaluated site ∷ xs) = count_failed w at why xs
count_failed w at why (Failed site cause ∷ xs) = count_failed w at why xs
count_failed w at why (Entered loop ∷ xs) = count_failed w at why xs
count_failed w at why (Turned loop turns ∷ xs) = count_failed w at why xs

group_failed : (at : ℕ) (why : Cause) (found : List Event) (xs : List Note) → grouped found (xs ++ Failed at why ∷ []) ≡ with_event at why (grouped found xs)
unfolding grouped
group_failed at why found [] = refl
group_failed at why found (Counts other ∷ xs) = group_failed at why found xs
group_failed at why found (Evaluated site ∷ xs) = group_failed at why found xs
group_failed at why found (Failed site cause ∷ xs) = group_failed at why (with_event site cause found) xs
group_failed at why found (Entered loop ∷ xs) = group_failed at why found xs
group_failed at why found (Turned loop turns ∷ xs) = group_failed at why found xs

-- a note that is neither counted nor grouped
data Quiet : Note → Type 0 where
  quiet_site : (site : ℕ) → Quiet (Evaluated site)
  quiet_entry : (loop : ℕ) → Quiet (Entered loop)
  quiet_turn : (loop turns : ℕ) → Quiet (Turned loop turns)

count_quiet : (w : Counted → Option ℕ) (note : Note) → Quiet note → (xs : List Note) → count_of w (xs ++ note ∷ []) ≡ count_of w xs
unfolding count_of
count_quiet w note (quiet_site site) [] = refl
count_quiet w note (quiet_entry loop) [] = refl
count_quiet w note (quiet_turn loop turns) [] = refl
count_quiet w note h (Counts other ∷ xs) = ap (λ n. weight_in w other + n) (count_quiet w note h xs)
count_quiet w note h (Evaluated site ∷ xs) = count_quiet w note h xs
count_quiet w note h (Failed site cause ∷ xs) = count_quiet w note h xs
count_quiet w note h (Entered loop ∷ xs) = count_quiet w note h xs
count_quiet w note h (Turned loop turns ∷ xs) = count_quiet w note h xs

group_quiet : (note : Note) → Quiet note → (found : List Event) (xs : List Note) → grouped found (xs ++ note ∷ []) ≡ grouped found xs
unfolding grouped
group_quiet note (quiet_site site) found [] = refl
group_quiet note (quiet_entry loop) found [] = refl
group_quiet note (quiet_turn loop turns) found [] = refl
group_quiet note h found (Counts other ∷ xs) = group_quiet note h found xs
group_quiet note h found (Evaluated site ∷ xs) = group_quiet note h found xs
group_quiet note h found (Failed site cause ∷ xs) = group_quiet note h (with_event site cause found) xs
group_quiet note h found (Entered loop ∷ xs) = group_quiet note h found xs
group_quiet note h found (Turned loop turns ∷ xs) = group_quiet note h found xs

held_alike : (s : State) (n m : ℕ) (es fs : List Event) → n ≡ m → es ≡ fs → ◌≡◌ {A = Held} (record { state = bare s; count = n; events = es }) (record { state = bare s; count = m; events = fs })
held_alike s n m es fs h k =
    let of_count : ℕ → Held = λ c. record { state = bare s; count = c; events = es } in
    let of_events : List Event → Held = λ xs. record { state = bare s; count = m; events = xs } in
    ap of_count h ∙ ap of_events k

pub seen_counts : (w : Counted → Option ℕ) (word : Counted) (s : State) → seen w (noted (Counts word) s) ≡ with_count (weight_in w word) (seen w s)
seen_counts w word s = held_alike s _ _ _ _ (count_counts w word s.log) (group_counts word [] s.log)

pub seen_failed : (w : Counted → Option ℕ) (site : ℕ) (cause : Cause) (s : State) → seen w (noted (Failed site cause) s) ≡ failed_on site cause (seen w s)
seen_failed w site cause s = held_alike s _ _ _ _ (count_failed w site cause s.log) (group_failed site cause [] s.log)

pub seen_evaluated : (w : Counted → Option ℕ) (site : ℕ) (s : State) → seen w (noted (Evaluated site) s) ≡ seen w s
seen_evaluated w site s = held_alike s _ _ _ _ (count_quiet w _ (quiet_site site) s.log) (group_quiet _ (quiet_site site) [] s.log)

pub seen_entered : (w : Counted → Option ℕ) (loop : ℕ) (s : State) → seen w (noted (Entered loop) s) ≡ seen w s
seen_entered w loop s = held_alike s _ _ _ _ (count_quiet w _ (quiet_entry loop) s.log) (group_quiet _ (quiet_entry loop) [] s.log)

pub seen_turned : (w : Counted → Option ℕ) (loop turns : ℕ) (s : State) → seen w (noted (Turned loop turns) s) ≡ seen w s
seen_turned w loop turns s = held_alike s _ _ _ _ (count_quiet w _ (quiet_turn loop turns) s.log) (group_quiet _ (quiet_turn loop turns) [] s.log)

pub seen_failed_if : (w : Counted → Option ℕ) (fails : Bool) (site : ℕ) (cause : Cause) (s : State) → seen w (failed_if fails site cause s) ≡ failed_if_on fails site cause (seen w s)
seen_failed_if w true site cause s = seen_failed w site cause s
seen_failed_if w false site cause s = refl

pub seen_flagged : (w : Counted → Option ℕ) (flag : Bool) (s : State) → seen w (flagged flag s) ≡ flagged_on flag (seen w s)
seen_flagged w true s = refl
seen_flagged w false s = refl
