-- The search for the events of a site and cause.
use Rattle.std.proofs.Common.{◌≡◌, ℕ, zero, suc, ◌+◌, ◌<◌, ◌≤◌, Bool, true, false, List, [], ◌∷◌, ◌++◌, length, take, drop, refl, sym, ap, ◌∙◌, arith, add-one}
use Rattle.std.specs.Prelude.{slice_set, slice_index_or}
use Rattle.wm_program.specs.declared.results.Cause.{Cause}
use Rattle.wm_program.specs.declared.results.Event.{Event}
use Rattle.wm_program.specs.Runs.{with_event, is_same}
use Rattle.wm_interp.specs.Events.{counted_again}

skip : (site : ℕ) (cause : Cause) (e : Event) (es : List Event) → is_same site cause e ≡ false → with_event site cause (e ∷ es) ≡ e ∷ with_event site cause es
skip site cause e es h = rw h refl

hit : (site : ℕ) (cause : Cause) (e : Event) (es : List Event) → is_same site cause e ≡ true → with_event site cause (e ∷ es) ≡ counted_again e ∷ es
hit site cause e es h = rw h refl

passed_suc : (site : ℕ) (cause : Cause) (es : List Event) (i : ℕ) (d : Event) → i < length es → is_same site cause (slice_index_or es i d) ≡ false → take (suc i) es ++ with_event site cause (drop (suc i) es) ≡ take i es ++ with_event site cause (drop i es)
passed_suc site cause [] i d h n = absurd (omega arith)
passed_suc site cause (e ∷ es) zero d h n = sym (skip site cause e es n)
passed_suc site cause (e ∷ es) (suc i) d h n = ap (λ xs. e ∷ xs) (passed_suc site cause es i d (omega arith) n)

pub passed : (site : ℕ) (cause : Cause) (es : List Event) (i : ℕ) (d : Event) → i < length es → is_same site cause (slice_index_or es i d) ≡ false → take (i + 1) es ++ with_event site cause (drop (i + 1) es) ≡ take i es ++ with_event site cause (drop i es)
passed site cause es i d h n = rw add-one (passed_suc site cause es i d h n)

pub found : (site : ℕ) (cause : Cause) (es : List Event) (i : ℕ) (d : Event) → i < length es → is_same site cause (slice_index_or es i d) ≡ true → slice_set es i (counted_again (slice_index_or es i d)) ≡ take i es ++ with_event site cause (drop i es)
found site cause [] i d h n = absurd (omega arith)
found site cause (e ∷ es) zero d h n = sym (hit site cause e es n)
found site cause (e ∷ es) (suc i) d h n = ap (λ xs. e ∷ xs) (found site cause es i d (omega arith) n)

pub none_found : (site : ℕ) (cause : Cause) (es : List Event) → take (length es) es ++ with_event site cause (drop (length es) es) ≡ es ++ record { site = site; cause = cause; times = 1 } ∷ []
none_found site cause [] = refl
none_found site cause (e ∷ es) = ap (λ xs. e ∷ xs) (none_found site cause es)
