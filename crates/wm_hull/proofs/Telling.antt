-- Whether a clamp changes its number at some arguments, from the range of that number.
use Rattle.std.proofs.Common.{◌≡◌, ◌⊎◌, ⊎_elim, inl, inr, refl, sym, ap, ◌∙◌, ℤ, pos, negsuc, Bool, true, false, ◌||◌, IsTrue, true≢false}
use Rattle.wm_numbers.proofs.Order.{le_trans}
use Rattle.wm_numbers.specs.Within.{Within, IsWord16, IsWord32}
use Rattle.wm_interval.specs.declared.Interval.{Interval}
use Rattle.wm_ops.specs.Clamping.{leaves16, leaves32}
use Rattle.wm_ops.proofs.ClampLemmas.{leaves16_inside, leaves32_inside}
use Rattle.wm_hull.specs.Ranges.{Reached, IsRangeOf}
use Rattle.wm_hull.specs.Failures.{Somewhere, Nowhere, TellsWhether, TellsLeaving16, TellsLeaving32}
use Rattle.wm_hull.proofs.Spans.{in_range}

-- a number between two that lie in a range lies in it
between : (low high a b v : ℤ) → Within low high a → Within low high b → Within a b v → Within low high v
between low high a b v p q w = record { above = le_trans p.above w.above; below = le_trans w.below q.below }

module _ (f : ℤ → ℤ → ℤ → ℤ) (x y z range : Interval) (h : IsRangeOf f x y z range) where
  at_end : (leaves : ℤ → Bool) (v : ℤ) → Reached f x y z v → IsTrue (leaves v) → Somewhere (λ a b c. leaves (f a b c)) x y z
  at_end leaves v r t = record { a = r.a; b = r.b; c = r.c; inside = r.inside; holds = ap leaves r.gives ∙ t }

  some16 : (IsTrue (leaves16 range.low) ⊎ IsTrue (leaves16 range.high)) → Somewhere (λ a b c. leaves16 (f a b c)) x y z
  some16 t = ⊎_elim (λ l. at_end leaves16 range.low h.low_is.attained l) (λ u. at_end leaves16 range.high h.high_is.attained u) t

  none16 : IsWord16 range.low × IsWord16 range.high → Nowhere (λ a b c. leaves16 (f a b c)) x y z
  none16 w a b c inside t =
      let within = between (negsuc 32767) (pos 32767) range.low range.high (f a b c) w.0 w.1 (in_range f x y z range h a b c inside) in
      true≢false (sym t ∙ leaves16_inside (f a b c) within)

  pub tells16 : (answer : Bool) → TellsLeaving16 answer range.low range.high → TellsWhether answer (λ a b c. leaves16 (f a b c)) x y z
  tells16 true t = some16 t
  tells16 false w = none16 w

  some32 : (IsTrue (leaves32 range.low) ⊎ IsTrue (leaves32 range.high)) → Somewhere (λ a b c. leaves32 (f a b c)) x y z
  some32 t = ⊎_elim (λ l. at_end leaves32 range.low h.low_is.attained l) (λ u. at_end leaves32 range.high h.high_is.attained u) t

  none32 : IsWord32 range.low × IsWord32 range.high → Nowhere (λ a b c. leaves32 (f a b c)) x y z
  none32 w a b c inside t =
      let within = between (negsuc 2147483647) (pos 2147483647) range.low range.high (f a b c) w.0 w.1 (in_range f x y z range h a b c inside) in
      true≢false (sym t ∙ leaves32_inside (f a b c) within)

  pub tells32 : (answer : Bool) → TellsLeaving32 answer range.low range.high → TellsWhether answer (λ a b c. leaves32 (f a b c)) x y z
  tells32 true t = some32 t
  tells32 false w = none32 w

-- a test that gives the same
module _ (s t : ℤ → ℤ → ℤ → Bool) (x y z : Interval) (same : (a b c : ℤ) → s a b c ≡ t a b c) where
  pub tells_same : (answer : Bool) → TellsWhether answer s x y z → TellsWhether answer t x y z
  tells_same true h = record { a = h.a; b = h.b; c = h.c; inside = h.inside; holds = sym (same h.a h.b h.c) ∙ h.holds }
  tells_same false h = λ a b c inside u. h a b c inside (same a b c ∙ u)

or_left : (p q : Bool) → IsTrue p → IsTrue (p || q)
or_left true q h = refl
or_left false q h = absurd (true≢false (sym h))

or_right : (p q : Bool) → IsTrue q → IsTrue (p || q)
or_right true q h = refl
or_right false q h = h

or_cases : (p q : Bool) → IsTrue (p || q) → IsTrue p ⊎ IsTrue q
or_cases true q h = inl refl
or_cases false q h = inr h

pub or_false : (p : Bool) → p ≡ p || false
or_false true = refl
or_false false = refl

-- one of two tests
module _ (s t : ℤ → ℤ → ℤ → Bool) (x y z : Interval) where
  pub tells_either : (p q : Bool) → TellsWhether p s x y z → TellsWhether q t x y z → TellsWhether (p || q) (λ a b c. s a b c || t a b c) x y z
  tells_either true q h k = record { a = h.a; b = h.b; c = h.c; inside = h.inside; holds = or_left _ _ h.holds }
  tells_either false true h k = record { a = k.a; b = k.b; c = k.c; inside = k.inside; holds = or_right _ _ k.holds }
  tells_either false false h k = λ a b c inside u. ⊎_elim (h a b c inside) (k a b c inside) (or_cases (s a b c) (t a b c) u)

-- a test that never holds
pub tells_never : (t : ℤ → ℤ → ℤ → Bool) (x y z : Interval) → ((a b c : ℤ) → t a b c ≡ false) → TellsWhether false t x y z
tells_never t x y z never = λ a b c inside u. true≢false (sym u ∙ never a b c)
