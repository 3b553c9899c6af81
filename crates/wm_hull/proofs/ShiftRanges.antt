-- The ranges of shifts, and whether a shift to the left saturates.
use Rattle.std.proofs.Common.{◌≡◌, ◌⊎◌, ⊎_elim, inl, inr, refl, sym, subst, ap, ◌∙◌, ℕ, zero, suc, ◌≤◌, ◌^◌, min, ℤ, pos, negsuc, neg_ℤ, ◌≤ℤ◌, Bool, true, false, IsTrue, true≢false, arith}
use Rattle.std.proofs.Math.Nat.{pow-le-pow_right}
use Rattle.std.proofs.lemmas.Bool.{cases_lt}
use Rattle.std.proofs.lemmas.Int.{ints}
use Rattle.wm_numbers.proofs.Order.{le_trans, le_of_eq, le_or_lt, low_within, high_within, neg_mono}
use Rattle.wm_numbers.proofs.Products.{mul_keeps, mul_keeps_right, mul_turns_right}
use Rattle.wm_numbers.specs.Within.{Within}
use Rattle.wm_interval.specs.Holds.{Holds}
use Rattle.wm_interval.specs.declared.Interval.{Interval}
use Rattle.wm_ops.specs.Clamping.{leaves16, leaves32}
use Rattle.wm_ops.specs.Shifts.{shifted, shl_of, shr_r_of, l_shl_of, l_shr_r_of}
use Rattle.wm_ops.proofs.ClampLemmas.{leaves16_inside, leaves16_above, leaves16_below, leaves32_inside, leaves32_above, leaves32_below}
use Rattle.wm_hull.specs.Failures.{Somewhere, Nowhere}
use Rattle.wm_hull.specs.Ranges.{IsRangeOf, IsCountFor}
use Rattle.wm_hull.proofs.Spans.{range_by}
use Rattle.wm_hull.proofs.Turning.{Turns, left, left_rounded, turn_above, turn_below}

natural_or_negative : (a : ℤ) → (pos 0 ≤ℤ a) ⊎ (a ≤ℤ negsuc 0)
natural_or_negative (pos n) = inl (omega (arith, ints))
natural_or_negative (negsuc n) = inr (omega (arith, ints))

-- the count lies between the two that it is taken from
pub count_in : (y : Interval) (a natural negative count : ℤ) → Holds y natural → Holds y negative → IsCountFor a natural negative count → Holds y count
count_in y a natural negative count n m c = ⊎_elim (λ h. subst (Holds y) (sym (c.at_natural h)) n) (λ h. subst (Holds y) (sym (c.at_negative h)) m) (natural_or_negative a)

-- the range of a function that turns at 0, over the counts s b: at_m gives the least of them, and at_n the greatest
module _ (g : ℤ → ℤ → ℤ) (lo hi : ℤ) (t : Turns g lo hi) (s : ℤ → ℤ) (x y z : Interval) (at_m at_n : ℤ) (m_in : Holds y at_m) (n_in : Holds y at_n)
    (span : (k : ℤ) → Holds y k → Within (s at_m) (s at_n) (s k)) (low_in : Within lo hi x.low) (high_in : Within lo hi x.high) (low_count high_count : ℤ)
    (for_low : IsCountFor x.low at_m at_n low_count) (for_high : IsCountFor x.high at_n at_m high_count) where
  above : (a b : ℤ) → Holds x a → Holds y b → g x.low (s low_count) ≤ℤ g a (s b)
  above a b w v =
      let r = turn_above g lo hi t x.low x.high (s at_m) (s at_n) a (s b) low_in w (span b v) in
      ⊎_elim
      (λ h. le_trans (le_of_eq (ap (λ (k : ℤ). g x.low (s k)) (for_low.at_natural h))) (r.0 h))
      (λ h. le_trans (le_of_eq (ap (λ (k : ℤ). g x.low (s k)) (for_low.at_negative h))) (r.1 h))
      (natural_or_negative x.low)

  below : (a b : ℤ) → Holds x a → Holds y b → g a (s b) ≤ℤ g x.high (s high_count)
  below a b w v =
      let r = turn_below g lo hi t x.low x.high (s at_m) (s at_n) a (s b) high_in w (span b v) in
      ⊎_elim
      (λ h. le_trans (r.0 h) (le_of_eq (sym (ap (λ (k : ℤ). g x.high (s k)) (for_high.at_natural h)))))
      (λ h. le_trans (r.1 h) (le_of_eq (sym (ap (λ (k : ℤ). g x.high (s k)) (for_high.at_negative h)))))
      (natural_or_negative x.high)

  pub turn_ordered : g x.low (s low_count) ≤ℤ g x.high (s high_count)
  turn_ordered = above x.high high_count (high_within x.ordered) (count_in y x.high at_n at_m high_count n_in m_in for_high)

  pub turn_range : (result : Interval) → result.low ≡ g x.low (s low_count) → result.high ≡ g x.high (s high_count) → IsRangeOf (λ a b c. g a (s b)) x y z result
  turn_range result low high = range_by (λ a b c. g a (s b)) x y z result
      (record { a = x.low; b = low_count; c = z.low; inside = record { first = low_within x.ordered; second = count_in y x.low at_m at_n low_count m_in n_in for_low; third = low_within z.ordered }; gives = sym low })
      (record { a = x.high; b = high_count; c = z.low; inside = record { first = high_within x.ordered; second = count_in y x.high at_n at_m high_count n_in m_in for_high; third = low_within z.ordered }; gives = sym high })
      (λ a b c inside. record { above = le_trans (le_of_eq low) (above a b inside.first inside.second); below = le_trans (below a b inside.first inside.second) (le_of_eq (sym high)) })

-- the counts as they are, and turned round
pub straight : (y : Interval) (k : ℤ) → Holds y k → Within y.low y.high k
straight y k w = w

pub opposite : (y : Interval) (k : ℤ) → Holds y k → Within (neg_ℤ y.high) (neg_ℤ y.low) (neg_ℤ k)
opposite y k w = record { above = neg_mono w.below; below = neg_mono w.above }

-- the values of the shifts
pub shl_value : (a n : ℤ) → left (negsuc 32767) (pos 32767) a n ≡ (shl_of a n).value
unfolding left
shl_value a (pos n) = refl
shl_value a (negsuc n) = refl

pub l_shl_value : (a n : ℤ) → left (negsuc 2147483647) (pos 2147483647) a n ≡ (l_shl_of a n).value
unfolding left
l_shl_value a (pos n) = refl
l_shl_value a (negsuc n) = refl

pub shr_r_value : (a n : ℤ) → left_rounded (negsuc 32767) (pos 32767) a (neg_ℤ n) ≡ (shr_r_of a n).value
unfolding left_rounded
shr_r_value a (pos zero) = refl
shr_r_value a (pos (suc n)) = refl
shr_r_value a (negsuc n) = refl

pub l_shr_r_value : (a n : ℤ) → left_rounded (negsuc 2147483647) (pos 2147483647) a (neg_ℤ n) ≡ (l_shr_r_of a n).value
unfolding left_rounded
l_shr_r_value a (pos zero) = refl
l_shr_r_value a (pos (suc n)) = refl
l_shr_r_value a (negsuc n) = refl

-- ---- whether a shift to the left saturates
pub left_leaves : (ℤ → Bool) → ℤ → ℤ → Bool
left_leaves leaves a (pos n) = leaves (shifted a n)
left_leaves leaves a (negsuc n) = false

pub shl_changed : (a n : ℤ) → left_leaves leaves16 a n ≡ (shl_of a n).changed
unfolding left_leaves
shl_changed a (pos n) = refl
shl_changed a (negsuc n) = refl

pub l_shl_changed : (a n : ℤ) → left_leaves leaves32 a n ≡ (l_shl_of a n).changed
unfolding left_leaves
l_shl_changed a (pos n) = refl
l_shl_changed a (negsuc n) = refl

pub shr_r_changed : (a n : ℤ) → left_leaves leaves16 a (neg_ℤ n) ≡ (shr_r_of a n).changed
unfolding left_leaves
shr_r_changed a (pos zero) = refl
shr_r_changed a (pos (suc n)) = refl
shr_r_changed a (negsuc n) = refl

pub l_shr_r_changed : (a n : ℤ) → left_leaves leaves32 a (neg_ℤ n) ≡ (l_shr_r_of a n).changed
unfolding left_leaves
l_shr_r_changed a (pos zero) = refl
l_shr_r_changed a (pos (suc n)) = refl
l_shr_r_changed a (negsuc n) = refl

power_le : (m n : ℕ) → m ≤ n → pos (2 ^ m) ≤ℤ pos (2 ^ n)
power_le m n h = let p : 2 ^ m ≤ 2 ^ n = pow-le-pow_right {n = 2} (omega arith) h in omega (arith, ints)

-- a range of at most 32 bits on both sides of 0
pub record IsShort (lo hi : ℤ) : Type 0 where
  pub least : negsuc 2147483647 ≤ℤ lo
  pub across : lo ≤ℤ negsuc 0
  pub over : pos 0 ≤ℤ hi
  pub greatest : hi ≤ℤ pos 2147483647

-- a number that leaves the range when it is shifted by fewer places leaves it by more; by 32 places all but 0 leave it
pub kept_by_fewer : (lo hi a : ℤ) (j p : ℕ) → IsShort lo hi → j ≤ p → Within lo hi (shifted a p) → Within lo hi (shifted a j)
kept_by_fewer lo hi a j p s h w = ⊎_elim
    (λ n. let grow : shifted a j ≤ℤ shifted a p = mul_keeps_right n (power_le j p h) in
    let zero_is : shifted (pos 0) j ≤ℤ shifted a j = mul_keeps {c = pos (2 ^ j)} (omega (arith, ints)) n in
    let nothing : negsuc 0 ≤ℤ shifted (pos 0) j = omega (arith, ints) in
    record { above = le_trans (le_trans s.across nothing) zero_is; below = le_trans grow w.below })
    (λ n. let no_more : a ≤ℤ pos 0 = omega (arith, ints) in
    let fall : shifted a p ≤ℤ shifted a j = mul_turns_right no_more (power_le j p h) in
    let zero_is : shifted a j ≤ℤ shifted (pos 0) j = mul_keeps {c = pos (2 ^ j)} (omega (arith, ints)) no_more in
    let nothing : shifted (pos 0) j ≤ℤ pos 0 = omega (arith, ints) in
    record { above = le_trans w.above fall; below = le_trans zero_is (le_trans nothing s.over) })
    (natural_or_negative a)

only_zero : (lo hi a : ℤ) → IsShort lo hi → Within lo hi (shifted a 32) → a ≡ pos 0
only_zero lo hi (pos zero) s w = refl
only_zero lo hi (pos (suc n)) s w = let b = w.below in let g = s.greatest in absurd (omega (arith, ints))
only_zero lo hi (negsuc n) s w = let b = w.above in let l = s.least in absurd (omega (arith, ints))

pub kept_by_any : (lo hi a : ℤ) (j : ℕ) → IsShort lo hi → Within lo hi (shifted a 32) → Within lo hi (shifted a j)
kept_by_any lo hi a j s w = subst (λ (v : ℤ). Within lo hi (shifted v j)) (sym (only_zero lo hi a s w))
    (let nothing : shifted (pos 0) j ≡ pos 0 = omega (arith, ints) in
    record { above = le_trans s.across (le_trans (omega (arith, ints)) (le_of_eq (sym nothing))); below = le_trans (le_of_eq nothing) s.over })

-- so the places may be cut at 32
pub kept_cut : (lo hi a : ℤ) (j k : ℕ) → IsShort lo hi → j ≤ k → Within lo hi (shifted a (min k 32)) → Within lo hi (shifted a j)
kept_cut lo hi a j k s h w = ⊎_elim
    (λ near. kept_by_fewer lo hi a j (min k 32) s (omega arith) w)
    (λ far. let all : min k 32 ≡ 32 = omega arith in kept_by_any lo hi a j s (subst (λ (p : ℕ). Within lo hi (shifted a p)) all w))
    (cases_lt k 32)

pub short16 : IsShort (negsuc 32767) (pos 32767)
short16 = record { least = omega (arith, ints); across = omega (arith, ints); over = omega (arith, ints); greatest = omega (arith, ints) }

pub short32 : IsShort (negsuc 2147483647) (pos 2147483647)
short32 = record { least = omega (arith, ints); across = omega (arith, ints); over = omega (arith, ints); greatest = omega (arith, ints) }

-- a test of the leaving of a range that is right both ways
pub record IsLeaving (leaves : ℤ → Bool) (lo hi : ℤ) : Type 0 where
  pub inside : (v : ℤ) → Within lo hi v → leaves v ≡ false
  pub outside : (v : ℤ) → leaves v ≡ false → Within lo hi v

pub leaving16 : IsLeaving leaves16 (negsuc 32767) (pos 32767)
leaving16 = record { inside = leaves16_inside; outside = λ v e. record { above = low v e; below = high v e } }
  where
    low : (v : ℤ) → leaves16 v ≡ false → negsuc 32767 ≤ℤ v
    low v e = ⊎_elim (λ h. h) (λ h. absurd (true≢false (sym (leaves16_below v h) ∙ e))) (le_or_lt (negsuc 32767) v)

    high : (v : ℤ) → leaves16 v ≡ false → v ≤ℤ pos 32767
    high v e = ⊎_elim (λ h. h) (λ h. absurd (true≢false (sym (leaves16_above v h) ∙ e))) (le_or_lt v (pos 32767))

pub leaving32 : IsLeaving leaves32 (negsuc 2147483647) (pos 2147483647)
leaving32 = record { inside = leaves32_inside; outside = λ v e. record { above = low v e; below = high v e } }
  where
    low : (v : ℤ) → leaves32 v ≡ false → negsuc 2147483647 ≤ℤ v
    low v e = ⊎_elim (λ h. h) (λ h. absurd (true≢false (sym (leaves32_below v h) ∙ e))) (le_or_lt (negsuc 2147483647) v)

    high : (v : ℤ) → leaves32 v ≡ false → v ≤ℤ pos 2147483647
    high v e = ⊎_elim (λ h. h) (λ h. absurd (true≢false (sym (leaves32_above v h) ∙ e))) (le_or_lt v (pos 2147483647))

leaves_more : (leaves : ℤ → Bool) (lo hi : ℤ) → IsLeaving leaves lo hi → IsShort lo hi → (a : ℤ) (k : ℕ) → IsTrue (leaves (shifted a (min k 32))) → IsTrue (leaves (shifted a k))
leaves_more leaves lo hi l s a k h = by (leaves (shifted a k)) refl
  where
    kept : leaves (shifted a k) ≡ false → Within lo hi (shifted a (min k 32))
    kept e = kept_by_fewer lo hi a (min k 32) k s (omega arith) (l.outside _ e)

    by : (t : Bool) → leaves (shifted a k) ≡ t → t ≡ true
    by true e = refl
    by false e = absurd (true≢false (sym h ∙ l.inside _ (kept e)))

-- whether some number of x saturates when it is shifted by s b places: at_n gives the greatest count
module _ (leaves : ℤ → Bool) (lo hi : ℤ) (l : IsLeaving leaves lo hi) (short : IsShort lo hi) (s : ℤ → ℤ) (x y z : Interval) (at_n : ℤ) (n_in : Holds y at_n)
    (most : (k : ℤ) → Holds y k → s k ≤ℤ s at_n) where
  pub never_leaves : s at_n ≤ℤ negsuc 0 → Nowhere (λ a b c. left_leaves leaves a (s b)) x y z
  unfolding left_leaves
  never_leaves h a b c inside t = true≢false (sym t ∙ none (s b) (le_trans (most b inside.second) h))
    where
      none : (k : ℤ) → k ≤ℤ negsuc 0 → left_leaves leaves a k ≡ false
      none (pos k) h = absurd (omega (arith, ints))
      none (negsuc k) h = refl

  here : (a : ℤ) (k : ℕ) → s at_n ≡ pos k → IsTrue (leaves (shifted a (min k 32))) → IsTrue (left_leaves leaves a (s at_n))
  unfolding left_leaves
  here a k e h = ap (left_leaves leaves a) e ∙ leaves_more leaves lo hi l short a k h

  pub leaves_somewhere : (k : ℕ) → s at_n ≡ pos k → (IsTrue (leaves (shifted x.low (min k 32))) ⊎ IsTrue (leaves (shifted x.high (min k 32)))) → Somewhere (λ a b c. left_leaves leaves a (s b)) x y z
  leaves_somewhere k e t = ⊎_elim
      (λ h. record { a = x.low; b = at_n; c = z.low; inside = record { first = low_within x.ordered; second = n_in; third = low_within z.ordered }; holds = here x.low k e h })
      (λ h. record { a = x.high; b = at_n; c = z.low; inside = record { first = high_within x.ordered; second = n_in; third = low_within z.ordered }; holds = here x.high k e h })
      t

  kept : (a : ℤ) (k : ℕ) (n : ℤ) → n ≤ℤ pos k → Holds x a → Within lo hi (shifted x.low (min k 32)) → Within lo hi (shifted x.high (min k 32)) → left_leaves leaves a n ≡ false
  unfolding left_leaves
  kept a k (negsuc n) h w p q = refl
  kept a k (pos n) h w p q =
      let fewer : n ≤ k = omega (arith, ints) in
      let low = kept_cut lo hi x.low n k short fewer p in
      let high = kept_cut lo hi x.high n k short fewer q in
      let up : shifted x.low n ≤ℤ shifted a n = mul_keeps {c = pos (2 ^ n)} (omega (arith, ints)) w.above in
      let down : shifted a n ≤ℤ shifted x.high n = mul_keeps {c = pos (2 ^ n)} (omega (arith, ints)) w.below in
      l.inside _ (record { above = le_trans low.above up; below = le_trans down high.below })

  pub leaves_nowhere : (k : ℕ) → s at_n ≡ pos k → Within lo hi (shifted x.low (min k 32)) × Within lo hi (shifted x.high (min k 32)) → Nowhere (λ a b c. left_leaves leaves a (s b)) x y z
  leaves_nowhere k e w a b c inside t =
      true≢false (sym t ∙ kept a k (s b) (le_trans (most b inside.second) (le_of_eq e)) inside.first w.0 w.1)
