-- Shifts: a number that is not negative does not fall as the count to the left grows, a negative one does not rise.
use Rattle.std.proofs.Common.{◌≡◌, sym, subst, ap, ◌∙◌, ℕ, zero, suc, ◌+◌, ◌-◌, ◌≤◌, ◌^◌, ℤ, pos, negsuc, ◌+ℤ◌, ◌*ℤ◌, ◌≤ℤ◌, arith}
use Rattle.std.proofs.Math.Nat.{pow-le-pow_right, two-pow-succ}
use Rattle.std.proofs.Math.Pow.{pow_pos}
use Rattle.std.proofs.lemmas.Int.{ints}
use Rattle.wm_numbers.proofs.Clamps.{clamp_mono, clamp_same}
use Rattle.wm_numbers.proofs.Floors.{floor_mono, floor_greatest, floor_least, floor_below, floor_of_natural, floor_of_negative, floor_twice}
use Rattle.wm_numbers.proofs.Order.{le_trans, le_of_eq}
use Rattle.wm_numbers.proofs.Products.{mul_keeps, mul_keeps_right, mul_turns_right}
use Rattle.wm_numbers.specs.Clamp.{clamp}
use Rattle.wm_numbers.specs.Floor.{floor_shift}
use Rattle.wm_numbers.specs.Within.{Within}
use Rattle.wm_ops.specs.Shifts.{shifted, rounded_shift}

-- a function of a number from `low` to `high` and a count that rises with the number, and with the count away from 0
pub record Turns (f : ℤ → ℤ → ℤ) (low high : ℤ) : Type 0 where
  pub number : (a b n : ℤ) → a ≤ℤ b → f a n ≤ℤ f b n
  pub up : (a m n : ℤ) → Within low high a → pos 0 ≤ℤ a → m ≤ℤ n → f a m ≤ℤ f a n
  pub down : (a m n : ℤ) → Within low high a → a ≤ℤ negsuc 0 → m ≤ℤ n → f a n ≤ℤ f a m

-- to the left with a clamp, to the right rounded down
unfoldable pub left : ℤ → ℤ → ℤ → ℤ → ℤ
left low high a (pos n) = clamp low high (shifted a n)
left low high a (negsuc n) = floor_shift a (suc n)

-- to the left with a clamp, to the right rounded to the nearest
unfoldable pub left_rounded : ℤ → ℤ → ℤ → ℤ → ℤ
left_rounded low high a (pos n) = clamp low high (shifted a n)
left_rounded low high a (negsuc n) = rounded_shift a n

power_le : (m n : ℕ) → m ≤ n → pos (2 ^ m) ≤ℤ pos (2 ^ n)
power_le m n h = let p : 2 ^ m ≤ 2 ^ n = pow-le-pow_right {n = 2} (omega arith) h in omega (arith, ints)

one_le : (n : ℕ) → pos 1 ≤ℤ pos (2 ^ n)
one_le n = let p = pow_pos n in omega (arith, ints)

-- a number grows away from 0 by shifts to the left
grows : (a : ℤ) (m n : ℕ) → pos 0 ≤ℤ a → m ≤ n → shifted a m ≤ℤ shifted a n
grows a m n h k = mul_keeps_right h (power_le m n k)

falls : (a : ℤ) (m n : ℕ) → a ≤ℤ negsuc 0 → m ≤ n → shifted a n ≤ℤ shifted a m
falls a m n h k = mul_turns_right (le_trans h (omega (arith, ints))) (power_le m n k)

itself : (a : ℤ) → shifted a 0 ≡ a
itself a = omega (arith, ints)

-- and does not grow by shifts to the right
less_far : (a : ℤ) (m d : ℕ) → pos 0 ≤ℤ a → floor_shift a (m + d) ≤ℤ floor_shift a m
less_far a m d h = le_trans (le_of_eq (sym (floor_twice a m d))) (floor_of_natural (floor_shift a m) d (floor_of_natural a m h).above).below

more_far : (a : ℤ) (m d : ℕ) → a ≤ℤ negsuc 0 → floor_shift a m ≤ℤ floor_shift a (m + d)
more_far a m d h = le_trans (floor_of_negative (floor_shift a m) d (floor_of_negative a m h).below).above (le_of_eq (floor_twice a m d))

apart : (m n : ℕ) → m ≤ n → (d : ℕ) × (m + d ≡ n)
apart m n h = (n - m, omega arith)

down_right : (a : ℤ) (m n : ℕ) → pos 0 ≤ℤ a → m ≤ n → floor_shift a n ≤ℤ floor_shift a m
down_right a m n h k = let d = apart m n k in subst (λ (j : ℕ). floor_shift a j ≤ℤ floor_shift a m) d.1 (less_far a m d.0 h)

up_right : (a : ℤ) (m n : ℕ) → a ≤ℤ negsuc 0 → m ≤ n → floor_shift a m ≤ℤ floor_shift a n
up_right a m n h k = let d = apart m n k in subst (λ (j : ℕ). floor_shift a m ≤ℤ floor_shift a j) d.1 (more_far a m d.0 h)

-- rounded to the nearest, the same: by one place more
rounded_less : (a : ℤ) (n : ℕ) → pos 0 ≤ℤ a → rounded_shift a (suc n) ≤ℤ rounded_shift a n
rounded_less a n h =
    let q = rounded_shift a (suc n) in
    let below = floor_below (a +ℤ pos (2 ^ suc n)) (suc (suc n)) in
    let one = two-pow-succ n in
    let two = two-pow-succ (suc n) in
    let half : (q *ℤ pos (2 ^ suc (suc n))) ≡ (q *ℤ pos (2 ^ suc n)) +ℤ (q *ℤ pos (2 ^ suc n)) = twice q (2 ^ suc n) (2 ^ suc (suc n)) two in
    floor_greatest _ q (suc n) (omega (arith, ints))
  where
    twice : (q : ℤ) (p r : ℕ) → r ≡ p + p → (q *ℤ pos r) ≡ (q *ℤ pos p) +ℤ (q *ℤ pos p)
    twice q p r e = ap (λ (k : ℕ). q *ℤ pos k) e ∙ omega (arith, ints)

rounded_more : (a : ℤ) (n : ℕ) → a ≤ℤ negsuc 0 → rounded_shift a n ≤ℤ rounded_shift a (suc n)
rounded_more a n h =
    let q = rounded_shift a n in
    let below = floor_below (a +ℤ pos (2 ^ n)) (suc n) in
    let one = two-pow-succ n in
    let two = two-pow-succ (suc n) in
    let half : (q *ℤ pos (2 ^ suc (suc n))) ≡ (q *ℤ pos (2 ^ suc n)) +ℤ (q *ℤ pos (2 ^ suc n)) = twice q (2 ^ suc n) (2 ^ suc (suc n)) two in
    floor_greatest _ q (suc (suc n)) (omega (arith, ints))
  where
    twice : (q : ℤ) (p r : ℕ) → r ≡ p + p → (q *ℤ pos r) ≡ (q *ℤ pos p) +ℤ (q *ℤ pos p)
    twice q p r e = ap (λ (k : ℕ). q *ℤ pos k) e ∙ omega (arith, ints)

rounded_once_less : (a : ℤ) → pos 0 ≤ℤ a → rounded_shift a 0 ≤ℤ a
rounded_once_less a h = floor_least (a +ℤ pos 1) a 1 (omega (arith, ints))

rounded_once_more : (a : ℤ) → a ≤ℤ negsuc 0 → a ≤ℤ rounded_shift a 0
rounded_once_more a h = floor_greatest (a +ℤ pos 1) a 1 (omega (arith, ints))

-- by any number of places more
rounded_down_by : (a : ℤ) (m d : ℕ) → pos 0 ≤ℤ a → rounded_shift a (d + m) ≤ℤ rounded_shift a m
rounded_down_by a m zero h = le_of_eq (ap (rounded_shift a) (omega arith))
rounded_down_by a m (suc d) h = le_trans (le_trans (le_of_eq (ap (rounded_shift a) (omega arith))) (rounded_less a (d + m) h)) (rounded_down_by a m d h)

rounded_up_by : (a : ℤ) (m d : ℕ) → a ≤ℤ negsuc 0 → rounded_shift a m ≤ℤ rounded_shift a (d + m)
rounded_up_by a m zero h = le_of_eq (ap (rounded_shift a) (omega arith))
rounded_up_by a m (suc d) h = le_trans (rounded_up_by a m d h) (le_trans (rounded_more a (d + m) h) (le_of_eq (ap (rounded_shift a) (omega arith))))

rounded_down : (a : ℤ) (m n : ℕ) → pos 0 ≤ℤ a → m ≤ n → rounded_shift a n ≤ℤ rounded_shift a m
rounded_down a m n h k = let d : (d : ℕ) × (d + m ≡ n) = (n - m, omega arith) in subst (λ (j : ℕ). rounded_shift a j ≤ℤ rounded_shift a m) d.1 (rounded_down_by a m d.0 h)

rounded_up : (a : ℤ) (m n : ℕ) → a ≤ℤ negsuc 0 → m ≤ n → rounded_shift a m ≤ℤ rounded_shift a n
rounded_up a m n h k = let d : (d : ℕ) × (d + m ≡ n) = (n - m, omega arith) in subst (λ (j : ℕ). rounded_shift a m ≤ℤ rounded_shift a j) d.1 (rounded_up_by a m d.0 h)

-- so both turn at 0
module _ (low high : ℤ) where
  left_number : (a b n : ℤ) → a ≤ℤ b → left low high a n ≤ℤ left low high b n
  unfolding left
  left_number a b (pos n) h = clamp_mono low high (mul_keeps {c = pos (2 ^ n)} (omega (arith, ints)) h)
  left_number a b (negsuc n) h = floor_mono (suc n) h

  -- a clamp keeps a number of the range, which its shifts to the left pass
  at_least_itself : (a : ℤ) (n : ℕ) → Within low high a → pos 0 ≤ℤ a → a ≤ℤ clamp low high (shifted a n)
  at_least_itself a n w h = le_trans (le_of_eq (sym (clamp_same low high a w))) (clamp_mono low high (le_trans (le_of_eq (sym (itself a))) (grows a 0 n h (omega arith))))

  at_most_itself : (a : ℤ) (n : ℕ) → Within low high a → a ≤ℤ negsuc 0 → clamp low high (shifted a n) ≤ℤ a
  at_most_itself a n w h = le_trans (clamp_mono low high (le_trans (falls a 0 n h (omega arith)) (le_of_eq (itself a)))) (le_of_eq (clamp_same low high a w))

  left_up : (a m n : ℤ) → Within low high a → pos 0 ≤ℤ a → m ≤ℤ n → left low high a m ≤ℤ left low high a n
  unfolding left
  left_up a (pos m) (pos n) w h k = clamp_mono low high (grows a m n h (omega (arith, ints)))
  left_up a (pos m) (negsuc n) w h k = absurd (omega (arith, ints))
  left_up a (negsuc m) (pos n) w h k = le_trans (floor_of_natural a (suc m) h).below (at_least_itself a n w h)
  left_up a (negsuc m) (negsuc n) w h k = down_right a (suc n) (suc m) h (omega (arith, ints))

  left_down : (a m n : ℤ) → Within low high a → a ≤ℤ negsuc 0 → m ≤ℤ n → left low high a n ≤ℤ left low high a m
  unfolding left
  left_down a (pos m) (pos n) w h k = clamp_mono low high (falls a m n h (omega (arith, ints)))
  left_down a (pos m) (negsuc n) w h k = absurd (omega (arith, ints))
  left_down a (negsuc m) (pos n) w h k = le_trans (at_most_itself a n w h) (floor_of_negative a (suc m) h).above
  left_down a (negsuc m) (negsuc n) w h k = up_right a (suc n) (suc m) h (omega (arith, ints))

  pub left_turns : Turns (left low high) low high
  left_turns = record { number = left_number; up = left_up; down = left_down }

  rounded_number : (a b n : ℤ) → a ≤ℤ b → left_rounded low high a n ≤ℤ left_rounded low high b n
  unfolding left_rounded
  rounded_number a b (pos n) h = clamp_mono low high (mul_keeps {c = pos (2 ^ n)} (omega (arith, ints)) h)
  rounded_number a b (negsuc n) h = floor_mono (suc n) (omega (arith, ints))

  left_rounded_up : (a m n : ℤ) → Within low high a → pos 0 ≤ℤ a → m ≤ℤ n → left_rounded low high a m ≤ℤ left_rounded low high a n
  unfolding left_rounded
  left_rounded_up a (pos m) (pos n) w h k = clamp_mono low high (grows a m n h (omega (arith, ints)))
  left_rounded_up a (pos m) (negsuc n) w h k = absurd (omega (arith, ints))
  left_rounded_up a (negsuc m) (pos n) w h k = le_trans (le_trans (rounded_down a 0 m h (omega arith)) (rounded_once_less a h)) (at_least_itself a n w h)
  left_rounded_up a (negsuc m) (negsuc n) w h k = rounded_down a n m h (omega (arith, ints))

  left_rounded_down : (a m n : ℤ) → Within low high a → a ≤ℤ negsuc 0 → m ≤ℤ n → left_rounded low high a n ≤ℤ left_rounded low high a m
  unfolding left_rounded
  left_rounded_down a (pos m) (pos n) w h k = clamp_mono low high (falls a m n h (omega (arith, ints)))
  left_rounded_down a (pos m) (negsuc n) w h k = absurd (omega (arith, ints))
  left_rounded_down a (negsuc m) (pos n) w h k = le_trans (at_most_itself a n w h) (le_trans (rounded_once_more a h) (rounded_up a 0 m h (omega arith)))
  left_rounded_down a (negsuc m) (negsuc n) w h k = rounded_up a n m h (omega (arith, ints))

  pub rounded_turns : Turns (left_rounded low high) low high
  rounded_turns = record { number = rounded_number; up = left_rounded_up; down = left_rounded_down }

-- the values of such a function over numbers from p to q and counts from m to n
module _ (f : ℤ → ℤ → ℤ) (low high : ℤ) (t : Turns f low high) (p q m n : ℤ) where
  pub turn_above : (a k : ℤ) → Within low high p → Within p q a → Within m n k →
      ((pos 0 ≤ℤ p) → f p m ≤ℤ f a k) × ((p ≤ℤ negsuc 0) → f p n ≤ℤ f a k)
  turn_above a k in_type w v =
      ((λ h. le_trans (t.up p m k in_type h v.above) (t.number p a k w.above)), (λ h. le_trans (t.down p k n in_type h v.below) (t.number p a k w.above)))

  pub turn_below : (a k : ℤ) → Within low high q → Within p q a → Within m n k →
      ((pos 0 ≤ℤ q) → f a k ≤ℤ f q n) × ((q ≤ℤ negsuc 0) → f a k ≤ℤ f q m)
  turn_below a k in_type w v =
      ((λ h. le_trans (t.number a q k w.below) (t.up q k n in_type h v.below)), (λ h. le_trans (t.number a q k w.below) (t.down q m k in_type h v.above)))
