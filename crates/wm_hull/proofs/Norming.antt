-- Norms: they fall as a positive number grows, and rise as a negative one does.
use Rattle.std.proofs.Common.{⊎_elim, ℕ, zero, suc, ◌+◌, ◌*◌, ◌≤◌, ◌<◌, ◌^◌, ℤ, pos, negsuc, ◌≤ℤ◌, arith}
use Rattle.std.proofs.Math.Nat.{mul-le-mul_right}
use Rattle.std.proofs.lemmas.Bool.{cases_lt}
use Rattle.std.proofs.lemmas.Int.{ints}
use Rattle.wm_ops.specs.Norms.{doublings, norm_in, IsLeastShift}
use Rattle.wm_ops.proofs.NormLemmas.{doublings_least}

-- a least shift that reaches the limit is at most any shift that does
at_most : (limit n c d : ℕ) → IsLeastShift limit n c → limit ≤ n * 2 ^ d → c ≤ d
at_most limit n c d l h = ⊎_elim (λ below. absurd (let less = l.least d below in omega arith)) (λ k. k) (cases_lt d c)

enough : (places n : ℕ) → 0 < n → 2 ^ places ≤ n * 2 ^ places
enough places n h = let k : 1 ≤ n = omega arith in omega (arith, mul-le-mul_right (2 ^ places) k)

-- a greater number needs no more doublings, and none needs more than there is room for
pub doublings_fall : (places m n : ℕ) → 0 < m → m ≤ n → doublings places (2 ^ places) n ≤ doublings places (2 ^ places) m
doublings_fall places m n h k =
    let lesser = doublings_least places (2 ^ places) m (enough places m h) in
    let greater = doublings_least places (2 ^ places) n (enough places n (omega arith)) in
    at_most (2 ^ places) n _ (doublings places (2 ^ places) m) greater (let r = lesser.reaches in omega (arith, mul-le-mul_right (2 ^ doublings places (2 ^ places) m) k))

pub doublings_room : (places n : ℕ) → 0 < n → doublings places (2 ^ places) n ≤ places
doublings_room places n h = at_most (2 ^ places) n _ places (doublings_least places (2 ^ places) n (enough places n h)) (enough places n h)

pub norm_falls : (places : ℕ) (a b : ℤ) → pos 1 ≤ℤ a → a ≤ℤ b → norm_in places b ≤ norm_in places a
norm_falls places (pos zero) b h k = absurd (omega (arith, ints))
norm_falls places (negsuc a) b h k = absurd (omega (arith, ints))
norm_falls places (pos (suc a)) (pos zero) h k = absurd (omega (arith, ints))
norm_falls places (pos (suc a)) (negsuc b) h k = absurd (omega (arith, ints))
norm_falls places (pos (suc a)) (pos (suc b)) h k = doublings_fall places (suc a) (suc b) (omega arith) (omega (arith, ints))

pub norm_rises : (places : ℕ) (a b : ℤ) → b ≤ℤ negsuc 0 → a ≤ℤ b → norm_in places a ≤ norm_in places b
norm_rises places (pos a) (pos b) h k = absurd (omega (arith, ints))
norm_rises places (negsuc a) (pos b) h k = absurd (omega (arith, ints))
norm_rises places (pos a) (negsuc b) h k = absurd (omega (arith, ints))
norm_rises places (negsuc zero) (negsuc zero) h k = omega arith
norm_rises places (negsuc zero) (negsuc (suc b)) h k = absurd (omega (arith, ints))
norm_rises places (negsuc (suc a)) (negsuc zero) h k = let r = doublings_room places (suc a) (omega arith) in omega arith
norm_rises places (negsuc (suc a)) (negsuc (suc b)) h k = doublings_fall places (suc b) (suc a) (omega arith) (omega (arith, ints))

-- no norm is above that of -1, and that of 1 is above that of every other number
pub norm_most : (places : ℕ) (a : ℤ) → norm_in places a ≤ places + 1
norm_most places (pos zero) = omega arith
norm_most places (pos (suc a)) = let r = doublings_room places (suc a) (omega arith) in omega arith
norm_most places (negsuc zero) = omega arith
norm_most places (negsuc (suc a)) = let r = doublings_room places (suc a) (omega arith) in omega arith
