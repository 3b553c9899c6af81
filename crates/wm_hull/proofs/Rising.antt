-- Steps of formulas that keep or turn the order.
use Rattle.std.proofs.Common.{ℕ, ℤ, pos, negsuc, ◌+ℤ◌, ◌*ℤ◌, ◌≤ℤ◌, arith}
use Rattle.std.proofs.lemmas.Int.{ints}
use Rattle.wm_numbers.specs.Clamp.{clamp16, clamp32}
use Rattle.wm_numbers.specs.Floor.{floor_shift}
use Rattle.wm_numbers.proofs.Clamps.{clamp_mono}
use Rattle.wm_numbers.proofs.Floors.{floor_mono}
use Rattle.wm_numbers.proofs.Products.{mul_keeps, mul_keeps_right}

-- g keeps the order
pub record Rising (g : ℤ → ℤ) : Type 0 where
  pub keeps : (a b : ℤ) → a ≤ℤ b → g a ≤ℤ g b

pub clamp16_rises : Rising clamp16
clamp16_rises = record { keeps = λ a b h. clamp_mono (negsuc 32767) (pos 32767) h }

pub clamp32_rises : Rising clamp32
clamp32_rises = record { keeps = λ a b h. clamp_mono (negsuc 2147483647) (pos 2147483647) h }

pub floor_rises : (n : ℕ) → Rising (λ v. floor_shift v n)
floor_rises n = record { keeps = λ a b h. floor_mono n h }

pub add_rises : (k : ℤ) → Rising (λ v. v +ℤ k)
add_rises k = record { keeps = λ a b h. omega (arith, ints) }

pub times_rises : (n : ℕ) → Rising (λ v. v *ℤ pos n)
times_rises n = record { keeps = λ a b h. mul_keeps {c = pos n} (omega (arith, ints)) h }

pub times_right_rises : (n : ℕ) → Rising (λ v. pos n *ℤ v)
times_right_rises n = record { keeps = λ a b h. mul_keeps_right {c = pos n} (omega (arith, ints)) h }
