-- Laws on the order of whole numbers.
use Rattle.std.proofs.Common.{◌≡◌, ◌⊎◌, inl, inr, arith, ℤ, ◌+ℤ◌, ◌-ℤ◌, neg_ℤ, ◌≤ℤ◌, ◌<ℤ◌}
use Rattle.std.proofs.lemmas.Int.{ints, by_lt_z}
use Rattle.std.specs.Int.{int_max, int_min}
use Rattle.wm_numbers.specs.Within.{Within}

pub le_refl : (a : ℤ) → a ≤ℤ a
le_refl a = omega (arith, ints)

pub le_trans : {a b c : ℤ} → a ≤ℤ b → b ≤ℤ c → a ≤ℤ c
le_trans h k = omega (arith, ints)

pub le_antisym : {a b : ℤ} → a ≤ℤ b → b ≤ℤ a → a ≡ b
le_antisym h k = omega (arith, ints)

pub lt_le : {a b : ℤ} → a <ℤ b → a ≤ℤ b
lt_le h = omega (arith, ints)

pub le_or_lt : (a b : ℤ) → (a ≤ℤ b) ⊎ (b <ℤ a)
le_or_lt a b = by_lt_z b a (λ h. inr h) (λ h. inl h)

pub le_of_eq : {a b : ℤ} → a ≡ b → a ≤ℤ b
le_of_eq e = omega (arith, ints)

pub add_mono : {a b c d : ℤ} → a ≤ℤ b → c ≤ℤ d → (a +ℤ c) ≤ℤ (b +ℤ d)
add_mono h k = omega (arith, ints)

pub sub_mono : {a b c d : ℤ} → a ≤ℤ b → c ≤ℤ d → (a -ℤ d) ≤ℤ (b -ℤ c)
sub_mono h k = omega (arith, ints)

pub neg_mono : {a b : ℤ} → a ≤ℤ b → neg_ℤ b ≤ℤ neg_ℤ a
neg_mono h = omega (arith, ints)

-- the ends of a range lie in it
pub low_within : {a b : ℤ} → a ≤ℤ b → Within a b a
low_within h = record { above = le_refl _; below = h }

pub high_within : {a b : ℤ} → a ≤ℤ b → Within a b b
high_within h = record { above = h; below = le_refl _ }

-- a range in a wider one
pub within_wider : {a b c d z : ℤ} → c ≤ℤ a → b ≤ℤ d → Within a b z → Within c d z
within_wider h k w = record { above = le_trans h w.above; below = le_trans w.below k }

pub max_cases : (x y : ℤ) → ((y ≤ℤ x) × (int_max x y ≡ x)) ⊎ ((x ≤ℤ y) × (int_max x y ≡ y))
max_cases x y = grind (arith, ints)

pub min_cases : (x y : ℤ) → ((x ≤ℤ y) × (int_min x y ≡ x)) ⊎ ((y ≤ℤ x) × (int_min x y ≡ y))
min_cases x y = grind (arith, ints)
