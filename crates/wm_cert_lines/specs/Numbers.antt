-- Decimal numbers without leading zeros. Those of a text are below 10^12 in size.
use Rattle.std.specs.Prelude.{ℕ, ◌+◌, ◌-◌, ◌*◌, if◌then◌else◌, ◌&&◌, ◌==◌, nat_le, nat_lt, Bool, min, ℤ, pos, neg_ℤ, List, [], ◌∷◌, Option, Some, None}

abbrev pub is_digit : ℕ → Bool
is_digit b = nat_le 48 b && nat_le b 57

-- a number with one more digit; large ones are all alike
abbrev pub grown : ℕ → ℕ → ℕ
grown value b = min (value * 10 + (b - 48)) 1000000000000

abbrev pub small : ℕ → Option ℕ
small value = if nat_lt value 1000000000000 then Some value else None

abbrev pub digits_from : ℕ → List ℕ → Option ℕ
digits_from value [] = small value
digits_from value (b ∷ bs) = if is_digit b then digits_from (grown value b) bs else None

abbrev pub nought_alone : List ℕ → Option ℕ
nought_alone [] = Some 0
nought_alone (b ∷ bs) = None

abbrev pub natural : List ℕ → Option ℕ
natural [] = None
natural (b ∷ bs) = if b == 48 then nought_alone bs else digits_from 0 (b ∷ bs)

abbrev pub as_whole : Option ℕ → Option ℤ
as_whole None = None
as_whole (Some n) = Some (pos n)

-- no minus stands before 0
abbrev pub as_negative : Option ℕ → Option ℤ
as_negative None = None
as_negative (Some n) = if n == 0 then None else Some (neg_ℤ (pos n))

abbrev pub whole : List ℕ → Option ℤ
whole [] = None
whole (b ∷ bs) = if b == 45 then as_negative (natural bs) else as_whole (natural (b ∷ bs))

-- a number from 1 to 4294967295, counted from 0
abbrev pub placed : Option ℕ → Option ℕ
placed None = None
placed (Some n) = if nat_le 1 n && nat_le n 4294967295 then Some (n - 1) else None

abbrev pub ordinal : List ℕ → Option ℕ
ordinal word = placed (natural word)
