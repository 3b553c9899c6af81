-- The numbers that a grid has beside a number c: with each its negative, and of all of them those of 64 bits, which are
-- all where c has 32 bits.
use Rattle.std.specs.Prelude.{ℕ, zero, suc, ◌^◌, List, [], ◌∷◌, ◌++◌, ℤ, pos, negsuc, ◌+ℤ◌, ◌-ℤ◌, int_lt, neg_ℤ, if◌then◌else◌}

unfoldable pub kept : ℤ → List ℤ
kept z = if int_lt z (negsuc 9223372036854775807) then [] else if int_lt (pos 9223372036854775807) z then [] else z ∷ []

unfoldable pub both : ℤ → List ℤ
both z = kept z ++ kept (neg_ℤ z)

-- c - 1, c and c + 1
unfoldable pub next_to : ℤ → List ℤ
next_to c = both (c +ℤ negsuc 0) ++ both (c +ℤ pos 0) ++ both (c +ℤ pos 1)

-- c + s - 1 and c + s
unfoldable pub stepped_by : ℤ → ℕ → List ℤ
stepped_by c s = both (c +ℤ (pos s -ℤ pos 1)) ++ both (c +ℤ pos s)

-- these for each step s
abbrev pub stepped : ℤ → List ℕ → List ℤ
stepped c [] = []
stepped c (s ∷ steps) = stepped_by c s ++ stepped c steps

unfoldable pub near : List ℕ → ℤ → List ℤ
near steps c = next_to c ++ stepped c steps

-- the first n powers of two, and the numbers next to them
abbrev pub powers_to : ℕ → List ℤ
powers_to zero = []
powers_to (suc k) = powers_to k ++ next_to (pos (2 ^ k))
