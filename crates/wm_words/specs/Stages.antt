-- The number of stages of a generated example: decimal, 1 to 500, without a leading zero.
use Rattle.std.specs.Prelude.{ℕ, ◌+◌, ◌-◌, ◌*◌, if◌then◌else◌, ◌==◌, nat_le, List, [], ◌∷◌, Option, Some, None}
use Rattle.std.specs.Char.{is_ascii_digit}

-- the number whose digits are those of n and then these; none where a byte is no digit
abbrev pub spelled_after : ℕ → List ℕ → Option ℕ
spelled_after n [] = Some n
spelled_after n (byte ∷ bytes) = if is_ascii_digit byte then spelled_after (10 * n + (byte - 48)) bytes else None

-- the number, where it is a number of stages
abbrev pub in_range : Option ℕ → Option ℕ
in_range None = None
in_range (Some n) = if nat_le n 500 then Some n else None

-- the number of stages that a word spells; the first digit is not 0, so the number is at least 1
abbrev pub stages_of : List ℕ → Option ℕ
stages_of [] = None
stages_of (first ∷ rest) = if first == 48 then None else in_range (spelled_after 0 (first ∷ rest))
