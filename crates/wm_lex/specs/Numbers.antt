-- The value of a number by its spelling: decimal, octal behind a 0, hexadecimal behind 0x or 0X, with at most one suffix L or l.
use Rattle.std.specs.Prelude.{ℕ, ◌+◌, ◌-◌, ◌*◌, Bool, false, ◌&&◌, ◌||◌, ◌==◌, if◌then◌else◌, nat_lt, nat_le, List, [], ◌∷◌, length, take, drop, slice_index, Option, Some, None, option_and_then, ℤ, pos, ◌-ℤ◌}

-- the value of a digit, 16 where the byte is no digit of any base
abbrev pub digit_value : ℕ → ℕ
digit_value b =
    if nat_le 48 b && nat_le b 57 then b - 48
    else (if nat_le 97 b && nat_le b 102 then b - 87
    else (if nat_le 65 b && nat_le b 70 then b - 55
    else 16))

-- the value of the digits behind those that have the value so far, none where one of them is no digit of the base
abbrev pub value_from : ℕ → ℕ → List ℕ → Option ℕ
value_from base so_far [] = Some so_far
value_from base so_far (b ∷ rest) = if nat_lt (digit_value b) base then value_from base (so_far * base + digit_value b) rest else None

-- the number that 32 bits of this value stand for
abbrev pub wrapped : ℕ → ℤ
wrapped value = if nat_le 2147483648 value then pos value -ℤ pos 4294967296 else pos value

abbrev pub up_to : ℕ → ℕ → Option ℤ
up_to limit value = if nat_le value limit then Some (wrapped value) else None

-- the value of one digit or more, none above the limit
abbrev pub in_base : ℕ → ℕ → List ℕ → Option ℤ
in_base base limit digits = if length digits == 0 then None else option_and_then (up_to limit) (value_from base 0 digits)

abbrev pub is_suffix : ℕ → Bool
is_suffix b = b == 76 || b == 108

abbrev pub without_suffix : List ℕ → List ℕ
without_suffix spelling = if is_suffix (slice_index spelling (length spelling - 1)) then take (length spelling - 1) spelling else spelling

abbrev pub is_hexadecimal : List ℕ → Bool
is_hexadecimal digits = slice_index digits 0 == 48 && (slice_index digits 1 == 120 || slice_index digits 1 == 88)

abbrev pub value_of : List ℕ → Option ℤ
value_of digits =
    if is_hexadecimal digits then in_base 16 4294967295 (drop 2 digits)
    else (if slice_index digits 0 == 48 then in_base 8 4294967295 digits
    else in_base 10 2147483647 digits)

abbrev pub number_of : List ℕ → Option ℤ
number_of spelling = value_of (without_suffix spelling)
