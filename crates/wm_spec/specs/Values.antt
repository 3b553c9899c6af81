-- What a single value of a specification may be: a file name, a name, a number in a range.
use Rattle.std.specs.Prelude.{ℕ, ℤ, pos, int_le, Bool, true, false, ◌&&◌, ◌||◌, not, if◌then◌else◌, ◌==◌, nat_le, List, [], ◌∷◌, length, Option, Some, None}
use Rattle.std.specs.List.{list_all}
use Rattle.std.specs.Char.{is_ascii_alphabetic, is_ascii_alphanumeric}
use Rattle.toml.specs.Data.{Data, string, integer}

-- a byte of a file name
abbrev pub is_file_byte : ℕ → Bool
is_file_byte byte = nat_le 32 byte && not (byte == 127)

-- a file name has 1 to 4,096 bytes, none of them below 32 and none 127
abbrev pub is_file_name : List ℕ → Bool
is_file_name text = nat_le 1 (length text) && (nat_le (length text) 4096 && list_all is_file_byte text)

-- a first byte of a name
abbrev pub is_name_start : ℕ → Bool
is_name_start byte = is_ascii_alphabetic byte || (byte == 95)

-- a byte of a name behind the first
abbrev pub is_name_byte : ℕ → Bool
is_name_byte byte = is_ascii_alphanumeric byte || (byte == 95)

-- a name has the form of a name token: a letter or underscore, and then letters, digits and underscores
abbrev pub is_name : List ℕ → Bool
is_name [] = false
is_name (first ∷ rest) = is_name_start first && list_all is_name_byte rest

-- the text of a value, where it passes the test
abbrev pub text_in : (List ℕ → Bool) → Data → Option (List ℕ)
text_in passes (string text) = if passes text then Some text else None
text_in passes _ = None

-- the number of a value, where it lies in a range
abbrev pub number_in : ℤ → ℤ → Data → Option ℤ
number_in low high (integer number) = if int_le low number && int_le number high then Some number else None
number_in low high _ = None
