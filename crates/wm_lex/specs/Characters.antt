-- Kinds of bytes, and what a list of characters spells.
use Rattle.std.specs.Prelude.{ℕ, zero, suc, Bool, ◌&&◌, ◌||◌, ◌==◌, if◌then◌else◌, nat_le, List, [], ◌∷◌, map}
use Rattle.wm_lang.specs.declared.place.Place.{Place}
use Rattle.wm_lex.specs.declared.character.Character.{Character}

-- the place of a character in this file
abbrev pub place_of : ℕ → Character → Place
place_of file c = record { file = file; line = c.line; column = c.column }

-- space, tab, line feed, vertical tab, form feed and carriage return
abbrev pub is_space : ℕ → Bool
is_space b = b == 32 || (nat_le 9 b && nat_le b 13)

-- a letter or the low line
abbrev pub is_letter : ℕ → Bool
is_letter b = (nat_le 97 b && nat_le b 122) || ((nat_le 65 b && nat_le b 90) || b == 95)

abbrev pub is_digit : ℕ → Bool
is_digit b = nat_le 48 b && nat_le b 57

-- what a word goes on with
abbrev pub is_word_byte : ℕ → Bool
is_word_byte b = is_letter b || is_digit b

-- what a number goes on with
abbrev pub is_number_byte : ℕ → Bool
is_number_byte b = is_word_byte b || b == 46

-- how many characters from the first on pass a test of their bytes
abbrev pub run_length : (ℕ → Bool) → List Character → ℕ
run_length test [] = 0
run_length test (c ∷ rest) = if test c.byte then suc (run_length test rest) else 0

abbrev pub bytes_of : List Character → List ℕ
bytes_of characters = map (λ c. c.byte) characters
