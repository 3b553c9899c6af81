-- Words of a line, between single spaces.
use Rattle.std.specs.Prelude.{ℕ, zero, suc, if◌then◌else◌, ◌==◌, List, [], ◌∷◌, take, drop}

-- how many bytes stand before the first space
abbrev pub word_length : List ℕ → ℕ
word_length [] = 0
word_length (b ∷ bs) = if b == 32 then 0 else suc (word_length bs)

unfoldable pub word : List ℕ → List ℕ
word line = take (word_length line) line

-- what stands behind the first space; nothing where there is none
unfoldable pub rest : List ℕ → List ℕ
rest line = drop (suc (word_length line)) line
