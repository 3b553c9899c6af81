-- Declared names with what their words stood for before, and the places that fit them.
use Rattle.std.specs.Prelude.{ℕ, suc, ◌≡◌, Bool, false, not, nat_lt, List, [], ◌∷◌, ◌++◌, Option, Some, None, if◌then◌else◌}
use Rattle.std.specs.Str.{bytes_eq}
use Rattle.wm_scope.specs.declared.meaning.Meaning.{Meaning}
use Rattle.wm_scope.specs.declared.meaning.Named.{Named}
use Rattle.wm_scope.specs.declared.places.Last.{Last}
use Rattle.wm_scope.specs.declared.names.Entry.{Entry}
use Rattle.wm_scope.specs.Places.{last_in}

abbrev pub names_of : List Entry → List Named
names_of [] = []
names_of (e ∷ es) = e.named ∷ names_of es

-- the last of the names that is this one, the first of them at a place, else what was found before
abbrev pub last_from : ℕ → List ℕ → List Named → Option Last → Option Last
last_from place word [] found = found
last_from place word (named ∷ rest) found =
    last_from (suc place) word rest (if bytes_eq word named.name then Some (record { place = place; meaning = named.meaning }) else found)

abbrev pub last_of : List ℕ → List Named → Option Last
last_of word names = last_from 0 word names None

-- each has what its word stood for before
abbrev pub AreLinked : List Named → List Entry → Type 0
AreLinked before [] = Unit
AreLinked before (e ∷ es) = (e.before ≡ last_of e.named.name before) × AreLinked (before ++ e.named ∷ []) es

abbrev pub AreFound : List (List ℕ × Option Last) → List Named → Type 0
AreFound places names = (word : List ℕ) → last_in word places ≡ last_of word names

abbrev pub AreIndexed : List (List ℕ × Option Last) → List Entry → Type 0
AreIndexed places entries = AreFound places (names_of entries) × AreLinked [] entries

abbrev pub meaning_or : Option Last → Meaning → Meaning
meaning_or None before = before
meaning_or (Some last) before = last.meaning

-- it stands behind so many
abbrev pub is_behind : ℕ → Option Last → Bool
is_behind outer None = false
is_behind outer (Some last) = not (nat_lt last.place outer)
