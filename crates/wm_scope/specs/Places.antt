-- Where each word was declared last.
use Rattle.std.specs.Prelude.{ℕ, List, [], ◌∷◌, Option, Some, None, if◌then◌else◌}
use Rattle.std.specs.Str.{bytes_eq}
use Rattle.wm_scope.specs.declared.places.Last.{Last}

abbrev pub last_in : List ℕ → List (List ℕ × Option Last) → Option Last
last_in word [] = None
last_in word (e ∷ es) = if bytes_eq word e.0 then e.1 else last_in word es

abbrev pub put : List ℕ → Last → List (List ℕ × Option Last) → List (List ℕ × Option Last)
put word last [] = (word, Some last) ∷ []
put word last (e ∷ es) = if bytes_eq word e.0 then (e.0, Some last) ∷ es else e ∷ put word last es

-- a word that is not there stays so
abbrev pub put_back : List ℕ → Option Last → List (List ℕ × Option Last) → List (List ℕ × Option Last)
put_back word before [] = []
put_back word before (e ∷ es) = if bytes_eq word e.0 then (e.0, before) ∷ es else e ∷ put_back word before es
