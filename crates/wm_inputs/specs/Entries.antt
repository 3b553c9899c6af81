-- The functions with which a program begins.
use Rattle.std.specs.Prelude.{ℕ, suc, Bool, if◌then◌else◌, ◌==◌, List, [], ◌∷◌, ◌++◌, Option, Some, None}
use Rattle.std.specs.Str.{bytes_eq}
use Rattle.wm_program.specs.declared.program.FunctionInfo.{FunctionInfo}

abbrev pub is_named : List ℕ → List ℕ → Bool
is_named name word = bytes_eq name word

-- the number of the function of this name, where it has no parameters
abbrev pub entry_from : ℕ → List ℕ → List FunctionInfo → Option ℕ
entry_from k word [] = None
entry_from k word (function ∷ rest) =
    if is_named function.name word
    then (if function.parameters == 0 then Some k else None)
    else entry_from (suc k) word rest

unfoldable pub entry_of : List FunctionInfo → List ℕ → Option ℕ
entry_of functions word = entry_from 0 word functions

abbrev pub missing_at : Option ℕ → List ℕ → Option (List ℕ) → Option (List ℕ)
missing_at None name rest = Some name
missing_at (Some k) name rest = rest

-- the first of the names that is no function without parameters
abbrev pub missing_entry : List FunctionInfo → List (List ℕ) → Option (List ℕ)
missing_entry functions [] = None
missing_entry functions (name ∷ rest) = missing_at (entry_of functions name) name (missing_entry functions rest)

abbrev pub with_number : Option ℕ → List ℕ → List ℕ
with_number None numbers = numbers
with_number (Some number) numbers = numbers ++ number ∷ []

abbrev pub entries_from : List FunctionInfo → List (List ℕ) → List ℕ → List ℕ
entries_from functions [] numbers = numbers
entries_from functions (name ∷ rest) numbers = entries_from functions rest (with_number (entry_of functions name) numbers)

-- the numbers of the functions of these names, in the order of the names
unfoldable pub entries_of : List FunctionInfo → List (List ℕ) → List ℕ
entries_of functions names = entries_from functions names []
