-- What names stand for.
use Rattle.std.specs.Prelude.{ℕ, Bool, true, false, if◌then◌else◌, List, [], ◌∷◌, Option, Some, None, codes}
use Rattle.std.specs.Str.{bytes_eq}
use Rattle.wm_ops.specs.declared.operators.Width.TheVariants.{W32}
use Rattle.wm_ops.specs.declared.words.Counted.{Counted}
use Rattle.wm_ops.specs.declared.words.Counted.TheVariants as counted
use Rattle.wm_ops.specs.Names.{word_named}
use Rattle.wm_program.specs.declared.tree.Scalar.TheVariants as scalar
use Rattle.wm_scope.specs.declared.meaning.Meaning.{Meaning}
use Rattle.wm_scope.specs.declared.meaning.Meaning.TheVariants as meaning
use Rattle.wm_scope.specs.declared.meaning.Named.{Named}

abbrev pub word_meaning : Option Counted → Meaning
word_meaning None = meaning.Nothing
word_meaning (Some (counted.Operator op)) = meaning.Operator op
word_meaning (Some (counted.Call call)) = meaning.Counting call
word_meaning (Some (counted.Word word)) = meaning.Nothing

-- outside of the source: the operators, the counting calls and `Overflow`
abbrev pub outermost : List ℕ → Meaning
outermost word =
    if bytes_eq word (codes "Overflow") then meaning.Scalar scalar.Overflow W32 false else word_meaning (word_named word)

abbrev pub meant : List ℕ → Named → Meaning → Meaning
meant word named before = if bytes_eq word named.name then named.meaning else before

-- the last of the names that is this one, else what was meant before
abbrev pub latest : List ℕ → List Named → Meaning → Meaning
latest word [] before = before
latest word (named ∷ rest) before = latest word rest (meant word named before)

abbrev pub is_among : List ℕ → List Named → Bool
is_among word [] = false
is_among word (named ∷ rest) = if bytes_eq word named.name then true else is_among word rest
