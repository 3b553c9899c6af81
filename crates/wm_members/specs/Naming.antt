-- The names of members.
use Rattle.std.specs.Prelude.{ℕ, List, [], ◌∷◌, ◌++◌}
use Rattle.wm_lang.specs.declared.expression.Identifier.{Identifier}

-- `v.m`: a point between the two names
abbrev pub member_name : List ℕ → List ℕ → List ℕ
member_name object member = object ++ 46 ∷ [] ++ member

abbrev pub member_identifier : Identifier → List ℕ → Identifier
member_identifier object member = record { name = member_name object.name member; at = object.at }
