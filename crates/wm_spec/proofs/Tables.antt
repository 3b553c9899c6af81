-- The members of a table, by its entries.
use Rattle.std.proofs.Common.{◌≡◌, refl, ap, ◌∙◌, ℕ, ◌+◌, List, [], ◌∷◌, length, None, arith}
use Rattle.toml.specs.Data.{array}
use Rattle.toml.specs.View.{members_view, items_view}
use Rattle.toml.specs.declared.value.Value.{Value}
use Rattle.toml.proofs.Views.{Entry}
use Rattle.wm_spec.specs.Inputs.{count_of, bounds_in}

pub members_count : (entries : List Entry) → count_of (members_view entries) ≡ length entries
members_count [] = refl
members_count (e ∷ es) = ap (λ n. 1 + n) (members_count es) ∙ omega arith

-- a list that has not two items is no range
pub bounds_in-other : (items : List Value) → (length items ≡ 2 → ⊥) → bounds_in (array (items_view items)) ≡ None
bounds_in-other [] other = refl
bounds_in-other (a ∷ []) other = refl
bounds_in-other (a ∷ b ∷ []) other = absurd (other refl)
bounds_in-other (a ∷ b ∷ c ∷ rest) other = refl
