-- The entries of a map, as names with values.
use Rattle.std.proofs.Common.{◌≡◌, ℕ, Bool, true, false, List, [], ◌∷◌, ◌++◌, Option, Some, None, refl, ap, sym, ◌∙◌, append_assoc, is_some, if◌then◌else◌}
use Rattle.std.specs.Prelude.{bytes_eq}
use Rattle.std.specs.Borrow.{Bor}
use Rattle.std.specs.Map.{lookup, values_of}
use Rattle.std.specs.Option.{option_copied}
use Rattle.indexmap.specs.IndexMap.{insert_entry}
use Rattle.wm_members.specs.Tables.{named, found, added, all_of}

module _ {V : Type 0} where
  -- what the map finds
  pub lookup-named : (name : Bor (List ℕ)) (es : List (Bor (List ℕ) × V)) → lookup (λ k. bytes_eq name.now k.now) es ≡ found name.now (named es)
  lookup-named name [] = refl
  lookup-named name (e ∷ es) = ap (λ r. if bytes_eq name.now e.0.now then Some e.1 else r) (lookup-named name es)

  pub values-named : (es : List (Bor (List ℕ) × V)) → values_of es ≡ all_of (named es)
  values-named [] = refl
  values-named (e ∷ es) = ap (λ r. e.1 ∷ r) (values-named es)

  pub named-behind : (es : List (Bor (List ℕ) × V)) (e : Bor (List ℕ) × V) → named (es ++ e ∷ []) ≡ named es ++ (e.0.now, e.1) ∷ []
  named-behind [] e = refl
  named-behind (x ∷ es) e = ap (λ r. (x.0.now, x.1) ∷ r) (named-behind es e)

  pub is_some-copied : (o : Option (Bor V)) → is_some (option_copied o) ≡ is_some o
  is_some-copied None = refl
  is_some-copied (Some x) = refl

  pub none-found : (o : Option (Bor V)) (p : Option V) → is_some o ≡ false → option_copied o ≡ p → p ≡ None
  none-found None p h e = sym e
  none-found (Some x) p h e = cc

  -- a name that is there adds nothing, another goes behind them
  pub added-there : (name : List ℕ) (v : V) (es : List (List ℕ × V)) → is_some (found name es) ≡ true → added name v es ≡ es
  added-there name v es there = ap (λ b. if b then es else es ++ (name, v) ∷ []) there

  pub added-new : (name : List ℕ) (v : V) (es : List (List ℕ × V)) → is_some (found name es) ≡ false → added name v es ≡ es ++ (name, v) ∷ []
  added-new name v es new = ap (λ b. if b then es else es ++ (name, v) ∷ []) new
