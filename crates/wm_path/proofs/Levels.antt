-- The bodies of so many levels by those of one level less.
use Rattle.std.proofs.Common.{◌≡◌, ℕ, zero, suc, ◌-◌, ◌≤◌, List, [], ◌++◌, length, drop, refl, ap, sym, ◌∙◌, arith}
use Rattle.std.proofs.lemmas.List.{append-nil, at_drop_all}
use Rattle.wm_path.specs.declared.choice.Body.{Body}
use Rattle.wm_path.specs.declared.choice.Choice.{Choice}
use Rattle.wm_path.specs.Fields.{Field}
use Rattle.wm_path.specs.Bodies.{bodies_by, bodies_of, body_of}

pub no_level : (levels : ℕ) (field : Field) (edges : List ℕ) → levels ≡ 0 → bodies_of levels field edges ≡ []
unfolding bodies_of
no_level zero field edges e = refl
no_level (suc levels) field edges e = absurd (omega (arith, e))

deeper : (levels : ℕ) (field : Field) (edges : List ℕ) → (levels ≡ 0 → ⊥) → bodies_of levels field edges ≡ bodies_by (body_of (levels - 1) field) field edges
unfolding bodies_of body_of
deeper zero field edges ne = absurd (ne refl)
deeper (suc levels) field edges ne =
    let same : levels ≡ suc levels - 1 = omega arith in
    ap (λ (n : ℕ). bodies_by (body_of n field) field edges) same

pub all_bodies : (levels : ℕ) (field : Field) (edges : List ℕ) (found : List (Body Choice)) (i : ℕ) → (levels ≡ 0 → ⊥) → length edges ≤ i → found ++ bodies_by (body_of (levels - 1) field) field (drop i edges) ≡ bodies_by (body_of (levels - 1) field) field edges → found ≡ bodies_of levels field edges
all_bodies levels field edges found i ne past h =
    sym (at_drop_all (λ xs. found ++ bodies_by (body_of (levels - 1) field) field xs) edges i past ∙ append-nil found)
    ∙ h ∙ sym (deeper levels field edges ne)
