-- A point that keeps its flag is like the one before.
use Rattle.std.proofs.Common.{◌≡◌, inl, inr, ℕ, sym, subst}
use Rattle.std.proofs.lemmas.Bool.{cases_eq}
use Rattle.wm_domain.specs.Points.{Point, Alike, SameBut}

pub kept_alike : (n m v : ℕ) (was p : Point) → SameBut v was p → p.values v ≡ was.values v → Alike n m was p
kept_alike n m v was p s e = record {
  numbers = λ u h. elim (cases_eq u v) [
    | inl same ↦ subst (λ (k : ℕ). p.values k ≡ was.values k) (sym same) e
    | inr other ↦ s.numbers u other
  ];
  cells = λ a h. s.cells a;
}
