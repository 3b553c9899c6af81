-- The points of a state at the next node.
use Rattle.std.proofs.Common.{◌≡◌, inl, inr, ℕ, ◌+◌, ◌<◌, ℤ, List, [], length, Option, Some, None, sym, ◌∙◌, subst}
use Rattle.std.specs.Prelude.{slice_index_or}
use Rattle.wm_domain.specs.declared.shape.Shape.{Shape}
use Rattle.wm_domain.specs.Points.{Point}
use Rattle.wm_domain.specs.States.{array_count, Keeps}
use Rattle.wm_domain.specs.Changes.{Projected, IsPicked, IsPickedCell}
use Rattle.wm_carry.specs.Following.{origin, array_origin, Comes, Moved}
use Rattle.wm_carry.proofs.Ranks.{side, count_is, array_here, array_new}

picked_from : (o : Option ℕ) (was : Point) (z : ℤ) → Comes was o z → IsPicked o was z
picked_from None was z h = h
picked_from (Some w) was z h = h

-- what follows a state is what is projected from it
pub projected_of : (s t : Shape) (Has : Point → Type 0) (picks arrays : List (Option ℕ)) (p : Point) → length picks ≡ length t.group + length t.singles → length arrays ≡ array_count t
    → ((v : ℕ) → v < length picks → slice_index_or picks v None ≡ origin s t v) → ((a : ℕ) → a < length arrays → slice_index_or arrays a None ≡ array_origin s a)
    → Moved s t Has [] [] p → Projected Has picks arrays p
projected_of s t Has picks arrays p long arrays_long each array_each m = record {
  was = m.was;
  point = m.carried.point;
  numbers = λ v h. subst (λ (o : Option ℕ). IsPicked o m.was (p.values v)) (sym (each v h))
      (picked_from (origin s t v) m.was (p.values v) (m.carried.numbers.numbers v (subst (λ (n : ℕ). v < n) (long ∙ sym (count_is t)) h) tt));
  cells = λ a h. elim (side a (array_count s)) [
    | inl l ↦ subst (λ (o : Option ℕ). IsPickedCell o m.was (p.cells a)) (sym (array_each a h ∙ array_here s a l)) (m.carried.cells.kept a (subst (λ (n : ℕ). a < n) arrays_long h) l tt)
    | inr g ↦ subst (λ (o : Option ℕ). IsPickedCell o m.was (p.cells a)) (sym (array_each a h ∙ array_new s a g)) (m.carried.cells.new a (subst (λ (n : ℕ). a < n) arrays_long h) g tt)
  ];
}

pub keeps_moved : {S : Type 0} (Holds : S → Point → Type 0) (shape_of : S → Shape) (state : S) (s t : Shape) (Has : Point → Type 0) (picks arrays : List (Option ℕ)) → length picks ≡ length t.group + length t.singles → length arrays ≡ array_count t
    → ((v : ℕ) → v < length picks → slice_index_or picks v None ≡ origin s t v) → ((a : ℕ) → a < length arrays → slice_index_or arrays a None ≡ array_origin s a)
    → Keeps Holds shape_of state (Projected Has picks arrays) → Keeps Holds shape_of state (Moved s t Has [] [])
keeps_moved Holds shape_of state s t Has picks arrays long arrays_long each array_each k = record {
  kept = λ p i m. k.kept p i (projected_of s t Has picks arrays p long arrays_long each array_each m);
}

-- ---- the other way

of_picked : (o : Option ℕ) (was : Point) (z : ℤ) → IsPicked o was z → Comes was o z
of_picked None was z h = tt
of_picked (Some w) was z h = h

-- what is projected from a state follows it
pub of_projected : (s t : Shape) (Has : Point → Type 0) (picks arrays : List (Option ℕ)) (p : Point) → length picks ≡ length t.group + length t.singles → length arrays ≡ array_count t
    → ((v : ℕ) → v < length picks → slice_index_or picks v None ≡ origin s t v) → ((a : ℕ) → a < length arrays → slice_index_or arrays a None ≡ array_origin s a)
    → Projected Has picks arrays p → Moved s t Has [] [] p
of_projected s t Has picks arrays p long arrays_long each array_each m = record {
  was = m.was;
  carried = record {
    point = m.point;
    numbers = record {
      numbers = λ v h none.
          let hv : v < length picks = subst (λ (n : ℕ). v < n) (count_is t ∙ sym long) h in
          of_picked (origin s t v) m.was (p.values v) (subst (λ (o : Option ℕ). IsPicked o m.was (p.values v)) (each v hv) (m.numbers v hv));
    };
    cells = record {
      kept = λ a h l none.
          let ha : a < length arrays = subst (λ (n : ℕ). a < n) (sym arrays_long) h in
          subst (λ (o : Option ℕ). IsPickedCell o m.was (p.cells a)) (array_each a ha ∙ array_here s a l) (m.cells a ha);
      new = λ a h g none.
          let ha : a < length arrays = subst (λ (n : ℕ). a < n) (sym arrays_long) h in
          subst (λ (o : Option ℕ). IsPickedCell o m.was (p.cells a)) (array_each a ha ∙ array_new s a g) (m.cells a ha);
    };
  };
}
