-- Inputs that get numbers one after another.
use Rattle.std.proofs.Common.{◌≡◌, ◌≢◌, ◌⊎◌, inl, inr, ℕ, zero, suc, ◌<◌, ◌≤◌, ℤ, pos, Bool, true, false, cond, nat_lt, List, [], ◌∷◌, length, map, All, Option, Some, None, refl, sym, ◌∙◌, ap, subst, arith}
use Rattle.wm_interval.specs.declared.Interval.{Interval}
use Rattle.wm_interval.specs.Holds.{Holds}
use Rattle.wm_arrays.specs.declared.summary.Summary.TheVariants.{Range}
use Rattle.wm_domain.specs.declared.shape.Shape.{Shape}
use Rattle.wm_domain.specs.Points.{Point, Alike, AllowsCell, range_at, nought}
use Rattle.wm_domain.specs.States.{count_of, array_count, InShape}
use Rattle.wm_flow.specs.declared.action.Given.{Given}
use Rattle.wm_carry.specs.Following.{IsApart, IsWay, Carried, Moved}
use Rattle.wm_carry.proofs.Ranks.{side}
use Rattle.wm_filters.specs.Stays.{SameBeside}
use Rattle.wm_filters.proofs.Staying.{with_cell, with_cell-here, with_cell-there, equal_or_not}
use Rattle.wm_step.specs.Images.{InputsImage}
use Rattle.wm_supplied.specs.Filling.{IsFilled}

pub no_items : {A : Type 0} (xs : List A) → length xs ≡ 0 → xs ≡ []
no_items [] h = refl
no_items (x ∷ xs) h = absurd (omega arith)

pub rest_shorter : (it : Given) (rest gs : List Given) → gs ≡ it ∷ rest → length rest < length gs
rest_shorter it rest gs e = subst (λ (xs : List Given). length rest < length xs) (sym e) (omega arith)

module _ (P : Given → Type 0) (it : Given) (rest gs : List Given) where
  pub first_of : gs ≡ it ∷ rest → All P gs → P it
  first_of e h = let k : All P (it ∷ rest) = subst (λ (xs : List Given). All P xs) e h in k 0 it (omega arith)

  pub rest_of : gs ≡ it ∷ rest → All P gs → All P rest
  rest_of e h = let k : All P (it ∷ rest) = subst (λ (xs : List Given). All P xs) e h in λ j d l. k (suc j) d (omega (arith, l))

-- ---- arrays

pub none_alike : (variables arrays : ℕ) (gs : List Given) (was p : Point) → gs ≡ [] → IsFilled variables arrays (map (λ (g : Given). g.target) gs) was p → Alike variables arrays was p
none_alike variables arrays gs was p e f =
    let k : IsFilled variables arrays [] was p = subst (λ (xs : List Given). IsFilled variables arrays (map (λ (g : Given). g.target) xs) was p) e f in
    record { numbers = k.numbers; cells = λ a h. k.cells a h tt }

pub beside_self : (variables arrays : ℕ) (was p : Point) (a : ℕ) → SameBeside variables arrays a was (with_cell was a (p.cells a))
beside_self variables arrays was p a = record { numbers = λ v h. refl; cells = λ b h n. with_cell-there was a (p.cells a) b n }

pub rest_filled : (variables arrays : ℕ) (it : Given) (rest gs : List Given) (was p : Point) → gs ≡ it ∷ rest → IsFilled variables arrays (map (λ (g : Given). g.target) gs) was p
    → IsFilled variables arrays (map (λ (g : Given). g.target) rest) (with_cell was it.target (p.cells it.target)) p
rest_filled variables arrays it rest gs was p e f =
    let k : IsFilled variables arrays (map (λ (g : Given). g.target) (it ∷ rest)) was p = subst (λ (xs : List Given). IsFilled variables arrays (map (λ (g : Given). g.target) xs) was p) e f in
    record {
      numbers = k.numbers;
      cells = λ a h n. elim (equal_or_not a it.target) [
        | inl same ↦ subst (λ (x : ℕ). p.cells x ≡ (with_cell was it.target (p.cells it.target)).cells x) (sym same) (sym (with_cell-here was it.target (p.cells it.target)))
        | inr other ↦ k.cells a h (other, n) ∙ sym (with_cell-there was it.target (p.cells it.target) a other)
      ];
    }

-- ---- the point before the arrays change

cells_before : ℕ → Point → ℕ → Option ℤ
cells_before n was a = cond (nat_lt a n) (was.cells a) None

here : (n : ℕ) (was : Point) (a : ℕ) → a < n → cells_before n was a ≡ was.cells a
unfolding cells_before
here n was a h = let e : nat_lt a n ≡ true = grind arith in rw e refl

there : (n : ℕ) (was : Point) (a : ℕ) → n ≤ a → cells_before n was a ≡ None
unfolding cells_before
there n was a h = let e : nat_lt a n ≡ false = grind arith in rw e refl

pub point_before : Shape → Point → Point → Point
point_before s was p = record { values = p.values; cells = cells_before (array_count s) was }

none_some : {P : Type 0} {z : ℤ} → None ≡ Some z → P
none_some e = cc

module _ (s t : Shape) (Has : Point → Type 0) (scalars arrays : List Given) (p : Point) where
  pub before_moved : (m : InputsImage s t Has scalars arrays p) → Moved s t Has (map (λ (g : Given). g.target) scalars) [] (point_before s m.was p)
  unfolding point_before
  before_moved m = record {
    was = m.was;
    carried = record {
      point = m.carried.point;
      numbers = record { numbers = m.carried.numbers.numbers };
      cells = record {
        kept = λ a ht hs n. here (array_count s) m.was a hs;
        new = λ a ht hs n. there (array_count s) m.was a hs;
      };
    };
  }

  pub before_inside : IsWay s t → ((x : Point) → Has x → InShape s x) → InShape t p → (m : InputsImage s t Has scalars arrays p) → InShape t (point_before s m.was p)
  unfolding point_before
  before_inside way inside i m = record {
    numbers = i.numbers;
    set_cells = λ a z h e. elim (side a (array_count s)) [
      | inl l ↦ subst (λ (r : Interval). Holds r z) (sym (way.arrays_alike a h l)) ((inside m.was m.carried.point).set_cells a z l (sym (here (array_count s) m.was a l) ∙ e))
      | inr g ↦ none_some (sym (there (array_count s) m.was a g) ∙ e)
    ];
  }

  pub before_filled : (m : InputsImage s t Has scalars arrays p) → IsFilled (count_of t) (array_count t) (map (λ (g : Given). g.target) arrays) (point_before s m.was p) p
  unfolding point_before
  before_filled m = record {
    numbers = λ v h. refl;
    cells = λ a h n. elim (side a (array_count s)) [
      | inl l ↦ m.carried.cells.kept a h l n ∙ sym (here (array_count s) m.was a l)
      | inr g ↦ m.carried.cells.new a h g n ∙ sym (there (array_count s) m.was a g)
    ];
  }

  pub before_numbers : (m : InputsImage s t Has scalars arrays p) → All (λ (g : Given). Holds g.range ((point_before s m.was p).values g.target)) scalars
  unfolding point_before
  before_numbers m = m.numbers

pub all_mapped : (n : ℕ) (gs : List Given) → All (λ (g : Given). g.target < n) gs → All (λ v. v < n) (map (λ (g : Given). g.target) gs)
all_mapped n [] h k d l = absurd (omega (arith, l))
all_mapped n (g ∷ gs) h zero d l = h 0 g (omega arith)
all_mapped n (g ∷ gs) h (suc k) d l = all_mapped n gs (λ j e q. h (suc j) e (omega (arith, q))) k d (omega (arith, l))
