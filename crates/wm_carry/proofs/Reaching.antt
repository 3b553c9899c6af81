-- Least states through several calls: a bound that all wanted points meet is met by each point of the least state, and a
-- state holds each point that meets all its bounds.
use Rattle.std.proofs.Common.{ℤ, Option, Some, None, Bool, sym, subst}
use Rattle.wm_arrays.specs.declared.summary.Summary.{Summary}
use Rattle.wm_arrays.specs.declared.summary.Summary.TheVariants.{Empty, Range}
use Rattle.wm_domain.specs.declared.shape.Shape.{Shape}
use Rattle.wm_domain.specs.Points.{Point, AllowsCell}
use Rattle.wm_domain.specs.States.{InShape, Keeps, IsLeast}
use Rattle.wm_domain.specs.Bounds.{Bound, NoPoint, TermBelow, SumBelow, CellIn, Meets, IsBound, IsCutBy, MeetsAll}
use Rattle.wm_carry.proofs.Extending.{stable_le}

-- ---- bounds are met or not

cell_met : (s : Summary) (c : Option ℤ) → ((AllowsCell s c → ⊥) → ⊥) → AllowsCell s c
cell_met s None h = tt
cell_met Empty (Some z) h = h (λ f. f)
cell_met (Range r) (Some z) h = record { above = stable_le r.low z (λ no. h (λ w. no w.above)); below = stable_le z r.high (λ no. h (λ w. no w.below)) }

pub bound_met : (b : Bound) (p : Point) → ((Meets b p → ⊥) → ⊥) → Meets b p
bound_met NoPoint p h = h (λ f. f)
bound_met (TermBelow t c) p h = stable_le _ c h
bound_met (SumBelow t u c) p h = stable_le _ c h
bound_met (CellIn a s) p h = cell_met s (p.cells a) h

-- ---- the laws of a domain

pub record Laws (S : Type 0) (pairs : Bool) (holds : S → Point → Type 0) (shape_of : S → Shape) : Type 0 where
  pub inside : (s : S) (p : Point) → holds s p → InShape (shape_of s) p
  pub closed : (s : S) (p : Point) → MeetsAll pairs (shape_of s) (holds s) p → holds s p
  pub cuts : (s : S) (p : Point) → holds s p → (b : Bound) → IsBound pairs (shape_of s) b → IsCutBy holds shape_of s b

-- a wanted point in the full ranges of the shape
pub record Wanted (shape : Shape) (P : Point → Type 0) (p : Point) : Type 0 where
  pub inside : InShape shape p
  pub is : P p

-- states that hold the same points, or more, are least for the same points, or fewer
pub least_as : {S : Type 0} (holds : S → Point → Type 0) (shape_of : S → Shape) (s : S) (P Q : Point → Type 0) → ((p : Point) → InShape (shape_of s) p → P p → Q p) → IsLeast holds shape_of s P → IsLeast holds shape_of s Q
least_as holds shape_of s P Q f l = record {
  least = λ t e k p h. l.least t e (record { kept = λ x i w. k.kept x i (f x (subst (λ (r : Shape). InShape r x) e i) w) }) p h;
}

-- no point is the least of any
pub bare_least : {S : Type 0} (holds : S → Point → Type 0) (shape_of : S → Shape) (s : S) (P : Point → Type 0) → ((p : Point) → holds s p → ⊥) → IsLeast holds shape_of s P
bare_least holds shape_of s P none = record { least = λ t e k p h. absurd (none p h) }

module _ (S : Type 0) (pairs : Bool) (holds : S → Point → Type 0) (shape_of : S → Shape) (laws : Laws S pairs holds shape_of) where
  -- what all wanted points meet
  pub reach : (s : S) (P : Point → Type 0) → Keeps holds shape_of s P → IsLeast holds shape_of s P → (b : Bound) → IsBound pairs (shape_of s) b → ((x : Point) → Wanted (shape_of s) P x → Meets b x) → (p : Point) → holds s p → Meets b p
  reach s P k l b ok all p h =
      let c = laws.cuts s p h b ok in
      ((c.points p).0 (l.least c.state c.same (record {
        kept = λ x i w. let j = subst (λ (r : Shape). InShape r x) c.same i in (c.points x).1 (k.kept x j w, all x (record { inside = j; is = w }));
      }) p h)).1

  -- the least state of some points, each of which meets what all wanted ones meet, is the least of the wanted ones
  pub through : (s : S) (P Q : Point → Type 0) → ((p : Point) → Wanted (shape_of s) P p → MeetsAll pairs (shape_of s) (Wanted (shape_of s) Q) p) → IsLeast holds shape_of s P → IsLeast holds shape_of s Q
  through s P Q f l = record {
    least = λ t e k p h. l.least t e (record {
      kept = λ x i w. laws.closed t x (λ b ok all.
          f x (record { inside = subst (λ (r : Shape). InShape r x) e i; is = w }) b (subst (λ (r : Shape). IsBound pairs r b) e ok)
          (λ q v. all q (k.kept q (subst (λ (r : Shape). InShape r q) (sym e) v.inside) v.is)));
    }) p h;
  }

  -- the least state of some points that cannot but be wanted is the least of the wanted ones
  pub through_not : (s : S) (P Q : Point → Type 0) → ((p : Point) → Wanted (shape_of s) P p → (Q p → ⊥) → ⊥) → IsLeast holds shape_of s P → IsLeast holds shape_of s Q
  through_not s P Q f l = through s P Q (λ p w b ok all. bound_met b p (λ no. f p w (λ q. no (all p (record { inside = w.inside; is = q }))))) l
