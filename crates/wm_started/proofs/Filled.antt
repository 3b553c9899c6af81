-- The point before the first values are put: it has the same numbers, and no cell is set.
use Rattle.std.proofs.Common.{◌≡◌, inl, inr, ℕ, ◌+◌, ◌-◌, ◌<◌, true, false, nat_lt, List, length, Option, Some, None, refl, sym, ap, subst, arith}
use Rattle.wm_domain.specs.declared.shape.Shape.{Shape}
use Rattle.wm_domain.specs.Points.{Point}
use Rattle.wm_domain.specs.States.{count_of, InShape}
use Rattle.wm_domain.specs.Changes.{IsUnset}
use Rattle.wm_flow.specs.declared.action.Given.{Given}
use Rattle.wm_carry.specs.Following.{origin, Comes}
use Rattle.wm_carry.proofs.Ranks.{side, count_is}
use Rattle.wm_step.specs.Images.{InputsImage}
use Rattle.wm_started.specs.Filling.{AreHeld, AreCells, AreUnset}

pub origin_self : (s : Shape) (v : ℕ) → v < count_of s → origin s s v ≡ Some v
unfolding origin
origin_self s v h = elim (side v (length s.group)) [
  | inl l ↦ let e : nat_lt v (length s.group) ≡ true = grind arith in rw e (ap Some (let f : 0 + v ≡ v = omega arith in f))
  | inr g ↦
      let inside : v < length s.group + length s.singles = subst (λ (n : ℕ). v < n) (count_is s) h in
      let e : nat_lt v (length s.group) ≡ false = grind arith in
      let f : nat_lt (v - length s.group) (length s.singles) ≡ true = grind arith in
      rw e (rw f (ap Some (omega (arith, g))))
]

pub blank : Point → Point
blank p = record { values = p.values; cells = λ a. None }

pub blank_unset : (s : Shape) (p : Point) → IsUnset s (blank p)
unfolding blank
blank_unset s p = λ a h. refl

none_some : {P : Type 0} {A : Type 0} {z : A} → None ≡ Some z → P
none_some e = cc

pub blank_inside : (s : Shape) (p : Point) → InShape s p → InShape s (blank p)
unfolding blank
blank_inside s p i = record { numbers = i.numbers; set_cells = λ a z h e. none_some e }

comes_same : (o : Option ℕ) (p : Point) (v : ℕ) → o ≡ Some v → Comes (blank p) o (p.values v)
unfolding blank
comes_same o p v e = subst (λ (x : Option ℕ). Comes (blank p) x (p.values v)) (sym e) refl

pub filled_image : (s : Shape) (Has : Point → Type 0) (scalars arrays : List Given) (p : Point) → Has (blank p) → AreHeld scalars p → AreCells arrays p → AreUnset s arrays p → InputsImage s s Has scalars arrays p
unfolding blank
filled_image s Has scalars arrays p has held cells unset = record {
  was = blank p;
  carried = record {
    point = has;
    numbers = record { numbers = λ v h a. comes_same (origin s s v) p v (origin_self s v h) };
    cells = record {
      kept = λ a h l n. unset.each a h n;
      new = λ a h g n. absurd (omega (arith, h, g));
    };
  };
  numbers = held;
  cells = cells;
}
