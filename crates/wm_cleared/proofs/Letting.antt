-- The points of a state at the next node where some variables begin anew.
use Rattle.std.proofs.Common.{◌≡◌, ◌≢◌, inl, inr, ℕ, zero, suc, ◌+◌, ◌<◌, ◌≤◌, ℤ, pos, List, [], ◌∷◌, length, refl, sym, ◌∙◌, ap, subst, arith, Bool}
use Rattle.std.specs.Prelude.{slice_index_or}
use Rattle.std.proofs.lemmas.Int.{ints}
use Rattle.std.proofs.lemmas.Bool.{cases_eq}
use Rattle.wm_interval.specs.declared.Interval.{Interval}
use Rattle.wm_interval.specs.Holds.{Holds}
use Rattle.wm_domain.specs.declared.shape.Shape.{Shape}
use Rattle.wm_domain.specs.Points.{Point}
use Rattle.wm_domain.specs.States.{count_of, InShape, Keeps, IsLeast}
use Rattle.wm_domain.specs.Changes.{Freed}
use Rattle.wm_domain.proofs.Moving.{same_but_all}
use Rattle.wm_carry.specs.Following.{origin, Comes, IsApart, Moved}
use Rattle.wm_carry.proofs.Reaching.{Laws, least_as}
use Rattle.wm_cleared.proofs.Freeing.{freed_through}
use Rattle.wm_cleared.specs.Dropping.{Reset}

less_or : (j n : ℕ) → j < n + 1 → j ≢ n → j < n
less_or j n h ne = omega arith

last_of : (n : ℕ) → n < n + 1
last_of n = omega arith

one_less : (j n : ℕ) → j < n → j < n + 1
one_less j n h = omega arith

apart_at : (variables : List ℕ) (u : ℕ) → IsApart variables u → (j : ℕ) → j < length variables → u ≢ slice_index_or variables j 0
apart_at [] u a j h = absurd (omega (arith, h))
apart_at (x ∷ rest) u a zero h = a.0
apart_at (x ∷ rest) u a (suc j) h = apart_at rest u a.1 j (omega (arith, h))

in_zero : (r : Interval) (z : ℤ) → r.low ≡ pos 0 → r.high ≡ pos 0 → z ≡ pos 0 → Holds r z
in_zero r z e f h = record { above = omega (arith, ints, e, h); below = omega (arith, ints, f, h) }

-- what follows a state, with the first so many counters at 0
pub record ZeroSo (s t : Shape) (Has : Point → Type 0) (counters : List ℕ) (k : ℕ) (p : Point) : Type 0 where
  pub moved : Moved s t Has counters [] p
  pub zero : (j d : ℕ) → j < length counters → j < k → p.values (slice_index_or counters j d) ≡ pos 0

pub keeps_first : {S : Type 0} (Holds_of : S → Point → Type 0) (shape_of : S → Shape) (state : S) (s t : Shape) (Has : Point → Type 0) (counters : List ℕ) → Keeps Holds_of shape_of state (Moved s t Has counters []) → Keeps Holds_of shape_of state (ZeroSo s t Has counters 0)
keeps_first Holds_of shape_of state s t Has counters k = record { kept = λ p i h. k.kept p i h.moved }

pub least_first : {S : Type 0} (Holds_of : S → Point → Type 0) (shape_of : S → Shape) (state : S) (s t : Shape) (Has : Point → Type 0) (counters : List ℕ) → IsLeast Holds_of shape_of state (Moved s t Has counters []) → IsLeast Holds_of shape_of state (ZeroSo s t Has counters 0)
least_first Holds_of shape_of state s t Has counters l = least_as Holds_of shape_of state (Moved s t Has counters []) (ZeroSo s t Has counters 0) (λ p i h. record { moved = h; zero = λ j d hj none. absurd (omega (arith, none)) }) l

pub keeps_next : {S : Type 0} (Holds_of : S → Point → Type 0) (shape_of : S → Shape) (state next : S) (s t : Shape) (Has : Point → Type 0) (counters : List ℕ) (k v : ℕ) (r : Interval) → v ≡ slice_index_or counters k 0 → k < length counters → r.low ≡ pos 0 → r.high ≡ pos 0 → shape_of next ≡ shape_of state
    → Keeps Holds_of shape_of state (ZeroSo s t Has counters k) → Keeps Holds_of shape_of next (Freed (Holds_of state) v r) → Keeps Holds_of shape_of next (ZeroSo s t Has counters (k + 1))
keeps_next Holds_of shape_of state next s t Has counters k v r ev hk el eh es a b = record {
  kept = λ p i h. b.kept p i (record {
    was = p;
    point = a.kept p (subst (λ (x : Shape). InShape x p) es i) (record { moved = h.moved; zero = λ j d hj l. h.zero j d hj (one_less j k l) });
    others = same_but_all v p;
    value = in_zero r (p.values v) el eh (subst (λ (u : ℕ). p.values u ≡ pos 0) (sym ev) (h.zero k 0 hk (last_of k)));
  });
}

zero_in : (r : Interval) (z : ℤ) → r.low ≡ pos 0 → r.high ≡ pos 0 → Holds r z → z ≡ pos 0
zero_in r z e f h = omega (arith, ints, e, f, h.above, h.below)

default_apart : (xs : List ℕ) (k d e : ℕ) → k < length xs → slice_index_or xs k d ≡ slice_index_or xs k e
default_apart [] k d e h = absurd (omega (arith, h))
default_apart (x ∷ rest) zero d e h = refl
default_apart (x ∷ rest) (suc k) d e h = default_apart rest k d e (omega (arith, h))

apart_from : (counters : List ℕ) (k u v : ℕ) → v ≡ slice_index_or counters k 0 → k < length counters → IsApart counters u → u ≢ v
apart_from counters k u v ev hk a = subst (λ (x : ℕ). u ≢ x) (sym ev) (apart_at counters u a k hk)

freed_zero : (s t : Shape) (Has : Point → Type 0) (counters : List ℕ) (k v : ℕ) (r : Interval) (p : Point) → v ≡ slice_index_or counters k 0 → k < length counters → r.low ≡ pos 0 → r.high ≡ pos 0 → Freed (ZeroSo s t Has counters k) v r p → ZeroSo s t Has counters (k + 1) p
freed_zero s t Has counters k v r p ev hk el eh f =
    let m = f.point.moved in
    record {
      moved = record {
        was = m.was;
        carried = record {
          point = m.carried.point;
          numbers = record { numbers = λ u h a. subst (Comes m.was (origin s t u)) (sym (f.others.numbers u (apart_from counters k u v ev hk a))) (m.carried.numbers.numbers u h a) };
          cells = record { kept = λ a h l n. f.others.cells a ∙ m.carried.cells.kept a h l n; new = λ a h l n. f.others.cells a ∙ m.carried.cells.new a h l n };
        };
      };
      zero = λ j d hj hk. elim (cases_eq (slice_index_or counters j d) v) [
        | inl e ↦ ap p.values e ∙ zero_in r (p.values v) el eh f.value
        | inr ne ↦ f.others.numbers (slice_index_or counters j d) ne ∙ f.point.zero j d hj (before j d hj hk ne)
      ];
    }
  where
    before : (j d : ℕ) → j < length counters → j < k + 1 → slice_index_or counters j d ≢ v → j < k
    before j d hj h ne = less_or j k h (λ e. ne (default_apart counters j d 0 hj ∙ ap (λ (i : ℕ). slice_index_or counters i 0) e ∙ sym ev))

module _ (S : Type 0) (pairs : Bool) (Holds_of : S → Point → Type 0) (shape_of : S → Shape) (laws : Laws S pairs Holds_of shape_of) where
  pub least_next : (state next : S) (s t : Shape) (Has : Point → Type 0) (counters : List ℕ) (k v : ℕ) (r : Interval) → v < count_of t → v ≡ slice_index_or counters k 0 → k < length counters → r.low ≡ pos 0 → r.high ≡ pos 0 → shape_of state ≡ t → shape_of next ≡ shape_of state
      → Keeps Holds_of shape_of state (ZeroSo s t Has counters k) → IsLeast Holds_of shape_of state (ZeroSo s t Has counters k) → IsLeast Holds_of shape_of next (Freed (Holds_of state) v r) → IsLeast Holds_of shape_of next (ZeroSo s t Has counters (k + 1))
  least_next state next s t Has counters k v r hv ev hk el eh et es kp l ln =
      least_as Holds_of shape_of next (Freed (ZeroSo s t Has counters k) v r) (ZeroSo s t Has counters (k + 1)) (λ p i f. freed_zero s t Has counters k v r p ev hk el eh f)
      (freed_through S pairs Holds_of shape_of laws state (ZeroSo s t Has counters k) kp l next v r (subst (λ (x : Shape). v < count_of x) (sym et) hv) es ln)

reset_all : (s t : Shape) (Has : Point → Type 0) (counters : List ℕ) (k : ℕ) (p : Point) → length counters ≤ k → ZeroSo s t Has counters k p → Reset s t Has counters p
reset_all s t Has counters k p long h = record { moved = h.moved; zero = λ j d hj. h.zero j d hj (omega (arith, hj, long)) }

pub keeps_last : {S : Type 0} (Holds_of : S → Point → Type 0) (shape_of : S → Shape) (state : S) (s t : Shape) (Has : Point → Type 0) (counters : List ℕ) (k : ℕ) → Keeps Holds_of shape_of state (ZeroSo s t Has counters k) → Keeps Holds_of shape_of state (Reset s t Has counters)
keeps_last Holds_of shape_of state s t Has counters k kp = record { kept = λ p i h. kp.kept p i (record { moved = h.moved; zero = λ j d hj l. h.zero j d hj }) }

pub least_last : {S : Type 0} (Holds_of : S → Point → Type 0) (shape_of : S → Shape) (state : S) (s t : Shape) (Has : Point → Type 0) (counters : List ℕ) (k : ℕ) → length counters ≤ k → IsLeast Holds_of shape_of state (ZeroSo s t Has counters k) → IsLeast Holds_of shape_of state (Reset s t Has counters)
least_last Holds_of shape_of state s t Has counters k long l = least_as Holds_of shape_of state (ZeroSo s t Has counters k) (Reset s t Has counters) (λ p i h. reset_all s t Has counters k p long h) l
