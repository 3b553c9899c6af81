-- Variables that get any numbers one after the other.
use Rattle.std.proofs.Common.{◌≡◌, ◌≢◌, inl, inr, ℕ, zero, suc, ◌+◌, ◌-◌, ◌<◌, ◌≤◌, Bool, List, [], ◌∷◌, length, take, refl, sym, ◌∙◌, ap, subst, arith}
use Rattle.std.specs.Prelude.{slice_index_or}
use Rattle.std.proofs.lemmas.Int.{ints}
use Rattle.std.proofs.lemmas.List.{take_all, get_or_append_left, get_or-append_right}
use Rattle.std.proofs.lemmas.List.Elements.{All-get_or}
use Rattle.wm_interval.specs.declared.Interval.{Interval}
use Rattle.wm_interval.specs.Holds.{Holds}
use Rattle.wm_domain.specs.declared.shape.Shape.{Shape}
use Rattle.wm_domain.specs.Points.{Point, IsNarrow, range_at, nought}
use Rattle.wm_domain.specs.States.{variables_of, count_of, IsShape, InShape, IsSized, Keeps, IsLeast}
use Rattle.wm_domain.specs.Changes.{Freed}
use Rattle.wm_carry.specs.Following.{origin, Comes, IsApart, IsWay, Carried, Moved}
use Rattle.wm_carry.proofs.Changing.{before}
use Rattle.wm_carry.proofs.Ranks.{side}
use Rattle.wm_carry.proofs.Reaching.{Laws, least_as}
use Rattle.wm_cleared.proofs.Freeing.{freed_through}

none_less : {P : Type 0} (n : ℕ) → n < 0 → P
none_less n h = absurd (omega (arith, h))

one_more : (n : ℕ) → n + 1 ≡ suc n
one_more n = omega arith

-- apart from the first n and from the next is apart from the first n + 1
apart_more : (xs : List ℕ) (n v : ℕ) → n < length xs → v ≢ slice_index_or xs n 0 → IsApart (take n xs) v → IsApart (take (suc n) xs) v
apart_more [] n v h ne a = none_less n h
apart_more (x ∷ xs) zero v h ne a = (ne, tt)
apart_more (x ∷ xs) (suc n) v h ne a = (a.0, apart_more xs n v (omega (arith, h)) ne a.1)

more_apart : (s t : Shape) (Has : Point → Type 0) (xs : List ℕ) (n : ℕ) (was p : Point) → n < length xs → Carried s t Has (take (suc n) xs) [] was p → Carried s t Has (slice_index_or xs n 0 ∷ take n xs) [] was p
more_apart s t Has xs n was p h m = record {
  point = m.point;
  numbers = record { numbers = λ v hv a. m.numbers.numbers v hv (apart_more xs n v h a.0 a.1) };
  cells = m.cells;
}

module _ {S : Type 0} (Holds_of : S → Point → Type 0) (shape_of : S → Shape) (s t : Shape) (Has : Point → Type 0) (xs : List ℕ) where
  pub cleared_more : (state next : S) (n v : ℕ) (r : Interval) → IsWay s t → ((x : Point) → Has x → InShape s x) → v ≡ slice_index_or xs n 0 → n < length xs → v < count_of t → r ≡ range_at (variables_of t) v → shape_of state ≡ t → shape_of next ≡ shape_of state
      → Keeps Holds_of shape_of state (Moved s t Has (take n xs) []) → Keeps Holds_of shape_of next (Freed (Holds_of state) v r) → Keeps Holds_of shape_of next (Moved s t Has (take (n + 1) xs) [])
  cleared_more state next n v r way inside ev hn hv er es en a b = record {
    kept = λ p i m.
        let j : InShape t p = subst (λ (x : Shape). InShape x p) (en ∙ es) i in
        let c = more_apart s t Has xs n m.was p hn (subst (λ (k : ℕ). Carried s t Has (take k xs) [] m.was p) (one_more n) m.carried) in
        let q = before s t Has v (take n xs) [] m.was p way inside hv j (subst (λ (u : ℕ). Carried s t Has (u ∷ take n xs) [] m.was p) (sym ev) c) in
        b.kept p i (record {
          was = q.point;
          point = a.kept q.point (subst (λ (x : Shape). InShape x q.point) (sym es) q.inside) (record { was = m.was; carried = q.carried });
          others = q.others;
          value = subst (λ (x : Interval). Holds x (p.values v)) (sym er) (j.numbers v hv);
        });
  }

  pub cleared_all : (state : S) (n : ℕ) → length xs ≤ n → Keeps Holds_of shape_of state (Moved s t Has (take n xs) []) → Keeps Holds_of shape_of state (Moved s t Has xs [])
  cleared_all state n h k = subst (λ (ys : List ℕ). Keeps Holds_of shape_of state (Moved s t Has ys [])) (take_all n xs h) k

  pub least_all : (state : S) (n : ℕ) → length xs ≤ n → IsLeast Holds_of shape_of state (Moved s t Has (take n xs) []) → IsLeast Holds_of shape_of state (Moved s t Has xs [])
  least_all state n h k = subst (λ (ys : List ℕ). IsLeast Holds_of shape_of state (Moved s t Has ys [])) (take_all n xs h) k

less_apart : (xs : List ℕ) (n v : ℕ) → n < length xs → IsApart (take (suc n) xs) v → (v ≢ slice_index_or xs n 0) × IsApart (take n xs) v
less_apart [] n v h a = none_less n h
less_apart (x ∷ xs) zero v h a = (a.0, tt)
less_apart (x ∷ xs) (suc n) v h a = let b = less_apart xs n v (omega (arith, h)) a.1 in (b.0, (a.0, b.1))

-- what follows a state but for the first n, and then for one more
freed_moved : (s t : Shape) (Has : Point → Type 0) (xs : List ℕ) (n v : ℕ) (r : Interval) (p : Point) → v ≡ slice_index_or xs n 0 → n < length xs → Freed (Moved s t Has (take n xs) []) v r p → Moved s t Has (take (n + 1) xs) [] p
freed_moved s t Has xs n v r p ev hn f =
    let m = f.point in
    record {
      was = m.was;
      carried = record {
        point = m.carried.point;
        numbers = record {
          numbers = λ u h a.
              let b = less_apart xs n u hn (subst (λ (k : ℕ). IsApart (take k xs) u) (one_more n) a) in
              subst (Comes m.was (origin s t u)) (sym (f.others.numbers u (subst (λ (x : ℕ). u ≢ x) (sym ev) b.0))) (m.carried.numbers.numbers u h b.1);
        };
        cells = record { kept = λ a h l none. f.others.cells a ∙ m.carried.cells.kept a h l none; new = λ a h g none. f.others.cells a ∙ m.carried.cells.new a h g none };
      };
    }

module _ (S : Type 0) (pairs : Bool) (Holds_of : S → Point → Type 0) (shape_of : S → Shape) (laws : Laws S pairs Holds_of shape_of) where
  pub least_more : (state next : S) (s t : Shape) (Has : Point → Type 0) (xs : List ℕ) (n v : ℕ) (r : Interval) → v < count_of t → v ≡ slice_index_or xs n 0 → n < length xs → shape_of state ≡ t → shape_of next ≡ shape_of state
      → Keeps Holds_of shape_of state (Moved s t Has (take n xs) []) → IsLeast Holds_of shape_of state (Moved s t Has (take n xs) []) → IsLeast Holds_of shape_of next (Freed (Holds_of state) v r) → IsLeast Holds_of shape_of next (Moved s t Has (take (n + 1) xs) [])
  least_more state next s t Has xs n v r hv ev hn es en k l ln =
      least_as Holds_of shape_of next (Freed (Moved s t Has (take n xs) []) v r) (Moved s t Has (take (n + 1) xs) []) (λ p i f. freed_moved s t Has xs n v r p ev hn f)
      (freed_through S pairs Holds_of shape_of laws state (Moved s t Has (take n xs) []) k l next v r (subst (λ (x : Shape). v < count_of x) (sym es) hv) en ln)

-- ---- full ranges

narrow_sized : (r : Interval) → IsNarrow r → IsSized r
narrow_sized r n = record { low_size = omega (arith, ints, n.low_fits.above, n.low_fits.below); high_size = omega (arith, ints, n.high_fits.above, n.high_fits.below) }

past : (n m v : ℕ) → n ≤ v → v < n + m → v - n < m
past n m v h k = omega arith

pub full_sized : (t : Shape) → IsShape t → (v : ℕ) → v < length t.group + length t.singles → (r : Interval) → r ≡ range_at (variables_of t) v → IsSized r
full_sized t i v hv r e = elim (side v (length t.group)) [
  | inl l ↦ narrow_sized r (subst IsNarrow (sym (e ∙ get_or_append_left t.group t.singles nought v l)) (All-get_or IsNarrow t.group v nought l i.group))
  | inr g ↦ narrow_sized r (subst IsNarrow (sym (e ∙ get_or-append_right t.group t.singles (length t.group) v nought refl g)) (All-get_or IsNarrow t.singles (v - length t.group) nought (past (length t.group) (length t.singles) v g hv) i.singles))
]

pub group_at : (t : Shape) (xs : List Interval) (v : ℕ) (r : Interval) → xs ≡ t.group → v < length xs → r ≡ range_at xs v → r ≡ range_at (variables_of t) v
group_at t xs v r e h f = f ∙ ap (λ (ys : List Interval). range_at ys v) e ∙ sym (get_or_append_left t.group t.singles nought v (subst (λ (ys : List Interval). v < length ys) e h))

pub single_at : (t : Shape) (xs ys : List Interval) (v : ℕ) (r : Interval) → xs ≡ t.group → ys ≡ t.singles → length xs ≤ v → r ≡ range_at ys (v - length xs) → r ≡ range_at (variables_of t) v
single_at t xs ys v r e f h g = g ∙ ap (λ (zs : List Interval). range_at zs (v - length xs)) f ∙ ap (λ (zs : List Interval). range_at t.singles (v - length zs)) e
    ∙ sym (get_or-append_right t.group t.singles (length t.group) v nought refl (subst (λ (zs : List Interval). length zs ≤ v) e h))
