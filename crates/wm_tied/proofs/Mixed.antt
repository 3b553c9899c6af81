-- Points made of one of the group and one of the other variables.
use Rattle.std.proofs.Common.{◌≡◌, ◌≢◌, ◌⊎◌, inl, inr, ℕ, ◌+◌, ◌-◌, ◌*◌, ◌/◌, ◌<◌, ◌≤◌, ℤ, ◌≤ℤ◌, List, length, Option, Some, None, true, false, cond, nat_lt, sym, ◌∙◌, ap, subst, arith, refl}
use Rattle.std.proofs.lemmas.Int.{ints}
use Rattle.wm_interval.specs.declared.Interval.{Interval}
use Rattle.wm_interval.specs.Holds as interval
use Rattle.wm_domain.specs.Points.{Point, range_at, AllowsCell}
use Rattle.wm_octagon.specs.Points.{side_value}
use Rattle.wm_octagon.specs.View as view
use Rattle.wm_octagon.specs.View.{OctagonView, Holds}
use Rattle.wm_octagon.proofs.Tight.{column-lt}
use Rattle.wm_octagon.proofs.Moves.{side_other}
use Rattle.wm_spans.specs.Spanned.{Spanned, cell_at}
use Rattle.wm_spans.specs.Spanned as spanned
use Rattle.wm_tied.specs.Pointed.{TiedView, IsTied, In, shifted}

-- ---- only the variables that there are tell points apart

alike_by : (n : ℕ) (b : Option (List ℤ)) (x y : ℕ → ℤ) → ((v : ℕ) → v < n → y v ≡ x v) → view.PointOf n b x → view.PointOf n b y
alike_by n None x y e p = p
alike_by n (Some xs) x y e p = record {
  meets = λ k l hk here.
      let m = p.meets k l hk here in
      let a = side_other y x k (e (k / 2) (omega arith)) in
      let hl = column-lt n k l hk here in
      let b = side_other y x l (e (l / 2) (omega arith)) in
      omega (arith, ints);
}

pub ties_alike : (o : OctagonView) (x y : ℕ → ℤ) → ((v : ℕ) → v < o.variables → y v ≡ x v) → Holds o x → Holds o y
ties_alike o x y e p = alike_by o.variables o.bounds x y e p

pub spans_alike : (s : Spanned) (p q : Point) → ((v : ℕ) → v < length s.full → q.values v ≡ p.values v) → ((a : ℕ) → a < length s.array_full → q.cells a ≡ p.cells a) → spanned.In s p → spanned.In s q
spans_alike s p q e f h = record {
  some = h.some;
  kept = h.kept;
  numbers = λ v hv. subst (interval.Holds (range_at s.ranges v)) (sym (e v hv)) (h.numbers v hv);
  cells = λ a ha. subst (AllowsCell (cell_at s.cells a)) (sym (f a ha)) (h.cells a ha);
}

-- ---- a point of both

pub mix : ℕ → (ℕ → ℤ) → (ℕ → ℤ) → ℕ → ℤ
mix n x y v = cond (nat_lt v n) (x v) (y (v - n))

pub mix-group : (n : ℕ) (x y : ℕ → ℤ) (v : ℕ) → v < n → mix n x y v ≡ x v
unfolding mix
mix-group n x y v h = let e : nat_lt v n ≡ true = grind arith in rw e refl

pub mix-past : (n : ℕ) (x y : ℕ → ℤ) (v : ℕ) → n ≤ v → mix n x y v ≡ y (v - n)
unfolding mix
mix-past n x y v h = let e : nat_lt v n ≡ false = grind arith in rw e refl

pub mix-single : (n : ℕ) (x y : ℕ → ℤ) (k : ℕ) → mix n x y (n + k) ≡ y k
mix-single n x y k = mix-past n x y (n + k) (omega arith) ∙ ap y (omega arith)

-- the numbers of the group from x, all else from q
abbrev pub mixed : ℕ → (ℕ → ℤ) → Point → Point
mixed n x q = record { values = mix n x q.values; cells = q.cells }

pub mixed_in : (t : TiedView) (x : ℕ → ℤ) (q : Point) → IsTied t.group t.ties → Holds t.ties x → spanned.In t.spans q → In t (mixed (length t.group) x q)
mixed_in t x q k h i = record {
  tied = k;
  ties = ties_alike t.ties x (mix (length t.group) x q.values) (λ v hv. mix-group (length t.group) x q.values v (subst (λ (n : ℕ). v < n) k.counted hv)) h;
  spans = spans_alike t.spans q (shifted (length t.group) (mixed (length t.group) x q)) (λ v hv. mix-single (length t.group) x q.values v) (λ a ha. refl) i;
}
