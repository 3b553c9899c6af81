-- Ranges and summaries that are cut by one bound.
use Rattle.std.proofs.Common.{◌≡◌, ◌⊎◌, inl, inr, ℕ, ◌<◌, ℤ, neg_ℤ, ◌≤ℤ◌, ◌<ℤ◌, length, set, Bool, false, true, sym, subst, refl, arith, Some, None, Option}
use Rattle.std.specs.Prelude.{◌↔◌}
use Rattle.std.specs.Int.{int_max, int_min}
use Rattle.std.proofs.lemmas.Int.{ints, clamps}
use Rattle.std.proofs.lemmas.Bool.{cases_eq}
use Rattle.wm_numbers.proofs.Order.{le_or_lt}
use Rattle.wm_interval.specs.declared.Interval.{Interval}
use Rattle.wm_interval.specs.Holds.{Holds}
use Rattle.wm_arrays.specs.declared.summary.Summary.{Summary}
use Rattle.wm_arrays.specs.declared.summary.Summary.TheVariants.{Empty, Range}
use Rattle.wm_arrays.specs.Meaning.{Allows}
use Rattle.wm_domain.specs.Points.{Point, range_at, AllowsCell}
use Rattle.wm_domain.specs.Forms.{signed}
use Rattle.wm_spans.specs.Spanned.{Spanned, cell_at, CellsLie, Kept, In}
use Rattle.wm_spans.proofs.Listed.{kept_put_cells, each_cell, cell_here, cell_there, in_full, not_both}
use Rattle.wm_spans.proofs.Cutting.{cut_some}

-- the same full ranges, and the points that meet a fact
pub record IsCapped (s : Spanned) (Fact : Point → Type 0) : Type 0 where
  pub to : Spanned
  pub full : to.full ≡ s.full
  pub array_full : to.array_full ≡ s.array_full
  pub points : (p : Point) → In to p ↔ (In s p × Fact p)

pub bare_capped : (s : Spanned) (Fact : Point → Type 0) → ((p : Point) → In s p → Fact p → ⊥) → IsCapped s Fact
bare_capped s Fact none = record {
  to = record s { empty = true };
  full = refl;
  array_full = refl;
  points = λ p. (λ i. not_both i.some, λ w. absurd (none p w.0 w.1));
}

-- ---- ranges

-- the part of a range at which a fact holds
record IsPart (r : Interval) (Fact : ℤ → Type 0) : Type 0 where
  part : Interval
  each : (z : ℤ) → Holds part z ↔ (Holds r z × Fact z)

up_part : (r : Interval) (c : ℤ) → r.low ≤ℤ c → IsPart r (λ z. z ≤ℤ c)
up_part r c h =
    let o = r.ordered in
    record {
      part = record { low = r.low; high = int_min r.high c; ordered = omega (arith, ints, clamps) };
      each = λ z. (
        λ w. let a = w.above in let b = w.below in (record { above = a; below = omega (arith, ints, clamps) }, omega (arith, ints, clamps)),
        λ w. let a = w.0.above in let b = w.0.below in let e = w.1 in record { above = a; below = omega (arith, ints, clamps) },
      );
    }

down_part : (r : Interval) (c : ℤ) → neg_ℤ c ≤ℤ r.high → IsPart r (λ z. neg_ℤ z ≤ℤ c)
down_part r c h =
    let o = r.ordered in
    record {
      part = record { low = int_max r.low (neg_ℤ c); high = r.high; ordered = omega (arith, ints, clamps) };
      each = λ z. (
        λ w. let a = w.above in let b = w.below in (record { above = omega (arith, ints, clamps); below = b }, omega (arith, ints, clamps)),
        λ w. let a = w.0.above in let b = w.0.below in let e = w.1 in record { above = omega (arith, ints, clamps); below = b },
      );
    }

no_up : (r : Interval) (c z : ℤ) → c <ℤ r.low → Holds r z → z ≤ℤ c → ⊥
no_up r c z h i e = let a = i.above in omega (arith, ints)

no_down : (r : Interval) (c z : ℤ) → r.high <ℤ neg_ℤ c → Holds r z → neg_ℤ z ≤ℤ c → ⊥
no_down r c z h i e = let a = i.below in omega (arith, ints)

side_part : (r : Interval) (b : Bool) (c : ℤ) → IsPart r (λ z. signed b z ≤ℤ c) ⊎ ((z : ℤ) → Holds r z → signed b z ≤ℤ c → ⊥)
side_part r true c = elim (le_or_lt (neg_ℤ c) r.high) [ inl h ↦ inl (down_part r c h) | inr h ↦ inr (λ z i e. no_down r c z h i e) ]
side_part r false c = elim (le_or_lt r.low c) [ inl h ↦ inl (up_part r c h) | inr h ↦ inr (λ z i e. no_up r c z h i e) ]

-- where there is a point, a variable or its negative may be kept at most a number
pub term_capped : (s : Spanned) (k : Kept s) (v : ℕ) (b : Bool) (c : ℤ) → v < length s.full → IsCapped s (λ p. signed b (p.values v) ≤ℤ c)
term_capped s k v b c hv = elim (side_part (range_at s.ranges v) b c) [
  | inl m ↦ (
      let x = cut_some s v hv k m.part m.part (λ z. (λ i. (((m.each z).0 i).0, i), λ w. w.1)) in
      record {
        to = record s { ranges = set s.ranges v m.part };
        full = refl;
        array_full = refl;
        points = λ p. (
          λ i. let w = x.made p i in (w.point, ((m.each (p.values v)).0 w.bounded).1),
          λ w. x.kept p (in_full s p w.0) (record { point = w.0; bounded = (m.each (p.values v)).1 (w.0.numbers v hv, w.1) }),
        );
      })
  | inr none ↦ bare_capped s (λ p. signed b (p.values v) ≤ℤ c) (λ p i e. none (p.values v) (i.numbers v hv) e)
]

-- ---- summaries

-- what two summaries allow
record IsBothOf (x y : Summary) : Type 0 where
  both : Summary
  each : (c : Option ℤ) → AllowsCell both c ↔ (AllowsCell x c × AllowsCell y c)
  lies : (full : Interval) → CellsLie full x → CellsLie full both

none_both : (x y : Summary) → ((z : ℤ) → Allows x z → Allows y z → ⊥) → IsBothOf x y
none_both x y none = record { both = Empty; each = at; lies = λ full l. tt }
  where
    at : (c : Option ℤ) → AllowsCell Empty c ↔ (AllowsCell x c × AllowsCell y c)
    at None = (λ t. (tt, tt), λ t. tt)
    at (Some z) = (λ f. absurd f, λ w. none z w.0 w.1)

range_both : (i j : Interval) → IsBothOf (Range i) (Range j)
range_both i j = elim (le_or_lt (int_max i.low j.low) (int_min i.high j.high)) [
  | inl h ↦ (
      let m : Interval = record { low = int_max i.low j.low; high = int_min i.high j.high; ordered = h } in
      record { both = Range m; each = at m refl refl; lies = λ full l. record { above = (let a = l.above in omega (arith, ints, clamps)); below = (let b = l.below in omega (arith, ints, clamps)) } })
  | inr h ↦ none_both (Range i) (Range j) (λ z a b. apart z h a b)
]
  where
    at : (m : Interval) → m.low ≡ int_max i.low j.low → m.high ≡ int_min i.high j.high → (c : Option ℤ) → AllowsCell (Range m) c ↔ (AllowsCell (Range i) c × AllowsCell (Range j) c)
    at m e f None = (λ t. (tt, tt), λ t. tt)
    at m e f (Some z) = (
      λ w. let a = w.above in let b = w.below in (record { above = omega (arith, ints, clamps); below = omega (arith, ints, clamps) }, record { above = omega (arith, ints, clamps); below = omega (arith, ints, clamps) }),
      λ w. let a = w.0.above in let b = w.0.below in let c = w.1.above in let d = w.1.below in record { above = omega (arith, ints, clamps); below = omega (arith, ints, clamps) },
    )

    apart : (z : ℤ) → int_min i.high j.high <ℤ int_max i.low j.low → Holds i z → Holds j z → ⊥
    apart z h w x = let a = w.above in let b = w.below in let c = x.above in let d = x.below in omega (arith, ints, clamps)

both_of : (x y : Summary) → IsBothOf x y
both_of Empty y = none_both Empty y (λ z a b. a)
both_of (Range i) Empty = none_both (Range i) Empty (λ z a b. b)
both_of (Range i) (Range j) = range_both i j

-- and the cells of an array at numbers that a summary allows
pub cells_capped : (s : Spanned) (k : Kept s) (a : ℕ) (r : Summary) → a < length s.array_full → IsCapped s (λ p. AllowsCell r (p.cells a))
cells_capped s k a r ha =
    let m = both_of (cell_at s.cells a) r in
    let here : a < length s.cells = subst (λ (n : ℕ). a < n) (sym k.cells_long) ha in
    record {
      to = record s { cells = set s.cells a m.both };
      full = refl;
      array_full = refl;
      points = λ p. (
        λ i. (
          record {
            some = i.some;
            kept = k;
            numbers = i.numbers;
            cells = λ b hb. elim (cases_eq b a) [
              | inl e ↦ subst (λ (n : ℕ). AllowsCell (cell_at s.cells n) (p.cells n)) (sym e) ((m.each (p.cells a)).0 (cell_here s.cells a m.both (p.cells a) here (i.cells a ha))).0
              | inr ne ↦ cell_there s.cells a b m.both (p.cells b) ne (i.cells b hb)
            ];
          },
          ((m.each (p.cells a)).0 (cell_here s.cells a m.both (p.cells a) here (i.cells a ha))).1,
        ),
        λ w. record {
          some = w.0.some;
          kept = kept_put_cells s.full s.array_full s.ranges s.cells a m.both k ha (m.lies (range_at s.array_full a) (k.cells_lie a ha));
          numbers = w.0.numbers;
          cells = each_cell (λ b t. AllowsCell t (p.cells b)) s.cells a (length s.array_full) m.both here ((m.each (p.cells a)).1 (w.0.cells a ha, w.1)) (λ b hb ne. w.0.cells b hb);
        },
      );
    }
