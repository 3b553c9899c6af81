-- Facts on numbers that stand where they cannot fail, and what ranges and summaries with no other bound than their own are.
use Rattle.std.proofs.Common.{◌≡◌, inl, inr, ℕ, ◌<◌, ◌≤◌, ℤ, neg_ℤ, ◌≤ℤ◌, ◌<ℤ◌, length, Bool, false, true, refl, arith}
use Rattle.std.proofs.lemmas.Bool.{cases_eq, cases_lt}
use Rattle.std.proofs.lemmas.Int.{ints}
use Rattle.wm_numbers.specs.Within.{Within}
use Rattle.wm_numbers.proofs.Order.{le_or_lt}
use Rattle.wm_interval.specs.declared.Interval.{Interval}
use Rattle.wm_arrays.specs.declared.summary.Summary.{Summary}
use Rattle.wm_arrays.specs.declared.summary.Summary.TheVariants.{Empty, Range}
use Rattle.wm_domain.specs.Points.{Point, range_at, IsNarrow, AllowsCell}
use Rattle.wm_domain.specs.Forms.{signed}
use Rattle.wm_spans.specs.Spanned.{Spanned, cell_at, Lies, CellsLie, In}

past_it : (a b : ℤ) → b <ℤ a → a ≤ℤ b → ⊥
past_it a b h k = omega (arith, ints)

pub stable_le : (a b : ℤ) → ((a ≤ℤ b → ⊥) → ⊥) → a ≤ℤ b
stable_le a b h = elim (le_or_lt a b) [ inl k ↦ k | inr k ↦ absurd (h (past_it a b k)) ]

pub stable_eq : (a b : ℕ) → ((a ≡ b → ⊥) → ⊥) → a ≡ b
stable_eq a b h = elim (cases_eq a b) [ inl e ↦ e | inr ne ↦ absurd (h ne) ]

not_more : (a b : ℕ) → b < a → a ≤ b → ⊥
not_more a b h k = omega arith

pub stable_few : (a b : ℕ) → ((a ≤ b → ⊥) → ⊥) → a ≤ b
stable_few a b h = elim (cases_lt b a) [ inl k ↦ absurd (h (not_more a b k)) | inr k ↦ k ]

pub stable_within : (a b z : ℤ) → ((Within a b z → ⊥) → ⊥) → Within a b z
stable_within a b z h = record {
  above = stable_le a z (λ no. h (λ w. no w.above));
  below = stable_le z b (λ no. h (λ w. no w.below));
}

pub stable_narrow : (r : Interval) → ((IsNarrow r → ⊥) → ⊥) → IsNarrow r
stable_narrow r h = record { low_fits = stable_within _ _ r.low (λ no. h (λ w. no w.low_fits)); high_fits = stable_within _ _ r.high (λ no. h (λ w. no w.high_fits)) }

stable_lies : (full r : Interval) → ((Lies full r → ⊥) → ⊥) → Lies full r
stable_lies full r h = record { above = stable_le _ _ (λ no. h (λ w. no w.above)); below = stable_le _ _ (λ no. h (λ w. no w.below)) }

stable_cells : (full : Interval) (s : Summary) → ((CellsLie full s → ⊥) → ⊥) → CellsLie full s
stable_cells full Empty h = tt
stable_cells full (Range r) h = stable_lies full r h

stable_some : (b : Bool) → ((b ≡ false → ⊥) → ⊥) → b ≡ false
stable_some true h = absurd (h (λ e. cc))
stable_some false h = refl

opposite_le : (l z : ℤ) → l ≤ℤ z → neg_ℤ z ≤ℤ neg_ℤ l
opposite_le l z h = omega (arith, ints)

opposite_back : (l z : ℤ) → neg_ℤ z ≤ℤ neg_ℤ l → l ≤ℤ z
opposite_back l z h = omega (arith, ints)

-- a point that meets each bound that all points meet is one of them
pub spans_closed : (s : Spanned) (p : Point) → (((q : Point) → In s q → ⊥) → ⊥)
    → ((v : ℕ) (b : Bool) (c : ℤ) → v < length s.full → ((q : Point) → In s q → signed b (q.values v) ≤ℤ c) → signed b (p.values v) ≤ℤ c)
    → ((a : ℕ) (r : Summary) → a < length s.array_full → ((q : Point) → In s q → AllowsCell r (q.cells a)) → AllowsCell r (p.cells a)) → In s p
spans_closed s p some sides cells = record {
  some = stable_some s.empty (λ no. some (λ q i. no i.some));
  kept = record {
    ranges_long = stable_eq _ _ (λ no. some (λ q i. no i.kept.ranges_long));
    cells_long = stable_eq _ _ (λ no. some (λ q i. no i.kept.cells_long));
    narrow = λ v hv. stable_narrow (range_at s.full v) (λ no. some (λ q i. no (i.kept.narrow v hv)));
    ranges_lie = λ v hv. stable_lies (range_at s.full v) (range_at s.ranges v) (λ no. some (λ q i. no (i.kept.ranges_lie v hv)));
    cells_lie = λ a ha. stable_cells (range_at s.array_full a) (cell_at s.cells a) (λ no. some (λ q i. no (i.kept.cells_lie a ha)));
  };
  numbers = λ v hv. record {
    above = opposite_back (range_at s.ranges v).low (p.values v) (sides v true (neg_ℤ (range_at s.ranges v).low) hv (λ q i. opposite_le _ _ (i.numbers v hv).above));
    below = sides v false (range_at s.ranges v).high hv (λ q i. (i.numbers v hv).below);
  };
  cells = λ a ha. cells a (cell_at s.cells a) ha (λ q i. i.cells a ha);
}
