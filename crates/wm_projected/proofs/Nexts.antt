-- The state at the next node, of which everything is paired by place.
use Rattle.std.proofs.Common.{◌≡◌, ◌⊎◌, inl, inr, ℕ, ◌+◌, ◌-◌, ◌<◌, ◌≤◌, ℤ, List, [], ◌++◌, length, take, drop, Option, Some, None, false, true, refl, sym, ◌∙◌, ap, subst, arith, All}
use Rattle.std.specs.Prelude.{slice_index_or, IfSome}
use Rattle.wm_interval.specs.declared.Interval.{Interval}
use Rattle.wm_interval.specs.Holds.{Holds, IsHullOf}
use Rattle.wm_domain.specs.Points.{Point, range_at, nought, IsNarrow}
use Rattle.wm_domain.specs.Changes.{IsValueOf, Projected, ArePicks}
use Rattle.wm_domain.specs.Places.{placed, places_of, ArePaired}
use Rattle.wm_domain.proofs.Pairs.{side, placed_length, placed_here, placed_past, places_length, places_group, places_single, places_some, places_picks, placed_picks, AreOf, Grouped, Single}
use Rattle.wm_octagon.specs.View.{OctagonView, IsLeast}
use Rattle.wm_octagon.specs.Projecting.{ProjectedOf}
use Rattle.wm_spans.specs.Spanned.{Spanned, cell_at, Kept}
use Rattle.wm_spans.specs.Exact.{IsDrawnAt}
use Rattle.wm_spans.specs.Over.{over, parted}
use Rattle.wm_spans.specs.Over as laying
use Rattle.wm_spans.proofs.Over.{over_length, over_here, over_past, over_none}
use Rattle.wm_tied.specs.Pointed.{TiedView, IsTied, In, HasPoint, shape_of}
use Rattle.wm_tied.specs.Leaving.{IsLeft}
use Rattle.wm_tied.specs.Projecting.{ArePicked, IsDrawnRange, kept_pick}
use Rattle.wm_tied.proofs.Cutting.{in_full, full_group, full_spans, single_hull}
use Rattle.wm_tied.proofs.Drawing.{drawn_tied, drawn_leaves}
use Rattle.wm_tied.proofs.Gathering.{kept_in, kept_out, kept_named}
use Rattle.wm_projected.proofs.Laying.{whole_of, whole_drawn, whole_within}

-- ---- the places of the group

zero_add : (k : ℕ) → k ≡ 0 + k
zero_add k = omega arith

none_some : {P : Type 0} (o : Option ℕ) (v : ℕ) → o ≡ None → o ≡ Some v → P
none_some o v e f = cc

-- a place of the group picks what is kept of the older group
own_pick : (g n h m k : ℕ) → k < h → kept_pick g (Some k) ≡ kept_pick g (slice_index_or (places_of g n h m) k None)
own_pick g n h m k hk = elim (side k g) [
  | inl l ↦ ap (kept_pick g) (ap Some (zero_add k) ∙ sym (places_group g n h m k hk ∙ placed_here 0 g h k l hk))
  | inr l ↦ kept_out g k l ∙ ap (kept_pick g) (sym (places_group g n h m k hk ∙ placed_past 0 g h k l))
]

none_own : (g n h m k : ℕ) → k < h → kept_pick g (Some k) ≡ None → slice_index_or (places_of g n h m) k None ≡ None
none_own g n h m k hk none = elim (side k g) [
  | inl l ↦ none_some (kept_pick g (Some k)) k none (kept_in g k l)
  | inr l ↦ places_group g n h m k hk ∙ placed_past 0 g h k l
]

drawn_at_none : (Has : Point → Type 0) (o : Option ℕ) (full : Interval) → o ≡ None → IsDrawnRange Has o full full
drawn_at_none Has o full e = subst (λ (x : Option ℕ). IsDrawnRange Has x full full) (sym e) refl

past_first : (h k : ℕ) → h ≤ h + k
past_first h k = omega arith

past_rest : (h k : ℕ) → h + k - h ≡ k
past_rest h k = omega arith

less_both : (k n g : ℕ) → k < n → g + k < g + n
less_both k n g h = omega arith

-- ---- what is paired

module _ (c : TiedView) (group singles arrays : List Interval) (paired : ArePaired (shape_of c) (laying.shape_of group singles arrays)) where
  abbrev picks : List (Option ℕ)
  picks = places_of (length c.group) (length c.spans.full) (length group) (length singles)

  abbrev array_picks : List (Option ℕ)
  array_picks = placed 0 (length c.spans.array_full) (length arrays)

  pub picks_are : ArePicks (length c.group + length c.spans.full) picks
  picks_are = places_picks (length c.group) (length c.spans.full) (length group) (length singles)

  pub array_picks_are : ArePicks (length c.spans.array_full) array_picks
  array_picks_are = placed_picks (length c.spans.array_full) (length arrays)

  group_number : (p : Point) → In c p → (k v : ℕ) → k < length group → AreOf (length c.group) (length c.spans.full) (length group) (length singles) k v → Holds (range_at group k) (p.values v)
  group_number p i k v hk (Grouped a b e) = subst (λ (w : ℕ). Holds (range_at group k) (p.values w)) (sym e)
      (subst (λ (r : Interval). Holds r (p.values k)) (sym (paired.group k (omega (arith, b, e)) hk)) (full_group c p (in_full c p i) k (omega (arith, b, e))))
  group_number p i k v hk (Single a b d e) = absurd (omega (arith, a, hk))

  single_number : (p : Point) → In c p → (k v : ℕ) → k < length singles → AreOf (length c.group) (length c.spans.full) (length group) (length singles) (length group + k) v → Holds (range_at singles k) (p.values v)
  single_number p i k v hk (Grouped a b e) = absurd (omega (arith, a))
  single_number p i k v hk (Single a b d e) =
      let there : k < length c.spans.full = omega (arith, d, e) in
      let at : length c.group + k ≡ v = omega (arith, e) in
      subst (λ (w : ℕ). Holds (range_at singles k) (p.values w)) at
      (subst (λ (r : Interval). Holds r (p.values (length c.group + k))) (sym (paired.singles k there hk)) ((full_spans c p (in_full c p i)).numbers k there))

  pub group_lies : (p : Point) → In c p → ArePicked (In c) group picks 0 (length group) p
  group_lies p i = record {
    point = i;
    numbers = λ k v hk e. group_number p i k v hk (places_some (length c.group) (length c.spans.full) (length group) (length singles) k v (ap (λ (j : ℕ). slice_index_or picks j None) (zero_add k) ∙ e));
  }

  pub singles_lie : (p : Point) → In c p → ArePicked (In c) singles picks (length group) (length singles) p
  singles_lie p i = record {
    point = i;
    numbers = λ k v hk e. single_number p i k v hk (places_some (length c.group) (length c.spans.full) (length group) (length singles) (length group + k) v e);
  }

  pub spans_paired : ArePaired (parted 0 c.spans) (laying.shape_of [] singles arrays)
  spans_paired = record { group = λ v h k. absurd (omega (arith, h)); singles = paired.singles; arrays = paired.arrays }

  pub next_named : HasPoint c → (keep : List (Option ℕ)) → length keep ≡ length group → ((k : ℕ) → k < length group → slice_index_or keep k None ≡ kept_pick (length c.group) (Some k)) → All (λ (p : Option ℕ). IfSome p (λ v. v < c.ties.variables)) keep
  next_named some keep long each = subst (λ (n : ℕ). All (λ (p : Option ℕ). IfSome p (λ v. v < n)) keep) (sym some.is.tied.counted)
      (kept_named (length c.group) (length group) keep picks long (λ k hk. each k hk ∙ own_pick (length c.group) (length c.spans.full) (length group) (length singles) k hk))

  module _ (some : HasPoint c) (s : Spanned) (ranges : s.ranges ≡ over (take 0 c.spans.ranges) [] ++ over (drop 0 c.spans.ranges) singles) where
    laid : s.ranges ≡ over c.spans.ranges singles
    laid = ranges ∙ ap (λ (xs : List Interval). xs ++ over c.spans.ranges singles) (over_none [])

    at_place : (k : ℕ) → slice_index_or picks (length group + k) None ≡ slice_index_or (placed (length c.group) (length c.spans.full) (length singles)) k None
    at_place k = places_single (length c.group) (length c.spans.full) (length group) (length singles) (length group + k) (past_first (length group) k)
        ∙ ap (λ (j : ℕ). slice_index_or (placed (length c.group) (length c.spans.full) (length singles)) j None) (past_rest (length group) k)

    counted : length c.spans.ranges ≡ length c.spans.full
    counted = some.is.spans.kept.ranges_long

    pub single_each : (k : ℕ) → k < length singles → IsDrawnRange (In c) (slice_index_or picks (length group + k) None) (range_at singles k) (range_at s.ranges k)
    single_each k hk = subst (λ (xs : List Interval). IsDrawnRange (In c) (slice_index_or picks (length group + k) None) (range_at singles k) (range_at xs k)) (sym laid) (elim (side k (length c.spans.full)) [
      | inl l ↦ subst (λ (o : Option ℕ). IsDrawnRange (In c) o (range_at singles k) (range_at (over c.spans.ranges singles) k)) (sym (at_place k ∙ placed_here (length c.group) (length c.spans.full) (length singles) k l hk))
          (single_hull c k (range_at (over c.spans.ranges singles) k) l some.is.spans.kept some (over_here c.spans.ranges singles k nought (subst (λ (n : ℕ). k < n) (sym counted) l) hk))
      | inr g ↦ subst (λ (o : Option ℕ). IsDrawnRange (In c) o (range_at singles k) (range_at (over c.spans.ranges singles) k)) (sym (at_place k ∙ placed_past (length c.group) (length c.spans.full) (length singles) k g))
          (over_past c.spans.ranges singles k nought (subst (λ (n : ℕ). n ≤ k) (sym counted) g))
    ])

    single_long : length s.ranges ≡ length singles
    single_long = ap (λ (xs : List Interval). length xs) laid ∙ over_length c.spans.ranges singles

    module _ (keep : List (Option ℕ)) (o : OctagonView) (keep_long : length keep ≡ length group) (keep_each : (k : ℕ) → k < length group → slice_index_or keep k None ≡ kept_pick (length c.group) (Some k))
        (counted_ties : o.variables ≡ length keep) (least : IsLeast o (ProjectedOf c.ties keep group)) (full : s.full ≡ singles) (array_full : s.array_full ≡ arrays) (kept : Kept s) (empty : s.empty ≡ c.spans.empty)
        (cells : (a : ℕ) → a < length arrays → IsDrawnAt (cell_at c.spans.cells) (slice_index_or array_picks a None) (range_at arrays a) (cell_at s.cells a)) (few : length group ≤ 32) (narrow : All IsNarrow group) where
      kept_each : (k : ℕ) → k < length group → slice_index_or keep k None ≡ kept_pick (length c.group) (slice_index_or picks k None)
      kept_each k hk = keep_each k hk ∙ own_pick (length c.group) (length c.spans.full) (length group) (length singles) k hk

      group_each : (k : ℕ) → k < length group → slice_index_or keep k None ≡ None → IsDrawnRange (In c) (slice_index_or picks (0 + k) None) (range_at group k) (range_at group k)
      group_each k hk none = drawn_at_none (In c) (slice_index_or picks (0 + k) None) (range_at group k)
          (ap (λ (j : ℕ). slice_index_or picks j None) (sym (zero_add k)) ∙ none_own (length c.group) (length c.spans.full) (length group) (length singles) k hk (sym (keep_each k hk) ∙ none))

      open_now : s.empty ≡ false
      open_now = empty ∙ some.is.spans.some

      pub next_tied : IsTied group o
      next_tied = drawn_tied c some group singles arrays picks array_picks (places_length (length c.group) (length c.spans.full) (length group) (length singles)) (placed_length 0 (length c.spans.array_full) (length arrays)) picks_are array_picks_are group_lies singles_lie
          keep group s.ranges o (whole_of s) s keep_long kept_each group_each single_long single_each counted_ties least full array_full refl refl
          (whole_drawn s arrays (cell_at c.spans.cells) array_picks kept array_full cells) (whole_within s s.ranges kept open_now refl) few narrow

      pub next_left : IsLeft (record { group = group; ties = o; spans = s }) (Projected (In c) picks array_picks)
      next_left = drawn_leaves c some group singles arrays picks array_picks (places_length (length c.group) (length c.spans.full) (length group) (length singles)) (placed_length 0 (length c.spans.array_full) (length arrays)) picks_are array_picks_are group_lies singles_lie
          keep group s.ranges o (whole_of s) s keep_long kept_each group_each single_long single_each counted_ties least full array_full refl refl
          (whole_drawn s arrays (cell_at c.spans.cells) array_picks kept array_full cells) (whole_within s s.ranges kept open_now refl) few narrow

-- ---- as the code has it

-- the ranges and summaries of the next node, from those before
pub record IsNext (u s : Spanned) (singles arrays : List Interval) : Type 0 where
  pub ranges : s.ranges ≡ over (take 0 u.ranges) [] ++ over (drop 0 u.ranges) singles
  pub cells : (a : ℕ) → a < length arrays → IsDrawnAt (cell_at u.cells) (slice_index_or (placed 0 (length u.array_full) (length arrays)) a None) (range_at arrays a) (cell_at s.cells a)
  pub empty : s.empty ≡ u.empty

pub next_as : (u v s : Spanned) (singles arrays : List Interval) → u ≡ v → IsNext u s singles arrays → IsNext v s singles arrays
next_as u v s singles arrays e n = subst (λ (w : Spanned). IsNext w s singles arrays) e n
