-- The ties, ranges and summaries that are drawn for picked variables and arrays, and what they leave.
use Rattle.std.proofs.Common.{◌≡◌, ◌≢◌, ◌⊎◌, inl, inr, ℕ, ◌+◌, ◌-◌, ◌*◌, ◌<◌, ◌≤◌, ℤ, ◌≤ℤ◌, ◌+ℤ◌, List, ◌++◌, length, Option, Some, None, Bool, true, false, sym, ◌∙◌, ap, subst, arith, refl, All}
use Rattle.std.specs.Prelude.{slice_index_or}
use Rattle.std.specs.Bool.{MatchBool}
use Rattle.std.proofs.lemmas.Bool.{cases_lt}
use Rattle.std.proofs.lemmas.Int.{ints}
use Rattle.std.proofs.lemmas.List.{length-append, get_or_append_left, get_or-append_right}
use Rattle.std.proofs.lemmas.List.Elements.{All-get_or}
use Rattle.std.proofs.Math.ListN.{get_or-map}
use Rattle.wm_numbers.specs.Within.{Within}
use Rattle.wm_numbers.proofs.Order.{le_refl, le_trans, le_of_eq}
use Rattle.wm_interval.specs.declared.Interval.{Interval}
use Rattle.wm_interval.specs.Holds.{Holds, IsHullOf}
use Rattle.wm_domain.specs.declared.form.Term.{Term}
use Rattle.wm_domain.specs.Points.{Point, range_at, nought, IsNarrow, IsInside}
use Rattle.wm_domain.specs.Forms.{signed, term_value}
use Rattle.wm_domain.specs.Changes.{IsValueOf, Projected, ArePicks, IsPickedCell}
use Rattle.wm_domain.specs.States.{IsReached, IsCellTold, IsTold}
use Rattle.wm_octagon.specs.View.{OctagonView, IsLeast}
use Rattle.wm_octagon.specs.View as view
use Rattle.wm_octagon.specs.Ranges.{low_of, high_of}
use Rattle.wm_octagon.specs.Projecting.{picked, ProjectedOf}
use Rattle.wm_octagon.specs.Projecting as drawing
use Rattle.wm_ties.proofs.Reach.{reach_range, holds_of}
use Rattle.wm_spans.specs.Spanned.{Spanned, cell_at}
use Rattle.wm_spans.specs.Spanned as spanned
use Rattle.wm_spans.specs.Exact.{Exactly, AreDrawn}
use Rattle.wm_tied.specs.Pointed.{TiedView, IsTied, In, HasPoint, InFull, shape_of, shifted}
use Rattle.wm_tied.specs.Leaving.{IsAlike, IsExactly, Inside, IsLeft}
use Rattle.wm_tied.specs.Projecting.{ArePicked, IsDrawnRange, kept_pick, AreWithin}
use Rattle.wm_tied.proofs.Mixed.{mix, mix-group, mix-past, mixed, mixed_in}
use Rattle.wm_tied.proofs.Cutting.{in_full, past_number, past_lt, full_spans, full_group}
use Rattle.wm_tied.proofs.Told.{reached_both}
use Rattle.wm_tied.proofs.Bounding.{told_as, moved_full}
use Rattle.wm_tied.proofs.Gathering.{kept_in, kept_out, alone, alone-none, alone-own, alone-other, picked_number, cell_drawn, gathered_point}

low_is : (rs : List Interval) (v : ℕ) → low_of rs v ≡ (range_at rs v).low
low_is rs v = get_or-map (λ (r : Interval). r.low) rs v nought

high_is : (rs : List Interval) (v : ℕ) → high_of rs v ≡ (range_at rs v).high
high_is rs v = get_or-map (λ (r : Interval). r.high) rs v nought

in_range : (rs : List Interval) (v : ℕ) (z : ℤ) → Within (low_of rs v) (high_of rs v) z → Holds (range_at rs v) z
in_range rs v z w = record { above = subst (λ (y : ℤ). y ≤ℤ z) (low_is rs v) w.above; below = subst (λ (y : ℤ). z ≤ℤ y) (high_is rs v) w.below }

of_range : (rs : List Interval) (v : ℕ) (z : ℤ) → Holds (range_at rs v) z → Within (low_of rs v) (high_of rs v) z
of_range rs v z w = record { above = subst (λ (y : ℤ). y ≤ℤ z) (sym (low_is rs v)) w.above; below = subst (λ (y : ℤ). z ≤ℤ y) (sym (high_is rs v)) w.below }

own_low : (r : Interval) → Holds r r.low
own_low r = record { above = le_refl r.low; below = r.ordered }

zero_add : (k : ℕ) → 0 + k ≡ k
zero_add k = omega arith

half_le : (a b : ℤ) → (a +ℤ a) ≤ℤ (b +ℤ b) → a ≤ℤ b
half_le a b h = omega (arith, ints)

in_part : (n m k l : ℕ) → l ≡ n + m → k < n → k < l
in_part n m k l e h = omega arith

same_cell : (P : Point → Type 0) (b : ℕ) (q : Point) → P q → (c : Option ℤ) → q.cells b ≡ c → IsCellTold P b c
same_cell P b q h None e = tt
same_cell P b q h (Some z) e = record { x = q; y = q; x_is = h; y_is = h; low = z; high = z; x_cell = e; y_cell = e; above = le_refl z; below = le_refl z }

drawn_none : (Has : Point → Type 0) (o : Option ℕ) (full r : Interval) → o ≡ None → IsDrawnRange Has o full r → r ≡ full
drawn_none Has o full r e d = subst (λ (x : Option ℕ). IsDrawnRange Has x full r) e d

drawn_some : (Has : Point → Type 0) (o : Option ℕ) (full r : Interval) (v : ℕ) → o ≡ Some v → IsDrawnRange Has o full r → IsHullOf (IsValueOf Has v) r
drawn_some Has o full r v e d = subst (λ (x : Option ℕ). IsDrawnRange Has x full r) e d

cell_shifted : (n : ℕ) (o : Option ℕ) (was : Point) (cell : Option ℤ) → IsPickedCell o was cell → IsPickedCell o (shifted n was) cell
cell_shifted n None was cell h = h
cell_shifted n (Some a) was cell h = h

-- the value of the picked variable, or another number
abbrev lowest_by : Option ℕ → (ℕ → ℤ) → ℤ → ℤ
lowest_by None z l = l
lowest_by (Some v) z l = z v

lowest_picked : (o : Option ℕ) (z : ℕ → ℤ) (l u : ℤ) → l ≤ℤ u → drawing.IsPicked o l u z (lowest_by o z l)
lowest_picked None z l u h = record { above = le_refl l; below = h }
lowest_picked (Some v) z l u h = refl

-- a point of a hull reaches as far as a number in it
record Reaching (Has : Point → Type 0) (v : ℕ) (b : Bool) (z : ℤ) : Type 0 where
  x : Point
  is : Has x
  far : signed b z ≤ℤ signed b (x.values v)

reaching : (Has : Point → Type 0) (v : ℕ) (b : Bool) (r : Interval) (z : ℤ) → IsHullOf (IsValueOf Has v) r → Holds r z → Reaching Has v b z
reaching Has v true r z h i = let a = h.low_is.attained in let e = a.gives in let l = i.above in record { x = a.x; is = a.is; far = omega (arith, ints) }
reaching Has v false r z h i = let a = h.high_is.attained in let e = a.gives in let l = i.below in record { x = a.x; is = a.is; far = omega (arith, ints) }

-- a number in a hull lies where all points do
hull_lies : (Has : Point → Type 0) (v : ℕ) (r full : Interval) (z : ℤ) → IsHullOf (IsValueOf Has v) r → ((p : Point) → Has p → Holds full (p.values v)) → Holds r z → Holds full z
hull_lies Has v r full z h all i =
    let a = h.low_is.attained in
    let b = h.high_is.attained in
    record {
      above = le_trans (subst (λ (y : ℤ). full.low ≤ℤ y) a.gives (all a.x a.is).above) i.above;
      below = le_trans i.below (subst (λ (y : ℤ). y ≤ℤ full.high) b.gives (all b.x b.is).below);
    }

hull_holds : (Has : Point → Type 0) (v : ℕ) (r : Interval) (p : Point) → IsHullOf (IsValueOf Has v) r → Has p → Holds r (p.values v)
hull_holds Has v r p h i = let w : IsValueOf Has v (p.values v) = record { x = p; is = i; gives = refl } in record { above = h.low_is.least _ w; below = h.high_is.greatest _ w }

module _ (c : TiedView) (h : HasPoint c) (group singles arrays : List Interval) (picks array_picks : List (Option ℕ)) (long : length picks ≡ length group + length singles) (along : length array_picks ≡ length arrays)
    (hp : ArePicks (length c.group + length c.spans.full) picks) (ha : ArePicks (length c.spans.array_full) array_picks)
    (lies : (p : Point) → In c p → ArePicked (In c) group picks 0 (length group) p) (singles_lie : (p : Point) → In c p → ArePicked (In c) singles picks (length group) (length singles) p) where
  abbrev pick : ℕ → Option ℕ
  pick k = slice_index_or picks k None

  group_lies : (p : Point) → In c p → (k v : ℕ) → k < length group → pick k ≡ Some v → Holds (range_at group k) (p.values v)
  group_lies p i k v hk e = (lies p i).numbers k v hk (ap pick (zero_add k) ∙ e)

  place : (p : Point) → In c p → (k v : ℕ) → k < length picks → pick k ≡ Some v → Holds (range_at (group ++ singles) k) (p.values v)
  place p i k v hk e = elim (cases_lt k (length group)) [
    | inl g ↦ subst (λ (r : Interval). Holds r (p.values v)) (sym (get_or_append_left group singles nought k g)) (group_lies p i k v g e)
    | inr g ↦ subst (λ (r : Interval). Holds r (p.values v)) (sym (get_or-append_right group singles (length group) k nought refl g))
        ((singles_lie p i).numbers (k - length group) v (past_lt (length group) (length singles) k (length picks) long hk g) (ap pick (past_number (length group) k g) ∙ e))
  ]

  -- a number in the hull of a variable past the group lies in its range
  single_range : (v : ℕ) (r : Interval) (z : ℤ) → length c.group ≤ v → v < length c.group + length c.spans.full → IsHullOf (IsValueOf (In c) v) r → Holds r z → Holds (range_at c.spans.ranges (v - length c.group)) z
  single_range v r z hv hs u i = hull_lies (In c) v r (range_at c.spans.ranges (v - length c.group)) z u
      (λ p j. subst (λ (k : ℕ). Holds (range_at c.spans.ranges (v - length c.group)) (p.values k)) (past_number (length c.group) v hv)
      (j.spans.numbers (v - length c.group) (past_lt (length c.group) (length c.spans.full) v (length c.group + length c.spans.full) refl hs hv))) i

  module _ (keep : List (Option ℕ)) (ranges single_ranges : List Interval) (o : OctagonView) (s1 s2 : Spanned) (keep_long : length keep ≡ length group)
      (keep_each : (k : ℕ) → k < length group → slice_index_or keep k None ≡ kept_pick (length c.group) (slice_index_or picks k None))
      (ranges_each : (k : ℕ) → k < length group → slice_index_or keep k None ≡ None → IsDrawnRange (In c) (slice_index_or picks (0 + k) None) (range_at group k) (range_at ranges k))
      (single_long : length single_ranges ≡ length singles)
      (single_each : (k : ℕ) → k < length singles → IsDrawnRange (In c) (slice_index_or picks (length group + k) None) (range_at singles k) (range_at single_ranges k))
      (counted : o.variables ≡ length keep) (least : IsLeast o (ProjectedOf c.ties keep ranges)) (f1 : s1.full ≡ singles) (a1 : s1.array_full ≡ arrays) (f2 : s2.full ≡ s1.full) (a2 : s2.array_full ≡ s1.array_full)
      (drawn : Exactly s1 (AreDrawn (cell_at c.spans.cells) array_picks (length arrays))) (within : Exactly s2 (AreWithin (spanned.In s1) single_ranges (length single_ranges)))
      (few : length group ≤ 32) (narrow : All IsNarrow group) where
    abbrev t : TiedView
    t = record { group = group; ties = o; spans = s2 }

    abbrev Tie : (ℕ → ℤ) → Type 0
    Tie = ProjectedOf c.ties keep ranges

    in_keep : (k : ℕ) → k < length group → k < length keep
    in_keep k hk = subst (λ (n : ℕ). k < n) (sym keep_long) hk

    range_drawn : (k : ℕ) → k < length group → slice_index_or keep k None ≡ None → IsDrawnRange (In c) (pick k) (range_at group k) (range_at ranges k)
    range_drawn k hk none = subst (λ (n : ℕ). IsDrawnRange (In c) (pick n) (range_at group k) (range_at ranges k)) (zero_add k) (ranges_each k hk none)

    single_drawn : (k : ℕ) → length group ≤ k → k < length picks → IsDrawnRange (In c) (pick k) (range_at singles (k - length group)) (range_at single_ranges (k - length group))
    single_drawn k g hk = subst (λ (n : ℕ). IsDrawnRange (In c) (pick n) (range_at singles (k - length group)) (range_at single_ranges (k - length group))) (past_number (length group) k g)
        (single_each (k - length group) (past_lt (length group) (length singles) k (length picks) long hk g))

    -- ---- the numbers of the group at a point of the picked ties

    tie_own : (x : ℕ → ℤ) (i : ProjectedOf c.ties keep ranges x) (k v : ℕ) → k < length group → pick k ≡ Some v → v < length c.group → x k ≡ i.was v
    tie_own x i k v hk e hv = subst (λ (q : Option ℕ). drawing.IsPicked q (low_of ranges k) (high_of ranges k) i.was (x k)) (keep_each k hk ∙ ap (kept_pick (length c.group)) e ∙ kept_in (length c.group) v hv) (i.each k (in_keep k hk))

    tie_range : (x : ℕ → ℤ) (i : ProjectedOf c.ties keep ranges x) (k : ℕ) → k < length group → slice_index_or keep k None ≡ None → Holds (range_at ranges k) (x k)
    tie_range x i k hk e = in_range ranges k (x k) (subst (λ (q : Option ℕ). drawing.IsPicked q (low_of ranges k) (high_of ranges k) i.was (x k)) e (i.each k (in_keep k hk)))

    keep_none : (k : ℕ) → k < length group → pick k ≡ None → slice_index_or keep k None ≡ None
    keep_none k hk e = keep_each k hk ∙ ap (kept_pick (length c.group)) e

    keep_other : (k v : ℕ) → k < length group → pick k ≡ Some v → length c.group ≤ v → slice_index_or keep k None ≡ None
    keep_other k v hk e hv = keep_each k hk ∙ ap (kept_pick (length c.group)) e ∙ kept_out (length c.group) v hv

    abbrev base_of : (ℕ → ℤ) → Point
    base_of z = mixed (length c.group) z (shifted (length c.group) h.point)

    base_in : (z : ℕ → ℤ) → view.Holds c.ties z → In c (base_of z)
    base_in z i = mixed_in c z (shifted (length c.group) h.point) h.is.tied i h.is.spans

    base_at : (z : ℕ → ℤ) (v : ℕ) → v < length c.group → (base_of z).values v ≡ z v
    base_at z v hv = mix-group (length c.group) z (shifted (length c.group) h.point).values v hv

    tie_full : (x : ℕ → ℤ) (i : ProjectedOf c.ties keep ranges x) (k : ℕ) (q : Option ℕ) → k < length group → pick k ≡ q → Holds (range_at group k) (x k)
    tie_full x i k None hk e = subst (λ (r : Interval). Holds r (x k)) (drawn_none (In c) (pick k) (range_at group k) (range_at ranges k) e (range_drawn k hk (keep_none k hk e))) (tie_range x i k hk (keep_none k hk e))
    tie_full x i k (Some v) hk e = elim (cases_lt v (length c.group)) [
      | inl l ↦ subst (Holds (range_at group k)) (base_at i.was v l ∙ sym (tie_own x i k v hk e l)) (group_lies (base_of i.was) (base_in i.was i.point) k v hk e)
      | inr g ↦ hull_lies (In c) v (range_at ranges k) (range_at group k) (x k) (drawn_some (In c) (pick k) (range_at group k) (range_at ranges k) v e (range_drawn k hk (keep_other k v hk e g))) (λ p j. group_lies p j k v hk e) (tie_range x i k hk (keep_other k v hk e g))
    ]

    pub drawn_tied : IsTied group o
    drawn_tied = record {
      counted = counted ∙ keep_long;
      few = few;
      narrow = λ v hv. All-get_or IsNarrow group v nought hv narrow;
      inside = λ x hx. record {
        inside = λ v hv. reach_range o (ProjectedOf c.ties keep ranges) v (range_at group v).low (range_at group v).high (subst (λ (n : ℕ). v < n) (sym (counted ∙ keep_long)) hv) least (λ y i. tie_full y i v (pick v) hv refl) x hx;
      };
    }

    -- a point of the picked ties, from one of the older
    abbrev low_point : (ℕ → ℤ) → ℕ → ℤ
    low_point z k = lowest_by (picked keep k) z (low_of ranges k)

    abbrev low_tie : (z : ℕ → ℤ) → view.Holds c.ties z → ProjectedOf c.ties keep ranges (low_point z)
    low_tie z i = record { was = z; point = i; each = λ k hk. lowest_picked (picked keep k) z (low_of ranges k) (high_of ranges k) (subst (λ (y : ℤ). y ≤ℤ high_of ranges k) (sym (low_is ranges k)) (of_range ranges k (range_at ranges k).low (own_low (range_at ranges k))).below) }

    -- ---- a picked point, from one of the picked ties and all else of a point that is left

    abbrev drawn_point : (ℕ → ℤ) → (ℕ → ℤ) → Point → Point
    drawn_point x z p = record { values = mix (length group) x (λ j. alone (length c.group) (pick (length group + j)) z (p.values (length group + j))); cells = p.cells }

    at_group : (x z : ℕ → ℤ) (p : Point) (k : ℕ) → k < length group → (drawn_point x z p).values k ≡ x k
    at_group x z p k hk = mix-group (length group) x (λ j. alone (length c.group) (pick (length group + j)) z (p.values (length group + j))) k hk

    at_past : (x z : ℕ → ℤ) (p : Point) (k : ℕ) → length group ≤ k → (drawn_point x z p).values k ≡ alone (length c.group) (pick k) z (p.values k)
    at_past x z p k g = mix-past (length group) x (λ j. alone (length c.group) (pick (length group + j)) z (p.values (length group + j))) k g
        ∙ ap (λ (u : ℕ). alone (length c.group) (pick u) z (p.values u)) (past_number (length group) k g)

    single_in : (p : Point) → In t p → (k : ℕ) → length group ≤ k → k < length picks → Holds (range_at single_ranges (k - length group)) (p.values k)
    single_in p i k g hk = subst (λ (u : ℕ). Holds (range_at single_ranges (k - length group)) (p.values u)) (past_number (length group) k g)
        ((within.made (shifted (length group) p) i.spans).numbers (k - length group) (subst (λ (n : ℕ). k - length group < n) (sym single_long) (past_lt (length group) (length singles) k (length picks) long hk g)))

    full_in : (p : Point) → InFull t p → IsInside (group ++ singles) arrays p
    full_in p i = subst (λ (xs : List Interval). IsInside (group ++ xs) arrays p) (f2 ∙ f1) (subst (λ (xs : List Interval). IsInside (group ++ s2.full) xs p) (a2 ∙ a1) i)

    in_picks : (k : ℕ) → k < length (group ++ singles) → k < length picks
    in_picks k hk = subst (λ (n : ℕ). k < n) (length-append group singles ∙ sym long) hk

    of_picks : (k : ℕ) → k < length picks → k < length (group ++ singles)
    of_picks k hk = subst (λ (n : ℕ). k < n) (long ∙ sym (length-append group singles)) hk

    drawn_projected : (x : ℕ → ℤ) (i : ProjectedOf c.ties keep ranges x) (p : Point) → In t p → Projected (In c) picks array_picks (drawn_point x i.was p)
    drawn_projected x i p ip = gathered_point c picks array_picks hp ha (drawn_point x i.was p) (base_of i.was) (base_in i.was i.point)
        (λ k v hk e hv. elim (cases_lt k (length group)) [
          | inl g ↦ subst (Holds (range_at c.spans.ranges (v - length c.group))) (sym (at_group x i.was p k g))
              (single_range v (range_at ranges k) (x k) hv (hp.named k v e) (drawn_some (In c) (pick k) (range_at group k) (range_at ranges k) v e (range_drawn k g (keep_other k v g e hv))) (tie_range x i k g (keep_other k v g e hv)))
          | inr g ↦ subst (Holds (range_at c.spans.ranges (v - length c.group))) (sym (at_past x i.was p k g ∙ alone-other (length c.group) (pick k) i.was (p.values k) v e hv))
              (single_range v (range_at single_ranges (k - length group)) (p.values k) hv (hp.named k v e) (drawn_some (In c) (pick k) (range_at singles (k - length group)) (range_at single_ranges (k - length group)) v e (single_drawn k g hk)) (single_in p ip k g hk))
        ])
        (λ a h1. (drawn.made (shifted (length group) p) (within.made (shifted (length group) p) ip.spans).point).cells a (subst (λ (n : ℕ). a < n) along h1))
        (λ k v hk e hv. elim (cases_lt k (length group)) [
          | inl g ↦ at_group x i.was p k g ∙ tie_own x i k v g e hv ∙ sym (base_at i.was v hv)
          | inr g ↦ at_past x i.was p k g ∙ alone-own (length c.group) (pick k) i.was (p.values k) v e hv ∙ sym (base_at i.was v hv)
        ])

    drawn_at : (x : ℕ → ℤ) (i : ProjectedOf c.ties keep ranges x) (p : Point) → In t p → (k : ℕ) → k < length picks → (q : Option ℕ) → pick k ≡ q → Holds (range_at (group ++ singles) k) ((drawn_point x i.was p).values k)
    drawn_at x i p ip k hk None e = elim (cases_lt k (length group)) [
      | inl g ↦ subst (Holds (range_at (group ++ singles) k)) (sym (at_group x i.was p k g)) (subst (λ (r : Interval). Holds r (x k)) (sym (get_or_append_left group singles nought k g)) (tie_full x i k None g e))
      | inr g ↦ subst (Holds (range_at (group ++ singles) k)) (sym (at_past x i.was p k g ∙ alone-none (length c.group) (pick k) i.was (p.values k) e)) ((full_in p (in_full t p ip)).numbers k (of_picks k hk))
    ]
    drawn_at x i p ip k hk (Some v) e = let d = drawn_projected x i p ip in subst (Holds (range_at (group ++ singles) k)) (sym (picked_number d.was ((drawn_point x i.was p).values k) (pick k) v e (d.numbers k hk))) (place d.was d.point k v hk e)

    abbrev Left : Point → Type 0
    Left = Inside t (Projected (In c) picks array_picks)

    drawn_left : (x : ℕ → ℤ) (i : ProjectedOf c.ties keep ranges x) (p : Point) → In t p → Left (drawn_point x i.was p)
    drawn_left x i p ip = record {
      is = drawn_projected x i p ip;
      inside =
          subst (λ (xs : List Interval). IsInside (group ++ xs) s2.array_full (drawn_point x i.was p)) (sym (f2 ∙ f1))
          (record { numbers = λ k hk. drawn_at x i p ip k (in_picks k hk) (pick k) refl; set_cells = (in_full t p ip).set_cells });
    }

    -- ---- a point that is left is told by such

    in_ties : (v : ℕ) → v < length group → v < o.variables
    in_ties v hv = subst (λ (n : ℕ). v < n) (sym (counted ∙ keep_long)) hv

    sum_same : {a b c d : ℤ} → a ≡ c → b ≡ d → c +ℤ d ≡ a +ℤ b
    sum_same e f = omega (arith, ints)

    low_left : (p : Point) → In t p → (z : Point) → In c z → Left (drawn_point (low_point z.values) z.values p)
    low_left p ip z i = drawn_left (low_point z.values) (low_tie z.values i.ties) p ip

    single_told : (p : Point) → In t p → (w : Term) → length group ≤ w.variable → w.variable < length picks → (q : Option ℕ) → pick w.variable ≡ q → IsReached Left (λ z. term_value z w) p
    single_told p ip w g hw None e = record {
      x = drawn_point (low_point h.point.values) h.point.values p;
      is = low_left p ip h.point h.is;
      reaches = le_of_eq (ap (signed w.negative) (sym (at_past (low_point h.point.values) h.point.values p w.variable g ∙ alone-none (length c.group) (pick w.variable) h.point.values (p.values w.variable) e)));
    }
    single_told p ip w g hw (Some v) e = elim (cases_lt v (length c.group)) [
      | inl l ↦ (
          let r = reaching (In c) v w.negative (range_at single_ranges (w.variable - length group)) (p.values w.variable) (drawn_some (In c) (pick w.variable) (range_at singles (w.variable - length group)) (range_at single_ranges (w.variable - length group)) v e (single_drawn w.variable g hw)) (single_in p ip w.variable g hw) in
          record {
            x = drawn_point (low_point r.x.values) r.x.values p;
            is = low_left p ip r.x r.is;
            reaches = subst (λ (z : ℤ). signed w.negative (p.values w.variable) ≤ℤ signed w.negative z) (sym (at_past (low_point r.x.values) r.x.values p w.variable g ∙ alone-own (length c.group) (pick w.variable) r.x.values (p.values w.variable) v e l)) r.far;
          })
      | inr j ↦ record {
        x = drawn_point (low_point h.point.values) h.point.values p;
        is = low_left p ip h.point h.is;
        reaches = le_of_eq (ap (signed w.negative) (sym (at_past (low_point h.point.values) h.point.values p w.variable g ∙ alone-other (length c.group) (pick w.variable) h.point.values (p.values w.variable) v e j)));
      }
    ]

    at_term : (x z : ℕ → ℤ) (p : Point) (w : Term) → w.variable < length group → term_value (drawn_point x z p).values w ≡ term_value x w
    at_term x z p w hw = ap (signed w.negative) (at_group x z p w.variable hw)

    drawn_told : (p : Point) → In t p → IsTold true (shape_of t) Left p
    drawn_told p ip = record {
      some = drawn_point (low_point h.point.values) h.point.values p;
      some_is = low_left p ip h.point h.is;
      each = λ w hw. elim (cases_lt w.variable (length group)) [
        | inl g ↦ (
            let f = reached_both o (ProjectedOf c.ties keep ranges) least p.values ip.ties w w (in_ties w.variable g) (in_ties w.variable g) in
            record { x = drawn_point f.y f.is.was p; is = drawn_left f.y f.is p ip; reaches = subst (λ (z : ℤ). term_value p.values w ≤ℤ z) (sym (at_term f.y f.is.was p w g)) (half_le _ _ f.far) })
        | inr g ↦ single_told p ip w g (in_picks w.variable (subst (λ (xs : List Interval). w.variable < length (group ++ xs)) (f2 ∙ f1) hw)) (pick w.variable) refl
      ];
      pair = λ on w v hw hv ne.
          let f = reached_both o (ProjectedOf c.ties keep ranges) least p.values ip.ties w v (in_ties w.variable hw) (in_ties v.variable hv) in
          record {
            x = drawn_point f.y f.is.was p;
            is = drawn_left f.y f.is p ip;
            reaches = subst (λ (z : ℤ). (term_value p.values w +ℤ term_value p.values v) ≤ℤ z) (sum_same (at_term f.y f.is.was p w hw) (at_term f.y f.is.was p v hv)) f.far;
          };
      cells = λ a h1. same_cell Left a (drawn_point (low_point h.point.values) h.point.values p) (low_left p ip h.point h.is) (p.cells a) refl;
    }

    -- ---- no picked point is lost

    kept_number : (p : Point) → InFull t p → (d : Projected (In c) picks array_picks p) → (k : ℕ) → k < length group → (q : Option ℕ) → pick k ≡ q → drawing.IsPicked (slice_index_or keep k None) (low_of ranges k) (high_of ranges k) d.was.values (p.values k)
    kept_number p f d k hk None e = subst (λ (x : Option ℕ). drawing.IsPicked x (low_of ranges k) (high_of ranges k) d.was.values (p.values k)) (sym (keep_none k hk e))
        (of_range ranges k (p.values k) (subst (λ (r : Interval). Holds r (p.values k)) (sym (drawn_none (In c) (pick k) (range_at group k) (range_at ranges k) e (range_drawn k hk (keep_none k hk e)))) (full_group t p f k hk)))
    kept_number p f d k hk (Some v) e =
        let same = picked_number d.was (p.values k) (pick k) v e (d.numbers k (in_part (length group) (length singles) k (length picks) long hk)) in
        elim (cases_lt v (length c.group)) [
          | inl l ↦ subst (λ (x : Option ℕ). drawing.IsPicked x (low_of ranges k) (high_of ranges k) d.was.values (p.values k)) (sym (keep_each k hk ∙ ap (kept_pick (length c.group)) e ∙ kept_in (length c.group) v l)) same
          | inr g ↦ subst (λ (x : Option ℕ). drawing.IsPicked x (low_of ranges k) (high_of ranges k) d.was.values (p.values k)) (sym (keep_other k v hk e g))
              (of_range ranges k (p.values k) (subst (Holds (range_at ranges k)) (sym same) (hull_holds (In c) v (range_at ranges k) d.was (drawn_some (In c) (pick k) (range_at group k) (range_at ranges k) v e (range_drawn k hk (keep_other k v hk e g))) d.point)))
        ]

    single_more : (k : ℕ) → k < length singles → length group + k < length picks
    single_more k hk = subst (λ (n : ℕ). length group + k < n) (sym long) (omega arith)

    kept_single : (p : Point) → InFull t p → (d : Projected (In c) picks array_picks p) → (k : ℕ) → k < length singles → (q : Option ℕ) → pick (length group + k) ≡ q → Holds (range_at single_ranges k) (p.values (length group + k))
    kept_single p f d k hk None e = subst (λ (r : Interval). Holds r (p.values (length group + k))) (sym (drawn_none (In c) (pick (length group + k)) (range_at singles k) (range_at single_ranges k) e (single_each k hk)))
        (subst (λ (xs : List Interval). Holds (range_at xs k) (p.values (length group + k))) (f2 ∙ f1) ((full_spans t p f).numbers k (subst (λ (xs : List Interval). k < length xs) (sym (f2 ∙ f1)) hk)))
    kept_single p f d k hk (Some v) e =
        let same = picked_number d.was (p.values (length group + k)) (pick (length group + k)) v e (d.numbers (length group + k) (single_more k hk)) in
        subst (Holds (range_at single_ranges k)) (sym same) (hull_holds (In c) v (range_at single_ranges k) d.was (drawn_some (In c) (pick (length group + k)) (range_at singles k) (range_at single_ranges k) v e (single_each k hk)) d.point)

    drawn_kept : (p : Point) → InFull t p → Projected (In c) picks array_picks p → In t p
    drawn_kept p f d = record {
      tied = drawn_tied;
      ties = holds_of o (ProjectedOf c.ties keep ranges) least p.values (record { was = d.was.values; point = d.point.ties; each = λ k hk. kept_number p f d k (subst (λ (n : ℕ). k < n) keep_long hk) (pick k) refl });
      spans = within.kept (shifted (length group) p) (full_spans t p f) (record {
        point = drawn.kept (shifted (length group) p)
            (subst (λ (xs : List Interval). IsInside xs s1.array_full (shifted (length group) p)) f2 (subst (λ (xs : List Interval). IsInside s2.full xs (shifted (length group) p)) a2 (full_spans t p f)))
            (record { cells = λ a h1. cell_drawn c.spans (shifted (length c.group) d.was) (slice_index_or array_picks a None) (p.cells a) d.point.spans (λ b y. ha.named a b y) (cell_shifted (length c.group) (slice_index_or array_picks a None) d.was (p.cells a) (d.cells a (subst (λ (n : ℕ). a < n) (sym along) h1))) });
        numbers = λ k hk. let g = subst (λ (n : ℕ). k < n) single_long hk in kept_single p f d k g (pick (length group + k)) refl;
      });
    }

    pub drawn_leaves : IsLeft t (Projected (In c) picks array_picks)
    drawn_leaves = record { kept = drawn_kept; told = drawn_told }

-- ---- as the code has it

pub all_narrow : (xs : List Interval) → All IsNarrow xs → (k : ℕ) → k < length xs → IsNarrow (range_at xs k)
all_narrow xs h k hk = All-get_or IsNarrow xs k nought hk h

pub kept_as : (keep picks : List (Option ℕ)) (m n l limit : ℕ) → n ≡ m → limit ≡ l → ((k : ℕ) → k < n → slice_index_or keep k None ≡ kept_pick limit (slice_index_or picks k None))
    → (k : ℕ) → k < m → slice_index_or keep k None ≡ kept_pick l (slice_index_or picks k None)
kept_as keep picks m n l limit e f each k hk = each k (subst (λ (j : ℕ). k < j) (sym e) hk) ∙ ap (λ (j : ℕ). kept_pick j (slice_index_or picks k None)) f

pub drawn_as : (Has : Point → Type 0) (picks : List (Option ℕ)) (full ranges : List Interval) (m n : ℕ) → n ≡ m → ((k : ℕ) → k < length full → IsDrawnRange Has (slice_index_or picks (n + k) None) (range_at full k) (range_at ranges k))
    → (k : ℕ) → k < length full → IsDrawnRange Has (slice_index_or picks (m + k) None) (range_at full k) (range_at ranges k)
drawn_as Has picks full ranges m n e each = subst (λ (j : ℕ). (k : ℕ) → k < length full → IsDrawnRange Has (slice_index_or picks (j + k) None) (range_at full k) (range_at ranges k)) e each

-- what is left of a state that has the same points, or of one that has more of which the others are not picked
pub left_of_old : (t s c : TiedView) (picks arrays : List (Option ℕ)) → ((p : Point) → In c p → In s p) → ((p : Point) → InFull t p → Projected (In s) picks arrays p → Projected (In c) picks arrays p) → IsLeft t (Projected (In c) picks arrays) → IsLeft t (Projected (In s) picks arrays)
left_of_old t s c picks arrays f g l = record {
  kept = λ p i d. l.kept p i (g p i d);
  told = λ p i. told_as (shape_of t) (Inside t (Projected (In c) picks arrays)) (Inside t (Projected (In s) picks arrays)) p
      (λ q w. record { is = record { was = w.is.was; point = f w.is.was w.is.point; numbers = w.is.numbers; cells = w.is.cells }; inside = w.inside }) (l.told p i);
}

module _ (s s0 s1 s2 : TiedView) (group singles : List Interval) (picks arrays : List (Option ℕ)) (m : ℕ) (first : m ≡ length group) (long : length picks ≡ length group + length singles) (same : s0 ≡ s) (a1 : IsAlike s0 s1) (a2 : IsAlike s1 s2)
    (e1 : IsExactly s1 (ArePicked (In s0) group picks 0 (length group))) (e2 : IsExactly s2 (ArePicked (In s1) singles picks m (length singles))) where
  pub cut_fewer : (p : Point) → In s2 p → In s p
  cut_fewer p i = subst (λ (u : TiedView). In u p) same (e1.made p (e2.made p i).point).point

  pub cut_group : (p : Point) → In s2 p → ArePicked (In s2) group picks 0 (length group) p
  cut_group p i = let w = e1.made p (e2.made p i).point in record { point = i; numbers = w.numbers }

  pub cut_singles : (p : Point) → In s2 p → ArePicked (In s2) singles picks (length group) (length singles) p
  cut_singles p i = let w = e2.made p i in record { point = i; numbers = subst (λ (n : ℕ). (k v : ℕ) → k < length singles → slice_index_or picks (n + k) None ≡ Some v → Holds (range_at singles k) (p.values v)) first w.numbers }

  -- a picked point within the new full ranges was picked of a point that is left by the cuts
  pub cut_picked_of : (t : TiedView) → t.group ≡ group → t.spans.full ≡ singles → (p : Point) → InFull t p → Projected (In s) picks arrays p → Projected (In s2) picks arrays p
  cut_picked_of t e f p i d = record {
    was = d.was;
    point = e2.kept d.was (moved_full s1 s2 d.was a2 full1) (record { point = in1; numbers = λ k v hk q. subst (Holds (range_at singles k)) (number (m + k) v (more k hk) q) (single_at k hk) });
    numbers = d.numbers;
    cells = d.cells;
  }
    where
      in0 : In s0 d.was
      in0 = subst (λ (u : TiedView). In u d.was) (sym same) d.point

      full1 : InFull s1 d.was
      full1 = moved_full s0 s1 d.was a1 (in_full s0 d.was in0)

      number : (k v : ℕ) → k < length picks → slice_index_or picks k None ≡ Some v → p.values k ≡ d.was.values v
      number k v hk q = picked_number d.was (p.values k) (slice_index_or picks k None) v q (d.numbers k hk)

      more : (k : ℕ) → k < length singles → m + k < length picks
      more k hk = omega arith

      less : (k : ℕ) → k < length group → 0 + k < length picks
      less k hk = omega arith

      group_at : (k : ℕ) → k < length group → Holds (range_at group k) (p.values (0 + k))
      group_at k hk = subst (λ (j : ℕ). Holds (range_at group k) (p.values j)) (sym (zero_add k)) (subst (λ (xs : List Interval). Holds (range_at xs k) (p.values k)) e (full_group t p i k (subst (λ (xs : List Interval). k < length xs) (sym e) hk)))

      single_at : (k : ℕ) → k < length singles → Holds (range_at singles k) (p.values (m + k))
      single_at k hk = subst (λ (j : ℕ). Holds (range_at singles k) (p.values (j + k))) (sym first) (subst (λ (xs : List Interval). Holds (range_at singles k) (p.values (length xs + k))) e
          (subst (λ (xs : List Interval). Holds (range_at xs k) (p.values (length t.group + k))) f ((full_spans t p i).numbers k (subst (λ (xs : List Interval). k < length xs) (sym f) hk))))

      in1 : In s1 d.was
      in1 = e1.kept d.was full1 (record { point = in0; numbers = λ k v hk q. subst (Holds (range_at group k)) (number (0 + k) v (less k hk) q) (group_at k hk) })

-- where nothing is left, nothing is picked
pub none_left : (t s c : TiedView) (picks arrays : List (Option ℕ)) → ((p : Point) → In c p → ⊥) → ((p : Point) → InFull t p → Projected (In s) picks arrays p → Projected (In c) picks arrays p) → ((p : Point) → In t p → ⊥) → IsLeft t (Projected (In s) picks arrays)
none_left t s c picks arrays none g empty = record { kept = λ p i d. absurd (let w = g p i d in none w.was w.point); told = λ p i. absurd (empty p i) }

pub alike_of_two : (s s0 s1 s2 : TiedView) → s0 ≡ s → IsAlike s0 s1 → IsAlike s1 s2 → IsAlike s s2
alike_of_two s s0 s1 s2 e a b = record {
  group = b.group ∙ a.group ∙ ap (λ (u : TiedView). u.group) e;
  full = b.full ∙ a.full ∙ ap (λ (u : TiedView). u.spans.full) e;
  array_full = b.array_full ∙ a.array_full ∙ ap (λ (u : TiedView). u.spans.array_full) e;
}

pub alike_of_one : (s s0 s1 : TiedView) → s0 ≡ s → IsAlike s0 s1 → IsAlike s s1
alike_of_one s s0 s1 e a = record {
  group = a.group ∙ ap (λ (u : TiedView). u.group) e;
  full = a.full ∙ ap (λ (u : TiedView). u.spans.full) e;
  array_full = a.array_full ∙ ap (λ (u : TiedView). u.spans.array_full) e;
}

pub alike_same : (s s0 : TiedView) → s0 ≡ s → IsAlike s s0
alike_same s s0 e = record { group = ap (λ (u : TiedView). u.group) e; full = ap (λ (u : TiedView). u.spans.full) e; array_full = ap (λ (u : TiedView). u.spans.array_full) e }

pub picks_of : (s t : TiedView) (picks : List (Option ℕ)) → IsAlike s t → ArePicks (length s.group + length s.spans.full) picks → ArePicks (length t.group + length t.spans.full) picks
picks_of s t picks a h = subst (λ (xs : List Interval). ArePicks (length xs + length t.spans.full) picks) (sym a.group) (subst (λ (xs : List Interval). ArePicks (length s.group + length xs) picks) (sym a.full) h)

pub array_picks_of : (s t : TiedView) (picks : List (Option ℕ)) → IsAlike s t → ArePicks (length s.spans.array_full) picks → ArePicks (length t.spans.array_full) picks
array_picks_of s t picks a h = subst (λ (xs : List Interval). ArePicks (length xs) picks) (sym a.array_full) h

pub bare_of : (t : TiedView) (b : Bool) → b ≡ true → MatchBool b ((p : Point) → In t p → ⊥) (HasPoint t) → (p : Point) → In t p → ⊥
bare_of t true e m = m
bare_of t false e m = cc

pub point_of : (t : TiedView) (b : Bool) → b ≡ false → MatchBool b ((p : Point) → In t p → ⊥) (HasPoint t) → HasPoint t
point_of t true e m = cc
point_of t false e m = m
