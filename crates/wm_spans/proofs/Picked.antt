-- Ranges and summaries that begin anew, with those of picked variables and arrays.
use Rattle.std.proofs.Common.{◌≡◌, ◌≢◌, ◌⊎◌, inl, inr, ℕ, zero, suc, ◌+◌, ◌-◌, ◌<◌, ◌≤◌, ℤ, ◌≤ℤ◌, List, ◌++◌, length, Bool, false, true, sym, ◌∙◌, ap, subst, refl, arith, Some, None, Option}
use Rattle.std.specs.Prelude.{◌↔◌, All, slice_index_or, replicate}
use Rattle.std.proofs.lemmas.Int.{ints}
use Rattle.std.proofs.lemmas.Bool.{cases_eq}
use Rattle.std.proofs.lemmas.List.Elements.{All-get_or}
use Rattle.std.proofs.lemmas.List.{get_or_append_left, get_or-append_right, length-append}
use Rattle.wm_numbers.proofs.Order.{le_refl}
use Rattle.wm_interval.specs.declared.Interval.{Interval}
use Rattle.wm_interval.specs.Holds.{Holds}
use Rattle.wm_arrays.specs.declared.summary.Summary.{Summary}
use Rattle.wm_arrays.specs.declared.summary.Summary.TheVariants.{Empty, Range}
use Rattle.wm_arrays.specs.Meaning.{Allows}
use Rattle.wm_domain.specs.Points.{Point, range_at, nought, IsNarrow, IsInside, SameBut, AllowsCell}
use Rattle.wm_domain.specs.Changes.{Projected, ArePicks, IsPicked, IsPickedCell}
use Rattle.wm_domain.proofs.Moving.{with_value, with_value-but, moved-here, moved-there}
use Rattle.wm_spans.specs.Spanned.{Spanned, cell_at, Lies, CellsLie, IsKept, Kept, In}
use Rattle.wm_spans.specs.Exact.{Exactly, Bounded, IsBlank, IsDrawn, AreDrawn, IsDrawnAt, AreCut, IsCutAt}
use Rattle.wm_spans.proofs.Listed.{not_both, lies_holds}
use Rattle.wm_spans.proofs.Ends.{lowest, lowest_in, in_but, in_but_cell}
use Rattle.wm_spans.proofs.Writing.{with_cell, with_cell-but, cell_moved-here, cell_moved-there}
use Rattle.wm_spans.proofs.Summing.{moved_in}

-- ---- the beginning

own_lies : (r : Interval) → Lies r r
own_lies r = record { above = le_refl r.low; below = le_refl r.high }

narrow_at : (xs ys : List Interval) (v : ℕ) → All IsNarrow xs → All IsNarrow ys → v < length (xs ++ ys) → IsNarrow (range_at (xs ++ ys) v)
narrow_at xs ys v h k hv = elim (side v (length xs)) [
  | inl l ↦ subst IsNarrow (sym (get_or_append_left xs ys nought v l)) (All-get_or IsNarrow xs v nought l h)
  | inr g ↦ subst IsNarrow (sym (get_or-append_right xs ys (length xs) v nought refl g)) (All-get_or IsNarrow ys (v - length xs) nought (past (length xs) (length ys) v g (subst (λ (n : ℕ). v < n) (length-append xs ys) hv)) k)
]
  where
    side : (v n : ℕ) → (v < n) ⊎ (n ≤ v)
    side v n = grind arith

    past : (n m v : ℕ) → n ≤ v → v < n + m → v - n < m
    past n m v h k = omega arith

pub kept_begin : (xs ys arrays : List Interval) (cells : List Summary) → All IsNarrow xs → All IsNarrow ys → length cells ≡ length arrays → ((a : ℕ) → a < length arrays → CellsLie (range_at arrays a) (cell_at cells a))
    → IsKept (xs ++ ys) arrays (xs ++ ys) cells
kept_begin xs ys arrays cells h k long lies = record {
  ranges_long = refl;
  cells_long = long;
  narrow = λ v hv. narrow_at xs ys v h k hv;
  ranges_lie = λ v hv. own_lies (range_at (xs ++ ys) v);
  cells_lie = lies;
}

blank_at : (n a : ℕ) → cell_at (replicate n Empty) a ≡ Empty
blank_at zero a = refl
blank_at (suc n) zero = refl
blank_at (suc n) (suc a) = blank_at n a

blank_lies : (full : Interval) (s : Summary) → s ≡ Empty → CellsLie full s
blank_lies full s e = subst (CellsLie full) (sym e) tt

pub cells_blank : (arrays : List Interval) (n a : ℕ) → CellsLie (range_at arrays a) (cell_at (replicate n Empty) a)
cells_blank arrays n a = blank_lies (range_at arrays a) (cell_at (replicate n Empty) a) (blank_at n a)

blank_allows : (s : Summary) (c : Option ℤ) → s ≡ Empty → AllowsCell s c → c ≡ None
blank_allows s None e h = refl
blank_allows s (Some z) e h = absurd (subst (λ (t : Summary). Allows t z) e h)

allows_blank : (s : Summary) (c : Option ℤ) → c ≡ None → AllowsCell s c
allows_blank s c e = subst (AllowsCell s) (sym e) tt

pub blank_exactly : (s : Spanned) (full arrays : List Interval) (cells : List Summary) → s ≡ record { full = full; array_full = arrays; ranges = full; cells = cells; empty = false } → Kept s → cells ≡ replicate (length arrays) Empty → Exactly s (IsBlank (length arrays))
blank_exactly s full arrays cells e k c = record {
  made = λ p i a ha. blank_allows (cell_at s.cells a) (p.cells a) (empty_at a) (i.cells a (subst (λ (t : Spanned). a < length t.array_full) (sym e) ha));
  kept = λ p i h. record {
    some = ap (λ (t : Spanned). t.empty) e;
    kept = k;
    numbers = λ v hv. subst (λ (xs : List Interval). Holds (range_at xs v) (p.values v)) (ap (λ (t : Spanned). t.full) e ∙ sym (ap (λ (t : Spanned). t.ranges) e)) (i.numbers v hv);
    cells = λ a ha. allows_blank (cell_at s.cells a) (p.cells a) (h a (subst (λ (t : Spanned). a < length t.array_full) e ha));
  };
}
  where
    empty_at : (a : ℕ) → cell_at s.cells a ≡ Empty
    empty_at a = ap (λ (t : Spanned). cell_at t.cells a) e ∙ ap (λ (xs : List Summary). cell_at xs a) c ∙ blank_at (length arrays) a

-- ---- picked arrays

drawn_of : (old : ℕ → Summary) (o : Option ℕ) (full : Interval) (t : Summary) (c : Option ℤ) → IsDrawnAt old o full t → AllowsCell t c → IsDrawn old o c
drawn_of old None full t c d h = blank_allows t c d h
drawn_of old (Some b) full t None d h = tt
drawn_of old (Some b) full t (Some z) d h = ((d.1 z).0 h).0

drawn_back : (old : ℕ → Summary) (o : Option ℕ) (full : Interval) (t : Summary) (c : Option ℤ) → IsDrawnAt old o full t → ((z : ℤ) → c ≡ Some z → Holds full z) → IsDrawn old o c → AllowsCell t c
drawn_back old None full t c d i h = allows_blank t c h
drawn_back old (Some b) full t None d i h = tt
drawn_back old (Some b) full t (Some z) d i h = (d.1 z).1 (h, i z refl)

pub drawn_lies : (old : ℕ → Summary) (o : Option ℕ) (full : Interval) (t : Summary) → IsDrawnAt old o full t → CellsLie full t
drawn_lies old None full t d = blank_lies full t d
drawn_lies old (Some b) full t d = d.0

pub drawn_exactly : (s : Spanned) (full arrays : List Interval) (cells : List Summary) (old : ℕ → Summary) (picks : List (Option ℕ)) → s ≡ record { full = full; array_full = arrays; ranges = full; cells = cells; empty = false } → Kept s
    → ((a : ℕ) → a < length arrays → IsDrawnAt old (slice_index_or picks a None) (range_at arrays a) (cell_at cells a)) → Exactly s (AreDrawn old picks (length arrays))
drawn_exactly s full arrays cells old picks e k each = record {
  made = λ p i. record {
    cells = λ a ha. drawn_of old (slice_index_or picks a None) (range_at arrays a) (cell_at cells a) (p.cells a) (each a ha)
        (subst (λ (t : Spanned). AllowsCell (cell_at t.cells a) (p.cells a)) e (i.cells a (subst (λ (t : Spanned). a < length t.array_full) (sym e) ha)));
  };
  kept = λ p i h. record {
    some = ap (λ (t : Spanned). t.empty) e;
    kept = k;
    numbers = λ v hv. subst (λ (xs : List Interval). Holds (range_at xs v) (p.values v)) (ap (λ (t : Spanned). t.full) e ∙ sym (ap (λ (t : Spanned). t.ranges) e)) (i.numbers v hv);
    cells = λ a ha. let hb = subst (λ (t : Spanned). a < length t.array_full) e ha in
        subst (λ (t : Spanned). AllowsCell (cell_at t.cells a) (p.cells a)) (sym e)
        (drawn_back old (slice_index_or picks a None) (range_at arrays a) (cell_at cells a) (p.cells a) (each a hb)
        (λ z q. subst (λ (t : Spanned). Holds (range_at t.array_full a) z) e (i.set_cells a z ha q)) (h.cells a hb));
  };
}

-- ---- picked variables

pub none_cut : (s was : Spanned) (picks : List (Option ℕ)) → was.empty ≡ false → Exactly s (AreCut (In s) was picks 0)
none_cut s was picks some = record {
  made = λ p i. record { some = some; point = i; numbers = λ k v h e. absurd (below k h) };
  kept = λ p i h. h.point;
}
  where
    below : (k : ℕ) → k < 0 → ⊥
    below k h = omega arith

pub bare_cut : (s was : Spanned) (picks : List (Option ℕ)) (n : ℕ) → was.empty ≡ true → Exactly (record s { empty = true }) (AreCut (In s) was picks n)
bare_cut s was picks n e = record {
  made = λ p i. not_both i.some;
  kept = λ p i h. not_both (sym e ∙ h.some);
}

pub one_cut : (start s t was : Spanned) (picks : List (Option ℕ)) (k : ℕ) (o : Option ℕ) → o ≡ slice_index_or picks k None → t.full ≡ s.full → t.array_full ≡ s.array_full
    → Exactly s (AreCut (In start) was picks k) → Exactly t (IsCutAt (In s) was k o) → Exactly t (AreCut (In start) was picks (k + 1))
one_cut start s t was picks k o at f g e x = record {
  made = λ p i.
      let c = x.made p i in
      let d = e.made p c.point in
      record {
        some = d.some;
        point = d.point;
        numbers = λ j v h q. elim (cases_eq j k) [
          | inl y ↦ subst (λ (n : ℕ). Holds (range_at was.ranges v) (p.values n)) (sym y) (c.number v (at ∙ subst (λ (n : ℕ). slice_index_or picks n None ≡ Some v) y q))
          | inr ne ↦ d.numbers j v (before j k h ne) q
        ];
      };
  kept = λ p i h. x.kept p i (record {
    point = e.kept p (moved_in t s p (sym f) (sym g) i) (record { some = h.some; point = h.point; numbers = λ j v l q. h.numbers j v (more j k l) q });
    number = λ v q. h.numbers k v (more_own k) (sym at ∙ q);
  });
}
  where
    before : (j k : ℕ) → j < k + 1 → j ≢ k → j < k
    before j k h ne = omega arith

    more : (j k : ℕ) → j < k → j < k + 1
    more j k h = omega arith

    more_own : (k : ℕ) → k < k + 1
    more_own k = omega arith

pub cut_at_none : (s was : Spanned) (k : ℕ) → Exactly s (IsCutAt (In s) was k None)
cut_at_none s was k = record {
  made = λ p i. record { point = i; number = λ v e. none_is v e };
  kept = λ p i h. h.point;
}
  where
    none_is : {P : Type 0} (v : ℕ) → None ≡ Some v → P
    none_is v e = cc

some_is : (x y : ℕ) → Some x ≡ Some y → x ≡ y
some_is x y e = cc

pub cut_at_some : (s t was : Spanned) (k v : ℕ) (r : Interval) → r ≡ range_at was.ranges v → Exactly t (Bounded (In s) k r) → Exactly t (IsCutAt (In s) was k (Some v))
cut_at_some s t was k v r h e = record {
  made = λ p i. let b = e.made p i in record { point = b.point; number = λ u q. subst (λ (w : ℕ). Holds (range_at was.ranges w) (p.values k)) (some_is v u q) (subst (λ (x : Interval). Holds x (p.values k)) h b.bounded) };
  kept = λ p i b. e.kept p i (record { point = b.point; bounded = subst (λ (x : Interval). Holds x (p.values k)) (sym h) (b.number v refl) });
}

-- ---- a point before

-- a point that has the numbers of the first n picks
record Numbered (s : Spanned) (picks : List (Option ℕ)) (p : Point) (n : ℕ) : Type 0 where
  was : Point
  is : In s was
  numbers : (k v : ℕ) → k < n → slice_index_or picks k None ≡ Some v → was.values v ≡ p.values k

-- and the cells of the first n picked arrays
record Celled (s : Spanned) (picks arrays : List (Option ℕ)) (p : Point) (n : ℕ) : Type 0 where
  was : Point
  is : In s was
  numbers : (k v : ℕ) → k < length picks → slice_index_or picks k None ≡ Some v → was.values v ≡ p.values k
  cells : (k a : ℕ) → k < n → slice_index_or arrays k None ≡ Some a → was.cells a ≡ p.cells k

below_zero : {P : Type 0} (k : ℕ) → k < 0 → P
below_zero k h = absurd (omega arith)

last_or : (k n : ℕ) → k < suc n → (k < n) ⊎ (k ≡ n)
last_or k n h = grind arith

less_more : (k n : ℕ) → k < n → k < suc n
less_more k n h = omega arith

less_not : (k n : ℕ) → k < n → k ≢ n
less_not k n h = omega arith

none_some : {P : Type 0} (o : Option ℕ) (v : ℕ) → o ≡ None → o ≡ Some v → P
none_some o v e f = cc

same_some : (o : Option ℕ) (u v : ℕ) → o ≡ Some u → o ≡ Some v → u ≡ v
same_some o u v e f = cc

module _ (s : Spanned) (picks arrays : List (Option ℕ)) (p : Point) (k : Kept s) (some : s.empty ≡ false) (hp : ArePicks (length s.full) picks) (ha : ArePicks (length s.array_full) arrays)
    (numbers : (k v : ℕ) → k < length picks → slice_index_or picks k None ≡ Some v → Holds (range_at s.ranges v) (p.values k))
    (cells : (k a : ℕ) → k < length arrays → slice_index_or arrays k None ≡ Some a → AllowsCell (cell_at s.cells a) (p.cells k)) where
  numbered_more : (n : ℕ) → n < length picks → Numbered s picks p n → (o : Option ℕ) → slice_index_or picks n None ≡ o → Numbered s picks p (suc n)
  numbered_more n h b None e = record {
    was = b.was;
    is = b.is;
    numbers = λ j v hj q. elim (last_or j n hj) [ inl l ↦ b.numbers j v l q | inr y ↦ none_some (slice_index_or picks n None) v e (subst (λ (m : ℕ). slice_index_or picks m None ≡ Some v) y q) ];
  }
  numbered_more n h b (Some u) e = record {
    was = with_value b.was u (p.values n);
    is = in_but s b.was (with_value b.was u (p.values n)) u b.is (with_value-but b.was u (p.values n)) (subst (Holds (range_at s.ranges u)) (sym (moved-here b.was.values u (p.values n))) (numbers n u h e));
    numbers = λ j v hj q. elim (last_or j n hj) [
      | inl l ↦ moved-there b.was.values u (p.values n) v (λ y. less_not j n l (hp.apart j n u (q ∙ ap Some y) e)) ∙ b.numbers j v l q
      | inr y ↦ let w : u ≡ v = same_some (slice_index_or picks n None) u v e (subst (λ (m : ℕ). slice_index_or picks m None ≡ Some v) y q) in
          subst (λ (x : ℕ). (with_value b.was u (p.values n)).values x ≡ p.values j) w (moved-here b.was.values u (p.values n) ∙ ap p.values (sym y))
    ];
  }

  numbered : (n : ℕ) → n ≤ length picks → Numbered s picks p n
  numbered zero h = record { was = lowest s; is = lowest_in s k some; numbers = λ j v hj q. below_zero j hj }
  numbered (suc n) h = numbered_more n (omega arith) (numbered n (omega arith)) (slice_index_or picks n None) refl

  celled_more : (n : ℕ) → n < length arrays → Celled s picks arrays p n → (o : Option ℕ) → slice_index_or arrays n None ≡ o → Celled s picks arrays p (suc n)
  celled_more n h b None e = record {
    was = b.was;
    is = b.is;
    numbers = b.numbers;
    cells = λ j v hj q. elim (last_or j n hj) [ inl l ↦ b.cells j v l q | inr y ↦ none_some (slice_index_or arrays n None) v e (subst (λ (m : ℕ). slice_index_or arrays m None ≡ Some v) y q) ];
  }
  celled_more n h b (Some u) e = record {
    was = with_cell b.was u (p.cells n);
    is = in_but_cell s b.was (with_cell b.was u (p.cells n)) u b.is (with_cell-but b.was u (p.cells n)) (subst (AllowsCell (cell_at s.cells u)) (sym (cell_moved-here b.was.cells u (p.cells n))) (cells n u h e));
    numbers = b.numbers;
    cells = λ j v hj q. elim (last_or j n hj) [
      | inl l ↦ cell_moved-there b.was.cells u (p.cells n) v (λ y. less_not j n l (ha.apart j n u (q ∙ ap Some y) e)) ∙ b.cells j v l q
      | inr y ↦ let w : u ≡ v = same_some (slice_index_or arrays n None) u v e (subst (λ (m : ℕ). slice_index_or arrays m None ≡ Some v) y q) in
          subst (λ (x : ℕ). (with_cell b.was u (p.cells n)).cells x ≡ p.cells j) w (cell_moved-here b.was.cells u (p.cells n) ∙ ap p.cells (sym y))
    ];
  }

  celled : (n : ℕ) → n ≤ length arrays → Celled s picks arrays p n
  celled zero h = let b = numbered (length picks) (omega arith) in record { was = b.was; is = b.is; numbers = b.numbers; cells = λ j v hj q. below_zero j hj }
  celled (suc n) h = celled_more n (omega arith) (celled n (omega arith)) (slice_index_or arrays n None) refl

picked_is : (was : Point) (z : ℤ) (o : Option ℕ) → ((v : ℕ) → o ≡ Some v → was.values v ≡ z) → IsPicked o was z
picked_is was z None h = tt
picked_is was z (Some v) h = sym (h v refl)

picked_cell : (old : ℕ → Summary) (was : Point) (c : Option ℤ) (o : Option ℕ) → IsDrawn old o c → ((v : ℕ) → o ≡ Some v → was.cells v ≡ c) → IsPickedCell o was c
picked_cell old was c None d h = d
picked_cell old was c (Some v) d h = sym (h v refl)

drawn_allows : (old : ℕ → Summary) (o : Option ℕ) (a : ℕ) (c : Option ℤ) → o ≡ Some a → IsDrawn old o c → AllowsCell (old a) c
drawn_allows old o a c e d = allows a c (subst (λ (x : Option ℕ). IsDrawn old x c) e d)
  where
    allows : (a : ℕ) (c : Option ℤ) → IsDrawn old (Some a) c → AllowsCell (old a) c
    allows a None d = tt
    allows a (Some z) d = d

cell_drawn : (s : Spanned) (was : Point) (o : Option ℕ) (c : Option ℤ) → In s was → ((a : ℕ) → o ≡ Some a → a < length s.array_full) → IsPickedCell o was c → IsDrawn (cell_at s.cells) o c
cell_drawn s was None c i n h = h
cell_drawn s was (Some a) c i n h = drawn (cell_at s.cells a) c a refl (subst (AllowsCell (cell_at s.cells a)) (sym h) (i.cells a (n a refl)))
  where
    drawn : (t : Summary) (c : Option ℤ) (a : ℕ) → t ≡ cell_at s.cells a → AllowsCell t c → IsDrawn (cell_at s.cells) (Some a) c
    drawn t None a e h = tt
    drawn t (Some z) a e h = subst (λ (x : Summary). Allows x z) e h

picked_number : (was : Point) (z : ℤ) (o : Option ℕ) (v : ℕ) → o ≡ Some v → IsPicked o was z → z ≡ was.values v
picked_number was z o v e h = subst (λ (x : Option ℕ). IsPicked x was z) e h

drawn_at : (old : ℕ → Summary) (arrays : List (Option ℕ)) (n : ℕ) (p : Point) → length arrays ≡ n → AreDrawn old arrays n p → (a : ℕ) → a < length arrays → IsDrawn old (slice_index_or arrays a None) (p.cells a)
drawn_at old arrays n p long d a h = d.cells a (subst (λ (m : ℕ). a < m) long h)

-- what the new ranges and summaries hold are the picked points
pub projected : (s s1 s2 : Spanned) (picks arrays : List (Option ℕ)) → Kept s → ArePicks (length s.full) picks → ArePicks (length s.array_full) arrays → s2.full ≡ s1.full → s2.array_full ≡ s1.array_full
    → length arrays ≡ length s1.array_full → Exactly s1 (AreDrawn (cell_at s.cells) arrays (length s1.array_full)) → Exactly s2 (AreCut (In s1) s picks (length picks)) → Exactly s2 (Projected (In s) picks arrays)
projected s s1 s2 picks arrays k hp ha f g long e1 e2 = record {
  made = λ p i.
      let c = e2.made p i in
      let d = e1.made p c.point in
      let b = celled s picks arrays p k c.some hp ha c.numbers (λ j a h q. drawn_allows (cell_at s.cells) (slice_index_or arrays j None) a (p.cells j) q (drawn_at (cell_at s.cells) arrays (length s1.array_full) p long d j h)) (length arrays) (omega arith) in
      record {
        was = b.was;
        point = b.is;
        numbers = λ v h. picked_is b.was (p.values v) (slice_index_or picks v None) (λ u q. b.numbers v u h q);
        cells = λ a h. picked_cell (cell_at s.cells) b.was (p.cells a) (slice_index_or arrays a None) (drawn_at (cell_at s.cells) arrays (length s1.array_full) p long d a h) (λ u q. b.cells a u h q);
      };
  kept = λ p i h. e2.kept p i (record {
    some = h.point.some;
    point = e1.kept p (moved_in s2 s1 p (sym f) (sym g) i) (record { cells = λ a q. cell_drawn s h.was (slice_index_or arrays a None) (p.cells a) h.point (λ b y. ha.named a b y) (h.cells a (subst (λ (n : ℕ). a < n) (sym long) q)) });
    numbers = λ j v l q. subst (Holds (range_at s.ranges v)) (sym (picked_number h.was (p.values j) (slice_index_or picks j None) v q (h.numbers j l))) (h.point.numbers v (hp.named j v q));
  });
}

-- the same, as the code has it: the new states are without points where the old one is
pub projected_of : (s s1 s2 : Spanned) (picks arrays : List (Option ℕ)) (full : List Interval) → ArePicks (length s.full) picks → ArePicks (length s.array_full) arrays → s2.full ≡ s1.full → s2.array_full ≡ s1.array_full
    → length arrays ≡ length full → s1.array_full ≡ full → Exactly s1 (AreDrawn (cell_at s.cells) arrays (length full)) → Exactly s2 (AreCut (In s1) s picks (length picks)) → Kept s → Exactly s2 (Projected (In s) picks arrays)
projected_of s s1 s2 picks arrays full hp ha f g long same e1 e2 k = projected s s1 s2 picks arrays k hp ha f g (long ∙ sym (ap (λ (xs : List Interval). length xs) same))
    (subst (λ (xs : List Interval). Exactly s1 (AreDrawn (cell_at s.cells) arrays (length xs))) (sym same) e1) e2
