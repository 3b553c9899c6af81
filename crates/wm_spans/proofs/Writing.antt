-- What the calls on one array leave.
use Rattle.std.proofs.Common.{◌≡◌, ◌≢◌, ◌⊎◌, inl, inr, ℕ, ◌<◌, ℤ, ◌≤ℤ◌, List, length, set, Bool, false, true, cond, nat_eq, sym, ◌∙◌, ap, subst, refl, arith, Some, None, Option}
use Rattle.std.specs.Prelude.{◌↔◌}
use Rattle.std.proofs.lemmas.Int.{ints}
use Rattle.std.proofs.lemmas.Bool.{cases_eq}
use Rattle.std.proofs.lemmas.Int.{clamps}
use Rattle.std.specs.Int.{int_max, int_min}
use Rattle.wm_numbers.specs.Within.{Within}
use Rattle.wm_numbers.proofs.Order.{le_refl, low_within, high_within, min_cases, max_cases}
use Rattle.wm_arrays.specs.Ends.{ends_of, joined, written}
use Rattle.wm_interval.specs.declared.Interval.{Interval}
use Rattle.wm_interval.specs.Holds.{Holds, IsHullOf, InBoth}
use Rattle.wm_arrays.specs.declared.summary.Summary.{Summary}
use Rattle.wm_arrays.specs.declared.summary.Summary.TheVariants.{Empty, Range}
use Rattle.wm_arrays.specs.Meaning.{Allows, IsLeastFor, IsEither}
use Rattle.wm_domain.specs.Points.{Point, range_at, IsInside, SameButCell, AllowsCell}
use Rattle.wm_domain.specs.Changes.{ArraySet, Written}
use Rattle.wm_spans.specs.Spanned.{Spanned, cell_at, Lies, CellsLie, IsKept, Kept, In}
use Rattle.wm_spans.specs.Exact.{Exactly, IsBetween, IsBetweenCell, IsNearCell}
use Rattle.wm_spans.proofs.Listed.{lies_holds, cell_lies_holds, kept_put_cells, each_cell, cell_here, cell_there, in_full, not_both}
use Rattle.wm_spans.proofs.Cutting.{common_lies}

pub cell_moved : (ℕ → Option ℤ) → ℕ → Option ℤ → ℕ → Option ℤ
cell_moved x a c b = cond (nat_eq b a) c (x b)

pub cell_moved-here : (x : ℕ → Option ℤ) (a : ℕ) (c : Option ℤ) → cell_moved x a c a ≡ c
unfolding cell_moved
cell_moved-here x a c = let e : nat_eq a a ≡ true = grind arith in rw e refl

pub cell_moved-there : (x : ℕ → Option ℤ) (a : ℕ) (c : Option ℤ) (b : ℕ) → b ≢ a → cell_moved x a c b ≡ x b
unfolding cell_moved
cell_moved-there x a c b h = let e : nat_eq b a ≡ false = grind arith in rw e refl

-- p with another cell at array a
abbrev pub with_cell : Point → ℕ → Option ℤ → Point
with_cell p a c = record p { cells = cell_moved p.cells a c }

pub with_cell-but : (p : Point) (a : ℕ) (c : Option ℤ) → SameButCell a p (with_cell p a c)
with_cell-but p a c = record { numbers = λ w. refl; cells = λ b h. cell_moved-there p.cells a c b h }

same_but_all_cells : (a : ℕ) (p : Point) → SameButCell a p p
same_but_all_cells a p = record { numbers = λ w. refl; cells = λ b h. refl }

-- r is like q, which is like p
but-but-cell : (a : ℕ) (p q r : Point) → SameButCell a p q → SameButCell a p r → SameButCell a q r
but-but-cell a p q r s t = record { numbers = λ w. t.numbers w ∙ sym (s.numbers w); cells = λ b h. t.cells b h ∙ sym (s.cells b h) }

-- a cell is allowed by what allows each number that the first allows
wider_cell : (s t : Summary) (c : Option ℤ) → ((z : ℤ) → Allows s z → Allows t z) → AllowsCell s c → AllowsCell t c
wider_cell s t None h k = tt
wider_cell s t (Some z) h k = h z k

-- ---- what a write makes of a summary

-- x is a number that was written, or one that was there before in an array of more than one cell
abbrev pub IsSource : Summary → Interval → ℕ → ℤ → Type 0
IsSource old m n x = Holds m x ⊎ ((n ≢ 1) × Allows old x)

-- the ends after a write are such numbers
pub record Grown (old : Summary) (m : Interval) (n : ℕ) (w : Summary) : Type 0 where
  pub after : Interval
  pub is : w ≡ Range after
  pub fresh : (z : ℤ) → Holds m z → Holds after z
  pub stays : n ≢ 1 → (z : ℤ) → Allows old z → Holds after z
  pub low_from : IsSource old m n after.low
  pub high_from : IsSource old m n after.high

no_ends : {P : Type 0} (lo hi : ℤ) → ◌≡◌ {A = Option (ℤ × ℤ)} None (Some (lo, hi)) → P
no_ends lo hi e = cc

same_pair : (x y : ℤ × ℤ) → ◌≡◌ {A = Option (ℤ × ℤ)} (Some x) (Some y) → x ≡ y
same_pair x y e = cc

low_end : (i : Interval) (lo hi : ℤ) → ◌≡◌ {A = Option (ℤ × ℤ)} (Some (i.low, i.high)) (Some (lo, hi)) → lo ≡ i.low
low_end i lo hi e = sym (ap (λ (q : ℤ × ℤ). q.0) (same_pair (i.low, i.high) (lo, hi) e))

high_end : (i : Interval) (lo hi : ℤ) → ◌≡◌ {A = Option (ℤ × ℤ)} (Some (i.low, i.high)) (Some (lo, hi)) → hi ≡ i.high
high_end i lo hi e = sym (ap (λ (q : ℤ × ℤ). q.1) (same_pair (i.low, i.high) (lo, hi) e))

grown_to : (old : Summary) (m : Interval) (n : ℕ) (w : Summary) (lo hi : ℤ) → ends_of w ≡ Some (lo, hi)
    → ((z : ℤ) → Holds m z → Within lo hi z) → (n ≢ 1 → (z : ℤ) → Allows old z → Within lo hi z) → IsSource old m n lo → IsSource old m n hi → Grown old m n w
grown_to old m n Empty lo hi e h1 h2 h3 h4 = no_ends lo hi e
grown_to old m n (Range i) lo hi e h1 h2 h3 h4 =
    let low = low_end i lo hi e in
    let high = high_end i lo hi e in
    record {
      after = i;
      is = refl;
      fresh = λ z h. subst (λ (y : ℤ). Within y i.high z) low (subst (λ (y : ℤ). Within lo y z) high (h1 z h));
      stays = λ more z h. subst (λ (y : ℤ). Within y i.high z) low (subst (λ (y : ℤ). Within lo y z) high (h2 more z h));
      low_from = subst (IsSource old m n) low h3;
      high_from = subst (IsSource old m n) high h4;
    }

join_here : (a b c d z : ℤ) → Within a b z → Within (int_min a c) (int_max b d) z
join_here a b c d z h = record { above = omega (arith, ints, clamps, h.above); below = omega (arith, ints, clamps, h.below) }

join_there : (a b c d z : ℤ) → Within c d z → Within (int_min a c) (int_max b d) z
join_there a b c d z h = record { above = omega (arith, ints, clamps, h.above); below = omega (arith, ints, clamps, h.below) }

pub grown : (old : Summary) (m : Interval) (n : ℕ) (w : Summary) → ends_of w ≡ written (ends_of old) m.low m.high n → Grown old m n w
grown old m n w e = elim (cases_eq n 1) [
  | inl one ↦ grown_to old m n w m.low m.high (subst (λ (k : ℕ). ends_of w ≡ written (ends_of old) m.low m.high k) one e) (λ z h. h) (λ more. absurd (more one)) (inl (low_within m.ordered)) (inl (high_within m.ordered))
  | inr more ↦ longer old m n w more (let f : nat_eq n 1 ≡ false = grind arith in e ∙ ap (λ (b : Bool). cond b (Some (m.low, m.high)) (joined (ends_of old) (Some (m.low, m.high)))) f)
]
  where
    longer : (old : Summary) (m : Interval) (n : ℕ) (w : Summary) → n ≢ 1 → ends_of w ≡ joined (ends_of old) (Some (m.low, m.high)) → Grown old m n w
    longer Empty m n w more e = grown_to Empty m n w m.low m.high e (λ z h. h) (λ k z h. absurd h) (inl (low_within m.ordered)) (inl (high_within m.ordered))
    longer (Range o) m n w more e = grown_to (Range o) m n w (int_min o.low m.low) (int_max o.high m.high) e
        (λ z h. join_there o.low o.high m.low m.high z h) (λ k z h. join_here o.low o.high m.low m.high z h)
        (elim (min_cases o.low m.low) [
          | inl y ↦ inr (more, subst (Holds o) (sym y.1) (low_within o.ordered))
          | inr y ↦ inl (subst (Holds m) (sym y.1) (low_within m.ordered))
        ])
        (elim (max_cases o.high m.high) [
          | inl y ↦ inr (more, subst (Holds o) (sym y.1) (high_within o.ordered))
          | inr y ↦ inl (subst (Holds m) (sym y.1) (high_within m.ordered))
        ])

-- what a write makes of a summary within the full range lies there, where what is written does
pub grown_lies : (full : Interval) (old : Summary) (m : Interval) (n : ℕ) (w : Summary) → Grown old m n w → CellsLie full old → Lies full m → CellsLie full w
grown_lies full old m n w g l k = subst (CellsLie full) (sym g.is) (record { above = (from g.after.low g.low_from).above; below = (from g.after.high g.high_from).below })
  where
    from : (x : ℤ) → IsSource old m n x → Holds full x
    from x (inl h) = lies_holds full m x k h
    from x (inr h) = cell_lies_holds full old x l h.1

module _ (s : Spanned) (a : ℕ) (ha : a < length s.array_full) (k : Kept s) where
  here : a < length s.cells
  here = subst (λ (n : ℕ). a < n) (sym k.cells_long) ha

  -- the points after array a got another summary within its full range
  put_cells_in : (m : Summary) (p was : Point) → CellsLie (range_at s.array_full a) m → In s was → SameButCell a was p → AllowsCell m (p.cells a) → In (record s { cells = set s.cells a m }) p
  put_cells_in m p was l w b h = record {
    some = w.some;
    kept = kept_put_cells s.full s.array_full s.ranges s.cells a m k ha l;
    numbers = λ v hv. subst (Holds (range_at s.ranges v)) (sym (b.numbers v)) (w.numbers v hv);
    cells = each_cell (λ c y. AllowsCell y (p.cells c)) s.cells a (length s.array_full) m here h (λ c hc ne. subst (AllowsCell (cell_at s.cells c)) (sym (b.cells c ne)) (w.cells c hc));
  }

  -- a point before, with another cell that the summary allowed
  put_cells_out : (m : Summary) (p was : Point) → In (record s { cells = set s.cells a m }) p → SameButCell a was p → AllowsCell (cell_at s.cells a) (was.cells a) → In s was
  put_cells_out m p was i b h = record {
    some = i.some;
    kept = k;
    numbers = λ v hv. subst (Holds (range_at s.ranges v)) (b.numbers v) (i.numbers v hv);
    cells = λ c hc. elim (cases_eq c a) [
      | inl e ↦ subst (λ (d : ℕ). AllowsCell (cell_at s.cells d) (was.cells d)) (sym e) h
      | inr ne ↦ subst (AllowsCell (cell_at s.cells c)) (b.cells c ne) (cell_there s.cells a c m (p.cells c) ne (i.cells c hc))
    ];
  }

  -- p with no set cell at array a
  unset_out : (m : Summary) (p : Point) → In (record s { cells = set s.cells a m }) p → In s (with_cell p a None)
  unset_out m p i = put_cells_out m p (with_cell p a None) i (but-but-cell a p (with_cell p a None) p (with_cell-but p a None) (same_but_all_cells a p))
      (subst (AllowsCell (cell_at s.cells a)) (sym (cell_moved-here p.cells a None)) tt)

  pub set_exactly : (t m : Summary) → CellsLie (range_at s.array_full a) m → ((z : ℤ) → Allows m z ↔ (Allows t z × Holds (range_at s.array_full a) z)) → Exactly (record s { cells = set s.cells a m }) (ArraySet (In s) a t)
  set_exactly t m l each = record {
    made = λ p i. record {
      was = with_cell p a None;
      point = unset_out m p i;
      others = but-but-cell a p (with_cell p a None) p (with_cell-but p a None) (same_but_all_cells a p);
      cell = wider_cell m t (p.cells a) (λ z w. ((each z).0 w).0) (cell_here s.cells a m (p.cells a) here (i.cells a ha));
    };
    kept = λ p i w. put_cells_in m p w.was l w.point w.others (fits_cell p i (p.cells a) refl w.cell);
  }
    where
      fits_cell : (p : Point) → IsInside s.full s.array_full p → (c : Option ℤ) → p.cells a ≡ c → AllowsCell t c → AllowsCell m c
      fits_cell p i None e w = tt
      fits_cell p i (Some z) e w = (each z).1 (w, i.set_cells a z ha e)

  -- what the two ends are sources of is between them
  source_point : (w : Summary) (r c : Interval) (n : ℕ) (p : Point) (x : ℤ) → In (record s { cells = set s.cells a w }) p
      → ((z : ℤ) → Holds c z ↔ InBoth (range_at s.array_full a) r z) → IsSource (cell_at s.cells a) c n x
      → Written (In s) (range_at s.array_full a) a r n (with_cell p a (Some x))
  source_point w r c n p x i each (inl h) =
      let both = (each x).0 h in
      record {
        was = with_cell p a None;
        point = unset_out w p i;
        others = but-but-cell a p (with_cell p a None) (with_cell p a (Some x)) (with_cell-but p a None) (with_cell-but p a (Some x));
        number = x;
        in_range = both.1;
        fits = both.0;
        cell = inl (cell_moved-here p.cells a (Some x));
      }
  source_point w r c n p x i each (inr h) =
      let low = (each c.low).0 (record { above = le_refl c.low; below = c.ordered }) in
      record {
        was = with_cell p a (Some x);
        point = put_cells_out w p (with_cell p a (Some x)) i (but-but-cell a p (with_cell p a (Some x)) p (with_cell-but p a (Some x)) (same_but_all_cells a p))
            (subst (AllowsCell (cell_at s.cells a)) (sym (cell_moved-here p.cells a (Some x))) h.1);
        others = same_but_all_cells a (with_cell p a (Some x));
        number = c.low;
        in_range = low.1;
        fits = low.0;
        cell = inr (h.0, refl);
      }

  module _ (r c : Interval) (n : ℕ) (w : Summary) (each : (z : ℤ) → Holds c z ↔ InBoth (range_at s.array_full a) r z) (g : Grown (cell_at s.cells a) c n w) where
    wide : (z : ℤ) → Holds g.after z → Allows w z
    wide z h = subst (λ (t : Summary). Allows t z) (sym g.is) h

    narrow : (z : ℤ) → Allows w z → Holds g.after z
    narrow z h = subst (λ (t : Summary). Allows t z) g.is h

    pub write_kept : CellsLie (range_at s.array_full a) w → (p : Point) → IsInside s.full s.array_full p → Written (In s) (range_at s.array_full a) a r n p → In (record s { cells = set s.cells a w }) p
    write_kept l p i h = put_cells_in w p h.was l h.point h.others (elim h.cell [
      | inl e ↦ subst (AllowsCell w) (sym e) (wide h.number (g.fresh h.number ((each h.number).1 (h.fits, h.in_range))))
      | inr e ↦ subst (AllowsCell w) (sym e.1) (wider_cell (cell_at s.cells a) w (h.was.cells a) (λ z y. wide z (g.stays e.0 z y)) (h.point.cells a ha))
    ])

    between : (p : Point) → In (record s { cells = set s.cells a w }) p → (y : Option ℤ) → AllowsCell w y → IsBetweenCell (Written (In s) (range_at s.array_full a) a r n) a p y
    between p i None h = tt
    between p i (Some z) h = record {
      x = with_cell p a (Some g.after.low);
      y = with_cell p a (Some g.after.high);
      x_is = source_point w r c n p g.after.low i each g.low_from;
      y_is = source_point w r c n p g.after.high i each g.high_from;
      x_same = with_cell-but p a (Some g.after.low);
      y_same = with_cell-but p a (Some g.after.high);
      low = g.after.low;
      high = g.after.high;
      x_cell = cell_moved-here p.cells a (Some g.after.low);
      y_cell = cell_moved-here p.cells a (Some g.after.high);
      above = (narrow z h).above;
      below = (narrow z h).below;
    }

    pub write_near : (p : Point) → In (record s { cells = set s.cells a w }) p → IsNearCell (Written (In s) (range_at s.array_full a) a r n) a p
    write_near p i = record {
      some = with_cell p a (Some g.after.low);
      some_is = source_point w r c n p g.after.low i each g.low_from;
      same = with_cell-but p a (Some g.after.low);
      cell = between p i (p.cells a) (cell_here s.cells a w (p.cells a) here (i.cells a ha));
    }

-- ---- the same, as the code has it: x is the full range and old the summary that were found, and t what was made

module _ (s t : Spanned) (a : ℕ) (ha : a < length s.array_full) (k : Kept s) (x : Interval) (found : x ≡ range_at s.array_full a) where
  pub set_found : (y m : Summary) → CellsLie x m → ((z : ℤ) → Allows m z ↔ (Allows y z × Holds x z)) → t ≡ record s { cells = set s.cells a m } → Exactly t (ArraySet (In s) a y)
  set_found y m lies each te = subst (λ (u : Spanned). Exactly u (ArraySet (In s) a y)) (sym te)
      (set_exactly s a ha k y m (subst (λ (w : Interval). CellsLie w m) found lies) (subst (λ (w : Interval). (z : ℤ) → Allows m z ↔ (Allows y z × Holds w z)) found each))

  module _ (r c : Interval) (n : ℕ) where
    pub write_lost_kept : ((z : ℤ) → InBoth x r z → ⊥) → (p : Point) → IsInside s.full s.array_full p → Written (In s) (range_at s.array_full a) a r n p → In t p
    write_lost_kept none p i h = absurd (none h.number (subst (λ (w : Interval). Holds w h.number) (sym found) h.fits, h.in_range))

    pub write_lost_near : t ≡ record s { empty = true } → (p : Point) → In t p → IsNearCell (Written (In s) (range_at s.array_full a) a r n) a p
    write_lost_near te p i = not_both (sym (ap (λ (u : Spanned). u.empty) te) ∙ i.some)

    module _ (old w : Summary) (e : old ≡ cell_at s.cells a) (each : (z : ℤ) → Holds c z ↔ InBoth x r z) (ends : ends_of w ≡ written (ends_of old) c.low c.high n) where
      each_full : (z : ℤ) → Holds c z ↔ InBoth (range_at s.array_full a) r z
      each_full = subst (λ (y : Interval). (z : ℤ) → Holds c z ↔ InBoth y r z) found each

      grown_here : Grown (cell_at s.cells a) c n w
      grown_here = subst (λ (y : Summary). Grown y c n w) e (grown old c n w ends)

      pub write_found_lies : CellsLie (range_at s.array_full a) w
      write_found_lies = grown_lies (range_at s.array_full a) (cell_at s.cells a) c n w grown_here (k.cells_lie a ha) (common_lies (range_at s.array_full a) r c each_full)

      pub write_found_kept : t ≡ record s { cells = set s.cells a w } → (p : Point) → IsInside s.full s.array_full p → Written (In s) (range_at s.array_full a) a r n p → In t p
      write_found_kept te p i h = subst (λ (u : Spanned). In u p) (sym te) (write_kept s a ha k r c n w each_full grown_here write_found_lies p i h)

      pub write_found_near : t ≡ record s { cells = set s.cells a w } → (p : Point) → In t p → IsNearCell (Written (In s) (range_at s.array_full a) a r n) a p
      write_found_near te p i = write_near s a ha k r c n w each_full grown_here p (subst (λ (u : Spanned). In u p) te i)
