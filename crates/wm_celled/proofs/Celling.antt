-- The point at the next node before the cells of one array change.
use Rattle.std.proofs.Common.{◌≡◌, ◌≢◌, ◌⊎◌, inl, inr, ℕ, ◌<◌, ◌≤◌, ℤ, List, [], ◌∷◌, Bool, true, false, cond, nat_eq, ◌^◌, ◌≤ℤ◌, unsigned_abs, Option, Some, None, refl, sym, ◌∙◌, ap, subst, arith}
use Rattle.std.proofs.lemmas.Bool.{cases_eq}
use Rattle.wm_interval.specs.declared.Interval.{Interval}
use Rattle.std.proofs.lemmas.Int.{ints}
use Rattle.wm_numbers.specs.Within.{IsWord32}
use Rattle.wm_numbers.proofs.Order.{le_trans}
use Rattle.wm_interval.specs.Holds.{Holds, IsHullOf}
use Rattle.wm_arrays.specs.declared.summary.Summary.{Summary}
use Rattle.wm_arrays.specs.declared.summary.Summary.TheVariants.{Empty, Range}
use Rattle.wm_arrays.specs.Meaning.{IsLeastFor}
use Rattle.wm_domain.specs.declared.shape.Shape.{Shape}
use Rattle.wm_domain.specs.declared.form.Form.{Form}
use Rattle.wm_domain.specs.Points.{Point, SameButCell, AllowsCell, range_at, nought, IsNarrow}
use Rattle.wm_domain.specs.States.{count_of, array_count, IsShape, InShape, IsSized, IsCellBetween, Keeps, IsLeast}
use Rattle.wm_domain.specs.Changes.{ArraySet, Written, IsCellOf}
use Rattle.wm_carry.specs.Following.{origin, Comes, IsWay, Carried, Moved}
use Rattle.wm_carry.proofs.Ranks.{side}
use Rattle.wm_carry.proofs.Reaching.{Laws, through_not}
use Rattle.wm_carry.proofs.Passing.{carried_not}
use Rattle.wm_assign.specs.Giving.{InRange}
use Rattle.wm_given.specs.Parts.{IsCut}
use Rattle.wm_celled.specs.Cells.{ArraySetTo, WrittenTo, cells_range, IsCells}

pub cell_moved : (ℕ → Option ℤ) → ℕ → Option ℤ → ℕ → Option ℤ
cell_moved x a c b = cond (nat_eq b a) c (x b)

moved-here : (x : ℕ → Option ℤ) (a : ℕ) (c : Option ℤ) → cell_moved x a c a ≡ c
unfolding cell_moved
moved-here x a c = let e : nat_eq a a ≡ true = grind arith in rw e refl

moved-there : (x : ℕ → Option ℤ) (a : ℕ) (c : Option ℤ) (b : ℕ) → b ≢ a → cell_moved x a c b ≡ x b
unfolding cell_moved
moved-there x a c b h = let e : nat_eq b a ≡ false = grind arith in rw e refl

abbrev pub with_cell : Point → ℕ → Option ℤ → Point
with_cell p a c = record p { cells = cell_moved p.cells a c }

-- a cell that the point before may have
record Former (s t : Shape) (a : ℕ) (was : Point) : Type 0 where
  cell : Option ℤ
  kept : a < array_count s → cell ≡ was.cells a
  new : array_count s ≤ a → cell ≡ None
  held : (z : ℤ) → cell ≡ Some z → Holds (range_at t.arrays a) z

not_below : {P : Type 0} (a n : ℕ) → a < n → n ≤ a → P
not_below a n h k = absurd (omega (arith, h, k))

none_some : {P : Type 0} {z : ℤ} → None ≡ Some z → P
none_some e = cc

former : (s t : Shape) (a : ℕ) (was : Point) → IsWay s t → InShape s was → a < array_count t → Former s t a was
former s t a was way i h = elim (side a (array_count s)) [
  | inl l ↦ record {
    cell = was.cells a;
    kept = λ k. refl;
    new = λ g. not_below a (array_count s) l g;
    held = λ z e. subst (λ (r : Interval). Holds r z) (sym (way.arrays_alike a h l)) (i.set_cells a z l e);
  }
  | inr g ↦ record { cell = None; kept = λ k. not_below a (array_count s) k g; new = λ k. refl; held = λ z e. none_some e }
]

pub record BeforeCell (s t : Shape) (Has : Point → Type 0) (a : ℕ) (was p : Point) : Type 0 where
  pub point : Point
  pub carried : Carried s t Has [] [] was point
  pub inside : InShape t point
  pub others : SameButCell a point p
  pub cell : a < array_count s → point.cells a ≡ was.cells a

pub before_cell : (s t : Shape) (Has : Point → Type 0) (a : ℕ) (was p : Point) → IsWay s t → ((x : Point) → Has x → InShape s x) → a < array_count t → InShape t p → Carried s t Has [] (a ∷ []) was p → BeforeCell s t Has a was p
before_cell s t Has a was p way inside h i m =
    let f = former s t a was way (inside was m.point) h in
    record {
      point = with_cell p a f.cell;
      carried = record {
        point = m.point;
        numbers = record { numbers = m.numbers.numbers };
        cells = record {
          kept = λ b hb hs no. elim (cases_eq b a) [
            | inl e ↦ subst (λ (k : ℕ). cell_moved p.cells a f.cell k ≡ was.cells k) (sym e) (moved-here p.cells a f.cell ∙ f.kept (subst (λ (k : ℕ). k < array_count s) e hs))
            | inr ne ↦ moved-there p.cells a f.cell b ne ∙ m.cells.kept b hb hs (ne, tt)
          ];
          new = λ b hb hs no. elim (cases_eq b a) [
            | inl e ↦ subst (λ (k : ℕ). cell_moved p.cells a f.cell k ≡ None) (sym e) (moved-here p.cells a f.cell ∙ f.new (subst (λ (k : ℕ). array_count s ≤ k) e hs))
            | inr ne ↦ moved-there p.cells a f.cell b ne ∙ m.cells.new b hb hs (ne, tt)
          ];
        };
      };
      inside = record {
        numbers = i.numbers;
        set_cells = λ b z hb e. elim (cases_eq b a) [
          | inl same ↦ subst (λ (k : ℕ). Holds (range_at t.arrays k) z) (sym same) (f.held z (sym (moved-here p.cells a f.cell) ∙ subst (λ (k : ℕ). cell_moved p.cells a f.cell k ≡ Some z) same e))
          | inr ne ↦ i.set_cells b z hb (sym (moved-there p.cells a f.cell b ne) ∙ e)
        ];
      };
      others = record { numbers = λ w. refl; cells = λ b ne. sym (moved-there p.cells a f.cell b ne) };
      cell = λ l. moved-here p.cells a f.cell ∙ f.kept l;
    }

module _ {S : Type 0} (Holds_of : S → Point → Type 0) (shape_of : S → Shape) (middle state : S) (s t : Shape) (Has : Point → Type 0) where
  pub keeps_set : (a : ℕ) (sm : Summary) → IsWay s t → ((x : Point) → Has x → InShape s x) → a < array_count t → shape_of middle ≡ t → shape_of state ≡ t
      → Keeps Holds_of shape_of middle (Moved s t Has [] []) → Keeps Holds_of shape_of state (ArraySet (Holds_of middle) a sm) → Keeps Holds_of shape_of state (ArraySetTo s t Has a sm)
  keeps_set a sm way inside ha em es km ks = record {
    kept = λ p i h.
        let b = before_cell s t Has a h.was p way inside ha (subst (λ (x : Shape). InShape x p) es i) h.carried in
        ks.kept p i (record {
          was = b.point;
          point = km.kept b.point (subst (λ (x : Shape). InShape x b.point) (sym em) b.inside) (record { was = h.was; carried = b.carried });
          others = b.others;
          cell = h.cell;
        });
  }

  pub keeps_written : (a n : ℕ) (full r : Interval) (value : Form) → IsWay s t → ((x : Point) → Has x → InShape s x) → a < array_count s → a < array_count t → shape_of middle ≡ t → shape_of state ≡ t → full ≡ range_at t.arrays a
      → IsCut Has value full (Some r) → Keeps Holds_of shape_of middle (Moved s t Has [] []) → Keeps Holds_of shape_of state (Written (Holds_of middle) (range_at (shape_of middle).arrays a) a r n)
      → Keeps Holds_of shape_of state (WrittenTo s t Has a (range_at t.arrays a) value n)
  keeps_written a n full r value way inside hs ha em es ef cut km ks = record {
    kept = λ p i h.
        let b = before_cell s t Has a h.was p way inside ha (subst (λ (x : Shape). InShape x p) es i) h.carried in
        ks.kept p i (record {
          was = b.point;
          point = km.kept b.point (subst (λ (x : Shape). InShape x b.point) (sym em) b.inside) (record { was = h.was; carried = b.carried });
          others = b.others;
          number = h.number;
          in_range = (cut h.number).1 (h.in_range, subst (λ (x : Interval). Holds x h.number) (sym ef) h.fits);
          fits = subst (λ (x : Shape). Holds (range_at x.arrays a) h.number) (sym em) h.fits;
          cell = elim h.cell [
            | inl e ↦ inl e
            | inr k ↦ inr (k.0, k.1 ∙ sym (b.cell hs))
          ];
        });
  }

-- ---- the other way

-- what follows a point follows it but for the array's cell after that has changed
changed : (s t : Shape) (Has : Point → Type 0) (a : ℕ) (was q y : Point) → Carried s t Has [] [] was q → SameButCell a q y → Carried s t Has [] (a ∷ []) was y
changed s t Has a was q y c o = record {
  point = c.point;
  numbers = record { numbers = λ v h n. subst (Comes was (origin s t v)) (sym (o.numbers v)) (c.numbers.numbers v h n) };
  cells = record { kept = λ b h l n. o.cells b n.0 ∙ c.cells.kept b h l tt; new = λ b h l n. o.cells b n.0 ∙ c.cells.new b h l tt };
}

module _ (S : Type 0) (pairs : Bool) (Holds_of : S → Point → Type 0) (shape_of : S → Shape) (laws : Laws S pairs Holds_of shape_of) (s t : Shape) (way : IsWay s t) (at middle state : S) (ea : shape_of at ≡ s) (em : shape_of middle ≡ t)
    (km : Keeps Holds_of shape_of middle (Moved s t (Holds_of at) [] [])) (lm : IsLeast Holds_of shape_of middle (Moved s t (Holds_of at) [] [])) where
  pub set_least : (a : ℕ) (sm : Summary) → IsLeast Holds_of shape_of state (ArraySet (Holds_of middle) a sm) → IsLeast Holds_of shape_of state (ArraySetTo s t (Holds_of at) a sm)
  set_least a sm l = through_not S pairs Holds_of shape_of laws state (ArraySet (Holds_of middle) a sm) (ArraySetTo s t (Holds_of at) a sm)
      (λ y w never. carried_not S pairs Holds_of shape_of laws s t way at middle ea em km lm w.is.was w.is.point
      (λ m. never (record { was = m.was; carried = changed s t (Holds_of at) a m.was w.is.was y m.carried w.is.others; cell = w.is.cell })))
      l

  pub written_least : (a n : ℕ) (full r : Interval) (value : Form) → a < array_count s → a < array_count t → full ≡ range_at t.arrays a → IsCut (Holds_of at) value full (Some r)
      → IsLeast Holds_of shape_of state (Written (Holds_of middle) (range_at (shape_of middle).arrays a) a r n) → IsLeast Holds_of shape_of state (WrittenTo s t (Holds_of at) a (range_at t.arrays a) value n)
  written_least a n full r value hs ha ef cut l = through_not S pairs Holds_of shape_of laws state (Written (Holds_of middle) (range_at (shape_of middle).arrays a) a r n) (WrittenTo s t (Holds_of at) a (range_at t.arrays a) value n)
      (λ y w never. carried_not S pairs Holds_of shape_of laws s t way at middle ea em km lm w.is.was w.is.point
      (λ m. never (record {
        was = m.was;
        carried = changed s t (Holds_of at) a m.was w.is.was y m.carried w.is.others;
        number = w.is.number;
        in_range = ((cut w.is.number).0 w.is.in_range).0;
        fits = subst (λ (x : Shape). Holds (range_at x.arrays a) w.is.number) em w.is.fits;
        cell = elim w.is.cell [
          | inl e ↦ inl e
          | inr k ↦ inr (k.0, k.1 ∙ m.carried.cells.kept a ha hs tt)
        ];
      })))
      l

-- ---- reading

size_of : (low high z : ℤ) → IsWord32 low → IsWord32 high → low ≤ℤ z → z ≤ℤ high → unsigned_abs z < 2 ^ 50
size_of low high z l h k j = omega (arith, ints, l.above, h.below)

cell_size : (shape : Shape) (Has : Point → Type 0) (a : ℕ) (z : ℤ) → IsShape shape → a < array_count shape → ((x : Point) → Has x → InShape shape x) → IsCellOf Has a z → unsigned_abs z < 2 ^ 50
cell_size shape Has a z sh h inside i =
    let full = range_at shape.arrays a in
    let narrow = sh.arrays a nought h in
    let held = (inside i.x i.is).set_cells a z h i.gives in
    size_of full.low full.high z narrow.low_fits narrow.high_fits held.above held.below

pub cells_of : (shape : Shape) (Has : Point → Type 0) (a : ℕ) (s : Summary) → IsShape shape → a < array_count shape → ((x : Point) → Has x → InShape shape x) → IsLeastFor (IsCellOf Has a) s → IsCells Has a (cells_range s)
cells_of shape Has a Empty sh h inside least = λ z b. least b.low (record { x = b.x; is = b.x_is; gives = b.x_cell })
cells_of shape Has a (Range r) sh h inside least = (
  record { low_size = cell_size shape Has a r.low sh h inside least.low_is.attained; high_size = cell_size shape Has a r.high sh h inside least.high_is.attained },
  λ z. (
    λ b. record {
      above = le_trans (least.low_is.least b.low (record { x = b.x; is = b.x_is; gives = b.x_cell })) b.above;
      below = le_trans b.below (least.high_is.greatest b.high (record { x = b.y; is = b.y_is; gives = b.y_cell }));
    },
    λ i. record {
      x = least.low_is.attained.x;
      y = least.high_is.attained.x;
      x_is = least.low_is.attained.is;
      y_is = least.high_is.attained.is;
      low = r.low;
      high = r.high;
      x_cell = least.low_is.attained.gives;
      y_cell = least.high_is.attained.gives;
      above = i.above;
      below = i.below;
    },
  ),
)
