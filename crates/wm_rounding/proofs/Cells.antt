-- The cells of arrays on a grid, one array after another.
use Rattle.std.proofs.Common.{◌≡◌, ◌≢◌, refl, sym, ◌∙◌, ap, subst, ℕ, ◌+◌, ◌<◌, ◌≤◌, ℤ, ◌≤ℤ◌, List, Option, Some, None, arith, inl, inr}
use Rattle.std.specs.Prelude.{◌==◌, if◌then◌else◌}
use Rattle.std.specs.List.{Contains}
use Rattle.std.proofs.lemmas.Bool.{cases_eq}
use Rattle.std.proofs.lemmas.Int.{ints}
use Rattle.wm_numbers.proofs.Order.{le_trans}
use Rattle.wm_numbers.specs.Extremes.{LeastOf, GreatestOf}
use Rattle.wm_interval.specs.declared.Interval.{Interval}
use Rattle.wm_arrays.specs.declared.summary.Summary.{Summary}
use Rattle.wm_arrays.specs.declared.summary.Summary.TheVariants.{Empty, Range}
use Rattle.wm_arrays.specs.Meaning.{Allows, IsIncluded, IsLeastFor}
use Rattle.wm_domain.specs.Points.{Point, AllowsCell, SameButCell}
use Rattle.wm_domain.specs.Changes.{IsCellOf, ArraySet}
use Rattle.wm_domain.specs.States.{InShape, Keeps}
use Rattle.wm_domain.specs.declared.shape.Shape.{Shape}
use Rattle.wm_grid.specs.Grid.{IsAtOrAbove, IsAtOrBelow}
use Rattle.wm_rounding.specs.Bounding.{IsOn, IsAround}
use Rattle.wm_rounding.specs.Rounding.{MeetsCell}
use Rattle.wm_rounding.specs.Cuts.{AllowsCells, SetsCell, HasCells}

-- ---- summaries

pub empty_around : (numbers : List ℤ) → IsAround numbers Empty Empty
empty_around numbers = record { on = tt; holds = λ z h. h; least = λ t o i z h. absurd h }

-- a summary with a number has ends around it
ends_of : (numbers : List ℤ) (t : Summary) (r : Interval) → IsOn numbers t → IsIncluded (Range r) t → (low high : ℤ) → GreatestOf (IsAtOrBelow numbers r.low) low → LeastOf (IsAtOrAbove numbers r.high) high
    → (s : Interval) → s.low ≡ low → s.high ≡ high → IsIncluded (Range s) t
ends_of numbers Empty r o i low high l h s e f z k = absurd (i r.low (record { above = le_refl; below = r.ordered }))
  where
    le_refl : r.low ≤ℤ r.low
    le_refl = omega (arith, ints)
ends_of numbers (Range t) r o i low high l h s e f z k = record {
  above = le_trans (l.greatest t.low (record { is_one = o.0; below = (i r.low (record { above = le_refl r.low; below = r.ordered })).above })) (subst (λ (x : ℤ). x ≤ℤ z) e k.above);
  below = le_trans (subst (λ (x : ℤ). z ≤ℤ x) f k.below) (h.least t.high (record { is_one = o.1; above = (i r.high (record { above = r.ordered; below = le_refl r.high })).below }));
}
  where
    le_refl : (x : ℤ) → x ≤ℤ x
    le_refl x = omega (arith, ints)

pub range_around : (numbers : List ℤ) (r s : Interval) (low high : ℤ) → GreatestOf (IsAtOrBelow numbers r.low) low → LeastOf (IsAtOrAbove numbers r.high) high
    → s.low ≡ low → s.high ≡ high → IsAround numbers (Range r) (Range s)
range_around numbers r s low high l h e f = record {
  on = (subst (Contains numbers) (sym e) l.attained.is_one, subst (Contains numbers) (sym f) h.attained.is_one);
  holds = λ z k. record {
    above = subst (λ (x : ℤ). x ≤ℤ z) (sym e) (le_trans l.attained.below k.above);
    below = subst (λ (x : ℤ). z ≤ℤ x) (sym f) (le_trans k.below h.attained.above);
  };
  least = λ t o i. ends_of numbers t r o i low high l h s e f;
}

module _ (numbers : List ℤ) (Has : Point → Type 0) (a : ℕ) where
  -- the numbers that are allowed for set cells are included where each cell is
  included : (h t : Summary) → IsLeastFor (IsCellOf Has a) h → ((q : Point) → Has q → AllowsCell t (q.cells a)) → IsIncluded h t
  included Empty t l k z i = absurd i
  included (Range r) t l k z i =
      between t (subst (AllowsCell t) l.low_is.attained.gives (k l.low_is.attained.x l.low_is.attained.is)) (subst (AllowsCell t) l.high_is.attained.gives (k l.high_is.attained.x l.high_is.attained.is))
    where
      between : (t : Summary) → AllowsCell t (Some r.low) → AllowsCell t (Some r.high) → Allows t z
      between Empty x y = absurd x
      between (Range s) x y = record { above = le_trans x.above i.above; below = le_trans i.below y.below }

  -- each cell is allowed
  allowed_by : (h : Summary) (c : Option ℤ) (q : Point) → IsLeastFor (IsCellOf Has a) h → Has q → q.cells a ≡ c → AllowsCell h c
  allowed_by h None q l i e = tt
  allowed_by Empty (Some z) q l i e = l z (record { x = q; is = i; gives = e })
  allowed_by (Range r) (Some z) q l i e = record {
    above = l.low_is.least z (record { x = q; is = i; gives = e });
    below = l.high_is.greatest z (record { x = q; is = i; gives = e });
  }

  more_allowed : (h t : Summary) (c : Option ℤ) → IsIncluded h t → AllowsCell h c → AllowsCell t c
  more_allowed h t None i k = tt
  more_allowed h t (Some z) i k = i z k

  pub cells_allowed : (h s : Summary) → IsLeastFor (IsCellOf Has a) h → IsAround numbers h s → AllowsCells numbers Has a s
  cells_allowed h s l i = record {
    meets = λ p k. record {
      allowed = λ t o all. more_allowed s t (p.cells a) (i.least t o (included h t l all)) k;
    };
    allows = λ p m. m.allowed s i.on (λ q j. more_allowed h s (q.cells a) i.holds (allowed_by h (q.cells a) q l j refl));
  }

-- what a domain says of an array that is set
pub array_sets : {S : Type 0} (Holds_of : S → Point → Type 0) (shape_of : S → Shape) (numbers : List ℤ) (Has : Point → Type 0) (old new : S) (a : ℕ) (s : Summary) → shape_of new ≡ shape_of old → AllowsCells numbers Has a s
    → Keeps Holds_of shape_of new (ArraySet (Holds_of old) a s) → ((p : Point) → Holds_of new p → ArraySet (Holds_of old) a s p)
    → SetsCell numbers Has (Holds_of old) (Holds_of new) (shape_of old) a
array_sets Holds_of shape_of numbers Has old new a s e h k m = record {
  made = λ p i. let w = m p i in (record { was = w.was; point = w.point; others = w.others }, h.meets p w.cell);
  kept = λ p i b c. k.kept p (subst (λ (x : Shape). InShape x p) (sym e) i) (record { was = b.was; point = b.point; others = b.others; cell = h.allows p c });
}

-- ---- one array after another

-- the point with the cell of one array unset
abbrev unset_at : ℕ → Point → Point
unset_at a p = record { values = p.values; cells = λ b. if b == a then None else p.cells b }

at_it : (a : ℕ) (p : Point) → (unset_at a p).cells a ≡ None
at_it a p = grind arith

at_other : (a b : ℕ) (p : Point) → b ≢ a → (unset_at a p).cells b ≡ p.cells b
at_other a b p h = grind arith

same_beside : (a : ℕ) (p : Point) → SameButCell a (unset_at a p) p
same_beside a p = record { numbers = λ w. refl; cells = λ b h. sym (at_other a b p h) }

cell_meets : (numbers : List ℤ) (Has : Point → Type 0) (b : ℕ) (p q : Point) → q.cells b ≡ p.cells b → MeetsCell numbers Has b p → MeetsCell numbers Has b q
cell_meets numbers Has b p q e m = record { allowed = λ s o h. subst (AllowsCell s) (sym e) (m.allowed s o h) }

no_some : (z : ℤ) → ◌≡◌ {A = Option ℤ} None (Some z) → ⊥
no_some z e = cc

inside_unset : (shape : Shape) (a : ℕ) (p : Point) → InShape shape p → InShape shape (unset_at a p)
inside_unset shape a p i = record {
  numbers = i.numbers;
  set_cells = λ b z h e. elim (cases_eq b a) [
    | inl f ↦ absurd (no_some z (sym (at_it a p) ∙ ap (unset_at a p).cells (sym f) ∙ e))
    | inr f ↦ i.set_cells b z h (sym (at_other a b p f) ∙ e)
  ];
}

before : (b a : ℕ) → b < a + 1 → b ≢ a → b < a
before b a h n = omega arith

not_it : (b a : ℕ) → b < a → b ≢ a
not_it b a h e = omega arith

beyond : (b a : ℕ) → a + 1 ≤ b → a ≤ b
beyond b a h = omega arith

not_past : (b a : ℕ) → a + 1 ≤ b → b ≢ a
not_past b a h e = omega arith

later : (b a : ℕ) → a ≤ b → b ≢ a → a + 1 ≤ b
later b a h n = omega arith

earlier : (b a : ℕ) → b < a → b < a + 1
earlier b a h = omega arith

this : (a : ℕ) → a < a + 1
this a = omega arith

pub next_cells : (numbers : List ℤ) (Has Old New : Point → Type 0) (shape : Shape) (a count : ℕ) → a < count → HasCells numbers Has Old shape a count → SetsCell numbers Has Old New shape a → HasCells numbers Has New shape (a + 1) count
next_cells numbers Has Old New shape a count inside h s = record {
  meets = λ p i b l.
      let made = s.made p i in
      elim (cases_eq b a) [
        | inl e ↦ subst (λ (x : ℕ). MeetsCell numbers Has x p) (sym e) made.1
        | inr e ↦ cell_meets numbers Has b made.0.was p (made.0.others.cells b e) (h.meets made.0.was made.0.point b (before b a l e))
      ];
  unset = λ p i b l k.
      let made = s.made p i in
      made.0.others.cells b (not_past b a l) ∙ h.unset made.0.was made.0.point b (beyond b a l) k;
  kept = λ p i m u.
      s.kept p i
      (record {
        was = unset_at a p;
        point = h.kept (unset_at a p) (inside_unset shape a p i) (λ b l. cell_meets numbers Has b p (unset_at a p) (at_other a b p (not_it b a l)) (m b (earlier b a l)))
            (λ b l k. elim (cases_eq b a) [
              | inl e ↦ ap (unset_at a p).cells e ∙ at_it a p
              | inr e ↦ at_other a b p e ∙ u b (later b a l e) k
            ]);
        others = same_beside a p;
      })
      (m a (this a));
}

-- where no cell is set
pub unset_cells : (numbers : List ℤ) (Has New : Point → Type 0) (shape : Shape) (count : ℕ) → ((p : Point) → New p → (b : ℕ) → b < count → p.cells b ≡ None)
    → ((p : Point) → InShape shape p → ((b : ℕ) → b < count → p.cells b ≡ None) → New p) → HasCells numbers Has New shape 0 count
unset_cells numbers Has New shape count u k = record {
  meets = λ p i b l. absurd (none b l);
  unset = λ p i b l h. u p i b h;
  kept = λ p i m h. k p i (λ b l. h b (least b) l);
}
  where
    none : (b : ℕ) → b < 0 → ⊥
    none b l = omega arith

    least : (b : ℕ) → 0 ≤ b
    least b = omega arith
