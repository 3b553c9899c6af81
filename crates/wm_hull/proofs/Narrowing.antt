-- Boxes cut to a part: they still fit, and the first arguments at which a test holds are found place after place.
use Rattle.std.proofs.Common.{◌≡◌, ◌⊎◌, ⊎_elim, inl, inr, refl, sym, subst, ◌∙◌, ℤ, pos, ◌+ℤ◌, ◌≤ℤ◌, ◌<ℤ◌, Bool, IsTrue, arith}
use Rattle.std.proofs.lemmas.Int.{ints}
use Rattle.std.specs.Prelude.{Option, Some, None, slice_get}
use Rattle.wm_numbers.proofs.Order.{le_trans, le_of_eq, le_antisym, le_or_lt, low_within, high_within}
use Rattle.wm_numbers.specs.Within.{Within}
use Rattle.wm_interval.specs.Holds.{Holds}
use Rattle.wm_interval.specs.declared.Interval.{Interval}
use Rattle.wm_ops.specs.Arguments.{ArgsFit, HasWidthOf}
use Rattle.wm_ops.specs.Operators.{arg_widths_of}
use Rattle.wm_ops.specs.declared.operators.Op.{Op}
use Rattle.wm_ops.specs.declared.operators.Width.{Width}
use Rattle.wm_ops.specs.declared.operators.Width.TheVariants.{W16, W32}
use Rattle.wm_hull.specs.Boxes.{InBoxes, BoxesFit}
use Rattle.wm_hull.specs.Failures.{Somewhere, Nowhere, IsFirst}
use Rattle.wm_hull.specs.Ranges.{IsBox32}
use Rattle.wm_hull.specs.Searches.{SearchedFirst, SearchedSecond, SearchedThird}

-- a number between two of a type is of it
width_between : (w : Option Width) (u v k : ℤ) → HasWidthOf w u → HasWidthOf w v → Within u v k → HasWidthOf w k
width_between None u v k p q r = tt
width_between (Some W16) u v k p q r = record { above = le_trans p.above r.above; below = le_trans r.below q.below }
width_between (Some W32) u v k p q r = record { above = le_trans p.above r.above; below = le_trans r.below q.below }

pub fits_between : (op : Op) (x y z : Interval) (a b c : ℤ) → BoxesFit op x y z → InBoxes x y z a b c → ArgsFit op a b c
fits_between op x y z a b c f inside = record {
  first = width_between (slice_get (arg_widths_of op) 0) x.low x.high a f.low_ends.first f.high_ends.first inside.first;
  second = width_between (slice_get (arg_widths_of op) 1) y.low y.high b f.low_ends.second f.high_ends.second inside.second;
  third = width_between (slice_get (arg_widths_of op) 2) z.low z.high c f.low_ends.third f.high_ends.third inside.third;
}

-- boxes whose ends lie in fitting boxes fit
pub fits_within : (op : Op) (x y z x' y' z' : Interval) → BoxesFit op x y z → InBoxes x y z x'.low y'.low z'.low → InBoxes x y z x'.high y'.high z'.high → BoxesFit op x' y' z'
fits_within op x y z x' y' z' f low high = record { low_ends = fits_between op x y z _ _ _ f low; high_ends = fits_between op x y z _ _ _ f high }

-- what lies in a part lies in the whole
pub holds_wider : (p q : Interval) (k : ℤ) → Holds q p.low → Holds q p.high → Holds p k → Holds q k
holds_wider p q k l h w = record { above = le_trans l.above w.above; below = le_trans w.below h.below }

-- ---- the halves of the first box
module _ (t : ℤ → ℤ → ℤ → Bool) (left lower upper y z : Interval) (low : lower.low ≡ left.low) (high : upper.high ≡ left.high) (next : upper.low ≡ lower.high +ℤ pos 1) where
  either_half : (k : ℤ) → Holds left k → Holds lower k ⊎ Holds upper k
  either_half k w = ⊎_elim
      (λ h. inl (record { above = le_trans (le_of_eq low) w.above; below = h }))
      (λ h. inr (record { above = omega (arith, ints); below = le_trans w.below (le_of_eq (sym high)) }))
      (le_or_lt k lower.high)

  pub upper_first : Nowhere t lower y z → Somewhere t left y z → Somewhere t upper y z
  upper_first none s = ⊎_elim
      (λ h. absurd (none s.a s.b s.c (record { first = h; second = s.inside.second; third = s.inside.third }) s.holds))
      (λ h. record { a = s.a; b = s.b; c = s.c; inside = record { first = h; second = s.inside.second; third = s.inside.third }; holds = s.holds })
      (either_half s.a s.inside.first)

  pub upper_second : Nowhere t y lower z → Somewhere t y left z → Somewhere t y upper z
  upper_second none s = ⊎_elim
      (λ h. absurd (none s.a s.b s.c (record { first = s.inside.first; second = h; third = s.inside.third }) s.holds))
      (λ h. record { a = s.a; b = s.b; c = s.c; inside = record { first = s.inside.first; second = h; third = s.inside.third }; holds = s.holds })
      (either_half s.b s.inside.second)

  pub upper_third : Nowhere t y z lower → Somewhere t y z left → Somewhere t y z upper
  upper_third none s = ⊎_elim
      (λ h. absurd (none s.a s.b s.c (record { first = s.inside.first; second = s.inside.second; third = h }) s.holds))
      (λ h. record { a = s.a; b = s.b; c = s.c; inside = record { first = s.inside.first; second = s.inside.second; third = h }; holds = s.holds })
      (either_half s.c s.inside.third)

-- ---- a search that has come to `left`
module _ (t : ℤ → ℤ → ℤ → Bool) (x y z : Interval) where
  pub begin_first : Somewhere t x y z → SearchedFirst t x y z x
  begin_first s = record { low_in = low_within x.ordered; high_in = high_within x.ordered; found = s; before = λ a b c inside h. inside.first.above }

  pub begin_second : Somewhere t x y z → SearchedSecond t x y z y
  begin_second s = record { low_in = low_within y.ordered; high_in = high_within y.ordered; found = s; before = λ a b c inside h. inside.second.above }

  pub begin_third : Somewhere t x y z → SearchedThird t x y z z
  begin_third s = record { low_in = low_within z.ordered; high_in = high_within z.ordered; found = s; before = λ a b c inside h. inside.third.above }

  module _ (left lower : Interval) (low : lower.low ≡ left.low) (within : lower.high ≤ℤ left.high) where
    pub lower_kept_first : SearchedFirst t x y z left → Somewhere t lower y z → SearchedFirst t x y z lower
    lower_kept_first s f = record {
      low_in = subst (Holds x) (sym low) s.low_in;
      high_in = record { above = le_trans s.low_in.above (le_trans (le_of_eq (sym low)) lower.ordered); below = le_trans within s.high_in.below };
      found = f;
      before = λ a b c inside h. le_trans (le_of_eq low) (s.before a b c inside h);
    }

    pub lower_kept_second : SearchedSecond t x y z left → Somewhere t x lower z → SearchedSecond t x y z lower
    lower_kept_second s f = record {
      low_in = subst (Holds y) (sym low) s.low_in;
      high_in = record { above = le_trans s.low_in.above (le_trans (le_of_eq (sym low)) lower.ordered); below = le_trans within s.high_in.below };
      found = f;
      before = λ a b c inside h. le_trans (le_of_eq low) (s.before a b c inside h);
    }

    pub lower_kept_third : SearchedThird t x y z left → Somewhere t x y lower → SearchedThird t x y z lower
    lower_kept_third s f = record {
      low_in = subst (Holds z) (sym low) s.low_in;
      high_in = record { above = le_trans s.low_in.above (le_trans (le_of_eq (sym low)) lower.ordered); below = le_trans within s.high_in.below };
      found = f;
      before = λ a b c inside h. le_trans (le_of_eq low) (s.before a b c inside h);
    }

    module _ (upper : Interval) (high : upper.high ≡ left.high) (next : upper.low ≡ lower.high +ℤ pos 1) where
      pub upper_kept_first : SearchedFirst t x y z left → Nowhere t lower y z → SearchedFirst t x y z upper
      upper_kept_first s none = record {
        low_in = record { above = le_trans s.low_in.above (let o = lower.ordered in omega (arith, ints)); below = le_trans (le_trans upper.ordered (le_of_eq high)) s.high_in.below };
        high_in = subst (Holds x) (sym high) s.high_in;
        found = upper_first t left lower upper y z low high next none s.found;
        before = λ a b c inside h. ⊎_elim
            (λ k. absurd (none a b c (record { first = record { above = le_trans (le_of_eq low) (s.before a b c inside h); below = k }; second = inside.second; third = inside.third }) h))
            (λ k. omega (arith, ints)) (le_or_lt a lower.high);
      }

      pub upper_kept_second : SearchedSecond t x y z left → Nowhere t x lower z → SearchedSecond t x y z upper
      upper_kept_second s none = record {
        low_in = record { above = le_trans s.low_in.above (let o = lower.ordered in omega (arith, ints)); below = le_trans (le_trans upper.ordered (le_of_eq high)) s.high_in.below };
        high_in = subst (Holds y) (sym high) s.high_in;
        found = upper_second t left lower upper x z low high next none s.found;
        before = λ a b c inside h. ⊎_elim
            (λ k. absurd (none a b c (record { first = inside.first; second = record { above = le_trans (le_of_eq low) (s.before a b c inside h); below = k }; third = inside.third }) h))
            (λ k. omega (arith, ints)) (le_or_lt b lower.high);
      }

      pub upper_kept_third : SearchedThird t x y z left → Nowhere t x y lower → SearchedThird t x y z upper
      upper_kept_third s none = record {
        low_in = record { above = le_trans s.low_in.above (let o = lower.ordered in omega (arith, ints)); below = le_trans (le_trans upper.ordered (le_of_eq high)) s.high_in.below };
        high_in = subst (Holds z) (sym high) s.high_in;
        found = upper_third t left lower upper x y low high next none s.found;
        before = λ a b c inside h. ⊎_elim
            (λ k. absurd (none a b c (record { first = inside.first; second = inside.second; third = record { above = le_trans (le_of_eq low) (s.before a b c inside h); below = k } }) h))
            (λ k. omega (arith, ints)) (le_or_lt c lower.high);
      }

-- ---- the three places together
at_point : (p : Interval) (a k : ℤ) → p.low ≡ a → p.high ≡ a → Holds p k → k ≡ a
at_point p a k l h w = le_antisym (le_trans w.below (le_of_eq h)) (le_trans (le_of_eq (sym l)) w.above)

point_holds : (p : Interval) (a k : ℤ) → p.low ≡ a → p.high ≡ a → k ≡ a → Holds p k
point_holds p a k l h e = record { above = le_of_eq (l ∙ sym e); below = le_of_eq (e ∙ sym h) }

pub first_of_all : (t : ℤ → ℤ → ℤ → Bool) (x y z first second third : Interval) →
    SearchedFirst t x y z first → first.low ≡ first.high → SearchedSecond t first y z second → second.low ≡ second.high → SearchedThird t first second z third → third.low ≡ third.high →
    IsFirst t x y z first.low second.low third.low
first_of_all t x y z first second third f fp s sp h hp =
    let w = h.found in
    let a_is : w.a ≡ first.low = at_point first _ _ refl (sym fp) w.inside.first in
    let b_is : w.b ≡ second.low = at_point second _ _ refl (sym sp) w.inside.second in
    let c_is : w.c ≡ third.low = at_point third _ _ refl (sym hp) w.inside.third in
    record {
      inside = record { first = f.low_in; second = s.low_in; third = h.low_in };
      holds = subst (λ (v : ℤ). IsTrue (t v second.low third.low)) a_is (subst (λ (v : ℤ). IsTrue (t w.a v third.low)) b_is (subst (λ (v : ℤ). IsTrue (t w.a w.b v)) c_is w.holds));
      before = λ d e g inside k. ⊎_elim
          (λ less. inl less)
          (λ same. inr (same, after d e g inside k same))
          (less_or_equal first.low d (f.before d e g inside k));
    }
  where
    less_or_equal : (u v : ℤ) → u ≤ℤ v → (u <ℤ v) ⊎ (u ≡ v)
    less_or_equal u v h = grind (arith, ints)

    after : (d e g : ℤ) → InBoxes x y z d e g → IsTrue (t d e g) → first.low ≡ d → (second.low <ℤ e) ⊎ ((second.low ≡ e) × (third.low ≤ℤ g))
    after d e g inside k same =
        let p : Holds first d = point_holds first first.low d refl (sym fp) (sym same) in
        let here : InBoxes first y z d e g = record { first = p; second = inside.second; third = inside.third } in
        ⊎_elim (λ less. inl less)
        (λ equal. inr (equal, h.before d e g (record { first = p; second = point_holds second second.low e refl (sym sp) (sym equal); third = inside.third }) k))
        (less_or_equal second.low e (s.before d e g here k))

-- what lies in a box of 32 bits has 32 bits
pub box_within : (x p : Interval) → IsBox32 x → Holds x p.low → Holds x p.high → IsBox32 p
box_within x p b l h = record {
  low_in = record { above = le_trans b.low_in.above l.above; below = le_trans l.below b.high_in.below };
  high_in = record { above = le_trans b.low_in.above h.above; below = le_trans h.below b.high_in.below };
}

module _ (op : Op) (x y z p : Interval) (f : BoxesFit op x y z) where
  pub fits_first : Holds x p.low → Holds x p.high → BoxesFit op p y z
  fits_first l h = fits_within op x y z p y z f
      (record { first = l; second = low_within y.ordered; third = low_within z.ordered }) (record { first = h; second = high_within y.ordered; third = high_within z.ordered })

  pub fits_second : Holds y p.low → Holds y p.high → BoxesFit op x p z
  fits_second l h = fits_within op x y z x p z f
      (record { first = low_within x.ordered; second = l; third = low_within z.ordered }) (record { first = high_within x.ordered; second = h; third = high_within z.ordered })

  pub fits_third : Holds z p.low → Holds z p.high → BoxesFit op x y p
  fits_third l h = fits_within op x y z x y p f
      (record { first = low_within x.ordered; second = low_within y.ordered; third = l }) (record { first = high_within x.ordered; second = high_within y.ordered; third = h })
