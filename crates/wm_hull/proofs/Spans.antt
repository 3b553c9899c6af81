-- The ranges of formulas, step by step.
use Rattle.std.proofs.Common.{◌≡◌, ⊎_elim, refl, sym, ap, ◌∙◌, subst, zero, suc, ℤ, pos, negsuc, ◌+ℤ◌, ◌-ℤ◌, neg_ℤ, ◌≤ℤ◌, IsTrue, arith}
use Rattle.std.proofs.lemmas.Int.{ints, clamps}
use Rattle.std.specs.Prelude.{unsigned_abs}
use Rattle.std.specs.Int.{int_max}
use Rattle.wm_numbers.proofs.Order.{le_trans, le_of_eq, low_within, high_within, add_mono, sub_mono, neg_mono, max_cases}
use Rattle.wm_numbers.specs.Within.{Within}
use Rattle.wm_interval.specs.Holds.{IsHullOf, ResultOn}
use Rattle.wm_interval.specs.declared.Interval.{Interval}
use Rattle.wm_ops.specs.Outcomes.{value_of, in_domain}
use Rattle.wm_ops.specs.declared.operators.Op.{Op}
use Rattle.wm_hull.specs.Boxes.{InBoxes}
use Rattle.wm_hull.specs.Ranges.{Reached, IsRangeOf, Result}
use Rattle.wm_hull.proofs.Rising.{Rising}

size_of_natural : (a : ℤ) → pos 0 ≤ℤ a → pos (unsigned_abs a) ≡ a
size_of_natural (pos n) h = refl
size_of_natural (negsuc n) h = absurd (omega (arith, ints))

size_of_negative : (a : ℤ) → a ≤ℤ pos 0 → pos (unsigned_abs a) ≡ neg_ℤ a
size_of_negative (pos zero) h = refl
size_of_negative (pos (suc n)) h = absurd (omega (arith, ints))
size_of_negative (negsuc n) h = refl

-- ---- a range by its two ends: arguments that reach them, and no others beyond
module _ (f : ℤ → ℤ → ℤ → ℤ) (x y z range : Interval) where
  pub range_by : (low : Reached f x y z range.low) (high : Reached f x y z range.high) →
      ((a b c : ℤ) → InBoxes x y z a b c → Within range.low range.high (f a b c)) → IsRangeOf f x y z range
  range_by low high all = record {
    low_is = record { attained = low; least = λ v r. le_trans (all r.a r.b r.c r.inside).above (le_of_eq r.gives) };
    high_is = record { attained = high; greatest = λ v r. le_trans (le_of_eq (sym r.gives)) (all r.a r.b r.c r.inside).below };
  }

  -- from the range to the numbers in it
  pub in_range : IsRangeOf f x y z range → (a b c : ℤ) → InBoxes x y z a b c → Within range.low range.high (f a b c)
  in_range h a b c inside =
      let r : Reached f x y z (f a b c) = record { a = a; b = b; c = c; inside = inside; gives = refl } in
      record { above = h.low_is.least _ r; below = h.high_is.greatest _ r }

  -- a formula that gives the same
  pub range_same : (g : ℤ → ℤ → ℤ → ℤ) → ((a b c : ℤ) → f a b c ≡ g a b c) → IsRangeOf f x y z range → IsRangeOf g x y z range
  range_same g same h =
      let over : (v : ℤ) → Reached f x y z v → Reached g x y z v = λ v r. record { a = r.a; b = r.b; c = r.c; inside = r.inside; gives = sym (same r.a r.b r.c) ∙ r.gives } in
      let back : (v : ℤ) → Reached g x y z v → Reached f x y z v = λ v r. record { a = r.a; b = r.b; c = r.c; inside = r.inside; gives = same r.a r.b r.c ∙ r.gives } in
      record {
        low_is = record { attained = over _ h.low_is.attained; least = λ v r. h.low_is.least v (back v r) };
        high_is = record { attained = over _ h.high_is.attained; greatest = λ v r. h.high_is.greatest v (back v r) };
      }

  -- a further step that keeps the order
  pub range_step : (g : ℤ → ℤ) (result : Interval) → Rising g → IsRangeOf f x y z range → result.low ≡ g range.low → result.high ≡ g range.high →
      IsRangeOf (λ a b c. g (f a b c)) x y z result
  range_step g result rises h low high =
      let l = h.low_is.attained in
      let u = h.high_is.attained in
      record {
        low_is = record {
          attained = record { a = l.a; b = l.b; c = l.c; inside = l.inside; gives = ap g l.gives ∙ sym low };
          least = λ v r. le_trans (le_of_eq low) (le_trans (rises.keeps _ _ (in_range h r.a r.b r.c r.inside).above) (le_of_eq r.gives));
        };
        high_is = record {
          attained = record { a = u.a; b = u.b; c = u.c; inside = u.inside; gives = ap g u.gives ∙ sym high };
          greatest = λ v r. le_trans (le_of_eq (sym r.gives)) (le_trans (rises.keeps _ _ (in_range h r.a r.b r.c r.inside).below) (le_of_eq (sym high)));
        };
      }

-- ---- a box itself, and what two boxes give
first_low : (x y z : Interval) → InBoxes x y z x.low y.low z.low
first_low x y z = record { first = low_within x.ordered; second = low_within y.ordered; third = low_within z.ordered }

pub range_first : (x y z : Interval) → IsRangeOf (λ a b c. a) x y z x
range_first x y z = range_by (λ a b c. a) x y z x
    (record { a = x.low; b = y.low; c = z.low; inside = first_low x y z; gives = refl })
    (record { a = x.high; b = y.low; c = z.low; inside = record { first = high_within x.ordered; second = low_within y.ordered; third = low_within z.ordered }; gives = refl })
    (λ a b c inside. inside.first)

-- what a function of the first two arguments gives
pub range_two : (f : ℤ → ℤ → ℤ) (x y z range : Interval) → IsHullOf (ResultOn f x y) range → IsRangeOf (λ a b c. f a b) x y z range
range_two f x y z range h =
    let l = h.low_is.attained in
    let u = h.high_is.attained in
    range_by (λ a b c. f a b) x y z range
    (record { a = l.x; b = l.y; c = z.low; inside = record { first = l.x_in; second = l.y_in; third = low_within z.ordered }; gives = l.gives })
    (record { a = u.x; b = u.y; c = z.low; inside = record { first = u.x_in; second = u.y_in; third = low_within z.ordered }; gives = u.gives })
    (λ a b c inside. record {
      above = h.low_is.least _ (record { x = a; y = b; x_in = inside.first; y_in = inside.second; gives = refl });
      below = h.high_is.greatest _ (record { x = a; y = b; x_in = inside.first; y_in = inside.second; gives = refl });
    })

-- what a function of the last two gives
pub range_last_two : (f : ℤ → ℤ → ℤ) (x y z range : Interval) → IsHullOf (ResultOn f y z) range → IsRangeOf (λ a b c. f b c) x y z range
range_last_two f x y z range h =
    let l = h.low_is.attained in
    let u = h.high_is.attained in
    range_by (λ a b c. f b c) x y z range
    (record { a = x.low; b = l.x; c = l.y; inside = record { first = low_within x.ordered; second = l.x_in; third = l.y_in }; gives = l.gives })
    (record { a = x.low; b = u.x; c = u.y; inside = record { first = low_within x.ordered; second = u.x_in; third = u.y_in }; gives = u.gives })
    (λ a b c inside. record {
      above = h.low_is.least _ (record { x = b; y = c; x_in = inside.second; y_in = inside.third; gives = refl });
      below = h.high_is.greatest _ (record { x = b; y = c; x_in = inside.second; y_in = inside.third; gives = refl });
    })

-- ---- the first argument and what the last two give
module _ (p : ℤ → ℤ → ℤ) (x y z range result : Interval) (h : IsRangeOf (λ a b c. p b c) x y z range) where
  pub range_plus : result.low ≡ x.low +ℤ range.low → result.high ≡ x.high +ℤ range.high → IsRangeOf (λ a b c. a +ℤ p b c) x y z result
  range_plus low high =
      let l = h.low_is.attained in
      let u = h.high_is.attained in
      range_by (λ a b c. a +ℤ p b c) x y z result
      (record { a = x.low; b = l.b; c = l.c; inside = record { first = low_within x.ordered; second = l.inside.second; third = l.inside.third }; gives = ap (λ (v : ℤ). x.low +ℤ v) l.gives ∙ sym low })
      (record { a = x.high; b = u.b; c = u.c; inside = record { first = high_within x.ordered; second = u.inside.second; third = u.inside.third }; gives = ap (λ (v : ℤ). x.high +ℤ v) u.gives ∙ sym high })
      (λ a b c inside. let w = in_range (λ a b c. p b c) x y z range h a b c inside in record {
        above = le_trans (le_of_eq low) (add_mono inside.first.above w.above);
        below = le_trans (add_mono inside.first.below w.below) (le_of_eq (sym high));
      })

  pub range_minus : result.low ≡ x.low -ℤ range.high → result.high ≡ x.high -ℤ range.low → IsRangeOf (λ a b c. a -ℤ p b c) x y z result
  range_minus low high =
      let l = h.low_is.attained in
      let u = h.high_is.attained in
      range_by (λ a b c. a -ℤ p b c) x y z result
      (record { a = x.low; b = u.b; c = u.c; inside = record { first = low_within x.ordered; second = u.inside.second; third = u.inside.third }; gives = ap (λ (v : ℤ). x.low -ℤ v) u.gives ∙ sym low })
      (record { a = x.high; b = l.b; c = l.c; inside = record { first = high_within x.ordered; second = l.inside.second; third = l.inside.third }; gives = ap (λ (v : ℤ). x.high -ℤ v) l.gives ∙ sym high })
      (λ a b c inside. let w = in_range (λ a b c. p b c) x y z range h a b c inside in record {
        above = le_trans (le_of_eq low) (sub_mono inside.first.above w.below);
        below = le_trans (sub_mono inside.first.below w.above) (le_of_eq (sym high));
      })

-- ---- an operator whose domain is all
pub hull_all : (op : Op) (x y z range : Interval) → ((a b : ℤ) → IsTrue (in_domain op a b)) → IsRangeOf (value_of op) x y z range → IsHullOf (Result op x y z) range
hull_all op x y z range all h =
    let l = h.low_is.attained in
    let u = h.high_is.attained in
    record {
      low_is = record {
        attained = record { a = l.a; b = l.b; c = l.c; inside = l.inside; domain = all l.a l.b; gives = l.gives };
        least = λ v r. h.low_is.least v (record { a = r.a; b = r.b; c = r.c; inside = r.inside; gives = r.gives });
      };
      high_is = record {
        attained = record { a = u.a; b = u.b; c = u.c; inside = u.inside; domain = all u.a u.b; gives = u.gives };
        greatest = λ v r. h.high_is.greatest v (record { a = r.a; b = r.b; c = r.c; inside = r.inside; gives = r.gives });
      };
    }

-- ---- two numbers, and a step that keeps the order
pub on_step : (f : ℤ → ℤ → ℤ) (x y range result : Interval) (g : ℤ → ℤ) → Rising g → IsHullOf (ResultOn f x y) range → result.low ≡ g range.low → result.high ≡ g range.high →
    IsHullOf (ResultOn (λ a b. g (f a b)) x y) result
on_step f x y range result g rises h low high =
    let l = h.low_is.attained in
    let u = h.high_is.attained in
    record {
      low_is = record {
        attained = record { x = l.x; y = l.y; x_in = l.x_in; y_in = l.y_in; gives = ap g l.gives ∙ sym low };
        least = λ v r. le_trans (le_of_eq low) (le_trans (rises.keeps _ _ (h.low_is.least _ (record { x = r.x; y = r.y; x_in = r.x_in; y_in = r.y_in; gives = refl }))) (le_of_eq r.gives));
      };
      high_is = record {
        attained = record { x = u.x; y = u.y; x_in = u.x_in; y_in = u.y_in; gives = ap g u.gives ∙ sym high };
        greatest = λ v r. le_trans (le_of_eq (sym r.gives)) (le_trans (rises.keeps _ _ (h.high_is.greatest _ (record { x = r.x; y = r.y; x_in = r.x_in; y_in = r.y_in; gives = refl }))) (le_of_eq (sym high)));
      };
    }

-- ---- a function that rises in both arguments
pub range_up_up : (f : ℤ → ℤ → ℤ) (x y z result : Interval) → ((a b c d : ℤ) → a ≤ℤ c → b ≤ℤ d → f a b ≤ℤ f c d) → result.low ≡ f x.low y.low → result.high ≡ f x.high y.high →
    IsRangeOf (λ a b c. f a b) x y z result
range_up_up f x y z result up low high = range_by (λ a b c. f a b) x y z result
    (record { a = x.low; b = y.low; c = z.low; inside = first_low x y z; gives = sym low })
    (record { a = x.high; b = y.high; c = z.low; inside = record { first = high_within x.ordered; second = high_within y.ordered; third = low_within z.ordered }; gives = sym high })
    (λ a b c inside. record {
      above = le_trans (le_of_eq low) (up _ _ _ _ inside.first.above inside.second.above);
      below = le_trans (up _ _ _ _ inside.first.below inside.second.below) (le_of_eq (sym high));
    })

-- ---- a step that turns the order
pub range_turned : (g : ℤ → ℤ) (x y z result : Interval) → ((a b : ℤ) → a ≤ℤ b → g b ≤ℤ g a) → result.low ≡ g x.high → result.high ≡ g x.low → IsRangeOf (λ a b c. g a) x y z result
range_turned g x y z result turns low high = range_by (λ a b c. g a) x y z result
    (record { a = x.high; b = y.low; c = z.low; inside = record { first = high_within x.ordered; second = low_within y.ordered; third = low_within z.ordered }; gives = sym low })
    (record { a = x.low; b = y.low; c = z.low; inside = first_low x y z; gives = sym high })
    (λ a b c inside. record {
      above = le_trans (le_of_eq low) (turns _ _ inside.first.below);
      below = le_trans (turns _ _ inside.first.above) (le_of_eq (sym high));
    })

-- ---- sizes
pub sizes_kept : (x y z : Interval) → pos 0 ≤ℤ x.low → IsRangeOf (λ a b c. pos (unsigned_abs a)) x y z x
sizes_kept x y z h = range_by (λ a b c. pos (unsigned_abs a)) x y z x
    (record { a = x.low; b = y.low; c = z.low; inside = first_low x y z; gives = size_of_natural x.low h })
    (record { a = x.high; b = y.low; c = z.low; inside = record { first = high_within x.ordered; second = low_within y.ordered; third = low_within z.ordered }; gives = size_of_natural x.high (le_trans h x.ordered) })
    (λ a b c inside. subst (Within x.low x.high) (sym (size_of_natural a (le_trans h inside.first.above))) inside.first)

pub sizes_turned : (x y z result : Interval) → x.high ≤ℤ pos 0 → result.low ≡ neg_ℤ x.high → result.high ≡ neg_ℤ x.low → IsRangeOf (λ a b c. pos (unsigned_abs a)) x y z result
sizes_turned x y z result h low high = range_by (λ a b c. pos (unsigned_abs a)) x y z result
    (record { a = x.high; b = y.low; c = z.low; inside = record { first = high_within x.ordered; second = low_within y.ordered; third = low_within z.ordered }; gives = size_of_negative x.high h ∙ sym low })
    (record { a = x.low; b = y.low; c = z.low; inside = first_low x y z; gives = size_of_negative x.low (le_trans x.ordered h) ∙ sym high })
    (λ a b c inside. subst (Within result.low result.high) (sym (size_of_negative a (le_trans inside.first.below h)))
    (record { above = le_trans (le_of_eq low) (neg_mono inside.first.below); below = le_trans (neg_mono inside.first.above) (le_of_eq (sym high)) }))

pub sizes_both : (x y z result : Interval) → x.low ≤ℤ pos 0 → pos 0 ≤ℤ x.high → result.low ≡ pos 0 → result.high ≡ int_max x.high (neg_ℤ x.low) → IsRangeOf (λ a b c. pos (unsigned_abs a)) x y z result
sizes_both x y z result h k low high = range_by (λ a b c. pos (unsigned_abs a)) x y z result
    (record { a = pos 0; b = y.low; c = z.low; inside = record { first = record { above = h; below = k }; second = low_within y.ordered; third = low_within z.ordered }; gives = sym low })
    (⊎_elim
    (λ m. record { a = x.high; b = y.low; c = z.low; inside = record { first = high_within x.ordered; second = low_within y.ordered; third = low_within z.ordered }; gives = size_of_natural x.high k ∙ sym m.1 ∙ sym high })
    (λ m. record { a = x.low; b = y.low; c = z.low; inside = first_low x y z; gives = size_of_negative x.low h ∙ sym m.1 ∙ sym high })
    (max_cases x.high (neg_ℤ x.low)))
    (λ a b c inside. let above = inside.first.above in let below = inside.first.below in record { above = omega (arith, ints); below = omega (arith, ints, clamps, high) })

-- ---- an operator of all arguments whose value is the formula
pub hull_step : (op : Op) (x y z range result : Interval) (f : ℤ → ℤ → ℤ → ℤ) (g : ℤ → ℤ) → Rising g → ((a b : ℤ) → IsTrue (in_domain op a b)) → ((a b c : ℤ) → g (f a b c) ≡ value_of op a b c) →
    IsRangeOf f x y z range → result.low ≡ g range.low → result.high ≡ g range.high → IsHullOf (Result op x y z) result
hull_step op x y z range result f g rises all value h low high =
    hull_all op x y z result all (range_same (λ a b c. g (f a b c)) x y z result (value_of op) value (range_step f x y z range g result rises h low high))

pub hull_same : (op : Op) (x y z range : Interval) (f : ℤ → ℤ → ℤ → ℤ) → ((a b : ℤ) → IsTrue (in_domain op a b)) → ((a b c : ℤ) → f a b c ≡ value_of op a b c) →
    IsRangeOf f x y z range → IsHullOf (Result op x y z) range
hull_same op x y z range f all value h = hull_all op x y z range all (range_same f x y z range (value_of op) value h)
