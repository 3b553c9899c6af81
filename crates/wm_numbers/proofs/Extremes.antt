-- Laws on the least and the greatest number that a fact holds of, and the corners of boxes.
use Rattle.std.proofs.Common.{◌≡◌, ◌⊎◌, ⊎_elim, inl, inr, refl, sym, subst, ℤ, pos, ◌+ℤ◌, ◌-ℤ◌, ◌*ℤ◌, ◌≤ℤ◌}
use Rattle.std.specs.Int.{int_max, int_min}
use Rattle.wm_numbers.proofs.Order.{le_refl, le_trans, le_antisym, le_of_eq, le_or_lt, lt_le, max_cases, min_cases, low_within, high_within, add_mono, sub_mono}
use Rattle.wm_numbers.proofs.Products.{mul_keeps, mul_turns, mul_keeps_right, mul_turns_right}
use Rattle.wm_numbers.specs.Extremes.{LeastOf, GreatestOf, ResultOf1, ResultOf2}
use Rattle.wm_numbers.specs.Within.{Within}

-- ---- one number at most
pub least_once : {P : ℤ → Type 0} {a b : ℤ} → LeastOf P a → LeastOf P b → a ≡ b
least_once {P} {a} {b} h k = le_antisym (h.least b k.attained) (k.least a h.attained)

pub greatest_once : {P : ℤ → Type 0} {a b : ℤ} → GreatestOf P a → GreatestOf P b → a ≡ b
greatest_once {P} {a} {b} h k = le_antisym (k.greatest a h.attained) (h.greatest b k.attained)

-- ---- the same of a fact that says the same
pub least_same : {P Q : ℤ → Type 0} {a : ℤ} → ((z : ℤ) → P z → Q z) → ((z : ℤ) → Q z → P z) → LeastOf P a → LeastOf Q a
least_same {a = a} f g h = record { attained = f a h.attained; least = λ z q. h.least z (g z q) }

pub greatest_same : {P Q : ℤ → Type 0} {a : ℤ} → ((z : ℤ) → P z → Q z) → ((z : ℤ) → Q z → P z) → GreatestOf P a → GreatestOf Q a
greatest_same {a = a} f g h = record { attained = f a h.attained; greatest = λ z q. h.greatest z (g z q) }

-- ---- the cut: what holds in one of two pieces
min_either : (P : ℤ → Type 0) (x y : ℤ) → P x → P y → P (int_min x y)
min_either P x y p q = ⊎_elim (λ c. subst P (sym c.1) p) (λ c. subst P (sym c.1) q) (min_cases x y)

max_either : (P : ℤ → Type 0) (x y : ℤ) → P x → P y → P (int_max x y)
max_either P x y p q = ⊎_elim (λ c. subst P (sym c.1) p) (λ c. subst P (sym c.1) q) (max_cases x y)

min_left : (x y : ℤ) → int_min x y ≤ℤ x
min_left x y = ⊎_elim (λ c. le_of_eq c.1) (λ c. le_trans (le_of_eq c.1) c.0) (min_cases x y)

min_right : (x y : ℤ) → int_min x y ≤ℤ y
min_right x y = ⊎_elim (λ c. le_trans (le_of_eq c.1) c.0) (λ c. le_of_eq c.1) (min_cases x y)

max_left : (x y : ℤ) → x ≤ℤ int_max x y
max_left x y = ⊎_elim (λ c. le_of_eq (sym c.1)) (λ c. le_trans c.0 (le_of_eq (sym c.1))) (max_cases x y)

max_right : (x y : ℤ) → y ≤ℤ int_max x y
max_right x y = ⊎_elim (λ c. le_trans c.0 (le_of_eq (sym c.1))) (λ c. le_of_eq (sym c.1)) (max_cases x y)

-- the least over two pieces is the lesser of their leasts
pub least_cut : {P Q R : ℤ → Type 0} {a b : ℤ} → ((z : ℤ) → P z → R z) → ((z : ℤ) → Q z → R z) → ((z : ℤ) → R z → P z ⊎ Q z) → LeastOf P a → LeastOf Q b → LeastOf R (int_min a b)
least_cut {P} {Q} {R} {a} {b} f g split h k = record {
  attained = min_either R a b (f a h.attained) (g b k.attained);
  least = λ z r. ⊎_elim (λ p. le_trans (min_left a b) (h.least z p)) (λ q. le_trans (min_right a b) (k.least z q)) (split z r);
}

pub greatest_cut : {P Q R : ℤ → Type 0} {a b : ℤ} → ((z : ℤ) → P z → R z) → ((z : ℤ) → Q z → R z) → ((z : ℤ) → R z → P z ⊎ Q z) → GreatestOf P a → GreatestOf Q b → GreatestOf R (int_max a b)
greatest_cut {P} {Q} {R} {a} {b} f g split h k = record {
  attained = max_either R a b (f a h.attained) (g b k.attained);
  greatest = λ z r. ⊎_elim (λ p. le_trans (h.greatest z p) (max_left a b)) (λ q. le_trans (k.greatest z q) (max_right a b)) (split z r);
}

-- ---- functions that go one way between two ends
pub record Rises (f : ℤ → ℤ) (low high : ℤ) : Type 0 where
  pub keeps : (a b : ℤ) → low ≤ℤ a → a ≤ℤ b → b ≤ℤ high → f a ≤ℤ f b

pub record Falls (f : ℤ → ℤ) (low high : ℤ) : Type 0 where
  pub turns : (a b : ℤ) → low ≤ℤ a → a ≤ℤ b → b ≤ℤ high → f b ≤ℤ f a

abbrev pub GoesOneWay : (ℤ → ℤ) → ℤ → ℤ → Type 0
GoesOneWay f low high = Rises f low high ⊎ Falls f low high

-- its values lie between those at the two ends
pub above_ends : (f : ℤ → ℤ) (low high x : ℤ) → GoesOneWay f low high → Within low high x → int_min (f low) (f high) ≤ℤ f x
above_ends f low high x way w = ⊎_elim
    (λ r. le_trans (min_left _ _) (r.keeps low x (le_refl low) w.above w.below))
    (λ r. le_trans (min_right _ _) (r.turns x high w.above w.below (le_refl high))) way

pub below_ends : (f : ℤ → ℤ) (low high x : ℤ) → GoesOneWay f low high → Within low high x → f x ≤ℤ int_max (f low) (f high)
below_ends f low high x way w = ⊎_elim
    (λ r. le_trans (r.keeps x high w.above w.below (le_refl high)) (max_right _ _))
    (λ r. le_trans (r.turns low x (le_refl low) w.above w.below) (max_left _ _)) way

-- so the least and the greatest of them stand at the ends
pub least_end : (f : ℤ → ℤ) (low high : ℤ) → low ≤ℤ high → GoesOneWay f low high → LeastOf (ResultOf1 f low high) (int_min (f low) (f high))
least_end f low high h way = record {
  attained = min_either (ResultOf1 f low high) _ _
      (record { x = low; x_in = low_within h; gives = refl }) (record { x = high; x_in = high_within h; gives = refl });
  least = λ z r. le_trans (above_ends f low high r.x way r.x_in) (le_of_eq r.gives);
}

pub greatest_end : (f : ℤ → ℤ) (low high : ℤ) → low ≤ℤ high → GoesOneWay f low high → GreatestOf (ResultOf1 f low high) (int_max (f low) (f high))
greatest_end f low high h way = record {
  attained = max_either (ResultOf1 f low high) _ _
      (record { x = low; x_in = low_within h; gives = refl }) (record { x = high; x_in = high_within h; gives = refl });
  greatest = λ z r. le_trans (le_of_eq (sym r.gives)) (below_ends f low high r.x way r.x_in);
}

-- a product goes one way in each factor
pub times_goes : (x low high : ℤ) → GoesOneWay (◌*ℤ◌ x) low high
times_goes x low high = ⊎_elim
    (λ h. inl (record { keeps = λ a b _ k _. mul_keeps_right h k }))
    (λ h. inr (record { turns = λ a b _ k _. mul_turns_right (lt_le h) k }))
    (le_or_lt (pos 0) x)

pub times_goes_left : (y low high : ℤ) → GoesOneWay (λ x. x *ℤ y) low high
times_goes_left y low high = ⊎_elim
    (λ h. inl (record { keeps = λ a b _ k _. mul_keeps h k }))
    (λ h. inr (record { turns = λ a b _ k _. mul_turns (lt_le h) k }))
    (le_or_lt (pos 0) y)

-- ---- the corners: a function of two numbers that goes one way in the first at each second,
-- and one way in the second at the two ends of the first
module _ (f : ℤ → ℤ → ℤ) (low1 high1 low2 high2 : ℤ) (h1 : low1 ≤ℤ high1) (h2 : low2 ≤ℤ high2) where
  corner : (x y : ℤ) → Within low1 high1 x → Within low2 high2 y → ResultOf2 f low1 high1 low2 high2 (f x y)
  corner x y v w = record { x = x; y = y; x_in = v; y_in = w; gives = refl }

  pub least_corner : ((y : ℤ) → Within low2 high2 y → GoesOneWay (λ x. f x y) low1 high1) → GoesOneWay (f low1) low2 high2 → GoesOneWay (f high1) low2 high2 →
      LeastOf (ResultOf2 f low1 high1 low2 high2) (int_min (int_min (f low1 low2) (f low1 high2)) (int_min (f high1 low2) (f high1 high2)))
  least_corner way at_low at_high = record {
    attained = min_either (ResultOf2 f low1 high1 low2 high2) _ _
        (min_either (ResultOf2 f low1 high1 low2 high2) _ _ (corner low1 low2 (low_within h1) (low_within h2)) (corner low1 high2 (low_within h1) (high_within h2)))
        (min_either (ResultOf2 f low1 high1 low2 high2) _ _ (corner high1 low2 (high_within h1) (low_within h2)) (corner high1 high2 (high_within h1) (high_within h2)));
    least = λ z r.
        let from_first = above_ends (λ x. f x r.y) low1 high1 r.x (way r.y r.y_in) r.x_in in
        let low_side = above_ends (f low1) low2 high2 r.y at_low r.y_in in
        let high_side = above_ends (f high1) low2 high2 r.y at_high r.y_in in
        le_trans (⊎_elim (λ c. le_trans (min_left _ _) (le_trans low_side (le_of_eq (sym c.1)))) (λ c. le_trans (min_right _ _) (le_trans high_side (le_of_eq (sym c.1)))) (min_cases (f low1 r.y) (f high1 r.y)))
        (le_trans from_first (le_of_eq r.gives));
  }

  pub greatest_corner : ((y : ℤ) → Within low2 high2 y → GoesOneWay (λ x. f x y) low1 high1) → GoesOneWay (f low1) low2 high2 → GoesOneWay (f high1) low2 high2 →
      GreatestOf (ResultOf2 f low1 high1 low2 high2) (int_max (int_max (f low1 low2) (f low1 high2)) (int_max (f high1 low2) (f high1 high2)))
  greatest_corner way at_low at_high = record {
    attained = max_either (ResultOf2 f low1 high1 low2 high2) _ _
        (max_either (ResultOf2 f low1 high1 low2 high2) _ _ (corner low1 low2 (low_within h1) (low_within h2)) (corner low1 high2 (low_within h1) (high_within h2)))
        (max_either (ResultOf2 f low1 high1 low2 high2) _ _ (corner high1 low2 (high_within h1) (low_within h2)) (corner high1 high2 (high_within h1) (high_within h2)));
    greatest = λ z r.
        let from_first = below_ends (λ x. f x r.y) low1 high1 r.x (way r.y r.y_in) r.x_in in
        let low_side = below_ends (f low1) low2 high2 r.y at_low r.y_in in
        let high_side = below_ends (f high1) low2 high2 r.y at_high r.y_in in
        le_trans (le_trans (le_of_eq (sym r.gives)) from_first)
        (⊎_elim (λ c. le_trans (le_of_eq c.1) (le_trans low_side (max_left _ _))) (λ c. le_trans (le_of_eq c.1) (le_trans high_side (max_right _ _))) (max_cases (f low1 r.y) (f high1 r.y)));
  }

-- ---- sums, differences and products over a box
module _ (low1 high1 low2 high2 : ℤ) (h1 : low1 ≤ℤ high1) (h2 : low2 ≤ℤ high2) where
  pub least_sum : LeastOf (ResultOf2 ◌+ℤ◌ low1 high1 low2 high2) (low1 +ℤ low2)
  least_sum = record {
    attained = record { x = low1; y = low2; x_in = low_within h1; y_in = low_within h2; gives = refl };
    least = λ z r. le_trans (add_mono r.x_in.above r.y_in.above) (le_of_eq r.gives);
  }

  pub greatest_sum : GreatestOf (ResultOf2 ◌+ℤ◌ low1 high1 low2 high2) (high1 +ℤ high2)
  greatest_sum = record {
    attained = record { x = high1; y = high2; x_in = high_within h1; y_in = high_within h2; gives = refl };
    greatest = λ z r. le_trans (le_of_eq (sym r.gives)) (add_mono r.x_in.below r.y_in.below);
  }

  pub least_difference : LeastOf (ResultOf2 ◌-ℤ◌ low1 high1 low2 high2) (low1 -ℤ high2)
  least_difference = record {
    attained = record { x = low1; y = high2; x_in = low_within h1; y_in = high_within h2; gives = refl };
    least = λ z r. le_trans (sub_mono r.x_in.above r.y_in.below) (le_of_eq r.gives);
  }

  pub greatest_difference : GreatestOf (ResultOf2 ◌-ℤ◌ low1 high1 low2 high2) (high1 -ℤ low2)
  greatest_difference = record {
    attained = record { x = high1; y = low2; x_in = high_within h1; y_in = low_within h2; gives = refl };
    greatest = λ z r. le_trans (le_of_eq (sym r.gives)) (sub_mono r.x_in.below r.y_in.above);
  }

  pub least_product : LeastOf (ResultOf2 ◌*ℤ◌ low1 high1 low2 high2) (int_min (int_min (low1 *ℤ low2) (low1 *ℤ high2)) (int_min (high1 *ℤ low2) (high1 *ℤ high2)))
  least_product = least_corner ◌*ℤ◌ low1 high1 low2 high2 h1 h2 (λ y w. times_goes_left y low1 high1) (times_goes low1 low2 high2) (times_goes high1 low2 high2)

  pub greatest_product : GreatestOf (ResultOf2 ◌*ℤ◌ low1 high1 low2 high2) (int_max (int_max (low1 *ℤ low2) (low1 *ℤ high2)) (int_max (high1 *ℤ low2) (high1 *ℤ high2)))
  greatest_product = greatest_corner ◌*ℤ◌ low1 high1 low2 high2 h1 h2 (λ y w. times_goes_left y low1 high1) (times_goes low1 low2 high2) (times_goes high1 low2 high2)
