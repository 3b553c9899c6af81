-- Points at which a sum counter goes with the counter of its loop.
use Rattle.std.specs.Prelude.{ℕ, ℤ, pos, neg_ℤ, ◌*ℤ◌, ◌≤ℤ◌, ◌<ℤ◌}
use Rattle.std.specs.Int.{int_min, int_div_euclid}
use Rattle.wm_numbers.specs.Extremes.{LeastOf, GreatestOf}
use Rattle.wm_domain.specs.Points.{Point}
use Rattle.wm_domain.specs.Changes.{IsValueOf}
use Rattle.wm_step.specs.Images.{most}

module _ (Has : Point → Type 0) (v loop_step step : ℕ) where
  pub record IsAbove (low : ℤ) (p : Point) : Type 0 where
    pub point : Has p
    pub above : int_min most (pos step *ℤ neg_ℤ (int_div_euclid (neg_ℤ low) (pos loop_step))) ≤ℤ p.values v

  pub record IsBelow (high : ℤ) (p : Point) : Type 0 where
    pub point : Has p
    pub below : p.values v ≤ℤ int_min most (pos step *ℤ int_div_euclid high (pos loop_step))

  -- with the least and the greatest number of the loop's counter
  pub record Paced (low high : ℤ) (p : Point) : Type 0 where
    pub point : Has p
    pub above : int_min most (pos step *ℤ neg_ℤ (int_div_euclid (neg_ℤ low) (pos loop_step))) ≤ℤ p.values v
    pub below : high <ℤ most → p.values v ≤ℤ int_min most (pos step *ℤ int_div_euclid high (pos loop_step))

-- with the least and the greatest number that the loop's counter has at a point
pub record TiedAt (Has : Point → Type 0) (counter loop_step v step : ℕ) (p : Point) : Type 0 where
  pub point : Has p
  pub above : (l : ℤ) → LeastOf (IsValueOf Has counter) l → int_min most (pos step *ℤ neg_ℤ (int_div_euclid (neg_ℤ l) (pos loop_step))) ≤ℤ p.values v
  pub below : (h : ℤ) → GreatestOf (IsValueOf Has counter) h → h <ℤ most → p.values v ≤ℤ int_min most (pos step *ℤ int_div_euclid h (pos loop_step))
