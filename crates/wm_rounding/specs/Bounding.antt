-- The numbers of a grid around a range, and the summary around another.
use Rattle.std.specs.Prelude.{ℤ, ◌≤ℤ◌, List, Option, Some, None, MatchOption}
use Rattle.std.specs.List.{Contains}
use Rattle.wm_numbers.specs.Extremes.{LeastOf, GreatestOf}
use Rattle.wm_interval.specs.declared.Interval.{Interval}
use Rattle.wm_arrays.specs.declared.summary.Summary.{Summary}
use Rattle.wm_arrays.specs.declared.summary.Summary.TheVariants.{Empty, Range}
use Rattle.wm_arrays.specs.Meaning.{IsIncluded}
use Rattle.wm_grid.specs.Grid.{IsAtOrAbove, IsAtOrBelow}
use Rattle.wm_rounding.specs.declared.ends.Bounds.{Bounds}

-- the nearest numbers of the grid on both sides of the range; none where there is none on a side
pub record AreAround (numbers : List ℤ) (range : Interval) (it : Bounds) : Type 0 where
  pub low : MatchOption it.low ((y : ℤ) → IsAtOrBelow numbers range.low y → ⊥) (λ y. GreatestOf (IsAtOrBelow numbers range.low) y)
  pub high : MatchOption it.high ((y : ℤ) → IsAtOrAbove numbers range.high y → ⊥) (λ y. LeastOf (IsAtOrAbove numbers range.high) y)

-- the number is none below the bound, where there is one
abbrev pub IsAbove : Option ℤ → ℤ → Type 0
IsAbove None z = Unit {0}
IsAbove (Some low) z = low ≤ℤ z

abbrev pub IsBelow : Option ℤ → ℤ → Type 0
IsBelow None z = Unit {0}
IsBelow (Some high) z = z ≤ℤ high

-- ---- summaries

-- a summary on the grid: it is empty, or its ends are numbers of the grid
abbrev pub IsOn : List ℤ → Summary → Type 0
IsOn numbers Empty = Unit {0}
IsOn numbers (Range r) = Contains numbers r.low × Contains numbers r.high

-- the least summary on the grid that allows what another does
pub record IsAround (numbers : List ℤ) (held s : Summary) : Type 0 where
  pub on : IsOn numbers s
  pub holds : IsIncluded held s
  pub least : (t : Summary) → IsOn numbers t → IsIncluded held t → IsIncluded s t
