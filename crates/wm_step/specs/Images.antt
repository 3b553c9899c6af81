-- The points that some kinds of edges allow, from those of the state before: of turns and ties of loops, of inputs, and of calls
-- and returns. The state behind the edge is the least of its shape that holds them.
use Rattle.std.specs.Prelude.{ℕ, ◌≡◌, ◌<◌, ℤ, pos, neg_ℤ, ◌+ℤ◌, ◌*ℤ◌, ◌≤ℤ◌, ◌<ℤ◌, List, [], length, map, All, slice_index_or, Option, Some, None}
use Rattle.std.specs.Int.{int_min, int_div_euclid}
use Rattle.wm_numbers.specs.Extremes.{LeastOf, GreatestOf}
use Rattle.wm_interval.specs.Holds.{Holds}
use Rattle.wm_arrays.specs.declared.summary.Summary.TheVariants.{Range}
use Rattle.wm_domain.specs.declared.shape.Shape.{Shape}
use Rattle.wm_domain.specs.Points.{Point, AllowsCell}
use Rattle.wm_domain.specs.Changes.{IsPicked, IsPickedCell, IsValueOf}
use Rattle.wm_flow.specs.declared.action.Argument.{Argument}
use Rattle.wm_flow.specs.declared.action.Given.{Given}
use Rattle.wm_flow.specs.declared.action.Growth.{Growth}
use Rattle.wm_flow.specs.declared.action.Returned.{Returned}
use Rattle.wm_carry.specs.Following.{origin, Carried}
use Rattle.wm_assign.specs.Giving.{IsGiven}

abbrev pub most : ℤ
most = pos 2147483647

module _ (source target : Shape) (Has : Point → Type 0) where
  -- ---- loops

  -- each counter grows by its step, and sticks at the greatest number of 32 bits
  pub record TurnImage (growths : List Growth) (p : Point) : Type 0 where
    pub was : Point
    pub carried : Carried source target Has (map (λ (g : Growth). g.variable) growths) [] was p
    pub grown : All (λ (g : Growth). (w : ℕ) → origin source target g.variable ≡ Some w → p.values g.variable ≡ int_min most (was.values w +ℤ pos g.step)) growths

  -- a sum counter has grown by its step at each turn that the loop's counter tells; one that may have stuck tells no most
  pub record TieImage (counter loop_step v step : ℕ) (p : Point) : Type 0 where
    pub was : Point
    pub carried : Carried source target Has [] [] was p
    pub above : (l : ℤ) → LeastOf (IsValueOf Has counter) l → int_min most (pos step *ℤ neg_ℤ (int_div_euclid (neg_ℤ l) (pos loop_step))) ≤ℤ was.values v
    pub below : (h : ℤ) → GreatestOf (IsValueOf Has counter) h → h <ℤ most → was.values v ≤ℤ int_min most (pos step *ℤ int_div_euclid h (pos loop_step))

  -- ---- inputs

  pub record InputsImage (scalars arrays : List Given) (p : Point) : Type 0 where
    pub was : Point
    pub carried : Carried source target Has (map (λ (it : Given). it.target) scalars) (map (λ (it : Given). it.target) arrays) was p
    pub numbers : All (λ (it : Given). Holds it.range (p.values it.target)) scalars
    pub cells : All (λ (it : Given). AllowsCell (Range it.range) (p.cells it.target)) arrays

-- ---- calls

-- the picked variables and arrays of the caller, and the parameters with the values of their arguments
pub record EnterImage (Has : Point → Type 0) (picks arrays : List (Option ℕ)) (arguments : List Argument) (p : Point) : Type 0 where
  pub was : Point
  pub point : Has was
  pub numbers : (v : ℕ) → v < length picks → IsPicked (slice_index_or picks v None) was (p.values v)
  pub cells : (a : ℕ) → a < length arrays → IsPickedCell (slice_index_or arrays a None) was (p.cells a)
  pub given : All (λ (it : Argument). IsGiven Has it.form was (p.values it.parameter)) arguments

-- z lies between the numbers of the variable at two points
pub record IsBetween (Has : Point → Type 0) (v : ℕ) (z : ℤ) : Type 0 where
  pub x : Point
  pub y : Point
  pub x_is : Has x
  pub y_is : Has y
  pub above : x.values v ≤ℤ z
  pub below : z ≤ℤ y.values v

-- the result lies in its range at the exit
abbrev pub IsReturned : (Point → Type 0) → Option Returned → Point → Type 0
IsReturned AtExit None p = Unit {0}
IsReturned AtExit (Some it) p = IsBetween AtExit it.at_exit (p.values it.target)

-- a point at the call's node and a point at the exit, with nothing between them
pub record LeaveImage (AtCall AtExit : Point → Type 0) (from_call from_exit arrays : List (Option ℕ)) (result : Option Returned) (p : Point) : Type 0 where
  pub call : Point
  pub exit : Point
  pub call_is : AtCall call
  pub exit_is : AtExit exit
  pub own : (v : ℕ) → v < length from_call → IsPicked (slice_index_or from_call v None) call (p.values v)
  pub static : (v : ℕ) → v < length from_exit → IsPicked (slice_index_or from_exit v None) exit (p.values v)
  pub cells : (a : ℕ) → a < length arrays → IsPickedCell (slice_index_or arrays a None) exit (p.cells a)
  pub returned : IsReturned AtExit result p
