-- What an octagon is seen as, and its points.
use Rattle.std.specs.Prelude.{ℕ, ◌≡◌, ◌<◌, ◌≤◌, ℤ, pos, negsuc, ◌-ℤ◌, ◌≤ℤ◌, List, Option, Some, None, Bool, false, ⊤}
use Rattle.wm_numbers.specs.Within.{Within}
use Rattle.wm_octagon.specs.Points.{side_value, IsPoint, IsTight, LeastOctagon}

-- the number of variables and, where there is a point, the attained bounds
pub record OctagonView : Type 0 where
  pub variables : ℕ
  pub bounds : Option (List ℤ)

-- x is a point of n variables under these bounds
abbrev pub PointOf : ℕ → Option (List ℤ) → (ℕ → ℤ) → Type 0
PointOf n None x = ⊥
PointOf n (Some xs) x = IsPoint n xs x

-- x is a point of the octagon
abbrev pub Holds : OctagonView → (ℕ → ℤ) → Type 0
Holds o x = PointOf o.variables o.bounds x

-- these are the bounds of the least octagon of the points that P tells: there is none, or each meets all bounds and each
-- bound is attained by one
abbrev pub LeastOf : ℕ → Option (List ℤ) → ((ℕ → ℤ) → Type 0) → Type 0
LeastOf n None P = (x : ℕ → ℤ) → P x → ⊥
LeastOf n (Some xs) P = LeastOctagon n P xs

-- the octagon is the least that holds the points that P tells
abbrev pub IsLeast : OctagonView → ((ℕ → ℤ) → Type 0) → Type 0
IsLeast o P = LeastOf o.variables o.bounds P

-- the octagon is empty, or it has a point and each of its bounds is attained by one
abbrev pub TightBy : ℕ → Option (List ℤ) → Type 0
TightBy n None = ⊤
TightBy n (Some xs) = IsTight n xs

abbrev pub IsTightView : OctagonView → Type 0
IsTightView o = TightBy o.variables o.bounds

-- a point of the octagon at which side l less side k is at most c
pub record WithDifference (o : OctagonView) (k l : ℕ) (c : ℤ) (x : ℕ → ℤ) : Type 0 where
  pub point : Holds o x
  pub bounded : (side_value x l -ℤ side_value x k) ≤ℤ c

-- every point of the list gives each variable a number below 2^40 in size
pub record IsBoxed (n : ℕ) (xs : List ℤ) : Type 0 where
  pub boxed : (x : ℕ → ℤ) → IsPoint n xs x → (v : ℕ) → v < n → Within (negsuc 1099511627774) (pos 1099511627775) (x v)

-- what an octagon keeps: while it is not empty its bounds are tight, and its points are not far out
pub record IsKept (n : ℕ) (xs : List ℤ) (empty : Bool) : Type 0 where
  pub few : n ≤ 32
  pub tight : empty ≡ false → IsTight n xs
  pub boxed : empty ≡ false → IsBoxed n xs
