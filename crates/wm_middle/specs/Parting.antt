-- The variables of the shape between a call's node and the first node of the callee, and their points.
use Rattle.std.specs.Prelude.{ℕ, ◌≡◌, ◌<◌, ◌≤◌, ℤ, negsuc, pos, List, length, Option, Some, None, slice_index_or}
use Rattle.wm_interval.specs.declared.Interval.{Interval}
use Rattle.wm_domain.specs.Points.{Point, range_at}
use Rattle.wm_domain.specs.Forms.{IsForm}
use Rattle.wm_domain.specs.States.{variables_of, count_of, IsShape}
use Rattle.wm_domain.specs.declared.shape.Shape.{Shape}
use Rattle.wm_flow.specs.declared.action.Argument.{Argument}
use Rattle.wm_middle.specs.declared.parts.Part.{Part}
use Rattle.wm_middle.specs.declared.parts.Part.TheVariants.{Caller, Parameter}

abbrev pub part_at : List Part → ℕ → Part
part_at parts k = slice_index_or parts k (Caller 0)

-- the caller's variable that a part is
abbrev pub caller_of : Part → Option ℕ
caller_of (Caller v) = Some v
caller_of (Parameter v) = None

-- the number of a part, from a point of the caller and one of the callee
abbrev pub part_value : Point → Point → Part → ℤ
part_value was p (Caller v) = was.values v
part_value was p (Parameter v) = p.values v

-- one of so many variables of the caller, or of so many of the callee
abbrev pub IsPartOf : ℕ → ℕ → Part → Type 0
IsPartOf n m (Caller v) = v < n
IsPartOf n m (Parameter v) = v < m

-- such parts, each once, and at most so many
pub record AreParts (n m most : ℕ) (parts : List Part) : Type 0 where
  pub few : length parts ≤ most
  pub each : (k : ℕ) → k < length parts → IsPartOf n m (part_at parts k)
  pub distinct : (k l : ℕ) → k < length parts → l < length parts → part_at parts k ≡ part_at parts l → k ≡ l

-- the answer is the place of the part; none where it is none of them
abbrev pub IsFound : List Part → Part → Option ℕ → Type 0
IsFound parts part None = (k : ℕ) → k < length parts → part_at parts k ≡ part → ⊥
IsFound parts part (Some k) = (k < length parts) × (part_at parts k ≡ part)

-- the answer is the place of the part among so many first ones; none where it is none of these
abbrev pub IsFoundAmong : ℕ → List Part → Part → Option ℕ → Type 0
IsFoundAmong count parts part None = (k : ℕ) → k < count → part_at parts k ≡ part → ⊥
IsFoundAmong count parts part (Some k) = (k < length parts) × (part_at parts k ≡ part)

-- none of the parts behind the first so many is this one
abbrev pub IsApart : ℕ → List Part → Part → Type 0
IsApart count parts part = (k : ℕ) → count ≤ k → k < length parts → part_at parts k ≡ part → ⊥

-- ---- arguments

-- a form over so many variables, for one of so many parameters
abbrev pub IsArgument : ℕ → ℕ → Argument → Type 0
IsArgument n m it = IsForm n it.form × (it.parameter < m)

-- ---- the shape

abbrev pub AreWords : Interval → Type 0
AreWords r = (r.low ≡ negsuc 2147483647) × (r.high ≡ pos 2147483647)

-- so many variables of 32 bits, and the arrays of another shape
pub record IsMiddle (target : Shape) (count : ℕ) (s : Shape) : Type 0 where
  pub shape : IsShape s
  pub long : count_of s ≡ count
  pub words : (k : ℕ) → k < count → AreWords (range_at (variables_of s) k)
  pub arrays : s.arrays ≡ target.arrays

-- ---- the way back

-- the part is the parameter v, or the caller's variable that is picked for it
abbrev pub IsBackPart : ℕ → Option ℕ → Part → Type 0
IsBackPart v pick (Parameter u) = u ≡ v
IsBackPart v pick (Caller w) = pick ≡ Some w

abbrev pub IsBack : List Part → ℕ → Option ℕ → Option ℕ → Type 0
IsBack parts v pick None = Unit {0}
IsBack parts v pick (Some k) = (k < length parts) × IsBackPart v pick (part_at parts k)
