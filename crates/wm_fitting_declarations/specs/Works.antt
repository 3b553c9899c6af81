-- What fits a program while statements are read: what stands, how it grows, and what a step gives.
use Rattle.std.specs.Prelude.{◌≡◌, ℕ, ◌<◌, ◌≤◌, Bool, true, false, List, ◌++◌, length, drop, Some, None, slice_get}
use Rattle.std.specs.List.{All}
use Rattle.wm_program.specs.declared.program.LocalInfo.{LocalInfo}
use Rattle.wm_program.specs.declared.program.LoopInfo.{LoopInfo}
use Rattle.wm_program.specs.declared.program.ObjectInfo.{ObjectInfo}
use Rattle.wm_program.specs.declared.program.SiteInfo.{SiteInfo}
use Rattle.wm_program.specs.Code.{Code, Routine}
use Rattle.wm_program.specs.WellFormed.{Has, ObjectFits}
use Rattle.wm_scope.specs.declared.meaning.Named.{Named}
use Rattle.wm_scope.specs.declared.scope.Scope.{Scope}
use Rattle.wm_marks.specs.Marking.{has}
use Rattle.wm_body.specs.declared.work.Work.{Work}
use Rattle.wm_fitting.specs.Fitting.{Setting, ScopeFits, Stands}

-- a program, a function of it, the number of this function, the least number of the locals that are made, whether views are
-- among them, and the number of the objects that the source declares
pub record Home : Type 0 where
  pub code : Code
  pub routine : Routine
  pub function : ℕ
  pub least : ℕ
  pub has_views : Bool
  pub own : ℕ

abbrev pub seen : Home → Scope → Setting
seen H scope = record { code = H.code; routine = H.routine; scope = scope; own = H.own }

-- ---- what stands in the program

-- as it is in the program, where it is also told whether its address is taken
pub record LikeLocal (info it : LocalInfo) : Type 0 where
  pub width : it.width ≡ info.width
  pub array : it.array ≡ info.array
  pub view : it.view ≡ info.view

-- and whether it is an input
pub record LikeObject (info it : ObjectInfo) : Type 0 where
  pub width : it.width ≡ info.width
  pub scalar : it.scalar ≡ info.scalar
  pub constant : it.constant ≡ info.constant

-- what was collected and made stands in the program at its numbers
pub record WorkStands (H : Home) (w : Work) : Type 0 where
  pub marks : Stands (seen H w.scope) w.marks
  pub locals : (k : ℕ) (info : LocalInfo) → slice_get w.locals k ≡ Some info → Has H.routine.locals k (LikeLocal info)
  pub objects : (k : ℕ) (info : ObjectInfo) → slice_get w.objects k ≡ Some info → Has H.code.objects k (LikeObject info)
  pub own : length w.objects ≤ H.own

-- ---- how it grows

-- names are only added
pub record Widens (s t : Scope) : Type 0 where
  pub more : List Named
  pub same : t ≡ record s { locals = s.locals ++ more }

-- what was collected and made only grows, and a fault stays
pub record Proceeds (v w : Work) : Type 0 where
  pub sites : (k : ℕ) (it : SiteInfo) → slice_get v.marks.sites k ≡ Some it → slice_get w.marks.sites k ≡ Some it
  pub loops : (k : ℕ) (it : LoopInfo) → slice_get v.marks.loops k ≡ Some it → slice_get w.marks.loops k ≡ Some it
  pub object_addresses : (k : ℕ) → has k v.marks.objects ≡ true → has k w.marks.objects ≡ true
  pub local_addresses : (k : ℕ) → has k v.marks.locals ≡ true → has k w.marks.locals ≡ true
  pub calls : length v.marks.calls ≤ length w.marks.calls
  pub least : w.marks.least ≡ None → v.marks.least ≡ None
  pub locals : (k : ℕ) (it : LocalInfo) → slice_get v.locals k ≡ Some it → slice_get w.locals k ≡ Some it
  pub objects : (k : ℕ) (it : ObjectInfo) → slice_get v.objects k ≡ Some it → slice_get w.objects k ≡ Some it
  pub object_count : length v.objects ≤ length w.objects
  pub scope : Widens v.scope w.scope

-- ---- what stands where a step begins

-- a loop of a function that is there, with a step
pub record LoopFits (code : Code) (it : LoopInfo) : Type 0 where
  pub function : it.function < length code.routines
  pub least : 0 < it.step
  pub greatest : it.step < 32768

pub record Inside (H : Home) (w : Work) : Type 0 where
  pub names : ScopeFits (seen H w.scope)
  pub behind : H.least ≤ length w.locals
  pub no_views : H.has_views ≡ false → All (λ it. it.view ≡ false) (drop H.least w.locals)
  pub there : H.function < length H.code.routines
  pub function : w.function ≡ H.function
  pub result : w.result ≡ H.routine.result
  pub objects : All ObjectFits w.objects
  pub loops : All (LoopFits H.code) w.marks.loops

-- What a step gives that begins with `v`: what stands grows; and under the condition, where no fault is noted up to its end
-- and what was made up to its end stands in the program, its value has the property, and what holds of all that stands
-- holds behind it too.
pub record Reads {A : Type 0} (H : Home) (P : Type 0) (Q : A → Type 0) (v : Work) (given : A × Work) : Type 0 where
  pub grows : Proceeds v given.1
  pub fits : P → given.1.marks.least ≡ None → WorkStands H given.1 → Inside H v → Q given.0 × Inside H given.1
