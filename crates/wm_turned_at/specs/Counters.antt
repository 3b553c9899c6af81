-- Counters of a loop.
use Rattle.std.specs.Prelude.{ℕ, ◌≡◌, ◌≢◌, ◌<◌, List, [], ◌∷◌, Some}
use Rattle.wm_domain.specs.declared.shape.Shape.{Shape}
use Rattle.wm_domain.specs.States.{count_of}
use Rattle.wm_flow.specs.declared.action.Growth.{Growth}
use Rattle.wm_carry.specs.Following.{origin}

-- none of these counters
abbrev pub IsOther : ℕ → List Growth → Type 0
IsOther v [] = Unit {0}
IsOther v (it ∷ rest) = (v ≢ it.variable) × IsOther v rest

-- a counter that stands in both nodes
pub record IsCounter (s t : Shape) (it : Growth) : Type 0 where
  pub inside : it.variable < count_of t
  pub from : ℕ
  pub comes : origin s t it.variable ≡ Some from

-- different counters, each of which stands in both nodes
abbrev pub AreCounters : Shape → Shape → List Growth → Type 0
AreCounters s t [] = Unit {0}
AreCounters s t (it ∷ rest) = IsCounter s t it × IsOther it.variable rest × AreCounters s t rest
