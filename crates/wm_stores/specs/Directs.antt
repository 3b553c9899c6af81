-- Operators that give their value to a variable without a temporary.
use Rattle.std.specs.Prelude.{ℕ, if◌then◌else◌, ◌==◌, Option, Some, None}
use Rattle.wm_program.specs.UsedParts.{operands_of}
use Rattle.wm_flow.specs.declared.scene.Source.{Source}
use Rattle.wm_flow.specs.declared.scene.Source.TheVariants.{Variable, Cells, Fixed}
use Rattle.wm_flow.specs.Effects as effects
use Rattle.wm_applied.specs.Applications.{Application}
use Rattle.wm_stores.specs.declared.directs.Direct.{Direct}

-- the variable that a value may go to at once
abbrev pub target_of : (overflow : ℕ) → Source → Option ℕ
target_of overflow (Variable v) = if v == overflow then None else Some v
target_of overflow (Cells a) = None
target_of overflow (Fixed low high) = None

abbrev pub direct_to : Application → ℕ → effects.Direct
direct_to it v = record { op = it.op; arguments = it.arguments; site = it.site; target = v }

abbrev pub direct_among : Option ℕ → Option Application → Option effects.Direct
direct_among None it = None
direct_among (Some v) None = None
direct_among (Some v) (Some it) = Some (direct_to it v)

abbrev pub direct_by : (narrowing target : Option ℕ) → Option Application → Option effects.Direct
direct_by None target it = direct_among target it
direct_by (Some site) target it = None

-- what the code says
abbrev pub direct_of : Direct → effects.Direct
direct_of it = record { op = it.applied.op; arguments = operands_of it.applied.arguments.now; site = it.applied.site; target = it.target }

abbrev pub direct_in : Option Direct → Option effects.Direct
direct_in None = None
direct_in (Some it) = Some (direct_of it)
