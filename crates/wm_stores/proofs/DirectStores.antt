-- Which operators give their value to a variable.
use Rattle.std.proofs.Common.{◌≡◌, ℕ, Bool, true, false, if◌then◌else◌, Option, Some, None, refl}
use Rattle.std.specs.Prelude.{◌==◌}
use Rattle.wm_ops.specs.declared.operators.Op.{Op}
use Rattle.wm_program.specs.Tree.{Expression, Arguments, Constant, Named, Element, Operator, Invoke, Plain, Negate, Plus, Cast}
use Rattle.wm_flow.specs.declared.scene.Source.{Source}
use Rattle.wm_flow.specs.declared.scene.Source.TheVariants.{Variable, Cells, Fixed}
use Rattle.wm_flow.specs.Effects as effects
use Rattle.wm_applied.specs.Applications.{operator_in}
use Rattle.wm_stores.specs.Directs.{target_of, direct_among, direct_by}

variable_as : (is : Bool) (op : Op) (args : Arguments) (site v : ℕ) → direct_among (if is then None else Some v) (Some (record { op = op; arguments = args; site = site })) ≡ effects.direct_of is op args site v
variable_as true op args site v = refl
variable_as false op args site v = refl

nowhere : (target : Option ℕ) → direct_among target None ≡ None
nowhere None = refl
nowhere (Some v) = refl

to_as : (overflow : ℕ) (source : Source) (op : Op) (args : Arguments) (site : ℕ) → direct_among (target_of overflow source) (Some (record { op = op; arguments = args; site = site })) ≡ effects.direct_to overflow source op args site
to_as overflow (Variable v) op args site = variable_as (v == overflow) op args site v
to_as overflow (Cells a) op args site = refl
to_as overflow (Fixed low high) op args site = refl

pub direct_as : (overflow : ℕ) (source : Source) (x : Expression) (narrowing : Option ℕ) → direct_by narrowing (target_of overflow source) (operator_in x) ≡ effects.direct overflow source x narrowing
direct_as overflow source (Operator op args site) None = to_as overflow source op args site
direct_as overflow source (Operator op args site) (Some narrowing) = refl
direct_as overflow source (Constant z) None = nowhere (target_of overflow source)
direct_as overflow source (Constant z) (Some narrowing) = refl
direct_as overflow source (Named scalar) None = nowhere (target_of overflow source)
direct_as overflow source (Named scalar) (Some narrowing) = refl
direct_as overflow source (Element array index site) None = nowhere (target_of overflow source)
direct_as overflow source (Element array index site) (Some narrowing) = refl
direct_as overflow source (Invoke function offset args) None = nowhere (target_of overflow source)
direct_as overflow source (Invoke function offset args) (Some narrowing) = refl
direct_as overflow source (Plain mark x y site) None = nowhere (target_of overflow source)
direct_as overflow source (Plain mark x y site) (Some narrowing) = refl
direct_as overflow source (Negate x site) None = nowhere (target_of overflow source)
direct_as overflow source (Negate x site) (Some narrowing) = refl
direct_as overflow source (Plus x) None = nowhere (target_of overflow source)
direct_as overflow source (Plus x) (Some narrowing) = refl
direct_as overflow source (Cast width x) None = nowhere (target_of overflow source)
direct_as overflow source (Cast width x) (Some narrowing) = refl
