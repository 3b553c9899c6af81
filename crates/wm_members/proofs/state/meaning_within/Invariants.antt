-- The meaning so far and the scopes that are left give the meaning.
use Rattle.std.proofs.Common.{◌≡◌, drop}
use Rattle.wm_members.specs.declared.state.Meaning.TheVariants.{Other}
use Rattle.wm_members.specs.States.{meaning_from}
use Rattle.wm_members.proofs.state.meaning_within.Given as goal

abbrev pub invariant-loop-scope : goal.invariant-loop-scope
invariant-loop-scope l = meaning_from l.meaning l.name (drop l.scope-index l.scopes) ≡ meaning_from Other l.name l.scopes
