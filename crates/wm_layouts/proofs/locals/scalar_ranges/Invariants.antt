use Rattle.std.proofs.Common.{◌≡◌, ◌++◌, drop}
use Rattle.wm_program.specs.Code.{code_of}
use Rattle.wm_flow.specs.Layouts.{scalar_ranges}
use Rattle.wm_layouts.specs.Ranges.{ranges_of}
use Rattle.wm_layouts.proofs.locals.scalar_ranges.Given as goal

abbrev pub invariant-loop-local : goal.invariant-loop-local
invariant-loop-local l = ranges_of l.list ++ scalar_ranges (code_of l.program) l.left (drop l.local-index l.locals) ≡ scalar_ranges (code_of l.program) l.roots l.locals
