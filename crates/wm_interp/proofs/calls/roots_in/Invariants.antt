use Rattle.std.proofs.Common.{◌≡◌, ◌++◌, drop}
use Rattle.wm_program.specs.Execution.{roots_in}
use Rattle.wm_interp.specs.Parts.{passed_in}
use Rattle.wm_interp.specs.Seen.{here_of}
use Rattle.wm_interp.proofs.calls.roots_in.Given as goal

abbrev pub invariant-loop-argument : goal.invariant-loop-argument
invariant-loop-argument l =
    l.roots.items ++ roots_in (here_of l.at) (passed_in (drop l.argument-index l.arguments)) ≡ roots_in (here_of l.at) (passed_in l.arguments)
