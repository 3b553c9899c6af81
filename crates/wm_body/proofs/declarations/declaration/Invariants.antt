-- Those that are left are read behind what was found, as all are.
use Rattle.std.proofs.Common.{◌≡◌, drop, []}
use Rattle.wm_body.specs.Declarations.{all_declared}
use Rattle.wm_body.proofs.declarations.declaration.Given as goal

abbrev pub invariant-loop-declarator : goal.invariant-loop-declarator
invariant-loop-declarator l =
    all_declared l.is_static l.width l.is_const l.found (drop l.declarator-index l.declarator-items) l.work
    ≡ all_declared l.is_static l.width l.is_const [] l.declaration.declarators l.fn.work
