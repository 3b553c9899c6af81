use Rattle.std.proofs.Common.{refl}
use Rattle.wm_projected.proofs.Staying.{copy_left}
use Rattle.wm_projected.proofs.projecting.projected.Goals as goal

pub returns-then-is_identity-clause-left : goal.returns-then-is_identity-clause-left
returns-then-is_identity-clause-left c = copy_left c.args.tied.now c.args.group.now c.args.singles.now c.args.arrays.now c.args.picks.now c.args.array_picks.now c.requires.long c.requires.arrays_long (c.if-is_identity.ensures.identity refl) c.in_ok-same.same c.in_ok-same.ensures.same
