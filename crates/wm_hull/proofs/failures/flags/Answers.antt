use Rattle.std.proofs.Common.{sym, ◌∙◌}
use Rattle.wm_ops.specs.Outcomes.{fails_of, flags_of}
use Rattle.wm_hull.proofs.Telling.{tells_never, tells_same}
use Rattle.wm_hull.proofs.Failing.{flags_never, flags_same}
use Rattle.wm_hull.proofs.failures.flags.Goals as goal

pub returns-then-not-sets_flag : goal.returns-then-not-sets_flag
returns-then-not-sets_flag c =
    tells_never (flags_of c.args.op) c.args.x c.args.y c.args.z (flags_never c.args.op (sym c.sets_flag.ensures ∙ c.if-not-sets_flag.true))

pub returns : goal.returns
returns c =
    tells_same (fails_of c.args.op) (flags_of c.args.op) c.args.x c.args.y c.args.z
    (flags_same c.args.op (sym c.sets_flag.ensures ∙ c.if-not-sets_flag.false)) c.fails.result c.fails.ensures
