use Rattle.std.proofs.Common.{rules, ◌≡◌}
use Rattle.wm_ops.specs.Operators.{op_numbered}
use Rattle.wm_ops.proofs.NumberLemmas.{op_placed}
use Rattle.wm_ops.proofs.operators.op_at.Goals as goal

pub returns : goal.returns
returns c =
    let is : c.copied.result ≡ op_numbered c.args.number = search rules in
    record { operator = is; exact = op_placed _ _ is }
