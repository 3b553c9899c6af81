use Rattle.std.proofs.Common.{rules, ◌≡◌}
use Rattle.wm_ops.specs.Names.{op_named}
use Rattle.wm_ops.proofs.NameLemmas.{op_found}
use Rattle.wm_ops.proofs.names.by_name.Goals as goal

pub returns : goal.returns
returns c =
    let found : c.operator_in.result ≡ op_named c.args.name.now = search rules in
    record { operator = found; exact = op_found _ _ found }
