use Rattle.std.proofs.Common.{rules, ◌≡◌}
use Rattle.wm_ops.specs.Arguments.{arg_at}
use Rattle.wm_ops.specs.Outcomes.{outcome_of}
use Rattle.wm_ops.proofs.ValueLemmas.{found_fits, found_refused}
use Rattle.wm_ops.proofs.outcomes.apply.Goals as goal

pub returns : goal.returns
returns c =
    let is : c.result_of.result ≡ outcome_of c.args.op (arg_at c.args.args.now 0) (arg_at c.args.args.now 1) (arg_at c.args.args.now 2) = search rules in
    record { outcome = is; width = found_fits _ _ _ _ _ c.requires is; refused = found_refused _ _ _ _ _ is }
