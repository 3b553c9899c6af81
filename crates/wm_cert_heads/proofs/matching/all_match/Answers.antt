use Rattle.wm_cert_heads.specs.Matching.{all_match}
use Rattle.wm_cert_heads.proofs.Stopping.{stopped}
use Rattle.wm_cert_heads.proofs.matching.all_match.Goals as goal

pub returns-then-not-is_matched : goal.returns-then-not-is_matched
returns-then-not-is_matched c =
    stopped c.args.graph.now c.args.told.now c.args.heads.now c.loop-number.number _ c.is_matched.result (all_match c.args.graph.now c.args.told.now 0 c.args.heads.now)
    c.loop-number-test.true c.is_matched.ensures c.if-not-is_matched.true c.loop-number.invariant
