use Rattle.wm_ops.proofs.NormLemmas.{leading_enough, leading_is}
use Rattle.wm_ops.proofs.norms.doublings.Goals as goal

pub overflow_sub-result-2 : goal.overflow_sub-result-2
overflow_sub-result-2 c =
    leading_enough c.args.n c.args.places c.requires.positive c.requires.small c.requires.places

pub returns : goal.returns
returns c = record {
  doublings = leading_is c.args.n c.args.places c.requires.positive c.requires.small c.requires.places;
}
