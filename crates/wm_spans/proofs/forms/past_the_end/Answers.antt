use Rattle.std.proofs.Common.{pos, neg_ℤ, arith}
use Rattle.std.proofs.lemmas.Int.{ints}
use Rattle.wm_spans.proofs.Forming.{above_limit, below_limit}
use Rattle.wm_spans.proofs.forms.past_the_end.Goals as goal

pub returns-then-values-eq0-clause-exact : goal.returns-then-values-eq0-clause-exact
returns-then-values-eq0-clause-exact c = above_limit c.args.values c.new.result c.args.constant (pos 4503599627370496) (omega (arith, ints)) (omega (arith, ints, c.requires.values.high_size)) (omega (arith, ints)) (omega (arith, ints))

pub returns-then-values-eq0-2-clause-exact : goal.returns-then-values-eq0-2-clause-exact
returns-then-values-eq0-2-clause-exact c = below_limit c.args.values c.new-then-values-eq0-2.result c.args.constant (neg_ℤ (pos 4503599627370496)) (omega (arith, ints)) (omega (arith, ints, c.requires.values.low_size)) (omega (arith, ints)) (omega (arith, ints))
