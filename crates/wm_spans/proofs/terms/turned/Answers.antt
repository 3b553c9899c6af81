use Rattle.std.proofs.Common.{arith}
use Rattle.std.proofs.lemmas.Int.{ints}
use Rattle.wm_spans.proofs.Turns.{turned_held, turned_back}
use Rattle.wm_spans.proofs.terms.turned.Goals as goal

pub returns-then-negative-clause-holds : goal.returns-then-negative-clause-holds
returns-then-negative-clause-holds c = turned_held c.args.r c.new.result c.args.negative c.if-negative.true (omega (arith, ints)) (omega (arith, ints))

pub returns-then-negative-clause-back : goal.returns-then-negative-clause-back
returns-then-negative-clause-back c = turned_back c.args.r c.new.result c.args.negative c.if-negative.true (omega (arith, ints)) (omega (arith, ints))
