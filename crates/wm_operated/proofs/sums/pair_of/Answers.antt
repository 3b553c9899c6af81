use Rattle.std.proofs.Common.{◌<◌, length, sym, rules}
use Rattle.wm_operated.proofs.Adding.{argument_variable, unsigned, signed_pair}
use Rattle.wm_operated.proofs.sums.pair_of.Goals as goal

pub returns-in-None : goal.returns-in-None
returns-in-None c = unsigned c.args.op c.args.args.now (sym c.in-None.ensures)

pub returns-in-Some : goal.returns-in-Some
returns-in-Some c =
    let args = c.args.args.now in
    let first : 0 < length args = search rules in
    let second : 1 < length args = search rules in
    signed_pair c.args.op args c.in-Some.away c.variable_of-first.result c.variable_of-second.result c.different.result (sym c.in-Some.ensures)
    (argument_variable args 0 c.index-args-0.result c.variable_of-first.result first c.variable_of-first.ensures)
    (argument_variable args 1 c.index-args-1.result c.variable_of-second.result second c.variable_of-second.ensures) c.different.ensures
