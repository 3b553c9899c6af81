use Rattle.std.proofs.Common.{◌<◌, length, sym, rules}
use Rattle.wm_operated.proofs.Adding.{argument_variable}
use Rattle.wm_operated.proofs.values.beside.Goals as goal

pub returns-in-Some-variable_of-clause-fit : goal.returns-in-Some-variable_of-clause-fit
returns-in-Some-variable_of-clause-fit c = λ s t v seen.
    let some : 0 < length c.args.args.now = search rules in
    let k = seen c.in-Some-variable_of.from (sym (argument_variable c.args.args.now 0 c.index-args-0.result _ some c.in-Some-variable_of.ensures)) in
    c.near.ensures.fit s t v k.0 k.1
