use Rattle.wm_arrays.proofs.Arrays.{outside_empty, included_as, arrays_as}
use Rattle.wm_arrays.proofs.summary.Summary.within.Goals as goal

pub returns-in-Empty-other-clause-numbers : goal.returns-in-Empty-other-clause-numbers
returns-in-Empty-other-clause-numbers c = outside_empty c.args.self c.args.other c.in-Range.here c.in-Range.is c.in-Empty-other.is

pub returns-in-Empty-other-clause-arrays : goal.returns-in-Empty-other-clause-arrays
returns-in-Empty-other-clause-arrays c = arrays_as c.args.self c.args.other _ (returns-in-Empty-other-clause-numbers c)

pub returns-in-Range-other-clause-numbers : goal.returns-in-Range-other-clause-numbers
returns-in-Range-other-clause-numbers c = included_as c.args.self c.args.other c.in-Range.here c.in-Range-other.there c.within.result c.in-Range.is c.in-Range-other.is c.within.ensures.inclusion

pub returns-in-Range-other-clause-arrays : goal.returns-in-Range-other-clause-arrays
returns-in-Range-other-clause-arrays c = arrays_as c.args.self c.args.other c.within.result (returns-in-Range-other-clause-numbers c)
