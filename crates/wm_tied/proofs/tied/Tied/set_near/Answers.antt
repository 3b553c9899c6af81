use Rattle.wm_tied.proofs.Nearing.{lost_left, fit_left, fit_narrow, fit_lies}
use Rattle.wm_tied.proofs.tied.Tied.set_near.Goals as goal

pub set_near_within-requires-clause-narrow : goal.set_near_within-requires-clause-narrow
set_near_within-requires-clause-narrow c = fit_narrow c.full_range.result c.args.r c.in-Some.fit c.full_range.ensures.narrow c.in-Some.ensures.each

pub set_near_within-requires-clause-lies : goal.set_near_within-requires-clause-lies
set_near_within-requires-clause-lies c = fit_lies c.full_range.result _ c.args.r c.in-Some.fit c.full_range.ensures.value c.in-Some.ensures.each

pub returns-in-None-clause-left : goal.returns-in-None-clause-left
returns-in-None-clause-left c = lost_left c.args.self.now c.clear.new.self c.args.v c.args.t c.args.d c.args.r c.full_range.result c.clear.ensures.alike c.requires.inside c.full_range.ensures.value c.in-None.ensures.common c.clear.ensures.none

pub returns-in-Some-clause-left : goal.returns-in-Some-clause-left
returns-in-Some-clause-left c = fit_left c.args.self.now c.set_near_within.new.self c.args.v c.args.t c.args.d c.args.r c.full_range.result c.set_near_within.ensures.alike c.requires.inside c.full_range.ensures.value c.in-Some.fit c.in-Some.ensures.each c.set_near_within.ensures.left
