use Rattle.wm_tied.proofs.Nearing.{near_none, near_some}
use Rattle.wm_tied.proofs.tied.Tied.near_apart.Goals as goal

pub returns-in-None-clause-left : goal.returns-in-None-clause-left
returns-in-None-clause-left c = near_none c.args.self.now c.cut_term.new.self c.args.v c.args.t c.args.d c.args.r c.term_range.result c.sub.result c.add-near.result c.requires.lies c.sub.ensures.low c.sub.ensures.high
    c.cut_term.ensures.alike c.cut_term.ensures.points c.term_range.ensures.hull c.add-near.ensures.low c.add-near.ensures.high c.clear.new.self c.in-None.ensures.common c.clear.ensures.none

pub returns-in-Some-clause-left : goal.returns-in-Some-clause-left
returns-in-Some-clause-left c = near_some c.args.self.now c.cut_term.new.self c.args.v c.args.t c.args.d c.args.r c.term_range.result c.sub.result c.add-near.result c.requires.lies c.sub.ensures.low c.sub.ensures.high
    c.cut_term.ensures.alike c.cut_term.ensures.points c.term_range.ensures.hull c.add-near.ensures.low c.add-near.ensures.high c.free.new.self c.in-Some.now c.in-Some.ensures.each c.free.ensures.alike c.free.ensures.points c.requires.inside c.requires.from c.requires.apart
