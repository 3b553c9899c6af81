use Rattle.wm_spans.proofs.Cutting.{free_found_lies}
use Rattle.wm_spans.proofs.Summing.{near_lost_kept, near_found_kept, near_found_spanned, cleared_spanned}
use Rattle.wm_spans.proofs.spans.Spans.set_near.Goals as goal

pub set_near_within-requires-clause-lies : goal.set_near_within-requires-clause-lies
set_near_within-requires-clause-lies c = free_found_lies c.args.self.now c.args.self.now c.args.v c.requires.inside c.args.r c.full_range.result c.full_range.ensures.kept c.in-Some.fit c.in-Some.ensures.each c.full_range.ensures.value

pub returns-in-None-clause-kept : goal.returns-in-None-clause-kept
returns-in-None-clause-kept c = near_lost_kept c.args.self.now c.clear.new.self c.args.v c.args.t c.args.d c.args.r c.full_range.result c.requires.inside c.full_range.ensures.value c.in-None.ensures.common

pub returns-in-None-clause-spanned : goal.returns-in-None-clause-spanned
returns-in-None-clause-spanned c = cleared_spanned c.args.self.now c.clear.new.self _ _ _ c.clear.ensures.value

pub returns-in-Some-clause-kept : goal.returns-in-Some-clause-kept
returns-in-Some-clause-kept c = near_found_kept c.args.self.now c.set_near_within.new.self c.args.v c.args.t c.args.d c.args.r c.full_range.result c.requires.inside c.full_range.ensures.value c.in-Some.fit c.in-Some.ensures.each c.set_near_within.ensures.kept

pub returns-in-Some-clause-spanned : goal.returns-in-Some-clause-spanned
returns-in-Some-clause-spanned c = near_found_spanned c.args.self.now c.set_near_within.new.self c.args.v c.args.t c.args.d c.args.r c.full_range.result c.requires.inside c.full_range.ensures.value c.in-Some.fit c.in-Some.ensures.each c.set_near_within.ensures.spanned
