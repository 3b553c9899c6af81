use Rattle.std.proofs.Common.{◌∙◌}
use Rattle.wm_accept.proofs.Ending.{whole_again}
use Rattle.wm_verdict.proofs.Judging.{judged_first}
use Rattle.wm_check.proofs.Telling.{told_watched}
use Rattle.wm_check.proofs.watching.watched.Goals as goal

pub walk-requires-clause-saw : goal.walk-requires-clause-saw
walk-requires-clause-saw g c =
    judged_first g.D.Domain.holds c.args.program.now c.args.graph.now c.in_ok-watch.watch.judge c.in_ok-watch.ensures.next c.in_ok-watch.ensures.first c.in_ok-watch.ensures.entries

pub returns-in_ok-told-in-None-clause-told : goal.returns-in_ok-told-in-None-clause-told
returns-in_ok-told-in-None-clause-told g c =
    told_watched g.M.Images.allowed g.M.Images.started g.D.Domain.holds g.D.Domain.shape_of c.args.program.now c.args.graph.now c.args.states.now c.walk.new.watcher.judge c.in_ok-told-in-None.told c.walk.new.live c.in_ok-gap.gap c.in-None.is c.in_ok-gap.ensures.live c.in_ok-told-in-None.ensures.all c.in_ok-told-in-None.ensures.verdicts
    (c.in_ok-told-in-None.ensures.live ∙ whole_again c.in_ok-live.live.len c.walk.new.live c.in_ok-live.live.items c.as_mut_slice.result.now c.walk.auto.live c.as_mut_slice.ensures.value c.as_mut_slice.ensures.len)
