use Rattle.wm_link.proofs.Following.{given}
use Rattle.wm_link.proofs.linking.link.Goals as goal

pub returns : goal.returns
returns c = record {
  linked = given c.args.unit c.args.spec.now c.in_ok-first.first c.in_ok-second.second c.in_ok-started.started c.items.result.now c.in_ok-program.program c.in_ok-first.ensures.reading c.in_ok-started.ensures.started c.items.ensures.items c.in_ok-second.ensures.reading c.in_ok-program.ensures.finished;
}
