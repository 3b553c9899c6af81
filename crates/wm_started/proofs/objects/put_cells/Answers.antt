use Rattle.wm_started.proofs.Putting.{apart_less}
use Rattle.wm_started.proofs.objects.put_cells.Goals as goal

pub returns-clause-left : goal.returns-clause-left
returns-clause-left c = λ a h. apart_less c.args.given.now.items c.push.new.self.items _ a c.in_ok-push.ensures.items h
