use Rattle.wm_proving.proofs.Shaped.{are_states}
use Rattle.wm_proving.proofs.checking.told_by.Goals as goal

pub returns-in-Ok-clause-states : goal.returns-in-Ok-clause-states
returns-in-Ok-clause-states g c = are_states g.D.Domain.shape_of c.args.graph.now c.in-Ok.certificate.heads c.in-Ok.ensures.states
