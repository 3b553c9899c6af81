use Rattle.wm_run.proofs.Puts.{memory_put}
use Rattle.wm_run.proofs.call.put_memory.Goals as goal

pub returns-clause-end : goal.returns-clause-end
returns-clause-end g c =
    memory_put (g.S.Sink.written c.args.out.now) (g.S.Sink.written c.put.new.self) (g.S.Sink.faults c.args.out.now) (g.S.Sink.faults c.put.new.self) c.put.result c.put.ensures.answer
