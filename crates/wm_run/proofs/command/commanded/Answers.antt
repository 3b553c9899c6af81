use Rattle.wm_words.specs.declared.command.Command.TheVariants as command
use Rattle.wm_run.specs.World.{world_of}
use Rattle.wm_run.proofs.Leading.{command_leads}
use Rattle.wm_run.proofs.command.commanded.Goals as goal

pub returns-in-Prove-clause-leads : goal.returns-in-Prove-clause-leads
returns-in-Prove-clause-leads g c =
    command_leads (world_of (g.F.Files.held c.args.files.now) (g.F.Files.held c.prove.new.files) (g.F.Files.faults c.args.files.now) (g.F.Files.faults c.prove.new.files))
    c.args.command (command.Prove c.in-Prove.spec) c.prove.result c.in-Prove.is (rw c.as_bytes.ensures.value at c.prove.ensures.leads)

pub returns-in-Check-clause-leads : goal.returns-in-Check-clause-leads
returns-in-Check-clause-leads g c =
    command_leads (world_of (g.F.Files.held c.args.files.now) (g.F.Files.held c.check.new.files) (g.F.Files.faults c.args.files.now) (g.F.Files.faults c.check.new.files))
    c.args.command (command.Check c.in-Check.spec) c.check.result c.in-Check.is (rw c.as_bytes-in-Check.ensures.value at c.check.ensures.leads)

pub returns-in-Replay-clause-leads : goal.returns-in-Replay-clause-leads
returns-in-Replay-clause-leads g c =
    command_leads (world_of (g.F.Files.held c.args.files.now) (g.F.Files.held c.replay.new.files) (g.F.Files.faults c.args.files.now) (g.F.Files.faults c.replay.new.files))
    c.args.command (command.Replay c.in-Replay.spec c.in-Replay.samples) c.replay.result c.in-Replay.is
    (rw (c.as_bytes-in-Replay.ensures.value, c.as_bytes-in-Replay-2.ensures.value) at c.replay.ensures.leads)

pub returns-in-Worst-clause-leads : goal.returns-in-Worst-clause-leads
returns-in-Worst-clause-leads g c =
    command_leads (world_of (g.F.Files.held c.args.files.now) (g.F.Files.held c.worst.new.files) (g.F.Files.faults c.args.files.now) (g.F.Files.faults c.worst.new.files))
    c.args.command (command.Worst c.in-Worst.spec) c.worst.result c.in-Worst.is (rw c.as_bytes-in-Worst.ensures.value at c.worst.ensures.leads)

pub returns-in-Headroom-clause-leads : goal.returns-in-Headroom-clause-leads
returns-in-Headroom-clause-leads g c =
    command_leads (world_of (g.F.Files.held c.args.files.now) (g.F.Files.held c.headroom.new.files) (g.F.Files.faults c.args.files.now) (g.F.Files.faults c.headroom.new.files))
    c.args.command (command.Headroom c.in-Headroom.spec) c.headroom.result c.in-Headroom.is (rw c.as_bytes-in-Headroom.ensures.value at c.headroom.ensures.leads)

pub returns-in-Observe-clause-leads : goal.returns-in-Observe-clause-leads
returns-in-Observe-clause-leads g c =
    command_leads (world_of (g.F.Files.held c.args.files.now) (g.F.Files.held c.observe.new.files) (g.F.Files.faults c.args.files.now) (g.F.Files.faults c.observe.new.files))
    c.args.command (command.Observe c.in-Observe.spec c.in-Observe.samples) c.observe.result c.in-Observe.is
    (rw (c.as_bytes-in-Observe.ensures.value, c.as_bytes-in-Observe-2.ensures.value) at c.observe.ensures.leads)
