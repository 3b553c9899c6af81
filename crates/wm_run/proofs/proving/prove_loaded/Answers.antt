use Rattle.std.proofs.Common.{refl}
use Rattle.wm_run.specs.Outcome.{decided}
use Rattle.wm_run.specs.States.{shape_of}
use Rattle.wm_run.specs.World.{world_of}
use Rattle.wm_run.proofs.Shapes.{have_shapes}
use Rattle.wm_run.proofs.Shown.{prove_told, prove_written}
use Rattle.wm_run.proofs.proving.prove_loaded.Goals as goal

pub returns-in-None-clause-proved : goal.returns-in-None-clause-proved
returns-in-None-clause-proved g c =
    prove_told c.args.loaded.now c.in_ok-proof.proof.graph c.in_ok-proof.proof.certificate.heads c.in_ok-proof.ensures.proved c.in_ok-proof.proof.findings
    (world_of (g.F.Files.held c.args.files.now) (g.F.Files.held c.args.files.now) (g.F.Files.faults c.args.files.now) (g.F.Files.faults c.args.files.now))
    (decided c.in_ok-outcome.outcome) c.in_ok-outcome.ensures.value c.in-None.is refl

pub write_text-requires-clause-states : goal.write_text-requires-clause-states
write_text-requires-clause-states g c =
    have_shapes shape_of c.in_ok-proof.proof.graph c.in_ok-proof.proof.certificate.heads c.in_ok-proof.ensures.states

pub returns-clause-proved : goal.returns-clause-proved
returns-clause-proved g c =
    prove_written c.args.loaded.now c.in_ok-proof.proof.graph c.in_ok-proof.proof.certificate.heads c.in_ok-proof.ensures.proved c.in_ok-proof.proof.findings
    (world_of (g.F.Files.held c.args.files.now) (g.F.Files.held c.written.new.files) (g.F.Files.faults c.args.files.now) (g.F.Files.faults c.written.new.files))
    (decided c.in_ok-outcome.outcome) c.in_ok-outcome.ensures.value c.in-Some.name c.in_ok-bytes-in-Some.bytes.items c.deref.result.now c.written.result c.in-Some.is
    c.deref.ensures.value
    c.in_ok-bytes-in-Some.ensures.text c.written.ensures.ends
