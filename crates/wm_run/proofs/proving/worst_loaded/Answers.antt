use Rattle.wm_run.proofs.Shown.{worst_shown}
use Rattle.wm_run.proofs.proving.worst_loaded.Goals as goal

pub returns-clause-worst : goal.returns-clause-worst
returns-clause-worst c =
    worst_shown c.args.loaded.now c.in_ok-proof.proof.graph c.in_ok-proof.proof.certificate.heads c.in_ok-proof.ensures.proved c.in_ok-proof.proof.findings
    c.is_safe.result c.in_ok-text.text.items c.is_safe.ensures.safe c.in_ok-chosen.chosen.items c.deref.result.now c.deref.ensures.value c.in_ok-chosen.ensures.worst c.in_ok-chosen.ensures.parts c.in_ok-text.ensures.text
