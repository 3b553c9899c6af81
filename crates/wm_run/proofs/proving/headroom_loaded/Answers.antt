use Rattle.wm_run.proofs.Shown.{headroom_told}
use Rattle.wm_run.proofs.proving.headroom_loaded.Goals as goal

pub returns-clause-headroom : goal.returns-clause-headroom
returns-clause-headroom c =
    headroom_told c.args.loaded.now c.in_ok-proof.proof.graph c.in_ok-proof.proof.certificate.heads c.in_ok-proof.ensures.proved c.in_ok-proof.proof.findings
    c.is_safe.result c.in_ok-text.text.items c.is_safe.ensures.safe c.in_ok-text.ensures.text
