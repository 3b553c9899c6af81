use Rattle.std.proofs.Common.{refl}
use Rattle.wm_run.proofs.Shown.{observe_shown}
use Rattle.wm_run.proofs.sampling.observe_given.Goals as goal

pub returns-clause-observed : goal.returns-clause-observed
returns-clause-observed c =
    observe_shown c.args.given.now c.in_ok-proof.proof.graph c.in_ok-proof.proof.certificate.heads c.in_ok-proof.ensures.proved c.in_ok-proof.proof.findings
    c.args.given.now.frames.items c.as_slice.result.now c.in_ok-seen.seen c.in_ok-text.text.items refl c.as_slice.ensures.value c.in_ok-seen.ensures.seen
    c.in_ok-text.ensures.text
