use Rattle.wm_run.proofs.Shown.{report_shown}
use Rattle.wm_run.proofs.proving.reported.Goals as goal

pub returns-clause-value : goal.returns-clause-value
returns-clause-value c =
    report_shown c.args.program.now c.args.spec.now c.args.findings.now c.in_ok-text.text.items c.is_safe.result c.is_safe.ensures.safe c.in_ok-text.ensures.text
