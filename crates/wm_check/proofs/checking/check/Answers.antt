use Rattle.std.proofs.Common.{subst, sym, ap}
use Rattle.wm_check.specs.Counters.{AreTurns}
use Rattle.wm_check.specs.Found.{AreFindings}
use Rattle.wm_check.proofs.Telling.{findings_told, told_by}
use Rattle.wm_check.proofs.checking.check.Goals as goal

pub returns-clause-findings : goal.returns-clause-findings
returns-clause-findings g c =
    let allowed = g.M.Images.allowed in
    let started = g.M.Images.started in
    let Has = g.D.Domain.holds in
    let shape_of = g.D.Domain.shape_of in
    let program = c.args.program.now in
    let graph = c.args.graph.now in
    subst (λ hs. AreFindings allowed started Has shape_of program graph c.args.weights.now hs c.in_ok-findings-in-Accepted.findings) c.items-states.ensures.items
    (findings_told allowed started Has shape_of program graph c.items-states.result.now c.args.weights.now c.items.result.now c.in-Accepted.told c.in_ok-findings-in-Accepted.findings
    (told_by allowed started Has shape_of program graph c.items-states.result.now c.in-Accepted.told c.in-Accepted.is c.in_ok-gap.ensures.told)
    c.in_ok-findings-in-Accepted.ensures.sites c.in_ok-tables.tables.objects (ap (λ t. t.objects) c.in_ok-tables.ensures)
    c.in_ok-findings-in-Accepted.ensures.lines (subst (λ ts. AreTurns Has graph c.items-states.result.now ts) (sym c.items.ensures.items) c.in_ok-turns-in-Accepted.ensures.turns) c.in_ok-findings-in-Accepted.ensures.counted)
