use Rattle.wm_hull.proofs.NormRanges.{norm_domain}
use Rattle.wm_hull.proofs.parts.norm.Goals as goal

pub value-requires-clause-domain : goal.value-requires-clause-domain
value-requires-clause-domain c = norm_domain c.args.op c.requires.norm _ _
