use Rattle.wm_tied.specs.Pointed.{In}
use Rattle.wm_tied.proofs.Forming.{swapped_hull}
use Rattle.wm_tied.proofs.tied.Tied.two_terms_range.Goals as goal

pub returns-then-a-count-clause-hull : goal.returns-then-a-count-clause-hull
returns-then-a-count-clause-hull c = λ h. swapped_hull (In c.args.self.now) c.args.a c.args.b c.apart_range-then-a-count.result (c.apart_range-then-a-count.ensures.hull h)
