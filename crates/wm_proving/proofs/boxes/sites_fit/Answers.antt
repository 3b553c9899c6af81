use Rattle.std.proofs.Common.{arith}
use Rattle.wm_proving.proofs.Fitting.{all_sites, one_more}
use Rattle.wm_proving.proofs.boxes.sites_fit.Goals as goal

pub loop-k-preserved : goal.loop-k-preserved
loop-k-preserved c = one_more c.args.sites.now c.args.verdicts.now c.loop-k.k c.loop-k.invariant (c.number_fits.ensures c.if-not-number_fits.false)

pub returns : goal.returns
returns c = λ held. all_sites c.args.sites.now c.args.verdicts.now c.loop-k.k (omega arith) c.loop-k.invariant
