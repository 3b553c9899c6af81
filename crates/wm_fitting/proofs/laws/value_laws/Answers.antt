-- The laws.
use Rattle.wm_fitting.proofs.Collecting.{site_fits}
use Rattle.wm_fitting.proofs.Naming.{also}
use Rattle.wm_fitting.proofs.Reading.{expression_fits}
use Rattle.wm_fitting.proofs.laws.value_laws.Goals as goal

pub returns : goal.returns
returns c = record {
  sites = site_fits;
  expressions = λ S names source p wants m. also (expression_fits S names source p wants m) (λ v f. f.fits);
}
