use Rattle.wm_paths_rows.proofs.Fitting.{fit_pushed}
use Rattle.wm_paths_rows.proofs.headrooms.told.Goals as goal

pub headroom_text-requires : goal.headroom_text-requires
headroom_text-requires c = record {
  types = fit_pushed c.push.new.self c.empty-program.result.sites c.push-2.new.self c.new.result _ c.args.verdict c.in_ok-push.ensures.grown c.empty-program.ensures.sites c.in_ok-push-2.ensures.grown c.new.ensures.empty c.requires.fits;
}
