use Rattle.wm_growing.proofs.Lesser.{project_grows, keep_grows, form_grows, near_grows, range_grows, array_grows, write_grows}
use Rattle.wm_growing.proofs.laws.smaller_image.Goals as goal

pub returns : goal.returns
returns g c = record {
  project = project_grows _ g.D.Domain.holds g.D.Domain.shape_of;
  keep = keep_grows _ g.D.Domain.holds g.D.Domain.shape_of;
  assign_form = form_grows _ g.D.Domain.holds g.D.Domain.shape_of;
  assign_near = near_grows _ g.D.Domain.holds g.D.Domain.shape_of;
  assign_range = range_grows _ g.D.Domain.holds g.D.Domain.shape_of;
  set_array = array_grows _ g.D.Domain.holds g.D.Domain.shape_of;
  write = write_grows _ g.D.Domain.holds g.D.Domain.shape_of;
}
