use Rattle.std.proofs.Common.{rules}
use Rattle.wm_proving.proofs.UsedPlaces.{low_used, high_used}
use Rattle.wm_proving.proofs.boxes.are_in_types.Goals as goal

pub returns : goal.returns
returns c = λ held. record {
  low_ends = record {
    first = low_used c.args.op 0 c.args.x (search rules) (c.fits.ensures c.if-not-fits.false);
    second = low_used c.args.op 1 c.args.y (search rules) (c.fits-2.ensures c.if-not-fits-2.false);
    third = low_used c.args.op 2 c.args.z (search rules) (c.fits-3.ensures c.if-not-fits-3.false);
  };
  high_ends = record {
    first = high_used c.args.op 0 c.args.x (search rules) (c.fits-4.ensures c.if-not-fits-4.false);
    second = high_used c.args.op 1 c.args.y (search rules) (c.fits-5.ensures c.if-not-fits-5.false);
    third = high_used c.args.op 2 c.args.z (search rules) (c.fits-6.ensures c.if-not-fits-6.false);
  };
}
