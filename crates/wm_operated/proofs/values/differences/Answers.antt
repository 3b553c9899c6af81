use Rattle.wm_operated.proofs.Deciding.{difference_part, small_differences}
use Rattle.wm_operated.proofs.values.differences.Goals as goal

pub returns : goal.returns
returns c = record {
  exact = λ z x h k. difference_part c.args.d c.new.result c.meet.result z x c.new.ensures.low c.new.ensures.high c.meet.ensures.common c.meet.ensures.each h k;
  small = small_differences c.args.d c.new.result c.meet.result c.new.ensures.low c.new.ensures.high c.meet.ensures.each;
}
