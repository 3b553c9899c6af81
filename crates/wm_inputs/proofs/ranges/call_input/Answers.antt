use Rattle.wm_inputs.proofs.Intervals.{called}
use Rattle.wm_inputs.proofs.ranges.call_input.Goals as goal

pub returns : goal.returns
returns c = record {
  call = called c.args.object c.numbers_to-range.result c.args.frames.now c.in_ok-count.count c.numbers_to-range.ensures.low c.numbers_to-range.ensures.high c.in_ok-count.ensures;
}
