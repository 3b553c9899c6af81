use Rattle.std.proofs.Common.{◌≡◌, ◌+◌, ap, ◌∙◌, arith}
use Rattle.wm_headroom_text.proofs.Least.{all_sites, length_more, one_more}
use Rattle.wm_headroom_text.proofs.shifts.shifts_of.Goals as goal

pub loop-k-preserved : goal.loop-k-preserved
loop-k-preserved c = record {
  count = length_more c.loop-k.shifts.items c.push.new.self.items c.loop-k.k c.shift_at-shift.result c.loop-k.invariant.count c.in_ok-push.ensures.items;
  each =
      one_more c.args.sites.now c.args.verdicts.now c.loop-k.shifts.items c.push.new.self.items c.loop-k.k c.shift_at-shift.result
      c.loop-k.invariant.count c.in_ok-push.ensures.items c.loop-k.invariant.each c.shift_at-shift.ensures;
}

pub returns : goal.returns
returns c = all_sites c.args.sites.now c.args.verdicts.now c.loop-k.shifts.items c.loop-k.k (omega arith) c.loop-k.invariant.each
