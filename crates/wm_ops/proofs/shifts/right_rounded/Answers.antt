use Rattle.std.proofs.Common.{arith, ◌∙◌, ap, sym, ◌-◌}
use Rattle.wm_ops.specs.Clamping.{exact}
use Rattle.wm_ops.proofs.ShiftLemmas.{rounded_far}
use Rattle.wm_ops.proofs.shifts.right_rounded.Goals as goal

pub returns-then-places-gt32 : goal.returns-then-places-gt32
returns-then-places-gt32 c =
    record { formula = c.exact.ensures.clamped ∙ ap exact (sym (rounded_far c.args.a (c.args.places - 1) c.requires.number (omega arith))) }
