use Rattle.std.proofs.Common.{arith, ℕ, ◌∙◌, ap}
use Rattle.wm_ops.specs.Clamping.{to32}
use Rattle.wm_ops.specs.Shifts.{shifted}
use Rattle.wm_ops.proofs.ShiftLemmas.{passed_fits, passed_is, left32_cut}
use Rattle.wm_ops.proofs.shifts.left32.Goals as goal

pub overflow_mul-a : goal.overflow_mul-a
overflow_mul-a c =
    passed_fits c.args.a c.power_of_two.result c.cut.result c.ranges.a c.requires
    (omega (arith, c.cut.ensures.cut)) c.power_of_two.ensures.power

pub returns : goal.returns
returns c = record {
  formula =
      c.to32.ensures.clamped ∙
      ap to32 (passed_is c.args.a c.power_of_two.result c.cut.result c.ranges.a c.requires
      (omega (arith, c.cut.ensures.cut)) c.power_of_two.ensures.power) ∙
      ap (λ (k : ℕ). to32 (shifted c.args.a k)) c.cut.ensures.cut ∙
      left32_cut c.args.a c.args.places c.requires;
}
