use Rattle.std.proofs.Common.{arith, ℕ, ◌∙◌, ap}
use Rattle.std.proofs.lemmas.Int.{ints}
use Rattle.wm_numbers.proofs.Order.{within_wider}
use Rattle.wm_ops.specs.Clamping.{to16}
use Rattle.wm_ops.specs.Shifts.{shifted}
use Rattle.wm_ops.proofs.ShiftLemmas.{passed_fits, passed_is, left16_cut}
use Rattle.wm_ops.proofs.shifts.left16.Goals as goal

pub overflow_mul-a : goal.overflow_mul-a
overflow_mul-a c =
    passed_fits c.args.a c.power_of_two.result c.cut.result c.ranges.a (within_wider (omega (arith, ints)) (omega (arith, ints)) c.requires)
    (omega (arith, c.cut.ensures.cut)) c.power_of_two.ensures.power

pub returns : goal.returns
returns c = record {
  formula =
      c.to16.ensures.clamped ∙
      ap to16 (passed_is c.args.a c.power_of_two.result c.cut.result c.ranges.a (within_wider (omega (arith, ints)) (omega (arith, ints)) c.requires)
      (omega (arith, c.cut.ensures.cut)) c.power_of_two.ensures.power) ∙
      ap (λ (k : ℕ). to16 (shifted c.args.a k)) c.cut.ensures.cut ∙
      left16_cut c.args.a c.args.places c.requires;
}
