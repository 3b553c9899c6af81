use Rattle.std.proofs.Common.{◌-ℤ◌}
use Rattle.wm_entered.proofs.Giving.{range_holds}
use Rattle.wm_entered.proofs.values.put_difference.Goals as goal

pub returns-in-None-clause-kept : goal.returns-in-None-clause-kept
returns-in-None-clause-kept g c = record { kept = λ p i h k. absurd (c.in-None.ensures.exact k.0.x k.0.x_is) }

pub returns-in-None-form-clause-kept : goal.returns-in-None-form-clause-kept
returns-in-None-form-clause-kept g c = record { kept = λ p i h k. absurd (c.in-None-form.ensures.exact k.1.x k.1.x_is) }

pub returns-in-Some-form-clause-kept : goal.returns-in-Some-form-clause-kept
returns-in-Some-form-clause-kept g c = record {
  kept = λ p i h k.
      c.put_near.ensures.kept p i h
      (range_holds (g.D.Domain.holds c.args.at.now) c.args.f.now c.in-Some.r (p.values c.args.v) c.in-Some.ensures.exact k.0)
      (range_holds (g.D.Domain.holds c.args.at.now) c.args.rest.now c.in-Some-form.d (p.values c.args.v -ℤ p.values c.args.w) c.in-Some-form.ensures.exact k.1);
}
