use Rattle.std.proofs.Common.{◌≡◌, ℤ, subst}
use Rattle.wm_interval.specs.declared.Interval.{Interval}
use Rattle.wm_trip.specs.Turns.{turns_up_to}
use Rattle.wm_trip.proofs.Bounds.{range_high}
use Rattle.wm_trip.proofs.trips.Goals as goal

pub returns-in-Some : goal.returns-in-Some
returns-in-Some g c =
    let Has = g.D.Domain.holds c.args.at.now in
    record {
      exact = λ range h. subst (λ (z : ℤ). c.turns_in.result ≡ turns_up_to z c.args.step) (range_high Has c.args.counter c.in-Some.range range c.in-Some.ensures.exact h) c.turns_in.ensures;
    }
