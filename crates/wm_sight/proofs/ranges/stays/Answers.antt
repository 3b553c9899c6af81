use Rattle.std.proofs.Common.{◌≡◌, ◌≤ℤ◌, ◌<ℤ◌, true, false, w64, FitsSigned, rules}
use Rattle.std.specs.Prelude.{◌⊎◌}
use Rattle.std.proofs.lemmas.Int.{to_z-of_z}
use Rattle.wm_sight.proofs.Shown.{stays_shown, stays_exact}
use Rattle.wm_sight.proofs.ranges.stays.Goals as goal

pub returns-in-Some : goal.returns-in-Some
returns-in-Some g c =
    let low_fits : FitsSigned w64 c.args.low = search rules in
    let high_fits : FitsSigned w64 c.args.high = search rules in
    let range_low_fits : FitsSigned w64 c.in-Some.range.low = search rules in
    let range_high_fits : FitsSigned w64 c.in-Some.range.high = search rules in
    let inside : c.lies.result ≡ true → (c.args.low ≤ℤ c.in-Some.range.low) × (c.in-Some.range.high ≤ℤ c.args.high) = λ e. simp to_z-of_z at (c.lies.ensures.inside e) in
    let outside : c.lies.result ≡ false → (c.in-Some.range.low <ℤ c.args.low) ⊎ (c.args.high <ℤ c.in-Some.range.high) = λ e. simp to_z-of_z at (c.lies.ensures.outside e) in
    record {
      stays = λ e p h.
          let k : (c.args.low ≤ℤ c.in-Some.range.low) × (c.in-Some.range.high ≤ℤ c.args.high) = inside e in
          stays_shown (g.D.Domain.holds c.args.label.now) c.args.form.now c.args.low c.args.high c.in-Some.range c.in-Some.ensures.exact k.0 k.1 p h;
      exact = stays_exact (g.D.Domain.holds c.args.label.now) c.args.form.now c.args.low c.args.high c.in-Some.range c.lies.result c.in-Some.ensures.exact inside outside;
    }
