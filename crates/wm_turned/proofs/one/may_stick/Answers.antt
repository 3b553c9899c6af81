use Rattle.std.proofs.Common.{◌≡◌, false, w64, rules}
use Rattle.std.specs.Prelude.{FitsSigned, ◌≤ℤ◌}
use Rattle.std.proofs.lemmas.Int.{to_z-of_z}
use Rattle.wm_turned.proofs.Growing.{never_sticks}
use Rattle.wm_turned.proofs.one.may_stick.Goals as goal

pub returns-in-None : goal.returns-in-None
returns-in-None g c = record { never = λ e p h. absurd (c.in-None.ensures.exact p h) }

pub returns-in-Some : goal.returns-in-Some
returns-in-Some g c =
    let high_fits : FitsSigned w64 c.room-high.result = search rules in
    let below : c.passes.result ≡ false → c.in-Some.r.high ≤ℤ c.room-high.result = simp to_z-of_z at c.passes.ensures.below in
    record { never = λ e p h. never_sticks (g.D.Domain.holds c.args.state.now) c.args.it.variable c.args.it.step c.in-Some.r c.room-high.result c.in-Some.ensures.exact c.room-high.ensures (below e) p h }
