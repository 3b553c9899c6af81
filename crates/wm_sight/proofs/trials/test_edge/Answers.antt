use Rattle.std.proofs.Common.{◌≡◌, ◌↔◌, true, IfOk, w64, FitsSigned, rules}
use Rattle.std.proofs.lemmas.Int.{to_z-of_z}
use Rattle.wm_sight.specs.Ranges.{Stays}
use Rattle.wm_sight.specs.Sights.{IsTested}
use Rattle.wm_sight.proofs.Trying.{tested_for}
use Rattle.wm_sight.proofs.trials.test_edge.Goals as goal

pub returns : goal.returns
returns g c =
    let low_fits : FitsSigned w64 c.args.low = search rules in
    let high_fits : FitsSigned w64 c.args.high = search rules in
    let Has = g.D.Domain.holds c.args.label.now in
    let e : (c.in_ok-fits.fits ≡ true) ↔ Stays Has c.args.form.now c.args.low c.args.high = simp to_z-of_z at c.in_ok-fits.ensures.exact in
    let h : IfOk c.tested.result (λ seen. IsTested c.args.kind (c.in_ok-fits.fits ≡ true) Has c.args.args.now c.args.low c.args.high c.args.how seen) = simp to_z-of_z at c.tested.ensures in
    tested_for c.args.kind (c.in_ok-fits.fits ≡ true) (Stays Has c.args.form.now c.args.low c.args.high) Has c.args.args.now c.args.low c.args.high c.args.how c.tested.result e h
