use Rattle.std.proofs.Common.{◌≡◌, ◌↔◌, ◌∙◌, true, ap, slice_index_or, IfOk, w64, FitsSigned, rules, arith}
use Rattle.std.proofs.lemmas.Int.{to_z-of_z}
use Rattle.wm_sight.specs.Ranges.{Stays}
use Rattle.wm_sight.specs.Sums.{sum_of}
use Rattle.wm_sight.specs.Sights.{form_at}
use Rattle.wm_sight.proofs.Trying.{placed, stays_in}
use Rattle.wm_sight.proofs.trials.sum_stays.Goals as goal

pub returns-in-Some : goal.returns-in-Some
returns-in-Some g c =
    let low_fits : FitsSigned w64 c.args.low = search rules in
    let high_fits : FitsSigned w64 c.args.high = search rules in
    let Has = g.D.Domain.holds c.args.label.now in
    let first = placed c.args.args.now 0 3 c.index-args-0.result (omega arith) c.type_inv.args in
    let second = placed c.args.args.now 1 3 c.index-args-1.result (omega arith) c.type_inv.args in
    let e : c.in_ok-sum_of.field-0 ≡ sum_of (form_at c.args.args.now 0) c.args.turn (form_at c.args.args.now 1) =
    c.in_ok-sum_of.ensures.sum ∙ ap (λ u. sum_of u c.args.turn (slice_index_or c.args.args.now 1 c.index-args-1.result)) first ∙ ap (λ u. sum_of (form_at c.args.args.now 0) c.args.turn u) second in
    let h : IfOk c.form_stays.result (λ s. (s ≡ true) ↔ Stays Has c.in-Some.form c.args.low c.args.high) = simp to_z-of_z at c.form_stays.ensures.exact in
    stays_in c.form_stays.result Has c.in-Some.form (sum_of (form_at c.args.args.now 0) c.args.turn (form_at c.args.args.now 1)) c.in_ok-sum_of.field-0 c.args.low c.args.high c.in-Some.is e h
