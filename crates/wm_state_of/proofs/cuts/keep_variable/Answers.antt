use Rattle.std.proofs.Common.{◌≡◌, ◌∙◌, ap, ℤ, neg_ℤ, true, false, w64, FitsSigned, rules}
use Rattle.std.proofs.lemmas.Int.{to_z-of_z}
use Rattle.wm_state_of.specs.Meeting.{one_form}
use Rattle.wm_state_of.proofs.Cutting.{variable_cut}
use Rattle.wm_state_of.proofs.cuts.keep_variable.Goals as goal

pub returns-clause-cut : goal.returns-clause-cut
returns-clause-cut g c =
    let low_fits : FitsSigned w64 c.args.ends.low = search rules in
    let high_fits : FitsSigned w64 c.args.ends.high = search rules in
    let result_fits : FitsSigned w64 c.opposite.result = search rules in
    let e : c.in_ok-above.above ≡ one_form c.args.v true c.args.ends.low = simp to_z-of_z at c.in_ok-above.ensures in
    let h : c.in_ok-below.below ≡ one_form c.args.v false c.opposite.result = simp to_z-of_z at c.in_ok-below.ensures in
    let o : c.opposite.result ≡ neg_ℤ c.args.ends.high = simp to_z-of_z at c.opposite.ensures in
    let f : c.in_ok-below.below ≡ one_form c.args.v false (neg_ℤ c.args.ends.high) = h ∙ ap (λ (z : ℤ). one_form c.args.v false z) o in
    variable_cut (g.D.Domain.holds c.args.state.now) (g.D.Domain.holds c.keep_form.new.state) (g.D.Domain.holds c.keep_form-2.new.state) c.args.v c.args.ends c.in_ok-above.above c.in_ok-below.below e f c.keep_form.ensures.cut c.keep_form-2.ensures.cut
