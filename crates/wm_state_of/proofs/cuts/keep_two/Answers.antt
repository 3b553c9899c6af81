use Rattle.std.proofs.Common.{◌≡◌, ◌∙◌, ap, ℤ, Bool, neg_ℤ, true, false, not, w64, FitsSigned, rules}
use Rattle.std.proofs.lemmas.Int.{to_z-of_z}
use Rattle.wm_state_of.specs.Meeting.{two_form, turns}
use Rattle.wm_state_of.proofs.Cutting.{pair_cut}
use Rattle.wm_state_of.proofs.cuts.keep_two.Goals as goal

pub returns-clause-cut : goal.returns-clause-cut
returns-clause-cut g c =
    let low_fits : FitsSigned w64 c.args.pair.ends.low = search rules in
    let high_fits : FitsSigned w64 c.args.pair.ends.high = search rules in
    let result_fits : FitsSigned w64 c.opposite.result = search rules in
    let above : c.in_ok-above.above ≡ two_form c.args.pair.first true c.args.pair.second (not c.args.other) c.args.pair.ends.low = simp to_z-of_z at c.in_ok-above.ensures in
    let below : c.in_ok-below.below ≡ two_form c.args.pair.first false c.args.pair.second c.args.other c.opposite.result = simp to_z-of_z at c.in_ok-below.ensures in
    let o : c.opposite.result ≡ neg_ℤ c.args.pair.ends.high = simp to_z-of_z at c.opposite.ensures in
    let e : c.in_ok-above.above ≡ two_form c.args.pair.first true c.args.pair.second (not (turns c.args.pair.kind)) c.args.pair.ends.low =
    above ∙ ap (λ (b : Bool). two_form c.args.pair.first true c.args.pair.second (not b) c.args.pair.ends.low) c.requires.sign in
    let f : c.in_ok-below.below ≡ two_form c.args.pair.first false c.args.pair.second (turns c.args.pair.kind) (neg_ℤ c.args.pair.ends.high) =
    below ∙ ap (λ (b : Bool). two_form c.args.pair.first false c.args.pair.second b c.opposite.result) c.requires.sign
    ∙ ap (λ (z : ℤ). two_form c.args.pair.first false c.args.pair.second (turns c.args.pair.kind) z) o in
    pair_cut (g.D.Domain.holds c.args.state.now) (g.D.Domain.holds c.keep_form.new.state) (g.D.Domain.holds c.keep_form-2.new.state) c.args.pair c.in_ok-above.above c.in_ok-below.below e f c.keep_form.ensures.cut c.keep_form-2.ensures.cut
