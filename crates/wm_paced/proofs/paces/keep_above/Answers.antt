use Rattle.std.proofs.Common.{◌≡◌, ◌<◌, ℕ, ℤ, pos, neg_ℤ, ◌*ℤ◌, false, length, ap, sym, subst, ◌∙◌, w64, rules}
use Rattle.std.specs.Prelude.{FitsSigned}
use Rattle.std.specs.Int.{int_div_euclid, int_min}
use Rattle.std.proofs.lemmas.Int.{to_z-of_z}
use Rattle.wm_numbers.specs.Within.{IsWord32}
use Rattle.wm_domain.specs.declared.shape.Shape.{Shape}
use Rattle.wm_domain.specs.Points.{Point}
use Rattle.wm_domain.specs.States.{InShape}
use Rattle.wm_filters.proofs.Staying.{word_at}
use Rattle.wm_step.specs.Images.{most}
use Rattle.wm_paced.proofs.Pacings.{bounded_one, above_of, above_from}
use Rattle.wm_paced.proofs.paces.keep_above.Goals as goal

pub returns-clause-sound : goal.returns-clause-sound
returns-clause-sound g c =
    let fits : FitsSigned w64 c.args.low = search rules in
    let turns_fits : FitsSigned w64 c.turns_up-turns.result = search rules in
    let all_fits : FitsSigned w64 c.grown-all.result = search rules in
    let end_fits : FitsSigned w64 c.floored-least.result = search rules in
    let Has = g.D.Domain.holds c.args.state.now in
    let turns : c.turns_up-turns.result ≡ neg_ℤ (int_div_euclid (neg_ℤ c.args.low) (pos c.args.pace.loop_step)) = simp to_z-of_z at c.turns_up-turns.ensures.value in
    let value : c.grown-all.result ≡ int_min most (pos c.args.pace.step *ℤ neg_ℤ (int_div_euclid (neg_ℤ c.args.low) (pos c.args.pace.loop_step))) = (simp to_z-of_z at c.grown-all.ensures.value) ∙ ap (λ (t : ℤ). int_min most (pos c.args.pace.step *ℤ t)) turns in
    let tested = simp to_z-of_z at c.in_ok-keep_at_least.ensures.sound in
    record {
      kept = λ p i h.
          tested.kept p i
          (above_of Has c.args.pace.variable c.args.pace.loop_step c.args.pace.step c.in_ok-sum.sum c.grown-all.result c.floored-least.result p c.in_ok-sum.ensures
          (simp to_z-of_z at c.floored-least.ensures.same) (simp to_z-of_z at c.floored-least.ensures.past) c.args.low value
          (word_at (g.D.Domain.shape_of c.args.state.now) p c.args.pace.variable c.requires.shaped (subst (λ (s : Shape). InShape s p) c.in_ok-keep_at_least.ensures.shape i) c.requires.inside) h);
    }

pub returns-clause-made : goal.returns-clause-made
returns-clause-made g c =
    let fits : FitsSigned w64 c.args.low = search rules in
    let turns_fits : FitsSigned w64 c.turns_up-turns.result = search rules in
    let all_fits : FitsSigned w64 c.grown-all.result = search rules in
    let end_fits : FitsSigned w64 c.floored-least.result = search rules in
    let Has = g.D.Domain.holds c.args.state.now in
    let turns : c.turns_up-turns.result ≡ neg_ℤ (int_div_euclid (neg_ℤ c.args.low) (pos c.args.pace.loop_step)) = simp to_z-of_z at c.turns_up-turns.ensures.value in
    let value : c.grown-all.result ≡ int_min most (pos c.args.pace.step *ℤ neg_ℤ (int_div_euclid (neg_ℤ c.args.low) (pos c.args.pace.loop_step))) = (simp to_z-of_z at c.grown-all.ensures.value) ∙ ap (λ (t : ℤ). int_min most (pos c.args.pace.step *ℤ t)) turns in
    λ p h. above_from Has c.args.pace.variable c.args.pace.loop_step c.args.pace.step c.in_ok-sum.sum c.grown-all.result c.floored-least.result p c.in_ok-sum.ensures
    (simp to_z-of_z at c.floored-least.ensures.same) (simp to_z-of_z at c.floored-least.ensures.past) c.args.low value
    ((simp to_z-of_z at c.in_ok-keep_at_least.ensures.made) (bounded_one g.D.Domain.PAIRS (length (g.D.Domain.shape_of c.args.state.now).group) c.args.pace.variable false (pos 0) c.in_ok-sum.sum c.in_ok-sum.ensures) p h)
