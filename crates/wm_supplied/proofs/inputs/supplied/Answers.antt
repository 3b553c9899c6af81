use Rattle.std.proofs.Common.{◌≡◌, ◌∙◌, ℕ, ◌+◌, ◌<◌, List, All, length, map, [], sym, subst, rules}
use Rattle.wm_carry.proofs.Ranks.{count_is}
use Rattle.wm_domain.specs.declared.shape.Shape.{Shape}
use Rattle.wm_domain.specs.States.{count_of, array_count, InShape}
use Rattle.wm_flow.specs.declared.action.Given.{Given}
use Rattle.wm_carry.specs.Following.{Moved}
use Rattle.wm_supplied.specs.Filling.{IsFilled}
use Rattle.wm_supplied.proofs.Supplying.{point_before, before_moved, before_inside, before_filled, before_numbers, all_mapped}
use Rattle.wm_supplied.proofs.inputs.supplied.Goals as goal

pub cleared-requires-clause-inside : goal.cleared-requires-clause-inside
cleared-requires-clause-inside g c =
    let t = c.args.way.now.target.now in
    let seen : c.deref.result.now ≡ c.in_ok-targets.targets.items = search rules in
    subst (λ (vs : List ℕ). All (λ v. v < length t.group + length t.singles) vs) (sym (seen ∙ c.in_ok-targets.ensures))
    (subst (λ (n : ℕ). All (λ v. v < n) (map (λ (y : Given). y.target) c.args.scalars.now)) (count_is t) (all_mapped (count_of t) c.args.scalars.now c.requires.scalars))

pub returns-clause-sound : goal.returns-clause-sound
returns-clause-sound g c =
    let s = c.args.way.now.source.now in
    let t = c.args.way.now.target.now in
    let Has = g.D.Domain.holds c.args.at.now in
    let scalars = c.args.scalars.now in
    let arrays = c.args.arrays.now in
    let seen : c.deref.result.now ≡ c.in_ok-targets.targets.items = search rules in
    let targets = seen ∙ c.in_ok-targets.ensures in
    record {
      kept = λ p i m.
          let second = subst (λ (x : Shape). InShape x p) c.put_arrays.ensures.shape i in
          let first = subst (λ (x : Shape). InShape x p) c.put_scalars.ensures.shape second in
          let here = subst (λ (x : Shape). InShape x p) c.in_ok-state.ensures.shape first in
          let q = point_before s m.was p in
          let inside = before_inside s t Has scalars arrays p c.requires.way (λ x h. subst (λ (y : Shape). InShape y x) c.requires.shape (g.met.D.Domain.inside c.args.at.now x h)) here m in
          let there = subst (λ (x : Shape). InShape x q) (sym c.in_ok-state.ensures.shape) inside in
          let moved = subst (λ (vs : List ℕ). Moved s t Has vs [] q) (sym targets) (before_moved s t Has scalars arrays p m) in
          let cleared = c.in_ok-state.ensures.sound.kept q there moved in
          let given = c.put_scalars.ensures.kept.kept q there cleared (before_numbers s t Has scalars arrays p m) in
          c.put_arrays.ensures.kept q p second given
          (subst (λ (x : Shape). IsFilled (count_of x) (array_count x) (map (λ (y : Given). y.target) arrays) q p) (sym (c.put_scalars.ensures.shape ∙ c.in_ok-state.ensures.shape)) (before_filled s t Has scalars arrays p m))
          m.cells;
    }
