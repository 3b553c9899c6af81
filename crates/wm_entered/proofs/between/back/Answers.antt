use Rattle.std.proofs.Common.{◌≡◌, ℕ, ◌<◌, List, length, Option, refl, sym, subst, rules}
use Rattle.wm_domain.specs.declared.shape.Shape.{Shape}
use Rattle.wm_domain.specs.States.{count_of, array_count, InShape}
use Rattle.wm_domain.specs.Changes.{ArePicks, Projected}
use Rattle.wm_entered.proofs.Passing.{back_picks, own_places, back_from}
use Rattle.wm_entered.proofs.between.back.Goals as goal

pub project-requires-clause-picks : goal.project-requires-clause-picks
project-requires-clause-picks g c =
    subst (ArePicks (count_of (g.D.Domain.shape_of c.args.state.now))) (sym c.deref.ensures.value)
    (subst (λ (n : ℕ). ArePicks n c.in_ok-from.from.items) (sym c.requires.between)
    (back_picks c.args.parts.now c.args.picks.now c.in_ok-from.from.items c.in_ok-from.ensures.long c.in_ok-from.ensures.each c.requires.picks))

pub project-requires-clause-array_picks : goal.project-requires-clause-array_picks
project-requires-clause-array_picks g c =
    let n = array_count (g.D.Domain.shape_of c.args.state.now) in
    let arrays = c.in_ok-arrays.arrays.items in
    let e : length arrays ≡ n = search rules in
    subst (ArePicks n) (sym c.deref-2.ensures.value)
    (subst (λ (k : ℕ). ArePicks k arrays) e (own_places (length arrays) arrays refl (λ a h. c.in_ok-arrays.ensures.each a (subst (λ (k : ℕ). a < k) c.in_ok-arrays.ensures.long h))))

pub returns-clause-crossed : goal.returns-clause-crossed
returns-clause-crossed g c = λ was p h i numbers.
    let Has = g.D.Domain.holds c.args.state.now in
    c.in_ok-behind.ensures.sound.kept p (subst (λ (x : Shape). InShape x p) (sym c.in_ok-behind.ensures.shape) i)
    (subst (λ (xs : List (Option ℕ)). Projected Has xs c.deref-2.result.now p) (sym c.deref.ensures.value)
    (subst (λ (xs : List (Option ℕ)). Projected Has c.in_ok-from.from.items xs p) (sym c.deref-2.ensures.value)
    (back_from Has c.args.parts.now c.args.picks.now c.in_ok-from.from.items c.in_ok-arrays.arrays.items was p c.in_ok-from.ensures.long c.in_ok-from.ensures.each
    (λ a l. c.in_ok-arrays.ensures.each a (subst (λ (n : ℕ). a < n) c.in_ok-arrays.ensures.long l)) h numbers)))
