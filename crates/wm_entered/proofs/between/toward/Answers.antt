use Rattle.std.proofs.Common.{ℕ, List, Option, sym, subst}
use Rattle.wm_domain.specs.declared.shape.Shape.{Shape}
use Rattle.wm_domain.specs.States.{count_of, InShape}
use Rattle.wm_domain.specs.Changes.{ArePicks, Projected}
use Rattle.wm_entered.specs.Crossing.{middle_point}
use Rattle.wm_entered.proofs.Passing.{caller_picks, toward_middle}
use Rattle.wm_entered.proofs.between.toward.Goals as goal

pub project-requires-clause-picks : goal.project-requires-clause-picks
project-requires-clause-picks g c =
    subst (ArePicks (count_of (g.D.Domain.shape_of c.args.at.now))) (sym c.deref.ensures.value)
    (caller_picks (count_of (g.D.Domain.shape_of c.args.at.now)) c.args.parts.now c.in_ok-picks.picks.items c.requires.parts c.in_ok-picks.ensures.long c.in_ok-picks.ensures.each)

pub returns-clause-crossed : goal.returns-clause-crossed
returns-clause-crossed g c = λ was p h i cells.
    let Has = g.D.Domain.holds c.args.at.now in
    let m = middle_point c.args.parts.now was p in
    c.in_ok-state.ensures.sound.kept m (subst (λ (x : Shape). InShape x m) (sym c.in_ok-state.ensures.shape) i)
    (subst (λ (xs : List (Option ℕ)). Projected Has xs c.args.arrays.now m) (sym c.deref.ensures.value)
    (toward_middle Has c.args.parts.now c.in_ok-picks.picks.items c.args.arrays.now was p c.in_ok-picks.ensures.long c.in_ok-picks.ensures.each h cells))
