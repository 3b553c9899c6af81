use Rattle.std.proofs.Common.{◌∙◌, ◌<◌, ◌^◌, List, length, All, sym, subst}
use Rattle.wm_domain.specs.declared.shape.Shape.{Shape}
use Rattle.wm_domain.specs.States.{count_of, InShape}
use Rattle.wm_flow.specs.declared.action.Argument.{Argument}
use Rattle.wm_assign.specs.Giving.{InRange}
use Rattle.wm_middle.specs.declared.parts.Part.{Part}
use Rattle.wm_entered.specs.Crossing.{middle_point, AreTaken}
use Rattle.wm_entered.proofs.Giving.{given_range}
use Rattle.wm_entered.proofs.Passing.{taken_parts, few_parts, middle_inside}
use Rattle.wm_entered.proofs.entering.entered.Goals as goal

pub toward-requires-clause-parts : goal.toward-requires-clause-parts
toward-requires-clause-parts g c =
    let n = count_of (g.D.Domain.shape_of c.args.at.now) in
    let m = count_of c.args.target.now in
    subst (AreTaken n) (sym c.deref-2.ensures.value) (taken_parts n m 4294967295 c.in_ok-middle.middle.parts.items (c.in_ok-middle.ensures.good n m c.requires.picks c.requires.arguments))

pub put_arguments-requires-clause-few : goal.put_arguments-requires-clause-few
put_arguments-requires-clause-few g c =
    let n = count_of (g.D.Domain.shape_of c.args.at.now) in
    let m = count_of c.args.target.now in
    subst (λ (ps : List Part). length ps < 2 ^ 32) (sym c.deref.ensures.value) (few_parts n m c.in_ok-middle.middle.parts.items (c.in_ok-middle.ensures.good n m c.requires.picks c.requires.arguments))

pub back-requires-clause-few : goal.back-requires-clause-few
back-requires-clause-few g c =
    let n = count_of (g.D.Domain.shape_of c.args.at.now) in
    let m = count_of c.args.target.now in
    subst (λ (ps : List Part). length ps < 2 ^ 32) (sym c.deref-3.ensures.value) (few_parts n m c.in_ok-middle.middle.parts.items (c.in_ok-middle.ensures.good n m c.requires.picks c.requires.arguments))

pub put_others-requires-clause-few : goal.put_others-requires-clause-few
put_others-requires-clause-few g c =
    let n = count_of (g.D.Domain.shape_of c.args.at.now) in
    let m = count_of c.args.target.now in
    subst (λ (ps : List Part). length ps < 2 ^ 32) (sym c.deref-4.ensures.value) (few_parts n m c.in_ok-middle.middle.parts.items (c.in_ok-middle.ensures.good n m c.requires.picks c.requires.arguments))

pub returns-clause-sound : goal.returns-clause-sound
returns-clause-sound g c =
    let Has = g.D.Domain.holds c.args.at.now in
    let t = c.args.target.now in
    let n = count_of (g.D.Domain.shape_of c.args.at.now) in
    let m = count_of t in
    let parts = c.in_ok-middle.middle.parts.items in
    let good = c.in_ok-middle.ensures.good n m c.requires.picks c.requires.arguments in
    let one = c.deref.ensures.value in
    let two = c.deref-2.ensures.value in
    let three = c.deref-3.ensures.value in
    record {
      kept = λ p i im.
          let behind = subst (λ (x : Shape). InShape x p) c.put_others.ensures.shape i in
          let here = subst (λ (x : Shape). InShape x p) c.in_ok-behind.ensures.shape behind in
          let middle = middle_inside (g.D.Domain.shape_of c.args.at.now) t c.in_ok-shape.shape parts im.was p 4294967295 c.requires.call_shaped c.requires.shaped good c.in_ok-shape.ensures.middle (g.met.D.Domain.inside c.args.at.now im.was im.point) here in
          let first = c.in_ok-state.ensures.crossed im.was p im.point (subst (λ (ps : List Part). InShape c.in_ok-shape.shape (middle_point ps im.was p)) (sym two) middle) im.cells in
          let first_here = subst (λ (ps : List Part). g.D.Domain.holds c.in_ok-state.state (middle_point ps im.was p)) (two ∙ sym one) first in
          let inside = subst (λ (x : Shape). InShape x (middle_point c.deref.result.now im.was p)) (sym c.in_ok-state.ensures.shape) (subst (λ (ps : List Part). InShape c.in_ok-shape.shape (middle_point ps im.was p)) (sym one) middle) in
          let second = c.in_ok-put_arguments.ensures.kept.kept im.was p inside first_here (im.point, im.given) in
          let second_here = subst (λ (ps : List Part). g.D.Domain.holds c.put_arguments.new.state (middle_point ps im.was p)) (one ∙ sym three) second in
          let third = c.in_ok-behind.ensures.crossed im.was p second_here here im.numbers in
          let ranges : All (λ (it : Argument). InRange Has it.form (p.values it.parameter)) c.args.call.now.arguments.now = λ k d l. given_range Has _ im.was _ im.point (im.given k d l) in
          c.put_others.ensures.kept.kept p behind third ranges;
    }
