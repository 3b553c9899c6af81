use Rattle.std.proofs.Common.{ℕ, ◌<◌, ◌∙◌, sym, subst}
use Rattle.wm_domain.specs.declared.shape.Shape.{Shape}
use Rattle.wm_domain.specs.Points.{Point}
use Rattle.wm_domain.specs.States.{count_of, InShape}
use Rattle.wm_carry.proofs.Reaching.{least_as, bare_least}
use Rattle.wm_assign.specs.Allowing.{Allowed}
use Rattle.wm_assign.specs.Giving.{Sets}
use Rattle.wm_step.specs.Operating.{OperateImage, FlagsSomewhere}
use Rattle.wm_operated.specs.Raising.{Raised}
use Rattle.wm_filters.proofs.Staying.{word_at}
use Rattle.wm_operated.proofs.Applying.{first_form, seen_by, has_word, before_flag, result_set, flag_set}
use Rattle.wm_operated.proofs.Raising.{raised_through, operate_of}
use Rattle.wm_operated.proofs.operating.operated.Goals as goal

pub returns-in_ok-state-in-None-clause-sound : goal.returns-in_ok-state-in-None-clause-sound
returns-in_ok-state-in-None-clause-sound g c = record { kept = λ p i m. absurd (c.in-None.ensures.exact m.value.some) }

pub set-requires-clause-fit : goal.set-requires-clause-fit
set-requires-clause-fit g c =
    let s = c.args.way.now.source.now in
    c.in_ok-value-in-Some.ensures.fit s c.args.way.now.target.now c.args.target (seen_by s c.args.way.now.target.now c.args.target c.args.args.now (first_form (count_of s) c.args.args.now c.requires.forms) c.requires.seen)

pub returns-in_ok-flagged-in-Some-clause-sound : goal.returns-in_ok-flagged-in-Some-clause-sound
returns-in_ok-flagged-in-Some-clause-sound g c =
    let s = c.args.way.now.source.now in
    let t = c.args.way.now.target.now in
    let Has = g.D.Domain.holds c.args.at.now in
    let v = c.args.target in
    let o = c.args.overflow in
    let args = c.args.args.now in
    let first = first_form (count_of s) args c.requires.forms in
    record {
      kept = λ p i m.
          let middle = subst (λ (x : Shape). InShape x p) c.in_ok-flagged-in-Some.ensures.shape i in
          let here = subst (λ (x : Shape). InShape x p) c.in_ok-state-in-Some.ensures.shape middle in
          let inside : (x : Point) → Has x → InShape s x = λ x h. subst (λ (sh : Shape). InShape sh x) c.requires.shape (g.met.D.Domain.inside c.args.at.now x h) in
          let b = before_flag s t Has c.args.op args v o p c.requires.way inside c.requires.flag_inside here m in
          let allowed = (c.in_ok-value-in-Some.ensures.exact m.was (p.values v) m.carried.point (word_at t p v c.requires.way.target_shape here c.requires.inside) (has_word s args m.was c.requires.way.source_shape (inside m.was m.carried.point) first)).1 m.value in
          let kept = c.in_ok-state-in-Some.ensures.sound.kept b.point (subst (λ (x : Shape). InShape x b.point) (sym c.in_ok-state-in-Some.ensures.shape) b.inside) (result_set s t Has v o (Allowed c.in_ok-value-in-Some.value) m.was p c.requires.apart b allowed) in
          c.in_ok-flagged-in-Some.ensures.sound.kept p i (record { was = b.point; point = kept; others = b.others; value = flag_set s t Has c.args.op args c.in-Some.all v o m.was p c.requires.flag c.in-Some.ensures.exact.0 b m.flag });
    }

pub returns-in_ok-state-in-None-clause-least : goal.returns-in_ok-state-in-None-clause-least
returns-in_ok-state-in-None-clause-least g c = bare_least g.D.Domain.holds g.D.Domain.shape_of c.in_ok-state-in-None.state
    (OperateImage c.args.way.now.source.now c.args.way.now.target.now (g.D.Domain.holds c.args.at.now) c.args.op c.args.args.now c.args.target c.args.overflow) c.in_ok-state-in-None.ensures.bare

pub returns-in_ok-flagged-in-Some-clause-least : goal.returns-in_ok-flagged-in-Some-clause-least
returns-in_ok-flagged-in-Some-clause-least g c =
    let s = c.args.way.now.source.now in
    let t = c.args.way.now.target.now in
    let Has = g.D.Domain.holds c.args.at.now in
    let v = c.args.target in
    let o = c.args.overflow in
    let args = c.args.args.now in
    let value = c.in_ok-value-in-Some.value in
    let May = FlagsSomewhere c.args.op c.in-Some.all in
    let first = first_form (count_of s) args c.requires.forms in
    let inside : (x : Point) → Has x → InShape s x = λ x h. subst (λ (sh : Shape). InShape sh x) c.requires.shape (g.met.D.Domain.inside c.args.at.now x h) in
    least_as g.D.Domain.holds g.D.Domain.shape_of c.flagged.new.state (Raised (Sets s t Has v (Allowed value)) May o) (OperateImage s t Has c.args.op args v o)
    (λ p i r.
    let here = subst (λ (x : Shape). InShape x p) (c.in_ok-flagged-in-Some.ensures.shape ∙ c.in_ok-state-in-Some.ensures.shape) i in
    operate_of s t Has c.args.op args c.in-Some.all value v o p c.requires.apart c.requires.flag_inside c.requires.flag c.in-Some.ensures.exact.0
    (λ was h. (c.in_ok-value-in-Some.ensures.exact was (p.values v) h (word_at t p v c.requires.way.target_shape here c.requires.inside) (has_word s args was c.requires.way.source_shape (inside was h) first)).0) r)
    (raised_through g.row.D.Denot g.D.Domain.PAIRS g.D.Domain.holds g.D.Domain.shape_of (record { inside = g.met.D.Domain.inside; closed = g.met.D.Domain.closed; cuts = g.met.D.Domain.cuts }) (λ s p q a h. g.met.D.Domain.alike s p q a h)
    c.in_ok-state-in-Some.state c.flagged.new.state (Sets s t Has v (Allowed value)) May o (subst (λ (x : Shape). o < count_of x) (sym c.in_ok-state-in-Some.ensures.shape) c.requires.flag_inside) c.in_ok-flagged-in-Some.ensures.shape
    c.in_ok-state-in-Some.ensures.sound c.in_ok-state-in-Some.ensures.least c.in_ok-flagged-in-Some.ensures.least)
