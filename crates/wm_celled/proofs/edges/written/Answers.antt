use Rattle.std.proofs.Common.{◌≡◌, List, ap, subst, sym, ◌∙◌}
use Rattle.wm_interval.specs.declared.Interval.{Interval}
use Rattle.wm_interval.specs.Holds.{Holds}
use Rattle.wm_domain.specs.Points.{range_at}
use Rattle.wm_domain.specs.declared.shape.Shape.{Shape}
use Rattle.wm_domain.specs.States.{InShape}
use Rattle.wm_carry.proofs.Reaching.{bare_least}
use Rattle.wm_celled.specs.Cells.{WrittenTo}
use Rattle.wm_celled.proofs.Celling.{keeps_written, written_least}
use Rattle.wm_celled.proofs.edges.written.Goals as goal

pub returns-in_ok-state-in-None-clause-sound : goal.returns-in_ok-state-in-None-clause-sound
returns-in_ok-state-in-None-clause-sound g c =
    let full : c.range_of-full.result ≡ range_at c.args.way.now.target.now.arrays c.args.array = c.range_of-full.ensures ∙ ap (λ (xs : List Interval). range_at xs c.args.array) c.items.ensures.items in
    record { kept = λ p i h. absurd (c.in-None.ensures.exact h.number h.in_range (subst (λ (x : Interval). Holds x h.number) (sym full) h.fits)) }

pub returns-in_ok-state-in-Some-clause-sound : goal.returns-in_ok-state-in-Some-clause-sound
returns-in_ok-state-in-Some-clause-sound g c =
    let way = c.args.way.now in
    let full : c.range_of-full.result ≡ range_at way.target.now.arrays c.args.array = c.range_of-full.ensures ∙ ap (λ (xs : List Interval). range_at xs c.args.array) c.items.ensures.items in
    keeps_written g.D.Domain.holds g.D.Domain.shape_of c.in_ok-state-in-Some.state c.write.new.self way.source.now way.target.now (g.D.Domain.holds c.args.at.now) c.args.array c.args.length c.range_of-full.result c.in-Some.r c.args.value.now c.requires.way
    (λ x h. subst (λ (sh : Shape). InShape sh x) c.requires.shape (g.met.D.Domain.inside c.args.at.now x h))
    c.requires.before c.requires.inside c.in_ok-state-in-Some.ensures.shape (c.write.ensures.shape ∙ c.in_ok-state-in-Some.ensures.shape) full c.in-Some.ensures.exact c.in_ok-state-in-Some.ensures.sound c.write.ensures.sound

pub returns-in_ok-state-in-None-clause-least : goal.returns-in_ok-state-in-None-clause-least
returns-in_ok-state-in-None-clause-least g c =
    let way = c.args.way.now in
    bare_least g.D.Domain.holds g.D.Domain.shape_of c.in_ok-state-in-None.state
    (WrittenTo way.source.now way.target.now (g.D.Domain.holds c.args.at.now) c.args.array (range_at way.target.now.arrays c.args.array) c.args.value.now c.args.length)
    c.in_ok-state-in-None.ensures.bare

pub returns-in_ok-state-in-Some-clause-least : goal.returns-in_ok-state-in-Some-clause-least
returns-in_ok-state-in-Some-clause-least g c =
    let way = c.args.way.now in
    let full : c.range_of-full.result ≡ range_at way.target.now.arrays c.args.array = c.range_of-full.ensures ∙ ap (λ (xs : List Interval). range_at xs c.args.array) c.items.ensures.items in
    written_least g.row.D.Denot g.D.Domain.PAIRS g.D.Domain.holds g.D.Domain.shape_of (record { inside = g.met.D.Domain.inside; closed = g.met.D.Domain.closed; cuts = g.met.D.Domain.cuts }) way.source.now way.target.now c.requires.way c.args.at.now c.in_ok-state-in-Some.state c.write.new.self
    c.requires.shape c.in_ok-state-in-Some.ensures.shape c.in_ok-state-in-Some.ensures.sound c.in_ok-state-in-Some.ensures.least c.args.array c.args.length c.range_of-full.result c.in-Some.r c.args.value.now
    c.requires.before c.requires.inside full c.in-Some.ensures.exact c.write.ensures.least
