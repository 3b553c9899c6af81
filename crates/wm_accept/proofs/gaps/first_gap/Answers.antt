use Rattle.std.proofs.Common.{◌≡◌, sym, subst, ◌∙◌, Some, rules}
use Rattle.std.specs.Prelude.{slice_get}
use Rattle.wm_labels.proofs.Noting.{noted_more}
use Rattle.wm_accept.specs.declared.entries.Entry.TheVariants.{Held}
use Rattle.wm_accept.specs.Entries.{IsClosed}
use Rattle.wm_accept.proofs.Ending.{up_to, none_of}
use Rattle.wm_accept.proofs.gaps.first_gap.Goals as goal

pub loop-place-preserved : goal.loop-place-preserved
loop-place-preserved g c =
    let before = c.loop-place.invariant in
    let none = sym c.is_some.ensures ∙ c.if-is_some.false in
    let same : c.in-Ok.number ≡ c.loop-place.place = search rules in
    record {
      same = c.gap_at.ensures.same ∙ before.same;
      noted = noted_more g.M.Images.allowed g.D.Domain.holds g.D.Domain.shape_of c.args.graph.now c.args.kept.now.1 c.args.live.now c.loop-place.live c.gap_at.new.live before.noted c.in_ok-gap.ensures.noted;
      entries = up_to (λ k. slice_get c.args.entries.now k ≡ Some Held) c.loop-place.place before.entries
          (subst (λ k. slice_get c.args.entries.now k ≡ Some Held) same (none_of c.in_ok-gap.gap (slice_get c.args.entries.now c.in-Ok.number ≡ Some Held) none c.in_ok-gap.ensures.entry));
      closed = up_to (λ k. IsClosed g.M.Images.allowed g.D.Domain.holds g.D.Domain.shape_of c.args.graph.now c.args.states.now c.args.kept.now.1 k) c.loop-place.place before.closed
          (subst (λ k. IsClosed g.M.Images.allowed g.D.Domain.holds g.D.Domain.shape_of c.args.graph.now c.args.states.now c.args.kept.now.1 k) same (none_of c.in_ok-gap.gap (IsClosed g.M.Images.allowed g.D.Domain.holds g.D.Domain.shape_of c.args.graph.now c.args.states.now c.args.kept.now.1 c.in-Ok.number) none c.in_ok-gap.ensures.closed));
    }
