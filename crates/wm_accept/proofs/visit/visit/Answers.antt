use Rattle.std.proofs.Common.{sym, subst, ◌∙◌}
use Rattle.wm_images.specs.Labels.{AreShaped}
use Rattle.wm_accept.specs.Entries.{AreTried}
use Rattle.wm_accept.specs.Live.{AreLive}
use Rattle.wm_accept.proofs.Living.{live_more}
use Rattle.wm_accept.proofs.Going.{below, shaped_more, watched_next}
use Rattle.wm_accept.proofs.visit.visit.Goals as goal

pub label_of-requires-clause-head : goal.label_of-requires-clause-head
label_of-requires-clause-head g c = c.head_of-head.ensures ∙ c.requires.rows.heads c.args.node c.requires.inside

pub label_of-requires-clause-into : goal.label_of-requires-clause-into
label_of-requires-clause-into g c = c.into_at.ensures ∙ c.requires.rows.into c.args.node c.requires.inside

pub label_of-requires-clause-kept : goal.label_of-requires-clause-kept
label_of-requires-clause-kept g c = c.requires.standing.standing.shaped

pub keep-requires : goal.keep-requires
keep-requires g c = record { before = below c.requires.standing.standing.labels c.args.node c.args.kept.now.1 c.requires.standing.standing.count c.requires.standing.standing.are_of }

pub try_entry-requires-clause-kept : goal.try_entry-requires-clause-kept
try_entry-requires-clause-kept g c =
    subst (λ ps. AreShaped g.D.Domain.shape_of c.args.graph.now ps) (sym c.in_ok-keep.ensures.kept)
    (shaped_more g.M.Images.allowed g.M.Images.started g.D.Domain.holds g.D.Domain.shape_of c.args.program.now c.args.graph.now c.args.states.now c.args.kept.now.1 c.args.node c.in_ok-label.label c.requires.standing.standing.shaped c.in_ok-label.ensures.made.shape)

pub returns-clause-standing : goal.returns-clause-standing
returns-clause-standing g c =
    watched_next g.M.Images.allowed g.M.Images.started g.D.Domain.holds g.D.Domain.shape_of c.args.program.now c.args.graph.now c.args.states.now c.args.kept.now.1 c.args.node c.in_ok-label.label c.args.entries.now c.try_entry.new.entries c.ended_at.result.now c.requires.standing.standing c.in_ok-label.ensures.made
    (subst (λ ps. AreTried g.M.Images.allowed g.D.Domain.holds g.D.Domain.shape_of c.args.graph.now c.args.states.now ps c.args.entries.now c.try_entry.new.entries) c.in_ok-keep.ensures.kept c.in_ok-try_entry.ensures.tried)
    (λ labels. g.W.Watcher.saw c.args.program.now c.args.graph.now c.see.new.self labels × AreLive g.M.Images.allowed g.D.Domain.holds g.D.Domain.shape_of c.args.graph.now c.try_entry.new.live labels)
    c.keep.new.kept.1 c.give_up_all.new.kept.1 c.in_ok-keep.ensures.kept c.give_up_all.ensures.given_up
    (c.in_ok-see.ensures.saw c.requires.standing.standing.labels c.requires.standing.saw.0, live_more g.M.Images.allowed g.D.Domain.holds g.D.Domain.shape_of c.args.graph.now c.requires.standing.standing.labels c.args.kept.now.1 c.keep.new.kept.1 c.args.node c.in_ok-label.label c.args.live.now c.label_of.new.live c.try_entry.new.live c.requires.standing.standing.count c.requires.standing.standing.are_of c.requires.standing.saw.1 c.in_ok-label.ensures.noted c.in_ok-keep.ensures.kept c.in_ok-try_entry.ensures.noted)
