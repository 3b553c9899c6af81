use Rattle.std.proofs.Common.{◌≡◌, ap, sym, subst, ◌∙◌, length, ◌+◌, arith}
use Rattle.wm_accept.specs.Live.{AreLive}
use Rattle.wm_accept.specs.Watched.{Watched}
use Rattle.wm_accept.proofs.Ending.{whole_again, watched_init, entry_count, accepted_watched}
use Rattle.wm_accept.proofs.Living.{live_first, live_seen, seen_watched}
use Rattle.wm_accept.proofs.walking.walk.Goals as goal

pub loop-node-init : goal.loop-node-init
loop-node-init g c =
    record {
      same = c.mark_all.ensures.same;
      entries = entry_count c.in_ok-entries.entries.items (length c.items-2.result.now) (length c.args.graph.now.heads) c.in_ok-entries.ensures (ap length c.items-2.ensures.items);
      standing = watched_init g.M.Images.allowed g.M.Images.started g.D.Domain.holds g.D.Domain.shape_of c.args.program.now c.args.graph.now c.args.states.now (λ labels. g.W.Watcher.saw c.args.program.now c.args.graph.now c.args.watcher.now labels × AreLive g.M.Images.allowed g.D.Domain.holds g.D.Domain.shape_of c.args.graph.now c.mark_all.new.marks labels) c.in_ok-kept.kept.1 c.in_ok-entries.entries.items (length c.items-2.result.now) (ap (λ k. k.1) c.in_ok-kept.ensures.empty) c.in_ok-entries.ensures
          (c.requires.saw, live_first g.M.Images.allowed g.D.Domain.holds g.D.Domain.shape_of c.args.graph.now c.mark_all.new.marks c.mark_all.ensures.all);
      next = c.requires.next;
    }

pub returns-clause-live : goal.returns-clause-live
returns-clause-live g c =
    let e : length c.items.result.now ≡ length c.args.graph.now.node_shape = ap length c.items.ensures.items in
    let n : c.loop-node.node ≡ length c.args.graph.now.node_shape = omega (arith, c.in-Ok.ensures) in
    live_seen g.M.Images.allowed g.M.Images.started g.D.Domain.holds g.D.Domain.shape_of c.args.program.now c.args.graph.now c.args.states.now (g.W.Watcher.saw c.args.program.now c.args.graph.now c.loop-node.watcher) c.loop-node.kept.1 c.loop-node.entries.items c.loop-node.node c.loop-node.live c.first_gap.new.live c.loop-node.invariant.standing n c.loop-node.invariant.entries c.as_slice.result.now c.as_slice.ensures.value c.first_gap.result c.first_gap.ensures.noted c.first_gap.ensures.entries c.first_gap.ensures.closed

pub returns-clause-watched : goal.returns-clause-watched
returns-clause-watched g c =
    let e : length c.items.result.now ≡ length c.args.graph.now.node_shape = ap length c.items.ensures.items in
    let n : c.loop-node.node ≡ length c.args.graph.now.node_shape = omega (arith, c.in-Ok.ensures) in
    seen_watched g.M.Images.allowed g.M.Images.started g.D.Domain.holds g.D.Domain.shape_of c.args.program.now c.args.graph.now c.args.states.now (g.W.Watcher.saw c.args.program.now c.args.graph.now c.loop-node.watcher) c.first_gap.new.live c.first_gap.result
    (live_seen g.M.Images.allowed g.M.Images.started g.D.Domain.holds g.D.Domain.shape_of c.args.program.now c.args.graph.now c.args.states.now (g.W.Watcher.saw c.args.program.now c.args.graph.now c.loop-node.watcher) c.loop-node.kept.1 c.loop-node.entries.items c.loop-node.node c.loop-node.live c.first_gap.new.live c.loop-node.invariant.standing n c.loop-node.invariant.entries c.as_slice.result.now c.as_slice.ensures.value c.first_gap.result c.first_gap.ensures.noted c.first_gap.ensures.entries c.first_gap.ensures.closed)

pub returns-clause-accepted : goal.returns-clause-accepted
returns-clause-accepted g c =
    let e : length c.items.result.now ≡ length c.args.graph.now.node_shape = ap length c.items.ensures.items in
    let n : c.loop-node.node ≡ length c.args.graph.now.node_shape = omega (arith, c.in-Ok.ensures) in
    accepted_watched g.M.Images.allowed g.M.Images.started g.D.Domain.holds g.D.Domain.shape_of c.args.program.now c.args.graph.now c.args.states.now (g.W.Watcher.saw c.args.program.now c.args.graph.now c.loop-node.watcher) c.first_gap.result
    (seen_watched g.M.Images.allowed g.M.Images.started g.D.Domain.holds g.D.Domain.shape_of c.args.program.now c.args.graph.now c.args.states.now (g.W.Watcher.saw c.args.program.now c.args.graph.now c.loop-node.watcher) c.first_gap.new.live c.first_gap.result
    (live_seen g.M.Images.allowed g.M.Images.started g.D.Domain.holds g.D.Domain.shape_of c.args.program.now c.args.graph.now c.args.states.now (g.W.Watcher.saw c.args.program.now c.args.graph.now c.loop-node.watcher) c.loop-node.kept.1 c.loop-node.entries.items c.loop-node.node c.loop-node.live c.first_gap.new.live c.loop-node.invariant.standing n c.loop-node.invariant.entries c.as_slice.result.now c.as_slice.ensures.value c.first_gap.result c.first_gap.ensures.noted c.first_gap.ensures.entries c.first_gap.ensures.closed))

pub loop-node-preserved : goal.loop-node-preserved
loop-node-preserved g c =
    let e = whole_again c.loop-node.entries.len c.visit.new.entries c.loop-node.entries.items c.as_mut_slice.result.now c.visit.auto.entries c.as_mut_slice.ensures.value c.as_mut_slice.ensures.len in
    record {
      same = c.in_ok-visit.ensures.same ∙ c.loop-node.invariant.same;
      entries = ap length e ∙ c.visit.auto.entries ∙ ap length c.as_mut_slice.ensures.value ∙ c.loop-node.invariant.entries;
      standing = subst (λ es. Watched g.M.Images.allowed g.M.Images.started g.D.Domain.holds g.D.Domain.shape_of (λ labels. g.W.Watcher.saw c.args.program.now c.args.graph.now c.visit.new.watcher labels × AreLive g.M.Images.allowed g.D.Domain.holds g.D.Domain.shape_of c.args.graph.now c.visit.new.live labels) c.args.program.now c.args.graph.now c.args.states.now c.visit.new.kept.1 es (c.loop-node.node + 1)) (sym e) c.in_ok-visit.ensures.standing;
      next = c.in_ok-visit.ensures.next;
    }

pub visit-requires-clause-standing : goal.visit-requires-clause-standing
visit-requires-clause-standing g c =
    subst (λ es. Watched g.M.Images.allowed g.M.Images.started g.D.Domain.holds g.D.Domain.shape_of (λ labels. g.W.Watcher.saw c.args.program.now c.args.graph.now c.loop-node.watcher labels × AreLive g.M.Images.allowed g.D.Domain.holds g.D.Domain.shape_of c.args.graph.now c.loop-node.live labels) c.args.program.now c.args.graph.now c.args.states.now c.loop-node.kept.1 es c.loop-node.node) (sym c.as_mut_slice.ensures.value) c.loop-node.invariant.standing
