use Rattle.std.proofs.Common.{◌≡◌, length}
use Rattle.wm_accept.specs.Live.{AreLive}
use Rattle.wm_accept.specs.Watched.{Watched}
use Rattle.wm_accept.proofs.walking.walk.Given as goal

abbrev pub invariant-loop-node : goal.invariant-loop-node
invariant-loop-node g l = record {
  same : length l.live ≡ length l.fn.live;
  entries : length l.entries.items ≡ length l.graph.heads;
  standing : Watched g.M.Images.allowed g.M.Images.started g.D.Domain.holds g.D.Domain.shape_of (λ labels. g.W.Watcher.saw l.program l.graph l.watcher labels × AreLive g.M.Images.allowed g.D.Domain.holds g.D.Domain.shape_of l.graph l.live labels) l.program l.graph l.states l.kept.1 l.entries.items l.node;
  next : g.W.Watcher.next l.watcher l.node;
}
