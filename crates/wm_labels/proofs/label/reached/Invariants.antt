use Rattle.std.proofs.Common.{◌≡◌, length, take}
use Rattle.std.specs.Prelude.{All, IfSome, MatchOption}
use Rattle.wm_domain.specs.States.{Keeps}
use Rattle.wm_images.specs.Nodes.{node_shape}
use Rattle.wm_images.specs.Labels.{Receives}
use Rattle.wm_labels.specs.Live.{AreNoted}
use Rattle.wm_labels.proofs.label.reached.Given as goal

abbrev pub invariant-loop-number : goal.invariant-loop-number
invariant-loop-number g l = record {
  same : length l.live ≡ length l.fn.live;
  noted : AreNoted g.M.Images.allowed g.D.Domain.holds g.D.Domain.shape_of l.graph l.kept.1 l.fn.live l.live;
  shape : IfSome l.state (λ s. g.D.Domain.shape_of s ≡ node_shape l.graph l.node);
  start : l.node ≡ 0 → MatchOption l.state ⊥ (λ s. Keeps g.D.Domain.holds g.D.Domain.shape_of s (g.M.Images.started l.program l.graph));
  edges : MatchOption l.state (l.number-index ≡ 0) (λ s. All (λ number. Receives g.M.Images.allowed g.D.Domain.holds g.D.Domain.shape_of l.graph l.kept.1 number s) (take l.number-index l.into));
}
