use Rattle.std.proofs.Common.{sym, subst}
use Rattle.std.specs.Prelude.{Bool, IsTrue, ◌↔◌}
use Rattle.wm_domain.specs.Points.{Point}
use Rattle.wm_spans.specs.Spanned.{In}
use Rattle.wm_boxes.proofs.Others.{bare_is}
use Rattle.wm_boxes.proofs.boxes.BoxesDomain.is_empty.Goals as goal

pub returns : goal.returns
returns c = record { points = subst (λ (b : Bool). IsTrue b ↔ ((p : Point) → In c.args.self.now.spans p → ⊥)) (sym c.is_empty.ensures.value) (bare_is c.args.self.now.spans c.is_empty.ensures.kept) }
