use Rattle.std.proofs.Common.{List, ◌+◌, ap, sym, subst}
use Rattle.wm_cert_text.specs.declared.told.Head as texts
use Rattle.wm_cert_write.specs.Heads.{AreHeads}
use Rattle.wm_cert_write.proofs.Pushed.{heads_pushed}
use Rattle.wm_cert_write.proofs.written.told_heads.Goals as goal

pub loop-head-preserved : goal.loop-head-preserved
loop-head-preserved g c = record {
  at = ap (λ m. m + 1) c.loop-head.invariant.at;
  heads = subst (λ (xs : List texts.Head). AreHeads g.D.Domain.shape_of g.D.Domain.holds g.D.Domain.PAIRS c.args.graph.now c.args.states.now (c.loop-head.number + 1) xs) (sym c.in_ok-push.ensures.grown)
      (heads_pushed g.D.Domain.shape_of g.D.Domain.holds g.D.Domain.PAIRS c.args.graph.now c.args.states.now c.loop-head.number c.loop-head.told c.in_ok-numbered_head.field-0 c.loop-head.invariant.heads c.in_ok-numbered_head.ensures.text);
}
