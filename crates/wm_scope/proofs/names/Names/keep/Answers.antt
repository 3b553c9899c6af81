use Rattle.std.proofs.Common.{◌∙◌}
use Rattle.wm_scope.proofs.Declared.{kept-all}
use Rattle.wm_scope.proofs.names.Names.keep.Goals as goal

pub returns : goal.returns
returns c = record {
  kept = c.loop.invariant.left
      ∙ kept-all c.args.self.now c.len-end.result c.args.count c.loop.counter c.loop.invariant.all c.loop.auto.counter c.loop.auto.counter-end c.loop.invariant.short c.loop-test.false;
}
