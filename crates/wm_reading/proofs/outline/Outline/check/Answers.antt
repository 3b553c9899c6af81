use Rattle.std.proofs.Common.{◌∙◌, ap, Bool}
use Rattle.std.specs.Prelude.{if◌then◌else◌}
use Rattle.wm_scope.specs.Names.{outermost}
use Rattle.wm_scope.specs.declared.fault.TokenFault.TheVariants.{Redefined}
use Rattle.wm_reading.specs.Outlines.{is_nothing, told, told_outermost}
use Rattle.wm_reading.proofs.outline.Outline.check.Goals as goal

pub returns : goal.returns
unfolding told_outermost
returns c =
    c.tell_unless.ensures
    ∙ ap (λ (b : Bool). if b then c.args.self.now else told Redefined c.args.name.now.at c.args.self.now)
    (c.is_nothing-is_free.ensures ∙ ap is_nothing (c.outermost.ensures.meaning ∙ ap outermost c.bytes.ensures.bytes))
