use Rattle.std.proofs.Common.{◌∙◌}
use Rattle.wm_lex.proofs.WalkSteps.{list_read}
use Rattle.wm_lex.proofs.walk.list_at.Goals as goal

pub returns : goal.returns
returns c = c.list_of_macro.ensures ∙ list_read c.args.definitions.now c.args.place c.macro_at.result.now c.requires c.macro_at.ensures
