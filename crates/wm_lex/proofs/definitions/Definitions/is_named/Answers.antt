use Rattle.std.proofs.Common.{sym, ◌∙◌}
use Rattle.wm_lex.proofs.MacroPlaces.{absent, read_named}
use Rattle.wm_lex.proofs.definitions.Definitions.is_named.Goals as goal

pub returns-in-None : goal.returns-in-None
returns-in-None c = sym (absent c.args.word.now c.args.self.now (sym c.in-None.ensures.place)).named

pub returns-in-Some : goal.returns-in-Some
returns-in-Some c = c.is_named_macro.ensures ∙ read_named c.args.word.now c.args.self.now c.in-Some.place c.macro_at.result.now c.in-Some.ensures.place c.macro_at.ensures
