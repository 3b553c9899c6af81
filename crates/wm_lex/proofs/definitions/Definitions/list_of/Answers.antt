use Rattle.std.proofs.Common.{sym, ◌∙◌}
use Rattle.wm_lex.proofs.MacroPlaces.{absent, read_list}
use Rattle.wm_lex.proofs.definitions.Definitions.list_of.Goals as goal

pub returns-in-None : goal.returns-in-None
returns-in-None c = sym (absent c.args.word.now c.args.self.now (sym c.in-None.ensures.place)).list

pub returns-in-Some : goal.returns-in-Some
returns-in-Some c = c.list_in.ensures ∙ read_list c.args.word.now c.args.self.now c.in-Some.place c.macro_at.result.now c.in-Some.ensures.place c.macro_at.ensures
