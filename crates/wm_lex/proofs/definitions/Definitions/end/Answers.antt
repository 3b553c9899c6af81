use Rattle.std.proofs.Common.{[], None, false, sym, ◌∙◌}
use Rattle.wm_lex.specs.declared.definitions.Macro.{Macro}
use Rattle.wm_lex.proofs.MacroPlaces.{at_place, absent}
use Rattle.wm_lex.proofs.definitions.Definitions.end.Goals as goal

pub returns-in-None : goal.returns-in-None
returns-in-None c = sym (absent c.args.word.now c.args.self.now (sym c.in-None.ensures.place)).ended_is

pub returns-in-Some : goal.returns-in-Some
returns-in-Some c =
    let m : Macro = record { name = []; lexemes = None; is_first = false } in
    c.end_at.ensures m ∙ sym (at_place c.args.word.now c.args.self.now c.in-Some.place m (sym c.in-Some.ensures.place)).ended_is
