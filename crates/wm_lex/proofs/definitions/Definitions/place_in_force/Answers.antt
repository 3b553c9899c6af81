use Rattle.std.proofs.Common.{sym, ◌∙◌}
use Rattle.wm_lex.proofs.MacroPlaces.{absent, force_true, force_false}
use Rattle.wm_lex.proofs.definitions.Definitions.place_in_force.Goals as goal

pub returns-in-None-clause-place : goal.returns-in-None-clause-place
returns-in-None-clause-place c = sym (absent c.args.word.now c.args.self.now (sym c.in-None.ensures.place)).in_force

pub returns-then-is_in_force-clause-place : goal.returns-then-is_in_force-clause-place
returns-then-is_in_force-clause-place c = force_true c.args.word.now c.args.self.now c.in-Some.place c.macro_at.result.now c.in-Some.ensures.place c.macro_at.ensures (sym c.if-is_in_force.ensures)

pub returns-else-is_in_force-clause-place : goal.returns-else-is_in_force-clause-place
returns-else-is_in_force-clause-place c = force_false c.args.word.now c.args.self.now c.in-Some.place c.macro_at.result.now c.in-Some.ensures.place c.macro_at.ensures (sym c.if-is_in_force.ensures)
