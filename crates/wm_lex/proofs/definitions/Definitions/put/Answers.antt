use Rattle.std.proofs.Common.{sym, ◌∙◌, refl}
use Rattle.std.proofs.lemmas.Result.{on_ok_weaker}
use Rattle.wm_lex.proofs.MacroPlaces.{put_place, put_new}
use Rattle.wm_lex.proofs.definitions.Definitions.put.Goals as goal

pub set_at-requires-clause-same : goal.set_at-requires-clause-same
set_at-requires-clause-same c = sym (put_place c.args.new c.args.self.now c.in-Some.place c.bytes.result.now c.bytes.ensures.bytes c.in-Some.ensures.place).name

pub returns-in-Some : goal.returns-in-Some
returns-in-Some c = c.set_at.ensures ∙ sym ((put_place c.args.new c.args.self.now c.in-Some.place c.bytes.result.now c.bytes.ensures.bytes c.in-Some.ensures.place).put_is c.args.new refl)

pub returns-in-None : goal.returns-in-None
returns-in-None c = on_ok_weaker c.add.result (λ e. e ∙ put_new c.args.new c.args.self.now c.bytes.result.now c.bytes.ensures.bytes c.in-None.ensures.place) c.add.ensures
