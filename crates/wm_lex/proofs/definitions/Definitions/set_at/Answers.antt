use Rattle.std.proofs.Common.{List, get_or, sym, ap, ◌∙◌}
use Rattle.wm_lex.specs.declared.definitions.Macro.{Macro}
use Rattle.wm_lex.proofs.MacroPlaces.{place_in-set}
use Rattle.wm_lex.proofs.definitions.Definitions.set_at.Goals as goal

pub invariant_of-self : goal.invariant_of-self
invariant_of-self c = λ word. c.self.invariant word ∙ sym (place_in-set word c.self.inside.macros.items c.args.place c.args.new c.args.new (c.requires.same ∙ ap (λ (l : List Macro). (get_or l c.args.place c.args.new).name) (sym c.self.view_is)))
