use Rattle.std.proofs.Common.{sym, ap, ◌∙◌}
use Rattle.wm_lex.specs.Macros.{ended}
use Rattle.wm_lex.specs.declared.definitions.Macro.{Macro}
use Rattle.wm_lex.proofs.MacroPlaces.{place_in-set}
use Rattle.wm_lex.proofs.definitions.Definitions.end_at.Goals as goal

pub invariant_of-self : goal.invariant_of-self
invariant_of-self c = λ word. c.self.invariant word ∙ sym (place_in-set word c.self.inside.macros.items c.args.place (ended c.index_mut-found.result.now) c.index_mut-found.result.now (ap (λ (m : Macro). m.name) c.index_mut-found.ensures.value))
