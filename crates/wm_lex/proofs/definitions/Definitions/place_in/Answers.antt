use Rattle.wm_lex.proofs.MacroPlaces.{place_within}
use Rattle.wm_lex.proofs.definitions.Definitions.place_in.Goals as goal

pub returns-clause-within : goal.returns-clause-within
returns-clause-within c = place_within c.args.word.now c.args.self.now c.found.result c.found.ensures
