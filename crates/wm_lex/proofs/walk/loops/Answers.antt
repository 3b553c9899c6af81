use Rattle.std.proofs.Common.{sym}
use Rattle.std.proofs.lemmas.Result.{IfOk-weaker}
use Rattle.wm_lex.proofs.Expansion.{plain_no_loop, reached}
use Rattle.wm_lex.proofs.WalkSteps.{place_none, place_list}
use Rattle.wm_lex.specs.Walks.{list_at}
use Rattle.wm_lex.proofs.walk.loops.Goals as goal

pub returns-in-None : goal.returns-in-None
returns-in-None c = sym (plain_no_loop c.args.definitions.now c.args.lexeme.now (place_none c.args.definitions.now c.args.lexeme.now (sym c.in-None.ensures.place)))

pub returns-in-Some : goal.returns-in-Some
returns-in-Some c = IfOk-weaker c.reaches_itself.result _ _ (λ looped h. reached c.args.definitions.now c.args.lexeme.now (list_at c.args.definitions.now c.in-Some.start) looped (place_list c.args.definitions.now c.args.lexeme.now c.in-Some.start (sym c.in-Some.ensures.place)) h) c.reaches_itself.ensures
