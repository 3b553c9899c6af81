use Rattle.wm_lex.proofs.FaultOrder.{least_fault}
use Rattle.wm_lex.proofs.LoopLaw.{loops_is}
use Rattle.wm_lex.proofs.laws.lex_laws.Goals as goal

pub returns : goal.returns
returns c = record { least = least_fault; loops = loops_is }
