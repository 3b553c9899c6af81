-- The program of sources, or the refusal of the call for what is wrong with them: the texts first, then the unit, its
-- structs, its names and limits.
use Rattle.std.specs.Prelude.{ℕ, List, Result}
use Rattle.wm_lang.specs.declared.token.Token.{Token}
use Rattle.wm_lang.specs.declared.unit.Unit.{Unit as Source}
use Rattle.wm_link.specs.Linked.{linked}
use Rattle.wm_program.specs.declared.program.Program.{Program}
use Rattle.wm_program.specs.declared.spec.Spec.{Spec}
use Rattle.wm_read.specs.Files.{by_fault}
use Rattle.wm_report.specs.declared.fault.RunFault.{RunFault}
use Rattle.wm_tokens.specs.Tokens.{link_fault, tokens_in}
use Rattle.wm_unit.specs.Steps.{chained}
use Rattle.wm_unit.specs.Trees.{unit_in}

unfoldable pub linked_in : Spec → List Token → Source → Result Program RunFault
linked_in spec tokens unit = by_fault (link_fault spec.sources tokens) (linked unit spec)

unfoldable pub program_of_tokens : Spec → List Token → Result Program RunFault
program_of_tokens spec tokens = chained (unit_in spec.sources tokens) (linked_in spec tokens)

unfoldable pub program_of_texts : Spec → List (List ℕ) → Result Program RunFault
program_of_texts spec texts = chained (tokens_in spec.sources texts) (program_of_tokens spec)
