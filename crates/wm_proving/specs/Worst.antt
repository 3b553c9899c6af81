-- The worst choices of the frame functions.
use Rattle.std.specs.Prelude.{◌≡◌, ℕ, List, map, Option, All}
use Rattle.wm_program.specs.declared.program.Program.{Program}
use Rattle.wm_flow.specs.declared.graph.Facts.{Facts}
use Rattle.wm_flow.specs.declared.graph.Graph.{Graph}
use Rattle.wm_bounds.specs.declared.parts.Part.{Part}
use Rattle.wm_bounds.specs.Parts.{lives_in, parts_of}
use Rattle.wm_path.specs.declared.choice.Choice.{Choice}
use Rattle.wm_path.specs.Worst.{worst_path}

-- it is the worst choice for some facts, or none where these give no bound
pub record IsWorst (graph : Graph) (weights : List (Option ℕ)) (choice : Option Choice) : Type 0 where
  pub facts : Facts
  pub is : choice ≡ worst_path graph weights facts

abbrev pub AreWorst : Graph → (weights : List (Option ℕ)) → List (Option Choice) → Type 0
AreWorst graph weights choices = All (IsWorst graph weights) choices

-- ---- of each frame function its own

-- the facts in which the edges from and to the nodes of other frame functions are not live
abbrev pub facts_in : Graph → Facts → Part → Facts
facts_in graph facts part = record { turns = facts.turns; live = lives_in graph part facts.live; stops = facts.stops }

abbrev pub choice_in : Graph → (weights : List (Option ℕ)) → Facts → Part → Option Choice
choice_in graph weights facts part = worst_path graph weights (facts_in graph facts part)

-- by the same facts for all frame functions, in their order, the worst choice of each by its own edges
pub record AreOfParts (program : Program) (graph : Graph) (weights : List (Option ℕ)) (choices : List (Option Choice)) : Type 0 where
  pub facts : Facts
  pub are : choices ≡ map (choice_in graph weights facts) (parts_of program)
