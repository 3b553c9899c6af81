-- The choices of frame functions are worst choices.
use Rattle.std.proofs.Common.{◌≡◌, ℕ, List, [], ◌∷◌, map, Option, sym, subst, refl}
use Rattle.std.proofs.lemmas.List.Elements.{All-nil, All-cons}
use Rattle.wm_flow.specs.declared.graph.Facts.{Facts}
use Rattle.wm_flow.specs.declared.graph.Graph.{Graph}
use Rattle.wm_bounds.specs.declared.parts.Part.{Part}
use Rattle.wm_path.specs.declared.choice.Choice.{Choice}
use Rattle.wm_proving.specs.Worst.{AreWorst, IsWorst, choice_in, facts_in}

of_parts : (graph : Graph) (weights : List (Option ℕ)) (facts : Facts) (parts : List Part) → AreWorst graph weights (map (choice_in graph weights facts) parts)
of_parts graph weights facts [] = All-nil (IsWorst graph weights)
of_parts graph weights facts (part ∷ parts) =
    All-cons (IsWorst graph weights) (choice_in graph weights facts part) (map (choice_in graph weights facts) parts)
    (record { facts = facts_in graph facts part; is = refl })
    (of_parts graph weights facts parts)

pub are_worst : (graph : Graph) (weights : List (Option ℕ)) (facts : Facts) (parts : List Part) (choices : List (Option Choice)) → choices ≡ map (choice_in graph weights facts) parts → AreWorst graph weights choices
are_worst graph weights facts parts choices is = subst (AreWorst graph weights) (sym is) (of_parts graph weights facts parts)
