-- What the operands behind the first of a chain call.
use Rattle.std.specs.Prelude.{Bool, false, ◌||◌, List, [], ◌∷◌}
use Rattle.wm_program.specs.declared.tree.Link.{Link}
use Rattle.wm_program.specs.Tree.{Expression}
use Rattle.wm_flow.specs.Yields.{calls, operates}

abbrev pub calls_links : List (Link Expression) → Bool
calls_links [] = false
calls_links (link ∷ rest) = calls link.operand || calls_links rest

abbrev pub operates_links : List (Link Expression) → Bool
operates_links [] = false
operates_links (link ∷ rest) = operates link.operand || operates_links rest
