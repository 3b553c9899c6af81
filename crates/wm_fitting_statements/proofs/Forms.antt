-- The plain tree of each form of a statement.
use Rattle.std.proofs.Common.{◌≡◌, ℕ, Bool, Option, Some, None, List, map, sym, ap, ◌∙◌}
use Rattle.std.specs.Option.{option_map_or}
use Rattle.wm_program.specs.declared.tree.Condition.{Condition}
use Rattle.wm_program.specs.declared.tree.Otherwise.{Otherwise}
use Rattle.wm_program.specs.declared.tree.Simple as simple_type
use Rattle.wm_program.specs.declared.tree.Statement.{Statement}
use Rattle.wm_program.specs.declared.tree.Statement.TheOpen.{Statement-F}
use Rattle.wm_program.specs.declared.tree.Statement.TheFolds.{fold-roll-Statement}
use Rattle.wm_program.specs.declared.tree.Statement.TheVariants.{Block, Empty, Simple, If, For, While, Do, Break, Continue, rolls-Block, rolls-Empty, rolls-Simple, rolls-If, rolls-For, rolls-While, rolls-Do, rolls-Break, rolls-Continue}
use Rattle.wm_program.specs.Tree as tree
use Rattle.wm_program.specs.Trees.{test_of, effect_of, all_of, tree_of, tree_step}

pub of_block : (statements : List Statement) → tree_of (Block statements) ≡ tree.Block (all_of (map tree_of statements))
of_block statements = ap tree_of (sym (rolls-Block statements)) ∙ fold-roll-Statement tree.Tree tree_step (Statement-F.Block statements)

pub of_empty : tree_of Empty ≡ tree.Empty
of_empty = ap tree_of (sym rolls-Empty) ∙ fold-roll-Statement tree.Tree tree_step Statement-F.Empty

pub of_simple : (x : simple_type.Simple) → tree_of (Simple x) ≡ tree.Act (effect_of x)
of_simple x = ap tree_of (sym (rolls-Simple x)) ∙ fold-roll-Statement tree.Tree tree_step (Statement-F.Simple x)

pub of_if : (is_counted : Bool) (c : Condition) (first : Statement) → tree_of (If is_counted c first None) ≡ tree.If is_counted (test_of c) (tree_of first)
of_if is_counted c first = ap tree_of (sym (rolls-If is_counted c first None)) ∙ fold-roll-Statement tree.Tree tree_step (Statement-F.If is_counted c first None)

pub of_if_else : (is_counted : Bool) (c : Condition) (first : Statement) (other : Otherwise Statement) → tree_of (If is_counted c first (Some other)) ≡ tree.IfElse is_counted (test_of c) (tree_of first) other.is_counted (tree_of other.body)
of_if_else is_counted c first other = ap tree_of (sym (rolls-If is_counted c first (Some other))) ∙ fold-roll-Statement tree.Tree tree_step (Statement-F.If is_counted c first (Some other))

pub of_for : (is_counted : Bool) (number : ℕ) (begin : List simple_type.Simple) (c : Option Condition) (step : List simple_type.Simple) (body : Statement) → tree_of (For is_counted number begin c step body) ≡ tree.For is_counted number (map effect_of begin) (option_map_or test_of c tree.Always) (map effect_of step) (tree_of body)
of_for is_counted number begin c step body = ap tree_of (sym (rolls-For is_counted number begin c step body)) ∙ fold-roll-Statement tree.Tree tree_step (Statement-F.For is_counted number begin c step body)

pub of_while : (is_counted : Bool) (number : ℕ) (c : Condition) (body : Statement) → tree_of (While is_counted number c body) ≡ tree.While is_counted number (test_of c) (tree_of body)
of_while is_counted number c body = ap tree_of (sym (rolls-While is_counted number c body)) ∙ fold-roll-Statement tree.Tree tree_step (Statement-F.While is_counted number c body)

pub of_do : (is_counted is_tail_counted : Bool) (number : ℕ) (body : Statement) (c : Condition) → tree_of (Do is_counted is_tail_counted number body c) ≡ tree.Do is_counted is_tail_counted number (tree_of body) (test_of c)
of_do is_counted is_tail_counted number body c = ap tree_of (sym (rolls-Do is_counted is_tail_counted number body c)) ∙ fold-roll-Statement tree.Tree tree_step (Statement-F.Do is_counted is_tail_counted number body c)

pub of_break : (is_counted : Bool) → tree_of (Break is_counted) ≡ tree.Break is_counted
of_break is_counted = ap tree_of (sym (rolls-Break is_counted)) ∙ fold-roll-Statement tree.Tree tree_step (Statement-F.Break is_counted)

pub of_continue : (is_counted : Bool) → tree_of (Continue is_counted) ≡ tree.Continue is_counted
of_continue is_counted = ap tree_of (sym (rolls-Continue is_counted)) ∙ fold-roll-Statement tree.Tree tree_step (Statement-F.Continue is_counted)
