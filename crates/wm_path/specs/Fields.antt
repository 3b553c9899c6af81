-- What is known of a graph while paths through it are picked.
use Rattle.std.specs.Prelude.{ℕ, suc, Bool, List, [], ◌∷◌, replicate, Option, Some, None, slice_get, slice_set, slice_index_or}
use Rattle.wm_flow.specs.declared.graph.Graph.{Graph}
use Rattle.wm_flow.specs.declared.graph.Head.{Head}
use Rattle.wm_cost.specs.Edges.{ways_from}
use Rattle.wm_cost.specs.Turnings.{turnings_from}
use Rattle.wm_ways.specs.declared.ways.Turning.{Turning}
use Rattle.wm_ways.specs.declared.ways.Way.{Way}
use Rattle.wm_ways.specs.Whole.{firsts_of, marks_of, added_of}
use Rattle.wm_path.specs.declared.field.Field as declared

-- the number of each head at its node
abbrev pub head_numbers : (number : ℕ) → List Head → List ℕ → List ℕ
head_numbers number [] numbers = numbers
head_numbers number (head ∷ rest) numbers = head_numbers (suc number) rest (slice_set numbers head.node number)

-- The edges, the number of the first from each node, what loops add at their heads, and the loops and the numbers of their
-- heads, by node.
pub record Field : Type 0 where
  pub ways : List Way
  pub firsts : List ℕ
  pub added : List ℕ
  pub marks : List (Option Turning)
  pub heads : List ℕ

abbrev pub seen : declared.Field → Field
seen field =
    record {
      ways = field.ways.items;
      firsts = field.firsts.items;
      added = field.added.items;
      marks = field.marks.items;
      heads = field.heads.items;
    }

abbrev pub field_with : Graph → List Way → (firsts : List ℕ) → (marks : List (Option Turning)) → (nodes : ℕ) → Field
field_with graph ways firsts marks nodes =
    record {
      ways = ways;
      firsts = firsts;
      added = added_of ways firsts marks nodes;
      marks = marks;
      heads = head_numbers 0 graph.heads (replicate nodes 0);
    }

abbrev pub field_along : Graph → List Way → List Turning → (nodes : ℕ) → Field
field_along graph ways turnings nodes = field_with graph ways (firsts_of ways nodes) (marks_of turnings nodes) nodes

unfoldable pub field_of : Graph → (weights turns : List (Option ℕ)) → List Bool → (nodes : ℕ) → Field
field_of graph weights turns live nodes =
    field_along graph (ways_from weights live 0 graph.edges) (turnings_from graph.edges turns 0 graph.heads) nodes

-- the node to which an edge leads
abbrev pub target_of : Option Way → Option ℕ
target_of None = None
target_of (Some way) = Some way.target

abbrev pub mark_in : List (Option Turning) → Option ℕ → Option Turning
mark_in marks None = None
mark_in marks (Some node) = slice_index_or marks node None

-- the loop to whose head an edge leads
abbrev pub loop_behind : Field → ℕ → Option Turning
loop_behind field number = mark_in field.marks (target_of (slice_get field.ways number))
