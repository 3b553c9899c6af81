-- The plain data of the declared types of the graph.
use Rattle.std.specs.Prelude.{List, map, Option, Some, None}
use Rattle.wm_interval.specs.declared.Interval.{Interval}
use Rattle.wm_arrays.specs.declared.summary.Summary.{Summary}
use Rattle.wm_arrays.specs.declared.summary.Summary.TheVariants as summary
use Rattle.wm_domain.specs.declared.shape.Shape.{Shape}
use Rattle.wm_flow.specs.declared.action.Action.{Action}
use Rattle.wm_flow.specs.declared.action.Action.TheVariants as action
use Rattle.wm_flow.specs.declared.action.Given.{Given}
use Rattle.wm_flow.specs.declared.graph.Edge.{Edge}
use Rattle.wm_flow.specs.declared.graph.Graph.{Graph}
use Rattle.wm_flow.specs.Plain.{Range, Layout, Bounded, Doing, Arc, Flow, AssignForm, Plain, Cast, AssignRange, SetArray, Operate, Read, Write, Clear, Keep, Test, Count, Enter, Leave, Reset, Turn, Tie, Inputs}

abbrev pub range_of : Interval → Range
range_of interval = record { low = interval.low; high = interval.high }

abbrev pub layout_of : Shape → Layout
layout_of shape =
    record {
      group = map range_of shape.group;
      singles = map range_of shape.singles;
      arrays = map range_of shape.arrays;
    }

abbrev pub cells_of : Summary → Option Range
cells_of summary.Empty = None
cells_of (summary.Range interval) = Some (range_of interval)

abbrev pub bounded_of : Given → Bounded
bounded_of given = record { target = given.target; range = range_of given.range }

unfoldable pub doing_of : Action → Doing
doing_of (action.AssignForm target form) = AssignForm target form
doing_of (action.Plain mark args target) = Plain mark args target
doing_of (action.Cast form target) = Cast form target
doing_of (action.AssignRange target range) = AssignRange target (range_of range)
doing_of (action.SetArray array summary) = SetArray array (cells_of summary)
doing_of (action.Operate op args target overflow) = Operate op args target overflow
doing_of (action.Read array target) = Read array target
doing_of (action.Write array value length) = Write array value length
doing_of (action.Clear variables) = Clear variables
doing_of (action.Keep form relation) = Keep form relation
doing_of (action.Test args form low high how) = Test args form low high how
doing_of (action.Count word) = Count word
doing_of (action.Enter picks arrays arguments) = Enter picks arrays arguments
doing_of (action.Leave call from_call from_exit arrays result) = Leave call from_call from_exit arrays result
doing_of (action.Reset counters) = Reset counters
doing_of (action.Turn growths) = Turn growths
doing_of (action.Tie counter loop_step variable step) = Tie counter loop_step variable step
doing_of (action.Inputs scalars arrays) = Inputs (map bounded_of scalars) (map bounded_of arrays)

abbrev pub arc_of : Edge → Arc
arc_of edge =
    record { source = edge.source; target = edge.target; doing = doing_of edge.action; site = edge.site }

abbrev pub flow_of : Graph → Flow
flow_of graph =
    record {
      layouts = map layout_of graph.shapes;
      node_shape = graph.node_shape;
      node_instance = graph.node_instance;
      arcs = map arc_of graph.edges;
      heads = graph.heads;
      sums = graph.sums;
    }
