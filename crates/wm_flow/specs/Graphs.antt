-- The graph of a program: the strokes of its instances in the order of evaluation, and what is drawn with them.
use Rattle.std.specs.Prelude.{ℕ, zero, suc, ◌+◌, ◌-◌, Bool, ◌&&◌, if◌then◌else◌, ◌==◌, List, [], ◌∷◌, ◌++◌, length, replicate, Option, Some, None, slice_set, slice_index_or}
use Rattle.std.specs.Option.{option_map_or}
use Rattle.wm_program.specs.Code.{Code, Input, function_of}
use Rattle.wm_flow.specs.declared.graph.Head.{Head}
use Rattle.wm_flow.specs.declared.graph.Sum.{Sum}
use Rattle.wm_flow.specs.declared.seats.Seat.{Seat}
use Rattle.wm_flow.specs.declared.seats.Seat.TheVariants as seat
use Rattle.wm_flow.specs.declared.seats.Tables.{Tables}
use Rattle.wm_flow.specs.Plain.{Range, Layout, Bounded, Doing, Arc, Flow, Inputs}
use Rattle.wm_flow.specs.Layouts.{range, layout_at}
use Rattle.wm_flow.specs.declared.scene.Bases.{Bases}
use Rattle.wm_flow.specs.Places.{Plan, bases_of, input_place, seat_at}
use Rattle.wm_flow.specs.Strokes.{Stroke, Point, Line, Part, Begins, Turns, point}
use Rattle.wm_flow.specs.Calls.{scene_of, to_head, to_head_from_start, from_head}
use Rattle.wm_flow.specs.Expressions.{size_at}
use Rattle.wm_flow.specs.Parts.{part_strokes, plan_of, instance_count}

-- ---- drawing

-- a layout of a context that has its number, by its temporaries
pub record Known : Type 0 where
  pub temporaries : ℕ
  pub number : ℕ

-- What has been drawn. Layouts are numbered in the order in which they are first used; those that are known stand by
-- context.
pub record Sketch : Type 0 where
  pub known : List (List Known)
  pub layouts : List Layout
  pub node_shape : List ℕ
  pub node_instance : List (Option ℕ)
  pub arcs : List Arc
  pub heads : List Head

-- the number of the layout with so many temporaries
abbrev pub number_in : ℕ → List Known → Option ℕ
number_in temporaries [] = None
number_in temporaries (it ∷ rest) =
    if it.temporaries == temporaries then Some it.number else number_in temporaries rest

abbrev pub known_in : Sketch → (context : ℕ) → List Known
known_in sketch context = slice_index_or sketch.known context []

abbrev pub with_node : ℕ → Option ℕ → Sketch → Sketch
with_node shape instance sketch =
    record sketch {
      node_shape = sketch.node_shape ++ shape ∷ [];
      node_instance = sketch.node_instance ++ instance ∷ [];
    }

-- a layout with the next number
abbrev pub with_layout : Layout → (context temporaries : ℕ) → Sketch → Sketch
with_layout layout context temporaries sketch =
    record sketch {
      known = slice_set sketch.known context (known_in sketch context ++ record { temporaries = temporaries; number = length sketch.layouts } ∷ []);
      layouts = sketch.layouts ++ layout ∷ [];
    }

-- a node, whose layout has a number or gets the next one
unfoldable pub node_drawn : Layout → (context temporaries : ℕ) → Option ℕ → Option ℕ → Sketch → Sketch
node_drawn layout context temporaries instance (Some number) sketch = with_node number instance sketch
node_drawn layout context temporaries instance None sketch =
    with_node (length sketch.layouts) instance (with_layout layout context temporaries sketch)

abbrev pub no_head : Head
no_head = record { node = 0; instance = None; loop_id = None; entry = 0; back = 0 }

-- one stroke; a part is drawn by `draw`
unfoldable pub drawn : Code → (draw : ℕ → ℕ → Sketch → Sketch) → Stroke → Sketch → Sketch
drawn code draw (Point context instance counters temporaries) sketch =
    node_drawn (layout_at code instance counters temporaries) context temporaries instance
    (number_in temporaries (known_in sketch context)) sketch
drawn code draw (Line source target doing site) sketch =
    record sketch { arcs = sketch.arcs ++ record { source = source; target = target; doing = doing; site = site } ∷ [] }
drawn code draw (Part instance start) sketch = draw instance start sketch
drawn code draw (Begins head instance loop node) sketch =
    record sketch {
      heads = slice_set sketch.heads head (record { node = node; instance = instance; loop_id = loop; entry = length sketch.arcs - 1; back = 0 });
    }
drawn code draw (Turns head) sketch =
    record sketch {
      heads = slice_set sketch.heads head (record (slice_index_or sketch.heads head no_head) { back = length sketch.arcs - 1 });
    }

abbrev pub all_drawn : Code → (draw : ℕ → ℕ → Sketch → Sketch) → List Stroke → Sketch → Sketch
all_drawn code draw [] sketch = sketch
all_drawn code draw (stroke ∷ rest) sketch = all_drawn code draw rest (drawn code draw stroke sketch)

-- An instance with all that it calls. Each call is one level less: a chain of calls has at most as many levels as there
-- are instances, since no function reaches itself.
unfoldable pub drawn_part : Plan → (levels : ℕ) → (instance start : ℕ) → Sketch → Sketch
drawn_part plan zero instance start sketch = sketch
drawn_part plan (suc levels) instance start sketch =
    all_drawn plan.code (drawn_part plan levels) (part_strokes plan instance start) sketch

-- ---- the whole

-- the inputs that are scalars, as variables of the frame function's node, and those that are arrays
abbrev pub bounded : ℕ → Input → Bounded
bounded place input = record { target = place; range = range input.low input.high }

abbrev pub scalar_input : Bases → Input → Seat → List Bounded
scalar_input bases input (seat.Input k) = bounded (input_place bases k) input ∷ []
scalar_input bases input (seat.State k) = []
scalar_input bases input (seat.Array k) = []
scalar_input bases input (seat.Constant low high) = []

abbrev pub array_input : Input → Seat → List Bounded
array_input input (seat.Array k) = bounded k input ∷ []
array_input input (seat.State k) = []
array_input input (seat.Input k) = []
array_input input (seat.Constant low high) = []

abbrev pub scalar_inputs : Tables → Bases → List Input → List Bounded
scalar_inputs tables bases [] = []
scalar_inputs tables bases (input ∷ rest) =
    scalar_input bases input (seat_at tables input.object) ++ scalar_inputs tables bases rest

abbrev pub array_inputs : Tables → List Input → List Bounded
array_inputs tables [] = []
array_inputs tables (input ∷ rest) = array_input input (seat_at tables input.object) ++ array_inputs tables rest

unfoldable pub taking_inputs : Plan → Doing
taking_inputs plan =
    Inputs (scalar_inputs plan.tables (bases_of plan (scene_of plan plan.code.frame)) plan.code.inputs)
    (array_inputs plan.tables plan.code.inputs)

-- a node of the frame head's layout
abbrev pub static_point : Stroke
static_point = Point 0 None 0 0

-- the number of the frame head's node
abbrev pub head_node : Plan → ℕ
head_node plan = option_map_or (λ init. suc (size_at plan init)) plan.code.init 1

-- what runs before the frames: init, or nothing
abbrev pub before_frames : Plan → Option ℕ → List Stroke
before_frames plan None = static_point ∷ Line 0 1 (to_head_from_start plan) None ∷ []
before_frames plan (Some init) =
    Part init 0 ∷ Line (size_at plan init) (suc (size_at plan init)) (to_head plan init) None ∷ []

-- the frame head, the inputs, the frame function, and the way back
unfoldable pub frame_strokes : Plan → List Stroke
frame_strokes plan =
    let head = head_node plan in
    let frame = plan.code.frame in
    let exit = head + 2 + size_at plan frame in
    Begins 0 None None head
    ∷ static_point
    ∷ Line head (head + 1) (from_head plan frame) None
    ∷ point plan (scene_of plan frame) 0
    ∷ Line (head + 1) (head + 2) (taking_inputs plan) None
    ∷ Part frame (head + 2)
    ∷ Line exit head (to_head plan frame) None
    ∷ Turns 0 ∷ []

abbrev pub nothing_drawn : Plan → Sketch
nothing_drawn plan =
    record {
      known = replicate (plan.tables.heads + instance_count plan.code) [];
      layouts = [];
      node_shape = [];
      node_instance = [];
      arcs = [];
      heads = replicate plan.tables.heads no_head;
    }

unfoldable pub whole_strokes : Plan → List Stroke
whole_strokes plan = before_frames plan plan.code.init ++ frame_strokes plan

abbrev pub whole_drawn : Plan → Sketch
whole_drawn plan =
    all_drawn plan.code (drawn_part plan (instance_count plan.code)) (whole_strokes plan) (nothing_drawn plan)

abbrev pub flow_from : List Sum → Sketch → Flow
flow_from sums sketch =
    record {
      layouts = sketch.layouts;
      node_shape = sketch.node_shape;
      node_instance = sketch.node_instance;
      arcs = sketch.arcs;
      heads = sketch.heads;
      sums = sums;
    }

-- the graph of a program for these sums
unfoldable pub graph_of : Code → List Sum → Flow
graph_of code sums = flow_from sums (whole_drawn (plan_of code sums))
