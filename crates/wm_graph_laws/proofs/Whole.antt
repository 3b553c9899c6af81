-- The whole graph: what runs before the frames, the frame head, the frame function and the way back.
use Rattle.std.proofs.Common.{◌≡◌, ℕ, suc, ◌+◌, ◌<◌, List, [], ◌∷◌, ◌++◌, Option, Some, None, refl, ap, arith}
use Rattle.std.specs.Prelude.{◌==◌}
use Rattle.wm_program.specs.Code.{Code}
use Rattle.wm_flow.specs.declared.graph.Sum.{Sum}
use Rattle.wm_flow.specs.Plain.{Arc}
use Rattle.wm_flow.specs.Places.{Plan}
use Rattle.wm_flow.specs.Strokes.{Stroke, Line, Part, Begins, point}
use Rattle.wm_flow.specs.Calls.{scene_of, to_head, to_head_from_start, from_head}
use Rattle.wm_flow.specs.Expressions.{size_at}
use Rattle.wm_flow.specs.Parts.{instance_count, plan_for, plan_of}
use Rattle.wm_flow.specs.Graphs.{Sketch, drawn, all_drawn, drawn_part, taking_inputs, static_point, head_node, before_frames, frame_strokes, nothing_drawn, whole_strokes, whole_drawn, flow_from, graph_of}
use Rattle.wm_graph_laws.specs.Manner.{manner}
use Rattle.wm_graph_laws.specs.Following.{IsAway, landed, Behind, Follows}
use Rattle.wm_graph_laws.specs.Ordered.{IsBefore}
use Rattle.wm_graph_laws.specs.Calling.{IsThere}
use Rattle.wm_graph_laws.specs.Standing.{IsBehind, Stands}
use Rattle.wm_graph_laws.specs.Laws.{IsOrderly, GraphsAreOrderly}
use Rattle.wm_graph_laws.proofs.Joins.{led_onward, each_landed}
use Rattle.wm_graph_laws.proofs.Lifted.{Came, IsSized, each_map, ordered_append, stands_same, strokes_stand, part_stands}
use Rattle.wm_graph_laws.proofs.Sized.{plan_sized}

pub drawn_behind : (code : Code) (draw : ℕ → ℕ → Sketch → Sketch) (xs ys : List Stroke) (sketch : Sketch) → all_drawn code draw (xs ++ ys) sketch ≡ all_drawn code draw ys (all_drawn code draw xs sketch)
drawn_behind code draw [] ys sketch = refl
drawn_behind code draw (stroke ∷ xs) ys sketch = drawn_behind code draw xs ys (drawn code draw stroke sketch)

module _ (plan : Plan) (sized : IsSized plan) where
  abbrev May : ℕ → Type 0
  May it = it < instance_count plan.code

  abbrev draw : ℕ → ℕ → Sketch → Sketch
  draw = drawn_part plan (instance_count plan.code)

  -- the frame head's node is the next one
  abbrev AtHead : Behind
  AtHead n l f o = n ≡ head_node plan

  before_follows : (init : Option ℕ) → plan.code.init ≡ init → IsThere plan.code init → Follows plan May (before_frames plan init) AtHead 0 0 [] []
  unfolding Follows to_head to_head_from_start manner
  before_follows None e there = (refl, led_onward _ _ 1 0 [] [] 1 refl (omega arith) (omega arith) (rw e refl))
  before_follows (Some init) e there =
      (refl, there, tt, (omega arith, led_onward _ _ (suc (0 + size_at plan init)) 0 [] [] (suc (size_at plan init)) refl (omega arith) (omega arith) (rw e (omega arith))))

  abbrev frame_inside : List Stroke
  frame_inside =
      let head = head_node plan in
      static_point ∷ Line head (head + 1) (from_head plan plan.code.frame) None ∷ point plan (scene_of plan plan.code.frame) 0
      ∷ Line (head + 1) (head + 2) (taking_inputs plan) None ∷ Part plan.code.frame (head + 2) ∷ []

  abbrev AtExit : Behind
  AtExit n l f o = (n ≡ suc (head_node plan + 2 + size_at plan plan.code.frame)) × (l ≡ 0)

  frame_follows : (nodes least : ℕ) → nodes ≡ head_node plan → plan.code.frame < instance_count plan.code → Follows plan May frame_inside AtExit nodes least [] []
  unfolding Follows from_head taking_inputs manner point
  frame_follows nodes least e there =
      let head = head_node plan in
      let P : ℕ → Type 0 = IsAway (head + 2) (head + 2 + size_at plan plan.code.frame) in
      let far = landed (head + 1 == suc nodes) (head + 1) [] in (
        omega arith,
        led_onward _ _ (suc nodes) 0 [] [] (head + 1) refl (omega arith) (omega arith) (
          omega arith,
          led_onward _ _ (suc (suc nodes)) 0 far [] (head + 2) refl (omega arith) (omega arith)
              (omega arith, there, each_landed P (head + 2 == suc (suc nodes)) (head + 2) far (λ a b. omega arith) (each_landed P (head + 1 == suc nodes) (head + 1) [] (λ a b. omega arith) tt), (refl, refl)),
        ),
      )

  -- all but the way back
  abbrev begun : Sketch
  begun = all_drawn plan.code draw (before_frames plan plan.code.init) (nothing_drawn plan)

  abbrev headed : Sketch
  headed = drawn plan.code draw (Begins 0 None None (head_node plan)) begun

  abbrev framed : Sketch
  framed = all_drawn plan.code draw frame_inside headed

  abbrev back_arc : Arc
  back_arc = record { source = head_node plan + 2 + size_at plan plan.code.frame; target = head_node plan; doing = to_head plan plan.code.frame; site = None }

  nothing_stands : Stands 0 0 (nothing_drawn plan)
  nothing_stands = record { count = refl; ordered = tt; behind = tt; running = tt }

  part_at : (instance start nodes least : ℕ) (sketch : Sketch) → May instance → start ≡ nodes → Stands nodes least sketch → Stands (suc (start + size_at plan instance)) 0 (draw instance start sketch)
  part_at instance start nodes least sketch may at s = part_stands plan sized (instance_count plan.code) instance start nodes least sketch may (omega arith) at s

  framed_stands : IsThere plan.code plan.code.init → plan.code.frame < instance_count plan.code → Came AtExit (λ n l. Stands n l framed)
  unfolding drawn
  framed_stands init frame =
      let came = strokes_stand plan May draw part_at (before_frames plan plan.code.init) AtHead 0 0 [] [] (nothing_drawn plan) (before_follows plan.code.init refl init) nothing_stands in
      strokes_stand plan May draw part_at frame_inside AtExit came.nodes came.least [] [] headed (frame_follows came.nodes came.least came.k frame)
      (stands_same came.nodes came.least begun headed refl refl came.p)

  whole_arcs : (whole_drawn plan).arcs ≡ framed.arcs ++ back_arc ∷ []
  unfolding whole_strokes frame_strokes drawn
  whole_arcs = ap (λ (it : Sketch). it.arcs) (drawn_behind plan.code draw (before_frames plan plan.code.init) (frame_strokes plan) (nothing_drawn plan))

  whole_orderly : IsThere plan.code plan.code.init → plan.code.frame < instance_count plan.code → (sums : List Sum) → IsOrderly (flow_from sums (whole_drawn plan))
  whole_orderly init frame sums =
      let came = framed_stands init frame in
      record {
        ordered = rw whole_arcs (ordered_append framed.arcs back_arc came.p.ordered (each_map (IsBehind came.nodes came.least) (λ (it : Arc). IsBefore it back_arc) framed.arcs (before came.nodes came.least came.k.0 came.k.1) came.p.behind));
        earlier = framed.arcs;
        last = back_arc;
        all = whole_arcs;
        running = came.p.running;
        back = omega arith;
      }
    where
      before : (nodes least : ℕ) → nodes ≡ suc (head_node plan + 2 + size_at plan plan.code.frame) → least ≡ 0 → (it : Arc) → IsBehind nodes least it → IsBefore it back_arc
      before nodes least e f it b = grind (arith, b.source, b.target)

pub graphs_are_orderly : GraphsAreOrderly
unfolding graph_of plan_of plan_for
graphs_are_orderly code sums stand = whole_orderly (plan_of code sums) (plan_sized code sums stand) stand.init stand.frame sums
