-- What is drawn with strokes that follow each other: the edges stand in order, and run on.
use Rattle.std.proofs.Common.{◌≡◌, ℕ, zero, suc, ◌+◌, ◌<◌, ◌≤◌, List, [], ◌∷◌, ◌++◌, length, Option, Some, None, refl, ap, sym, ◌∙◌, arith, length-append}
use Rattle.std.specs.Prelude.{◌==◌}
use Rattle.wm_flow.specs.Plain.{Layout, Arc}
use Rattle.wm_flow.specs.Layouts.{layout_at}
use Rattle.wm_flow.specs.Places.{Plan}
use Rattle.wm_flow.specs.Strokes.{Stroke, Point, Line, Part, Begins, Turns}
use Rattle.wm_flow.specs.Expressions.{size_at}
use Rattle.wm_flow.specs.Parts.{part_size, part_strokes, instance_count}
use Rattle.wm_flow.specs.Graphs.{Sketch, number_in, known_in, node_drawn, drawn, all_drawn, drawn_part}
use Rattle.wm_graph_laws.specs.Each.{Each}
use Rattle.wm_graph_laws.specs.Manner.{Manner, Into, Back, Onward, manner}
use Rattle.wm_graph_laws.specs.Following.{Open, Entered, Inside, Turned, landed, Behind, Led, Begun, Ended, Follows}
use Rattle.wm_graph_laws.specs.Ordered.{IsBefore, AreOrdered, Runs, IsRunning}
use Rattle.wm_graph_laws.specs.Calling.{CallsLater}
use Rattle.wm_graph_laws.specs.Standing.{IsBehind, Stands}
use Rattle.wm_graph_laws.proofs.Parts.{part_follows}

-- ---- lists

pub each_append : {A : Type 0} (P : A → Type 0) (xs : List A) (x : A) → Each P xs → P x → Each P (xs ++ x ∷ [])
each_append P [] x h p = (p, tt)
each_append P (y ∷ xs) x h p = (h.0, each_append P xs x h.1 p)

pub each_map : {A : Type 0} (P Q : A → Type 0) (xs : List A) → ((x : A) → P x → Q x) → Each P xs → Each Q xs
each_map P Q [] on h = tt
each_map P Q (x ∷ xs) on h = (on x h.0, each_map P Q xs on h.1)

pub ordered_append : (arcs : List Arc) (arc : Arc) → AreOrdered arcs → Each (λ (it : Arc). IsBefore it arc) arcs → AreOrdered (arcs ++ arc ∷ [])
ordered_append [] arc h p = (tt, tt)
ordered_append (it ∷ arcs) arc h p = (each_append (IsBefore it) arcs arc h.0 p.0, ordered_append arcs arc h.1 p.1)

-- ---- one stroke

-- a node
module _ (layout : Layout) (context temporaries : ℕ) (instance : Option ℕ) where
  pub node_arcs : (known : Option ℕ) (sketch : Sketch) → (node_drawn layout context temporaries instance known sketch).arcs ≡ sketch.arcs
  unfolding node_drawn
  node_arcs (Some number) sketch = refl
  node_arcs None sketch = refl

  pub node_heads : (known : Option ℕ) (sketch : Sketch) → (node_drawn layout context temporaries instance known sketch).heads ≡ sketch.heads
  unfolding node_drawn
  node_heads (Some number) sketch = refl
  node_heads None sketch = refl

  pub node_count : (known : Option ℕ) (sketch : Sketch) → length (node_drawn layout context temporaries instance known sketch).node_shape ≡ suc (length sketch.node_shape)
  unfolding node_drawn
  node_count (Some number) sketch = omega (arith, length-append sketch.node_shape (number ∷ []))
  node_count None sketch = omega (arith, length-append sketch.node_shape (length sketch.layouts ∷ []))

pub stands_with : (nodes least : ℕ) (sketch new : Sketch) → new.arcs ≡ sketch.arcs → length new.node_shape ≡ suc nodes → Stands nodes least sketch → Stands (suc nodes) 0 new
stands_with nodes least sketch new same counts h =
    record {
      count = counts;
      ordered = rw same h.ordered;
      behind = rw same (each_map (IsBehind nodes least) (IsBehind (suc nodes) 0) sketch.arcs later h.behind);
      running = rw same h.running;
    }
  where
    later : (arc : Arc) → IsBehind nodes least arc → IsBehind (suc nodes) 0 arc
    later arc it = record { source = omega (arith, it.source); target = λ e. omega (arith, it.source) }

-- an edge
pub stands_along : (nodes least : ℕ) (sketch new : Sketch) (arc : Arc) → new.arcs ≡ sketch.arcs ++ arc ∷ [] → new.node_shape ≡ sketch.node_shape → suc arc.source ≡ nodes → least ≤ arc.target → IsRunning arc → Stands nodes least sketch → Stands nodes (suc arc.target) new
stands_along nodes least sketch new arc drawn same at past runs h =
    record {
      count = ap (λ (xs : List ℕ). length xs) same ∙ h.count;
      ordered = rw drawn (ordered_append sketch.arcs arc h.ordered (each_map (IsBehind nodes least) (λ (it : Arc). IsBefore it arc) sketch.arcs before h.behind));
      behind = rw drawn (each_append (IsBehind nodes (suc arc.target)) sketch.arcs arc (each_map (IsBehind nodes least) (IsBehind nodes (suc arc.target)) sketch.arcs later h.behind) (record { source = omega arith; target = λ e. omega arith }));
      running = rw drawn (each_append IsRunning sketch.arcs arc h.running runs);
    }
  where
    later : (it : Arc) → IsBehind nodes least it → IsBehind nodes (suc arc.target) it
    later it b = record { source = b.source; target = λ e. omega (arith, b.target e) }

    before : (it : Arc) → IsBehind nodes least it → IsBefore it arc
    before it b = grind (arith, b.source, b.target)

-- the same nodes and edges
pub stands_same : (nodes least : ℕ) (sketch new : Sketch) → new.arcs ≡ sketch.arcs → new.node_shape ≡ sketch.node_shape → Stands nodes least sketch → Stands nodes least new
stands_same nodes least sketch new same shapes h =
    record {
      count = ap (λ (xs : List ℕ). length xs) shapes ∙ h.count;
      ordered = rw same h.ordered;
      behind = rw same h.behind;
      running = rw same h.running;
    }

-- ---- what strokes lead to

-- what is asked of the state behind a stroke
pub record Came (K : Behind) (P : ℕ → ℕ → Type 0) : Type 0 where
  pub nodes : ℕ
  pub least : ℕ
  pub far : List ℕ
  pub heads : List Open
  pub k : K nodes least far heads
  pub p : P nodes least

pub record Gone (K : Behind) (nodes target : ℕ) : Type 0 where
  pub far : List ℕ
  pub heads : List Open
  pub k : K nodes (suc target) far heads

pub led_gone : (m : Manner) (K : Behind) (nodes least : ℕ) (far : List ℕ) (heads : List Open) (arc : Arc) → suc arc.source ≡ nodes → Led m K nodes least far heads arc.target → Gone K nodes arc.target × (least ≤ arc.target) × Runs m arc
unfolding Led
led_gone Into K nodes least far heads arc at h =
    (record { far = far; heads = Entered nodes ∷ heads; k = h.3 }, omega (arith, h.1), omega (arith, h.0))
led_gone Back K nodes least far [] arc at h = absurd h
led_gone Back K nodes least far (Entered node ∷ heads) arc at h = absurd h
led_gone Back K nodes least far (Inside node number ∷ heads) arc at h =
    (record { far = far; heads = Turned node number ∷ heads; k = h.3 }, h.2, omega (arith, h.0, h.1))
led_gone Back K nodes least far (Turned node number ∷ heads) arc at h = absurd h
led_gone Onward K nodes least far heads arc at h =
    (record { far = landed (arc.target == nodes) arc.target far; heads = heads; k = h.2 }, h.1, omega (arith, h.0))

begun_came : (K : Behind) (nodes least : ℕ) (far : List ℕ) (heads : List Open) (number node : ℕ) → Begun K nodes least far heads number node → (o : List Open) × K nodes least far o
unfolding Begun
begun_came K nodes least far [] number node h = absurd h
begun_came K nodes least far (Entered at ∷ heads) number node h = (Inside at number ∷ heads, h.2)
begun_came K nodes least far (Inside at other ∷ heads) number node h = absurd h
begun_came K nodes least far (Turned at other ∷ heads) number node h = absurd h

ended_came : (K : Behind) (nodes least : ℕ) (far : List ℕ) (heads : List Open) (number : ℕ) → Ended K nodes least far heads number → (o : List Open) × K nodes least far o
unfolding Ended
ended_came K nodes least far [] number h = absurd h
ended_came K nodes least far (Entered at ∷ heads) number h = absurd h
ended_came K nodes least far (Inside at other ∷ heads) number h = absurd h
ended_came K nodes least far (Turned at other ∷ heads) number h = (heads, h.2)

-- ---- strokes, where each part stands

module _ (plan : Plan) (May : ℕ → Type 0) (draw : ℕ → ℕ → Sketch → Sketch) (part : (instance start nodes least : ℕ) (sketch : Sketch) → May instance → start ≡ nodes → Stands nodes least sketch → Stands (suc (start + size_at plan instance)) 0 (draw instance start sketch)) where
  pub strokes_stand : (strokes : List Stroke) (K : Behind) (nodes least : ℕ) (far : List ℕ) (heads : List Open) (sketch : Sketch) → Follows plan May strokes K nodes least far heads → Stands nodes least sketch → Came K (λ n l. Stands n l (all_drawn plan.code draw strokes sketch))
  unfolding Follows drawn
  strokes_stand [] K nodes least far heads sketch h s =
      record { nodes = nodes; least = least; far = far; heads = heads; k = h; p = s }
  strokes_stand (Point context instance counters temporaries ∷ rest) K nodes least far heads sketch h s =
      let layout = layout_at plan.code instance counters temporaries in
      let known = number_in temporaries (known_in sketch context) in
      let new = node_drawn layout context temporaries instance known sketch in
      strokes_stand rest K (suc nodes) 0 far heads new h
      (stands_with nodes least sketch new (node_arcs layout context temporaries instance known sketch) (node_count layout context temporaries instance known sketch ∙ ap suc s.count) s)
  strokes_stand (Line source target doing site ∷ rest) K nodes least far heads sketch h s =
      let arc : Arc = record { source = source; target = target; doing = doing; site = site } in
      let new = record sketch { arcs = sketch.arcs ++ arc ∷ [] } in
      let gone = led_gone (manner doing) (Follows plan May rest K) nodes least far heads arc h.0 h.1 in
      strokes_stand rest K nodes (suc target) gone.0.far gone.0.heads new gone.0.k
      (stands_along nodes least sketch new arc refl refl h.0 gone.1 gone.2 s)
  strokes_stand (Part instance start ∷ rest) K nodes least far heads sketch h s =
      strokes_stand rest K (suc (start + size_at plan instance)) 0 far heads (draw instance start sketch) h.3 (part instance start nodes least sketch h.1 h.0 s)
  strokes_stand (Begins head instance loop node ∷ rest) K nodes least far heads sketch h s =
      let came = begun_came (Follows plan May rest K) nodes least far heads head node h in
      strokes_stand rest K nodes least far came.0 _ came.1 (stands_same nodes least sketch _ refl refl s)
  strokes_stand (Turns head ∷ rest) K nodes least far heads sketch h s =
      let came = ended_came (Follows plan May rest K) nodes least far heads head h in
      strokes_stand rest K nodes least far came.0 _ came.1 (stands_same nodes least sketch _ refl refl s)

-- ---- instances, where each has the size that it is told

pub record IsSized (plan : Plan) : Type 0 where
  pub sizes : (instance : ℕ) → instance < instance_count plan.code → part_size plan instance ≡ size_at plan instance
  pub calls : (instance : ℕ) → instance < instance_count plan.code → CallsLater plan.code instance

-- an instance behind another
abbrev pub IsLater : Plan → (instance : ℕ) → ℕ → Type 0
IsLater plan instance it = (instance < it) × (it < instance_count plan.code)

pub part_stands : (plan : Plan) → IsSized plan → (levels : ℕ) (instance start nodes least : ℕ) (sketch : Sketch) → instance < instance_count plan.code → instance_count plan.code ≤ instance + levels → start ≡ nodes → Stands nodes least sketch → Stands (suc (start + size_at plan instance)) 0 (drawn_part plan levels instance start sketch)
unfolding drawn_part
part_stands plan sized zero instance start nodes least sketch there enough at s = absurd (omega (arith, there, enough))
part_stands plan sized (suc levels) instance start nodes least sketch there enough at s =
    let K : Behind = λ n l f o. (n ≡ suc (start + size_at plan instance)) × (l ≡ 0) in
    let came = strokes_stand plan (IsLater plan instance) (drawn_part plan levels)
    (λ it first n l new may same t. part_stands plan sized levels it first n l new may.1 (omega (arith, may.0, enough)) same t)
    (part_strokes plan instance start) K start least [] [] sketch
    (part_follows plan (IsLater plan instance) (λ t. Unit {0}) instance start least (start + size_at plan instance) [] [] K (sized.calls instance there) (ap (λ n. start + n) (sym (sized.sizes instance there))) tt tt (λ t a b. tt) (λ far' all. (refl, refl))) (rw (sym at) at s) in
    rw (came.k.0, came.k.1) at came.p
