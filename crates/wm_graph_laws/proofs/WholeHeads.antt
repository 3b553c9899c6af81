-- The whole graph: each head has its entry and its back edge.
use Rattle.std.proofs.Common.{◌≡◌, ℕ, suc, ◌+◌, ◌-◌, ◌<◌, inl, inr, List, [], ◌∷◌, ◌++◌, length, Option, Some, None, refl, ap, ◌∙◌, arith, append-nil}
use Rattle.std.specs.Prelude.{◌==◌, slice_index_or, slice_set}
use Rattle.std.proofs.lemmas.List.{length-replicate}
use Rattle.wm_flow.specs.declared.graph.Head.{Head}
use Rattle.wm_flow.specs.declared.graph.Sum.{Sum}
use Rattle.wm_flow.specs.Plain.{Arc}
use Rattle.wm_flow.specs.Places.{Plan}
use Rattle.wm_flow.specs.Strokes.{Stroke, Line, Part, point}
use Rattle.wm_flow.specs.Calls.{scene_of, to_head, to_head_from_start, from_head}
use Rattle.wm_flow.specs.Expressions.{size_at}
use Rattle.wm_flow.specs.Parts.{instance_count, plan_for, plan_of}
use Rattle.wm_flow.specs.Graphs.{Sketch, drawn, all_drawn, drawn_part, taking_inputs, static_point, head_node, before_frames, frame_strokes, nothing_drawn, whole_strokes, whole_drawn, flow_from, graph_of, no_head}
use Rattle.wm_graph_laws.specs.Each.{Each}
use Rattle.wm_graph_laws.specs.Manner.{manner}
use Rattle.wm_graph_laws.specs.Following.{Open, Entered, Inside, Turned, IsAway, Away, landed, Behind, Follows}
use Rattle.wm_graph_laws.specs.Ordered.{IsRunning}
use Rattle.wm_graph_laws.specs.Calling.{IsThere}
use Rattle.wm_graph_laws.specs.Standing.{IsBehind, Stands}
use Rattle.wm_graph_laws.specs.Begun.{begun_in, begun_part, all_begun, HeadsStand}
use Rattle.wm_graph_laws.specs.Loops.{Lacks, IsNamed, AreFresh, HeadsHold}
use Rattle.wm_graph_laws.specs.Laws.{IsHeaded, GraphsAreHeaded}
use Rattle.wm_graph_laws.proofs.Joins.{led_onward, each_landed}
use Rattle.wm_graph_laws.proofs.Lifted.{IsSized, each_append, each_map, stands_along, stands_same}
use Rattle.wm_graph_laws.proofs.Sized.{plan_sized}
use Rattle.wm_graph_laws.proofs.Holding.{hold_into, hold_back, hold_begun, hold_ended}
use Rattle.wm_graph_laws.proofs.Headed.{PartKept, strokes_hold, fresh_taken, each_numbers}
use Rattle.wm_graph_laws.proofs.HeadedParts.{among_each, part_holds}
use Rattle.wm_graph_laws.proofs.Found.{all_headed}
use Rattle.wm_graph_laws.proofs.Whole.{drawn_behind}

each_any : {A : Type 0} (P : A → Type 0) (xs : List A) → ((x : A) → P x) → Each P xs
each_any P [] on = tt
each_any P (x ∷ xs) on = (on x, each_any P xs on)

module _ (plan : Plan) (sized : IsSized plan) where
  abbrev May : ℕ → Type 0
  May it = it < instance_count plan.code

  abbrev draw : ℕ → ℕ → Sketch → Sketch
  draw = drawn_part plan (instance_count plan.code)

  abbrev parts : ℕ → ℕ → List ℕ
  parts = begun_part plan (instance_count plan.code)

  abbrev count : ℕ
  count = plan.tables.heads

  abbrev head : ℕ
  head = head_node plan

  part : (instance start nodes least : ℕ) (far : List ℕ) (heads closed : List Open) (rest : List ℕ) (sketch : Sketch) → May instance → start ≡ nodes → Away start (start + size_at plan instance) far → Stands nodes least sketch → HeadsHold nodes least far heads closed count sketch → AreFresh count (parts instance start ++ rest) (heads ++ closed) → PartKept (suc (start + size_at plan instance)) count far heads (heads ++ closed) (parts instance start) rest (draw instance start sketch)
  part instance start nodes least far heads closed rest sketch may at away s h fresh =
      part_holds plan sized count (instance_count plan.code) instance start nodes least far heads closed rest sketch may (omega arith) at away s h fresh

  -- ---- before the frames

  -- what the frame head is entered from
  abbrev pub before_head : Option ℕ → List Stroke
  before_head None = static_point ∷ []
  before_head (Some init) = Part init 0 ∷ []

  abbrev pub entry_arc : Option ℕ → Arc
  entry_arc None = record { source = 0; target = 1; doing = to_head_from_start plan; site = None }
  entry_arc (Some init) = record { source = size_at plan init; target = suc (size_at plan init); doing = to_head plan init; site = None }

  abbrev AtHead : Behind
  AtHead n l f o = (n ≡ head) × (l ≡ 0) × (f ≡ []) × (o ≡ [])

  head_follows : (init : Option ℕ) → plan.code.init ≡ init → IsThere plan.code init → Follows plan May (before_head init) AtHead 0 0 [] []
  unfolding Follows
  head_follows None e there = (rw e refl, refl, refl, refl)
  head_follows (Some init) e there = (refl, there, tt, (rw e (omega arith), refl, refl, refl))

  entry_is : (init : Option ℕ) → plan.code.init ≡ init → (suc (entry_arc init).source ≡ head) × ((entry_arc init).target ≡ head) × IsRunning (entry_arc init)
  unfolding to_head to_head_from_start manner
  entry_is None e = (rw e refl, rw e refl, omega arith)
  entry_is (Some init) e = (rw e refl, rw e refl, omega arith)

  abbrev headless : Option ℕ → Sketch
  headless init = all_drawn plan.code draw (before_head init) (nothing_drawn plan)

  abbrev entered : Option ℕ → Sketch
  entered init = record (headless init) { arcs = (headless init).arcs ++ entry_arc init ∷ [] }

  entered_is : (init : Option ℕ) → all_drawn plan.code draw (before_frames plan init) (nothing_drawn plan) ≡ entered init
  unfolding drawn
  entered_is None = refl
  entered_is (Some init) = refl

  begun_same : (init : Option ℕ) → begun_in parts (before_frames plan init) ≡ begun_in parts (before_head init)
  begun_same None = refl
  begun_same (Some init) = refl

  nothing_stands : Stands 0 0 (nothing_drawn plan)
  nothing_stands = record { count = refl; ordered = tt; behind = tt; running = tt }

  nothing_holds : HeadsHold 0 0 [] [] [] count (nothing_drawn plan)
  nothing_holds = record { lands = tt; last = inl refl; past = tt; apart = tt; opens = tt; closes = tt; table = length-replicate plan.tables.heads no_head; backs = tt }

  -- the frame head is entered
  pub record Prepared (begun rest : List ℕ) (sketch : Sketch) : Type 0 where
    pub closed : List Open
    pub stands : Stands head (suc head) sketch
    pub holds : HeadsHold head (suc head) [] (Entered head ∷ []) closed count sketch
    pub fresh : AreFresh count rest (Entered head ∷ closed)
    pub named : Each (λ n. IsNamed n closed) begun

  prepared : (init : Option ℕ) (rest : List ℕ) → plan.code.init ≡ init → IsThere plan.code init → AreFresh count (begun_in parts (before_head init) ++ rest) [] → Prepared (begun_in parts (before_head init)) rest (entered init)
  prepared init rest e there fresh =
      let arc = entry_arc init in
      let is = entry_is init e in
      let kept = strokes_hold plan May draw parts count part (before_head init) AtHead 0 0 [] [] [] rest (nothing_drawn plan) (head_follows init e there) nothing_stands nothing_holds fresh in
      let stands : Stands head 0 (headless init) = rw (kept.k.0, kept.k.1) at kept.stands in
      let holds : HeadsHold head 0 [] [] kept.closed count (headless init) = rw (kept.k.0, kept.k.1, kept.k.2, kept.k.3) at kept.holds in
      let fresh2 : AreFresh count rest kept.closed = rw kept.k.3 at kept.fresh in
      let named : Each (λ n. IsNamed n kept.closed) (begun_in parts (before_head init)) = rw kept.k.3 at kept.named in
      let target : suc arc.target ≡ suc head = ap suc is.1 in
      record {
        closed = kept.closed;
        stands = rw target at (stands_along head 0 (headless init) (entered init) arc refl refl is.0 (omega arith) is.2 stands);
        holds = rw target at (hold_into head 0 [] [] kept.closed count (headless init) (entered init) arc refl refl is.0 is.1 refl tt stands.behind holds);
        fresh = record { within = fresh2.within; distinct = fresh2.distinct; fresh = each_map (λ n. Each (Lacks n) kept.closed) (λ n. Each (Lacks n) (Entered head ∷ kept.closed)) rest (λ n l. (tt, l)) fresh2.fresh };
        named = named;
      }

  -- ---- the frames

  abbrev last : ℕ
  last = head + 2 + size_at plan plan.code.frame

  abbrev frame_inside : List Stroke
  frame_inside =
      static_point ∷ Line head (head + 1) (from_head plan plan.code.frame) None ∷ point plan (scene_of plan plan.code.frame) 0
      ∷ Line (head + 1) (head + 2) (taking_inputs plan) None ∷ Part plan.code.frame (head + 2) ∷ []

  abbrev heads_in : List Open
  heads_in = Inside head 0 ∷ []

  abbrev AtExit : Behind
  AtExit n l f o = (n ≡ suc last) × (l ≡ 0) × Each (λ t. t < suc last) f × (o ≡ heads_in)

  frame_follows : (least : ℕ) → plan.code.frame < instance_count plan.code → Follows plan May frame_inside AtExit head least [] heads_in
  unfolding Follows from_head taking_inputs manner point
  frame_follows least there =
      let P : ℕ → Type 0 = IsAway (head + 2) last in
      let Q : ℕ → Type 0 = λ t. t < suc last in
      let far = landed (head + 1 == suc head) (head + 1) [] in (
        refl,
        led_onward _ _ (suc head) 0 [] heads_in (head + 1) refl (omega arith) (omega arith) (
          omega arith,
          led_onward _ _ (suc (suc head)) 0 far heads_in (head + 2) refl (omega arith) (omega arith) (
            omega arith,
            there,
            each_landed P (head + 2 == suc (suc head)) (head + 2) far (λ a b. omega arith) (each_landed P (head + 1 == suc head) (head + 1) [] (λ a b. omega arith) tt),
            (refl, refl, each_landed Q (head + 2 == suc (suc head)) (head + 2) far (omega arith) (each_landed Q (head + 1 == suc head) (head + 1) [] (omega arith) tt), refl),
          ),
        ),
      )

  abbrev back_arc : Arc
  back_arc = record { source = last; target = head; doing = to_head plan plan.code.frame; site = None }

  abbrev head_record : Sketch → Head
  head_record sketch = record { node = head; instance = None; loop_id = None; entry = length sketch.arcs - 1; back = 0 }

  abbrev headed : Sketch → Sketch
  headed sketch = record sketch { heads = slice_set sketch.heads 0 (head_record sketch) }

  abbrev returned : Sketch → Sketch
  returned sketch = record sketch { arcs = sketch.arcs ++ back_arc ∷ [] }

  abbrev ended : Sketch → Sketch
  ended sketch =
      record sketch { heads = slice_set sketch.heads 0 (record (slice_index_or sketch.heads 0 no_head) { back = length sketch.arcs - 1 }) }

  abbrev framed : Sketch
  framed = all_drawn plan.code draw frame_inside (headed (entered plan.code.init))

  whole_is : whole_drawn plan ≡ ended (returned framed)
  unfolding whole_strokes frame_strokes drawn
  whole_is =
      drawn_behind plan.code draw (before_frames plan plan.code.init) (frame_strokes plan) (nothing_drawn plan)
      ∙ ap (λ (it : Sketch). all_drawn plan.code draw (frame_strokes plan) it) (entered_is plan.code.init)

  begun_is : all_begun plan ≡ begun_in parts (before_head plan.code.init) ++ 0 ∷ begun_in parts frame_inside
  unfolding all_begun frame_strokes point
  begun_is = ap (λ (ns : List ℕ). ns ++ begun_in parts (frame_strokes plan)) (begun_same plan.code.init)

  whole_headed : HeadsStand plan → IsThere plan.code plan.code.init → plan.code.frame < instance_count plan.code → (sums : List Sum) → IsHeaded (flow_from sums (whole_drawn plan))
  whole_headed stand there frame sums =
      let first = begun_in parts (before_head plan.code.init) in
      let inner = begun_in parts frame_inside in
      let numbers = first ++ 0 ∷ inner in
      let fresh : AreFresh count numbers [] = record { within = rw begun_is at stand.within; distinct = rw begun_is at stand.distinct; fresh = each_any (λ n. Each (Lacks n) []) numbers (λ n. tt) } in
      let p = prepared plan.code.init (0 ∷ inner) refl there fresh in
      let begin = entered plan.code.init in
      let at = headed begin in
      let holds1 : HeadsHold head (suc head) [] heads_in p.closed count at = hold_begun head (suc head) [] 0 0 [] p.closed count begin at head 0 (head_record begin) refl refl refl refl refl p.fresh.within.0 p.fresh.fresh.0.1 p.holds in
      let stands1 : Stands head (suc head) at = stands_same head (suc head) begin at refl refl p.stands in
      let fresh1 : AreFresh count inner (Inside head 0 ∷ p.closed) = fresh_taken count 0 head inner p.closed p.fresh in
      let kept = strokes_hold plan May draw parts count part frame_inside AtExit head (suc head) [] heads_in p.closed [] at (frame_follows (suc head) frame) stands1 holds1 (rw append-nil fresh1) in
      let holds2 : HeadsHold (suc last) 0 kept.far heads_in kept.closed count framed = rw (kept.k.0, kept.k.1, kept.k.3) at kept.holds in
      let stands2 : Stands (suc last) 0 framed = rw (kept.k.0, kept.k.1) at kept.stands in
      let still : (n : ℕ) → IsNamed n (Inside head 0 ∷ p.closed) → IsNamed n (Inside head 0 ∷ kept.closed) = rw kept.k.3 at kept.still in
      let named : Each (λ n. IsNamed n (Inside head 0 ∷ kept.closed)) inner = rw kept.k.3 at kept.named in
      let back = returned framed in
      let holds3 : HeadsHold (suc last) (suc head) kept.far (Turned head 0 ∷ []) kept.closed count back = hold_back (suc last) 0 kept.far head 0 [] kept.closed count framed back back_arc refl refl refl refl (omega arith) (omega arith) holds2 in
      let behind : Each (IsBehind (suc last) (suc head)) back.arcs = each_append (IsBehind (suc last) (suc head)) framed.arcs back_arc (each_map (IsBehind (suc last) 0) (IsBehind (suc last) (suc head)) framed.arcs (λ arc b. record { source = b.source; target = λ e. omega (arith, b.target e) }) stands2.behind) (record { source = omega arith; target = λ e. omega arith }) in
      let closed = Turned head 0 ∷ kept.closed in
      let holds4 : HeadsHold (suc last) (suc head) kept.far [] closed count (ended back) = hold_ended (suc last) (suc head) kept.far head 0 [] kept.closed count back (ended back) _ refl refl refl refl behind holds3 in
      let all : Each (λ n. IsNamed n closed) numbers = each_numbers (λ n. IsNamed n closed) first (0 ∷ inner) (each_map (λ n. IsNamed n p.closed) (λ n. IsNamed n closed) first (λ n l. still n (inr l)) p.named) (inl refl, named) in
      rw whole_is (all_headed (suc last) (suc head) kept.far closed count (ended back) sums holds4
      (λ number within. among_each (λ n. IsNamed n closed) numbers number (rw begun_is at (stand.covered number within)) all)
      behind kept.k.2 stands2.count (omega arith))

pub graphs_are_headed : GraphsAreHeaded
unfolding graph_of plan_of plan_for
graphs_are_headed code sums calls stand = whole_headed (plan_of code sums) (plan_sized code sums calls) stand calls.init calls.frame sums
