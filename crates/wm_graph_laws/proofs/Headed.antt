-- What is drawn with strokes that follow each other and begin new heads: each loop has its entry and its back edge.
use Rattle.std.proofs.Common.{◌≡◌, ℕ, suc, ◌+◌, ◌-◌, inl, inr, ⊎_elim, List, [], ◌∷◌, ◌++◌, length, refl, ap, sym, ◌∙◌, append_assoc}
use Rattle.std.specs.Prelude.{◌==◌, slice_set, slice_index_or}
use Rattle.wm_flow.specs.declared.graph.Head.{Head}
use Rattle.wm_flow.specs.Plain.{Arc}
use Rattle.wm_flow.specs.Layouts.{layout_at}
use Rattle.wm_flow.specs.Places.{Plan}
use Rattle.wm_flow.specs.Strokes.{Stroke, Point, Line, Part, Begins, Turns}
use Rattle.wm_flow.specs.Expressions.{size_at}
use Rattle.wm_flow.specs.Graphs.{Sketch, number_in, known_in, node_drawn, drawn, all_drawn, no_head}
use Rattle.wm_graph_laws.specs.Each.{Each}
use Rattle.wm_graph_laws.specs.Manner.{Manner, Into, Back, Onward, manner}
use Rattle.wm_graph_laws.specs.Following.{Open, Entered, Inside, Turned, Away, landed, Behind, Led, Begun, Ended, Follows}
use Rattle.wm_graph_laws.specs.Standing.{IsBehind, Stands}
use Rattle.wm_graph_laws.specs.Begun.{begun_in}
use Rattle.wm_graph_laws.specs.Loops.{Lacks, IsNamed, AreFresh, HeadsHold}
use Rattle.wm_graph_laws.proofs.Lifted.{each_map, stands_with, stands_along, stands_same, node_arcs, node_heads, node_count, led_gone}
use Rattle.wm_graph_laws.proofs.Steps.{each_between, named_between}
use Rattle.wm_graph_laws.proofs.Holding.{hold_point, hold_onward, hold_into, hold_back, hold_begun, hold_ended}

-- ---- new numbers

pub each_numbers : (P : ℕ → Type 0) (xs ys : List ℕ) → Each P xs → Each P ys → Each P (xs ++ ys)
each_numbers P [] ys h i = i
each_numbers P (x ∷ xs) ys h i = (h.0, each_numbers P xs ys h.1 i)

fresh_on : (count : ℕ) (numbers : List ℕ) (xs ys : List Open) → ((n : ℕ) → Each (Lacks n) xs → Each (Lacks n) ys) → AreFresh count numbers xs → AreFresh count numbers ys
fresh_on count numbers xs ys on h =
    record {
      within = h.within;
      distinct = h.distinct;
      fresh = each_map (λ n. Each (Lacks n) xs) (λ n. Each (Lacks n) ys) numbers on h.fresh;
    }

-- a number is taken
pub fresh_taken : (count n at : ℕ) (numbers : List ℕ) (loops : List Open) → AreFresh count (n ∷ numbers) (Entered at ∷ loops) → AreFresh count numbers (Inside at n ∷ loops)
fresh_taken count n at numbers loops h =
    record {
      within = h.within.1;
      distinct = h.distinct.1;
      fresh = both numbers h.distinct.0 h.fresh.1;
    }
  where
    both : (ms : List ℕ) → Each (λ m. n ≡ m → ⊥) ms → Each (λ m. Each (Lacks m) (Entered at ∷ loops)) ms → Each (λ m. Each (Lacks m) (Inside at n ∷ loops)) ms
    both [] d f = tt
    both (m ∷ ms) d f = ((λ e. d.0 (sym e), f.0.1), both ms d.1 f.1)

-- ---- one edge

pub record Lined (K : Behind) (nodes target count : ℕ) (before closed : List Open) (sketch : Sketch) : Type 0 where
  pub far : List ℕ
  pub heads : List Open
  pub k : K nodes (suc target) far heads
  pub holds : HeadsHold nodes (suc target) far heads closed count sketch
  pub fresh : (numbers : List ℕ) → AreFresh count numbers (before ++ closed) → AreFresh count numbers (heads ++ closed)
  pub still : (n : ℕ) → IsNamed n (before ++ closed) → IsNamed n (heads ++ closed)

line_holds : (m : Manner) (K : Behind) (nodes least : ℕ) (far : List ℕ) (heads closed : List Open) (count : ℕ) (sketch new : Sketch) (arc : Arc) → new.arcs ≡ sketch.arcs ++ arc ∷ [] → new.heads ≡ sketch.heads → suc arc.source ≡ nodes → Each (IsBehind nodes least) sketch.arcs → HeadsHold nodes least far heads closed count sketch → Led m K nodes least far heads arc.target → Lined K nodes arc.target count heads closed new
unfolding Led
line_holds Into K nodes least far heads closed count sketch new arc same table at behind h led =
    record {
      far = far;
      heads = Entered nodes ∷ heads;
      k = led.3;
      holds = hold_into nodes least far heads closed count sketch new arc same table at led.0 led.1 led.2 behind h;
      fresh = λ numbers f. fresh_on count numbers (heads ++ closed) (Entered nodes ∷ heads ++ closed) (λ n l. (tt, l)) f;
      still = λ n l. inr l;
    }
line_holds Back K nodes least far [] closed count sketch new arc same table at behind h led = absurd led
line_holds Back K nodes least far (Entered node ∷ heads) closed count sketch new arc same table at behind h led = absurd led
line_holds Back K nodes least far (Inside node number ∷ heads) closed count sketch new arc same table at behind h led =
    record {
      far = far;
      heads = Turned node number ∷ heads;
      k = led.3;
      holds = hold_back nodes least far node number heads closed count sketch new arc same table at led.0 led.1 led.2 h;
      fresh = λ numbers f. fresh_on count numbers (Inside node number ∷ heads ++ closed) (Turned node number ∷ heads ++ closed) (λ n l. l) f;
      still = λ n l. l;
    }
line_holds Back K nodes least far (Turned node number ∷ heads) closed count sketch new arc same table at behind h led = absurd led
line_holds Onward K nodes least far heads closed count sketch new arc same table at behind h led =
    record {
      far = landed (arc.target == nodes) arc.target far;
      heads = heads;
      k = led.2;
      holds = hold_onward nodes least far heads closed count sketch new arc same table at led.0 led.1 h;
      fresh = λ numbers f. f;
      still = λ n l. l;
    }

-- ---- one head

pub record Headed (K : Behind) (nodes least : ℕ) (far : List ℕ) (count number : ℕ) (before : List Open) (numbers : List ℕ) (sketch : Sketch) : Type 0 where
  pub heads : List Open
  pub closed : List Open
  pub k : K nodes least far heads
  pub holds : HeadsHold nodes least far heads closed count sketch
  pub fresh : AreFresh count numbers (heads ++ closed)
  pub still : (n : ℕ) → IsNamed n before → IsNamed n (heads ++ closed)

pub record Opened (K : Behind) (nodes least : ℕ) (far : List ℕ) (count number : ℕ) (before closed : List Open) (numbers : List ℕ) (sketch : Sketch) : Type 0 where
  pub heads : List Open
  pub k : K nodes least far heads
  pub holds : HeadsHold nodes least far heads closed count sketch
  pub fresh : AreFresh count numbers (heads ++ closed)
  pub named : IsNamed number (heads ++ closed)
  pub still : (n : ℕ) → IsNamed n before → IsNamed n (heads ++ closed)

begun_holds : (K : Behind) (nodes least : ℕ) (far : List ℕ) (heads closed : List Open) (count : ℕ) (numbers : List ℕ) (sketch new : Sketch) (number node : ℕ) (head : Head) → new.arcs ≡ sketch.arcs → new.heads ≡ slice_set sketch.heads number head → head.node ≡ node → head.entry ≡ length sketch.arcs - 1 → Begun K nodes least far heads number node → HeadsHold nodes least far heads closed count sketch → AreFresh count (number ∷ numbers) (heads ++ closed) → Opened K nodes least far count number (heads ++ closed) closed numbers new
unfolding Begun
begun_holds K nodes least far [] closed count numbers sketch new number node head same table node_is entry_is b h fresh = absurd b
begun_holds K nodes least far (Entered at ∷ heads) closed count numbers sketch new number node head same table node_is entry_is b h fresh =
    record {
      heads = Inside at number ∷ heads;
      k = b.2;
      holds = hold_begun nodes least far 0 0 heads closed count sketch new at number head same table (node_is ∙ b.0) entry_is b.1 fresh.within.0 fresh.fresh.0.1 h;
      fresh = fresh_taken count number at numbers (heads ++ closed) fresh;
      named = inl refl;
      still = λ n l. ⊎_elim (λ (f : ⊥). absurd f) (λ r. inr r) l;
    }
begun_holds K nodes least far (Inside at other ∷ heads) closed count numbers sketch new number node head same table node_is entry_is b h fresh = absurd b
begun_holds K nodes least far (Turned at other ∷ heads) closed count numbers sketch new number node head same table node_is entry_is b h fresh = absurd b

ended_holds : (K : Behind) (nodes least : ℕ) (far : List ℕ) (heads closed : List Open) (count : ℕ) (numbers : List ℕ) (sketch new : Sketch) (number : ℕ) (head : Head) → new.arcs ≡ sketch.arcs → new.heads ≡ slice_set sketch.heads number head → head ≡ record (slice_index_or sketch.heads number no_head) { back = length sketch.arcs - 1 } → Each (IsBehind nodes least) sketch.arcs → Ended K nodes least far heads number → HeadsHold nodes least far heads closed count sketch → AreFresh count numbers (heads ++ closed) → Headed K nodes least far count number (heads ++ closed) numbers new
unfolding Ended
ended_holds K nodes least far [] closed count numbers sketch new number head same table head_is behind b h fresh = absurd b
ended_holds K nodes least far (Entered at ∷ heads) closed count numbers sketch new number head same table head_is behind b h fresh = absurd b
ended_holds K nodes least far (Inside at other ∷ heads) closed count numbers sketch new number head same table head_is behind b h fresh = absurd b
ended_holds K nodes least far (Turned at other ∷ heads) closed count numbers sketch new number head same table head_is behind b h fresh =
    record {
      heads = heads;
      closed = Turned at other ∷ closed;
      k = b.2;
      holds = hold_ended nodes least far at other heads closed count sketch new head same (rw b.0 at table) (rw b.0 at head_is) b.1 behind h;
      fresh = fresh_on count numbers (Turned at other ∷ heads ++ closed) (heads ++ Turned at other ∷ closed) (λ n l. each_between (Lacks n) heads closed (Turned at other) l.1 l.0) fresh;
      still = λ n l. named_between n heads closed (Turned at other) l;
    }

-- ---- strokes

pub record Kept (K : Behind) (count : ℕ) (before : List Open) (begun rest : List ℕ) (sketch : Sketch) : Type 0 where
  pub nodes : ℕ
  pub least : ℕ
  pub far : List ℕ
  pub heads : List Open
  pub closed : List Open
  pub k : K nodes least far heads
  pub stands : Stands nodes least sketch
  pub holds : HeadsHold nodes least far heads closed count sketch
  pub fresh : AreFresh count rest (heads ++ closed)
  pub named : Each (λ n. IsNamed n (heads ++ closed)) begun
  pub still : (n : ℕ) → IsNamed n before → IsNamed n (heads ++ closed)

-- the same of what came before, with more begun
kept_from : (K : Behind) (count : ℕ) (before after : List Open) (begun rest : List ℕ) (sketch : Sketch) → ((n : ℕ) → IsNamed n before → IsNamed n after) → Kept K count after begun rest sketch → Kept K count before begun rest sketch
kept_from K count before after begun rest sketch on h =
    record {
      nodes = h.nodes;
      least = h.least;
      far = h.far;
      heads = h.heads;
      closed = h.closed;
      k = h.k;
      stands = h.stands;
      holds = h.holds;
      fresh = h.fresh;
      named = h.named;
      still = λ n l. h.still n (on n l);
    }

kept_more : (K : Behind) (count : ℕ) (before : List Open) (first begun rest : List ℕ) (sketch : Sketch) → Each (λ n. IsNamed n before) first → Kept K count before begun rest sketch → Kept K count before (first ++ begun) rest sketch
kept_more K count before first begun rest sketch named h =
    record {
      nodes = h.nodes;
      least = h.least;
      far = h.far;
      heads = h.heads;
      closed = h.closed;
      k = h.k;
      stands = h.stands;
      holds = h.holds;
      fresh = h.fresh;
      named = each_numbers (λ n. IsNamed n (h.heads ++ h.closed)) first begun (each_map (λ n. IsNamed n before) (λ n. IsNamed n (h.heads ++ h.closed)) first h.still named) h.named;
      still = h.still;
    }

-- behind a part: its nodes are drawn, and the open loops are the same
pub record PartKept (nodes count : ℕ) (far : List ℕ) (heads before : List Open) (begun rest : List ℕ) (sketch : Sketch) : Type 0 where
  pub closed : List Open
  pub stands : Stands nodes 0 sketch
  pub holds : HeadsHold nodes 0 far heads closed count sketch
  pub fresh : AreFresh count rest (heads ++ closed)
  pub named : Each (λ n. IsNamed n (heads ++ closed)) begun
  pub still : (n : ℕ) → IsNamed n before → IsNamed n (heads ++ closed)

module _ (plan : Plan) (May : ℕ → Type 0) (draw : ℕ → ℕ → Sketch → Sketch) (parts : ℕ → ℕ → List ℕ) (count : ℕ) (part : (instance start nodes least : ℕ) (far : List ℕ) (heads closed : List Open) (rest : List ℕ) (sketch : Sketch) → May instance → start ≡ nodes → Away start (start + size_at plan instance) far → Stands nodes least sketch → HeadsHold nodes least far heads closed count sketch → AreFresh count (parts instance start ++ rest) (heads ++ closed) → PartKept (suc (start + size_at plan instance)) count far heads (heads ++ closed) (parts instance start) rest (draw instance start sketch)) where
  pub strokes_hold : (strokes : List Stroke) (K : Behind) (nodes least : ℕ) (far : List ℕ) (heads closed : List Open) (rest : List ℕ) (sketch : Sketch) → Follows plan May strokes K nodes least far heads → Stands nodes least sketch → HeadsHold nodes least far heads closed count sketch → AreFresh count (begun_in parts strokes ++ rest) (heads ++ closed) → Kept K count (heads ++ closed) (begun_in parts strokes) rest (all_drawn plan.code draw strokes sketch)
  unfolding Follows drawn
  strokes_hold [] K nodes least far heads closed rest sketch h s holds fresh =
      record { nodes = nodes; least = least; far = far; heads = heads; closed = closed; k = h; stands = s; holds = holds; fresh = fresh; named = tt; still = λ n l. l }
  strokes_hold (Point context instance counters temporaries ∷ strokes) K nodes least far heads closed rest sketch h s holds fresh =
      let layout = layout_at plan.code instance counters temporaries in
      let known = number_in temporaries (known_in sketch context) in
      let new = node_drawn layout context temporaries instance known sketch in
      strokes_hold strokes K (suc nodes) 0 far heads closed rest new h
      (stands_with nodes least sketch new (node_arcs layout context temporaries instance known sketch) (node_count layout context temporaries instance known sketch ∙ ap suc s.count) s)
      (hold_point nodes least far heads closed count sketch new (node_arcs layout context temporaries instance known sketch) (node_heads layout context temporaries instance known sketch) holds) fresh
  strokes_hold (Line source target doing site ∷ strokes) K nodes least far heads closed rest sketch h s holds fresh =
      let arc : Arc = record { source = source; target = target; doing = doing; site = site } in
      let new = record sketch { arcs = sketch.arcs ++ arc ∷ [] } in
      let gone = led_gone (manner doing) (Follows plan May strokes K) nodes least far heads arc h.0 h.1 in
      let lined = line_holds (manner doing) (Follows plan May strokes K) nodes least far heads closed count sketch new arc refl refl h.0 s.behind holds h.1 in
      kept_from K count (heads ++ closed) (lined.heads ++ closed) (begun_in parts strokes) rest _ lined.still
      (strokes_hold strokes K nodes (suc target) lined.far lined.heads closed rest new lined.k
      (stands_along nodes least sketch new arc refl refl h.0 gone.1 gone.2 s) lined.holds (lined.fresh (begun_in parts strokes ++ rest) fresh))
  strokes_hold (Part instance start ∷ strokes) K nodes least far heads closed rest sketch h s holds fresh =
      let first = parts instance start in
      let later = begun_in parts strokes in
      let kept = part instance start nodes least far heads closed (later ++ rest) sketch h.1 h.0 h.2 s holds (rw (append_assoc first later rest) at fresh) in
      kept_from K count (heads ++ closed) (heads ++ kept.closed) (first ++ later) rest _ kept.still
      (kept_more K count (heads ++ kept.closed) first later rest _ kept.named
      (strokes_hold strokes K (suc (start + size_at plan instance)) 0 far heads kept.closed rest (draw instance start sketch) h.3 kept.stands kept.holds kept.fresh))
  strokes_hold (Begins head instance loop node ∷ strokes) K nodes least far heads closed rest sketch h s holds fresh =
      let record_of : Head = record { node = node; instance = instance; loop_id = loop; entry = length sketch.arcs - 1; back = 0 } in
      let new = record sketch { heads = slice_set sketch.heads head record_of } in
      let begun = begun_holds (Follows plan May strokes K) nodes least far heads closed count (begun_in parts strokes ++ rest) sketch new head node record_of refl refl refl refl h holds fresh in
      kept_from K count (heads ++ closed) (begun.heads ++ closed) (head ∷ begun_in parts strokes) rest _ begun.still
      (kept_more K count (begun.heads ++ closed) (head ∷ []) (begun_in parts strokes) rest _ (begun.named, tt)
      (strokes_hold strokes K nodes least far begun.heads closed rest new begun.k (stands_same nodes least sketch new refl refl s) begun.holds begun.fresh))
  strokes_hold (Turns head ∷ strokes) K nodes least far heads closed rest sketch h s holds fresh =
      let record_of : Head = record (slice_index_or sketch.heads head no_head) { back = length sketch.arcs - 1 } in
      let new = record sketch { heads = slice_set sketch.heads head record_of } in
      let ended = ended_holds (Follows plan May strokes K) nodes least far heads closed count (begun_in parts strokes ++ rest) sketch new head record_of refl refl refl s.behind h holds fresh in
      kept_from K count (heads ++ closed) (ended.heads ++ ended.closed) (begun_in parts strokes) rest _ ended.still
      (strokes_hold strokes K nodes least far ended.heads ended.closed rest new ended.k (stands_same nodes least sketch new refl refl s) ended.holds ended.fresh)
