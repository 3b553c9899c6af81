-- The loops of what has been drawn, after one more stroke.
use Rattle.std.proofs.Common.{◌≡◌, ℕ, zero, suc, ◌-◌, ◌<◌, ◌≤◌, inl, inr, ⊎_elim, Bool, true, false, List, [], ◌∷◌, ◌++◌, length, Some, None, refl, ap, sym, ◌∙◌, arith, length-append, length-set}
use Rattle.std.specs.Prelude.{slice_index_or, slice_set, ◌==◌}
use Rattle.std.proofs.lemmas.List.{get_or-set_same}
use Rattle.std.proofs.lemmas.Bool.Decides.{nat_tests}
use Rattle.wm_flow.specs.declared.graph.Head.{Head}
use Rattle.wm_flow.specs.Plain.{Arc}
use Rattle.wm_flow.specs.Graphs.{Sketch, no_head}
use Rattle.wm_graph_laws.specs.Each.{Each}
use Rattle.wm_graph_laws.specs.Begun.{IsAmong}
use Rattle.wm_graph_laws.specs.Following.{Open, Entered, Inside, Turned, landed}
use Rattle.wm_graph_laws.specs.Standing.{IsBehind}
use Rattle.wm_graph_laws.specs.Loops.{At, Loop, Stored, IsOpen, IsClosed, node_of, Lacks, Differ, GoesBack, Lands, IsLast, IsPast, HeadsHold}
use Rattle.wm_graph_laws.proofs.Lifted.{each_append, each_map}
use Rattle.wm_graph_laws.proofs.Steps.{at_last, at_cases, at_each, enters_on, open_on, closed_on, open_set, closed_set, each_left, each_right, apart_between, each_between, node_between, backs_on}

not_among : (n : ℕ) (far : List ℕ) → Each (λ t. t ≡ n → ⊥) far → IsAmong n far → ⊥
not_among n [] h a = a
not_among n (t ∷ far) h (inl e) = h.0 (sym e)
not_among n (t ∷ far) h (inr a) = not_among n far h.1 a

pub at_same : (arcs : List Arc) (k : ℕ) (a b : Arc) → At arcs k a → At arcs k b → a ≡ b
at_same [] k a b h i = absurd h
at_same (x ∷ arcs) zero a b h i = sym h ∙ i
at_same (x ∷ arcs) (suc k) a b h i = at_same arcs k a b h i

-- ---- what is past stays so

past_next : (nodes least : ℕ) (loop : Open) → IsPast nodes least loop → IsPast (suc nodes) 0 loop
past_next nodes least loop (inl h) = inl (omega arith)
past_next nodes least loop (inr h) = inl (omega (arith, h.0))

past_along : (nodes least more : ℕ) (loop : Open) → least ≤ more → IsPast nodes least loop → IsPast nodes more loop
past_along nodes least more loop up (inl h) = inl h
past_along nodes least more loop up (inr h) = inr (h.0, omega (arith, h.1))

past_apart : (nodes least target : ℕ) (loop : Open) → nodes ≤ target → least ≤ target → IsPast nodes least loop → target ≡ node_of loop → ⊥
past_apart nodes least target loop a b (inl h) e = omega arith
past_apart nodes least target loop a b (inr h) e = omega (arith, h.0, h.1)

lands_next : (nodes more : ℕ) (far : List ℕ) (arc : Arc) → nodes ≤ more → Lands nodes far arc → Lands more far arc
lands_next nodes more far arc up (inl h) = inl h
lands_next nodes more far arc up (inr (inl h)) = inr (inl (omega arith))
lands_next nodes more far arc up (inr (inr h)) = inr (inr h)

lands_landed : (nodes : ℕ) (far : List ℕ) (arc : Arc) (b : Bool) (target : ℕ) → Lands nodes far arc → Lands nodes (landed b target far) arc
lands_landed nodes far arc true target h = h
lands_landed nodes far arc false target (inl h) = inl h
lands_landed nodes far arc false target (inr (inl h)) = inr (inl h)
lands_landed nodes far arc false target (inr (inr h)) = inr (inr (inr h))

is_equal : (a b : ℕ) → (a == b) ≡ true → a ≡ b
is_equal a b e = grind (arith, nat_tests)

lands_new : (nodes : ℕ) (far : List ℕ) (arc : Arc) (b : Bool) → (arc.target == nodes) ≡ b → suc arc.source ≡ nodes → Lands nodes (landed b arc.target far) arc
lands_new nodes far arc true e at = inl (is_equal arc.target nodes e ∙ sym at)
lands_new nodes far arc false e at = inr (inr (inl refl))

last_new : (nodes : ℕ) (arcs : List Arc) (arc : Arc) → suc arc.source ≡ nodes → IsLast nodes (suc arc.target) (arcs ++ arc ∷ [])
last_new nodes arcs arc at =
    inr (record { number = length arcs; count = omega (arith, length-append arcs (arc ∷ [])); arc = arc; at = at_last arcs arc; source = at; target = refl })

-- a list of a loop and others, after a step
each_loops : (P Q R : Open → Type 0) (loops : List Open) → ((loop : Open) → P loop → Q loop → R loop) → Each P loops → Each Q loops → Each R loops
each_loops P Q R [] on p q = tt
each_loops P Q R (x ∷ loops) on p q = (on x p.0 q.0, each_loops P Q R loops on p.1 q.1)

opens_as : (a b : List Arc) (h k : List Head) (loops : List Open) → a ≡ b → h ≡ k → Each (IsOpen b k) loops → Each (IsOpen a h) loops
opens_as a b h k loops e f it = rw (e, f) it

closes_as : (a b : List Arc) (h k : List Head) (loops : List Open) → a ≡ b → h ≡ k → Each (IsClosed b k) loops → Each (IsClosed a h) loops
closes_as a b h k loops e f it = rw (e, f) it

-- ---- nodes and edges

module _ (nodes least : ℕ) (far : List ℕ) (loops closed : List Open) (count : ℕ) (sketch new : Sketch) where
  pub hold_point : new.arcs ≡ sketch.arcs → new.heads ≡ sketch.heads → HeadsHold nodes least far loops closed count sketch → HeadsHold (suc nodes) 0 far loops closed count new
  hold_point same heads h =
      record {
        lands = rw same (each_map (Lands nodes far) (Lands (suc nodes) far) sketch.arcs (λ arc it. lands_next nodes (suc nodes) far arc (omega arith) it) h.lands);
        last = inl refl;
        past = each_map (IsPast nodes least) (IsPast (suc nodes) 0) (loops ++ closed) (past_next nodes least) h.past;
        apart = h.apart;
        opens = rw (same, heads) h.opens;
        closes = rw (same, heads) h.closes;
        table = rw heads h.table;
        backs = rw same h.backs;
      }

  -- an edge to a later node
  pub hold_onward : (arc : Arc) → new.arcs ≡ sketch.arcs ++ arc ∷ [] → new.heads ≡ sketch.heads → suc arc.source ≡ nodes → nodes ≤ arc.target → least ≤ arc.target → HeadsHold nodes least far loops closed count sketch → HeadsHold nodes (suc arc.target) (landed (arc.target == nodes) arc.target far) loops closed count new
  hold_onward arc same heads at later up h =
      let more = landed (arc.target == nodes) arc.target far in
      record {
        lands = rw same (each_append (Lands nodes more) sketch.arcs arc (each_map (Lands nodes far) (Lands nodes more) sketch.arcs (λ it lands. lands_landed nodes far it (arc.target == nodes) arc.target lands) h.lands) (lands_new nodes far arc (arc.target == nodes) refl at));
        last = rw same (last_new nodes sketch.arcs arc at);
        past = each_map (IsPast nodes least) (IsPast nodes (suc arc.target)) (loops ++ closed) (λ loop it. past_along nodes least (suc arc.target) loop (omega arith) it) h.past;
        apart = h.apart;
        opens = rw (same, heads) (each_loops (IsPast nodes least) (IsOpen sketch.arcs sketch.heads) (IsOpen (sketch.arcs ++ arc ∷ []) sketch.heads) loops (λ loop past it. open_on sketch.arcs arc sketch.heads loop (past_apart nodes least arc.target loop later up past) it) (each_left (IsPast nodes least) loops closed h.past) h.opens);
        closes = rw (same, heads) (each_loops (IsPast nodes least) (IsClosed sketch.arcs sketch.heads) (IsClosed (sketch.arcs ++ arc ∷ []) sketch.heads) closed (λ loop past it. closed_on sketch.arcs arc sketch.heads loop (past_apart nodes least arc.target loop later up past) it) (each_right (IsPast nodes least) loops closed h.past) h.closes);
        table = rw heads h.table;
        backs = rw same (each_append (GoesBack (loops ++ closed)) sketch.arcs arc h.backs (λ less. absurd (omega arith)));
      }

  differ_new : (loop : Open) → least ≡ 0 → IsPast nodes least loop → Differ (Entered nodes) loop
  differ_new (Entered node) none (inl h) = λ e. omega arith
  differ_new (Entered node) none (inr h) = λ e. omega (arith, h.1)
  differ_new (Inside node number) none (inl h) = (λ e. omega arith, tt)
  differ_new (Inside node number) none (inr h) = (λ e. omega (arith, h.1), tt)
  differ_new (Turned node number) none (inl h) = (λ e. omega arith, tt)
  differ_new (Turned node number) none (inr h) = (λ e. omega (arith, h.1), tt)

  none_there : least ≡ 0 → Each (λ t. t ≡ nodes → ⊥) far → (it : Arc) → Lands nodes far it → IsBehind nodes least it → it.target ≡ nodes → ⊥
  none_there none away it (inl h) b e = omega (arith, b.target (omega arith))
  none_there none away it (inr (inl h)) b e = omega arith
  none_there none away it (inr (inr h)) b e = not_among nodes far away (rw e at h)

  -- the edge into a loop
  pub hold_into : (arc : Arc) → new.arcs ≡ sketch.arcs ++ arc ∷ [] → new.heads ≡ sketch.heads → suc arc.source ≡ nodes → arc.target ≡ nodes → least ≡ 0 → Each (λ t. t ≡ nodes → ⊥) far → Each (IsBehind nodes least) sketch.arcs → HeadsHold nodes least far loops closed count sketch → HeadsHold nodes (suc arc.target) far (Entered nodes ∷ loops) closed count new
  hold_into arc same heads at to none away behind h =
      let more = sketch.arcs ++ arc ∷ [] in
      let apart_of : (loop : Open) → IsPast nodes least loop → arc.target ≡ node_of loop → ⊥ = λ loop past. past_apart nodes least arc.target loop (omega arith) (omega arith) past in
      let entered : Loop more nodes (length sketch.arcs) None = record {
        enters = record { arc = arc; at = at_last sketch.arcs arc; target = to; source = at };
        returns = tt;
        only = λ k it found e. ⊎_elim (λ l. absurd (none_there none away it (at_each (Lands nodes far) sketch.arcs k it l h.lands) (at_each (IsBehind nodes least) sketch.arcs k it l behind) e)) (λ r. r.0) (at_cases sketch.arcs arc it k found);
      } in
      record {
        lands = rw same (each_append (Lands nodes far) sketch.arcs arc h.lands (inl (to ∙ sym at)));
        last = rw same (last_new nodes sketch.arcs arc at);
        past = (inr (refl, omega arith), each_map (IsPast nodes least) (IsPast nodes (suc arc.target)) (loops ++ closed) (λ loop it. past_along nodes least (suc arc.target) loop (omega arith) it) h.past);
        apart = (each_map (IsPast nodes least) (Differ (Entered nodes)) (loops ++ closed) (λ loop past. differ_new loop none past) h.past, h.apart);
        opens = (rw same (length sketch.arcs, entered), opens_as new.arcs more new.heads sketch.heads loops same heads (each_loops (IsPast nodes least) (IsOpen sketch.arcs sketch.heads) (IsOpen more sketch.heads) loops (λ loop past it. open_on sketch.arcs arc sketch.heads loop (apart_of loop past) it) (each_left (IsPast nodes least) loops closed h.past) h.opens));
        closes = rw (same, heads) (each_loops (IsPast nodes least) (IsClosed sketch.arcs sketch.heads) (IsClosed more sketch.heads) closed (λ loop past it. closed_on sketch.arcs arc sketch.heads loop (apart_of loop past) it) (each_right (IsPast nodes least) loops closed h.past) h.closes);
        table = rw heads h.table;
        backs = rw same (each_append (GoesBack (Entered nodes ∷ loops ++ closed)) sketch.arcs arc (backs_on (loops ++ closed) (Entered nodes ∷ loops ++ closed) sketch.arcs (λ n it. inr it) h.backs) (λ less. absurd (omega arith)));
      }

pub differ_node : (a loop : Open) → Differ a loop → node_of a ≡ node_of loop → ⊥
differ_node a (Entered node) h = h
differ_node a (Inside node number) h = h.0
differ_node a (Turned node number) h = h.0

differ_turned : (node number : ℕ) (loop : Open) → Differ (Inside node number) loop → Differ (Turned node number) loop
differ_turned node number (Entered at) h = h
differ_turned node number (Inside at other) h = h
differ_turned node number (Turned at other) h = h

differ_inside : (node number : ℕ) (loop : Open) → Lacks number loop → Differ (Entered node) loop → Differ (Inside node number) loop
differ_inside node number (Entered at) l h = h
differ_inside node number (Inside at other) l h = (h.0, λ e. l (sym e))
differ_inside node number (Turned at other) l h = (h.0, λ e. l (sym e))

differ_lacks : (node number : ℕ) (loop : Open) → Differ (Turned node number) loop → Lacks number loop
differ_lacks node number (Entered at) h = tt
differ_lacks node number (Inside at other) h = λ e. h.1 (sym e)
differ_lacks node number (Turned at other) h = λ e. h.1 (sym e)

module _ (nodes least : ℕ) (far : List ℕ) (node number : ℕ) (loops closed : List Open) (count : ℕ) (sketch new : Sketch) where
  -- the back edge of the innermost loop
  pub hold_back : (arc : Arc) → new.arcs ≡ sketch.arcs ++ arc ∷ [] → new.heads ≡ sketch.heads → suc arc.source ≡ nodes → arc.target ≡ node → node < nodes → least ≤ arc.target → HeadsHold nodes least far (Inside node number ∷ loops) closed count sketch → HeadsHold nodes (suc arc.target) far (Turned node number ∷ loops) closed count new
  hold_back arc same heads at to below up h =
      let more = sketch.arcs ++ arc ∷ [] in
      let top = h.opens.0 in
      let turned : Loop more node top.0.entry (Some (length sketch.arcs)) = record {
        enters = enters_on sketch.arcs arc node top.0.entry top.2.enters;
        returns = record { arc = arc; at = at_last sketch.arcs arc; target = to; source = omega arith };
        only = λ k it found e. ⊎_elim (λ l. inl (top.2.only k it l e)) (λ r. inr r.0) (at_cases sketch.arcs arc it k found);
      } in
      let others : (loop : Open) → Differ (Inside node number) loop → arc.target ≡ node_of loop → ⊥ = λ loop d e. differ_node (Inside node number) loop d (sym to ∙ e) in
      record {
        lands = rw same (each_append (Lands nodes far) sketch.arcs arc h.lands (inr (inl (omega arith))));
        last = rw same (last_new nodes sketch.arcs arc at);
        past = (past_along nodes least (suc arc.target) (Inside node number) (omega arith) h.past.0, each_map (IsPast nodes least) (IsPast nodes (suc arc.target)) (loops ++ closed) (λ loop it. past_along nodes least (suc arc.target) loop (omega arith) it) h.past.1);
        apart = (each_map (Differ (Inside node number)) (Differ (Turned node number)) (loops ++ closed) (differ_turned node number) h.apart.0, h.apart.1);
        opens = (rw (same, heads) (top.0, length sketch.arcs, top.1, turned), opens_as new.arcs more new.heads sketch.heads loops same heads (each_loops (Differ (Inside node number)) (IsOpen sketch.arcs sketch.heads) (IsOpen more sketch.heads) loops (λ loop d it. open_on sketch.arcs arc sketch.heads loop (others loop d) it) (each_left (Differ (Inside node number)) loops closed h.apart.0) h.opens.1));
        closes = rw (same, heads) (each_loops (Differ (Inside node number)) (IsClosed sketch.arcs sketch.heads) (IsClosed more sketch.heads) closed (λ loop d it. closed_on sketch.arcs arc sketch.heads loop (others loop d) it) (each_right (Differ (Inside node number)) loops closed h.apart.0) h.closes);
        table = rw heads h.table;
        backs = rw same (each_append (GoesBack (Turned node number ∷ loops ++ closed)) sketch.arcs arc (backs_on (Inside node number ∷ loops ++ closed) (Turned node number ∷ loops ++ closed) sketch.arcs (λ n it. it) h.backs) (λ less. inl to));
      }

  -- the head of a loop whose edge was the last
  pub hold_begun : (at fresh : ℕ) (head : Head) → new.arcs ≡ sketch.arcs → new.heads ≡ slice_set sketch.heads fresh head → head.node ≡ at → head.entry ≡ length sketch.arcs - 1 → least ≡ suc at → fresh < count → Each (Lacks fresh) (loops ++ closed) → HeadsHold nodes least far (Entered at ∷ loops) closed count sketch → HeadsHold nodes least far (Inside at fresh ∷ loops) closed count new
  hold_begun at fresh head same heads node_is entry_is least_is within lacks h =
      let table = slice_set sketch.heads fresh head in
      let top = h.opens.0 in
      let entry : top.0 ≡ head.entry = entered at head least_is entry_is top.0 top.1 h.last in
      let stored : Stored table at fresh head = record {
        there = omega (arith, length-set sketch.heads fresh head, h.table);
        is = get_or-set_same sketch.heads fresh head no_head (omega (arith, h.table));
        at = node_is;
      } in
      record {
        lands = rw same h.lands;
        last = rw same h.last;
        past = (h.past.0, h.past.1);
        apart = (each_loops (Lacks fresh) (Differ (Entered at)) (Differ (Inside at fresh)) (loops ++ closed) (differ_inside at fresh) lacks h.apart.0, h.apart.1);
        opens = (rw (same, heads) (head, stored, rw entry at top.1), opens_as new.arcs sketch.arcs new.heads table loops same heads (each_loops (Lacks fresh) (IsOpen sketch.arcs sketch.heads) (IsOpen sketch.arcs table) loops (λ loop l it. open_set sketch.heads fresh head sketch.arcs loop l it) (each_left (Lacks fresh) loops closed lacks) h.opens.1));
        closes = closes_as new.arcs sketch.arcs new.heads table closed same heads (each_loops (Lacks fresh) (IsClosed sketch.arcs sketch.heads) (IsClosed sketch.arcs table) closed (λ loop l it. closed_set sketch.heads fresh head sketch.arcs loop l it) (each_right (Lacks fresh) loops closed lacks) h.closes);
        table = rw heads (length-set sketch.heads fresh head ∙ h.table);
        backs = rw same (backs_on (Entered at ∷ loops ++ closed) (Inside at fresh ∷ loops ++ closed) sketch.arcs (λ n it. it) h.backs);
      }
    where
      entered : (at : ℕ) (head : Head) → least ≡ suc at → head.entry ≡ length sketch.arcs - 1 → (k : ℕ) → Loop sketch.arcs at k None → IsLast nodes least sketch.arcs → k ≡ head.entry
      entered at head e f k loop (inl none) = omega arith
      entered at head e f k loop (inr last) =
          let same : last.number ≡ k = loop.only last.number last.arc last.at (omega (arith, last.target)) in
          omega (arith, same, last.count)

  -- the back edge was the last
  pub hold_ended : (head : Head) → new.arcs ≡ sketch.arcs → new.heads ≡ slice_set sketch.heads number head → head ≡ record (slice_index_or sketch.heads number no_head) { back = length sketch.arcs - 1 } → least ≡ suc node → Each (IsBehind nodes least) sketch.arcs → HeadsHold nodes least far (Turned node number ∷ loops) closed count sketch → HeadsHold nodes least far loops (Turned node number ∷ closed) count new
  hold_ended head same heads head_is least_is behind h =
      let table = slice_set sketch.heads number head in
      let top = h.opens.0 in
      let back : top.1 ≡ length sketch.arcs - 1 = turned top.0.entry top.1 least_is top.3 h.last behind in
      let made : head ≡ record top.0 { back = top.1 } = head_is ∙ (ap (λ (it : Head). record it { back = length sketch.arcs - 1 }) top.2.is ∙ ap (λ n. record top.0 { back = n }) (sym back)) in
      let stored : Stored table node number head = record {
        there = omega (arith, length-set sketch.heads number head, top.2.there);
        is = get_or-set_same sketch.heads number head no_head top.2.there;
        at = ap (λ (it : Head). it.node) made ∙ top.2.at;
      } in
      let loop : Loop sketch.arcs node head.entry (Some head.back) = rw made top.3 in
      let lacks : Each (Lacks number) (loops ++ closed) = each_map (Differ (Turned node number)) (Lacks number) (loops ++ closed) (differ_lacks node number) h.apart.0 in
      record {
        lands = rw same h.lands;
        last = rw same h.last;
        past = each_between (IsPast nodes least) loops closed (Turned node number) h.past.1 h.past.0;
        apart = apart_between loops closed (Turned node number) h.apart.0 h.apart.1;
        opens = opens_as new.arcs sketch.arcs new.heads table loops same heads (each_loops (Lacks number) (IsOpen sketch.arcs sketch.heads) (IsOpen sketch.arcs table) loops (λ loop l it. open_set sketch.heads number head sketch.arcs loop l it) (each_left (Lacks number) loops closed lacks) h.opens.1);
        closes = (rw (same, heads) (head, stored, loop), closes_as new.arcs sketch.arcs new.heads table closed same heads (each_loops (Lacks number) (IsClosed sketch.arcs sketch.heads) (IsClosed sketch.arcs table) closed (λ loop l it. closed_set sketch.heads number head sketch.arcs loop l it) (each_right (Lacks number) loops closed lacks) h.closes));
        table = rw heads (length-set sketch.heads number head ∙ h.table);
        backs = rw same (backs_on (Turned node number ∷ loops ++ closed) (loops ++ Turned node number ∷ closed) sketch.arcs (λ n it. node_between n loops closed (Turned node number) it) h.backs);
      }
    where
      turned : (entry back : ℕ) → least ≡ suc node → Loop sketch.arcs node entry (Some back) → IsLast nodes least sketch.arcs → Each (IsBehind nodes least) sketch.arcs → back ≡ length sketch.arcs - 1
      turned entry back e loop (inl none) behind = omega arith
      turned entry back e loop (inr last) behind =
          let over = at_each (IsBehind nodes least) sketch.arcs back loop.returns.arc loop.returns.at behind in
          ⊎_elim
          (λ (first : last.number ≡ entry).
          let one : last.arc ≡ loop.enters.arc = at_same sketch.arcs entry last.arc loop.enters.arc (rw first at last.at) loop.enters.at in
          let sources : last.arc.source ≡ loop.enters.arc.source = ap (λ (it : Arc). it.source) one in
          absurd (omega (arith, sources, last.source, loop.enters.source, loop.returns.source, over.source)))
          (λ (second : last.number ≡ back). omega (arith, last.count))
          (loop.only last.number last.arc last.at (omega (arith, last.target)))
