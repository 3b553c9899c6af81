-- What is read of the loops when all has been drawn.
use Rattle.std.proofs.Common.{◌≡◌, ℕ, suc, ◌<◌, ◌≤◌, ◌⊎◌, inl, inr, ⊎_elim, List, [], ◌∷◌, length, Some, refl, ap, sym, ◌∙◌, arith}
use Rattle.std.proofs.lemmas.Bool.{cases_lt}
use Rattle.wm_flow.specs.declared.graph.Head.{Head}
use Rattle.wm_flow.specs.declared.graph.Sum.{Sum}
use Rattle.wm_flow.specs.Plain.{Arc, Flow}
use Rattle.wm_flow.specs.Graphs.{Sketch, flow_from}
use Rattle.wm_graph_laws.specs.Each.{Each}
use Rattle.wm_graph_laws.specs.Following.{Open, Entered, Inside, Turned}
use Rattle.wm_graph_laws.specs.Standing.{IsBehind}
use Rattle.wm_graph_laws.specs.Loops.{At, Loop, IsClosed, node_of, Differ, AreApart, HasNumber, IsNamed, IsNode, GoesBack, Lands, HeadsHold}
use Rattle.wm_graph_laws.specs.Laws.{IsHeaded, head_at}
use Rattle.wm_graph_laws.proofs.Steps.{at_each}
use Rattle.wm_graph_laws.proofs.Holding.{at_same, differ_node}
use Rattle.wm_graph_laws.proofs.HeadedParts.{among_each}

abbrev IsItem : Open → List Open → Type 0
IsItem a [] = ⊥
IsItem a (b ∷ rest) = (b ≡ a) ⊎ IsItem a rest

item_each : (P : Open → Type 0) (loops : List Open) (a : Open) → IsItem a loops → Each P loops → P a
item_each P [] a h e = absurd h
item_each P (b ∷ loops) a (inl h) e = rw (sym h) e.0
item_each P (b ∷ loops) a (inr h) e = item_each P loops a h e.1

-- a loop of a number that is closed
record Found (arcs : List Arc) (heads : List Head) (loops : List Open) (number : ℕ) : Type 0 where
  node : ℕ
  item : IsItem (Turned node number) loops
  closed : IsClosed arcs heads (Turned node number)

find_first : (arcs : List Arc) (heads : List Head) (loops : List Open) (a : Open) (n : ℕ) → HasNumber n a → IsClosed arcs heads a → Found arcs heads (a ∷ loops) n
find_first arcs heads loops (Entered node) n h c = absurd h
find_first arcs heads loops (Inside node number) n h c = absurd c
find_first arcs heads loops (Turned node number) n h c =
    record { node = node; item = inl (ap (λ k. Turned node k) (sym h)); closed = rw h c }

find : (arcs : List Arc) (heads : List Head) (loops : List Open) (n : ℕ) → IsNamed n loops → Each (IsClosed arcs heads) loops → Found arcs heads loops n
find arcs heads [] n h c = absurd h
find arcs heads (a ∷ loops) n (inl h) c = find_first arcs heads loops a n h c.0
find arcs heads (a ∷ loops) n (inr h) c =
    let found = find arcs heads loops n h c.1 in
    record { node = found.node; item = inr found.item; closed = found.closed }

-- a loop at a node
record FoundAt (arcs : List Arc) (heads : List Head) (node : ℕ) : Type 0 where
  number : ℕ
  closed : IsClosed arcs heads (Turned node number)

at_first : (arcs : List Arc) (heads : List Head) (a : Open) (n : ℕ) → n ≡ node_of a → IsClosed arcs heads a → FoundAt arcs heads n
at_first arcs heads (Entered node) n h c = absurd c
at_first arcs heads (Inside node number) n h c = absurd c
at_first arcs heads (Turned node number) n h c = record { number = number; closed = rw h c }

find_at : (arcs : List Arc) (heads : List Head) (loops : List Open) (n : ℕ) → IsNode n loops → Each (IsClosed arcs heads) loops → FoundAt arcs heads n
find_at arcs heads [] n h c = absurd h
find_at arcs heads (a ∷ loops) n (inl h) c = at_first arcs heads a n h c.0
find_at arcs heads (a ∷ loops) n (inr h) c = find_at arcs heads loops n h c.1

same_number : (x a b : ℕ) → Turned x a ≡ Turned x b → a ≡ b
same_number x a b e = cc

item_apart : (loops : List Open) (x a b : ℕ) → AreApart loops → IsItem (Turned x a) loops → IsItem (Turned x b) loops → a ≡ b
item_apart [] x a b h p q = absurd p
item_apart (o ∷ loops) x a b h (inl p) (inl q) = same_number x a b (sym p ∙ q)
item_apart (o ∷ loops) x a b h (inl p) (inr q) =
    absurd (differ_node o (Turned x b) (item_each (Differ o) loops (Turned x b) q h.0) (ap (λ (it : Open). node_of it) p))
item_apart (o ∷ loops) x a b h (inr p) (inl q) =
    absurd (differ_node o (Turned x a) (item_each (Differ o) loops (Turned x a) p h.0) (ap (λ (it : Open). node_of it) q))
item_apart (o ∷ loops) x a b h (inr p) (inr q) = item_apart loops x a b h.1 p q

each_two : (P Q R : Arc → Type 0) (arcs : List Arc) → ((arc : Arc) → P arc → Q arc → R arc) → Each P arcs → Each Q arcs → Each R arcs
each_two P Q R [] on p q = tt
each_two P Q R (arc ∷ arcs) on p q = (on arc p.0 q.0, each_two P Q R arcs on p.1 q.1)

module _ (nodes least : ℕ) (far : List ℕ) (closed : List Open) (count : ℕ) (sketch : Sketch) (sums : List Sum) (h : HeadsHold nodes least far [] closed count sketch) where
  abbrev flow : Flow
  flow = flow_from sums sketch

  stored_loop : (node number : ℕ) → IsClosed sketch.arcs sketch.heads (Turned node number) → Loop sketch.arcs (head_at flow number).node (head_at flow number).entry (Some (head_at flow number).back)
  stored_loop node number c =
      let whole : Loop sketch.arcs c.0.node c.0.entry (Some c.0.back) = rw c.1.at c.2 in
      rw c.1.is whole

  pub all_headed : ((number : ℕ) → number < count → IsNamed number closed) → Each (IsBehind nodes least) sketch.arcs → Each (λ t. t < nodes) far → length sketch.node_shape ≡ nodes → least ≤ nodes → IsHeaded flow
  all_headed named behind there shapes low =
      record {
        loops = λ number within.
            let found = find sketch.arcs sketch.heads closed number (named number (omega (arith, h.table))) h.closes in
            stored_loop found.node number found.closed;
        apart = λ a b p q same.
            let one = find sketch.arcs sketch.heads closed a (named a (omega (arith, h.table))) h.closes in
            let other = find sketch.arcs sketch.heads closed b (named b (omega (arith, h.table))) h.closes in
            let first : (head_at flow a).node ≡ one.node = ap (λ (it : Head). it.node) one.closed.1.is ∙ one.closed.1.at in
            let second : (head_at flow b).node ≡ other.node = ap (λ (it : Head). it.node) other.closed.1.is ∙ other.closed.1.at in
            let nodes_are : other.node ≡ one.node = sym second ∙ (sym same ∙ first) in
            item_apart closed one.node a b h.apart one.item (rw nodes_are at other.item);
        rising = λ k arc at. ⊎_elim (λ less. inl less) (λ not_less. inr (goes k arc at not_less)) (cases_lt arc.source arc.target);
        among = each_two (IsBehind nodes least) (Lands nodes far) (λ arc. (arc.source < length sketch.node_shape) × (arc.target < length sketch.node_shape)) sketch.arcs inside behind h.lands;
      }
    where
      goes : (k : ℕ) (arc : Arc) → At sketch.arcs k arc → arc.target ≤ arc.source → (number : ℕ) × (number < length sketch.heads) × (k ≡ (head_at flow number).back)
      goes k arc at less =
          let found = find_at sketch.arcs sketch.heads closed arc.target (at_each (GoesBack closed) sketch.arcs k arc at h.backs less) h.closes in
          let loop = found.closed.2 in
          let is_back : k ≡ found.closed.0.back =
          ⊎_elim
          (λ (first : k ≡ found.closed.0.entry).
          let one : arc ≡ loop.enters.arc = at_same sketch.arcs found.closed.0.entry arc loop.enters.arc (rw first at at) loop.enters.at in
          let sources : arc.source ≡ loop.enters.arc.source = ap (λ (it : Arc). it.source) one in
          absurd (omega (arith, sources, loop.enters.source)))
          (λ (second : k ≡ found.closed.0.back). second)
          (loop.only k arc at refl) in
          (found.number, found.closed.1.there, is_back ∙ ap (λ (it : Head). it.back) (sym found.closed.1.is))

      inside : (arc : Arc) → IsBehind nodes least arc → Lands nodes far arc → (arc.source < length sketch.node_shape) × (arc.target < length sketch.node_shape)
      inside arc b (inl next) = (
        omega (arith, b.source, shapes),
        ⊎_elim (λ (less : suc arc.source < nodes). omega (arith, next, shapes)) (λ (most : nodes ≤ suc arc.source). omega (arith, next, b.source, b.target (omega (arith, b.source)), shapes)) (cases_lt (suc arc.source) nodes),
      )
      inside arc b (inr (inl drawn)) = (omega (arith, b.source, shapes), omega (arith, drawn, shapes))
      inside arc b (inr (inr away)) = (omega (arith, b.source, shapes), omega (arith, among_each (λ t. t < nodes) far arc.target away there, shapes))
