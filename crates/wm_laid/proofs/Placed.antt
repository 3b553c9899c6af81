-- A graph with ordered edges and heads that have their one entry and back edge is laid out.
use Rattle.std.proofs.Common.{◌≡◌, ℕ, zero, suc, ◌<◌, ◌≤◌, List, [], ◌∷◌, map, length, Some, None, refl, arith, ⊎_elim, inl, inr}
use Rattle.std.specs.Prelude.{slice_get, slice_index_or}
use Rattle.std.proofs.lemmas.Bool.{cases_lt}
use Rattle.std.proofs.lemmas.Option.{slice_get_past, slice_get-get_or}
use Rattle.wm_flow.specs.declared.graph.Edge.{Edge}
use Rattle.wm_flow.specs.declared.graph.Graph.{Graph}
use Rattle.wm_flow.specs.declared.graph.Head.{Head}
use Rattle.wm_flow.specs.Plain.{Arc}
use Rattle.wm_flow.specs.Graphs.{no_head}
use Rattle.wm_flow.specs.Views.{arc_of, flow_of}
use Rattle.wm_graph_laws.specs.Each.{Each}
use Rattle.wm_graph_laws.specs.Ordered.{IsBefore, AreOrdered}
use Rattle.wm_graph_laws.specs.Loops.{At, Returns, Loop}
use Rattle.wm_graph_laws.specs.Laws.{head_at, IsOrderly, IsHeaded}
use Rattle.wm_path_laws.specs.Choices.{IsNoBack, IsLaidOut}

-- ---- edges by their numbers

at_number : (edges : List Edge) (i : ℕ) (edge : Edge) → slice_get edges i ≡ Some edge → At (map arc_of edges) i (arc_of edge)
at_number [] i edge e = cc
at_number (it ∷ rest) zero edge e = cc
at_number (it ∷ rest) (suc i) edge e = at_number rest i edge e

each_at : (P : Arc → Type 0) (edges : List Edge) (i : ℕ) (edge : Edge) → Each P (map arc_of edges) → slice_get edges i ≡ Some edge → P (arc_of edge)
each_at P [] i edge h e = cc
each_at P (it ∷ rest) zero edge h e = rw (same it edge e) at h.0
  where
    same : (a b : Edge) → slice_get (a ∷ []) 0 ≡ Some b → a ≡ b
    same a b e = cc
each_at P (it ∷ rest) (suc i) edge h e = each_at P rest i edge h.1 e

-- an edge of this number is there
pub record Found (edges : List Edge) (i : ℕ) (arc : Arc) : Type 0 where
  pub edge : Edge
  pub is : slice_get edges i ≡ Some edge
  pub same : arc_of edge ≡ arc

found : (edges : List Edge) (i : ℕ) (arc : Arc) → At (map arc_of edges) i arc → Found edges i arc
found [] i arc h = absurd h
found (it ∷ rest) zero arc h = record { edge = it; is = refl; same = h }
found (it ∷ rest) (suc i) arc h =
    let more = found rest i arc h in record { edge = more.edge; is = more.is; same = more.same }

before_source : (a b : Arc) → IsBefore a b → a.source ≤ b.source
before_source a b (inl less) = omega (arith, less)
before_source a b (inr same) = omega (arith, same.0)

ordered_at : (edges : List Edge) (i j : ℕ) (a b : Edge) → AreOrdered (map arc_of edges) → i < j → slice_get edges i ≡ Some a → slice_get edges j ≡ Some b → a.source ≤ b.source
ordered_at [] i j a b h less e f = cc
ordered_at (it ∷ rest) i zero a b h less e f = absurd (never i less)
  where
    never : (i : ℕ) → i < 0 → ⊥
    never i less = omega arith
ordered_at (it ∷ rest) zero (suc j) a b h less e f =
    before_source (arc_of a) (arc_of b) (each_at (IsBefore (arc_of a)) rest j b (rw (same it a e) at h.0) f)
  where
    same : (a b : Edge) → slice_get (a ∷ []) 0 ≡ Some b → a ≡ b
    same a b e = cc
ordered_at (it ∷ rest) (suc i) (suc j) a b h less e f = ordered_at rest i j a b h.1 (omega arith) e f

-- ---- heads by their numbers

none_some : {A : Type 0} (x : A) → None ≡ Some x → ⊥
none_some x e = cc

within_of : {A : Type 0} (xs : List A) (k : ℕ) (x : A) → slice_get xs k ≡ Some x → k < length xs
within_of xs k x e = ⊎_elim (λ less. less) (λ past. absurd (none_some x (rw (slice_get_past xs k past) at e))) (cases_lt k (length xs))

head_is : (heads : List Head) (k : ℕ) (head : Head) → slice_get heads k ≡ Some head → slice_index_or heads k no_head ≡ head
head_is [] k head e = cc
head_is (it ∷ rest) zero head e = cc
head_is (it ∷ rest) (suc k) head e = head_is rest k head e

moved : (P : Arc → Type 0) (a b : Arc) → a ≡ b → P b → P a
moved P a b e h = rw e h

module _ (graph : Graph) (orderly : IsOrderly (flow_of graph)) (headed : IsHeaded (flow_of graph)) where
  loop_of : (k : ℕ) (head : Head) → slice_get graph.heads k ≡ Some head → Loop (flow_of graph).arcs head.node head.entry (Some head.back)
  loop_of k head e = rw (head_is graph.heads k head e) at (headed.loops k (within_of graph.heads k head e))

  back_of : (head : Head) → Returns (flow_of graph).arcs head.node head.back → (back : Edge) × (slice_get graph.edges head.back ≡ Some back) × (back.target ≡ head.node) × (head.node ≤ back.source)
  back_of head returns =
      let it = found graph.edges head.back returns.arc returns.at in
      (it.edge, it.is, moved (λ arc. arc.target ≡ head.node) (arc_of it.edge) returns.arc it.same returns.target, moved (λ arc. head.node ≤ arc.source) (arc_of it.edge) returns.arc it.same returns.source)

  rising_of : (i : ℕ) (edge : Edge) → slice_get graph.edges i ≡ Some edge → IsNoBack graph i → edge.source < edge.target
  rising_of i edge e none =
      ⊎_elim (λ up. up)
      (λ it. absurd (none it.0 (head_at (flow_of graph) it.0) (slice_get-get_or graph.heads it.0 no_head it.1) it.2))
      (headed.rising i (arc_of edge) (at_number graph.edges i edge e))

  pub laid_out : IsLaidOut graph
  laid_out =
      record {
        ordered = λ i j a b less e f. ordered_at graph.edges i j a b orderly.ordered less e f;
        among = λ i edge e. each_at (λ (arc : Arc). (arc.source < length graph.node_shape) × (arc.target < length graph.node_shape)) graph.edges i edge headed.among e;
        rises = rising_of;
        backs = λ k head e. back_of head (loop_of k head e).returns;
        apart = λ j k a b e f same. headed.apart j k (within_of graph.heads j a e) (within_of graph.heads k b f) (rw (head_is graph.heads j a e, head_is graph.heads k b f) same);
        entered = λ k head i edge e f to. (loop_of k head e).only i (arc_of edge) (at_number graph.edges i edge f) to;
      }
