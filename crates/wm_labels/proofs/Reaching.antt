-- A greater state keeps what the lesser one holds.
use Rattle.std.proofs.Common.{◌≡◌, ℕ, ◌+◌, ◌<◌, ◌≤◌, List, length, get_or, take, Option, Some, None, subst, sym, ◌∙◌}
use Rattle.std.proofs.lemmas.List.{take_all}
use Rattle.std.proofs.lemmas.List.Elements.{All-nil, All-more, All-weaker}
use Rattle.std.specs.Prelude.{All, IfSome, MatchOption}
use Rattle.wm_flow.specs.declared.graph.Edge.{Edge}
use Rattle.wm_images.specs.Nodes.{node_shape}
use Rattle.wm_domain.specs.declared.shape.Shape.{Shape}
use Rattle.wm_domain.specs.Points.{Point}
use Rattle.wm_domain.specs.States.{InShape, Keeps}
use Rattle.wm_flow.specs.declared.graph.Graph.{Graph}
use Rattle.wm_images.specs.Labels.{PointsOf, Receives}

pub kept_more : {S : Type 0} (Has : S → Point → Type 0) (shape_of : S → Shape) (s t : S) (P : Point → Type 0) → shape_of t ≡ shape_of s → ((p : Point) → Has s p → Has t p) → Keeps Has shape_of s P → Keeps Has shape_of t P
kept_more Has shape_of s t P e more k = record { kept = λ p i h. more p (k.kept p (subst (λ (shape : Shape). InShape shape p) e i) h) }

pub received_more : (Allowed : Graph → (number : ℕ) → (Point → Type 0) → (Point → Type 0) → Point → Type 0) {S : Type 0} (Has : S → Point → Type 0) (shape_of : S → Shape) (graph : Graph) (pairs : List (ℕ × S)) (number : ℕ) (s t : S) → shape_of t ≡ shape_of s → ((p : Point) → Has s p → Has t p) → Receives Allowed Has shape_of graph pairs number s → Receives Allowed Has shape_of graph pairs number t
received_more Allowed Has shape_of graph pairs number s t e more r = record { each = λ labels a. record { holds = λ edge is. kept_more Has shape_of s t _ e more ((r.each labels a).holds edge is) } }

-- ---- one edge more

pub shape_there : (graph : Graph) (node : ℕ) (shape : Shape) (o : Option Edge) → MatchOption o ⊥ (λ edge. shape ≡ node_shape graph edge.target) → IfSome o (λ edge. edge.target ≡ node) → shape ≡ node_shape graph node
shape_there graph node shape None h t = absurd h
shape_there graph node shape (Some edge) h t = subst (λ n. shape ≡ node_shape graph n) t h

module _ (Allowed : Graph → (number : ℕ) → (Point → Type 0) → (Point → Type 0) → Point → Type 0) {S : Type 0} (Has : S → Point → Type 0) (shape_of : S → Shape) where
  pub start_on : (o : Option S) (next : S) (P : Point → Type 0) (shape : Shape) → IfSome o (λ s. shape_of s ≡ shape) → shape_of next ≡ shape → ((p : Point) → PointsOf Has o p → Has next p) → MatchOption o ⊥ (λ s. Keeps Has shape_of s P) → Keeps Has shape_of next P
  start_on None next P shape e f more k = absurd k
  start_on (Some s) next P shape e f more k = kept_more Has shape_of s next P (f ∙ sym e) more k

  pub edges_on : (graph : Graph) (pairs : List (ℕ × S)) (into : List ℕ) (i d : ℕ) (o : Option S) (next : S) (shape : Shape) → i < length into → IfSome o (λ s. shape_of s ≡ shape) → shape_of next ≡ shape → ((p : Point) → PointsOf Has o p → Has next p) → MatchOption o (i ≡ 0) (λ s. All (λ k. Receives Allowed Has shape_of graph pairs k s) (take i into)) → Receives Allowed Has shape_of graph pairs (get_or into i d) next → All (λ k. Receives Allowed Has shape_of graph pairs k next) (take (i + 1) into)
  edges_on graph pairs into i d None next shape h e f more k r =
      All-more (λ k. Receives Allowed Has shape_of graph pairs k next) into i d h
      (subst (λ j. All (λ k. Receives Allowed Has shape_of graph pairs k next) (take j into)) (sym k) (All-nil (λ k. Receives Allowed Has shape_of graph pairs k next))) r
  edges_on graph pairs into i d (Some s) next shape h e f more k r =
      All-more (λ k. Receives Allowed Has shape_of graph pairs k next) into i d h
      (All-weaker (λ k. Receives Allowed Has shape_of graph pairs k s) (λ k. Receives Allowed Has shape_of graph pairs k next) (λ m q. received_more Allowed Has shape_of graph pairs m s next (f ∙ sym e) more q) (take i into) k) r

  -- behind the last edge
  pub edges_all : (graph : Graph) (pairs : List (ℕ × S)) (into : List ℕ) (i : ℕ) (o : Option S) (s : S) → o ≡ Some s → length into ≤ i → MatchOption o (i ≡ 0) (λ s. All (λ k. Receives Allowed Has shape_of graph pairs k s) (take i into)) → All (λ k. Receives Allowed Has shape_of graph pairs k s) into
  edges_all graph pairs into i o s is h k =
      subst (λ (ns : List ℕ). All (λ k. Receives Allowed Has shape_of graph pairs k s) ns) (take_all i into h)
      (subst (λ (o : Option S). MatchOption o (i ≡ 0) (λ s. All (λ k. Receives Allowed Has shape_of graph pairs k s) (take i into))) is k)
