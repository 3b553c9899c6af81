-- The image along an edge holds what the edge allows from the labels.
use Rattle.std.proofs.Common.{◌≡◌, ℕ, List, Option, Some, None, subst, sym}
use Rattle.std.specs.Prelude.{IfSome, MatchOption, slice_get}
use Rattle.wm_domain.specs.declared.shape.Shape.{Shape}
use Rattle.wm_domain.specs.Points.{Point}
use Rattle.wm_domain.specs.States.{Keeps}
use Rattle.wm_flow.specs.declared.graph.Edge.{Edge}
use Rattle.wm_flow.specs.declared.graph.Graph.{Graph}
use Rattle.wm_uses.specs.Last.{call_of}
use Rattle.wm_kept.specs.Pairs.{state_in}
use Rattle.wm_images.specs.Nodes.{node_shape}
use Rattle.wm_images.specs.Labels.{PointsOf, PointsAtCall, AreShaped, Along, Receives}
use Rattle.wm_images.proofs.Kept.{of_state}

same_edge : (o : Option Edge) (e f : Edge) → o ≡ Some e → o ≡ Some f → e ≡ f
same_edge o e f h k = cc

-- the state that is kept of a node has its shape
pub shaped : {S : Type 0} (shape_of : S → Shape) (graph : Graph) (pairs : List (ℕ × S)) (node : ℕ) (s : S) → AreShaped shape_of graph pairs → state_in node pairs ≡ Some s → shape_of s ≡ node_shape graph node
shaped shape_of graph pairs node s h is = of_state (λ n t. shape_of t ≡ node_shape graph n) node pairs s h is

pub some_edge : (P : Edge → Type 0) (o : Option Edge) (e : Edge) → o ≡ Some e → P e → IfSome o P
some_edge P o e is h = subst (λ (o : Option Edge). IfSome o P) (sym is) h

pub there_edge : (P : Edge → Type 0) (o : Option Edge) (e : Edge) → o ≡ Some e → IfSome o P → MatchOption o ⊥ P
there_edge P o e is h = subst (λ (o : Option Edge). MatchOption o ⊥ P) (sym is) (subst (λ (o : Option Edge). IfSome o P) is h)

pub some_call : (P : ℕ → Type 0) (o : Option ℕ) (call : ℕ) → o ≡ Some call → P call → IfSome o P
some_call P o call is h = subst (λ (o : Option ℕ). IfSome o P) (sym is) h

module _ (Allowed : Graph → (number : ℕ) → (Point → Type 0) → (Point → Type 0) → Point → Type 0) {S : Type 0} (Has : S → Point → Type 0) (shape_of : S → Shape) (graph : Graph) (pairs : List (ℕ × S)) (number : ℕ) (edge : Edge) (at s : S) (is : slice_get graph.edges number ≡ Some edge) (source : state_in edge.source pairs ≡ Some at) where
  -- an edge that is no return
  pub step_receives : call_of edge.action ≡ None → Keeps Has shape_of s (Allowed graph number (Has at) (λ p. ⊥)) → Receives Allowed Has shape_of graph pairs number s
  step_receives no_call k = record {
    each = λ labels a. record {
      holds = λ f there.
          subst (λ (e : Edge). Keeps Has shape_of s (Along Allowed Has shape_of graph labels number e)) (same_edge (slice_get graph.edges number) edge f is there)
          (subst (λ (o : Option S). Keeps Has shape_of s (λ p. Allowed graph number (PointsOf Has o) (PointsAtCall Has labels (call_of edge.action)) p)) (sym (of_state (λ n t. slice_get labels n ≡ Some t) edge.source pairs at a source))
          (subst (λ (c : Option ℕ). Keeps Has shape_of s (λ p. Allowed graph number (Has at) (PointsAtCall Has labels c) p)) (sym no_call) k));
    };
  }

  -- a return
  pub leave_receives : (call : ℕ) (at_call : S) → call_of edge.action ≡ Some call → state_in call pairs ≡ Some at_call → Keeps Has shape_of s (Allowed graph number (Has at) (Has at_call)) → Receives Allowed Has shape_of graph pairs number s
  leave_receives call at_call is_call kept k = record {
    each = λ labels a. record {
      holds = λ f there.
          subst (λ (e : Edge). Keeps Has shape_of s (Along Allowed Has shape_of graph labels number e)) (same_edge (slice_get graph.edges number) edge f is there)
          (subst (λ (o : Option S). Keeps Has shape_of s (λ p. Allowed graph number (PointsOf Has o) (PointsAtCall Has labels (call_of edge.action)) p)) (sym (of_state (λ n t. slice_get labels n ≡ Some t) edge.source pairs at a source))
          (subst (λ (c : Option ℕ). Keeps Has shape_of s (λ p. Allowed graph number (Has at) (PointsAtCall Has labels c) p)) (sym is_call)
          (subst (λ (o : Option S). Keeps Has shape_of s (λ p. Allowed graph number (Has at) (PointsOf Has o) p)) (sym (of_state (λ n t. slice_get labels n ≡ Some t) call pairs at_call a kept)) k)));
    };
  }
