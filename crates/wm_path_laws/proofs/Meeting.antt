-- Edges that lead into heads of loops.
use Rattle.std.proofs.Common.{◌≡◌, ℕ, ◌<◌, ◌≤◌, ⊎_elim, List, length, get_or, Some, None, refl, ap, sym, ◌∙◌, subst, arith}
use Rattle.std.specs.Prelude.{slice_get}
use Rattle.std.proofs.lemmas.Option.{none-some, same_Some}
use Rattle.wm_flow.specs.declared.graph.Edge.{Edge}
use Rattle.wm_flow.specs.declared.graph.Head.{Head}
use Rattle.wm_ways.specs.Numbers.{cut}
use Rattle.wm_ways.specs.Paths.{IsAtLeast}
use Rattle.wm_ways.specs.Sweeps.{best_at, ending_at}
use Rattle.wm_path.specs.Bodies.{inside, table_of}
use Rattle.wm_path_laws.specs.Choices.{IsLaidOut, IsLive, IsNoBack, Setting, IsLoop, IsThrough, Meets, last_of}
use Rattle.wm_path_laws.proofs.Leading.{way_weight}
use Rattle.wm_path_laws.proofs.Loops.{added, field, firsts, marks, mark_of, through}
use Rattle.wm_path_laws.proofs.Marks.{turning_for}
use Rattle.wm_path_laws.proofs.Routes.{at_least}

module _ (s : Setting) (count : ℕ) (laid : IsLaidOut s.graph) (counted : count ≡ length s.graph.node_shape) where
  -- the head to which a live edge leads is live
  pub entered : (number : ℕ) (edge : Edge) → slice_get s.graph.edges number ≡ Some edge → IsLive s number → IsNoBack s.graph number → (k : ℕ) (head : Head) → Meets s number k head → IsLive s head.entry
  entered number edge at live no_back k head m =
      ⊎_elim (λ (e : number ≡ head.entry). subst (IsLive s) e live) (λ (e : number ≡ head.back). absurd (no_back k head m.2.0 e))
      (laid.entered k head number m.0 m.2.0 m.1 m.3)

  pub node_is : (number : ℕ) (edge : Edge) → slice_get s.graph.edges number ≡ Some edge → (k : ℕ) (head : Head) → Meets s number k head → edge.target ≡ head.node
  node_is number edge at k head m = ap (λ (e : Edge). e.target) (same_Some edge m.0 (sym at ∙ m.1)) ∙ m.3

  -- where no loop is known none stands
  pub no_meets : (start : ℕ) → ((k : ℕ) (head : Head) → IsLoop s k head → start < head.node → IsLive s head.entry → ((n : ℕ) × (get_or s.facts.turns k None ≡ Some n))) → (number : ℕ) (edge : Edge) → slice_get s.graph.edges number ≡ Some edge → IsLive s number → IsNoBack s.graph number → start ≤ edge.source → get_or (marks s count) edge.target None ≡ None → (k : ℕ) (head : Head) → Meets s number k head → ⊥
  no_meets start bounded number edge at live no_back low none k head m =
      let up : edge.source < edge.target = laid.rises number edge at no_back in
      let place : edge.target ≡ head.node = node_is number edge at k head m in
      let t = bounded k head m.2 (omega (arith, up, place, low)) (entered number edge at live no_back k head m) in
      none-some (turning_for s.graph.edges head t.0) (sym none ∙ ap (λ (n : ℕ). get_or (marks s count) n None) place ∙ mark_of s count laid counted k head t.0 m.2 t.1)

  -- where nothing is known of a loop's body nothing leads through it
  pub no_way : (number k : ℕ) (head : Head) (n : ℕ) → Meets s number k head → best_at head.node (table_of (field s count) (turning_for s.graph.edges head n)) head.node ≡ None → (way : List ℕ) → IsThrough s head way → ⊥
  no_way number k head n m none way thr =
      subst (IsAtLeast (cut (way_weight (added s count) s way))) none
      (at_least s laid (added s count) head.node (λ node. node ≡ last_of s head) (get_or (firsts s count) head.node 0) (inside (field s count) (turning_for s.graph.edges head n)) (ending_at head.node (last_of s head)) (through s count laid counted k head n m.2.0) way (last_of s head) refl thr)
