-- No choice weighs more than its list of edges with what is added at its heads.
use Rattle.std.proofs.Common.{◌≡◌, ℕ, zero, suc, ◌+◌, ◌*◌, ◌≤◌, inl, inr, List, [], ◌∷◌, length, get_or, map, Option, Some, None, refl, ap, sym, ◌∙◌, subst, arith}
use Rattle.std.specs.Prelude.{slice_get}
use Rattle.wm_flow.specs.declared.graph.Edge.{Edge}
use Rattle.wm_flow.specs.declared.graph.Head.{Head}
use Rattle.wm_ways.specs.Numbers.{cut, or_nought}
use Rattle.wm_ways.specs.Paths.{IsAtLeast}
use Rattle.wm_ways.specs.Sweeps.{best_at, ending_at}
use Rattle.wm_path.specs.Bodies.{inside, table_of}
use Rattle.wm_path.specs.declared.choice.Body.{Body}
use Rattle.wm_path.specs.declared.choice.Choice.{Choice}
use Rattle.wm_path.specs.declared.choice.Choice.TheViews.{out-Choice}
use Rattle.wm_path.specs.declared.choice.Choice.TheFolds.{fold_out-Choice}
use Rattle.wm_path_laws.specs.Choices.{IsLaidOut, Setting, Leads, Meets, AreTurns, IsWithin, last_of, edge_weight, edges_weight, turns_weight, weight_step, weight_of}
use Rattle.wm_path_laws.proofs.Cuts.{cut_again, cut_sum, cut_up, turns_least}
use Rattle.wm_path_laws.proofs.Leading.{target_in, way_weight}
use Rattle.wm_path_laws.proofs.Loops.{added, added_some, field, firsts, through}
use Rattle.wm_path_laws.proofs.Marks.{turning_for}
use Rattle.wm_path_laws.proofs.Routes.{at_least}

-- ---- weights

known_least : (n : ℕ) (o : Option ℕ) → IsAtLeast n o → n ≤ or_nought o
known_least n None h = absurd h
known_least n (Some m) h = h

abbrev pub weighed : Setting → Body Choice → Body ℕ
weighed s body = record { head = body.head; turns = body.turns; choice = weight_of s body.choice }

pub weight_out : (s : Setting) (choice : Choice) → weight_of s choice ≡ edges_weight s (out-Choice choice).edges + turns_weight (map (weighed s) (out-Choice choice).bodies)
weight_out s choice = fold_out-Choice ℕ (weight_step s) choice

-- ---- choices

module _ (s : Setting) (count : ℕ) (laid : IsLaidOut s.graph) (counted : count ≡ length s.graph.node_shape) where
  -- what is added where an edge leads into the head of a loop
  pub added_behind : (number k : ℕ) (head : Head) (n : ℕ) → Meets s number k head → get_or s.facts.turns k None ≡ Some n → get_or (added s count) (target_in (slice_get s.graph.edges number)) 0 ≡ cut (n * or_nought (best_at head.node (table_of (field s count) (turning_for s.graph.edges head n)) head.node))
  added_behind number k head n m turns =
      ap (λ (o : Option Edge). get_or (added s count) (target_in o) 0) m.1 ∙ ap (λ (j : ℕ). get_or (added s count) j 0) m.3
      ∙ added_some s count laid counted k head n m.2 turns

  abbrev Below : Choice → ℕ → ℕ → Type 0
  Below choice from to = (cut (weight_of s choice) ≤ cut (way_weight (added s count) s (out-Choice choice).edges)) × Leads s from (out-Choice choice).edges to

  -- a turn weighs at most what is added at its head
  turn_least : (number k : ℕ) (head : Head) (body : Body Choice) → Meets s number k head → get_or s.facts.turns k None ≡ Some body.turns → Below body.choice head.node (last_of s head) → cut (body.turns * weight_of s body.choice) ≤ cut (get_or (added s count) (target_in (slice_get s.graph.edges number)) 0)
  turn_least number k head body m turns below =
      let known : Option ℕ = best_at head.node (table_of (field s count) (turning_for s.graph.edges head body.turns)) head.node in
      let l : cut (way_weight (added s count) s (out-Choice body.choice).edges) ≤ or_nought known = known_least (cut (way_weight (added s count) s (out-Choice body.choice).edges)) known
      (at_least s laid (added s count) head.node (λ node. node ≡ last_of s head) (get_or (firsts s count) head.node 0)
      (inside (field s count) (turning_for s.graph.edges head body.turns)) (ending_at head.node (last_of s head))
      (through s count laid counted k head body.turns m.2.0) (out-Choice body.choice).edges (last_of s head) refl below.1) in
      let inner : cut (weight_of s body.choice) ≤ or_nought known = omega (arith, below.0, l) in
      subst (λ (n : ℕ). cut (body.turns * weight_of s body.choice) ≤ n)
      (sym (ap cut (added_behind number k head body.turns m turns) ∙ cut_again (body.turns * or_nought known)))
      (turns_least body.turns (weight_of s body.choice) (or_nought known) inner)

  without : (e a x y z : ℕ) → cut (x + y) ≤ cut z → cut (e + x + y) ≤ cut (e + a + z)
  without e a x y z h =
      let left : e + x + y ≡ e + (x + y) = omega arith in
      subst (λ (n : ℕ). cut n ≤ cut (e + a + z)) (sym left) (cut_sum e (e + a) (x + y) z (cut_up e (e + a) (omega arith)) h)

  withal : (e a t x y z : ℕ) → cut t ≤ cut a → cut (x + y) ≤ cut z → cut (e + x + (t + y)) ≤ cut (e + a + z)
  withal e a t x y z h k =
      let left : e + x + (t + y) ≡ e + t + (x + y) = omega arith in
      subst (λ (n : ℕ). cut n ≤ cut (e + a + z)) (sym left) (cut_sum (e + t) (e + a) (x + y) z (cut_sum e e t a (cut_up e e (omega arith)) h) k)

  around : (levels : ℕ) → ((from to : ℕ) (choice : Choice) → IsWithin levels s from to choice → Below choice from to) → (numbers : List ℕ) (bodies : List (Body Choice)) → AreTurns (IsWithin levels s) s numbers bodies → cut (edges_weight s numbers + turns_weight (map (weighed s) bodies)) ≤ cut (way_weight (added s count) s numbers)
  around levels inner [] bodies are =
      subst (λ (bs : List (Body Choice)). cut (0 + turns_weight (map (weighed s) bs)) ≤ cut 0) (sym are) (cut_up (0 + 0) 0 (omega arith))
  around levels inner (number ∷ numbers) bodies (inl none) =
      without (edge_weight s number) (get_or (added s count) (target_in (slice_get s.graph.edges number)) 0) (edges_weight s numbers) (turns_weight (map (weighed s) bodies)) (way_weight (added s count) s numbers)
      (around levels inner numbers bodies none.1)
  around levels inner (number ∷ numbers) bodies (inr (inl closed)) =
      without (edge_weight s number) (get_or (added s count) (target_in (slice_get s.graph.edges number)) 0) (edges_weight s numbers) (turns_weight (map (weighed s) bodies)) (way_weight (added s count) s numbers)
      (around levels inner numbers bodies closed.1)
  around levels inner (number ∷ numbers) bodies (inr (inr turn)) =
      subst (λ (bs : List (Body Choice)). cut (edge_weight s number + edges_weight s numbers + turns_weight (map (weighed s) bs)) ≤ cut (way_weight (added s count) s (number ∷ numbers))) (sym turn.5)
      (withal (edge_weight s number) (get_or (added s count) (target_in (slice_get s.graph.edges number)) 0) (turn.2.turns * weight_of s turn.2.choice) (edges_weight s numbers) (turns_weight (map (weighed s) turn.3)) (way_weight (added s count) s numbers)
      (turn_least number turn.0 turn.1 turn.2 turn.4 turn.6.1 (inner turn.1.node (last_of s turn.1) turn.2.choice turn.6.2))
      (around levels inner numbers turn.3 turn.7))

  pub below : (levels from to : ℕ) (choice : Choice) → IsWithin levels s from to choice → Below choice from to
  below zero from to choice is = absurd is
  below (suc levels) from to choice is = (
    subst (λ (n : ℕ). cut n ≤ cut (way_weight (added s count) s (out-Choice choice).edges)) (sym (weight_out s choice))
        (around levels (λ from' to' choice' is'. below levels from' to' choice' is') (out-Choice choice).edges (out-Choice choice).bodies is.1),
    is.0,
  )
