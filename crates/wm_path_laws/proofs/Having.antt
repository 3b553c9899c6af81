-- Each list of edges is that of a choice.
use Rattle.std.proofs.Common.{◌≡◌, ℕ, zero, suc, ◌+◌, ◌*◌, ◌<◌, ◌≤◌, inl, inr, List, [], ◌∷◌, length, get_or, map, Option, Some, None, refl, ap, sym, ◌∙◌, subst, arith}
use Rattle.std.specs.Prelude.{slice_get}
use Rattle.wm_flow.specs.declared.graph.Edge.{Edge}
use Rattle.wm_flow.specs.declared.graph.Head.{Head}
use Rattle.wm_ways.specs.declared.ways.Turning.{Turning}
use Rattle.wm_ways.specs.Numbers.{cut, or_nought}
use Rattle.wm_ways.specs.Sweeps.{best_at, ending_at}
use Rattle.wm_path.specs.Bodies.{choice_with, inside, table_of}
use Rattle.wm_path.specs.declared.choice.Body.{Body}
use Rattle.wm_path.specs.declared.choice.Choice.{Choice}
use Rattle.wm_path.specs.declared.choice.Choice.TheViews.{out-Choice}
use Rattle.wm_path_laws.specs.Choices.{IsLaidOut, IsLive, Setting, IsLoop, Leads, Meets, AreTurns, IsWithin, last_of, edge_weight, edges_weight, turns_weight, weight_of}
use Rattle.wm_path_laws.specs.Worst.{EachListIsChosen}
use Rattle.wm_path_laws.proofs.Chosen.{bodies_are, edges_of, weight_with}
use Rattle.wm_path_laws.proofs.Cuts.{cut_again, cut_same, cut_turns}
use Rattle.wm_path_laws.proofs.Given.{bounded_by}
use Rattle.wm_path_laws.proofs.Leading.{target_in, way_weight}
use Rattle.wm_path_laws.proofs.Loops.{added, added_none, field, firsts, marks, mark_tells, through}
use Rattle.wm_path_laws.proofs.Marks.{turning_for}
use Rattle.wm_path_laws.proofs.Meeting.{no_meets, no_way}
use Rattle.wm_path_laws.proofs.Others.{added_behind, weighed}
use Rattle.wm_path_laws.proofs.Routes.{leads_on}

module _ (s : Setting) (count : ℕ) (laid : IsLaidOut s.graph) (counted : count ≡ length s.graph.node_shape) (start : ℕ) (bounded : (k : ℕ) (head : Head) → IsLoop s k head → start < head.node → IsLive s head.entry → ((n : ℕ) × (get_or s.facts.turns k None ≡ Some n))) where
  -- bodies that weigh, when they are cut, what is added at the heads of the list
  abbrev HasTurns : (levels : ℕ) → (edges : List ℕ) → Type 0
  HasTurns levels edges =
      (bodies : List (Body Choice)) × AreTurns (IsWithin levels s) s edges bodies
      × (cut (edges_weight s edges + turns_weight (map (weighed s) bodies)) ≡ cut (way_weight (added s count) s edges))

  abbrev ListsHave : (levels : ℕ) → Type 0
  ListsHave levels = (from : ℕ) (edges : List ℕ) (to : ℕ) → Leads s from edges to → start ≤ from → count ≤ from + levels → HasTurns levels edges

  pub with_turns : (levels from : ℕ) (edges : List ℕ) (to : ℕ) (bodies : List (Body Choice)) → Leads s from edges to → AreTurns (IsWithin levels s) s edges bodies → IsWithin (suc levels) s from to (choice_with edges bodies)
  with_turns levels from edges to bodies l are = (
    subst (λ (es : List ℕ). Leads s from es to) (sym (edges_of edges bodies)) l,
    subst (λ (es : List ℕ). AreTurns (IsWithin levels s) s es (out-Choice (choice_with edges bodies)).bodies) (sym (edges_of edges bodies))
        (subst (AreTurns (IsWithin levels s) s edges) (sym (bodies_are edges bodies)) are),
  )

  -- nothing is added
  without : (e a x y z : ℕ) → a ≡ 0 → cut (x + y) ≡ cut z → cut (e + x + y) ≡ cut (e + a + z)
  without e a x y z none h =
      let left : e + x + y ≡ e + (x + y) = omega arith in
      let right : e + a + z ≡ e + z = omega (arith, none) in
      ap cut left ∙ cut_same e e (x + y) z refl h ∙ ap cut (sym right)

  withal : (e a t x y z : ℕ) → cut t ≡ cut a → cut (x + y) ≡ cut z → cut (e + x + (t + y)) ≡ cut (e + a + z)
  withal e a t x y z h k =
      let left : e + x + (t + y) ≡ e + t + (x + y) = omega arith in
      ap cut left ∙ cut_same (e + t) (e + a) (x + y) z (cut_same e e t a refl h) k

  one_edge : (levels : ℕ) → ListsHave levels → (from number : ℕ) (edges : List ℕ) (to : ℕ) → Leads s from (number ∷ edges) to → start ≤ from → count ≤ from + suc levels → HasTurns (suc levels) edges → HasTurns (suc levels) (number ∷ edges)
  one_edge levels lists from number edges to l low deep rest = by_mark (get_or (marks s count) l.0.target None) refl
    where
      more : get_or (added s count) (target_in (slice_get s.graph.edges number)) 0 ≡ 0 → cut (edge_weight s number + edges_weight s edges + turns_weight (map (weighed s) rest.0)) ≡ cut (way_weight (added s count) s (number ∷ edges))
      more none = without (edge_weight s number) (get_or (added s count) (target_in (slice_get s.graph.edges number)) 0) (edges_weight s edges) (turns_weight (map (weighed s) rest.0)) (way_weight (added s count) s edges) none rest.2

      nought : (n : ℕ) → cut (n * 0) ≡ 0
      nought n =
          let e : n * 0 ≡ 0 = omega arith in ap cut e

      by_known : (k : ℕ) (head : Head) (n : ℕ) (m : Meets s number k head) → get_or s.facts.turns k None ≡ Some n → head.node ≡ l.0.target → (o : Option ℕ) → best_at head.node (table_of (field s count) (turning_for s.graph.edges head n)) head.node ≡ o → HasTurns (suc levels) (number ∷ edges)
      by_known k head n m turns place None e = (
        rest.0,
        inr (inl ((k, head, m, no_way s count laid counted number k head n m e), rest.1)),
        more (added_behind s count laid counted number k head n m turns ∙ ap (λ (o : Option ℕ). cut (n * or_nought o)) e ∙ nought n),
      )
      by_known k head n m turns place (Some known) e =
          let up : l.0.source < l.0.target = laid.rises number l.0 l.1 l.3 in
          let way = leads_on s laid (added s count) head.node (λ node. node ≡ last_of s head) (get_or (firsts s count) head.node 0) (inside (field s count) (turning_for s.graph.edges head n)) (ending_at head.node (last_of s head)) (through s count laid counted k head n m.2.0) known e in
          let leads_way : Leads s head.node way.0 (last_of s head) = subst (Leads s head.node way.0) way.2 way.3 in
          let inner = lists head.node way.0 (last_of s head) leads_way (omega (arith, place, up, low, l.4)) (omega (arith, place, up, deep, l.4)) in
          let body : Body Choice = record { head = k; turns = n; choice = choice_with way.0 inner.0 } in
          let weighs : cut (weight_of s (choice_with way.0 inner.0)) ≡ known = ap cut (weight_with s way.0 inner.0) ∙ inner.2 ∙ way.4 in
          let all : cut (n * weight_of s (choice_with way.0 inner.0)) ≡ cut (get_or (added s count) (target_in (slice_get s.graph.edges number)) 0) =
          sym (cut_turns n (weight_of s (choice_with way.0 inner.0))) ∙ ap (λ (w : ℕ). cut (n * w)) weighs
          ∙ sym (ap cut (added_behind s count laid counted number k head n m turns ∙ ap (λ (o : Option ℕ). cut (n * or_nought o)) e) ∙ cut_again (n * known)) in (
            body ∷ rest.0,
            inr (inr (k, head, body, rest.0, m, refl, (refl, turns, with_turns levels head.node way.0 (last_of s head) inner.0 leads_way inner.1), rest.1)),
            withal (edge_weight s number) (get_or (added s count) (target_in (slice_get s.graph.edges number)) 0) (n * weight_of s (choice_with way.0 inner.0)) (edges_weight s edges) (turns_weight (map (weighed s) rest.0)) (way_weight (added s count) s edges) all rest.2,
          )

      by_mark : (o : Option Turning) → get_or (marks s count) l.0.target None ≡ o → HasTurns (suc levels) (number ∷ edges)
      by_mark None e = (
        rest.0,
        inl (no_meets s count laid counted start bounded number l.0 l.1 l.2 l.3 (omega (arith, low, l.4)) e, rest.1),
        more (ap (λ (o : Option Edge). get_or (added s count) (target_in o) 0) l.1 ∙ added_none s count laid counted l.0.target e),
      )
      by_mark (Some t) e =
          let f = mark_tells s count laid counted l.0.target t e in
          by_known f.0 f.1 f.2 (l.0, l.1, f.3, sym f.5) f.4 f.5 (best_at f.1.node (table_of (field s count) (turning_for s.graph.edges f.1 f.2)) f.1.node) refl

  along : (levels : ℕ) → ListsHave levels → ListsHave (suc levels)
  along levels lists from [] to l low deep = ([], refl, refl)
  along levels lists from (number ∷ edges) to l low deep =
      let up : l.0.source < l.0.target = laid.rises number l.0 l.1 l.3 in
      one_edge levels lists from number edges to l low deep
      (along levels lists l.0.target edges to l.5 (omega (arith, up, low, l.4)) (omega (arith, up, deep, l.4)))

  pub lists_have : (levels : ℕ) → ListsHave levels
  lists_have zero from [] to l low deep = ([], refl, refl)
  lists_have zero from (number ∷ edges) to l low deep =
      let inside_it : l.0.source < length s.graph.node_shape = (laid.among number l.0 l.1).0 in
      absurd (omega (arith, inside_it, counted, deep, l.4))
  lists_have (suc levels) from edges to l low deep =
      along levels (λ from' edges' to' l' low' deep'. lists_have levels from' edges' to' l' low' deep') from edges to l low deep

pub each_list_is_chosen : EachListIsChosen
each_list_is_chosen s frame bound laid counted at b from way to low l =
    let bounded = bounded_by s frame bound at b in
    let all = lists_have s (length s.facts.stops) laid counted frame.node bounded (length s.facts.stops) from way to l low (omega arith) in
    (choice_with way all.0, edges_of way all.0, (suc (length s.facts.stops), with_turns s (length s.facts.stops) laid counted frame.node bounded (length s.facts.stops) from way to all.0 l all.1))
