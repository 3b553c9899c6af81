-- The choices that are picked are the worst: that of a path with the choices of the turns of the loops on it.
use Rattle.std.proofs.Common.{◌≡◌, ◌≢◌, ℕ, zero, suc, ◌+◌, ◌*◌, ◌<◌, ◌≤◌, inl, inr, false, List, [], ◌∷◌, ◌++◌, length, get_or, map, min, Option, Some, None, refl, ap, sym, ◌∙◌, subst, arith}
use Rattle.std.specs.Prelude.{slice_get}
use Rattle.wm_cost.specs.Edges.{way_of}
use Rattle.wm_flow.specs.declared.graph.Edge.{Edge}
use Rattle.wm_flow.specs.declared.graph.Head.{Head}
use Rattle.wm_ways.specs.declared.ways.Turning.{Turning}
use Rattle.wm_ways.specs.declared.ways.Way.{Way}
use Rattle.wm_ways.specs.Numbers.{cut, or_nought}
use Rattle.wm_ways.specs.Sweeps.{best_at, ending_at}
use Rattle.wm_path.specs.Bodies.{inside, table_of, turn_edges, choice_with, body_along, body_with, made, at_loop, bodies_by, turn_of, bodies_of}
use Rattle.wm_path.specs.Fields.{target_of, mark_in, loop_behind}
use Rattle.wm_path.specs.declared.choice.Body.{Body}
use Rattle.wm_path.specs.declared.choice.Choice.{Choice}
use Rattle.wm_path.specs.declared.choice.Choice.TheViews.{out-Choice, out-roll-Choice}
use Rattle.wm_path.specs.declared.choice.Choice.TheOpen.{Choice-F}
use Rattle.wm_path_laws.specs.Choices.{IsLaidOut, IsLive, Setting, IsLoop, Leads, Meets, AreTurns, IsWithin, last_of, edge_weight, edges_weight, turns_weight, weight_of}
use Rattle.wm_path_laws.specs.Paths.{IsNotAfter}
use Rattle.wm_path_laws.specs.Worst.{IsFirstOfGreatest, AreWorst, IsWorstWithin, EachTurns}
use Rattle.wm_path_laws.proofs.Cuts.{cut_least}
use Rattle.wm_path_laws.proofs.Leading.{target_in, target_is, way_at, ways_of, way_weight}
use Rattle.wm_path_laws.proofs.Loops.{added, added_none, field, firsts, marks, mark_tells, number_of, numbers, through}
use Rattle.wm_path_laws.proofs.Marks.{turning_for}
use Rattle.wm_path_laws.proofs.Meeting.{entered, no_meets, no_way, node_is}
use Rattle.wm_path_laws.proofs.Others.{added_behind, below, weighed, weight_out}
use Rattle.wm_path_laws.proofs.Routes.{IsPicked, leads_on, picks}
use Rattle.wm_path_laws.proofs.Tables.{uncut}

-- ---- numbers

under : (w x known : ℕ) → cut w ≤ cut x → x ≤ known → known ≤ 1000000000000000 → w ≤ known
under w x known h k small =
    let l : min w 1000000000000001 ≤ min x 1000000000000001 = cut_least w x h in omega (arith, l, k, small)

exact : (w x known : ℕ) → cut w ≤ cut x → x ≤ known → known ≤ 1000000000000000 → w ≡ known → x ≡ known
exact w x known h k small e =
    let l : min w 1000000000000001 ≤ min x 1000000000000001 = cut_least w x h in omega (arith, l, k, small, e)

-- ---- a choice by its parts

pub edges_of : (edges : List ℕ) (bodies : List (Body Choice)) → (out-Choice (choice_with edges bodies)).edges ≡ edges
edges_of edges bodies = ap (λ (it : Choice-F Choice). it.edges) (out-roll-Choice (record { edges = edges; bodies = bodies }))

pub bodies_are : (edges : List ℕ) (bodies : List (Body Choice)) → (out-Choice (choice_with edges bodies)).bodies ≡ bodies
bodies_are edges bodies = ap (λ (it : Choice-F Choice). it.bodies) (out-roll-Choice (record { edges = edges; bodies = bodies }))

pub weight_with : (s : Setting) (edges : List ℕ) (bodies : List (Body Choice)) → weight_of s (choice_with edges bodies) ≡ edges_weight s edges + turns_weight (map (weighed s) bodies)
weight_with s edges bodies =
    weight_out s (choice_with edges bodies)
    ∙ ap (λ (es : List ℕ). edges_weight s es + turns_weight (map (weighed s) (out-Choice (choice_with edges bodies)).bodies)) (edges_of edges bodies)
    ∙ ap (λ (bs : List (Body Choice)). edges_weight s edges + turns_weight (map (weighed s) bs)) (bodies_are edges bodies)

more_bodies : (levels : ℕ) (s : Setting) (count : ℕ) (edges : List ℕ) → bodies_by (turn_of (bodies_of levels (field s count)) (field s count)) (field s count) edges ≡ bodies_of (suc levels) (field s count) edges
unfolding bodies_of
more_bodies levels s count edges = refl

pub nothing_on : (levels : ℕ) (s : Setting) (count : ℕ) → bodies_of levels (field s count) [] ≡ []
unfolding bodies_of
nothing_on zero s count = refl
nothing_on (suc levels) s count = refl

-- what stands of the bodies of a list of edges
pub record Stands (levels : ℕ) (s : Setting) (count : ℕ) (edges : List ℕ) (bodies : List (Body Choice)) : Type 0 where
  pub turns : AreTurns (IsWithin levels s) s edges bodies
  pub worst : AreWorst (IsWorstWithin levels s) s bodies
  pub weighs : edges_weight s edges + turns_weight (map (weighed s) bodies) ≡ way_weight (added s count) s edges

-- and of a choice from a node to ends
pub record IsChosen (levels : ℕ) (s : Setting) (from : ℕ) (IsEnd : ℕ → Type 0) (known : ℕ) (choice : Choice) : Type 0 where
  pub to : ℕ
  pub ends : IsEnd to
  pub within : IsWithin levels s from to choice
  pub worst : IsWorstWithin levels s from IsEnd choice
  pub weighs : weight_of s choice ≡ known

module _ (s : Setting) (count : ℕ) (laid : IsLaidOut s.graph) (counted : count ≡ length s.graph.node_shape) where
  pub chosen : (levels from : ℕ) (IsEnd : ℕ → Type 0) (known : ℕ) (edges : List ℕ) (bodies : List (Body Choice)) → known ≤ 1000000000000000 → IsPicked s (added s count) from IsEnd known edges → Stands levels s count edges bodies → IsChosen (suc levels) s from IsEnd known (choice_with edges bodies)
  chosen levels from IsEnd known edges bodies small p stands =
      record {
        to = p.to;
        ends = p.ends;
        within = within;
        worst = (first, subst (AreWorst (IsWorstWithin levels s) s) (sym (bodies_are edges bodies)) stands.worst);
        weighs = weighs;
      }
    where
      weighs : weight_of s (choice_with edges bodies) ≡ known
      weighs = weight_with s edges bodies ∙ stands.weighs ∙ p.weighs

      within : IsWithin (suc levels) s from p.to (choice_with edges bodies)
      within = (
        subst (λ (es : List ℕ). Leads s from es p.to) (sym (edges_of edges bodies)) p.leads,
        subst (λ (es : List ℕ). AreTurns (IsWithin levels s) s es (out-Choice (choice_with edges bodies)).bodies) (sym (edges_of edges bodies))
            (subst (AreTurns (IsWithin levels s) s edges) (sym (bodies_are edges bodies)) stands.turns),
      )

      greatest : (other : Choice) (end : ℕ) → IsEnd end → (levels : ℕ) × IsWithin levels s from end other → weight_of s other ≤ weight_of s (choice_with edges bodies)
      greatest other end is w =
          let b = below s count laid counted w.0 from end other w.1 in
          let l : way_weight (added s count) s (out-Choice other).edges ≤ known = p.greatest (out-Choice other).edges end is b.1 in
          let u : weight_of s other ≤ known = under (weight_of s other) (way_weight (added s count) s (out-Choice other).edges) known b.0 l small in
          omega (arith, u, weighs)

      before : (other : Choice) (end : ℕ) → IsEnd end → (levels : ℕ) × IsWithin levels s from end other → weight_of s other ≡ weight_of s (choice_with edges bodies) → IsNotAfter (out-Choice (choice_with edges bodies)).edges (out-Choice other).edges
      before other end is w same =
          let b = below s count laid counted w.0 from end other w.1 in
          let l : way_weight (added s count) s (out-Choice other).edges ≤ known = p.greatest (out-Choice other).edges end is b.1 in
          subst (λ (es : List ℕ). IsNotAfter es (out-Choice other).edges) (sym (edges_of edges bodies))
          (p.before (out-Choice other).edges end is b.1 (exact (weight_of s other) (way_weight (added s count) s (out-Choice other).edges) known b.0 l small (same ∙ weighs)))

      first : IsFirstOfGreatest s from IsEnd (choice_with edges bodies)
      first = record { to = p.to; ends = p.ends; is = (suc levels, within); greatest = greatest; before = before }

  -- ---- the loop behind an edge

  behind_is : (number : ℕ) (edge : Edge) → slice_get s.graph.edges number ≡ Some edge → loop_behind (field s count) number ≡ get_or (marks s count) edge.target None
  behind_is number edge at =
      let way : Way = way_of s.weights (get_or s.facts.live (0 + number) false) edge in
      let is : slice_get (ways_of s) number ≡ Some way = way_at s.weights s.facts.live 0 s.graph.edges number edge at in
      ap (λ (o : Option Way). mark_in (marks s count) (target_of o)) is ∙ ap (λ (n : ℕ). get_or (marks s count) n None) (target_is s.weights (get_or s.facts.live (0 + number) false) edge)

  module _ (start : ℕ) (bounded : (k : ℕ) (head : Head) → IsLoop s k head → start < head.node → IsLive s head.entry → ((n : ℕ) × (get_or s.facts.turns k None ≡ Some n))) (each_turns : EachTurns s) where
    abbrev TurnsStand : (levels : ℕ) → Type 0
    TurnsStand levels =
        (k : ℕ) (head : Head) (n known : ℕ) → IsLoop s k head → get_or s.facts.turns k None ≡ Some n → start ≤ head.node → count ≤ head.node + levels →
        best_at head.node (table_of (field s count) (turning_for s.graph.edges head n)) head.node ≡ Some known → known ≤ 1000000000000000 →
        IsChosen (suc levels) s head.node (λ node. node ≡ last_of s head) known
        (choice_with (turn_edges (field s count) (turning_for s.graph.edges head n) (table_of (field s count) (turning_for s.graph.edges head n)))
        (bodies_of levels (field s count) (turn_edges (field s count) (turning_for s.graph.edges head n) (table_of (field s count) (turning_for s.graph.edges head n)))))

    abbrev ListsStand : (levels : ℕ) → Type 0
    ListsStand levels =
        (from : ℕ) (edges : List ℕ) (to : ℕ) → Leads s from edges to → start ≤ from → count ≤ from + levels → way_weight (added s count) s edges ≤ 1000000000000000 →
        Stands levels s count edges (bodies_of levels (field s count) edges)

    turns_stand : (levels : ℕ) → ListsStand levels → TurnsStand levels
    turns_stand levels lists k head n known loop turns low deep e small =
        let t : Turning = turning_for s.graph.edges head n in
        let edges : List ℕ = turn_edges (field s count) t (table_of (field s count) t) in
        let p : IsPicked s (added s count) head.node (λ node. node ≡ last_of s head) known edges =
        picks s laid (added s count) head.node (λ node. node ≡ last_of s head) (get_or (firsts s count) head.node 0) (inside (field s count) t) (ending_at head.node (last_of s head)) (through s count laid counted k head n loop.0) known e small in
        chosen levels head.node (λ node. node ≡ last_of s head) known edges (bodies_of levels (field s count) edges) small p
        (lists head.node edges p.to p.leads low deep (omega (arith, p.weighs, small)))

    -- ---- one edge more

    module _ (levels : ℕ) (turn : TurnsStand levels) (from number : ℕ) (edges : List ℕ) (to : ℕ) (l : Leads s from (number ∷ edges) to) (low : start ≤ from) (deep : count ≤ from + suc levels) (small : way_weight (added s count) s (number ∷ edges) ≤ 1000000000000000) (bodies : List (Body Choice)) (rest : Stands (suc levels) s count edges bodies) where
      up : l.0.source < l.0.target
      up = laid.rises number l.0 l.1 l.3

      weight_here : (n : ℕ) → get_or (added s count) (target_in (slice_get s.graph.edges number)) 0 ≡ n → way_weight (added s count) s (number ∷ edges) ≡ edge_weight s number + n + way_weight (added s count) s edges
      weight_here n e = ap (λ (a : ℕ). edge_weight s number + a + way_weight (added s count) s edges) e

      -- nothing is added
      nothing : get_or (added s count) (target_in (slice_get s.graph.edges number)) 0 ≡ 0 → AreTurns (IsWithin (suc levels) s) s (number ∷ edges) bodies → Stands (suc levels) s count (number ∷ edges) bodies
      nothing none are =
          let w : way_weight (added s count) s (number ∷ edges) ≡ edge_weight s number + 0 + way_weight (added s count) s edges = weight_here 0 none in
          record {
            turns = are;
            worst = rest.worst;
            weighs = together (edge_weight s number) (edges_weight s edges) (turns_weight (map (weighed s) bodies)) (way_weight (added s count) s edges) (way_weight (added s count) s (number ∷ edges)) rest.weighs w;
          }
        where
          together : (e x y z whole : ℕ) → x + y ≡ z → whole ≡ e + 0 + z → e + x + y ≡ whole
          together e x y z whole p q = omega (arith, p, q)

      no_loop : get_or (marks s count) l.0.target None ≡ None → Stands (suc levels) s count (number ∷ edges) bodies
      no_loop none =
          nothing (ap (λ (o : Option Edge). get_or (added s count) (target_in o) 0) l.1 ∙ added_none s count laid counted l.0.target none)
          (inl (no_meets s count laid counted start bounded number l.0 l.1 l.2 l.3 (omega (arith, low, l.4)) none, rest.turns))

      module _ (k : ℕ) (head : Head) (n : ℕ) (m : Meets s number k head) (turns : get_or s.facts.turns k None ≡ Some n) where
        idle : best_at head.node (table_of (field s count) (turning_for s.graph.edges head n)) head.node ≡ None → Stands (suc levels) s count (number ∷ edges) bodies
        idle none =
            nothing (added_behind s count laid counted number k head n m turns ∙ ap (λ (o : Option ℕ). cut (n * or_nought o)) none ∙ nought n)
            (inr (inl ((k, head, m, no_way s count laid counted number k head n m none), rest.turns)))
          where
            nought : (n : ℕ) → cut (n * 0) ≡ 0
            nought n =
                let e : n * 0 ≡ 0 = omega arith in ap cut e

        -- at least one turn weighs no more than all of them
        one_turn : (known : ℕ) → n ≢ 0 → cut (n * known) ≤ 1000000000000000 → (n * known ≡ cut (n * known)) × (known ≤ 1000000000000000)
        one_turn known ne h =
            let e : n * known ≡ cut (n * known) = uncut (n * known) (cut (n * known)) h refl in
            (e, at_most n known ne (omega (arith, e, h)))
          where
            at_most : (n known : ℕ) → n ≢ 0 → n * known ≤ 1000000000000000 → known ≤ 1000000000000000
            at_most zero known ne h = absurd (ne refl)
            at_most (suc n) known ne h = omega (arith, h)

        turned : (known : ℕ) → best_at head.node (table_of (field s count) (turning_for s.graph.edges head n)) head.node ≡ Some known → Stands (suc levels) s count (number ∷ edges) (made (body_along (bodies_of levels (field s count)) (field s count) (turning_for s.graph.edges head n) (table_of (field s count) (turning_for s.graph.edges head n)) (Some known)) ++ bodies)
        turned known e =
            record {
              turns = inr (inr (k, head, body, bodies, m, refl, (is_head, turns, subst (λ (node : ℕ). IsWithin (suc levels) s head.node node body.choice) c.ends c.within), rest.turns));
              worst = ((head, ap (slice_get s.graph.heads) is_head ∙ m.2.0, c.worst), rest.worst);
              weighs = together (edge_weight s number) (edges_weight s edges) (n * weight_of s body.choice) (turns_weight (map (weighed s) bodies)) (n * known) (way_weight (added s count) s edges) (way_weight (added s count) s (number ∷ edges))
                  (ap (λ (w : ℕ). n * w) c.weighs) rest.weighs (weight_here (n * known) (adds ∙ sym whole.0));
            }
          where
            l' : (way : List ℕ) × (end : ℕ) × (end ≡ last_of s head) × Leads s head.node way end × (cut (way_weight (added s count) s way) ≡ known)
            l' = leads_on s laid (added s count) head.node (λ node. node ≡ last_of s head) (get_or (firsts s count) head.node 0) (inside (field s count) (turning_for s.graph.edges head n)) (ending_at head.node (last_of s head)) (through s count laid counted k head n m.2.0) known e

            adds : get_or (added s count) (target_in (slice_get s.graph.edges number)) 0 ≡ cut (n * known)
            adds = added_behind s count laid counted number k head n m turns ∙ ap (λ (o : Option ℕ). cut (n * or_nought o)) e

            some_turn : n ≢ 0
            some_turn z = each_turns k head m.2 (entered s count laid counted number l.0 l.1 l.2 l.3 k head m) l'.0 (subst (Leads s head.node l'.0) l'.2 l'.3) (turns ∙ ap Some z)

            whole : (n * known ≡ cut (n * known)) × (known ≤ 1000000000000000)
            whole = one_turn known some_turn (in_all (edge_weight s number) (get_or (added s count) (target_in (slice_get s.graph.edges number)) 0) (way_weight (added s count) s edges) (cut (n * known)) adds small)
              where
                in_all : (e a z c : ℕ) → a ≡ c → e + a + z ≤ 1000000000000000 → c ≤ 1000000000000000
                in_all e a z c p h = omega (arith, p, h)

            c : IsChosen (suc levels) s head.node (λ node. node ≡ last_of s head) known
                (choice_with (turn_edges (field s count) (turning_for s.graph.edges head n) (table_of (field s count) (turning_for s.graph.edges head n)))
                (bodies_of levels (field s count) (turn_edges (field s count) (turning_for s.graph.edges head n) (table_of (field s count) (turning_for s.graph.edges head n)))))
            c = turn k head n known m.2 turns (omega (arith, node_is s count laid counted number l.0 l.1 k head m, up, low, l.4)) (omega (arith, node_is s count laid counted number l.0 l.1 k head m, up, deep, l.4)) e whole.1

            body : Body Choice
            body = body_with (field s count) (turning_for s.graph.edges head n) (turn_edges (field s count) (turning_for s.graph.edges head n) (table_of (field s count) (turning_for s.graph.edges head n)))
                (bodies_of levels (field s count) (turn_edges (field s count) (turning_for s.graph.edges head n) (table_of (field s count) (turning_for s.graph.edges head n))))

            is_head : get_or (numbers s count) head.node 0 ≡ k
            is_head = number_of s count laid counted k head m.2.0

            together : (e x tb y tk z whole : ℕ) → tb ≡ tk → x + y ≡ z → whole ≡ e + tk + z → e + x + (tb + y) ≡ whole
            together e x tb y tk z whole p q r = omega (arith, p, q, r)

        by_known : (o : Option ℕ) → best_at head.node (table_of (field s count) (turning_for s.graph.edges head n)) head.node ≡ o → Stands (suc levels) s count (number ∷ edges) (made (body_along (bodies_of levels (field s count)) (field s count) (turning_for s.graph.edges head n) (table_of (field s count) (turning_for s.graph.edges head n)) o) ++ bodies)
        by_known None e = idle e
        by_known (Some known) e = turned known e

        pub a_loop : Stands (suc levels) s count (number ∷ edges) (at_loop (turn_of (bodies_of levels (field s count)) (field s count)) (Some (turning_for s.graph.edges head n)) ++ bodies)
        a_loop = by_known (best_at head.node (table_of (field s count) (turning_for s.graph.edges head n)) head.node) refl

      by_mark : (o : Option Turning) → get_or (marks s count) l.0.target None ≡ o → Stands (suc levels) s count (number ∷ edges) (at_loop (turn_of (bodies_of levels (field s count)) (field s count)) o ++ bodies)
      by_mark None e = no_loop e
      by_mark (Some t) e =
          let f = mark_tells s count laid counted l.0.target t e in
          subst (λ (u : Turning). Stands (suc levels) s count (number ∷ edges) (at_loop (turn_of (bodies_of levels (field s count)) (field s count)) (Some u) ++ bodies)) (sym f.6)
          (a_loop f.0 f.1 f.2 (l.0, l.1, f.3, sym f.5) f.4)

      pub one_edge : Stands (suc levels) s count (number ∷ edges) (at_loop (turn_of (bodies_of levels (field s count)) (field s count)) (loop_behind (field s count) number) ++ bodies)
      one_edge = by_mark (loop_behind (field s count) number) (sym (behind_is number l.0 l.1))

    along : (levels : ℕ) → TurnsStand levels → (from : ℕ) (edges : List ℕ) (to : ℕ) → Leads s from edges to → start ≤ from → count ≤ from + suc levels → way_weight (added s count) s edges ≤ 1000000000000000 → Stands (suc levels) s count edges (bodies_by (turn_of (bodies_of levels (field s count)) (field s count)) (field s count) edges)
    along levels turn from [] to l low deep small = record { turns = refl; worst = tt; weighs = refl }
    along levels turn from (number ∷ edges) to l low deep small =
        let rises : l.0.source < l.0.target = laid.rises number l.0 l.1 l.3 in
        one_edge levels turn from number edges to l low deep small
        (bodies_by (turn_of (bodies_of levels (field s count)) (field s count)) (field s count) edges)
        (along levels turn l.0.target edges to l.5 (omega (arith, rises, low, l.4)) (omega (arith, rises, deep, l.4))
        (part (edge_weight s number) (get_or (added s count) (target_in (slice_get s.graph.edges number)) 0) (way_weight (added s count) s edges) small))
      where
        part : (e a z : ℕ) → e + a + z ≤ 1000000000000000 → z ≤ 1000000000000000
        part e a z h = omega (arith, h)

    pub lists_stand : (levels : ℕ) → ListsStand levels
    lists_stand zero from [] to l low deep small =
        subst (Stands zero s count []) (sym (nothing_on zero s count)) (record { turns = refl; worst = tt; weighs = refl })
    lists_stand zero from (number ∷ edges) to l low deep small =
        let inside_it : l.0.source < length s.graph.node_shape = (laid.among number l.0 l.1).0 in
        absurd (omega (arith, inside_it, counted, deep, l.4))
    lists_stand (suc levels) from edges to l low deep small =
        subst (Stands (suc levels) s count edges) (more_bodies levels s count edges)
        (along levels (turns_stand levels (λ from' edges' to' l' low' deep' small'. lists_stand levels from' edges' to' l' low' deep' small')) from edges to l low deep small)
