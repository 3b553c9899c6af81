-- The choice that is given for a frame is the worst.
use Rattle.std.proofs.Common.{◌≡◌, ℕ, zero, suc, ◌+◌, ◌-◌, ◌<◌, ◌≤◌, ◌⊎◌, inl, inr, ⊎_elim, Bool, true, false, List, [], ◌∷◌, length, get_or, drop, Option, Some, None, refl, ap, sym, ◌∙◌, subst, arith}
use Rattle.std.specs.Prelude.{slice_get, nat_le, if◌then◌else◌}
use Rattle.std.proofs.Math.ListN.{length-set}
use Rattle.std.proofs.lemmas.Bool.{cases_eq, leb-true}
use Rattle.std.proofs.lemmas.Grind.{get_or-set_at}
use Rattle.std.proofs.lemmas.List.{get_or-drop, get_or-set_other, length-drop}
use Rattle.std.proofs.lemmas.Option.{none-some, same_Some}
use Rattle.wm_cost.specs.Bounds.{told, weight_from, bound_at, bound_with, frame_bound, bound_from}
use Rattle.wm_cost.specs.Endless.{endless_from}
use Rattle.wm_cost.specs.Turnings.{source_of}
use Rattle.wm_flow.specs.declared.graph.Bound.TheVariants.{At, NoTrips, TooLarge}
use Rattle.wm_flow.specs.declared.graph.Head.{Head}
use Rattle.wm_ways.specs.declared.ways.Way.{Way}
use Rattle.wm_ways.specs.Numbers.{cut, or_nought}
use Rattle.wm_ways.specs.Paths.{IsAtLeast}
use Rattle.wm_ways.specs.Sweeps.{best_at, end_mark, ending_in, swept}
use Rattle.wm_ways.specs.Whole.{added_of, greatest_weight, marks_of, onwards}
use Rattle.wm_path.specs.Bodies.{bodies_of, choice_with}
use Rattle.wm_path.specs.Fields.{Field}
use Rattle.wm_path.specs.Picks.{beyond, picked}
use Rattle.wm_path.specs.Worst.{choice_at, choice_behind, choice_from, ends_of, onward_edges, onward_table, with_bound}
use Rattle.wm_path.specs.declared.choice.Choice.{Choice}
use Rattle.wm_path_laws.specs.Choices.{IsLaidOut, IsLive, IsLoop, Setting, last_of, weight_of}
use Rattle.wm_path_laws.specs.Paths.{Goes}
use Rattle.wm_path_laws.specs.Worst.{EachTurns, GivesTheWorst, IsCutOff, IsEndOf, IsWorst}
use Rattle.wm_path_laws.proofs.Chosen.{IsChosen, bodies_are, chosen, edges_of, lists_stand, nothing_on, weight_with}
use Rattle.wm_path_laws.proofs.Leading.{way_weight, ways_of}
use Rattle.wm_path_laws.proofs.Loops.{added, all_ordered, field, field_is, firsts, head_inside, marks, parts_at}
use Rattle.wm_path_laws.proofs.Marks.{turns_bounded}
use Rattle.wm_path_laws.proofs.Parts.{Parts}
use Rattle.wm_path_laws.proofs.Routes.{IsPicked, Route, at_least, picks}
use Rattle.wm_path_laws.proofs.Steps.{each_inside, each_more, goes_before, goes_past, goes_up, in_table}
use Rattle.wm_path_laws.proofs.Walks.{idle}

-- ---- tables of ends

length_ending : (ends : List Bool) → length (ending_in ends) ≡ length ends
length_ending [] = refl
length_ending (b ∷ ends) = ap suc (length_ending ends)

nought_mark : (b : Bool) (known : ℕ) → end_mark b ≡ Some known → known ≡ 0
nought_mark true known e = sym (same_Some 0 known e)
nought_mark false known e = absurd (none-some known e)

nought_ends : (ends : List Bool) (i known : ℕ) → get_or (ending_in ends) i None ≡ Some known → known ≡ 0
nought_ends [] i known e = absurd (none-some known e)
nought_ends (b ∷ ends) zero known e = nought_mark b known e
nought_ends (b ∷ ends) (suc i) known e = nought_ends ends i known e

end_is : (ends : List Bool) (i : ℕ) → get_or ends i false ≡ true → get_or (ending_in ends) i None ≡ Some 0
end_is [] i e = absurd (false_is_not e)
  where
    false_is_not : false ≡ true → ⊥
    false_is_not e = cc
end_is (b ∷ ends) zero e = ap end_mark e
end_is (b ∷ ends) (suc i) e = end_is ends i e

mark_is : (b : Bool) (known : ℕ) → end_mark b ≡ Some known → b ≡ true
mark_is true known e = refl
mark_is false known e = absurd (none-some known e)

is_end : (ends : List Bool) (i known : ℕ) → get_or (ending_in ends) i None ≡ Some known → get_or ends i false ≡ true
is_end [] i known e = absurd (none-some known e)
is_end (b ∷ ends) zero known e = mark_is b known e
is_end (b ∷ ends) (suc i) known e = is_end ends i known e

-- ---- bounds

told_is : (weight bound : ℕ) → told weight ≡ At bound → (weight ≡ bound) × (bound ≤ 1000000000000000)
told_is weight bound e = by_test (nat_le weight 1000000000000000) refl e
  where
    at_is : (a b : ℕ) → At a ≡ At b → a ≡ b
    at_is a b e = cc

    large_is_not : (b : ℕ) → TooLarge ≡ At b → ⊥
    large_is_not b e = cc

    by_test : (b : Bool) → nat_le weight 1000000000000000 ≡ b → (if b then At weight else TooLarge) ≡ At bound → (weight ≡ bound) × (bound ≤ 1000000000000000)
    by_test true t e =
        let same : weight ≡ bound = at_is weight bound e in
        let small : weight ≤ 1000000000000000 = leb-true weight 1000000000000000 t in
        (same, omega (arith, same, small))
    by_test false t e = absurd (large_is_not bound e)

bound_is : (endless : Option ℕ) (weight bound : ℕ) → bound_with endless weight ≡ At bound → (endless ≡ None) × (weight ≡ bound) × (bound ≤ 1000000000000000)
bound_is (Some loop_id) weight bound e = absurd (trips_is_not loop_id bound e)
  where
    trips_is_not : (l b : ℕ) → NoTrips l ≡ At b → ⊥
    trips_is_not l b e = cc
bound_is None weight bound e = let t = told_is weight bound e in (refl, t.0, t.1)

bound_tells : (s : Setting) (frame : Head) (bound : ℕ) → bound_from s.graph s.weights s.facts.turns s.facts.live s.facts.stops frame ≡ At bound → (endless_from frame.node s.facts.turns s.facts.live 0 s.graph.heads None ≡ None) × (weight_from s.graph s.weights s.facts.turns s.facts.live s.facts.stops frame ≡ bound) × (bound ≤ 1000000000000000)
unfolding bound_from
bound_tells s frame bound e =
    bound_is (endless_from frame.node s.facts.turns s.facts.live 0 s.graph.heads None) (weight_from s.graph s.weights s.facts.turns s.facts.live s.facts.stops frame) bound e

-- ---- a frame

abbrev pub ends_in : Setting → Head → List Bool
ends_in s frame = ends_of s.graph s.facts.stops frame

abbrev pub part_of : Setting → (count : ℕ) → Head → List Way
part_of s count frame = drop (get_or (firsts s count) frame.node 0) (ways_of s)

abbrev pub table_in : Setting → (count : ℕ) → Head → List (Option ℕ)
table_in s count frame = swept frame.node (added s count) (part_of s count frame) (ending_in (drop frame.node (ends_in s frame)))

abbrev edges_in : Setting → (count : ℕ) → Head → List ℕ
edges_in s count frame =
    picked frame.node (added s count) (table_in s count frame) (ending_in (drop frame.node (ends_in s frame))) (get_or (firsts s count) frame.node 0) frame.node (part_of s count frame)

pub weight_is : (s : Setting) (frame : Head) → weight_from s.graph s.weights s.facts.turns s.facts.live s.facts.stops frame ≡ or_nought (best_at frame.node (table_in s (length s.facts.stops) frame) frame.node)
unfolding weight_from greatest_weight onwards firsts added marks marks_of added_of
weight_is s frame = ap (λ (n : ℕ). or_nought (best_at frame.node (table_in s n frame) frame.node)) (length-set s.facts.stops (last_of s frame) true)

choice_by : (s : Setting) (frame : Head) (field : Field) → choice_from field (ends_in s frame) frame.node ≡ choice_with (onward_edges field (ends_in s frame) frame.node) (bodies_of (length s.facts.stops) field (onward_edges field (ends_in s frame) frame.node))
unfolding choice_from
choice_by s frame field =
    ap (λ (n : ℕ). choice_with (onward_edges field (ends_in s frame) frame.node) (bodies_of n field (onward_edges field (ends_in s frame) frame.node))) (length-set s.facts.stops (last_of s frame) true)

choice_is : (s : Setting) (frame : Head) → choice_at s.graph s.weights s.facts frame ≡ choice_with (edges_in s (length s.facts.stops) frame) (bodies_of (length s.facts.stops) (field s (length s.facts.stops)) (edges_in s (length s.facts.stops) frame))
unfolding choice_at onward_edges onward_table
choice_is s frame =
    ap (λ (f : Field). choice_from f (ends_in s frame) frame.node) (field_is s (length s.facts.stops)) ∙ choice_by s frame (field s (length s.facts.stops))

module _ (s : Setting) (frame : Head) (laid : IsLaidOut s.graph) (counted : length s.facts.stops ≡ length s.graph.node_shape) (at : slice_get s.graph.heads 0 ≡ Some frame) where
  last_inside : last_of s frame < length s.facts.stops
  last_inside =
      let b = laid.backs 0 frame at in
      let source : b.0.source ≡ last_of s frame = ap source_of (sym b.1) in
      let h : b.0.source < length s.graph.node_shape = (laid.among frame.back b.0 b.1).0 in
      omega (arith, source, h, counted)

  marked_end : (node : ℕ) → IsEndOf s frame node → get_or (ends_in s frame) node false ≡ true
  marked_end node (inl e) = get_or-set_at s.facts.stops (last_of s frame) node true false e last_inside
  marked_end node (inr e) =
      ⊎_elim (λ (here : node ≡ last_of s frame). get_or-set_at s.facts.stops (last_of s frame) node true false here last_inside)
      (λ (ne : node ≡ last_of s frame → ⊥). get_or-set_other s.facts.stops (last_of s frame) node true false ne ∙ e)
      (cases_eq node (last_of s frame))

  end_marked : (node : ℕ) → get_or (ends_in s frame) node false ≡ true → IsEndOf s frame node
  end_marked node e =
      ⊎_elim (λ (here : node ≡ last_of s frame). inl here)
      (λ (ne : node ≡ last_of s frame → ⊥). inr (sym (get_or-set_other s.facts.stops (last_of s frame) node true false ne) ∙ e))
      (cases_eq node (last_of s frame))

  pub onward : Route s (added s (length s.facts.stops)) frame.node (IsEndOf s frame) (get_or (firsts s (length s.facts.stops)) frame.node 0) (part_of s (length s.facts.stops) frame) (ending_in (drop frame.node (ends_in s frame)))
  onward =
      let parts : Parts (length s.facts.stops) (ways_of s) frame.node (get_or (firsts s (length s.facts.stops)) frame.node 0) = parts_at s (length s.facts.stops) laid counted frame.node (head_inside s (length s.facts.stops) laid counted 0 frame at) in
      let within : frame.node < length s.facts.stops = head_inside s (length s.facts.stops) laid counted 0 frame at in
      let long : length (ending_in (drop frame.node (ends_in s frame))) ≡ length s.facts.stops - frame.node =
      length_ending (drop frame.node (ends_in s frame)) ∙ length-drop frame.node (ends_in s frame) ∙ ap (λ (n : ℕ). n - frame.node) (length-set s.facts.stops (last_of s frame) true) in
      record {
        ordered = in_table 0 (length s.facts.stops) frame.node frame.node (length (ending_in (drop frame.node (ends_in s frame)))) (part_of s (length s.facts.stops) frame) parts.behind
            (each_more (λ w. w.source - 0 < length s.facts.stops) (λ w. w.source - frame.node < length (ending_in (drop frame.node (ends_in s frame)))) (part_of s (length s.facts.stops) frame)
            (λ w h. omega (arith, h, within, long)) (each_inside 0 (length s.facts.stops) frame.node (part_of s (length s.facts.stops) frame) parts.behind));
        ends = λ node known e. nought_ends (drop frame.node (ends_in s frame)) (node - frame.node) known e;
        into = λ numbers to weight end g.
            let up : frame.node ≤ to = goes_up 0 (length s.facts.stops) 0 (added s (length s.facts.stops)) 0 (ways_of s) frame.node numbers to weight (all_ordered s (length s.facts.stops) laid counted) g in
            let same : 0 + get_or (firsts s (length s.facts.stops)) frame.node 0 ≡ get_or (firsts s (length s.facts.stops)) frame.node 0 = omega arith in
            let place : frame.node + (to - frame.node) ≡ to = omega (arith, up) in (
              subst (λ (n : ℕ). Goes (added s (length s.facts.stops)) n (part_of s (length s.facts.stops) frame) frame.node numbers to weight) same
                  (goes_past (added s (length s.facts.stops)) 0 (get_or (firsts s (length s.facts.stops)) frame.node 0) (ways_of s) frame.node numbers to weight parts.before g),
              end_is (drop frame.node (ends_in s frame)) (to - frame.node)
                  (get_or-drop frame.node (ends_in s frame) (to - frame.node) false ∙ ap (λ (n : ℕ). get_or (ends_in s frame) n false) place ∙ marked_end to end),
            );
        out = λ numbers to weight known g e.
            let same : get_or (firsts s (length s.facts.stops)) frame.node 0 ≡ 0 + get_or (firsts s (length s.facts.stops)) frame.node 0 = omega arith in
            let whole = goes_before (added s (length s.facts.stops)) 0 (get_or (firsts s (length s.facts.stops)) frame.node 0) (ways_of s) frame.node numbers to weight
            (subst (λ (n : ℕ). Goes (added s (length s.facts.stops)) n (part_of s (length s.facts.stops) frame) frame.node numbers to weight) same g) in
            let up : frame.node ≤ to = goes_up 0 (length s.facts.stops) 0 (added s (length s.facts.stops)) 0 (ways_of s) frame.node numbers to weight (all_ordered s (length s.facts.stops) laid counted) whole in
            let place : frame.node + (to - frame.node) ≡ to = omega (arith, up) in
            (end_marked to (ap (λ (n : ℕ). get_or (ends_in s frame) n false) (sym place) ∙ sym (get_or-drop frame.node (ends_in s frame) (to - frame.node) false) ∙ is_end (drop frame.node (ends_in s frame)) (to - frame.node) known e), whole);
      }

  abbrev Result : Choice → (bound : ℕ) → Type 0
  Result choice bound = (weight_of s choice ≡ bound) × (IsWorst s frame.node (IsEndOf s frame) choice ⊎ IsCutOff s frame choice)

  picked_choice : Choice
  picked_choice = choice_with (edges_in s (length s.facts.stops) frame) (bodies_of (length s.facts.stops) (field s (length s.facts.stops)) (edges_in s (length s.facts.stops) frame))

  nothing_beyond : (o : Option ℕ) → beyond o None ≡ None
  nothing_beyond None = refl
  nothing_beyond (Some z) = refl

  cut_off : best_at frame.node (table_in s (length s.facts.stops) frame) frame.node ≡ None → Result picked_choice 0
  unfolding picked_choice
  cut_off none =
      let edges : edges_in s (length s.facts.stops) frame ≡ [] =
      idle frame.node (added s (length s.facts.stops)) (table_in s (length s.facts.stops) frame) (ending_in (drop frame.node (ends_in s frame))) (get_or (firsts s (length s.facts.stops)) frame.node 0) frame.node (part_of s (length s.facts.stops) frame)
      (ap (beyond (best_at frame.node (ending_in (drop frame.node (ends_in s frame))) frame.node)) none ∙ nothing_beyond (best_at frame.node (ending_in (drop frame.node (ends_in s frame))) frame.node)) in
      subst (λ (c : Choice). Result c 0)
      (sym (ap (λ (es : List ℕ). choice_with es (bodies_of (length s.facts.stops) (field s (length s.facts.stops)) es)) edges
      ∙ ap (choice_with []) (nothing_on (length s.facts.stops) s (length s.facts.stops)))) (
        weight_with s [] [],
        inr (
          (λ way end is l.
              subst (IsAtLeast (cut (way_weight (added s (length s.facts.stops)) s way))) none
              (at_least s laid (added s (length s.facts.stops)) frame.node (IsEndOf s frame) (get_or (firsts s (length s.facts.stops)) frame.node 0) (part_of s (length s.facts.stops) frame) (ending_in (drop frame.node (ends_in s frame))) onward way end is l)),
          edges_of [] [],
          bodies_are [] [],
        ),
      )

  module _ (each_turns : EachTurns s) (endless : endless_from frame.node s.facts.turns s.facts.live 0 s.graph.heads None ≡ None) where
    led_on : (known : ℕ) → best_at frame.node (table_in s (length s.facts.stops) frame) frame.node ≡ Some known → known ≤ 1000000000000000 → Result picked_choice known
    unfolding picked_choice
    led_on known e small =
        let p : IsPicked s (added s (length s.facts.stops)) frame.node (IsEndOf s frame) known (edges_in s (length s.facts.stops) frame) =
        picks s laid (added s (length s.facts.stops)) frame.node (IsEndOf s frame) (get_or (firsts s (length s.facts.stops)) frame.node 0) (part_of s (length s.facts.stops) frame) (ending_in (drop frame.node (ends_in s frame))) onward known e small in
        let c : IsChosen (suc (length s.facts.stops)) s frame.node (IsEndOf s frame) known (choice_with (edges_in s (length s.facts.stops) frame) (bodies_of (length s.facts.stops) (field s (length s.facts.stops)) (edges_in s (length s.facts.stops) frame))) =
        chosen s (length s.facts.stops) laid counted (length s.facts.stops) frame.node (IsEndOf s frame) known (edges_in s (length s.facts.stops) frame)
        (bodies_of (length s.facts.stops) (field s (length s.facts.stops)) (edges_in s (length s.facts.stops) frame)) small p
        (lists_stand s (length s.facts.stops) laid counted frame.node
        (λ k head loop above live. turns_bounded frame.node s.facts.turns s.facts.live s.graph.heads endless k head loop.0 above live loop.1) each_turns
        (length s.facts.stops) frame.node (edges_in s (length s.facts.stops) frame) p.to p.leads (omega arith) (omega arith) (omega (arith, p.weighs, small))) in
        (c.weighs, inl (suc (length s.facts.stops), c.worst))

    by_known : (o : Option ℕ) (bound : ℕ) → best_at frame.node (table_in s (length s.facts.stops) frame) frame.node ≡ o → or_nought o ≡ bound → bound ≤ 1000000000000000 → Result picked_choice bound
    by_known None bound e same small = subst (Result picked_choice) same (cut_off e)
    by_known (Some known) bound e same small = subst (Result picked_choice) same (led_on known e (omega (arith, same, small)))

  pub result : EachTurns s → (choice : Choice) (bound : ℕ) → bound_from s.graph s.weights s.facts.turns s.facts.live s.facts.stops frame ≡ At bound → choice_at s.graph s.weights s.facts frame ≡ choice → Result choice bound
  unfolding picked_choice
  result each_turns choice bound b c =
      let t = bound_tells s frame bound b in
      subst (λ (x : Choice). Result x bound) (sym (choice_is s frame) ∙ c)
      (by_known each_turns t.0 (best_at frame.node (table_in s (length s.facts.stops) frame) frame.node) bound refl (sym (weight_is s frame) ∙ t.1) t.2)

from_is : (s : Setting) (frame : Head) (bound : ℕ) → slice_get s.graph.heads 0 ≡ Some frame → frame_bound s.graph s.weights s.facts.turns s.facts.live s.facts.stops ≡ At bound → bound_from s.graph s.weights s.facts.turns s.facts.live s.facts.stops frame ≡ At bound
from_is s frame bound at b = sym (ap (bound_at s.graph s.weights s.facts.turns s.facts.live s.facts.stops) at) ∙ b

-- a bound that is a number is at most 10^15
pub bound_small : (s : Setting) (frame : Head) (bound : ℕ) → slice_get s.graph.heads 0 ≡ Some frame → frame_bound s.graph s.weights s.facts.turns s.facts.live s.facts.stops ≡ At bound → bound ≤ 1000000000000000
bound_small s frame bound at b = (bound_tells s frame bound (from_is s frame bound at b)).2

-- each live loop behind the frame head has a bound on its turns
pub bounded_by : (s : Setting) (frame : Head) (bound : ℕ) → slice_get s.graph.heads 0 ≡ Some frame → frame_bound s.graph s.weights s.facts.turns s.facts.live s.facts.stops ≡ At bound → (k : ℕ) (head : Head) → IsLoop s k head → frame.node < head.node → IsLive s head.entry → ((n : ℕ) × (get_or s.facts.turns k None ≡ Some n))
bounded_by s frame bound at b k head loop above live =
    turns_bounded frame.node s.facts.turns s.facts.live s.graph.heads (bound_tells s frame bound (from_is s frame bound at b)).0 k head loop.0 above live loop.1

pub gives_the_worst : GivesTheWorst
gives_the_worst s frame choice bound laid counted each_turns at b w =
    result s frame laid counted at each_turns choice bound (from_is s frame bound at b) (same_Some (choice_at s.graph s.weights s.facts frame) choice choice_given)
  where
    choice_given : Some (choice_at s.graph s.weights s.facts frame) ≡ Some choice
    choice_given =
        sym (ap (λ (o : Option Head). Some (choice_behind s.graph s.weights s.facts o)) at)
        ∙ sym (ap (with_bound s.graph s.weights s.facts) b) ∙ w
