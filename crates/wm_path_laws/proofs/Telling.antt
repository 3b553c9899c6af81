-- What the bound of a frame tells of all choices.
use Rattle.std.proofs.Common.{◌≡◌, ℕ, zero, suc, ◌+◌, ◌<◌, ◌≤◌, ◌⊎◌, inl, inr, ⊎_elim, Bool, true, false, List, [], ◌∷◌, length, get_or, drop, min, Option, Some, None, refl, ap, sym, ◌∙◌, subst, arith}
use Rattle.std.specs.Prelude.{slice_get, nat_le, nat_lt, ◌&&◌, if◌then◌else◌}
use Rattle.std.proofs.lemmas.Bool.{and_from, and_parts, leb-true, leb-false, lt-ltb, ltb-true, cases_lt}
use Rattle.std.proofs.lemmas.Option.{none-some, same_Some}
use Rattle.wm_cost.specs.Bounds.{bound_at, bound_from, bound_with, weight_from}
use Rattle.wm_cost.specs.Endless.{endless_at, endless_from, lesser, without_turns}
use Rattle.wm_flow.specs.declared.graph.Bound.TheVariants.{At, NoTrips, TooLarge}
use Rattle.wm_flow.specs.declared.graph.Head.{Head}
use Rattle.wm_ways.specs.Numbers.{cut, or_nought}
use Rattle.wm_ways.specs.Paths.{IsAtLeast}
use Rattle.wm_ways.specs.Sweeps.{best_at, ending_in}
use Rattle.wm_path.specs.Bodies.{choice_with}
use Rattle.wm_path.specs.declared.choice.Choice.{Choice}
use Rattle.wm_path.specs.declared.choice.Choice.TheViews.{out-Choice}
use Rattle.wm_path_laws.specs.Bound.{IsEndless, IsGreatestWeight, NoneLeads, SomeWeighs, Tells, TellsTheBound}
use Rattle.wm_path_laws.specs.Choices.{IsChoice, IsLaidOut, Setting, Leads, weight_of}
use Rattle.wm_path_laws.specs.Worst.{IsEndOf}
use Rattle.wm_path_laws.proofs.Chosen.{weight_with}
use Rattle.wm_path_laws.proofs.Cuts.{cut_above, cut_is}
use Rattle.wm_path_laws.proofs.Given.{ends_in, onward, part_of, table_in, weight_is}
use Rattle.wm_path_laws.proofs.Having.{lists_have, with_turns}
use Rattle.wm_path_laws.proofs.Leading.{way_weight}
use Rattle.wm_path_laws.proofs.Loops.{added, firsts}
use Rattle.wm_path_laws.proofs.Marks.{turns_bounded}
use Rattle.wm_path_laws.proofs.Others.{below}
use Rattle.wm_path_laws.proofs.Routes.{at_least, leads_on}
use Rattle.wm_path_laws.proofs.Tables.{uncut}

-- ---- loops without a bound on their turns

abbrev EndlessAt : (start : ℕ) → List (Option ℕ) → List Bool → (number : ℕ) → List Head → (k loop_id : ℕ) → Type 0
EndlessAt start turns live number heads k loop_id =
    (head : Head) × (slice_get heads k ≡ Some head) × (endless_at start live (get_or turns (number + k) None) head ≡ Some loop_id)

lesser_some : (a b : Option ℕ) (m : ℕ) → lesser a b ≡ Some m → (a ≡ Some m) ⊎ (b ≡ Some m)
lesser_some None b m e = inr e
lesser_some (Some a) None m e = inl e
lesser_some (Some a) (Some b) m e =
    let is : min a b ≡ m = same_Some (min a b) m e in
    ⊎_elim (λ (h : a < b). let same : a ≡ m = omega (arith, h, is) in inl (ap Some same))
    (λ (h : b ≤ a). let same : b ≡ m = omega (arith, h, is) in inr (ap Some same)) (cases_lt a b)

-- the lesser is there where one of both is, and at most each
lesser_first : (a b : Option ℕ) (n : ℕ) → a ≡ Some n → ((m : ℕ) × (lesser a b ≡ Some m) × (m ≤ n))
lesser_first None b n e = absurd (none-some n e)
lesser_first (Some a) None n e = let same : a ≡ n = same_Some a n e in (a, refl, omega (arith, same))
lesser_first (Some a) (Some b) n e = let same : a ≡ n = same_Some a n e in (min a b, refl, omega (arith, same))

lesser_second : (a b : Option ℕ) (n : ℕ) → b ≡ Some n → ((m : ℕ) × (lesser a b ≡ Some m) × (m ≤ n))
lesser_second None None n e = absurd (none-some n e)
lesser_second None (Some b) n e = let same : b ≡ n = same_Some b n e in (b, refl, omega (arith, same))
lesser_second (Some a) None n e = absurd (none-some n e)
lesser_second (Some a) (Some b) n e = let same : b ≡ n = same_Some b n e in (min a b, refl, omega (arith, same))

-- what was found stays, or a lesser one
keeps : (start : ℕ) (turns : List (Option ℕ)) (live : List Bool) (number : ℕ) (heads : List Head) (found : Option ℕ) (n : ℕ) → found ≡ Some n → ((m : ℕ) × (endless_from start turns live number heads found ≡ Some m) × (m ≤ n))
keeps start turns live number [] found n e = (n, e, omega arith)
keeps start turns live number (head ∷ heads) found n e =
    let here = lesser_first found (endless_at start live (get_or turns number None) head) n e in
    let rest = keeps start turns live (suc number) heads (lesser found (endless_at start live (get_or turns number None) head)) here.0 here.1 in
    (rest.0, rest.1, omega (arith, rest.2, here.2))

finds : (start : ℕ) (turns : List (Option ℕ)) (live : List Bool) (number : ℕ) (heads : List Head) (found : Option ℕ) (k n : ℕ) → EndlessAt start turns live number heads k n → ((m : ℕ) × (endless_from start turns live number heads found ≡ Some m) × (m ≤ n))
finds start turns live number [] found k n at = absurd (none-some at.0 at.1)
finds start turns live number (head ∷ heads) found zero n at =
    let same : number ≡ number + 0 = omega arith in
    let is : endless_at start live (get_or turns number None) head ≡ Some n =
    ap (λ (j : ℕ). endless_at start live (get_or turns j None) head) same ∙ ap (endless_at start live (get_or turns (number + 0) None)) (same_Some head at.0 at.1) ∙ at.2 in
    let here = lesser_second found (endless_at start live (get_or turns number None) head) n is in
    let rest = keeps start turns live (suc number) heads (lesser found (endless_at start live (get_or turns number None) head)) here.0 here.1 in
    (rest.0, rest.1, omega (arith, rest.2, here.2))
finds start turns live number (head ∷ heads) found (suc k) n at =
    let same : suc number + k ≡ number + suc k = omega arith in
    finds start turns live (suc number) heads (lesser found (endless_at start live (get_or turns number None) head)) k n
    (at.0, at.1, ap (λ (j : ℕ). endless_at start live (get_or turns j None) at.0) same ∙ at.2)

is_found : (start : ℕ) (turns : List (Option ℕ)) (live : List Bool) (number : ℕ) (heads : List Head) (found : Option ℕ) (m : ℕ) → endless_from start turns live number heads found ≡ Some m → (found ≡ Some m) ⊎ ((k : ℕ) × EndlessAt start turns live number heads k m)
is_found start turns live number [] found m e = inl e
is_found start turns live number (head ∷ heads) found m e =
    ⊎_elim
    (λ (h : lesser found (endless_at start live (get_or turns number None) head) ≡ Some m).
    ⊎_elim (λ (f : found ≡ Some m). inl f)
    (λ (g : endless_at start live (get_or turns number None) head ≡ Some m).
    let same : number + 0 ≡ number = omega arith in
    inr (0, (head, refl, ap (λ (j : ℕ). endless_at start live (get_or turns j None) head) same ∙ g)))
    (lesser_some found (endless_at start live (get_or turns number None) head) m h))
    (λ (h : (k : ℕ) × EndlessAt start turns live (suc number) heads k m).
    let same : number + suc h.0 ≡ suc number + h.0 = omega arith in
    inr (suc h.0, (h.1.0, h.1.1, ap (λ (j : ℕ). endless_at start live (get_or turns j None) h.1.0) same ∙ h.1.2)))
    (is_found start turns live (suc number) heads (lesser found (endless_at start live (get_or turns number None) head)) m e)

none_turns : (loop_id turns : Option ℕ) (m : ℕ) → without_turns loop_id turns ≡ Some m → (loop_id ≡ Some m) × (turns ≡ None)
none_turns loop_id None m e = (e, refl)
none_turns loop_id (Some n) m e = absurd (none-some m e)

by_test : (b : Bool) (o : Option ℕ) (m : ℕ) → (if b then o else None) ≡ Some m → (b ≡ true) × (o ≡ Some m)
by_test true o m e = (refl, e)
by_test false o m e = absurd (none-some m e)

endless_tells : (start : ℕ) (live : List Bool) (turns : Option ℕ) (head : Head) (m : ℕ) → endless_at start live turns head ≡ Some m → (start < head.node) × (get_or live head.entry false ≡ true) × (head.loop_id ≡ Some m) × (turns ≡ None)
unfolding endless_at
endless_tells start live turns head m e =
    let t = by_test (nat_lt start head.node && get_or live head.entry false) (without_turns head.loop_id turns) m e in
    let p = and_parts (nat_lt start head.node) (get_or live head.entry false) t.0 in
    let n = none_turns head.loop_id turns m t.1 in
    (ltb-true start head.node p.0, p.1, n.0, n.1)

endless_is : (start : ℕ) (live : List Bool) (turns : Option ℕ) (head : Head) (m : ℕ) → start < head.node → get_or live head.entry false ≡ true → head.loop_id ≡ Some m → turns ≡ None → endless_at start live turns head ≡ Some m
unfolding endless_at
endless_is start live turns head m h l i t =
    ap (λ (b : Bool). if b then without_turns head.loop_id turns else None) (and_from (nat_lt start head.node) (get_or live head.entry false) (lt-ltb start head.node h) l)
    ∙ ap (without_turns head.loop_id) t ∙ i

module _ (s : Setting) (frame : Head) where
  at_place : (k : ℕ) (head : Head) (loop_id : ℕ) → IsEndless s frame k head loop_id → EndlessAt frame.node s.facts.turns s.facts.live 0 s.graph.heads k loop_id
  at_place k head loop_id is =
      let same : 0 + k ≡ k = omega arith in
      (head, is.0, endless_is frame.node s.facts.live (get_or s.facts.turns (0 + k) None) head loop_id is.2 is.3 is.1 (ap (λ (j : ℕ). get_or s.facts.turns j None) same ∙ is.4))

  none_endless : endless_from frame.node s.facts.turns s.facts.live 0 s.graph.heads None ≡ None → (k : ℕ) (head : Head) (loop_id : ℕ) → IsEndless s frame k head loop_id → ⊥
  none_endless none k head loop_id is =
      let f = finds frame.node s.facts.turns s.facts.live 0 s.graph.heads None k loop_id (at_place k head loop_id is) in
      none-some f.0 (sym none ∙ f.1)

  first_endless : (loop_id : ℕ) → endless_from frame.node s.facts.turns s.facts.live 0 s.graph.heads None ≡ Some loop_id → Tells s frame (NoTrips loop_id)
  first_endless loop_id some = (one, least)
    where
      one : (k : ℕ) × (head : Head) × IsEndless s frame k head loop_id
      one =
          ⊎_elim (λ (e : None ≡ Some loop_id). absurd (none-some loop_id e))
          (λ (f : (k : ℕ) × EndlessAt frame.node s.facts.turns s.facts.live 0 s.graph.heads k loop_id).
          let t = endless_tells frame.node s.facts.live (get_or s.facts.turns (0 + f.0) None) f.1.0 loop_id f.1.2 in
          let same : f.0 ≡ 0 + f.0 = omega arith in
          (f.0, f.1.0, (f.1.1, t.2, t.0, t.1, ap (λ (j : ℕ). get_or s.facts.turns j None) same ∙ t.3)))
          (is_found frame.node s.facts.turns s.facts.live 0 s.graph.heads None loop_id some)

      least : (k : ℕ) (head : Head) (other : ℕ) → IsEndless s frame k head other → loop_id ≤ other
      least k head other is =
          let f = finds frame.node s.facts.turns s.facts.live 0 s.graph.heads None k other (at_place k head other is) in
          let same : f.0 ≡ loop_id = same_Some f.0 loop_id (sym f.1 ∙ some) in
          omega (arith, f.2, same)

-- ---- the weight

within_limit : (w v : ℕ) → cut w ≤ v → v ≤ 1000000000000000 → w ≤ v
within_limit w v h small =
    let l : min w 1000000000000001 ≤ v = subst (λ (n : ℕ). n ≤ v) (cut_is w) h in omega (arith, l, small)

module _ (s : Setting) (frame : Head) (laid : IsLaidOut s.graph) (counted : length s.facts.stops ≡ length s.graph.node_shape) (at : slice_get s.graph.heads 0 ≡ Some frame) where
  -- each list of edges to an end weighs at most what is known, when it is cut
  list_least : (way : List ℕ) (end : ℕ) → IsEndOf s frame end → Leads s frame.node way end → IsAtLeast (cut (way_weight (added s (length s.facts.stops)) s way)) (best_at frame.node (table_in s (length s.facts.stops) frame) frame.node)
  list_least way end is l =
      at_least s laid (added s (length s.facts.stops)) frame.node (IsEndOf s frame) (get_or (firsts s (length s.facts.stops)) frame.node 0) (part_of s (length s.facts.stops) frame) (ending_in (drop frame.node (ends_in s frame))) (onward s frame laid counted at) way end is l

  choice_least : (v : ℕ) → best_at frame.node (table_in s (length s.facts.stops) frame) frame.node ≡ Some v → v ≤ 1000000000000000 → (choice : Choice) (end : ℕ) → IsEndOf s frame end → IsChoice s frame.node end choice → weight_of s choice ≤ v
  choice_least v e small choice end is c =
      let b = below s (length s.facts.stops) laid counted c.0 frame.node end choice c.1 in
      let l : cut (way_weight (added s (length s.facts.stops)) s (out-Choice choice).edges) ≤ v = subst (IsAtLeast (cut (way_weight (added s (length s.facts.stops)) s (out-Choice choice).edges))) e (list_least (out-Choice choice).edges end is b.1) in
      within_limit (weight_of s choice) v (omega (arith, b.0, l)) small

  none_leads : best_at frame.node (table_in s (length s.facts.stops) frame) frame.node ≡ None → NoneLeads s frame
  none_leads none way end is l = subst (IsAtLeast (cut (way_weight (added s (length s.facts.stops)) s way))) none (list_least way end is l)

  none_chosen : best_at frame.node (table_in s (length s.facts.stops) frame) frame.node ≡ None → (choice : Choice) (end : ℕ) → IsEndOf s frame end → IsChoice s frame.node end choice → ⊥
  none_chosen none choice end is c = none_leads none (out-Choice choice).edges end is (below s (length s.facts.stops) laid counted c.0 frame.node end choice c.1).1

  module _ (no_endless : endless_from frame.node s.facts.turns s.facts.live 0 s.graph.heads None ≡ None) where
    -- some choice weighs what is known, when it is cut
    attained : (v : ℕ) → best_at frame.node (table_in s (length s.facts.stops) frame) frame.node ≡ Some v → SomeWeighs s frame (λ weight. cut weight ≡ v)
    attained v e =
        let way = leads_on s laid (added s (length s.facts.stops)) frame.node (IsEndOf s frame) (get_or (firsts s (length s.facts.stops)) frame.node 0) (part_of s (length s.facts.stops) frame) (ending_in (drop frame.node (ends_in s frame))) (onward s frame laid counted at) v e in
        let all = lists_have s (length s.facts.stops) laid counted frame.node
        (λ k head loop above live. turns_bounded frame.node s.facts.turns s.facts.live s.graph.heads no_endless k head loop.0 above live loop.1)
        (length s.facts.stops) frame.node way.0 way.1 way.3 (omega arith) (omega arith) in (
          choice_with way.0 all.0,
          way.1,
          way.2,
          (
            suc (length s.facts.stops),
            with_turns s (length s.facts.stops) laid counted frame.node
                (λ k head loop above live. turns_bounded frame.node s.facts.turns s.facts.live s.graph.heads no_endless k head loop.0 above live loop.1)
                (length s.facts.stops) frame.node way.0 way.1 all.0 way.3 all.1,
          ),
          ap cut (weight_with s way.0 all.0) ∙ all.2 ∙ way.4,
        )

    greatest_by : (o : Option ℕ) (bound : ℕ) → best_at frame.node (table_in s (length s.facts.stops) frame) frame.node ≡ o → or_nought o ≡ bound → bound ≤ 1000000000000000 → IsGreatestWeight s frame bound
    greatest_by None bound e same small = ((λ choice end is c. absurd (none_chosen e choice end is c)), inr (none_leads e, sym same))
    greatest_by (Some v) bound e same small =
        let c = attained v e in (
          (λ choice end is c'. let l : weight_of s choice ≤ v = choice_least v e (omega (arith, same, small)) choice end is c' in omega (arith, l, same)),
          inl (c.0, c.1, c.2, c.3, uncut (weight_of s c.0) v (omega (arith, same, small)) c.4 ∙ same),
        )

    large_by : (o : Option ℕ) → best_at frame.node (table_in s (length s.facts.stops) frame) frame.node ≡ o → 1000000000000000 < or_nought o → SomeWeighs s frame (λ weight. 1000000000000000 < weight)
    large_by None e h = absurd (omega (arith, h))
    large_by (Some v) e h =
        let c = attained v e in
        (c.0, c.1, c.2, c.3, cut_above (weight_of s c.0) (omega (arith, c.4, h)))

    by_size : (weight : ℕ) → weight ≡ or_nought (best_at frame.node (table_in s (length s.facts.stops) frame) frame.node) → (b : Bool) → nat_le weight 1000000000000000 ≡ b → Tells s frame (if b then At weight else TooLarge)
    by_size weight is true t =
        let small : weight ≤ 1000000000000000 = leb-true weight 1000000000000000 t in
        (greatest_by (best_at frame.node (table_in s (length s.facts.stops) frame) frame.node) weight refl (sym is) small, small, none_endless s frame no_endless)
    by_size weight is false t =
        let large : 1000000000000000 < weight = leb-false weight 1000000000000000 t in
        (large_by (best_at frame.node (table_in s (length s.facts.stops) frame) frame.node) refl (omega (arith, large, is)), none_endless s frame no_endless)

  by_endless : (o : Option ℕ) → endless_from frame.node s.facts.turns s.facts.live 0 s.graph.heads None ≡ o → Tells s frame (bound_with o (weight_from s.graph s.weights s.facts.turns s.facts.live s.facts.stops frame))
  by_endless (Some loop_id) e = first_endless s frame loop_id e
  by_endless None e =
      by_size e (weight_from s.graph s.weights s.facts.turns s.facts.live s.facts.stops frame) (weight_is s frame) (nat_le (weight_from s.graph s.weights s.facts.turns s.facts.live s.facts.stops frame) 1000000000000000) refl

  pub tells_from : Tells s frame (bound_from s.graph s.weights s.facts.turns s.facts.live s.facts.stops frame)
  unfolding bound_from
  tells_from = by_endless (endless_from frame.node s.facts.turns s.facts.live 0 s.graph.heads None) refl

pub tells_the_bound : TellsTheBound
tells_the_bound s frame laid counted at =
    subst (λ (o : Option Head). Tells s frame (bound_at s.graph s.weights s.facts.turns s.facts.live s.facts.stops o)) (sym at) (tells_from s frame laid counted at)
