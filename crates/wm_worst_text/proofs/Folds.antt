-- The times and the turns of a choice by those of the choices in it.
use Rattle.std.proofs.Common.{◌≡◌, ◌≢◌, Bool, true, false, ℕ, suc, ◌+◌, ◌*◌, ◌<◌, ◌≤◌, List, [], ◌∷◌, length, get_or, map, drop, Option, Some, None, refl, ap, sym, ◌∙◌, arith}
use Rattle.std.specs.Prelude.{◌==◌, if◌then◌else◌, slice_get}
use Rattle.std.proofs.lemmas.Bool.Decides.{nat_tests}
use Rattle.std.proofs.lemmas.List.{at_drop_all, drop_more}
use Rattle.wm_ops.specs.declared.words.Counted.{Counted}
use Rattle.wm_flow.specs.declared.graph.Edge.{Edge}
use Rattle.wm_ways.specs.Numbers.{cut}
use Rattle.wm_path.specs.declared.choice.Body.{Body}
use Rattle.wm_path.specs.declared.choice.Choice.{Choice}
use Rattle.wm_path.specs.declared.choice.Choice.TheViews.{out-Choice}
use Rattle.wm_path.specs.declared.choice.Choice.TheFolds.{fold_out-Choice}
use Rattle.wm_worst_text.specs.Times.{once, or_else, word_in, times_on, times_around, times_step, times_of, turns_among, turns_step, turns_of}
use Rattle.wm_worst_text.proofs.Cuts.{cut_again, cut_left, cut_right, cut_turns, settled}

abbrev pub counted : List Edge → Counted → Body Choice → Body ℕ
counted edges word body = record { head = body.head; turns = body.turns; choice = times_of edges word body.choice }

abbrev pub turning : ℕ → Body Choice → Body (Option ℕ)
turning head body = record { head = body.head; turns = body.turns; choice = turns_of head body.choice }

pub times_out : (edges : List Edge) (word : Counted) (choice : Choice) → times_of edges word choice ≡ times_on edges word (out-Choice choice).edges + times_around (map (counted edges word) (out-Choice choice).bodies)
times_out edges word choice = fold_out-Choice ℕ (times_step edges word) choice

pub turns_out : (head : ℕ) (choice : Choice) → turns_of head choice ≡ turns_among head (map (turning head) (out-Choice choice).bodies)
turns_out head choice = fold_out-Choice (Option ℕ) (turns_step head) choice

-- one body more
pub one_body : (times turns inner rest : ℕ) → cut (cut (times + cut (turns * cut inner)) + rest) ≡ cut (times + (turns * inner + rest))
one_body times turns inner rest =
    let grouped : (times + turns * inner) + rest ≡ times + (turns * inner + rest) = omega arith in
    ap (λ (n : ℕ). cut (cut (times + n) + rest)) (cut_turns turns inner)
    ∙ ap (λ (n : ℕ). cut (n + rest)) (cut_right times (turns * inner))
    ∙ cut_left (times + turns * inner) rest ∙ ap cut grouped

pub body_turn : (edges : List Edge) (word : Counted) (bodies : List (Body Choice)) (i times new inner turned : ℕ) (body : Body Choice) (whole : ℕ) → i < length bodies → body ≡ get_or bodies i body → inner ≡ cut (times_of edges word body.choice) → turned ≡ cut (body.turns * inner) → new ≡ cut (times + turned)
    → cut (times + times_around (map (counted edges word) (drop i bodies))) ≡ whole → cut (new + times_around (map (counted edges word) (drop (i + 1) bodies))) ≡ whole
body_turn edges word bodies i times new inner turned body whole within is one many grown before =
    let rest : ℕ = times_around (map (counted edges word) (drop (i + 1) bodies)) in
    let split : drop i bodies ≡ body ∷ drop (i + 1) bodies = drop_more bodies i body within ∙ ap (λ x. x ∷ drop (i + 1) bodies) (sym is) in
    ap (λ (n : ℕ). cut (n + rest)) (grown ∙ ap (λ (n : ℕ). cut (times + n)) (many ∙ ap (λ (n : ℕ). cut (body.turns * n)) one))
    ∙ one_body times body.turns (times_of edges word body.choice) rest
    ∙ sym (ap (λ xs. cut (times + times_around (map (counted edges word) xs))) split) ∙ before

pub same_again : (n new : ℕ) → new ≡ cut n → cut new ≡ new
same_again n new e = ap cut e ∙ cut_again n ∙ sym e

-- one edge more
pub edge_turn : (edges : List Edge) (word : Counted) (numbers : List ℕ) (i times new one number whole : ℕ) → i < length numbers → number ≡ get_or numbers i number → one ≡ once word (word_in (slice_get edges number)) → new ≡ cut (times + one)
    → cut (times + times_on edges word (drop i numbers)) ≡ whole → cut (new + times_on edges word (drop (i + 1) numbers)) ≡ whole
edge_turn edges word numbers i times new one number whole within is told grown before =
    let rest : ℕ = times_on edges word (drop (i + 1) numbers) in
    let split : drop i numbers ≡ number ∷ drop (i + 1) numbers = drop_more numbers i number within ∙ ap (λ x. x ∷ drop (i + 1) numbers) (sym is) in
    let grouped : (times + one) + rest ≡ times + (one + rest) = omega arith in
    ap (λ (n : ℕ). cut (n + rest)) grown ∙ cut_left (times + one) rest ∙ ap cut grouped
    ∙ ap (λ (n : ℕ). cut (times + (n + rest))) told
    ∙ sym (ap (λ xs. cut (times + times_on edges word xs)) split) ∙ before

pub edges_end : (edges : List Edge) (word : Counted) (numbers : List ℕ) (i times whole : ℕ) → length numbers ≤ i → cut times ≡ times → cut (times + times_on edges word (drop i numbers)) ≡ whole → times ≡ whole
edges_end edges word numbers i times whole past same h =
    settled times (times_on edges word (drop i numbers)) whole same (at_drop_all (times_on edges word) numbers i past) h

pub bodies_begin : (edges : List Edge) (word : Counted) (choice : Choice) (times : ℕ) → times ≡ cut (times_on edges word (out-Choice choice).edges) → cut (times + times_around (map (counted edges word) (out-Choice choice).bodies)) ≡ cut (times_of edges word choice)
bodies_begin edges word choice times e =
    let rest : ℕ = times_around (map (counted edges word) (out-Choice choice).bodies) in
    ap (λ (n : ℕ). cut (n + rest)) e ∙ cut_left (times_on edges word (out-Choice choice).edges) rest ∙ ap cut (sym (times_out edges word choice))

pub bodies_end : (edges : List Edge) (word : Counted) (bodies : List (Body Choice)) (i times whole : ℕ) → length bodies ≤ i → cut times ≡ times → cut (times + times_around (map (counted edges word) (drop i bodies))) ≡ whole → times ≡ whole
bodies_end edges word bodies i times whole past same h =
    settled times (times_around (map (counted edges word) (drop i bodies))) whole same (at_drop_all (λ xs. times_around (map (counted edges word) xs)) bodies i past) h

-- ---- turns

apart_is : (a b : ℕ) → a ≢ b → (a == b) ≡ false
apart_is a b ne = grind (arith, nat_tests)

same_is : (a b : ℕ) → a ≡ b → (a == b) ≡ true
same_is a b e = grind (arith, nat_tests)

module _ (head : ℕ) (bodies : List (Body Choice)) (i : ℕ) (body : Body Choice) (whole : Option ℕ) (within : i < length bodies) (is : body ≡ get_or bodies i body) (before : turns_among head (map (turning head) (drop i bodies)) ≡ whole) where
  next : (if body.head == head then Some body.turns else or_else (turns_of head body.choice) (turns_among head (map (turning head) (drop (i + 1) bodies)))) ≡ whole
  next =
      let split : drop i bodies ≡ body ∷ drop (i + 1) bodies = drop_more bodies i body within ∙ ap (λ x. x ∷ drop (i + 1) bodies) (sym is) in
      sym (ap (λ xs. turns_among head (map (turning head) xs)) split) ∙ before

  pub head_found : body.head ≡ head → Some body.turns ≡ whole
  head_found e =
      sym (ap (λ (b : Bool). if b then Some body.turns else or_else (turns_of head body.choice) (turns_among head (map (turning head) (drop (i + 1) bodies)))) (same_is body.head head e)) ∙ next

  beyond : body.head ≢ head → or_else (turns_of head body.choice) (turns_among head (map (turning head) (drop (i + 1) bodies))) ≡ whole
  beyond ne =
      sym (ap (λ (b : Bool). if b then Some body.turns else or_else (turns_of head body.choice) (turns_among head (map (turning head) (drop (i + 1) bodies)))) (apart_is body.head head ne)) ∙ next

  pub inner_found : (turns : ℕ) → body.head ≢ head → turns_of head body.choice ≡ Some turns → Some turns ≡ whole
  inner_found turns ne e = sym (ap (λ (o : Option ℕ). or_else o (turns_among head (map (turning head) (drop (i + 1) bodies)))) e) ∙ beyond ne

  pub not_found : body.head ≢ head → turns_of head body.choice ≡ None → turns_among head (map (turning head) (drop (i + 1) bodies)) ≡ whole
  not_found ne e = sym (ap (λ (o : Option ℕ). or_else o (turns_among head (map (turning head) (drop (i + 1) bodies)))) e) ∙ beyond ne

pub none_found : (head : ℕ) (bodies : List (Body Choice)) (i : ℕ) (whole : Option ℕ) → length bodies ≤ i → turns_among head (map (turning head) (drop i bodies)) ≡ whole → None ≡ whole
none_found head bodies i whole past h = sym (at_drop_all (λ xs. turns_among head (map (turning head) xs)) bodies i past) ∙ h
