-- The times of the words by their weights add up to the weight of a choice.
use Rattle.std.proofs.Common.{◌≡◌, ◌≢◌, ℕ, zero, suc, ◌+◌, ◌-◌, ◌*◌, ◌<◌, ◌≤◌, ⊎_elim, Bool, true, false, List, [], ◌∷◌, map, Option, Some, None, refl, ap, sym, ◌∙◌, subst, arith}
use Rattle.std.specs.Prelude.{slice_get, ◌&&◌, ◌==◌, nat_lt, if◌then◌else◌}
use Rattle.std.proofs.lemmas.Bool.{cases_lt, le-ltb, ltb-false}
use Rattle.std.proofs.lemmas.Bool.Decides.{nat_tests}
use Rattle.std.proofs.lemmas.Option.{slice_get_within}
use Rattle.wm_ops.proofs.NumberLemmas.{word_placed}
use Rattle.wm_ops.specs.declared.words.Counted.{Counted}
use Rattle.std.specs.Option.{option_map}
use Rattle.wm_ops.specs.declared.words.Counted.TheVariants.{Operator}
use Rattle.wm_ops.specs.Operators.{op_numbered}
use Rattle.wm_ops.specs.Words.{other_words, word_number_of, word_numbered}
use Rattle.wm_cost.specs.Edges.{word_weight}
use Rattle.wm_flow.specs.declared.graph.Edge.{Edge}
use Rattle.wm_path.specs.declared.choice.Body.{Body}
use Rattle.wm_path.specs.declared.choice.Choice.{Choice}
use Rattle.wm_path.specs.declared.choice.Choice.TheOpen.{Choice-F}
use Rattle.wm_path.specs.declared.choice.Choice.TheViews.{out-Choice, out-roll-Choice, roll-Choice}
use Rattle.wm_path.specs.declared.choice.Choice.TheFolds.{ind-Choice}
use Rattle.wm_path_laws.specs.Choices.{Setting, edge_weight, edges_weight, turns_weight, word_in as word_at, weight_of as choice_weight}
use Rattle.wm_path_laws.proofs.Given.{bound_small, gives_the_worst}
use Rattle.wm_path_laws.proofs.Others.{weight_out, weighed}
use Rattle.wm_path_laws.proofs.Tables.{cut_small}
use Rattle.wm_ways.specs.Numbers.{cut, or_nought}
use Rattle.wm_weights.specs.Table.{weight_of}
use Rattle.wm_worst_text.specs.Times.{once, word_in, times_on, times_around, times_of}
use Rattle.wm_worst_text.proofs.Folds.{counted, times_out}
use Rattle.wm_worst_laws.specs.Sums.{MakesTheBound, NoneIsCut, TimesAddUp, product, product_of, products}
use Rattle.wm_worst_laws.proofs.Totals.{part_least, total, total_add, total_none, total_one, total_same, total_suc, total_times, total_zero}

-- ---- the words

-- a number for each word
abbrev Each : (Counted → ℕ) → Option Counted → ℕ
Each f None = 0
Each f (Some word) = f word

abbrev sum : (Counted → ℕ) → ℕ
sum f = total (λ k. Each f (word_numbered k)) 48

word_small : (word : Counted) → word_number_of word < 48
word_small word =
    ⊎_elim (λ (h : word_number_of word < 48). h)
    (λ (h : 48 ≤ word_number_of word).
    let at : word_numbered (word_number_of word) ≡ Some word = (word_placed (word_number_of word) (word_numbered (word_number_of word)) refl word).1 refl in
    let high : 36 ≤ word_number_of word = omega (arith, h) in
    let other : slice_get other_words (word_number_of word - 36) ≡ Some word = sym (beyond (word_number_of word) high) ∙ at in
    let inside : word_number_of word - 36 < 12 = slice_get_within other_words (word_number_of word - 36) word other in
    absurd (omega (arith, inside, h)))
    (cases_lt (word_number_of word) 48)
  where
    beyond : (k : ℕ) → 36 ≤ k → word_numbered k ≡ slice_get other_words (k - 36)
    beyond k h = ap (λ (b : Bool). if b then option_map (λ op. Operator op) (op_numbered k) else slice_get other_words (k - 36)) (le-ltb k 36 h)

sum_add : (f g h : Counted → ℕ) → ((word : Counted) → f word ≡ g word + h word) → sum f ≡ sum g + sum h
sum_add f g h same =
    total_add (λ k. Each f (word_numbered k)) (λ k. Each g (word_numbered k)) (λ k. Each h (word_numbered k)) 48 (λ k. each (word_numbered k))
  where
    each : (o : Option Counted) → Each f o ≡ Each g o + Each h o
    each None = omega arith
    each (Some word) = same word

sum_times : (f g : Counted → ℕ) (m : ℕ) → ((word : Counted) → f word ≡ m * g word) → sum f ≡ m * sum g
sum_times f g m same = total_times (λ k. Each f (word_numbered k)) (λ k. Each g (word_numbered k)) m 48 (λ k. each (word_numbered k))
  where
    each : (o : Option Counted) → Each f o ≡ m * Each g o
    each None = omega arith
    each (Some word) = same word

sum_none : (f : Counted → ℕ) → ((word : Counted) → f word ≡ 0) → sum f ≡ 0
sum_none f none = total_none (λ k. Each f (word_numbered k)) 48 (λ k. each (word_numbered k))
  where
    each : (o : Option Counted) → Each f o ≡ 0
    each None = refl
    each (Some word) = none word

sum_one : (f : Counted → ℕ) (word : Counted) → ((other : Counted) → word_number_of other ≢ word_number_of word → f other ≡ 0) → sum f ≡ f word
sum_one f word none =
    total_one (λ k. Each f (word_numbered k)) (word_number_of word) 48 (word_small word) (λ k ne. each k ne (word_numbered k) refl)
    ∙ ap (Each f) ((word_placed (word_number_of word) (word_numbered (word_number_of word)) refl word).1 refl)
  where
    each : (k : ℕ) → k ≢ word_number_of word → (o : Option Counted) → o ≡ word_numbered k → Each f o ≡ 0
    each k ne None e = refl
    each k ne (Some other) e =
        let at : word_number_of other ≡ k = (word_placed k (Some other) e other).0 refl in
        none other (omega (arith, at, ne))

sum_part : (f : Counted → ℕ) (word : Counted) → f word ≤ sum f
sum_part f word =
    let at : word_numbered (word_number_of word) ≡ Some word = (word_placed (word_number_of word) (word_numbered (word_number_of word)) refl word).1 refl in
    subst (λ (n : ℕ). n ≤ sum f) (ap (Each f) at) (part_least (λ k. Each f (word_numbered k)) (word_number_of word) 48 (word_small word))

-- ---- a choice

same_number : (a b : ℕ) → a ≡ b → (a == b) ≡ true
same_number a b e = grind (arith, nat_tests)

other_number : (a b : ℕ) → a ≢ b → (a == b) ≡ false
other_number a b ne = grind (arith, nat_tests)

by_tests : (times weight : ℕ) (a b : Bool) → nat_lt 0 weight ≡ a → nat_lt 0 times ≡ b → (if a && b then times * weight else 0) ≡ times * weight
by_tests times weight false b p q = omega (arith, no_times times weight (omega (arith, ltb-false 0 weight p)))
  where
    no_times : (t w : ℕ) → w ≡ 0 → t * w ≡ 0
    no_times t w e = ap (λ (n : ℕ). t * n) e ∙ (let n : t * 0 ≡ 0 = omega arith in n)
by_tests times weight true false p q = omega (arith, no_times times weight (omega (arith, ltb-false 0 times q)))
  where
    no_times : (t w : ℕ) → t ≡ 0 → t * w ≡ 0
    no_times t w e = ap (λ (n : ℕ). n * w) e ∙ (let n : 0 * w ≡ 0 = omega arith in n)
by_tests times weight true true p q = refl

-- without a line the product is nothing
product_is : (times weight : ℕ) → product times weight ≡ times * weight
product_is times weight =
    by_tests times weight (nat_lt 0 weight) (nat_lt 0 times) refl refl

module _ (s : Setting) where
  in_all : Choice → Counted → ℕ
  in_all choice word = times_of s.graph.edges word choice * or_nought (weight_of s.weights word)

  on_one : Option Counted → Counted → ℕ
  on_one o word = once word o * or_nought (weight_of s.weights word)

  on_edges : List ℕ → Counted → ℕ
  on_edges numbers word = times_on s.graph.edges word numbers * or_nought (weight_of s.weights word)

  in_bodies : List (Body Choice) → Counted → ℕ
  in_bodies bodies word = times_around (map (counted s.graph.edges word) bodies) * or_nought (weight_of s.weights word)

  one_word : (o : Option Counted) → sum (on_one o) ≡ word_weight s.weights o
  unfolding on_one
  one_word None = sum_none (on_one None) (λ word. omega arith)
  one_word (Some counted) =
      sum_one (on_one (Some counted)) counted (λ other ne. ap (λ (b : Bool). (if b then 1 else 0) * or_nought (weight_of s.weights other)) (other_number (word_number_of counted) (word_number_of other) (λ e. ne (sym e))) ∙ nothing (or_nought (weight_of s.weights other)))
      ∙ ap (λ (b : Bool). (if b then 1 else 0) * or_nought (weight_of s.weights counted)) (same_number (word_number_of counted) (word_number_of counted) refl)
      ∙ once_more (or_nought (weight_of s.weights counted))
    where
      nothing : (n : ℕ) → 0 * n ≡ 0
      nothing n = omega arith

      once_more : (n : ℕ) → 1 * n ≡ n
      once_more n = omega arith

  all_edges : (numbers : List ℕ) → sum (on_edges numbers) ≡ edges_weight s numbers
  unfolding on_edges on_one
  all_edges [] = sum_none (on_edges []) (λ word. omega arith)
  all_edges (number ∷ numbers) =
      sum_add (on_edges (number ∷ numbers)) (on_one (word_in (slice_get s.graph.edges number))) (on_edges numbers)
      (λ word. apart (once word (word_in (slice_get s.graph.edges number))) (times_on s.graph.edges word numbers) (or_nought (weight_of s.weights word)))
      ∙ ap (λ (n : ℕ). n + sum (on_edges numbers)) (one_word (word_in (slice_get s.graph.edges number)) ∙ ap (word_weight s.weights) (same_word (slice_get s.graph.edges number)))
      ∙ ap (λ (n : ℕ). edge_weight s number + n) (all_edges numbers)
    where
      apart : (a b w : ℕ) → (a + b) * w ≡ a * w + b * w
      apart a b w = omega arith

      same_word : (o : Option Edge) → word_in o ≡ word_at o
      same_word None = refl
      same_word (Some edge) = refl

  AddsUp : Choice → Type 0
  AddsUp choice = sum (in_all choice) ≡ choice_weight s choice

  abbrev forget : Body ((choice : Choice) × AddsUp choice) → Body Choice
  forget body = record { head = body.head; turns = body.turns; choice = body.choice.0 }

  all_bodies : (bodies : List (Body ((choice : Choice) × AddsUp choice))) → sum (in_bodies (map forget bodies)) ≡ turns_weight (map (weighed s) (map forget bodies))
  unfolding in_bodies in_all AddsUp
  all_bodies [] = sum_none (in_bodies []) (λ word. omega arith)
  all_bodies (body ∷ bodies) =
      sum_add (in_bodies (map forget (body ∷ bodies))) (λ word. body.turns * in_all body.choice.0 word) (in_bodies (map forget bodies))
      (λ word. apart body.turns (times_of s.graph.edges word body.choice.0) (times_around (map (counted s.graph.edges word) (map forget bodies))) (or_nought (weight_of s.weights word)))
      ∙ ap (λ (n : ℕ). n + sum (in_bodies (map forget bodies))) (sum_times (λ word. body.turns * in_all body.choice.0 word) (in_all body.choice.0) body.turns (λ word. refl) ∙ ap (λ (n : ℕ). body.turns * n) body.choice.1)
      ∙ ap (λ (n : ℕ). body.turns * choice_weight s body.choice.0 + n) (all_bodies bodies)
    where
      apart : (t a b w : ℕ) → (t * a + b) * w ≡ t * (a * w) + b * w
      apart t a b w = grind arith

  by_parts : (choice : Choice) (bodies : List (Body ((choice : Choice) × AddsUp choice))) → map forget bodies ≡ (out-Choice choice).bodies → AddsUp choice
  unfolding in_all on_edges in_bodies AddsUp
  by_parts choice bodies is =
      sum_add (in_all choice) (on_edges (out-Choice choice).edges) (in_bodies (out-Choice choice).bodies)
      (λ word. ap (λ (n : ℕ). n * or_nought (weight_of s.weights word)) (times_out s.graph.edges word choice)
      ∙ apart (times_on s.graph.edges word (out-Choice choice).edges) (times_around (map (counted s.graph.edges word) (out-Choice choice).bodies)) (or_nought (weight_of s.weights word)))
      ∙ ap (λ (n : ℕ). n + sum (in_bodies (out-Choice choice).bodies)) (all_edges (out-Choice choice).edges)
      ∙ ap (λ (n : ℕ). edges_weight s (out-Choice choice).edges + n) (subst (λ (bs : List (Body Choice)). sum (in_bodies bs) ≡ turns_weight (map (weighed s) bs)) is (all_bodies bodies))
      ∙ sym (weight_out s choice)
    where
      apart : (a b w : ℕ) → (a + b) * w ≡ a * w + b * w
      apart a b w = omega arith

  adds_up : (choice : Choice) → AddsUp choice
  adds_up = ind-Choice AddsUp (λ x y is.
      by_parts (roll-Choice x) y.bodies (ap (λ (z : Choice-F Choice). z.bodies) is ∙ ap (λ (z : Choice-F Choice). z.bodies) (sym (out-roll-Choice x))))

  -- ---- what is printed

  none_is_cut : (choice : Choice) → choice_weight s choice ≤ 1000000000000000 → NoneIsCut s.graph.edges s.weights choice
  unfolding AddsUp in_all
  none_is_cut choice small word weighs =
      let part : times_of s.graph.edges word choice * or_nought (weight_of s.weights word) ≤ choice_weight s choice =
      subst (λ (n : ℕ). times_of s.graph.edges word choice * or_nought (weight_of s.weights word) ≤ n) (adds_up choice) (sum_part (in_all choice) word) in
      uncut_times (times_of s.graph.edges word choice) (or_nought (weight_of s.weights word)) weighs (omega (arith, part, small))
    where
      at_most : (t w : ℕ) → 0 < w → t ≤ t * w
      at_most t zero h = absurd (omega (arith, h))
      at_most t (suc w) h = omega arith

      uncut_times : (t w : ℕ) → 0 < w → t * w ≤ 1000000000000000 → cut t ≡ t
      uncut_times t w h small = let l : t ≤ t * w = at_most t w h in cut_small t t (omega (arith, l, small)) refl

  printed : (choice : Choice) → NoneIsCut s.graph.edges s.weights choice → (o : Option Counted) → product_of s.graph.edges s.weights choice o ≡ Each (in_all choice) o
  unfolding in_all
  printed choice none None = refl
  printed choice none (Some word) =
      product_is (cut (times_of s.graph.edges word choice)) (or_nought (weight_of s.weights word)) ∙ by_weight (or_nought (weight_of s.weights word)) refl
    where
      by_weight : (w : ℕ) → or_nought (weight_of s.weights word) ≡ w → cut (times_of s.graph.edges word choice) * or_nought (weight_of s.weights word) ≡ times_of s.graph.edges word choice * or_nought (weight_of s.weights word)
      by_weight zero e = ap (λ (n : ℕ). cut (times_of s.graph.edges word choice) * n) e ∙ both (cut (times_of s.graph.edges word choice)) (times_of s.graph.edges word choice) ∙ sym (ap (λ (n : ℕ). times_of s.graph.edges word choice * n) e)
        where
          both : (a b : ℕ) → a * 0 ≡ b * 0
          both a b = omega arith
      by_weight (suc w) e = ap (λ (n : ℕ). n * or_nought (weight_of s.weights word)) (none word (omega (arith, e)))

  all_products : (choice : Choice) (n : ℕ) → products s.graph.edges s.weights choice n ≡ total (λ k. product_of s.graph.edges s.weights choice (word_numbered k)) n
  unfolding products
  all_products choice zero = sym (total_zero (λ k. product_of s.graph.edges s.weights choice (word_numbered k)))
  all_products choice (suc n) =
      ap (λ (m : ℕ). m + product_of s.graph.edges s.weights choice (word_numbered n)) (all_products choice n)
      ∙ sym (total_suc (λ k. product_of s.graph.edges s.weights choice (word_numbered k)) n)

  pub add_up : (choice : Choice) → choice_weight s choice ≤ 1000000000000000 → (products s.graph.edges s.weights choice 48 ≡ choice_weight s choice) × NoneIsCut s.graph.edges s.weights choice
  unfolding AddsUp
  add_up choice small =
      let none : NoneIsCut s.graph.edges s.weights choice = none_is_cut choice small in (
        all_products choice 48
            ∙ total_same (λ k. product_of s.graph.edges s.weights choice (word_numbered k)) (λ k. Each (in_all choice) (word_numbered k)) 48 (λ k. printed choice none (word_numbered k))
            ∙ adds_up choice,
        none,
      )

pub times_add_up : TimesAddUp
times_add_up s choice small = add_up s choice small

pub makes_the_bound : MakesTheBound
makes_the_bound s frame choice bound laid counted turns at b w =
    let weighs : choice_weight s choice ≡ bound = (gives_the_worst s frame choice bound laid counted turns at b w).0 in
    let small : bound ≤ 1000000000000000 = bound_small s frame bound at b in
    let all = add_up s choice (omega (arith, weighs, small)) in
    (all.0 ∙ weighs, all.1)
