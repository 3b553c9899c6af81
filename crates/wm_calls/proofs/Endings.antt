-- From a function whose chains of calls all end no call comes back.
use Rattle.std.proofs.Math.Seq.{drop-cons}
use Rattle.std.proofs.Common.{◌≡◌, ◌⊎◌, inl, inr, ◌||◌, ℕ, zero, suc, ◌+◌, ◌<◌, Bool, true, false, refl, sym, subst, ap, ◌∙◌, arith, List, [], ◌∷◌, map, length, if◌then◌else◌, is_some, get_or, set, drop, Option, Some, None, get_or-set_other}
use Rattle.std.specs.List.{list_all, list_any}
use Rattle.std.proofs.lemmas.Bool.{false≢true, cases_eq, cases_lt, and_parts, and_from, or_cases}
use Rattle.std.proofs.lemmas.List.{get_or-map, get_or_past, length-map}
use Rattle.wm_lang.specs.declared.place.Position.{Position}
use Rattle.wm_scope.specs.declared.reading.CallPlace.{CallPlace}
use Rattle.wm_calls.specs.Repeated.{repeated}
use Rattle.wm_calls.specs.Rounds.{Calls, is_marked, all_marked, any_marked, ends_round, reach_round, all_ending, all_reaching}
use Rattle.wm_calls.specs.Recursion.{first_marked, first_back, or_else, recursion_from}

-- the round is put behind those before it
last : {A : Type 0} (n : ℕ) (f : A → A) (x : A) → repeated n f (f x) ≡ f (repeated n f x)
unfolding repeated
last zero f x = refl
last (suc n) f x = last n f (f x)

ending : ℕ → Calls → List Bool
ending n calls = repeated n (ends_round calls) []

reaching : ℕ → Calls → ℕ → List Bool
reaching n calls to = repeated n (reach_round calls to) []

ending-suc : (n : ℕ) (calls : Calls) → ending (suc n) calls ≡ map (all_marked (ending n calls)) calls
unfolding ending repeated ends_round
ending-suc n calls = last n (ends_round calls) []

reaching-suc : (n : ℕ) (calls : Calls) (to : ℕ) → reaching (suc n) calls to ≡ set (map (any_marked (reaching n calls to)) calls) to true
unfolding reaching repeated reach_round
reaching-suc n calls to = last n (reach_round calls to) []

-- some element has both
both : {X : Type 0} (p q : X → Bool) (xs : List X) → list_all p xs ≡ true → list_any q xs ≡ true → (x : X) × ((p x ≡ true) × (q x ≡ true))
both p q [] all any = absurd (false≢true any)
both p q (x ∷ xs) all any =
    let parts = and_parts (p x) (list_all p xs) all in
    elim (or_cases (q x) (list_any q xs) any) [
      | inl e ↦ (x, (parts.0, e))
      | inr e ↦ both p q xs parts.1 e
    ]

-- what each has that has the other
weaker : {X : Type 0} (p q : X → Bool) (xs : List X) → ((x : X) → p x ≡ true → q x ≡ true) → list_all p xs ≡ true → list_all q xs ≡ true
weaker p q [] h e = refl
weaker p q (x ∷ xs) h e =
    let parts = and_parts (p x) (list_all p xs) e in
    and_from (q x) (list_all q xs) (h x parts.0) (weaker p q xs h parts.1)

-- a function that is marked is there
there : (marks : List Bool) (k : ℕ) → is_marked marks k ≡ true → k < length marks
there marks k e =
    elim (cases_lt k (length marks)) [
      | inl h ↦ h
      | inr h ↦ absurd (false≢true (sym (get_or_past marks k false h) ∙ e))
    ]

nothing : (calls : Calls) (k : ℕ) → is_marked (ending zero calls) k ≡ true → ⊥
unfolding ending repeated
nothing calls k e = false≢true (sym (get_or_past {X = Bool} [] k false (omega arith)) ∙ e)

unreached : (calls : Calls) (to k : ℕ) → is_marked (reaching zero calls to) k ≡ true → ⊥
unfolding reaching repeated
unreached calls to k e = false≢true (sym (get_or_past {X = Bool} [] k false (omega arith)) ∙ e)

-- a round over all functions, at one of them
at_one : (f : List CallPlace → Bool) (calls : Calls) (k : ℕ) → is_marked (map f calls) k ≡ true → (k < length calls) × (f (get_or calls k []) ≡ true)
at_one f calls k e =
    let within : k < length calls = subst (λ n. k < n) (length-map calls f) (there (map f calls) k e) in
    (within, sym (get_or-map f calls k [] false within) ∙ e)

ends_there : (n : ℕ) (calls : Calls) (k : ℕ) → is_marked (ending (suc n) calls) k ≡ true → k < length calls
ends_there n calls k e = (at_one (all_marked (ending n calls)) calls k (subst (λ marks. is_marked marks k ≡ true) (ending-suc n calls) e)).0

ends_step : (n : ℕ) (calls : Calls) (k : ℕ) → is_marked (ending (suc n) calls) k ≡ true → all_marked (ending n calls) (get_or calls k []) ≡ true
ends_step n calls k e = (at_one (all_marked (ending n calls)) calls k (subst (λ marks. is_marked marks k ≡ true) (ending-suc n calls) e)).1

ends_from : (n : ℕ) (calls : Calls) (k : ℕ) → k < length calls → all_marked (ending n calls) (get_or calls k []) ≡ true → is_marked (ending (suc n) calls) k ≡ true
ends_from n calls k within e =
    subst (λ marks. is_marked marks k ≡ true) (sym (ending-suc n calls)) (get_or-map (all_marked (ending n calls)) calls k [] false within ∙ e)

-- what ends within so many rounds does within more
grows : (n : ℕ) (calls : Calls) (k : ℕ) → is_marked (ending n calls) k ≡ true → is_marked (ending (suc n) calls) k ≡ true
grows zero calls k e = absurd (nothing calls k e)
grows (suc n) calls k e =
    ends_from (suc n) calls k (ends_there n calls k e)
    (weaker (λ place. is_marked (ending n calls) place.function) (λ place. is_marked (ending (suc n) calls) place.function) (get_or calls k []) (λ place h. grows n calls place.function h) (ends_step n calls k e))

reach_step : (n : ℕ) (calls : Calls) (to k : ℕ) → is_marked (reaching (suc n) calls to) k ≡ true → (k ≡ to) ⊎ (any_marked (reaching n calls to) (get_or calls k []) ≡ true)
reach_step n calls to k e =
    elim (cases_eq k to) [
      | inl same ↦ inl same
      | inr other ↦
          let marks = map (any_marked (reaching n calls to)) calls in
          let here : is_marked (set marks to true) k ≡ true = subst (λ marks. is_marked marks k ≡ true) (reaching-suc n calls to) e in
          inr ((at_one (any_marked (reaching n calls to)) calls k (sym (get_or-set_other marks to k true false other) ∙ here)).1)
    ]

-- what is reached from a function that ends does so too
along : (m n : ℕ) (calls : Calls) (to k : ℕ) → is_marked (ending n calls) k ≡ true → is_marked (reaching m calls to) k ≡ true → is_marked (ending n calls) to ≡ true
along zero n calls to k ends reaches = absurd (unreached calls to k reaches)
along (suc m) zero calls to k ends reaches = absurd (nothing calls k ends)
along (suc m) (suc n) calls to k ends reaches =
    elim (reach_step m calls to k reaches) [
      | inl same ↦ subst (λ j. is_marked (ending (suc n) calls) j ≡ true) same ends
      | inr any ↦
          let one = both (λ place. is_marked (ending n calls) place.function) (λ place. is_marked (reaching m calls to) place.function) (get_or calls k []) (ends_step n calls k ends) any in
          grows n calls to (along m n calls to one.0.function one.1.0 one.1.1)
    ]

none : (n m : ℕ) (calls : Calls) (to : ℕ) → is_marked (ending n calls) to ≡ true → any_marked (reaching m calls to) (get_or calls to []) ≡ true → ⊥
none zero m calls to ends any = nothing calls to ends
none (suc n) m calls to ends any =
    let one = both (λ place. is_marked (ending n calls) place.function) (λ place. is_marked (reaching m calls to) place.function) (get_or calls to []) (ends_step n calls to ends) any in
    none n m calls to (along m n calls to one.0.function one.1.0 one.1.1) any

unmarked : (marks : List Bool) (places : List CallPlace) → (any_marked marks places ≡ true → ⊥) → first_marked marks places ≡ None
unmarked marks [] h = refl
unmarked marks (place ∷ rest) h =
    elim (is_marked marks place.function) as (λ b. ((b || any_marked marks rest) ≡ true → ⊥) → (if b then Some place.at else first_marked marks rest) ≡ None) [
      | true ↦ λ h. absurd (h refl)
      | false ↦ λ h. unmarked marks rest h
    ] h

none_back : (calls : Calls) (caller : ℕ) → is_marked (all_ending calls) caller ≡ true → first_back calls caller (get_or calls caller []) ≡ None
unfolding ending reaching all_ending all_reaching
none_back calls caller ends =
    unmarked (all_reaching calls caller) (get_or calls caller []) (λ any. none (length calls) (length calls) calls caller ends any)

-- ---- the search, a function on

-- what stands in a list, whatever stands past its end
either_end : {A : Type 0} (xs : List A) (k : ℕ) (d e : A) → k < length xs → get_or xs k d ≡ get_or xs k e
either_end [] k d e h = absurd (omega arith)
either_end (x ∷ xs) zero d e h = refl
either_end (x ∷ xs) (suc k) d e h = either_end xs k d e (omega arith)

front : (calls : Calls) (caller : ℕ) (places : List CallPlace) → caller < length calls → places ≡ get_or calls caller places → recursion_from calls caller (drop caller calls) ≡ or_else (first_back calls caller places) (recursion_from calls (caller + 1) (drop (caller + 1) calls))
front calls caller places within is =
    let e : drop caller calls ≡ get_or calls caller places ∷ drop (suc caller) calls = drop-cons calls caller places within in
    let one : suc caller ≡ caller + 1 = omega arith in
    ap (recursion_from calls caller) e
    ∙ ap (λ p. or_else (first_back calls caller p) (recursion_from calls (suc caller) (drop (suc caller) calls))) (sym is)
    ∙ ap (λ k. or_else (first_back calls caller places) (recursion_from calls k (drop k calls))) one

pub passed : (calls : Calls) (caller : ℕ) (places : List CallPlace) → caller < length calls → places ≡ get_or calls caller places → first_back calls caller places ≡ None → recursion_from calls (caller + 1) (drop (caller + 1) calls) ≡ recursion_from calls caller (drop caller calls)
passed calls caller places within is e = sym (front calls caller places within is ∙ ap (λ o. or_else o (recursion_from calls (caller + 1) (drop (caller + 1) calls))) e)

pub skipped : (calls : Calls) (caller : ℕ) (places : List CallPlace) → caller < length calls → places ≡ get_or calls caller places → is_marked (all_ending calls) caller ≡ true → recursion_from calls (caller + 1) (drop (caller + 1) calls) ≡ recursion_from calls caller (drop caller calls)
skipped calls caller places within is ends =
    passed calls caller places within is
    (subst (λ p. first_back calls caller p ≡ None) (either_end calls caller [] places within ∙ sym is) (none_back calls caller ends))

pub found : (calls : Calls) (caller : ℕ) (places : List CallPlace) (at : Position) → caller < length calls → places ≡ get_or calls caller places → first_back calls caller places ≡ Some at → recursion_from calls caller (drop caller calls) ≡ Some at
found calls caller places at within is e = front calls caller places within is ∙ ap (λ o. or_else o (recursion_from calls (caller + 1) (drop (caller + 1) calls))) e

is_none : {A : Type 0} (o : Option A) → false ≡ is_some o → o ≡ None
is_none None e = refl
is_none (Some x) e = absurd (false≢true e)

-- one function on: it is searched in vain, or need not be
pub in_vain : (calls : Calls) (caller : ℕ) (places searched : List CallPlace) (back : Option Position) → caller < length calls → places ≡ get_or calls caller places → searched ≡ places → back ≡ first_back calls caller searched → false ≡ is_some back → recursion_from calls (caller + 1) (drop (caller + 1) calls) ≡ recursion_from calls caller (drop caller calls)
in_vain calls caller places searched back within is same e none =
    passed calls caller places within is (ap (first_back calls caller) (sym same) ∙ sym e ∙ is_none back none)

pub no_need : (calls : Calls) (caller : ℕ) (places : List CallPlace) (marks ending : List Bool) → caller < length calls → places ≡ get_or calls caller places → marks ≡ ending → ending ≡ all_ending calls → true ≡ is_marked marks caller → recursion_from calls (caller + 1) (drop (caller + 1) calls) ≡ recursion_from calls caller (drop caller calls)
no_need calls caller places marks ending within is same e ends =
    skipped calls caller places within is (ap (λ marks. is_marked marks caller) (sym e ∙ sym same) ∙ sym ends)
