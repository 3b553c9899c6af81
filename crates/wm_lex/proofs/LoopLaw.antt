-- The test of a macro's loop is "reaches itself, or one that does".
use Rattle.std.proofs.Common.{◌≡◌, ◌⊎◌, ℕ, zero, suc, ◌<◌, ◌≤◌, Bool, true, false, cond, List, [], ◌∷◌, length, get_or, Option, Some, None, refl, sym, ap, subst, ◌∙◌, arith, inl, inr, bytes_eq}
use Rattle.std.specs.Prelude.{◌↔◌, IsTrue, is_none, unwrap_or, Contains}
use Rattle.std.specs.List.{list_all}
use Rattle.std.proofs.lemmas.Bool.{cases_Bool, both_ways, and_parts, and_cases, not_from_false, not-true, true≢false}
use Rattle.std.proofs.lemmas.Slice.Eq.{bytes_eq-Decides}
use Rattle.wm_lex.specs.declared.definitions.Macro.{Macro}
use Rattle.wm_lex.specs.declared.lexeme.Lexeme.{Lexeme}
use Rattle.wm_lex.specs.declared.lexeme.Lexeme.TheVariants.{Word, Number, Mark}
use Rattle.wm_lex.specs.Macros.{list_of}
use Rattle.wm_lex.specs.Reaching.{Makes, ReachesThrough, Reaches, IsLoop}
use Rattle.wm_lex.specs.Replacing.{replacement_of, ends, sizes_of, path_bound, loops}
use Rattle.wm_lex.proofs.Expansion.{bound_is}

-- ---- lists

all_at : (p : Lexeme → Bool) (xs : List Lexeme) (x : Lexeme) (k : ℕ) → list_all p xs ≡ true → k < length xs → get_or xs k x ≡ x → p x ≡ true
all_at p [] x k h lt at = absurd (omega arith)
all_at p (y ∷ xs) x zero h lt at = ap p (sym at) ∙ (and_parts (p y) (list_all p xs) h).0
all_at p (y ∷ xs) x (suc k) h lt at = all_at p xs x k (and_parts (p y) (list_all p xs) h).1 (omega arith) at

some_fails : (p : Lexeme → Bool) (xs : List Lexeme) → list_all p xs ≡ false → (x : Lexeme) × Contains xs x × (p x ≡ false)
some_fails p [] h = absurd (true≢false h)
some_fails p (x ∷ xs) h =
    elim (and_cases (p x) (list_all p xs) h) [
      | inl here ↦ (x, (0, omega arith, refl), here)
      | inr later ↦ (let found = some_fails p xs later in (found.0, (suc found.1.0, omega (arith, found.1.1), found.1.2), found.2))
    ]

-- ---- what reaches itself never ends

nothing_at : (o : Option (List Lexeme)) (b : Lexeme) → is_none o ≡ true → Contains (unwrap_or o []) b → ⊥
nothing_at None b h inside = omega (arith, inside.1)
nothing_at (Some list) b h inside = absurd (true≢false (sym h))

step_ends : (macros : List Macro) (a b : Lexeme) (words : ℕ) → Makes macros a b → ends macros words a ≡ true → (less : ℕ) × (less < words) × (ends macros less b ≡ true)
unfolding ends
step_ends macros a b zero inside h = absurd (nothing_at (replacement_of macros a) b h inside)
step_ends macros a b (suc words) inside h = (words, omega arith, all_at (ends macros words) (unwrap_or (replacement_of macros a) []) b inside.0 h inside.1 inside.2)

reach_ends : (macros : List Macro) (others : ℕ) (a b : Lexeme) (words : ℕ) → ReachesThrough macros others a b → ends macros words a ≡ true → (less : ℕ) × (less < words) × (ends macros less b ≡ true)
reach_ends macros zero a b words reach h = step_ends macros a b words reach h
reach_ends macros (suc others) a b words reach h =
    let one = step_ends macros a reach.0 words reach.1 h in
    let two = reach_ends macros others reach.0 b one.0 reach.2 one.2 in
    (two.0, omega (arith, one.1, two.1), two.2)

never_below : (macros : List Macro) (most : ℕ) (b : Lexeme) (words : ℕ) → words < most → Reaches macros b b → ends macros words b ≡ true → ⊥
never_below macros zero b words lt reach h = omega (arith, lt)
never_below macros (suc most) b words lt reach h =
    let one = reach_ends macros reach.0 b b words reach.1 h in
    never_below macros most b one.0 (omega (arith, lt, one.1)) reach one.2

loop_never : (macros : List Macro) (a : Lexeme) (words : ℕ) → IsLoop macros a → ends macros words a ≡ true → ⊥
loop_never macros a words looped h =
    elim looped [
      | inl itself ↦ never_below macros (suc words) a words (omega arith) itself h
      | inr other ↦ (
          let one = reach_ends macros other.1.0 a other.0 words other.1.1 h in
          never_below macros words other.0 one.0 one.1 other.2 one.2)
    ]

-- ---- what never ends reaches a loop: there are no more words than macros

abbrev IsWordOf : List (List ℕ) → List ℕ → Type 0
IsWordOf [] w = ⊥
IsWordOf (x ∷ xs) w = (w ≡ x) ⊎ IsWordOf xs w

abbrev without : List ℕ → List (List ℕ) → List (List ℕ)
without w [] = []
without w (x ∷ xs) = cond (bytes_eq x w) (without w xs) (x ∷ without w xs)

without_fewer : (w : List ℕ) (xs : List (List ℕ)) → length (without w xs) ≤ length xs
without_fewer w [] = omega arith
without_fewer w (x ∷ xs) =
    elim (cases_Bool (bytes_eq x w)) [
      | inl same ↦ rw same (omega (arith, without_fewer w xs))
      | inr other ↦ rw other (omega (arith, without_fewer w xs))
    ]

without_less : (w : List ℕ) (xs : List (List ℕ)) → IsWordOf xs w → length (without w xs) < length xs
without_less w [] inside = absurd inside
without_less w (x ∷ xs) inside =
    elim (cases_Bool (bytes_eq x w)) [
      | inl same ↦ rw same (omega (arith, without_fewer w xs))
      | inr other ↦ elim inside [
        | inl here ↦ absurd (both_ways (bytes_eq x w) other ((bytes_eq-Decides x w).1 (sym here)))
        | inr later ↦ rw other (omega (arith, without_less w xs later))
      ]
    ]

stays : (w v : List ℕ) (xs : List (List ℕ)) → IsWordOf xs v → (v ≡ w) ⊎ IsWordOf (without w xs) v
stays w v [] inside = absurd inside
stays w v (x ∷ xs) inside =
    elim (cases_Bool (bytes_eq x w)) [
      | inl same ↦ elim inside [
        | inl here ↦ inl (here ∙ (bytes_eq-Decides x w).0 same)
        | inr later ↦ rw same (stays w v xs later)
      ]
      | inr other ↦ elim inside [
        | inl here ↦ rw other (inr (inl here))
        | inr later ↦ elim (stays w v xs later) [
          | inl e ↦ inl e
          | inr left ↦ rw other (inr (inr left))
        ]
      ]
    ]

word_counts : (xs : List (List ℕ)) (w : List ℕ) → IsWordOf xs w → 0 < length xs
word_counts [] w inside = absurd inside
word_counts (x ∷ xs) w inside = omega arith

none_or_some : (o : Option (List Lexeme)) → (o ≡ None) ⊎ ((list : List Lexeme) × (o ≡ Some list))
none_or_some None = inl refl
none_or_some (Some list) = inr (list, refl)

no_macro_ends : (macros : List Macro) (a : Lexeme) (words : ℕ) → replacement_of macros a ≡ None → ends macros words a ≡ true
unfolding ends
no_macro_ends macros a zero h = ap is_none h
no_macro_ends macros a (suc words) h = ap (λ (o : Option (List Lexeme)). list_all (ends macros words) (unwrap_or o [])) h

reach_more : (macros : List Macro) (others : ℕ) (a b c : Lexeme) → ReachesThrough macros others a b → Makes macros b c → ReachesThrough macros (suc others) a c
reach_more macros zero a b c reach inside = (b, reach, inside)
reach_more macros (suc others) a b c reach inside = (reach.0, reach.1, reach_more macros others reach.0 b c reach.2 inside)

loop_before : (macros : List Macro) (a b : Lexeme) → Makes macros a b → IsLoop macros b → IsLoop macros a
loop_before macros a b inside looped =
    elim looped [
      | inl itself ↦ inr (b, (0, inside), itself)
      | inr other ↦ inr (other.0, (suc other.1.0, (b, inside, other.1.1)), other.2)
    ]

unended : (macros : List Macro) (a : Lexeme) (words : ℕ) → ends macros (suc words) a ≡ false → (b : Lexeme) × Makes macros a b × (ends macros words b ≡ false)
unfolding ends
unended macros a words h = some_fails (ends macros words) (unwrap_or (replacement_of macros a) []) h

-- the words in force are left, or reach the lexeme
abbrev IsSearch : List Macro → List (List ℕ) → Lexeme → Type 0
IsSearch macros left a = (w : List ℕ) (list : List Lexeme) → list_of w macros ≡ Some list → IsWordOf left w ⊎ Reaches macros (Word w) a

deeper : (macros : List Macro) (left : List (List ℕ)) (w : List ℕ) (b : Lexeme) → Makes macros (Word w) b → IsSearch macros left (Word w) → IsSearch macros (without w left) b
deeper macros left w b inside known v list found =
    elim (known v list found) [
      | inl here ↦ elim (stays w v left here) [
        | inl same ↦ inr (0, subst (λ (u : List ℕ). Makes macros (Word u) b) (sym same) inside)
        | inr left_still ↦ inl left_still
      ]
      | inr reach ↦ inr (suc reach.0, reach_more macros reach.0 (Word v) (Word w) b reach.1 inside)
    ]

found_loop : (macros : List Macro) (words : ℕ) (left : List (List ℕ)) (a : Lexeme) → length left ≤ words → ends macros words a ≡ false → IsSearch macros left a → IsLoop macros a
found_loop macros words left (Number value) few h known = absurd (both_ways (ends macros words (Number value)) h (no_macro_ends macros (Number value) words refl))
found_loop macros words left (Mark mark) few h known = absurd (both_ways (ends macros words (Mark mark)) h (no_macro_ends macros (Mark mark) words refl))
found_loop macros zero left (Word w) few h known =
    elim (none_or_some (list_of w macros)) [
      | inl none ↦ absurd (both_ways (ends macros zero (Word w)) h (no_macro_ends macros (Word w) zero none))
      | inr some ↦ elim (known w some.0 some.1) [
        | inl here ↦ absurd (omega (arith, few, word_counts left w here))
        | inr reach ↦ inl reach
      ]
    ]
found_loop macros (suc words) left (Word w) few h known =
    elim (none_or_some (list_of w macros)) [
      | inl none ↦ absurd (both_ways (ends macros (suc words) (Word w)) h (no_macro_ends macros (Word w) (suc words) none))
      | inr some ↦ elim (known w some.0 some.1) [
        | inl here ↦ (
            let next = unended macros (Word w) words h in
            loop_before macros (Word w) next.0 next.1
            (found_loop macros words (without w left) next.0 (omega (arith, few, without_less w left here)) next.2 (deeper macros left w next.0 next.1 known)))
        | inr reach ↦ inl reach
      ]
    ]

abbrev names_of : List Macro → List (List ℕ)
names_of [] = []
names_of (m ∷ macros) = m.name ∷ names_of macros

names_few : (macros : List Macro) → length (names_of macros) ≤ sizes_of macros
names_few [] = omega arith
names_few (m ∷ macros) = omega (arith, names_few macros)

named : (macros : List Macro) (w : List ℕ) (list : List Lexeme) → list_of w macros ≡ Some list → IsWordOf (names_of macros) w
named [] w list h = absurd cc
named (m ∷ macros) w list h =
    elim (cases_Bool (bytes_eq m.name w)) [
      | inl here ↦ inl (sym ((bytes_eq-Decides m.name w).0 here))
      | inr later ↦ (let rest : list_of w macros ≡ Some list = rw later at h in inr (named macros w list rest))
    ]

pub loops_is : (macros : List Macro) (a : Lexeme) → IsTrue (loops macros a) ↔ IsLoop macros a
loops_is macros a = (
  λ h. found_loop macros (path_bound macros) (names_of macros) a (omega (arith, names_few macros, bound_is macros)) (not-true (ends macros (path_bound macros) a) h) (λ w list found. inl (named macros w list found)),
  λ looped. elim (cases_Bool (ends macros (path_bound macros) a)) [
    | inl ended ↦ absurd (loop_never macros a (path_bound macros) looped ended)
    | inr unending ↦ not_from_false (ends macros (path_bound macros) a) unending
  ],
)
