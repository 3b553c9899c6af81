-- The walk through the lists of the macros, one step at a time.
use Rattle.std.proofs.Common.{◌≡◌, ℕ, zero, suc, ◌+◌, ◌-◌, ◌*◌, ◌<◌, ◌≤◌, Bool, true, false, cond, List, [], ◌∷◌, ◌++◌, length, get_or, take, set, replicate, Option, Some, None, refl, sym, ap, subst, ◌∙◌, arith, inl, inr, ◌⊎◌, bytes_eq}
use Rattle.std.specs.Prelude.{is_some, is_none, option_map, unwrap_or, slice_get}
use Rattle.std.specs.List.{list_all}
use Rattle.std.proofs.lemmas.Bool.{cases_Bool, cases_lt, cases_eq, and_left, and_right, and_from, and_parts}
use Rattle.std.proofs.lemmas.Option.{same_Some, get_or_from_slice_get, none-some, slice_get-get_or}
use Rattle.std.proofs.lemmas.List.{nil_from_length, take_all, take_more, get_or_append_left, length-append, get_or-append_right}
use Rattle.wm_lex.specs.declared.definitions.Macro.{Macro}
use Rattle.wm_lex.specs.declared.lexeme.Lexeme.{Lexeme}
use Rattle.wm_lex.specs.declared.lexeme.Lexeme.TheVariants.{Word, Number, Mark}
use Rattle.wm_lex.specs.Macros.{list_of}
use Rattle.wm_lex.specs.Replacing.{replacement_of, ends, sizes_of}
use Rattle.wm_lex.specs.Walks.{list_at, place_in_force, place_of}
use Rattle.wm_lex.proofs.Expansion.{list_all_more, ends_more, ends_up}

-- ---- places and lists

first_list : (o : Option (List Lexeme)) (place : ℕ) → cond {A = Option ℕ} (is_some o) (Some 0) None ≡ Some place → (o ≡ Some (unwrap_or o [])) × (place ≡ 0)
first_list None place h = absurd cc
first_list (Some list) place h = (refl, sym (same_Some 0 place h))

later_place : (o : Option ℕ) (place : ℕ) → option_map suc o ≡ Some place → (p : ℕ) × (o ≡ Some p) × (place ≡ suc p)
later_place None place h = absurd cc
later_place (Some p) place h = (p, refl, sym (same_Some (suc p) place h))

pub force_list : (word : List ℕ) (macros : List Macro) (place : ℕ) → place_in_force word macros ≡ Some place → list_of word macros ≡ Some (list_at macros place)
force_list word [] place h = absurd cc
force_list word (m ∷ macros) place h =
    elim (cases_Bool (bytes_eq m.name word)) [
      | inl here ↦ (
          let one : cond {A = Option ℕ} (is_some m.lexemes) (Some 0) None ≡ Some place = rw here at h in
          let two : (m.lexemes ≡ Some (unwrap_or m.lexemes [])) × (place ≡ 0) = first_list m.lexemes place one in
          rw (here, two.1) two.0)
      | inr later ↦ (
          let one : option_map suc (place_in_force word macros) ≡ Some place = rw later at h in
          let p = later_place (place_in_force word macros) place one in
          rw (later, p.2) (force_list word macros p.0 p.1))
    ]

pub place_list : (macros : List Macro) (lexeme : Lexeme) (place : ℕ) → place_of macros lexeme ≡ Some place → replacement_of macros lexeme ≡ Some (list_at macros place)
place_list macros (Word word) place h = force_list word macros place h
place_list macros (Number value) place h = absurd cc
place_list macros (Mark mark) place h = absurd cc

no_list : (o : Option (List Lexeme)) → cond {A = Option ℕ} (is_some o) (Some 0) None ≡ None → o ≡ None
no_list None h = refl
no_list (Some list) h = absurd cc

no_place : (o : Option ℕ) → option_map suc o ≡ None → o ≡ None
no_place None h = refl
no_place (Some p) h = absurd cc

force_none : (word : List ℕ) (macros : List Macro) → place_in_force word macros ≡ None → list_of word macros ≡ None
force_none word [] h = refl
force_none word (m ∷ macros) h =
    elim (cases_Bool (bytes_eq m.name word)) [
      | inl here ↦ (
          let one : cond {A = Option ℕ} (is_some m.lexemes) (Some 0) None ≡ None = rw here at h in
          rw here (no_list m.lexemes one))
      | inr later ↦ (
          let one : option_map suc (place_in_force word macros) ≡ None = rw later at h in
          rw later (force_none word macros (no_place (place_in_force word macros) one)))
    ]

pub place_none : (macros : List Macro) (lexeme : Lexeme) → place_of macros lexeme ≡ None → replacement_of macros lexeme ≡ None
place_none macros (Word word) h = force_none word macros h
place_none macros (Number value) h = refl
place_none macros (Mark mark) h = refl

-- ---- members

pub IsMember : Lexeme → List Lexeme → Type 0
IsMember lexeme [] = ⊥
IsMember lexeme (first ∷ more) = (lexeme ≡ first) ⊎ IsMember lexeme more

pub member_at : (list : List Lexeme) (k : ℕ) (d : Lexeme) → k < length list → IsMember (get_or list k d) list
unfolding IsMember
member_at [] k d lt = absurd (omega arith)
member_at (first ∷ more) zero d lt = inl refl
member_at (first ∷ more) (suc k) d lt = inr (member_at more k d (omega arith))

not_all : (p : Lexeme → Bool) (list : List Lexeme) (lexeme : Lexeme) → IsMember lexeme list → p lexeme ≡ false → list_all p list ≡ false
unfolding IsMember
not_all p [] lexeme member h = absurd member
not_all p (first ∷ more) lexeme member h =
    elim member [
      | inl same ↦ and_left (p first) (list_all p more) (ap p (sym same) ∙ h)
      | inr later ↦ and_right (p first) (list_all p more) (not_all p more lexeme later h)
    ]

-- the list of the macro at a has a macro that stands at b
pub record HasMember (macros : List Macro) (a b : ℕ) : Type 0 where
  pub lexeme : Lexeme
  pub member : IsMember lexeme (list_at macros a)
  pub place : place_of macros lexeme ≡ Some b

-- ---- the walk

-- the sum of what is seen
abbrev pub total : List ℕ → ℕ
total [] = 0
total (x ∷ seen) = x + total seen

-- how far a walk from a macro has come
pub record IsWalk (macros : List Macro) (start : ℕ) (seen path : List ℕ) : Type 0 where
  pub sized : length seen ≡ length macros
  pub bounded : (i : ℕ) → get_or seen i 0 ≤ length (list_at macros i) + 2
  pub settled : (i : ℕ) → list_all (ends macros (total seen)) (take (get_or seen i 0 - 1) (list_at macros i)) ≡ true
  pub on_path : (i : ℕ) → 0 < get_or seen i 0 → get_or seen i 0 < length (list_at macros i) + 2 → (j : ℕ) × (j < length path) × (get_or path j 0 ≡ i)
  pub chain : (j : ℕ) → j + 1 < length path → HasMember macros (get_or path j 0) (get_or path (j + 1) 0)
  pub bottom : get_or path 0 start ≡ start
  pub started : 0 < get_or seen start 0
  pub places : (j : ℕ) → j < length path → get_or path j 0 < length macros

at_set : (seen : List ℕ) (at v i : ℕ) → at < length seen → ((i ≡ at) × (get_or (set seen at v) i 0 ≡ v)) ⊎ ((i ≡ at → ⊥) × (get_or (set seen at v) i 0 ≡ get_or seen i 0))
at_set [] at v i lt = absurd (omega arith)
at_set (x ∷ seen) zero v zero lt = inl (refl, refl)
at_set (x ∷ seen) zero v (suc i) lt = inr (λ e. omega (arith, e), refl)
at_set (x ∷ seen) (suc at) v zero lt = inr (λ e. omega (arith, e), refl)
at_set (x ∷ seen) (suc at) v (suc i) lt =
    elim (at_set seen at v i (omega arith)) [
      | inl w ↦ inl (ap suc w.0, w.1)
      | inr w ↦ inr (λ e. w.0 (omega (arith, e)), w.1)
    ]

total-set : (seen : List ℕ) (at v : ℕ) → at < length seen → total (set seen at v) + get_or seen at 0 ≡ total seen + v
total-set [] at v lt = absurd (omega arith)
total-set (x ∷ seen) zero v lt = omega arith
total-set (x ∷ seen) (suc at) v lt = omega (arith, total-set seen at v (omega arith))

length-set : (seen : List ℕ) (at v : ℕ) → length (set seen at v) ≡ length seen
length-set [] at v = refl
length-set (x ∷ seen) zero v = refl
length-set (x ∷ seen) (suc at) v = ap suc (length-set seen at v)

-- what is seen is at most what there is
pub total_within : (seen : List ℕ) (macros : List Macro) → length seen ≡ length macros → ((i : ℕ) → get_or seen i 0 ≤ length (list_at macros i) + 2) → total seen ≤ sizes_of macros
total_within [] macros sized bounded = omega arith
total_within (x ∷ seen) [] sized bounded = absurd (omega arith)
total_within (x ∷ seen) (m ∷ macros) sized bounded =
    omega (arith, bounded 0, total_within seen macros (omega arith) (λ i. bounded (suc i)))

all_up : (macros : List Macro) (words most : ℕ) (list : List Lexeme) → words ≤ most → list_all (ends macros words) list ≡ true → list_all (ends macros most) list ≡ true
all_up macros words most list le h = list_all_more (ends macros words) (ends macros most) list (λ x hx. ends_up macros x most words le hx) h

-- a macro is seen further
module _ (macros : List Macro) (start at v : ℕ) (seen path after : List ℕ) (walk : IsWalk macros start seen path) (within : at < length macros) (grown : get_or seen at 0 ≤ v) (some : 0 < v) (most : v ≤ length (list_at macros at) + 2) where
  pub seen_further : list_all (ends macros (total (set seen at v))) (take (v - 1) (list_at macros at)) ≡ true
      → ((i : ℕ) → 0 < get_or (set seen at v) i 0 → get_or (set seen at v) i 0 < length (list_at macros i) + 2 → (j : ℕ) × (j < length after) × (get_or after j 0 ≡ i))
      → ((j : ℕ) → j + 1 < length after → HasMember macros (get_or after j 0) (get_or after (j + 1) 0))
      → get_or after 0 start ≡ start → ((j : ℕ) → j < length after → get_or after j 0 < length macros)
      → IsWalk macros start (set seen at v) after
  seen_further here on_path chain bottom places =
      let at_seen : at < length seen = omega (arith, walk.sized) in
      let more : total seen ≤ total (set seen at v) = omega (arith, total-set seen at v at_seen) in
      record {
        sized = length-set seen at v ∙ walk.sized;
        bounded = λ i. elim (at_set seen at v i at_seen) [
          | inl w ↦ subst (λ (n : ℕ). get_or (set seen at v) i 0 ≤ length (list_at macros n) + 2) (sym w.0) (omega (arith, w.1))
          | inr w ↦ omega (arith, w.1, walk.bounded i)
        ];
        settled = λ i. elim (at_set seen at v i at_seen) [
          | inl w ↦ rw (w.1, w.0) here
          | inr w ↦ rw w.1 (all_up macros (total seen) (total (set seen at v)) (take (get_or seen i 0 - 1) (list_at macros i)) more (walk.settled i))
        ];
        on_path = on_path;
        chain = chain;
        bottom = bottom;
        started = elim (at_set seen at v start at_seen) [
          | inl w ↦ omega (arith, w.1)
          | inr w ↦ omega (arith, w.1, walk.started)
        ];
        places = places;
      }

last_at : (path : List ℕ) (at d : ℕ) → get_or (path ++ at ∷ []) (length path) d ≡ at
last_at [] at d = refl
last_at (x ∷ path) at d = last_at path at d

length_push : (path : List ℕ) (at : ℕ) → length (path ++ at ∷ []) ≡ length path + 1
length_push path at = length-append path (at ∷ [])

bottom_of : (after : List ℕ) (at start : ℕ) → get_or (after ++ at ∷ []) 0 start ≡ start → get_or after 0 start ≡ start
bottom_of [] at start h = refl
bottom_of (x ∷ after) at start h = h

-- the macro in front is done
pub walk_pop : (macros : List Macro) (start at : ℕ) (seen path after : List ℕ) → IsWalk macros start seen path → path ≡ after ++ at ∷ []
    → length (list_at macros at) ≤ get_or seen at 0 - 1 → IsWalk macros start (set seen at (length (list_at macros at) + 2)) after
walk_pop macros start at seen path after walk path-is ended =
    let end : length path ≡ length after + 1 = ap length path-is ∙ length_push after at in
    let here : get_or path (length after) 0 ≡ at = ap (λ (t : List ℕ). get_or t (length after) 0) path-is ∙ last_at after at 0 in
    let within : at < length macros = subst (λ (n : ℕ). n < length macros) here (walk.places (length after) (omega arith)) in
    let at_seen : at < length seen = omega (arith, walk.sized) in
    let v = length (list_at macros at) + 2 in
    let front : (j d : ℕ) → j < length after → get_or path j d ≡ get_or after j d = λ j d lt. ap (λ (t : List ℕ). get_or t j d) path-is ∙ get_or_append_left after (at ∷ []) d j lt in
    let grown : get_or seen at 0 ≤ v = walk.bounded at in
    let more : total seen ≤ total (set seen at v) = omega (arith, total-set seen at v at_seen) in
    let all : list_all (ends macros (total seen)) (list_at macros at) ≡ true = subst (λ (t : List Lexeme). list_all (ends macros (total seen)) t ≡ true) (take_all (get_or seen at 0 - 1) (list_at macros at) ended) (walk.settled at) in
    let whole : take (v - 1) (list_at macros at) ≡ list_at macros at = take_all (v - 1) (list_at macros at) (omega arith) in
    seen_further macros start at v seen path after walk within grown (omega arith) (omega arith)
    (rw whole (all_up macros (total seen) (total (set seen at v)) (list_at macros at) more all))
    (λ i positive unfinished. elim (at_set seen at v i at_seen) [
      | inl w ↦ (
          let same : length (list_at macros i) ≡ length (list_at macros at) = ap (λ (n : ℕ). length (list_at macros n)) w.0 in
          absurd (omega (arith, w.1, unfinished, same)))
      | inr w ↦ (
          let old = walk.on_path i (omega (arith, w.1, positive)) (omega (arith, w.1, unfinished)) in
          elim (cases_lt old.0 (length after)) [
            | inl lt ↦ (old.0, lt, sym (front old.0 0 lt) ∙ old.2)
            | inr le ↦ (
                let last : old.0 ≡ length after = omega (arith, old.1, le) in
                absurd (w.0 (sym old.2 ∙ ap (λ (n : ℕ). get_or path n 0) last ∙ here)))
          ])
    ])
    (λ j lt. subst (λ (n : ℕ). HasMember macros n (get_or after (j + 1) 0)) (front j 0 (omega arith)) (subst (λ (n : ℕ). HasMember macros (get_or path j 0) n) (front (j + 1) 0 lt) (walk.chain j (omega arith))))
    (bottom_of after at start (subst (λ (t : List ℕ). get_or t 0 start ≡ start) path-is walk.bottom))
    (λ j lt. subst (λ (n : ℕ). n < length macros) (front j 0 lt) (walk.places j (omega arith)))

on_path_same : (macros : List Macro) (start at v : ℕ) (seen path : List ℕ) → IsWalk macros start seen path → at < length seen → (j : ℕ) × (j < length path) × (get_or path j 0 ≡ at)
    → (i : ℕ) → 0 < get_or (set seen at v) i 0 → get_or (set seen at v) i 0 < length (list_at macros i) + 2 → (j : ℕ) × (j < length path) × (get_or path j 0 ≡ i)
on_path_same macros start at v seen path walk at_seen here i positive unfinished =
    elim (at_set seen at v i at_seen) [
      | inl w ↦ (here.0, here.1, here.2 ∙ sym w.0)
      | inr w ↦ walk.on_path i (omega (arith, w.1, positive)) (omega (arith, w.1, unfinished))
    ]

all_push : (p : Lexeme → Bool) (list : List Lexeme) (lexeme : Lexeme) → list_all p list ≡ true → p lexeme ≡ true → list_all p (list ++ lexeme ∷ []) ≡ true
all_push p [] lexeme before h = and_from (p lexeme) true h refl
all_push p (x ∷ list) lexeme before h =
    let parts = and_parts (p x) (list_all p list) before in
    and_from (p x) (list_all p (list ++ lexeme ∷ [])) parts.0 (all_push p list lexeme parts.1 h)

one_more : (p : Lexeme → Bool) (list : List Lexeme) (k : ℕ) (lexeme : Lexeme) → k < length list → get_or list k lexeme ≡ lexeme → list_all p (take k list) ≡ true → p lexeme ≡ true → list_all p (take (k + 1) list) ≡ true
one_more p list k lexeme lt here before h =
    let split : take (k + 1) list ≡ take k list ++ lexeme ∷ [] = take_more list k lexeme lt ∙ ap (λ (x : Lexeme). take k list ++ x ∷ []) here in
    rw split (all_push p (take k list) lexeme before h)

-- a lexeme of the macro in front ends within the words so far
pub walk_on : (macros : List Macro) (start at : ℕ) (seen path : List ℕ) (lexeme : Lexeme) → IsWalk macros start seen path → at < length macros
    → (j : ℕ) × (j < length path) × (get_or path j 0 ≡ at) → get_or seen at 0 - 1 < length (list_at macros at) → get_or (list_at macros at) (get_or seen at 0 - 1) lexeme ≡ lexeme
    → ends macros (suc (total seen)) lexeme ≡ true → IsWalk macros start (set seen at ((get_or seen at 0 - 1) + 2)) path
walk_on macros start at seen path lexeme walk within here inside lexeme-is ended =
    let at_seen : at < length seen = omega (arith, walk.sized) in
    let k = get_or seen at 0 - 1 in
    let v = k + 2 in
    let more : suc (total seen) ≤ total (set seen at v) = omega (arith, total-set seen at v at_seen) in
    let up : list_all (ends macros (total (set seen at v))) (take k (list_at macros at)) ≡ true = all_up macros (total seen) (total (set seen at v)) (take k (list_at macros at)) (omega arith) (walk.settled at) in
    let taken : v - 1 ≡ k + 1 = omega arith in
    seen_further macros start at v seen path path walk within (omega arith) (omega arith) (omega arith)
    (rw taken (one_more (ends macros (total (set seen at v))) (list_at macros at) k lexeme inside lexeme-is up (ends_up macros lexeme (total (set seen at v)) (suc (total seen)) more ended)))
    (on_path_same macros start at v seen path walk at_seen here)
    walk.chain walk.bottom walk.places

-- a lexeme that no list replaces
pub plain_ends : (macros : List Macro) (lexeme : Lexeme) (words : ℕ) → place_of macros lexeme ≡ None → ends macros (suc words) lexeme ≡ true
unfolding ends
plain_ends macros lexeme words plain = rw (place_none macros lexeme plain) refl

-- a macro that is done
pub done_ends : (macros : List Macro) (start inner : ℕ) (seen path : List ℕ) (lexeme : Lexeme) → IsWalk macros start seen path → place_of macros lexeme ≡ Some inner
    → length (list_at macros inner) + 2 ≤ get_or seen inner 0 → ends macros (suc (total seen)) lexeme ≡ true
unfolding ends
done_ends macros start inner seen path lexeme walk place done =
    let all : list_all (ends macros (total seen)) (list_at macros inner) ≡ true = subst (λ (t : List Lexeme). list_all (ends macros (total seen)) t ≡ true) (take_all (get_or seen inner 0 - 1) (list_at macros inner) (omega arith)) (walk.settled inner) in
    rw (place_list macros lexeme inner place) all

-- the walk goes into a macro of the list of the one in front
pub walk_push : (macros : List Macro) (start at inner : ℕ) (seen path below : List ℕ) → IsWalk macros start seen path → path ≡ below ++ at ∷ []
    → inner < length macros → get_or seen inner 0 ≡ 0 → HasMember macros at inner → IsWalk macros start (set seen inner 1) (path ++ inner ∷ [])
walk_push macros start at inner seen path below walk path-is within fresh member =
    let in_seen : inner < length seen = omega (arith, walk.sized) in
    let end : length path ≡ length below + 1 = ap length path-is ∙ length_push below at in
    let last : get_or path (length below) 0 ≡ at = ap (λ (t : List ℕ). get_or t (length below) 0) path-is ∙ last_at below at 0 in
    let longer : length (path ++ inner ∷ []) ≡ length path + 1 = length_push path inner in
    let front : (j d : ℕ) → j < length path → get_or (path ++ inner ∷ []) j d ≡ get_or path j d = λ j d lt. get_or_append_left path (inner ∷ []) d j lt in
    let top : get_or (path ++ inner ∷ []) (length path) 0 ≡ inner = last_at path inner 0 in
    seen_further macros start inner 1 seen path (path ++ inner ∷ []) walk within (omega arith) (omega arith) (omega arith)
    refl
    (λ i positive unfinished. elim (at_set seen inner 1 i in_seen) [
      | inl w ↦ (length path, omega (arith, longer), top ∙ sym w.0)
      | inr w ↦ (
          let old = walk.on_path i (omega (arith, w.1, positive)) (omega (arith, w.1, unfinished)) in
          (old.0, omega (arith, longer, old.1), front old.0 0 old.1 ∙ old.2))
    ])
    (λ j lt. elim (cases_lt (j + 1) (length path)) [
      | inl inside ↦ subst (λ (n : ℕ). HasMember macros n (get_or (path ++ inner ∷ []) (j + 1) 0)) (sym (front j 0 (omega arith))) (subst (λ (n : ℕ). HasMember macros (get_or path j 0) n) (sym (front (j + 1) 0 inside)) (walk.chain j inside))
      | inr at_end ↦ (
          let next : j + 1 ≡ length path = omega (arith, lt, longer, at_end) in
          let this : j ≡ length below = omega (arith, next, end) in
          let b-is : get_or (path ++ inner ∷ []) (j + 1) 0 ≡ inner = ap (λ (n : ℕ). get_or (path ++ inner ∷ []) n 0) next ∙ top in
          let a-is : get_or (path ++ inner ∷ []) j 0 ≡ at = front j 0 (omega (arith, next)) ∙ ap (λ (n : ℕ). get_or path n 0) this ∙ last in
          subst (λ (n : ℕ). HasMember macros n (get_or (path ++ inner ∷ []) (j + 1) 0)) (sym a-is) (subst (λ (n : ℕ). HasMember macros at n) (sym b-is) member))
    ])
    (front 0 start (omega (arith, end)) ∙ walk.bottom)
    (λ j lt. elim (cases_lt j (length path)) [
      | inl inside ↦ subst (λ (n : ℕ). n < length macros) (sym (front j 0 inside)) (walk.places j inside)
      | inr at_end ↦ (
          let this : j ≡ length path = omega (arith, lt, longer, at_end) in
          subst (λ (n : ℕ). n < length macros) (sym (ap (λ (n : ℕ). get_or (path ++ inner ∷ []) n 0) this ∙ top)) within)
    ])

-- ---- how the walk begins and ends

abbrev pub none_seen : ℕ → List ℕ
none_seen n = replicate n 0

zeros : (n i : ℕ) → get_or (none_seen n) i 0 ≡ 0
zeros zero i = refl
zeros (suc n) zero = refl
zeros (suc n) (suc i) = zeros n i

zeros_length : (n : ℕ) → length (none_seen n) ≡ n
zeros_length zero = refl
zeros_length (suc n) = ap suc (zeros_length n)

pub walk_starts : (macros : List Macro) (start : ℕ) → start < length macros → IsWalk macros start (set (none_seen (length macros)) start 1) (start ∷ [])
walk_starts macros start within =
    let seen : List ℕ = none_seen (length macros) in
    let in_seen : start < length seen = omega (arith, zeros_length (length macros)) in
    record {
      sized = length-set seen start 1 ∙ zeros_length (length macros);
      bounded = λ i. elim (at_set seen start 1 i in_seen) [
        | inl w ↦ omega (arith, w.1)
        | inr w ↦ omega (arith, w.1, zeros (length macros) i)
      ];
      settled = λ i. elim (at_set seen start 1 i in_seen) [
        | inl w ↦ rw w.1 refl
        | inr w ↦ rw (w.1, zeros (length macros) i) refl
      ];
      on_path = λ i positive unfinished. elim (at_set seen start 1 i in_seen) [
        | inl w ↦ (0, omega arith, sym w.0)
        | inr w ↦ absurd (omega (arith, w.1, zeros (length macros) i, positive))
      ];
      chain = λ j lt. absurd (omega arith);
      bottom = refl;
      started = elim (at_set seen start 1 start in_seen) [
        | inl w ↦ omega (arith, w.1)
        | inr w ↦ absurd (w.0 refl)
      ];
      places = λ j lt. let first : j ≡ 0 = omega arith in rw first within;
    }

-- where the path has come to its end, all that the first macro reaches ends
pub walk_ends : (macros : List Macro) (start : ℕ) (seen : List ℕ) (path : List ℕ) → IsWalk macros start seen path → length path ≡ 0 → list_all (ends macros (sizes_of macros)) (list_at macros start) ≡ true
walk_ends macros start seen path walk empty =
    let done : length (list_at macros start) + 2 ≤ get_or seen start 0 = elim (cases_lt (get_or seen start 0) (length (list_at macros start) + 2)) [
      | inl unfinished ↦ (let old = walk.on_path start walk.started unfinished in absurd (omega (arith, old.1, empty)))
      | inr le ↦ le
    ] in
    let all : list_all (ends macros (total seen)) (list_at macros start) ≡ true = subst (λ (t : List Lexeme). list_all (ends macros (total seen)) t ≡ true) (take_all (get_or seen start 0 - 1) (list_at macros start) (omega arith)) (walk.settled start) in
    all_up macros (total seen) (sizes_of macros) (list_at macros start) (total_within seen macros walk.sized walk.bounded) all

-- where each macro of a path has one of the path in its list, none of them ends
never_ends : (macros : List Macro) (path : List ℕ) → ((j : ℕ) → j < length path → (n : ℕ) × (n < length path) × HasMember macros (get_or path j 0) (get_or path n 0))
    → (words j : ℕ) → j < length path → list_all (ends macros words) (list_at macros (get_or path j 0)) ≡ false
unfolding ends
never_ends macros path next zero j lt =
    let n = next j lt in
    not_all (ends macros zero) (list_at macros (get_or path j 0)) n.2.lexeme n.2.member (ap is_none (place_list macros n.2.lexeme (get_or path n.0 0) n.2.place))
never_ends macros path next (suc words) j lt =
    let n = next j lt in
    not_all (ends macros (suc words)) (list_at macros (get_or path j 0)) n.2.lexeme n.2.member
    (ap (λ (o : Option (List Lexeme)). list_all (ends macros words) (unwrap_or o [])) (place_list macros n.2.lexeme (get_or path n.0 0) n.2.place) ∙ never_ends macros path next words n.0 n.1)

first_of : (path : List ℕ) (start : ℕ) → 0 < length path → get_or path 0 start ≡ start → get_or path 0 0 ≡ start
first_of [] start some h = absurd (omega arith)
first_of (x ∷ path) start some h = h

-- where the macro in front has a macro of the path in its list, the first reaches one that reaches itself
pub walk_loops : (macros : List Macro) (start at inner : ℕ) (seen path below : List ℕ) → IsWalk macros start seen path → path ≡ below ++ at ∷ []
    → HasMember macros at inner → 0 < get_or seen inner 0 → get_or seen inner 0 < length (list_at macros inner) + 2 → (words : ℕ) → list_all (ends macros words) (list_at macros start) ≡ false
walk_loops macros start at inner seen path below walk path-is member begun unfinished words =
    let end : length path ≡ length below + 1 = ap length path-is ∙ length_push below at in
    let last : get_or path (length below) 0 ≡ at = ap (λ (t : List ℕ). get_or t (length below) 0) path-is ∙ last_at below at 0 in
    let back = walk.on_path inner begun unfinished in
    let next : (j : ℕ) → j < length path → (n : ℕ) × (n < length path) × HasMember macros (get_or path j 0) (get_or path n 0) = λ j lt. elim (cases_lt (j + 1) (length path)) [
      | inl inside ↦ (j + 1, inside, walk.chain j inside)
      | inr at_end ↦ (
          let this : j ≡ length below = omega (arith, lt, at_end, end) in
          let a-is : get_or path j 0 ≡ at = ap (λ (n : ℕ). get_or path n 0) this ∙ last in
          (back.0, back.1, subst (λ (n : ℕ). HasMember macros n (get_or path back.0 0)) (sym a-is) (subst (λ (n : ℕ). HasMember macros at n) (sym back.2) member)))
    ] in
    let first : get_or path 0 0 ≡ start = first_of path start (omega (arith, end)) walk.bottom in
    subst (λ (n : ℕ). list_all (ends macros words) (list_at macros n) ≡ false) first (never_ends macros path next words 0 (omega (arith, end)))

-- the list of a macro that was read at its place
pub list_read : (macros : List Macro) (place : ℕ) (m : Macro) → place < length macros → m ≡ get_or macros place m → unwrap_or m.lexemes [] ≡ list_at macros place
list_read [] place m lt e = absurd (omega arith)
list_read (first ∷ macros) zero m lt e = ap (λ (x : Macro). unwrap_or x.lexemes []) e
list_read (first ∷ macros) (suc place) m lt e = list_read macros place m (omega arith) e

-- a macro that a lexeme of a list is
pub member_read : (macros : List Macro) (at inner k : ℕ) (list : List Lexeme) (lexeme : Lexeme) → list ≡ list_at macros at → k < length list → lexeme ≡ get_or list k lexeme → Some inner ≡ place_of macros lexeme → HasMember macros at inner
member_read macros at inner k list lexeme list-is lt e place = record {
  lexeme = lexeme;
  member = subst (λ (l : List Lexeme). IsMember lexeme l) list-is (subst (λ (x : Lexeme). IsMember x list) (sym e) (member_at list k lexeme lt));
  place = sym place;
}

-- ---- one turn of the walk

-- what a turn of the walk reads: the macro in front, its list, and how many lexemes of it are done
pub record IsTurn (macros : List Macro) (start at : ℕ) (seen path : List ℕ) (list : List Lexeme) (done : ℕ) : Type 0 where
  pub walk : IsWalk macros start seen path
  pub here : Some at ≡ slice_get path (length path - 1)
  pub list_is : list ≡ list_at macros at
  pub done_is : done ≡ get_or seen at 0 - 1

front_at : (path : List ℕ) (at k : ℕ) → length path ≡ suc k → Some at ≡ slice_get path k → path ≡ take k path ++ at ∷ []
front_at [] at k size h = absurd (omega arith)
front_at (x ∷ path) at zero size h =
    let none : path ≡ [] = nil_from_length path (omega arith) in
    ap (λ (t : List ℕ). x ∷ t) none ∙ ap (λ (y : ℕ). y ∷ []) (sym (same_Some at x h))
front_at (x ∷ path) at (suc k) size h = ap (λ (t : List ℕ). x ∷ t) (front_at path at k (omega arith) h)

pub some_front : (path : List ℕ) (at : ℕ) → Some at ≡ slice_get path (length path - 1) → 0 < length path
some_front [] at h = absurd cc
some_front (x ∷ path) at h = omega arith

pub none_front : (path : List ℕ) → None ≡ slice_get path (length path - 1) → length path ≡ 0
none_front path h =
    elim (cases_lt 0 (length path)) [
      | inl some ↦ absurd (none-some (get_or path (length path - 1) 0) (h ∙ slice_get-get_or path (length path - 1) 0 (omega arith)))
      | inr none ↦ omega arith
    ]

front_of : (path : List ℕ) (at : ℕ) → Some at ≡ slice_get path (length path - 1) → path ≡ take (length path - 1) path ++ at ∷ []
front_of path at h =
    let some = some_front path at h in
    front_at path at (length path - 1) (omega arith) h

-- the macro in front is one of the macros
pub front_within : (macros : List Macro) (start at : ℕ) (seen path : List ℕ) → IsWalk macros start seen path → Some at ≡ slice_get path (length path - 1) → at < length macros
front_within macros start at seen path walk h =
    let some = some_front path at h in
    subst (λ (n : ℕ). n < length macros) (get_or_from_slice_get path (length path - 1) at 0 (sym h)) (walk.places (length path - 1) (omega arith))

turn_place : (macros : List Macro) (start at : ℕ) (seen path : List ℕ) (list : List Lexeme) (done : ℕ) → IsTurn macros start at seen path list done → (j : ℕ) × (j < length path) × (get_or path j 0 ≡ at)
turn_place macros start at seen path list done turn =
    let some = some_front path at turn.here in
    (length path - 1, omega arith, get_or_from_slice_get path (length path - 1) at 0 (sym turn.here))

pub turn_within : (macros : List Macro) (start at : ℕ) (seen path : List ℕ) (list : List Lexeme) (done : ℕ) → IsTurn macros start at seen path list done → at < length macros
turn_within macros start at seen path list done turn =
    let p = turn_place macros start at seen path list done turn in
    subst (λ (n : ℕ). n < length macros) p.2 (turn.walk.places p.0 p.1)

pub turn_pop : (macros : List Macro) (start at : ℕ) (seen path : List ℕ) (list : List Lexeme) (done : ℕ) → IsTurn macros start at seen path list done → length list ≤ done
    → IsWalk macros start (set seen at (length list + 2)) (take (length path - 1) path)
turn_pop macros start at seen path list done turn ended =
    let same : length list ≡ length (list_at macros at) = ap length turn.list_is in
    rw same (walk_pop macros start at seen path (take (length path - 1) path) turn.walk (front_of path at turn.here) (omega (arith, turn.done_is)))

on_lexeme : (macros : List Macro) (start at : ℕ) (seen path : List ℕ) (list : List Lexeme) (done : ℕ) (lexeme : Lexeme) → IsTurn macros start at seen path list done → done < length list → lexeme ≡ get_or list done lexeme
    → ends macros (suc (total seen)) lexeme ≡ true → IsWalk macros start (set seen at (done + 2)) path
on_lexeme macros start at seen path list done lexeme turn inside lexeme-is ended =
    let lexeme_here : get_or (list_at macros at) (get_or seen at 0 - 1) lexeme ≡ lexeme = ap (λ (n : ℕ). get_or (list_at macros at) n lexeme) (sym turn.done_is) ∙ ap (λ (l : List Lexeme). get_or l done lexeme) (sym turn.list_is) ∙ sym lexeme-is in
    let inside_here : get_or seen at 0 - 1 < length (list_at macros at) = omega (arith, turn.done_is, ap length turn.list_is) in
    rw turn.done_is (walk_on macros start at seen path lexeme turn.walk (turn_within macros start at seen path list done turn) (turn_place macros start at seen path list done turn) inside_here lexeme_here ended)

pub turn_plain : (macros : List Macro) (start at : ℕ) (seen path : List ℕ) (list : List Lexeme) (done : ℕ) (lexeme : Lexeme) → IsTurn macros start at seen path list done → done < length list → lexeme ≡ get_or list done lexeme
    → None ≡ place_of macros lexeme → IsWalk macros start (set seen at (done + 2)) path
turn_plain macros start at seen path list done lexeme turn inside lexeme-is plain =
    on_lexeme macros start at seen path list done lexeme turn inside lexeme-is (plain_ends macros lexeme (total seen) (sym plain))

pub turn_done : (macros : List Macro) (start at inner : ℕ) (seen path : List ℕ) (list : List Lexeme) (done : ℕ) (lexeme : Lexeme) → IsTurn macros start at seen path list done → done < length list → lexeme ≡ get_or list done lexeme
    → Some inner ≡ place_of macros lexeme → length (list_at macros inner) + 2 ≤ get_or seen inner 0 → IsWalk macros start (set seen at (done + 2)) path
turn_done macros start at inner seen path list done lexeme turn inside lexeme-is place ended =
    on_lexeme macros start at seen path list done lexeme turn inside lexeme-is (done_ends macros start inner seen path lexeme turn.walk (sym place) ended)

pub turn_push : (macros : List Macro) (start at inner : ℕ) (seen path : List ℕ) (list : List Lexeme) (done : ℕ) (lexeme : Lexeme) → IsTurn macros start at seen path list done → done < length list → lexeme ≡ get_or list done lexeme
    → Some inner ≡ place_of macros lexeme → inner < length macros → get_or seen inner 0 ≡ 0 → IsWalk macros start (set seen inner 1) (path ++ inner ∷ [])
turn_push macros start at inner seen path list done lexeme turn inside lexeme-is place within fresh =
    walk_push macros start at inner seen path (take (length path - 1) path) turn.walk (front_of path at turn.here) within fresh (member_read macros at inner done list lexeme turn.list_is inside lexeme-is place)

pub turn_loops : (macros : List Macro) (start at inner : ℕ) (seen path : List ℕ) (list : List Lexeme) (done : ℕ) (lexeme : Lexeme) → IsTurn macros start at seen path list done → done < length list → lexeme ≡ get_or list done lexeme
    → Some inner ≡ place_of macros lexeme → 0 < get_or seen inner 0 → get_or seen inner 0 < length (list_at macros inner) + 2 → (words : ℕ) → list_all (ends macros words) (list_at macros start) ≡ false
turn_loops macros start at inner seen path list done lexeme turn inside lexeme-is place begun unfinished words =
    walk_loops macros start at inner seen path (take (length path - 1) path) turn.walk (front_of path at turn.here) (member_read macros at inner done list lexeme turn.list_is inside lexeme-is place) begun unfinished words

-- ---- the walk goes on

pub smaller_pop : (macros : List Macro) (start at v : ℕ) (seen path below : List ℕ) → IsWalk macros start seen path → at < length macros → get_or seen at 0 ≤ v → length path ≡ length below + 1
    → 2 * (sizes_of macros - total (set seen at v)) + length below < 2 * (sizes_of macros - total seen) + length path
smaller_pop macros start at v seen path below walk within grown shorter =
    let at_seen : at < length seen = omega (arith, walk.sized) in
    omega (arith, total-set seen at v at_seen)

pub smaller_on : (macros : List Macro) (start at v : ℕ) (seen path : List ℕ) → IsWalk macros start seen path → at < length macros → get_or seen at 0 < v → IsWalk macros start (set seen at v) path
    → 2 * (sizes_of macros - total (set seen at v)) + length path < 2 * (sizes_of macros - total seen) + length path
smaller_on macros start at v seen path walk within grown after =
    let at_seen : at < length seen = omega (arith, walk.sized) in
    omega (arith, total-set seen at v at_seen, total_within (set seen at v) macros after.sized after.bounded)

pub smaller_push : (macros : List Macro) (start inner : ℕ) (seen path : List ℕ) → IsWalk macros start seen path → inner < length macros → get_or seen inner 0 ≡ 0 → IsWalk macros start (set seen inner 1) (path ++ inner ∷ [])
    → 2 * (sizes_of macros - total (set seen inner 1)) + length (path ++ inner ∷ []) < 2 * (sizes_of macros - total seen) + length path
smaller_push macros start inner seen path walk within fresh after =
    let in_seen : inner < length seen = omega (arith, walk.sized) in
    omega (arith, total-set seen inner 1 in_seen, total_within (set seen inner 1) macros after.sized after.bounded, length_push path inner)
