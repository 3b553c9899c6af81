-- What a list of lexemes makes, one lexeme at a time, and that nothing which reaches itself makes an end.
use Rattle.std.proofs.Common.{◌≡◌, ℕ, zero, suc, ◌+◌, ◌-◌, ◌<◌, ◌≤◌, Bool, true, false, not, List, [], ◌∷◌, ◌++◌, length, Option, Some, None, Ok, Err, refl, sym, ap, subst, ◌∙◌, append_assoc, arith, inl, inr, Bor}
use Rattle.std.specs.Prelude.{unwrap_or, option_map, is_none}
use Rattle.std.specs.Bool.{MatchBool}
use Rattle.std.specs.List.{list_all}
use Rattle.std.proofs.lemmas.Bool.{cases_lt, and_parts, and_from}
use Rattle.std.proofs.lemmas.List.{append-nil}
use Rattle.std.proofs.lemmas.Option.{same_Some}
use Rattle.wm_lang.specs.declared.place.Place.{Place}
use Rattle.wm_lang.specs.declared.token.Token.{Token}
use Rattle.wm_lex.specs.declared.definitions.Macro.{Macro}
use Rattle.wm_lex.specs.declared.fault.LexFault.TheVariants.{MacroLoop, TooManyTokens}
use Rattle.wm_lex.specs.declared.lexeme.Lexeme.{Lexeme}
use Rattle.wm_lex.specs.Lexemes.{token_of}
use Rattle.wm_lex.specs.Lines.{Progress, with_made, after_lexeme}
use Rattle.wm_lex.specs.Replacing.{Made, made, replacement_of, token_unless, replaced, ends, sizes_of, path_bound, loops}

-- ---- paths

pub list_all_more : (p q : Lexeme → Bool) (xs : List Lexeme) → ((x : Lexeme) → p x ≡ true → q x ≡ true) → list_all p xs ≡ true → list_all q xs ≡ true
list_all_more p q [] more h = refl
list_all_more p q (x ∷ xs) more h =
    let parts = and_parts (p x) (list_all p xs) h in
    and_from (q x) (list_all q xs) (more x parts.0) (list_all_more p q xs more parts.1)

pub list_all_left : (p : Lexeme → Bool) (xs ys : List Lexeme) → list_all p (xs ++ ys) ≡ true → list_all p xs ≡ true
list_all_left p [] ys h = refl
list_all_left p (x ∷ xs) ys h =
    let parts = and_parts (p x) (list_all p (xs ++ ys)) h in
    and_from (p x) (list_all p xs) parts.0 (list_all_left p xs ys parts.1)

pub list_all_right : (p : Lexeme → Bool) (xs ys : List Lexeme) → list_all p (xs ++ ys) ≡ true → list_all p ys ≡ true
list_all_right p [] ys h = h
list_all_right p (x ∷ xs) ys h = list_all_right p xs ys (and_parts (p x) (list_all p (xs ++ ys)) h).1

none_ends : (o : Option (List Lexeme)) (p : Lexeme → Bool) → is_none o ≡ true → list_all p (unwrap_or o []) ≡ true
none_ends None p h = refl
none_ends (Some list) p h = absurd cc

-- what ends within some words ends within more
pub ends_more : (macros : List Macro) (words : ℕ) (lexeme : Lexeme) → ends macros words lexeme ≡ true → ends macros (suc words) lexeme ≡ true
unfolding ends
ends_more macros zero lexeme h = none_ends (replacement_of macros lexeme) (ends macros zero) h
ends_more macros (suc words) lexeme h =
    list_all_more (ends macros words) (ends macros (suc words)) (unwrap_or (replacement_of macros lexeme) []) (λ x hx. ends_more macros words x hx) h

pub ends_up : (macros : List Macro) (lexeme : Lexeme) (most words : ℕ) → words ≤ most → ends macros words lexeme ≡ true → ends macros most lexeme ≡ true
ends_up macros lexeme zero words le h =
    let same : words ≡ 0 = omega arith in
    subst (λ (n : ℕ). ends macros n lexeme ≡ true) same h
ends_up macros lexeme (suc most) words le h =
    elim (cases_lt words (suc most)) [
      | inl lt ↦ ends_more macros most lexeme (ends_up macros lexeme most words (omega arith) h)
      | inr ge ↦ (let same : words ≡ suc most = omega arith in subst (λ (n : ℕ). ends macros n lexeme ≡ true) same h)
    ]

-- what is replaced within some room ends within as many words
pub replaced_ends : (macros : List Macro) (place : Place) (room : ℕ) (tokens : List Token) (left : List Lexeme) (m : Made)
    → replaced macros place room tokens left ≡ Some m → list_all (ends macros room) left ≡ true
unfolding replaced ends
replaced_ends macros place room tokens [] m h = refl
replaced_ends macros place zero tokens (lexeme ∷ left) m h = absurd cc
replaced_ends macros place (suc room) tokens (lexeme ∷ left) m h =
    let list = unwrap_or (replacement_of macros lexeme) [] in
    let all = replaced_ends macros place room (tokens ++ token_unless (replacement_of macros lexeme) (token_of lexeme place)) (list ++ left) m h in
    and_from (ends macros (suc room) lexeme) (list_all (ends macros (suc room)) left) (list_all_left (ends macros room) list left all)
    (list_all_more (ends macros room) (ends macros (suc room)) left (λ x hx. ends_more macros room x hx) (list_all_right (ends macros room) list left all))

pub bound_is : (macros : List Macro) → 1000001 + sizes_of macros ≤ path_bound macros
unfolding path_bound
bound_is macros = omega arith

-- what ends within some words that are not above the bound does not loop
pub no_loop : (macros : List Macro) (lexeme : Lexeme) (words : ℕ) → words ≤ 1000001 + sizes_of macros → ends macros words lexeme ≡ true → loops macros lexeme ≡ false
no_loop macros lexeme words le h =
    let most : words ≤ path_bound macros = omega (arith, bound_is macros) in
    ap not (ends_up macros lexeme (path_bound macros) words most h)

pub plain_no_loop : (macros : List Macro) (lexeme : Lexeme) → replacement_of macros lexeme ≡ None → loops macros lexeme ≡ false
unfolding ends
plain_no_loop macros lexeme plain = no_loop macros lexeme 0 (omega arith) (ap is_none plain)

pub made_no_loop : (macros : List Macro) (place : Place) (room : ℕ) (tokens : List Token) (lexeme : Lexeme) (m : Made)
    → room ≤ 1000000 → replaced macros place room tokens (lexeme ∷ []) ≡ Some m → loops macros lexeme ≡ false
made_no_loop macros place room tokens lexeme m within h =
    no_loop macros lexeme room (omega arith) (and_parts (ends macros room lexeme) true (replaced_ends macros place room tokens (lexeme ∷ []) m h)).0

-- ---- what a lexeme of a text does

pub plain_full : (p : Progress) (place : Place) (lexeme : Lexeme) → replacement_of p.macros lexeme ≡ None → p.room ≡ 0 → after_lexeme p place lexeme ≡ Err (TooManyTokens place)
unfolding after_lexeme replaced
plain_full p place lexeme plain full = rw (plain_no_loop p.macros lexeme plain, full) refl

read_straight : (p : Progress) (place : Place) (lexeme : Lexeme) → loops p.macros lexeme ≡ false
    → after_lexeme p place lexeme ≡ with_made p place (replaced p.macros place p.room p.tokens (lexeme ∷ []))
unfolding after_lexeme
read_straight p place lexeme straight = rw straight refl

one_token : (macros : List Macro) (place : Place) (room : ℕ) (tokens : List Token) (lexeme : Lexeme) → replacement_of macros lexeme ≡ None
    → replaced macros place (suc room) tokens (lexeme ∷ []) ≡ Some (made (tokens ++ token_of lexeme place ∷ []) room)
unfolding replaced
one_token macros place room tokens lexeme plain =
    ap (λ (o : Option (List Lexeme)). replaced macros place room (tokens ++ token_unless o (token_of lexeme place)) (unwrap_or o [] ++ [])) plain

pub plain_token : (p : Progress) (place : Place) (lexeme : Lexeme) (room : ℕ) → replacement_of p.macros lexeme ≡ None → p.room ≡ suc room
    → after_lexeme p place lexeme ≡ Ok (record { macros = p.macros; tokens = p.tokens ++ token_of lexeme place ∷ []; room = room })
plain_token p place lexeme room plain some =
    read_straight p place lexeme (plain_no_loop p.macros lexeme plain)
    ∙ ap (λ (n : ℕ). with_made p place (replaced p.macros place n p.tokens (lexeme ∷ []))) some
    ∙ ap (with_made p place) (one_token p.macros place room p.tokens lexeme plain)

pub macro_made : (p : Progress) (place : Place) (lexeme : Lexeme) (m : Made) → p.room ≤ 1000000 → replaced p.macros place p.room p.tokens (lexeme ∷ []) ≡ Some m
    → after_lexeme p place lexeme ≡ Ok (record { macros = p.macros; tokens = m.tokens; room = m.room })
unfolding after_lexeme
macro_made p place lexeme m within h = rw (made_no_loop p.macros place p.room p.tokens lexeme m within h, h) refl

pub macro_loops : (p : Progress) (place : Place) (lexeme : Lexeme) → loops p.macros lexeme ≡ true → after_lexeme p place lexeme ≡ Err (MacroLoop place)
unfolding after_lexeme
macro_loops p place lexeme h = rw h refl

pub macro_full : (p : Progress) (place : Place) (lexeme : Lexeme) → loops p.macros lexeme ≡ false → replaced p.macros place p.room p.tokens (lexeme ∷ []) ≡ None
    → after_lexeme p place lexeme ≡ Err (TooManyTokens place)
unfolding after_lexeme
macro_full p place lexeme straight h = rw (straight, h) refl

-- a macro of room r leaves at most that room
pub room_left : (macros : List Macro) (place : Place) (room : ℕ) (tokens : List Token) (left : List Lexeme) (m : Made)
    → replaced macros place room tokens left ≡ Some m → m.room ≤ room
unfolding replaced
room_left macros place room tokens [] m h = let same : made tokens room ≡ m = same_Some (made tokens room) m h in rw (← same) (omega arith)
room_left macros place zero tokens (lexeme ∷ left) m h = absurd cc
room_left macros place (suc room) tokens (lexeme ∷ left) m h =
    let one = room_left macros place room (tokens ++ token_unless (replacement_of macros lexeme) (token_of lexeme place)) (unwrap_or (replacement_of macros lexeme) [] ++ left) m h in
    omega arith

-- ---- the lists that are open

-- what is left of the lists, the last first
abbrev pub pending : List (Bor (List Lexeme)) → List Lexeme
pending [] = []
pending (list ∷ lists) = pending lists ++ list.now

pub pending_push : (lists : List (Bor (List Lexeme))) (list : Bor (List Lexeme)) → pending (lists ++ list ∷ []) ≡ list.now ++ pending lists
pending_push [] list = sym (append-nil list.now)
pending_push (first ∷ lists) list = ap (λ (t : List Lexeme). t ++ first.now) (pending_push lists list) ∙ append_assoc list.now (pending lists) first.now

-- an empty list goes
pub list_done : (macros : List Macro) (place : Place) (room : ℕ) (tokens : List Token) (stack below : List (Bor (List Lexeme))) (list : Bor (List Lexeme)) (total : Option Made)
    → stack ≡ below ++ list ∷ [] → list.now ≡ [] → replaced macros place room tokens (pending stack) ≡ total → replaced macros place room tokens (pending below) ≡ total
list_done macros place room tokens stack below list total stack-is none so_far =
    let same : pending stack ≡ pending below = ap pending stack-is ∙ pending_push below list ∙ ap (λ (t : List Lexeme). t ++ pending below) none in
    ap (replaced macros place room tokens) (sym same) ∙ so_far

-- a lexeme stands in front
first_of_lists : (stack below : List (Bor (List Lexeme))) (list : Bor (List Lexeme)) (lexeme : Lexeme) (left : List Lexeme)
    → stack ≡ below ++ list ∷ [] → list.now ≡ lexeme ∷ left → pending stack ≡ lexeme ∷ (left ++ pending below)
first_of_lists stack below list lexeme left stack-is list-is =
    ap pending stack-is ∙ pending_push below list ∙ ap (λ (t : List Lexeme). t ++ pending below) list-is

pub no_room : (macros : List Macro) (place : Place) (room : ℕ) (tokens : List Token) (stack below : List (Bor (List Lexeme))) (list : Bor (List Lexeme)) (lexeme : Lexeme) (left : List Lexeme) (total : Option Made)
    → stack ≡ below ++ list ∷ [] → list.now ≡ lexeme ∷ left → room ≡ 0 → replaced macros place room tokens (pending stack) ≡ total → total ≡ None
unfolding replaced
no_room macros place room tokens stack below list lexeme left total stack-is list-is full so_far =
    let one : replaced macros place 0 tokens (lexeme ∷ (left ++ pending below)) ≡ total = ap (λ (n : ℕ). replaced macros place n tokens (lexeme ∷ (left ++ pending below))) (sym full) ∙ ap (replaced macros place room tokens) (sym (first_of_lists stack below list lexeme left stack-is list-is)) ∙ so_far in
    sym one

next_lexeme : (macros : List Macro) (place : Place) (room : ℕ) (tokens : List Token) (stack below : List (Bor (List Lexeme))) (list : Bor (List Lexeme)) (lexeme : Lexeme) (left : List Lexeme) (total : Option Made)
    → stack ≡ below ++ list ∷ [] → list.now ≡ lexeme ∷ left → 0 < room → replaced macros place room tokens (pending stack) ≡ total
    → replaced macros place (room - 1) (tokens ++ token_unless (replacement_of macros lexeme) (token_of lexeme place)) (unwrap_or (replacement_of macros lexeme) [] ++ (left ++ pending below)) ≡ total
unfolding replaced
next_lexeme macros place room tokens stack below list lexeme left total stack-is list-is some so_far =
    let more : room ≡ suc (room - 1) = omega arith in
    let one : replaced macros place (suc (room - 1)) tokens (lexeme ∷ (left ++ pending below)) ≡ total = ap (λ (n : ℕ). replaced macros place n tokens (lexeme ∷ (left ++ pending below))) (sym more) ∙ ap (replaced macros place room tokens) (sym (first_of_lists stack below list lexeme left stack-is list-is)) ∙ so_far in
    one

-- a lexeme that no list replaces is a token
pub lexeme_token : (macros : List Macro) (place : Place) (room : ℕ) (tokens : List Token) (stack below : List (Bor (List Lexeme))) (list : Bor (List Lexeme)) (lexeme : Lexeme) (left : Bor (List Lexeme)) (total : Option Made)
    → stack ≡ below ++ list ∷ [] → list.now ≡ lexeme ∷ left.now → 0 < room → replacement_of macros lexeme ≡ None → replaced macros place room tokens (pending stack) ≡ total
    → replaced macros place (room - 1) (tokens ++ token_of lexeme place ∷ []) (pending (below ++ left ∷ [])) ≡ total
lexeme_token macros place room tokens stack below list lexeme left total stack-is list-is some plain so_far =
    let one = next_lexeme macros place room tokens stack below list lexeme left.now total stack-is list-is some so_far in
    let two : replaced macros place (room - 1) (tokens ++ token_of lexeme place ∷ []) (left.now ++ pending below) ≡ total =
    ap (λ (o : Option (List Lexeme)). replaced macros place (room - 1) (tokens ++ token_unless o (token_of lexeme place)) (unwrap_or o [] ++ (left.now ++ pending below))) (sym plain) ∙ one in
    ap (replaced macros place (room - 1) (tokens ++ token_of lexeme place ∷ [])) (pending_push below left) ∙ two

-- a macro is replaced by its list
pub lexeme_list : (macros : List Macro) (place : Place) (room : ℕ) (tokens : List Token) (stack below : List (Bor (List Lexeme))) (list : Bor (List Lexeme)) (lexeme : Lexeme) (left inner : Bor (List Lexeme)) (total : Option Made)
    → stack ≡ below ++ list ∷ [] → list.now ≡ lexeme ∷ left.now → 0 < room → replacement_of macros lexeme ≡ Some inner.now → replaced macros place room tokens (pending stack) ≡ total
    → replaced macros place (room - 1) tokens (pending ((below ++ left ∷ []) ++ inner ∷ [])) ≡ total
lexeme_list macros place room tokens stack below list lexeme left inner total stack-is list-is some macro so_far =
    let one = next_lexeme macros place room tokens stack below list lexeme left.now total stack-is list-is some so_far in
    let two : replaced macros place (room - 1) (tokens ++ []) (inner.now ++ (left.now ++ pending below)) ≡ total =
    ap (λ (o : Option (List Lexeme)). replaced macros place (room - 1) (tokens ++ token_unless o (token_of lexeme place)) (unwrap_or o [] ++ (left.now ++ pending below))) (sym macro) ∙ one in
    let same : pending ((below ++ left ∷ []) ++ inner ∷ []) ≡ inner.now ++ (left.now ++ pending below) = pending_push (below ++ left ∷ []) inner ∙ ap (λ (t : List Lexeme). inner.now ++ t) (pending_push below left) in
    ap (replaced macros place (room - 1) tokens) same ∙ ap (λ (t : List Token). replaced macros place (room - 1) t (inner.now ++ (left.now ++ pending below))) (sym (append-nil tokens)) ∙ two

pub lists_end : (macros : List Macro) (place : Place) (room : ℕ) (tokens : List Token) (stack : List (Bor (List Lexeme))) (total : Option Made)
    → stack ≡ [] → replaced macros place room tokens (pending stack) ≡ total → total ≡ Some (made tokens room)
unfolding replaced
lists_end macros place room tokens stack total none so_far = sym (ap (λ (t : List (Bor (List Lexeme))). replaced macros place room tokens (pending t)) (sym none) ∙ so_far)

-- the bound is not 0
bound_suc : (macros : List Macro) → path_bound macros ≡ suc (1000000 + sizes_of macros)
unfolding path_bound
bound_suc macros = omega arith

-- a macro loops where what its list reaches never ends, and does not where that ends
pub reached : (macros : List Macro) (lexeme : Lexeme) (list : List Lexeme) (looped : Bool) → replacement_of macros lexeme ≡ Some list
    → MatchBool looped ((words : ℕ) → list_all (ends macros words) list ≡ false) (list_all (ends macros (sizes_of macros)) list ≡ true) → looped ≡ loops macros lexeme
unfolding ends
reached macros lexeme list true macro never =
    let one : ends macros (suc (1000000 + sizes_of macros)) lexeme ≡ false = ap (λ (o : Option (List Lexeme)). list_all (ends macros (1000000 + sizes_of macros)) (unwrap_or o [])) macro ∙ never (1000000 + sizes_of macros) in
    sym (ap (λ (n : ℕ). not (ends macros n lexeme)) (bound_suc macros) ∙ ap not one)
reached macros lexeme list false macro all =
    let one : ends macros (suc (sizes_of macros)) lexeme ≡ true = ap (λ (o : Option (List Lexeme)). list_all (ends macros (sizes_of macros)) (unwrap_or o [])) macro ∙ all in
    sym (no_loop macros lexeme (suc (sizes_of macros)) (omega arith) one)

-- what was replaced, by the room that is left
pub made_some : (o : Option ℕ) (room : ℕ) (tokens : List Token) (r : Option Made) → option_map (λ (n : ℕ). made tokens n) o ≡ r → o ≡ Some room → r ≡ Some (made tokens room)
made_some o room tokens r h e = sym h ∙ ap (option_map (λ (n : ℕ). made tokens n)) e

pub made_none : (o : Option ℕ) (tokens : List Token) (r : Option Made) → option_map (λ (n : ℕ). made tokens n) o ≡ r → o ≡ None → r ≡ None
made_none o tokens r h e = sym h ∙ ap (option_map (λ (n : ℕ). made tokens n)) e
