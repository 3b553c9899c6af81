-- Lines and texts, one after the other, with the first fault that is met.
use Rattle.std.proofs.Common.{◌≡◌, ℕ, zero, suc, ◌+◌, ◌-◌, ◌<◌, ◌≤◌, Bool, true, false, List, [], ◌∷◌, ◌++◌, length, get_or, take, drop, map, Result, Ok, Err, refl, sym, ap, subst, ◌∙◌, arith, add-one, append_assoc}
use Rattle.std.specs.Prelude.{◌==◌, nat_eq}
use Rattle.std.specs.Global.{Vec}
use Rattle.std.proofs.lemmas.Bool.{and_right, ne_eqb}
use Rattle.std.proofs.lemmas.List.{drop_more, drop_all, take_more, get_or-drop, length-drop, take_all}
use Rattle.wm_lang.specs.declared.place.Place.{Place}
use Rattle.wm_lang.specs.declared.token.Token.{Token}
use Rattle.wm_lex.specs.declared.character.Character.{Character}
use Rattle.wm_lex.specs.declared.fault.LexFault.{LexFault}
use Rattle.wm_lex.specs.declared.fault.LexFault.TheVariants.{BadByte, OpenComment, BadNumber, BadDirective, MacroLoop, TooManyTokens, NoMemory}
use Rattle.wm_lex.specs.declared.lexeme.Lexeme.{Lexeme}
use Rattle.wm_lex.specs.declared.piece.Piece.{Piece}
use Rattle.wm_lex.specs.Answers.{◌>>=◌, Fails, Gives}
use Rattle.wm_lex.specs.Pieces.{lexeme_at, lexeme_of}
use Rattle.wm_lex.specs.Lines.{Progress, after_lexeme, after_pieces, after_line, after_lines, after_text, after_texts, at_start, tokens_of, lexemes_of, is_lexeme, are_lexemes}

-- a step that fails makes the whole fail
pub fails_then : {A B : Type 0} (e : LexFault) (r : Result A LexFault) (f : A → Result B LexFault) → Fails e r → Fails e (r >>= f)
fails_then (BadByte place) r f h = ap (λ x. x >>= f) h
fails_then (OpenComment place) r f h = ap (λ x. x >>= f) h
fails_then (BadNumber place) r f h = ap (λ x. x >>= f) h
fails_then (BadDirective place) r f h = ap (λ x. x >>= f) h
fails_then (MacroLoop place) r f h = ap (λ x. x >>= f) h
fails_then (TooManyTokens place) r f h = ap (λ x. x >>= f) h
fails_then NoMemory r f h = tt

pub fails_along : {B : Type 0} (e : LexFault) (r total : Result B LexFault) → r ≡ total → Fails e r → Fails e total
fails_along {B} e r total same h = subst (λ (x : Result B LexFault). Fails e x) same h

-- ---- pieces of a line of text

pub pieces_step : (p q : Progress) (piece : Piece) (left rest : List Piece) (lexeme : Lexeme) (total : Result Progress LexFault)
    → left ≡ piece ∷ rest → lexeme_at piece.kind piece.place ≡ Ok lexeme → after_lexeme p piece.place lexeme ≡ Ok q → after_pieces p left ≡ total → after_pieces q rest ≡ total
pieces_step p q piece left rest lexeme total left-is good read so_far =
    let one : after_pieces p (piece ∷ rest) ≡ total = ap (after_pieces p) (sym left-is) ∙ so_far in
    let two : after_pieces p (piece ∷ rest) ≡ after_pieces q rest = ap (λ (r : Result Lexeme LexFault). (r >>= after_lexeme p piece.place) >>= λ next. after_pieces next rest) good ∙ ap (λ (r : Result Progress LexFault). r >>= λ next. after_pieces next rest) read in
    sym two ∙ one

pub pieces_bad : (p : Progress) (piece : Piece) (left rest : List Piece) (e : LexFault) (total : Result Progress LexFault)
    → left ≡ piece ∷ rest → Fails e (lexeme_at piece.kind piece.place) → after_pieces p left ≡ total → Fails e total
pieces_bad p piece left rest e total left-is bad so_far =
    fails_along e (after_pieces p (piece ∷ rest)) total (ap (after_pieces p) (sym left-is) ∙ so_far)
    (fails_then e (lexeme_of piece >>= after_lexeme p piece.place) (λ next. after_pieces next rest) (fails_then e (lexeme_of piece) (after_lexeme p piece.place) bad))

pub pieces_fail : (p : Progress) (piece : Piece) (left rest : List Piece) (lexeme : Lexeme) (e : LexFault) (total : Result Progress LexFault)
    → left ≡ piece ∷ rest → lexeme_at piece.kind piece.place ≡ Ok lexeme → Fails e (after_lexeme p piece.place lexeme) → after_pieces p left ≡ total → Fails e total
pieces_fail p piece left rest lexeme e total left-is good bad so_far =
    let one : Fails e (lexeme_of piece >>= after_lexeme p piece.place) = fails_along e (after_lexeme p piece.place lexeme) (lexeme_of piece >>= after_lexeme p piece.place) (ap (λ (r : Result Lexeme LexFault). r >>= after_lexeme p piece.place) (sym good)) bad in
    fails_along e (after_pieces p (piece ∷ rest)) total (ap (after_pieces p) (sym left-is) ∙ so_far)
    (fails_then e (lexeme_of piece >>= after_lexeme p piece.place) (λ next. after_pieces next rest) one)

pub pieces_end : (p : Progress) (left : List Piece) (total : Result Progress LexFault) → left ≡ [] → after_pieces p left ≡ total → total ≡ Ok p
pieces_end p left total none so_far = sym so_far ∙ ap (after_pieces p) none

-- ---- the lexemes of a list

regroup : (found : List Lexeme) (lexeme : Lexeme) (r : Result (List Lexeme) LexFault) → (r >>= λ more. Ok ((found ++ lexeme ∷ []) ++ more)) ≡ ((r >>= λ more. Ok (lexeme ∷ more)) >>= λ more. Ok (found ++ more))
regroup found lexeme (Ok more) = ap (λ (t : List Lexeme). Ok t) (append_assoc found (lexeme ∷ []) more)
regroup found lexeme (Err fault) = refl

pub lexemes_step : (found : List Lexeme) (pieces : List Piece) (i : ℕ) (piece : Piece) (lexeme : Lexeme) (total : Result (List Lexeme) LexFault)
    → i < length pieces → get_or pieces i piece ≡ piece → lexeme_at piece.kind piece.place ≡ Ok lexeme
    → (lexemes_of (drop i pieces) >>= λ more. Ok (found ++ more)) ≡ total → (lexemes_of (drop (i + 1) pieces) >>= λ more. Ok ((found ++ lexeme ∷ []) ++ more)) ≡ total
lexemes_step found pieces i piece lexeme total lt here good so_far =
    let first : drop i pieces ≡ piece ∷ drop (i + 1) pieces = drop_more pieces i piece lt ∙ ap (λ (x : Piece). x ∷ drop (i + 1) pieces) here in
    let one : (lexemes_of (piece ∷ drop (i + 1) pieces) >>= λ more. Ok (found ++ more)) ≡ total = ap (λ (t : List Piece). lexemes_of t >>= λ more. Ok (found ++ more)) (sym first) ∙ so_far in
    let two : ((lexemes_of (drop (i + 1) pieces) >>= λ more. Ok (lexeme ∷ more)) >>= λ more. Ok (found ++ more)) ≡ total = ap (λ (r : Result Lexeme LexFault). (r >>= λ x. lexemes_of (drop (i + 1) pieces) >>= λ more. Ok (x ∷ more)) >>= λ more. Ok (found ++ more)) (sym good) ∙ one in
    regroup found lexeme (lexemes_of (drop (i + 1) pieces)) ∙ two

pub lexemes_fail : (found : List Lexeme) (pieces : List Piece) (i : ℕ) (piece : Piece) (e : LexFault) (all : Result (List Lexeme) LexFault)
    → i < length pieces → get_or pieces i piece ≡ piece → Fails e (lexeme_at piece.kind piece.place)
    → (lexemes_of (drop i pieces) >>= λ more. Ok (found ++ more)) ≡ all → Fails e all
lexemes_fail found pieces i piece e all lt here bad so_far =
    let first : drop i pieces ≡ piece ∷ drop (i + 1) pieces = drop_more pieces i piece lt ∙ ap (λ (x : Piece). x ∷ drop (i + 1) pieces) here in
    fails_along e (lexemes_of (piece ∷ drop (i + 1) pieces) >>= λ more. Ok (found ++ more)) all (ap (λ (t : List Piece). lexemes_of t >>= λ more. Ok (found ++ more)) (sym first) ∙ so_far)
    (fails_then e (lexemes_of (piece ∷ drop (i + 1) pieces)) (λ more. Ok (found ++ more)) (fails_then e (lexeme_of piece) (λ x. lexemes_of (drop (i + 1) pieces) >>= λ more. Ok (x ∷ more)) bad))

-- ---- lines

line_so_far : (characters : List Character) (start i : ℕ) (c : Character) → start ≤ i → i < length characters → get_or characters i c ≡ c
    → take (i + 1 - start) (drop start characters) ≡ take (i - start) (drop start characters) ++ c ∷ []
line_so_far characters start i c le lt here =
    let count : i + 1 - start ≡ i - start + 1 = omega arith in
    let inside : i - start < length (drop start characters) = omega (arith, length-drop start characters) in
    let place : start + (i - start) ≡ i = omega arith in
    let at : get_or (drop start characters) (i - start) c ≡ c = get_or-drop start characters (i - start) c ∙ ap (λ (n : ℕ). get_or characters n c) place ∙ here in
    ap (λ (n : ℕ). take n (drop start characters)) count ∙ take_more (drop start characters) (i - start) c inside ∙ ap (λ (x : Character). take (i - start) (drop start characters) ++ x ∷ []) at

-- a character goes to the line
pub line_more : (file : ℕ) (p : Progress) (characters : List Character) (start i : ℕ) (c : Character) (total : Result Progress LexFault)
    → start ≤ i → i < length characters → get_or characters i c ≡ c → (c.byte ≡ 10 → ⊥)
    → after_lines file p (take (i - start) (drop start characters)) (drop i characters) ≡ total
    → after_lines file p (take (i + 1 - start) (drop start characters)) (drop (i + 1) characters) ≡ total
line_more file p characters start i c total le lt here other so_far =
    let line = take (i - start) (drop start characters) in
    let first : drop i characters ≡ c ∷ drop (i + 1) characters = drop_more characters i c lt ∙ ap (λ (x : Character). x ∷ drop (i + 1) characters) here in
    let one : after_lines file p line (c ∷ drop (i + 1) characters) ≡ total = ap (after_lines file p line) (sym first) ∙ so_far in
    let test : nat_eq c.byte 10 ≡ false = ne_eqb c.byte 10 other in
    let two : after_lines file p (line ++ c ∷ []) (drop (i + 1) characters) ≡ total = rw test at one in
    ap (λ (t : List Character). after_lines file p t (drop (i + 1) characters)) (line_so_far characters start i c le lt here) ∙ two

-- a line feed ends the line
pub line_ends : (file : ℕ) (p q : Progress) (characters : List Character) (start i : ℕ) (c : Character) (total : Result Progress LexFault)
    → i < length characters → get_or characters i c ≡ c → nat_eq c.byte 10 ≡ true → after_line file p (take (i - start) (drop start characters)) ≡ Ok q
    → after_lines file p (take (i - start) (drop start characters)) (drop i characters) ≡ total
    → after_lines file q (take (i + 1 - (i + 1)) (drop (i + 1) characters)) (drop (i + 1) characters) ≡ total
line_ends file p q characters start i c total lt here feed read so_far =
    let line = take (i - start) (drop start characters) in
    let first : drop i characters ≡ c ∷ drop (i + 1) characters = drop_more characters i c lt ∙ ap (λ (x : Character). x ∷ drop (i + 1) characters) here in
    let one : after_lines file p line (c ∷ drop (i + 1) characters) ≡ total = ap (after_lines file p line) (sym first) ∙ so_far in
    let two : (after_line file p line >>= λ next. after_lines file next [] (drop (i + 1) characters)) ≡ total = rw feed at one in
    let three : after_lines file q [] (drop (i + 1) characters) ≡ total = ap (λ (r : Result Progress LexFault). r >>= λ next. after_lines file next [] (drop (i + 1) characters)) (sym read) ∙ two in
    let nothing : i + 1 - (i + 1) ≡ 0 = omega arith in
    ap (λ (n : ℕ). after_lines file q (take n (drop (i + 1) characters)) (drop (i + 1) characters)) nothing ∙ three

pub line_fails : (file : ℕ) (p : Progress) (characters : List Character) (start i : ℕ) (c : Character) (e : LexFault) (total : Result Progress LexFault)
    → i < length characters → get_or characters i c ≡ c → nat_eq c.byte 10 ≡ true → Fails e (after_line file p (take (i - start) (drop start characters)))
    → after_lines file p (take (i - start) (drop start characters)) (drop i characters) ≡ total → Fails e total
line_fails file p characters start i c e total lt here feed bad so_far =
    let line = take (i - start) (drop start characters) in
    let first : drop i characters ≡ c ∷ drop (i + 1) characters = drop_more characters i c lt ∙ ap (λ (x : Character). x ∷ drop (i + 1) characters) here in
    let one : after_lines file p line (c ∷ drop (i + 1) characters) ≡ total = ap (after_lines file p line) (sym first) ∙ so_far in
    let two : (after_line file p line >>= λ next. after_lines file next [] (drop (i + 1) characters)) ≡ total = rw feed at one in
    fails_along e (after_line file p line >>= λ next. after_lines file next [] (drop (i + 1) characters)) total two (fails_then e (after_line file p line) (λ next. after_lines file next [] (drop (i + 1) characters)) bad)

-- the last line
pub line_last : (file : ℕ) (p : Progress) (characters : List Character) (start i : ℕ) (total : Result Progress LexFault)
    → length characters ≤ i → after_lines file p (take (i - start) (drop start characters)) (drop i characters) ≡ total → after_line file p (drop start characters) ≡ total
line_last file p characters start i total le so_far =
    let line = take (i - start) (drop start characters) in
    let one : after_lines file p line [] ≡ total = ap (after_lines file p line) (sym (drop_all i characters le)) ∙ so_far in
    let whole : line ≡ drop start characters = take_all (i - start) (drop start characters) (omega (arith, length-drop start characters)) in
    ap (after_line file p) (sym whole) ∙ one

-- ---- texts

abbrev pub items_of : List (Vec ℕ) → List (List ℕ)
items_of texts = map (λ (text : Vec ℕ). text.items) texts

pub text_step : (p q : Progress) (texts : List (Vec ℕ)) (i : ℕ) (text : Vec ℕ) (total : Result Progress LexFault)
    → i < length texts → get_or texts i text ≡ text → after_text i p text.items ≡ Ok q → after_texts i p (items_of (drop i texts)) ≡ total
    → after_texts (i + 1) q (items_of (drop (i + 1) texts)) ≡ total
text_step p q texts i text total lt here read so_far =
    let first : drop i texts ≡ text ∷ drop (i + 1) texts = drop_more texts i text lt ∙ ap (λ (x : Vec ℕ). x ∷ drop (i + 1) texts) here in
    let one : after_texts i p (text.items ∷ items_of (drop (i + 1) texts)) ≡ total = ap (λ (t : List (Vec ℕ)). after_texts i p (items_of t)) (sym first) ∙ so_far in
    let two : after_texts (suc i) q (items_of (drop (i + 1) texts)) ≡ total = ap (λ (r : Result Progress LexFault). r >>= λ next. after_texts (suc i) next (items_of (drop (i + 1) texts))) (sym read) ∙ one in
    ap (λ (n : ℕ). after_texts n q (items_of (drop (i + 1) texts))) (add-one i) ∙ two

pub text_fails : (p : Progress) (texts : List (Vec ℕ)) (i : ℕ) (text : Vec ℕ) (e : LexFault) (total : Result Progress LexFault)
    → i < length texts → get_or texts i text ≡ text → Fails e (after_text i p text.items) → after_texts i p (items_of (drop i texts)) ≡ total → Fails e total
text_fails p texts i text e total lt here bad so_far =
    let first : drop i texts ≡ text ∷ drop (i + 1) texts = drop_more texts i text lt ∙ ap (λ (x : Vec ℕ). x ∷ drop (i + 1) texts) here in
    let one : after_texts i p (text.items ∷ items_of (drop (i + 1) texts)) ≡ total = ap (λ (t : List (Vec ℕ)). after_texts i p (items_of t)) (sym first) ∙ so_far in
    fails_along e (after_texts i p (text.items ∷ items_of (drop (i + 1) texts))) total one (fails_then e (after_text i p text.items) (λ next. after_texts (suc i) next (items_of (drop (i + 1) texts))) bad)

pub texts_end : (p : Progress) (texts : List (Vec ℕ)) (i : ℕ) (total : Result Progress LexFault)
    → length texts ≤ i → after_texts i p (items_of (drop i texts)) ≡ total → total ≡ Ok p
texts_end p texts i total le so_far = sym so_far ∙ ap (λ (t : List (Vec ℕ)). after_texts i p (items_of t)) (drop_all i texts le)

-- the tokens at the end
pub tokens_end : (p : Progress) (texts : List (List ℕ)) → after_texts 0 at_start texts ≡ Ok p → tokens_of texts ≡ Ok p.tokens
unfolding tokens_of
tokens_end p texts h = ap (λ (r : Result Progress LexFault). r >>= λ q. Ok q.tokens) h

pub tokens_fail : (e : LexFault) (texts : List (List ℕ)) → Fails e (after_texts 0 at_start texts) → Fails e (tokens_of texts)
unfolding tokens_of
tokens_fail e texts h = fails_then e (after_texts 0 at_start texts) (λ q. Ok q.tokens) h

-- lists of other lengths
pub lengths_differ : (lexemes : List Lexeme) (pieces : List Piece) → (length lexemes ≡ length pieces → ⊥) → false ≡ are_lexemes lexemes pieces
lengths_differ [] [] h = absurd (h refl)
lengths_differ [] (piece ∷ left) h = refl
lengths_differ (lexeme ∷ more) [] h = refl
lengths_differ (lexeme ∷ more) (piece ∷ left) h = sym (and_right (is_lexeme lexeme piece.kind) (are_lexemes more left) (sym (lengths_differ more left (λ e. h (ap suc e)))))

-- an item of a list does not depend on what is given for none
pub get_or-same : (characters : List Character) (i : ℕ) (d : Character) → i < length characters → get_or characters i (get_or characters i d) ≡ get_or characters i d
get_or-same [] i d lt = absurd (omega arith)
get_or-same (c ∷ more) zero d lt = refl
get_or-same (c ∷ more) (suc i) d lt = get_or-same more i d (omega arith)
