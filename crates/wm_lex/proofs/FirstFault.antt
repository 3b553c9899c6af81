-- The fault that a reading ends at is the first of all faults, in the order in which the texts are read.
use Rattle.std.proofs.Common.{◌≡◌, ◌⊎◌, ℕ, suc, Bool, true, false, cond, List, [], ◌∷◌, ◌++◌, Option, Some, None, Result, Ok, Err, refl, sym, ap, subst, inl, inr, bytes_eq}
use Rattle.std.specs.Prelude.{is_none, codes, nat_eq}
use Rattle.std.proofs.lemmas.Bool.{cases_Bool, and_parts, true≢false}
use Rattle.std.proofs.lemmas.Slice.Eq.{bytes_eq-Decides}
use Rattle.wm_lang.specs.declared.place.Place.{Place}
use Rattle.wm_lex.specs.declared.character.Character.{Character}
use Rattle.wm_lex.specs.declared.definitions.Macro.{Macro}
use Rattle.wm_lex.specs.declared.fault.LexFault.{LexFault}
use Rattle.wm_lex.specs.declared.fault.LexFault.TheVariants.{BadByte, BadNumber, BadDirective, MacroLoop, TooManyTokens}
use Rattle.wm_lex.specs.declared.lexeme.Lexeme.{Lexeme}
use Rattle.wm_lex.specs.declared.piece.Piece.{Piece}
use Rattle.wm_lex.specs.declared.piece.PieceKind.{PieceKind}
use Rattle.wm_lex.specs.declared.piece.PieceKind.TheVariants.{Whole, Hash}
use Rattle.wm_lex.specs.declared.piece.PieceKind.TheVariants as kinds
use Rattle.wm_lex.specs.Answers.{◌>>=◌}
use Rattle.wm_lex.specs.Comments.{uncommented, last_region, opened}
use Rattle.wm_lex.specs.Faults.{only_if, or_before, lexeme_faults, faults_where, piece_faults, past_piece, pieces_faults, past_pieces, fault_of, list_faults, list_behind_name, list_behind_define, list_behind_word, list_behind_hash, is_bad_directive, directive_faults, line_faults, past_line, lines_faults, past_lines, open_faults, text_faults, past_text, texts_faults, faults_of}
use Rattle.wm_lex.specs.Lines.{Progress, with_macros, with_made, after_lexeme, after_pieces, word_in, opens_directly, is_lexeme, are_lexemes, is_list, lexemes_of, after_list, after_name, after_define, without_word, after_undef, is_passed_over, after_word, after_hash, after_line_pieces, after_line, after_lines, unless_open, after_text, after_texts, at_start, tokens_of}
use Rattle.wm_lex.specs.Macros.{defined, list_of, is_named, with_macro}
use Rattle.wm_lex.specs.Pieces.{is_hash, lexeme_at, lexeme_of, pieces}
use Rattle.wm_lex.specs.Replacing.{Made, replaced, loops}
use Rattle.wm_lex.specs.Splices.{spliced}

-- a reading ends at the first of the faults, or there is none and it comes as far as the reading that goes on
abbrev pub Agrees : {A : Type 0} → Result A LexFault → A → List LexFault → Type 0
Agrees (Ok next) past faults = (past ≡ next) × (faults ≡ [])
Agrees (Err fault) past faults = (more : List LexFault) × (faults ≡ fault ∷ more)

agrees_then : {A B : Type 0} (r : Result A LexFault) (here : A) (faults : List LexFault) (f : A → Result B LexFault) (past : A → B) (later : A → List LexFault)
    → Agrees r here faults → ((next : A) → Agrees (f next) (past next) (later next)) → Agrees (r >>= f) (past here) (faults ++ later here)
agrees_then {A} {B} (Ok next) here faults f past later one two =
    let same : here ≡ next = one.0 in
    let none : faults ≡ [] = one.1 in
    rw (same, none) (two next)
agrees_then {A} {B} (Err fault) here faults f past later one two = (one.0 ++ later here, ap (λ (t : List LexFault). t ++ later here) one.1)

-- ---- lines of text

made_agrees : (p : Progress) (place : Place) (looped : Bool) (made : Option Made)
    → Agrees (cond looped (Err (MacroLoop place)) (with_made p place made)) (or_before p (cond looped (Err (MacroLoop place)) (with_made p place made))) (only_if looped (MacroLoop place) ++ only_if (is_none made) (TooManyTokens place))
made_agrees p place true made = (only_if (is_none made) (TooManyTokens place), refl)
made_agrees p place false None = ([], refl)
made_agrees p place false (Some made) = (refl, refl)

lexeme_agrees : (p : Progress) (place : Place) (lexeme : Lexeme) → Agrees (after_lexeme p place lexeme) (or_before p (after_lexeme p place lexeme)) (lexeme_faults p place lexeme)
unfolding after_lexeme
lexeme_agrees p place lexeme = made_agrees p place (loops p.macros lexeme) (replaced p.macros place p.room p.tokens (lexeme ∷ []))

where_agrees : (p : Progress) (place : Place) (r : Result Lexeme LexFault) → Agrees (r >>= after_lexeme p place) (or_before p (r >>= after_lexeme p place)) (faults_where p place r)
where_agrees p place (Ok lexeme) = lexeme_agrees p place lexeme
where_agrees p place (Err fault) = ([], refl)

pieces_agree : (p : Progress) (left : List Piece) → Agrees (after_pieces p left) (past_pieces p left) (pieces_faults p left)
pieces_agree p [] = (refl, refl)
pieces_agree p (piece ∷ left) =
    agrees_then (lexeme_of piece >>= after_lexeme p piece.place) (past_piece p piece) (piece_faults p piece) (λ next. after_pieces next left) (λ q. past_pieces q left) (λ q. pieces_faults q left)
    (where_agrees p piece.place (lexeme_of piece)) (λ next. pieces_agree next left)

-- ---- directives

-- a directive is a bad one; or it has an effect, and its list has no fault; or its list has a first fault, which it ends at
abbrev Directs : Result (List Macro) LexFault → Place → List LexFault → Type 0
Directs r hash faults =
    (r ≡ Err (BadDirective hash))
    ⊎ (((macros : List Macro) × (r ≡ Ok macros) × (faults ≡ []))
    ⊎ ((fault : LexFault) × (r ≡ Err fault) × (is_bad_directive (Err fault) ≡ false) × (more : List LexFault) × (faults ≡ fault ∷ more)))

-- the lexemes of a list, or its first fault, which is no bad directive
abbrev ListAgrees : {A : Type 0} → Result A LexFault → List LexFault → Type 0
ListAgrees (Ok x) faults = faults ≡ []
ListAgrees (Err fault) faults = (is_bad_directive (Err fault) ≡ false) × ((more : List LexFault) × (faults ≡ fault ∷ more))

list_then : {A B : Type 0} (r : Result A LexFault) (faults : List LexFault) (f : A → Result B LexFault) (later : List LexFault)
    → ListAgrees r faults → ((x : A) → ListAgrees (f x) later) → ListAgrees (r >>= f) (faults ++ later)
list_then {A} {B} (Ok x) faults f later one two = rw one (two x)
list_then {A} {B} (Err fault) faults f later one two = (one.0, (one.1.0 ++ later, ap (λ (t : List LexFault). t ++ later) one.1.1))

list_kept : (r : Result (List Lexeme) LexFault) (faults : List LexFault) (lexeme : Lexeme) → ListAgrees r faults → ListAgrees (r >>= λ more. Ok (lexeme ∷ more)) faults
list_kept (Ok list) faults lexeme h = h
list_kept (Err fault) faults lexeme h = h

kind_agrees : (kind : PieceKind) (place : Place) → ListAgrees (lexeme_at kind place) (fault_of (lexeme_at kind place))
kind_agrees (Whole lexeme) place = refl
kind_agrees Hash place = (refl, ([], refl))
kind_agrees kinds.BadByte place = (refl, ([], refl))
kind_agrees kinds.BadNumber place = (refl, ([], refl))

lexemes_agree : (left : List Piece) → ListAgrees (lexemes_of left) (list_faults left)
lexemes_agree [] = refl
lexemes_agree (piece ∷ left) =
    list_then (lexeme_of piece) (fault_of (lexeme_of piece)) (λ lexeme. lexemes_of left >>= λ more. Ok (lexeme ∷ more)) (list_faults left)
    (kind_agrees piece.kind piece.place) (λ lexeme. list_kept (lexemes_of left) (list_faults left) lexeme (lexemes_agree left))

kind_clean : (lexeme : Lexeme) (kind : PieceKind) (place : Place) → is_lexeme lexeme kind ≡ true → fault_of (lexeme_at kind place) ≡ []
kind_clean lexeme (Whole other) place h = refl
kind_clean lexeme Hash place h = absurd (true≢false (sym h))
kind_clean lexeme kinds.BadByte place h = absurd (true≢false (sym h))
kind_clean lexeme kinds.BadNumber place h = absurd (true≢false (sym h))

same_clean : (list : List Lexeme) (left : List Piece) → are_lexemes list left ≡ true → list_faults left ≡ []
same_clean [] [] h = refl
same_clean [] (piece ∷ left) h = absurd (true≢false (sym h))
same_clean (lexeme ∷ more) [] h = refl
same_clean (lexeme ∷ more) (piece ∷ left) h =
    let parts = and_parts (is_lexeme lexeme piece.kind) (are_lexemes more left) h in
    rw (kind_clean lexeme piece.kind piece.place parts.0) (same_clean more left parts.1)

list_clean : (o : Option (List Lexeme)) (left : List Piece) → is_list o left ≡ true → list_faults left ≡ []
list_clean None left h = absurd (true≢false (sym h))
list_clean (Some list) left h = same_clean list left h

named_directs : (macros : List Macro) (hash : Place) (same : Bool) (faults : List LexFault) → (same ≡ true → faults ≡ []) → Directs (cond same (Ok macros) (Err (BadDirective hash))) hash faults
named_directs macros hash true faults clean = inr (inl (macros, refl, clean refl))
named_directs macros hash false faults clean = inl refl

new_directs : (r : Result (List Lexeme) LexFault) (f : List Lexeme → List Macro) (hash : Place) (faults : List LexFault) → ListAgrees r faults → Directs (r >>= λ list. Ok (f list)) hash faults
new_directs (Ok list) f hash faults h = inr (inl (f list, refl, h))
new_directs (Err fault) f hash faults h = inr (inr (fault, refl, h.0, h.1.0, h.1.1))

list_directs : (macros : List Macro) (hash : Place) (word : List ℕ) (left : List Piece) → Directs (after_list macros hash word left) hash (list_faults left)
list_directs macros hash word left =
    elim (cases_Bool (is_named word macros)) [
      | inl named ↦ rw named (named_directs macros hash (is_list (list_of word macros) left) (list_faults left) (list_clean (list_of word macros) left))
      | inr new ↦ rw new (new_directs (lexemes_of left) (λ list. with_macro (defined word list) macros) hash (list_faults left) (lexemes_agree left))
    ]

name_directs : (macros : List Macro) (hash : Place) (o : Option (List ℕ)) (left : List Piece) → Directs (after_name macros hash o left) hash (list_faults (list_behind_name o left))
name_directs macros hash None left = inl refl
name_directs macros hash (Some word) left =
    elim (cases_Bool (opens_directly left)) [
      | inl opens ↦ rw opens (inl refl)
      | inr other ↦ rw other (list_directs macros hash word left)
    ]

define_directs : (macros : List Macro) (hash : Place) (left : List Piece) → Directs (after_define macros hash left) hash (list_faults (list_behind_define left))
unfolding after_define
define_directs macros hash [] = inl refl
define_directs macros hash (piece ∷ left) = name_directs macros hash (word_in piece.kind) left

without_directs : (macros : List Macro) (hash : Place) (o : Option (List ℕ)) → Directs (without_word macros hash o) hash []
without_directs macros hash None = inl refl
without_directs macros hash (Some word) = inr (inl (_, refl, refl))

undef_directs : (macros : List Macro) (hash : Place) (left : List Piece) → Directs (after_undef macros hash left) hash []
unfolding after_undef
undef_directs macros hash [] = inl refl
undef_directs macros hash (piece ∷ []) = without_directs macros hash (word_in piece.kind)
undef_directs macros hash (piece ∷ other ∷ left) = inl refl

passed_over : (word : List ℕ) → is_passed_over word ≡ true → bytes_eq word (codes "define") ≡ false
passed_over word h =
    elim (cases_Bool (bytes_eq word (codes "define"))) [
      | inl same ↦ (
          let e : word ≡ codes "define" = (bytes_eq-Decides word (codes "define")).0 same in
          absurd (true≢false (sym (subst (λ (w : List ℕ). is_passed_over w ≡ true) e h))))
      | inr other ↦ other
    ]

word_directs : (macros : List Macro) (hash : Place) (o : Option (List ℕ)) (left : List Piece) → Directs (after_word macros hash o left) hash (list_faults (list_behind_word o left))
word_directs macros hash None left = inl refl
word_directs macros hash (Some word) left =
    elim (cases_Bool (is_passed_over word)) [
      | inl passed ↦ rw (passed, passed_over word passed) (inr (inl (macros, refl, refl)))
      | inr read ↦ elim (cases_Bool (bytes_eq word (codes "define"))) [
        | inl define ↦ rw (read, define) (define_directs macros hash left)
        | inr other ↦ elim (cases_Bool (bytes_eq word (codes "undef"))) [
          | inl undef ↦ rw (read, other, undef) (undef_directs macros hash left)
          | inr unknown ↦ rw (read, other, unknown) (inl refl)
        ]
      ]
    ]

hash_directs : (macros : List Macro) (hash : Place) (left : List Piece) → Directs (after_hash macros hash left) hash (list_faults (list_behind_hash left))
unfolding after_hash
hash_directs macros hash [] = inr (inl (macros, refl, refl))
hash_directs macros hash (piece ∷ left) = word_directs macros hash (word_in piece.kind) left

directive_agrees : (r : Result (List Macro) LexFault) (before : List Macro) (hash : Place) (faults : List LexFault) → Directs r hash faults
    → Agrees r (or_before before r) (only_if (is_bad_directive r) (BadDirective hash) ++ faults)
directive_agrees r before hash faults directs =
    elim directs [
      | inl bad ↦ rw bad (faults, refl)
      | inr good ↦ elim good [
        | inl effect ↦ rw (effect.1, effect.2) (refl, refl)
        | inr listed ↦ rw (listed.1, listed.2) (listed.3, listed.4)
      ]
    ]

agrees_map : {A B : Type 0} (r : Result A LexFault) (here : A) (faults : List LexFault) (g : A → B) → Agrees r here faults → Agrees (r >>= λ x. Ok (g x)) (g here) faults
agrees_map {A} {B} (Ok next) here faults g h = (ap g h.0, h.1)
agrees_map {A} {B} (Err fault) here faults g h = h

-- ---- lines and texts

line_agrees : (p : Progress) (left : List Piece) → Agrees (after_line_pieces p left) (past_line p left) (line_faults p left)
unfolding after_line_pieces
line_agrees p [] = (refl, refl)
line_agrees p (piece ∷ left) =
    elim (cases_Bool (is_hash piece.kind)) [
      | inl hash ↦ rw hash (
          let r = after_hash p.macros piece.place left in
          agrees_map r (or_before p.macros r) (directive_faults p.macros piece.place left) (with_macros p)
          (directive_agrees r p.macros piece.place (list_faults (list_behind_hash left)) (hash_directs p.macros piece.place left)))
      | inr text ↦ rw text (pieces_agree p (piece ∷ left))
    ]

lines_agree : (file : ℕ) (p : Progress) (line characters : List Character) → Agrees (after_lines file p line characters) (past_lines file p line characters) (lines_faults file p line characters)
lines_agree file p line [] = line_agrees p (pieces file line)
lines_agree file p line (c ∷ rest) =
    elim (cases_Bool (nat_eq c.byte 10)) [
      | inl feed ↦ rw feed (
          agrees_then (after_line file p line) (past_line p (pieces file line)) (line_faults p (pieces file line)) (λ next. after_lines file next [] rest) (λ q. past_lines file q [] rest) (λ q. lines_faults file q [] rest)
          (line_agrees p (pieces file line)) (λ next. lines_agree file next [] rest))
      | inr other ↦ rw other (lines_agree file p (line ++ c ∷ []) rest)
    ]

open_agrees : (file : ℕ) (p : Progress) (o : Option Character) → Agrees (unless_open file p o) p (open_faults file o)
open_agrees file p None = (refl, refl)
open_agrees file p (Some first) = ([], refl)

text_agrees : (file : ℕ) (p : Progress) (text : List ℕ) → Agrees (after_text file p text) (past_text file p text) (text_faults file p text)
unfolding after_text past_text text_faults
text_agrees file p text =
    let characters = uncommented (spliced text) in
    let open_at = opened (last_region (spliced text)) in
    agrees_then (after_lines file p [] characters) (past_lines file p [] characters) (lines_faults file p [] characters) (λ next. unless_open file next open_at) (λ q. q) (λ q. open_faults file open_at)
    (lines_agree file p [] characters) (λ next. open_agrees file next open_at)

abbrev pub past_texts : ℕ → Progress → List (List ℕ) → Progress
past_texts file p [] = p
past_texts file p (text ∷ texts) = past_texts (suc file) (past_text file p text) texts

texts_agree : (file : ℕ) (p : Progress) (texts : List (List ℕ)) → Agrees (after_texts file p texts) (past_texts file p texts) (texts_faults file p texts)
texts_agree file p [] = (refl, refl)
texts_agree file p (text ∷ texts) =
    agrees_then (after_text file p text) (past_text file p text) (text_faults file p text) (λ next. after_texts (suc file) next texts) (λ q. past_texts (suc file) q texts) (λ q. texts_faults (suc file) q texts)
    (text_agrees file p text) (λ next. texts_agree (suc file) next texts)

pub tokens_agree : (texts : List (List ℕ)) → Agrees (tokens_of texts) (past_texts 0 at_start texts).tokens (faults_of texts)
unfolding tokens_of faults_of
tokens_agree texts = agrees_map (after_texts 0 at_start texts) (past_texts 0 at_start texts) (texts_faults 0 at_start texts) (λ q. q.tokens) (texts_agree 0 at_start texts)
