-- The faults of texts, in the order in which the texts are read, are in the order of their places.
use Rattle.std.proofs.Common.{◌≡◌, ◌⊎◌, ℕ, zero, suc, ◌+◌, ◌<◌, ◌≤◌, Bool, true, false, cond, List, [], ◌∷◌, ◌++◌, length, get_or, Option, Some, None, Result, Ok, Err, refl, sym, ap, subst, ◌∙◌, append_assoc, arith, inl, inr, bytes_eq}
use Rattle.std.specs.Prelude.{is_none, codes, nat_eq, nat_lt, ◌&&◌, pred, Contains}
use Rattle.std.proofs.lemmas.Bool.{cases_Bool, true≢false, eqb-true}
use Rattle.std.proofs.lemmas.List.{append-nil}
use Rattle.std.proofs.lemmas.Option.{none-some, same_Some}
use Rattle.wm_lang.specs.declared.place.Place.{Place}
use Rattle.wm_lang.specs.declared.token.Token.{Token}
use Rattle.wm_lex.specs.declared.character.Character.{Character}
use Rattle.wm_lex.specs.declared.comment.Region.{Region}
use Rattle.wm_lex.specs.declared.comment.Region.TheVariants.{Code, LineComment, Opening, BlockComment, Closing}
use Rattle.wm_lex.specs.declared.fault.LexFault.{LexFault}
use Rattle.wm_lex.specs.declared.fault.LexFault.TheVariants.{BadByte, OpenComment, BadNumber, BadDirective, MacroLoop, TooManyTokens}
use Rattle.wm_lex.specs.declared.piece.Piece.{Piece}
use Rattle.wm_lex.specs.declared.piece.PieceKind.{PieceKind}
use Rattle.wm_lex.specs.declared.piece.PieceKind.TheVariants.{Whole, Hash}
use Rattle.wm_lex.specs.declared.piece.PieceKind.TheVariants as kinds
use Rattle.wm_lex.specs.declared.splice.Cursor.{Cursor}
use Rattle.wm_lex.specs.Characters.{place_of, is_space}
use Rattle.wm_lex.specs.Comments.{next_is, space_at, region_after, left_in, uncommented_from, uncommented, last_region_from, last_region, opened}
use Rattle.wm_lex.specs.Faults.{place_of_fault, ComesBefore, only_if, faults_where, piece_faults, past_piece, pieces_faults, fault_of, list_faults, list_behind_name, list_behind_define, list_behind_word, list_behind_hash, is_bad_directive, line_faults, past_line, lines_faults, text_faults, past_text, texts_faults, faults_of, IsLeast}
use Rattle.wm_lex.specs.Lines.{Progress, word_in, opens_directly, after_hash, at_start, tokens_of}
use Rattle.wm_lex.specs.Pieces.{front_of, pieces_from, pieces, is_hash, lexeme_at, lexeme_of}
use Rattle.wm_lex.specs.Replacing.{replaced, loops}
use Rattle.wm_lex.specs.Splices.{begins_splice, left_of, cursor_after, spliced_from, spliced, start, line_end}
use Rattle.wm_lex.proofs.FirstFault.{Agrees, past_texts, tokens_agree}

-- ---- spots of a text

-- a line and a column of a text
pub record Spot : Type 0 where
  pub line : ℕ
  pub column : ℕ

abbrev spot : ℕ → ℕ → Spot
spot line column = record { line = line; column = column }

abbrev spot_of : Place → Spot
spot_of place = spot place.line place.column

abbrev past : Place → Spot
past place = spot place.line (place.column + 1)

abbrev char_at : Character → Spot
char_at c = spot c.line c.column

abbrev char_past : Character → Spot
char_past c = spot c.line (c.column + 1)

-- p stands before q, or is q
abbrev UpTo : Spot → Spot → Type 0
UpTo p q = (p.line < q.line) ⊎ ((p.line ≡ q.line) × (p.column ≤ q.column))

up_to_itself : (p : Spot) → UpTo p p
up_to_itself p = inr (refl, omega arith)

up_to_past : (line column : ℕ) → UpTo (spot line column) (spot line (column + 1))
up_to_past line column = inr (refl, omega arith)

up_to : (p q r : Spot) → UpTo p q → UpTo q r → UpTo p r
up_to p q r a b =
    elim a [
      | inl x ↦ elim b [
        | inl y ↦ inl (omega (arith, x, y))
        | inr y ↦ inl (omega (arith, x, y.0))
      ]
      | inr x ↦ elim b [
        | inl y ↦ inl (omega (arith, x.0, y))
        | inr y ↦ inr (x.0 ∙ y.0, omega (arith, x.1, y.1))
      ]
    ]

-- ---- lists of faults

abbrev Every : (LexFault → Type 0) → List LexFault → Type 0
Every P [] = Unit {0}
Every P (fault ∷ faults) = P fault × Every P faults

every_more : (P Q : LexFault → Type 0) (faults : List LexFault) → ((fault : LexFault) → P fault → Q fault) → Every P faults → Every Q faults
every_more P Q [] more h = tt
every_more P Q (fault ∷ faults) more h = (more fault h.0, every_more P Q faults more h.1)

every_append : (P : LexFault → Type 0) (faults later : List LexFault) → Every P faults → Every P later → Every P (faults ++ later)
every_append P [] later a b = b
every_append P (fault ∷ faults) later a b = (a.0, every_append P faults later a.1 b)

every_at : (P : LexFault → Type 0) (faults : List LexFault) (other : LexFault) (k : ℕ) → Every P faults → k < length faults → get_or faults k other ≡ other → P other
every_at P [] other k h lt at = absurd (omega (arith, lt))
every_at P (fault ∷ faults) other zero h lt at = subst P at h.0
every_at P (fault ∷ faults) other (suc k) h lt at = every_at P faults other k h.1 (omega (arith, lt)) at

-- the first comes before the others
abbrev pub LeadsAll : List LexFault → Type 0
LeadsAll [] = Unit {0}
LeadsAll (fault ∷ faults) = Every (ComesBefore fault) faults

-- a fault from a spot of a file on, up to another
abbrev IsFrom : ℕ → Spot → Spot → LexFault → Type 0
IsFrom file p q fault = ((place_of_fault fault).file ≡ file) × UpTo p (spot_of (place_of_fault fault)) × UpTo (past (place_of_fault fault)) q

-- faults of a part of a text, of which the first comes before the others
abbrev IsPart : ℕ → Spot → Spot → List LexFault → Type 0
IsPart file p q faults = Every (IsFrom file p q) faults × LeadsAll faults

before : (a b : LexFault) (file : ℕ) (p q r : Spot) → IsFrom file p q a → IsFrom file q r b → ComesBefore a b
before a b file p q r one two =
    elim (up_to (past (place_of_fault a)) q (spot_of (place_of_fault b)) one.2 two.1) [
      | inl line ↦ inl (inr (one.0 ∙ sym two.0, inl line))
      | inr column ↦ inl (inr (one.0 ∙ sym two.0, inr (column.0, omega (arith, column.1))))
    ]

leads : (file : ℕ) (p q r : Spot) (faults later : List LexFault) → IsPart file p q faults → IsPart file q r later → LeadsAll (faults ++ later)
leads file p q r [] later one two = two.1
leads file p q r (fault ∷ faults) later one two =
    every_append (ComesBefore fault) faults later one.1
    (every_more (IsFrom file q r) (ComesBefore fault) later (λ other from. before fault other file p q r one.0.0 from) two.0)

part_append : (file : ℕ) (p q r : Spot) (faults later : List LexFault) → UpTo p q → UpTo q r → IsPart file p q faults → IsPart file q r later → IsPart file p r (faults ++ later)
part_append file p q r faults later pq qr one two = (
  every_append (IsFrom file p r) faults later
      (every_more (IsFrom file p q) (IsFrom file p r) faults (λ fault from. (from.0, from.1, up_to (past (place_of_fault fault)) q r from.2 qr)) one.0)
      (every_more (IsFrom file q r) (IsFrom file p r) later (λ fault from. (from.0, up_to p q (spot_of (place_of_fault fault)) pq from.1, from.2)) two.0),
  leads file p q r faults later one two,
)

part_later : (file : ℕ) (p q r : Spot) (faults : List LexFault) → UpTo p q → IsPart file q r faults → IsPart file p r faults
part_later file p q r faults pq one =
    (every_more (IsFrom file q r) (IsFrom file p r) faults (λ fault from. (from.0, up_to p q (spot_of (place_of_fault fault)) pq from.1, from.2)) one.0, one.1)

-- ---- pieces

-- pieces of a file whose places rise from a spot up to another
abbrev IsRising : ℕ → Spot → List Piece → Spot → Type 0
IsRising file p [] q = UpTo p q
IsRising file p (piece ∷ left) q = (piece.place.file ≡ file) × UpTo p (spot_of piece.place) × IsRising file (past piece.place) left q

rising_up : (file : ℕ) (p : Spot) (left : List Piece) (q : Spot) → IsRising file p left q → UpTo p q
rising_up file p [] q h = h
rising_up file p (piece ∷ left) q h =
    up_to p (spot_of piece.place) q h.1 (up_to (spot_of piece.place) (past piece.place) q (up_to_past piece.place.line piece.place.column) (rising_up file (past piece.place) left q h.2))

rising_later : (file : ℕ) (p r : Spot) (left : List Piece) (q : Spot) → UpTo p r → IsRising file r left q → IsRising file p left q
rising_later file p r [] q pr h = up_to p r q pr h
rising_later file p r (piece ∷ left) q pr h = (h.0, up_to p r (spot_of piece.place) pr h.1, h.2)

rising_rest : (file : ℕ) (p : Spot) (piece : Piece) (left : List Piece) (q : Spot) → IsRising file p (piece ∷ left) q → IsRising file p left q
rising_rest file p piece left q h =
    rising_later file p (past piece.place) left q (up_to p (spot_of piece.place) (past piece.place) h.1 (up_to_past piece.place.line piece.place.column)) h.2

no_faults : (file : ℕ) (p q : Spot) → IsPart file p q []
no_faults file p q = (tt, tt)

one_fault : (place : Place) (fault : LexFault) → place_of_fault fault ≡ place → IsPart place.file (spot_of place) (past place) (fault ∷ [])
one_fault place fault at = (
  (
    (
      ap (λ (x : Place). x.file) at,
      subst (λ (x : Place). UpTo (spot_of place) (spot_of x)) (sym at) (up_to_itself (spot_of place)),
      subst (λ (x : Place). UpTo (past x) (past place)) (sym at) (up_to_itself (past place)),
    ),
    tt,
  ),
  tt,
)

maybe_fault : (b : Bool) (place : Place) (fault : LexFault) → place_of_fault fault ≡ place → IsPart place.file (spot_of place) (past place) (only_if b fault)
maybe_fault true place fault at = one_fault place fault at
maybe_fault false place fault at = no_faults place.file (spot_of place) (past place)

two_faults : (looped full : Bool) (place : Place) → IsPart place.file (spot_of place) (past place) (only_if looped (MacroLoop place) ++ only_if full (TooManyTokens place))
two_faults false full place = maybe_fault full place (TooManyTokens place) refl
two_faults true false place = one_fault place (MacroLoop place) refl
two_faults true true place =
    (((one_fault place (MacroLoop place) refl).0.0, (one_fault place (TooManyTokens place) refl).0), (inr (refl, omega arith), tt))

kind_part : (kind : PieceKind) (place : Place) → IsPart place.file (spot_of place) (past place) (fault_of (lexeme_at kind place))
kind_part (Whole lexeme) place = no_faults place.file (spot_of place) (past place)
kind_part Hash place = one_fault place (BadByte place) refl
kind_part kinds.BadByte place = one_fault place (BadByte place) refl
kind_part kinds.BadNumber place = one_fault place (BadNumber place) refl

where_part : (progress : Progress) (kind : PieceKind) (place : Place) → IsPart place.file (spot_of place) (past place) (faults_where progress place (lexeme_at kind place))
where_part progress (Whole lexeme) place = two_faults (loops progress.macros lexeme) (is_none (replaced progress.macros place progress.room progress.tokens (lexeme ∷ []))) place
where_part progress Hash place = one_fault place (BadByte place) refl
where_part progress kinds.BadByte place = one_fault place (BadByte place) refl
where_part progress kinds.BadNumber place = one_fault place (BadNumber place) refl

-- faults of a piece, and then those of what is left
piece_then : (file : ℕ) (p : Spot) (piece : Piece) (left : List Piece) (q : Spot) (faults later : List LexFault) → IsRising file p (piece ∷ left) q
    → IsPart piece.place.file (spot_of piece.place) (past piece.place) faults → IsPart file (past piece.place) q later → IsPart file p q (faults ++ later)
piece_then file p piece left q faults later h one two =
    let here : IsPart file (spot_of piece.place) (past piece.place) faults = subst (λ (n : ℕ). IsPart n (spot_of piece.place) (past piece.place) faults) h.0 one in
    part_append file p (past piece.place) q faults later
    (up_to p (spot_of piece.place) (past piece.place) h.1 (up_to_past piece.place.line piece.place.column)) (rising_up file (past piece.place) left q h.2)
    (part_later file p (spot_of piece.place) (past piece.place) faults h.1 here) two

pieces_part : (file : ℕ) (progress : Progress) (p : Spot) (left : List Piece) (q : Spot) → IsRising file p left q → IsPart file p q (pieces_faults progress left)
pieces_part file progress p [] q h = no_faults file p q
pieces_part file progress p (piece ∷ left) q h =
    piece_then file p piece left q (piece_faults progress piece) (pieces_faults (past_piece progress piece) left) h
    (where_part progress piece.kind piece.place) (pieces_part file (past_piece progress piece) (past piece.place) left q h.2)

list_part : (file : ℕ) (p : Spot) (left : List Piece) (q : Spot) → IsRising file p left q → IsPart file p q (list_faults left)
list_part file p [] q h = no_faults file p q
list_part file p (piece ∷ left) q h =
    piece_then file p piece left q (fault_of (lexeme_of piece)) (list_faults left) h (kind_part piece.kind piece.place) (list_part file (past piece.place) left q h.2)

-- ---- directives

name_rising : (file : ℕ) (p : Spot) (o : Option (List ℕ)) (left : List Piece) (q : Spot) → IsRising file p left q → IsRising file p (list_behind_name o left) q
name_rising file p None left q h = rising_up file p left q h
name_rising file p (Some word) left q h =
    elim (cases_Bool (opens_directly left)) [
      | inl opens ↦ rw opens (rising_up file p left q h)
      | inr other ↦ rw other h
    ]

define_rising : (file : ℕ) (p : Spot) (left : List Piece) (q : Spot) → IsRising file p left q → IsRising file p (list_behind_define left) q
define_rising file p [] q h = h
define_rising file p (piece ∷ left) q h = name_rising file p (word_in piece.kind) left q (rising_rest file p piece left q h)

word_rising : (file : ℕ) (p : Spot) (o : Option (List ℕ)) (left : List Piece) (q : Spot) → IsRising file p left q → IsRising file p (list_behind_word o left) q
word_rising file p None left q h = rising_up file p left q h
word_rising file p (Some word) left q h =
    elim (cases_Bool (bytes_eq word (codes "define"))) [
      | inl define ↦ rw define (define_rising file p left q h)
      | inr other ↦ rw other (rising_up file p left q h)
    ]

hash_rising : (file : ℕ) (p : Spot) (left : List Piece) (q : Spot) → IsRising file p left q → IsRising file p (list_behind_hash left) q
hash_rising file p [] q h = h
hash_rising file p (piece ∷ left) q h = word_rising file p (word_in piece.kind) left q (rising_rest file p piece left q h)

line_part : (file : ℕ) (progress : Progress) (p : Spot) (left : List Piece) (q : Spot) → IsRising file p left q → IsPart file p q (line_faults progress left)
line_part file progress p [] q h = no_faults file p q
line_part file progress p (piece ∷ left) q h =
    elim (cases_Bool (is_hash piece.kind)) [
      | inl hash ↦ rw hash (
          piece_then file p piece left q (only_if (is_bad_directive (after_hash progress.macros piece.place left)) (BadDirective piece.place)) (list_faults (list_behind_hash left)) h
          (maybe_fault (is_bad_directive (after_hash progress.macros piece.place left)) piece.place (BadDirective piece.place) refl)
          (list_part file (past piece.place) (list_behind_hash left) q (hash_rising file (past piece.place) left q h.2)))
      | inr text ↦ rw text (pieces_part file progress p (piece ∷ left) q h)
    ]

-- ---- characters

-- characters whose places rise from a spot up to another, where white space does not count
abbrev Ascends : Spot → List Character → Spot → Type 0
Ascends p [] q = UpTo p q
Ascends p (c ∷ rest) q = cond (is_space c.byte) (Ascends p rest q) (UpTo p (char_at c) × Ascends (char_past c) rest q)

ascends_later : (p r : Spot) (xs : List Character) (q : Spot) → UpTo p r → Ascends r xs q → Ascends p xs q
ascends_later p r [] q pr h = up_to p r q pr h
ascends_later p r (c ∷ rest) q pr h =
    elim (cases_Bool (is_space c.byte)) [
      | inl space ↦ (let on : Ascends r rest q = rw space at h in rw space (ascends_later p r rest q pr on))
      | inr other ↦ (let on : UpTo r (char_at c) × Ascends (char_past c) rest q = rw other at h in rw other (up_to p r (char_at c) pr on.0, on.1))
    ]

ascends_up : (p : Spot) (xs : List Character) (q : Spot) → Ascends p xs q → UpTo p q
ascends_up p [] q h = h
ascends_up p (c ∷ rest) q h =
    elim (cases_Bool (is_space c.byte)) [
      | inl space ↦ (let on : Ascends p rest q = rw space at h in ascends_up p rest q on)
      | inr other ↦ (
          let on : UpTo p (char_at c) × Ascends (char_past c) rest q = rw other at h in
          up_to p (char_at c) q on.0 (up_to (char_at c) (char_past c) q (up_to_past c.line c.column) (ascends_up (char_past c) rest q on.1)))
    ]

ascends_rest : (p : Spot) (c : Character) (rest : List Character) (q : Spot) → Ascends p (c ∷ rest) q → Ascends p rest q
ascends_rest p c rest q h =
    elim (cases_Bool (is_space c.byte)) [
      | inl space ↦ rw space at h
      | inr other ↦ (
          let on : UpTo p (char_at c) × Ascends (char_past c) rest q = rw other at h in
          ascends_later p (char_past c) rest q (up_to p (char_at c) (char_past c) on.0 (up_to_past c.line c.column)) on.1)
    ]

ascends_split : (p : Spot) (xs ys : List Character) (q : Spot) → Ascends p (xs ++ ys) q → (r : Spot) × Ascends p xs r × Ascends r ys q
ascends_split p [] ys q h = (p, up_to_itself p, h)
ascends_split p (c ∷ xs) ys q h =
    elim (cases_Bool (is_space c.byte)) [
      | inl space ↦ (
          let on : Ascends p (xs ++ ys) q = rw space at h in
          let found = ascends_split p xs ys q on in
          (found.0, rw space found.1, found.2))
      | inr other ↦ (
          let on : UpTo p (char_at c) × Ascends (char_past c) (xs ++ ys) q = rw other at h in
          let found = ascends_split (char_past c) xs ys q on.1 in
          (found.0, rw other (on.0, found.1), found.2))
    ]

pieces_rising : (file : ℕ) (spaced : Bool) (more : ℕ) (p : Spot) (xs : List Character) (q : Spot) → Ascends p xs q → IsRising file p (pieces_from file spaced more xs) q
pieces_rising file spaced more p [] q h = h
pieces_rising file spaced (suc more) p (c ∷ rest) q h = pieces_rising file spaced more p rest q (ascends_rest p c rest q h)
pieces_rising file spaced zero p (c ∷ rest) q h =
    elim (cases_Bool (is_space c.byte)) [
      | inl space ↦ (let on : Ascends p rest q = rw space at h in rw space (pieces_rising file true zero p rest q on))
      | inr other ↦ (
          let on : UpTo p (char_at c) × Ascends (char_past c) rest q = rw other at h in
          rw other (refl, on.0, pieces_rising file false (front_of c rest).more (char_past c) rest q on.1))
    ]

-- ---- comments

cases_kept : (b : Bool) (c : Character) → (cond b (space_at c) c ≡ c) ⊎ (cond b (space_at c) c ≡ space_at c)
cases_kept true c = inr refl
cases_kept false c = inl refl

-- a character is taken out, is left, or leaves a space
left_cases : (region : Region) (c : Character) (rest : List Character) → (left_in region c rest ≡ None) ⊎ ((left_in region c rest ≡ Some c) ⊎ (left_in region c rest ≡ Some (space_at c)))
unfolding left_in
left_cases Code c rest =
    elim (cases_kept (nat_eq c.byte 47 && cond (next_is 47 rest) true (next_is 42 rest)) c) [
      | inl same ↦ inr (inl (ap (λ (x : Character). Some x) same))
      | inr space ↦ inr (inr (ap (λ (x : Character). Some x) space))
    ]
left_cases LineComment c rest =
    elim (cases_Bool (nat_eq c.byte 10)) [
      | inl feed ↦ inr (inl (rw feed refl))
      | inr other ↦ inl (rw other refl)
    ]
left_cases (Opening first) c rest = inl refl
left_cases (BlockComment first) c rest = inl refl
left_cases Closing c rest = inl refl

ascends_kept : (p : Spot) (c : Character) (rest ys : List Character) (q : Spot) → Ascends p (c ∷ rest) q → ((r : Spot) → Ascends r rest q → Ascends r ys q) → Ascends p (c ∷ ys) q
ascends_kept p c rest ys q h more =
    elim (cases_Bool (is_space c.byte)) [
      | inl space ↦ (let on : Ascends p rest q = rw space at h in rw space (more p on))
      | inr other ↦ (let on : UpTo p (char_at c) × Ascends (char_past c) rest q = rw other at h in rw other (on.0, more (char_past c) on.1))
    ]

uncommented_ascends : (region : Region) (p : Spot) (xs : List Character) (q : Spot) → Ascends p xs q → Ascends p (uncommented_from region xs) q
uncommented_ascends region p [] q h = h
uncommented_ascends region p (c ∷ rest) q h =
    elim (left_cases region c rest) [
      | inl none ↦ rw none (uncommented_ascends (region_after region c rest) p rest q (ascends_rest p c rest q h))
      | inr some ↦ elim some [
        | inl same ↦ rw same (ascends_kept p c rest (uncommented_from (region_after region c rest) rest) q h (λ r a. uncommented_ascends (region_after region c rest) r rest q a))
        | inr space ↦ rw space (uncommented_ascends (region_after region c rest) p rest q (ascends_rest p c rest q h))
      ]
    ]

nothing_opened : {P : Type 0} (o : Option Character) (first : Character) → o ≡ None → o ≡ Some first → P
nothing_opened {P} o first none some = absurd (none-some first (sym none ∙ some))

-- a comment that is open behind a character was open before it, or begins with it
opens : (region : Region) (c : Character) (rest : List Character) (first : Character) → opened (region_after region c rest) ≡ Some first
    → ((opened region ≡ Some first) × (left_in region c rest ≡ None)) ⊎ ((c.byte ≡ 47) × (c ≡ first) × (left_in region c rest ≡ Some (space_at c)))
unfolding region_after left_in
opens Code c rest first h =
    elim (cases_Bool (nat_eq c.byte 47)) [
      | inl slash ↦ elim (cases_Bool (next_is 47 rest)) [
        | inl line ↦ (let none : None ≡ Some first = rw (slash, line) at h in absurd (none-some first none))
        | inr other ↦ elim (cases_Bool (next_is 42 rest)) [
          | inl star ↦ (
              let some : Some c ≡ Some first = rw (slash, other, star) at h in
              inr (eqb-true c.byte 47 slash, same_Some c first some, rw (slash, other, star) refl))
          | inr plain ↦ (let none : None ≡ Some first = rw (slash, other, plain) at h in absurd (none-some first none))
        ]
      ]
      | inr other ↦ (let none : None ≡ Some first = rw other at h in absurd (none-some first none))
    ]
opens LineComment c rest first h =
    elim (cases_Bool (nat_eq c.byte 10)) [
      | inl feed ↦ (let none : None ≡ Some first = rw feed at h in absurd (none-some first none))
      | inr other ↦ (let none : None ≡ Some first = rw other at h in absurd (none-some first none))
    ]
opens (Opening from) c rest first h = inl (h, refl)
opens (BlockComment from) c rest first h =
    elim (cases_Bool (nat_eq c.byte 42 && next_is 47 rest)) [
      | inl closes ↦ (let none : None ≡ Some first = rw closes at h in absurd (none-some first none))
      | inr other ↦ (let some : Some from ≡ Some first = rw other at h in inl (some, refl))
    ]
opens Closing c rest first h = absurd (none-some first h)

-- where a comment is open at the end: it was open at the start, and nothing is left; or all that is left stands before it
abbrev IsOpenBehind : Region → Spot → List Character → Character → Type 0
IsOpenBehind region p xs first =
    ((opened region ≡ Some first) × (uncommented_from region xs ≡ []))
    ⊎ (UpTo p (char_at first) × Ascends p (uncommented_from region xs) (char_at first))

open_step : (region : Region) (p r : Spot) (c : Character) (rest : List Character) (first : Character) → UpTo p r → (c.byte ≡ 47 → UpTo p (char_at c))
    → ((ys : List Character) → Ascends r ys (char_at first) → Ascends p (c ∷ ys) (char_at first))
    → IsOpenBehind (region_after region c rest) r rest first → IsOpenBehind region p (c ∷ rest) first
open_step region p r c rest first pr slash kept behind_it =
    elim behind_it [
      | inl nothing ↦ elim (opens region c rest first nothing.0) [
        | inl before_it ↦ inl (before_it.0, rw (before_it.1, nothing.1) refl)
        | inr here ↦ (
            let at : UpTo p (char_at first) = subst (λ (x : Character). UpTo p (char_at x)) here.1 (slash here.0) in
            inr (at, rw (here.2, nothing.1) at))
      ]
      | inr left ↦ (
          let ys = uncommented_from (region_after region c rest) rest in
          let on : Ascends p ys (char_at first) = ascends_later p r ys (char_at first) pr left.1 in
          inr (
            up_to p r (char_at first) pr left.0,
            elim (left_cases region c rest) [
              | inl none ↦ rw none on
              | inr some ↦ elim some [
                | inl same ↦ rw same (kept ys left.1)
                | inr space ↦ rw space on
              ]
            ],
          ))
    ]

slash_no_space : {P : Type 0} (b : ℕ) → is_space b ≡ true → b ≡ 47 → P
slash_no_space {P} b space slash = absurd (true≢false (sym (subst (λ (n : ℕ). is_space n ≡ true) slash space)))

open_behind : (region : Region) (p : Spot) (xs : List Character) (q : Spot) (first : Character) → Ascends p xs q → opened (last_region_from region xs) ≡ Some first → IsOpenBehind region p xs first
open_behind region p [] q first a h = inl (h, refl)
open_behind region p (c ∷ rest) q first a h =
    elim (cases_Bool (is_space c.byte)) [
      | inl space ↦ (
          let on : Ascends p rest q = rw space at a in
          open_step region p p c rest first (up_to_itself p) (λ slash. slash_no_space c.byte space slash) (λ ys b. rw space b)
          (open_behind (region_after region c rest) p rest q first on h))
      | inr other ↦ (
          let on : UpTo p (char_at c) × Ascends (char_past c) rest q = rw other at a in
          open_step region p (char_past c) c rest first (up_to p (char_at c) (char_past c) on.0 (up_to_past c.line c.column)) (λ slash. on.0) (λ ys b. rw other (on.0, b))
          (open_behind (region_after region c rest) (char_past c) rest q first on.1 h))
    ]

-- ---- splices

ascends_from : (b line column : ℕ) (ys : List Character) (r q : Spot) → UpTo (spot line (column + 1)) r → Ascends r ys q → Ascends (spot line column) (record { byte = b; line = line; column = column } ∷ ys) q
ascends_from b line column ys r q pr h =
    let on : Ascends (spot line (column + 1)) ys q = ascends_later (spot line (column + 1)) r ys q pr h in
    elim (cases_Bool (is_space b)) [
      | inl space ↦ rw space (ascends_later (spot line column) (spot line (column + 1)) ys q (up_to_past line column) on)
      | inr other ↦ rw other (up_to_itself (spot line column), on)
    ]

spliced_ascends : (c : Cursor) (text : List ℕ) → (q : Spot) × Ascends (spot c.line c.column) (spliced_from c text) q
unfolding left_of cursor_after
spliced_ascends c [] = (spot c.line c.column, up_to_itself (spot c.line c.column))
spliced_ascends c (b ∷ rest) =
    elim (cases_Bool (nat_lt 0 c.skip)) [
      | inl skipped ↦ rw skipped (spliced_ascends (record { line = c.line; column = c.column; skip = pred c.skip }) rest)
      | inr not_skipped ↦ elim (cases_Bool (begins_splice b rest)) [
        | inl splice ↦ rw (not_skipped, splice) (
            let found = spliced_ascends (record { line = c.line + 1; column = 1; skip = line_end rest }) rest in
            (found.0, ascends_later (spot c.line c.column) (spot (c.line + 1) 1) (spliced_from (record { line = c.line + 1; column = 1; skip = line_end rest }) rest) found.0 (inl (omega arith)) found.1))
        | inr byte ↦ elim (cases_Bool (nat_eq b 10)) [
          | inl feed ↦ rw (not_skipped, byte, feed) (
              let found = spliced_ascends (record { line = c.line + 1; column = 1; skip = 0 }) rest in
              (found.0, ascends_from b c.line c.column (spliced_from (record { line = c.line + 1; column = 1; skip = 0 }) rest) (spot (c.line + 1) 1) found.0 (inl (omega arith)) found.1))
          | inr other ↦ rw (not_skipped, byte, other) (
              let found = spliced_ascends (record { line = c.line; column = c.column + 1; skip = 0 }) rest in
              (found.0, ascends_from b c.line c.column (spliced_from (record { line = c.line; column = c.column + 1; skip = 0 }) rest) (spot c.line (c.column + 1)) found.0 (up_to_itself (spot c.line (c.column + 1))) found.1))
        ]
      ]
    ]

-- ---- texts

lines_part : (file : ℕ) (progress : Progress) (p : Spot) (line characters : List Character) (q : Spot) → Ascends p (line ++ characters) q → IsPart file p q (lines_faults file progress line characters)
lines_part file progress p line [] q h =
    let on : Ascends p line q = subst (λ (xs : List Character). Ascends p xs q) (append-nil line) h in
    line_part file progress p (pieces file line) q (pieces_rising file true 0 p line q on)
lines_part file progress p line (c ∷ rest) q h =
    elim (cases_Bool (nat_eq c.byte 10)) [
      | inl feed ↦ rw feed (
          let found = ascends_split p line (c ∷ rest) q h in
          part_append file p found.0 q (line_faults progress (pieces file line)) (lines_faults file (past_line progress (pieces file line)) [] rest)
          (ascends_up p line found.0 found.1) (ascends_up found.0 (c ∷ rest) q found.2)
          (line_part file progress p (pieces file line) found.0 (pieces_rising file true 0 p line found.0 found.1))
          (lines_part file (past_line progress (pieces file line)) found.0 [] rest q (ascends_rest found.0 c rest q found.2)))
      | inr other ↦ rw other (
          let on : Ascends p ((line ++ c ∷ []) ++ rest) q = subst (λ (xs : List Character). Ascends p xs q) (sym (append_assoc line (c ∷ []) rest)) h in
          lines_part file progress p (line ++ c ∷ []) rest q on)
    ]

none_or_first : (o : Option Character) → (o ≡ None) ⊎ ((first : Character) × (o ≡ Some first))
none_or_first None = inl refl
none_or_first (Some first) = inr (first, refl)

text_part : (file : ℕ) (progress : Progress) (text : List ℕ) → (q : Spot) × IsPart file (spot 1 1) q (text_faults file progress text)
unfolding text_faults
text_part file progress text =
    let found = spliced_ascends start text in
    let characters = uncommented (spliced text) in
    elim (none_or_first (opened (last_region (spliced text)))) [
      | inl none ↦ (
          let whole : IsPart file (spot 1 1) found.0 (lines_faults file progress [] characters) = lines_part file progress (spot 1 1) [] characters found.0 (uncommented_ascends Code (spot 1 1) (spliced text) found.0 found.1) in
          (found.0, rw none (subst (λ (faults : List LexFault). IsPart file (spot 1 1) found.0 faults) (sym (append-nil (lines_faults file progress [] characters))) whole)))
      | inr some ↦ elim (open_behind Code (spot 1 1) (spliced text) found.0 some.0 found.1 some.1) [
        | inl nothing ↦ absurd (none-some some.0 nothing.0)
        | inr left ↦ (
            let lines : IsPart file (spot 1 1) (char_at some.0) (lines_faults file progress [] characters) = lines_part file progress (spot 1 1) [] characters (char_at some.0) left.1 in (
              char_past some.0,
              rw (some.1) (
                  part_append file (spot 1 1) (char_at some.0) (char_past some.0) (lines_faults file progress [] characters) (OpenComment (place_of file some.0) ∷ []) left.0 (up_to_past some.0.line some.0.column) lines
                  (one_fault (place_of file some.0) (OpenComment (place_of file some.0)) refl)),
            ))
      ]
    ]

-- faults of this file or later ones
abbrev IsFromFile : ℕ → LexFault → Type 0
IsFromFile file fault = file ≤ (place_of_fault fault).file

texts_lead : (file : ℕ) (p q : Spot) (faults later : List LexFault) → IsPart file p q faults → Every (IsFromFile (suc file)) later × LeadsAll later → LeadsAll (faults ++ later)
texts_lead file p q [] later one two = two.1
texts_lead file p q (fault ∷ faults) later one two =
    every_append (ComesBefore fault) faults later one.1
    (every_more (IsFromFile (suc file)) (ComesBefore fault) later (λ other from. inl (inl (omega (arith, from, one.0.0.0)))) two.0)

texts_part : (file : ℕ) (progress : Progress) (texts : List (List ℕ)) → Every (IsFromFile file) (texts_faults file progress texts) × LeadsAll (texts_faults file progress texts)
texts_part file progress [] = (tt, tt)
texts_part file progress (text ∷ texts) =
    let here = text_part file progress text in
    let later = texts_part (suc file) (past_text file progress text) texts in
    let first = text_faults file progress text in
    let rest = texts_faults (suc file) (past_text file progress text) texts in (
      every_append (IsFromFile file) first rest
          (every_more (IsFrom file (spot 1 1) here.0) (IsFromFile file) first (λ fault from. omega (arith, from.0)) here.1.0)
          (every_more (IsFromFile (suc file)) (IsFromFile file) rest (λ fault from. omega (arith, from)) later.0),
      texts_lead file (spot 1 1) here.0 first rest here.1 later,
    )

other_fault : (fault : LexFault) (faults : List LexFault) (other : LexFault) (k : ℕ) → LeadsAll (fault ∷ faults) → k < length (fault ∷ faults) → get_or (fault ∷ faults) k other ≡ other → (other ≡ fault) ⊎ ComesBefore fault other
other_fault fault faults other zero all lt at = inl (sym at)
other_fault fault faults other (suc k) all lt at = inr (every_at (ComesBefore fault) faults other k all (omega (arith, lt)) at)

least_of : (r : Result (List Token) LexFault) (past_it : List Token) (faults : List LexFault) → Agrees r past_it faults → LeadsAll faults → IsLeast faults r
least_of (Ok tokens) past_it faults agrees lead = agrees.1
least_of (Err fault) past_it faults agrees lead =
    let all : LeadsAll (fault ∷ agrees.0) = subst LeadsAll agrees.1 lead in (
      subst (λ (fs : List LexFault). Contains fs fault) (sym agrees.1) (0, omega arith, refl),
      λ other inside. (
          let found : Contains (fault ∷ agrees.0) other = subst (λ (fs : List LexFault). Contains fs other) agrees.1 inside in
          other_fault fault agrees.0 other found.0 all found.1 found.2),
    )

pub least_fault : (texts : List (List ℕ)) → IsLeast (faults_of texts) (tokens_of texts)
unfolding faults_of
least_fault texts = least_of (tokens_of texts) (past_texts 0 at_start texts).tokens (faults_of texts) (tokens_agree texts) (texts_part 0 at_start texts).1
