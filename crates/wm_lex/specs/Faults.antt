-- All faults of texts, where the reading goes on behind each of them: a piece that has one is left out, and a directive that has
-- one has no effect.
use Rattle.std.specs.Prelude.{◌≡◌, ◌⊎◌, ℕ, suc, ◌<◌, Bool, true, false, if◌then◌else◌, ◌==◌, List, [], ◌∷◌, ◌++◌, Option, Some, None, is_none, Result, Ok, Err, Contains, bytes_eq, codes}
use Rattle.wm_lang.specs.declared.place.Place.{Place}
use Rattle.wm_lang.specs.declared.token.Token.{Token}
use Rattle.wm_lex.specs.declared.character.Character.{Character}
use Rattle.wm_lex.specs.declared.definitions.Macro.{Macro}
use Rattle.wm_lex.specs.declared.fault.LexFault.{LexFault}
use Rattle.wm_lex.specs.declared.fault.LexFault.TheVariants.{BadByte, OpenComment, BadNumber, BadDirective, MacroLoop, TooManyTokens, NoMemory}
use Rattle.wm_lex.specs.declared.lexeme.Lexeme.{Lexeme}
use Rattle.wm_lex.specs.declared.piece.Piece.{Piece}
use Rattle.wm_lex.specs.Answers.{◌>>=◌}
use Rattle.wm_lex.specs.Characters.{place_of}
use Rattle.wm_lex.specs.Comments.{uncommented, last_region, opened}
use Rattle.wm_lex.specs.Lines.{Progress, with_macros, after_lexeme, word_in, opens_directly, after_hash, at_start}
use Rattle.wm_lex.specs.Pieces.{is_hash, lexeme_of, pieces}
use Rattle.wm_lex.specs.Replacing.{replaced, loops}
use Rattle.wm_lex.specs.Splices.{spliced}

-- ---- the order of faults

-- want of memory has no place, and is no fault of the texts
abbrev pub place_of_fault : LexFault → Place
place_of_fault (BadByte place) = place
place_of_fault (OpenComment place) = place
place_of_fault (BadNumber place) = place
place_of_fault (BadDirective place) = place
place_of_fault (MacroLoop place) = place
place_of_fault (TooManyTokens place) = place
place_of_fault NoMemory = record { file = 0; line = 0; column = 0 }

-- the order at one place
abbrev pub rank : LexFault → ℕ
rank (BadByte place) = 0
rank (OpenComment place) = 1
rank (BadNumber place) = 2
rank (BadDirective place) = 3
rank (MacroLoop place) = 4
rank (TooManyTokens place) = 5
rank NoMemory = 6

-- by file, line and column
abbrev pub IsBefore : Place → Place → Type 0
IsBefore p q = (p.file < q.file) ⊎ ((p.file ≡ q.file) × ((p.line < q.line) ⊎ ((p.line ≡ q.line) × (p.column < q.column))))

abbrev pub ComesBefore : LexFault → LexFault → Type 0
ComesBefore a b = IsBefore (place_of_fault a) (place_of_fault b) ⊎ ((place_of_fault a ≡ place_of_fault b) × (rank a < rank b))

-- an answer is the least of the faults; tokens come where there is none
abbrev pub IsLeast : List LexFault → Result (List Token) LexFault → Type 0
IsLeast faults (Ok tokens) = faults ≡ []
IsLeast faults (Err fault) = Contains faults fault × ((other : LexFault) → Contains faults other → (other ≡ fault) ⊎ ComesBefore fault other)

-- ---- lines of text

abbrev pub only_if : Bool → LexFault → List LexFault
only_if true fault = fault ∷ []
only_if false fault = []

-- what a step of the reading gives, or what was before it where it meets a fault
abbrev pub or_before : {A : Type 0} → A → Result A LexFault → A
or_before before (Ok next) = next
or_before before (Err fault) = before

-- a macro that loops makes more than there is room for, so it has both faults
abbrev pub lexeme_faults : Progress → Place → Lexeme → List LexFault
lexeme_faults progress place lexeme =
    only_if (loops progress.macros lexeme) (MacroLoop place) ++
    only_if (is_none (replaced progress.macros place progress.room progress.tokens (lexeme ∷ []))) (TooManyTokens place)

abbrev pub faults_where : Progress → Place → Result Lexeme LexFault → List LexFault
faults_where progress place (Ok lexeme) = lexeme_faults progress place lexeme
faults_where progress place (Err fault) = fault ∷ []

abbrev pub piece_faults : Progress → Piece → List LexFault
piece_faults progress piece = faults_where progress piece.place (lexeme_of piece)

abbrev pub past_piece : Progress → Piece → Progress
past_piece progress piece = or_before progress (lexeme_of piece >>= after_lexeme progress piece.place)

abbrev pub pieces_faults : Progress → List Piece → List LexFault
pieces_faults progress [] = []
pieces_faults progress (piece ∷ left) = piece_faults progress piece ++ pieces_faults (past_piece progress piece) left

abbrev pub past_pieces : Progress → List Piece → Progress
past_pieces progress [] = progress
past_pieces progress (piece ∷ left) = past_pieces (past_piece progress piece) left

-- ---- directives

abbrev pub fault_of : {A : Type 0} → Result A LexFault → List LexFault
fault_of (Ok x) = []
fault_of (Err fault) = fault ∷ []

abbrev pub list_faults : List Piece → List LexFault
list_faults [] = []
list_faults (piece ∷ left) = fault_of (lexeme_of piece) ++ list_faults left

abbrev pub list_behind_name : Option (List ℕ) → List Piece → List Piece
list_behind_name None left = []
list_behind_name (Some word) left = if opens_directly left then [] else left

abbrev pub list_behind_define : List Piece → List Piece
list_behind_define [] = []
list_behind_define (piece ∷ left) = list_behind_name (word_in piece.kind) left

abbrev pub list_behind_word : Option (List ℕ) → List Piece → List Piece
list_behind_word None left = []
list_behind_word (Some word) left = if bytes_eq word (codes "define") then list_behind_define left else []

-- the pieces of the list of a define, none where the directive is none
abbrev pub list_behind_hash : List Piece → List Piece
list_behind_hash [] = []
list_behind_hash (piece ∷ left) = list_behind_word (word_in piece.kind) left

abbrev pub is_bad_directive : Result (List Macro) LexFault → Bool
is_bad_directive (Ok macros) = false
is_bad_directive (Err (BadByte place)) = false
is_bad_directive (Err (OpenComment place)) = false
is_bad_directive (Err (BadNumber place)) = false
is_bad_directive (Err (BadDirective place)) = true
is_bad_directive (Err (MacroLoop place)) = false
is_bad_directive (Err (TooManyTokens place)) = false
is_bad_directive (Err NoMemory) = false

-- a bad directive has its fault at its `#`; a define has also those of its list
abbrev pub directive_faults : List Macro → Place → List Piece → List LexFault
directive_faults macros hash left = only_if (is_bad_directive (after_hash macros hash left)) (BadDirective hash) ++ list_faults (list_behind_hash left)

-- ---- lines and texts

abbrev pub line_faults : Progress → List Piece → List LexFault
line_faults progress [] = []
line_faults progress (piece ∷ left) = if is_hash piece.kind then directive_faults progress.macros piece.place left else pieces_faults progress (piece ∷ left)

abbrev pub past_line : Progress → List Piece → Progress
past_line progress [] = progress
past_line progress (piece ∷ left) =
    if is_hash piece.kind then with_macros progress (or_before progress.macros (after_hash progress.macros piece.place left)) else past_pieces progress (piece ∷ left)

-- the line so far goes on to the next line feed or the end
abbrev pub lines_faults : ℕ → Progress → List Character → List Character → List LexFault
lines_faults file progress line [] = line_faults progress (pieces file line)
lines_faults file progress line (c ∷ rest) =
    if c.byte == 10 then line_faults progress (pieces file line) ++ lines_faults file (past_line progress (pieces file line)) [] rest
    else lines_faults file progress (line ++ c ∷ []) rest

abbrev pub past_lines : ℕ → Progress → List Character → List Character → Progress
past_lines file progress line [] = past_line progress (pieces file line)
past_lines file progress line (c ∷ rest) =
    if c.byte == 10 then past_lines file (past_line progress (pieces file line)) [] rest
    else past_lines file progress (line ++ c ∷ []) rest

abbrev pub open_faults : ℕ → Option Character → List LexFault
open_faults file None = []
open_faults file (Some first) = OpenComment (place_of file first) ∷ []

unfoldable pub text_faults : ℕ → Progress → List ℕ → List LexFault
text_faults file progress text =
    lines_faults file progress [] (uncommented (spliced text)) ++ open_faults file (opened (last_region (spliced text)))

unfoldable pub past_text : ℕ → Progress → List ℕ → Progress
past_text file progress text = past_lines file progress [] (uncommented (spliced text))

abbrev pub texts_faults : ℕ → Progress → List (List ℕ) → List LexFault
texts_faults file progress [] = []
texts_faults file progress (text ∷ texts) = text_faults file progress text ++ texts_faults (suc file) (past_text file progress text) texts

-- all faults of the texts
unfoldable pub faults_of : List (List ℕ) → List LexFault
faults_of texts = texts_faults 0 at_start texts
