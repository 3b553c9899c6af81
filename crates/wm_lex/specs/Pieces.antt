-- A line as pieces: each is a token before macro replacement, a `#`, or what is none of these.
use Rattle.std.specs.Prelude.{ℕ, zero, suc, Bool, true, false, ◌==◌, if◌then◌else◌, List, [], ◌∷◌, take, Option, Some, None, Result, Ok, Err, ℤ}
use Rattle.wm_lang.specs.declared.place.Place.{Place}
use Rattle.wm_lang.specs.declared.token.Punct.{Punct}
use Rattle.wm_lex.specs.declared.character.Character.{Character}
use Rattle.wm_lex.specs.declared.fault.LexFault.{LexFault}
use Rattle.wm_lex.specs.declared.fault.LexFault.TheVariants as faults
use Rattle.wm_lex.specs.declared.lexeme.Lexeme.{Lexeme}
use Rattle.wm_lex.specs.declared.lexeme.Lexeme.TheVariants.{Word, Number, Mark}
use Rattle.wm_lex.specs.declared.piece.PieceKind.{PieceKind}
use Rattle.wm_lex.specs.declared.piece.PieceKind.TheVariants.{Whole, Hash, BadByte, BadNumber}
use Rattle.wm_lex.specs.declared.piece.Piece.{Piece}
use Rattle.wm_lex.specs.declared.piece.Front.{Front}
use Rattle.wm_lex.specs.Characters.{place_of, is_space, is_letter, is_digit, is_word_byte, is_number_byte, run_length, bytes_of}
use Rattle.wm_lex.specs.Numbers.{number_of}
use Rattle.wm_lex.specs.Punctuation.{pair_mark, single_mark}

abbrev pub word_front : Character → List Character → Front
word_front c rest =
    let more = run_length is_word_byte rest in record { kind = Whole (Word (c.byte ∷ bytes_of (take more rest))); more = more }

abbrev pub kind_of_number : Option ℤ → PieceKind
kind_of_number None = BadNumber
kind_of_number (Some value) = Whole (Number value)

abbrev pub number_front : Character → List Character → Front
number_front c rest =
    let more = run_length is_number_byte rest in record { kind = kind_of_number (number_of (c.byte ∷ bytes_of (take more rest))); more = more }

-- the mark of two bytes at the front
abbrev pub pair_at : ℕ → List Character → Option Punct
pair_at byte [] = None
pair_at byte (c ∷ rest) = pair_mark byte c.byte

abbrev pub kind_of_byte : ℕ → Option Punct → PieceKind
kind_of_byte byte (Some mark) = Whole (Mark mark)
kind_of_byte byte None = if byte == 35 then Hash else BadByte

abbrev pub mark_front : ℕ → Option Punct → Front
mark_front byte (Some mark) = record { kind = Whole (Mark mark); more = 1 }
mark_front byte None = record { kind = kind_of_byte byte (single_mark byte); more = 0 }

-- the piece at the front, where a character that is no space stands before the rest: the longest word, number or mark
unfoldable pub front_of : Character → List Character → Front
front_of c rest =
    if is_letter c.byte then word_front c rest
    else (if is_digit c.byte then number_front c rest
    else mark_front c.byte (pair_at c.byte rest))

abbrev pub piece_of : PieceKind → Place → Bool → Piece
piece_of kind place spaced = record { kind = kind; place = place; spaced = spaced }

-- the pieces of characters, of which some more belong to the last piece; spaced says whether white space stands before them
abbrev pub pieces_from : ℕ → Bool → ℕ → List Character → List Piece
pieces_from file spaced more [] = []
pieces_from file spaced (suc more) (c ∷ rest) = pieces_from file spaced more rest
pieces_from file spaced zero (c ∷ rest) =
    if is_space c.byte then pieces_from file true zero rest
    else piece_of (front_of c rest).kind (place_of file c) spaced ∷ pieces_from file false (front_of c rest).more rest

abbrev pub pieces : ℕ → List Character → List Piece
pieces file line = pieces_from file true 0 line

abbrev pub is_hash : PieceKind → Bool
is_hash (Whole lexeme) = false
is_hash Hash = true
is_hash BadByte = false
is_hash BadNumber = false

-- the lexeme that a piece has to be outside directives
abbrev pub lexeme_at : PieceKind → Place → Result Lexeme LexFault
lexeme_at (Whole lexeme) place = Ok lexeme
lexeme_at Hash place = Err (faults.BadByte place)
lexeme_at BadByte place = Err (faults.BadByte place)
lexeme_at BadNumber place = Err (faults.BadNumber place)

abbrev pub lexeme_of : Piece → Result Lexeme LexFault
lexeme_of piece = lexeme_at piece.kind piece.place
