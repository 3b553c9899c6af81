-- The pieces of a line, one at a time.
use Rattle.std.proofs.Common.{◌≡◌, ℕ, zero, suc, ◌+◌, Bool, true, false, List, [], ◌∷◌, ◌++◌, length, take, drop, ◌-◌, refl, sym, ap, subst, ◌∙◌, append_assoc}
use Rattle.std.proofs.lemmas.List.{append-nil, take_rest}
use Rattle.wm_lex.specs.declared.character.Character.{Character}
use Rattle.wm_lang.specs.declared.place.Place.{Place}
use Rattle.wm_lex.specs.declared.piece.Piece.{Piece}
use Rattle.wm_lex.specs.declared.piece.Front.{Front}
use Rattle.wm_lex.specs.Characters.{place_of, is_space}
use Rattle.wm_lex.specs.Pieces.{front_of, piece_of, pieces_from}

-- the characters that belong to the last piece are passed
pub pieces_drop : (file : ℕ) (spaced : Bool) (more : ℕ) (characters : List Character) → pieces_from file spaced more characters ≡ pieces_from file spaced 0 (drop more characters)
pieces_drop file spaced zero characters = refl
pieces_drop file spaced (suc more) [] = refl
pieces_drop file spaced (suc more) (c ∷ rest) = pieces_drop file spaced more rest

-- white space goes
pub space_step : (file : ℕ) (spaced : Bool) (found : List Piece) (c : Character) (left rest : List Character) (total : List Piece)
    → left ≡ c ∷ rest → is_space c.byte ≡ true → found ++ pieces_from file spaced 0 left ≡ total → found ++ pieces_from file true 0 rest ≡ total
space_step file spaced found c left rest total left-is space so_far =
    let one : found ++ pieces_from file spaced 0 (c ∷ rest) ≡ total = subst (λ (t : List Character). found ++ pieces_from file spaced 0 t ≡ total) left-is so_far in
    rw space at one

-- a piece goes, and is put behind those so far
pub piece_step : (file : ℕ) (spaced : Bool) (found : List Piece) (c : Character) (left rest : List Character) (total : List Piece)
    → left ≡ c ∷ rest → is_space c.byte ≡ false → found ++ pieces_from file spaced 0 left ≡ total
    → (found ++ piece_of (front_of c rest).kind (place_of file c) spaced ∷ []) ++ pieces_from file false 0 (drop (front_of c rest).more rest) ≡ total
piece_step file spaced found c left rest total left-is not_space so_far =
    let one : found ++ pieces_from file spaced 0 (c ∷ rest) ≡ total = subst (λ (t : List Character). found ++ pieces_from file spaced 0 t ≡ total) left-is so_far in
    let two : found ++ (piece_of (front_of c rest).kind (place_of file c) spaced ∷ pieces_from file false (front_of c rest).more rest) ≡ total = rw not_space at one in
    append_assoc found (piece_of (front_of c rest).kind (place_of file c) spaced ∷ []) (pieces_from file false 0 (drop (front_of c rest).more rest))
    ∙ ap (λ (t : List Piece). found ++ (piece_of (front_of c rest).kind (place_of file c) spaced ∷ t)) (sym (pieces_drop file false (front_of c rest).more rest)) ∙ two

pub piece_end : (file : ℕ) (spaced : Bool) (found : List Piece) (left : List Character) (total : List Piece)
    → left ≡ [] → found ++ pieces_from file spaced 0 left ≡ total → found ≡ total
piece_end file spaced found left total none so_far =
    let one : found ++ pieces_from file spaced 0 [] ≡ total = subst (λ (t : List Character). found ++ pieces_from file spaced 0 t ≡ total) none so_far in
    sym (append-nil found) ∙ one

-- the same, for a piece that was read and pushed
pub piece_pushed : (file : ℕ) (spaced : Bool) (found pushed : List Piece) (c : Character) (left rest : List Character) (front : Front) (place : Place) (total : List Piece)
    → pushed ≡ found ++ piece_of front.kind place spaced ∷ [] → front ≡ front_of c rest → place ≡ place_of file c → left ≡ c ∷ rest → is_space c.byte ≡ false
    → found ++ pieces_from file spaced 0 left ≡ total → pushed ++ pieces_from file false 0 (take (length rest - front.more) (drop front.more rest)) ≡ total
piece_pushed file spaced found pushed c left rest front place total pushed-is front-is place-is left-is not_space so_far =
    let one : (found ++ piece_of front.kind (place_of file c) spaced ∷ []) ++ pieces_from file false 0 (drop front.more rest) ≡ total =
    subst (λ (f : Front). (found ++ piece_of f.kind (place_of file c) spaced ∷ []) ++ pieces_from file false 0 (drop f.more rest) ≡ total) (sym front-is) (piece_step file spaced found c left rest total left-is not_space so_far) in
    let two : (found ++ piece_of front.kind place spaced ∷ []) ++ pieces_from file false 0 (drop front.more rest) ≡ total =
    subst (λ (p : Place). (found ++ piece_of front.kind p spaced ∷ []) ++ pieces_from file false 0 (drop front.more rest) ≡ total) (sym place-is) one in
    ap (λ (t : List Piece). t ++ pieces_from file false 0 (take (length rest - front.more) (drop front.more rest))) pushed-is
    ∙ ap (λ (t : List Character). (found ++ piece_of front.kind place spaced ∷ []) ++ pieces_from file false 0 t) (take_rest rest front.more) ∙ two
