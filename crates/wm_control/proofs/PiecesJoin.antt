-- Pieces of a drawing stand together.
use Rattle.std.proofs.Common.{◌≡◌, ℕ, suc, ◌+◌, List, [], ◌∷◌, ◌++◌, refl, ap, sym, ◌∙◌, arith}
use Rattle.wm_flow.specs.Strokes.{Stroke}
use Rattle.wm_pen.specs.Ink.{Ink, put}
use Rattle.wm_pen.proofs.Joins.{put_none, put_after}
use Rattle.wm_control.specs.Pieces.{Piece, Many, One, drawn, total, gathered}

pub pieces_join : (pieces : List Piece) (ink : Ink) → drawn pieces ink ≡ put (total pieces) (gathered pieces ink.node) ink
pieces_join [] ink = sym (put_none ink)
pieces_join (Many size strokes ∷ []) ink =
    let e : size ≡ size + 0 = omega arith in
    ap (λ n. put n (strokes ink.node) ink) e
pieces_join (One strokes ∷ []) ink = refl
pieces_join (Many size strokes ∷ next ∷ rest) ink =
    pieces_join (next ∷ rest) (put size (strokes ink.node) ink)
    ∙ put_after size (total (next ∷ rest)) (strokes ink.node) (λ node. gathered (next ∷ rest) node) ink
pieces_join (One strokes ∷ next ∷ rest) ink =
    let e : 1 + total (next ∷ rest) ≡ suc (total (next ∷ rest)) = omega arith in
    let h : ink.node + 1 ≡ suc ink.node = omega arith in
    pieces_join (next ∷ rest) (put 1 (strokes ink.node) ink)
    ∙ (put_after 1 (total (next ∷ rest)) (strokes ink.node) (λ node. gathered (next ∷ rest) node) ink
    ∙ (ap (λ n. put n (strokes ink.node ++ gathered (next ∷ rest) (ink.node + 1)) ink) e
    ∙ ap (λ n. put (suc (total (next ∷ rest))) (strokes ink.node ++ gathered (next ∷ rest) n) ink) h))

-- with the size and the strokes that a definition gives
pub pieces_are : (pieces : List Piece) (size : ℕ) (strokes : List Stroke) (ink : Ink) → total pieces ≡ size → gathered pieces ink.node ≡ strokes → drawn pieces ink ≡ put size strokes ink
pieces_are pieces size strokes ink sizes same =
    pieces_join pieces ink
    ∙ (ap (λ n. put n (gathered pieces ink.node) ink) sizes
    ∙ ap (λ xs. put size xs ink) same)
