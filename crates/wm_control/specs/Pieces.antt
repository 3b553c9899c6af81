-- Pieces of a drawing, each from where the one before ends.
use Rattle.std.specs.Prelude.{ℕ, suc, ◌+◌, List, [], ◌∷◌, ◌++◌}
use Rattle.wm_flow.specs.Strokes.{Stroke}
use Rattle.wm_pen.specs.Ink.{Ink, put}

pub data Piece : Type 0 where
  -- so many nodes
  Many : (size : ℕ) → (strokes : ℕ → List Stroke) → Piece
  -- one node
  One : (strokes : ℕ → List Stroke) → Piece

abbrev pub drawn : List Piece → Ink → Ink
drawn [] ink = ink
drawn (Many size strokes ∷ rest) ink = drawn rest (put size (strokes ink.node) ink)
drawn (One strokes ∷ rest) ink = drawn rest (put 1 (strokes ink.node) ink)

abbrev pub total : List Piece → ℕ
total [] = 0
total (Many size strokes ∷ rest) = size + total rest
total (One strokes ∷ rest) = suc (total rest)

abbrev pub gathered : List Piece → ℕ → List Stroke
gathered [] node = []
gathered (Many size strokes ∷ []) node = strokes node
gathered (One strokes ∷ []) node = strokes node
gathered (Many size strokes ∷ next ∷ rest) node = strokes node ++ gathered (next ∷ rest) (node + size)
gathered (One strokes ∷ next ∷ rest) node = strokes node ++ gathered (next ∷ rest) (suc node)
