-- A pen as contracts see it, and what it records.
use Rattle.std.specs.Prelude.{ℕ, ◌+◌, Bool, true, false, List, [], ◌++◌}
use Rattle.wm_flow.specs.Strokes.{Stroke}
use Rattle.wm_pen.specs.declared.pen.Mode.{Mode}
use Rattle.wm_pen.specs.declared.pen.Mode.TheVariants.{Draws, Measures, Rests}

-- the node at which it is, what it does with strokes, and what it has recorded
pub record Ink : Type 0 where
  pub node : ℕ
  pub mode : Mode
  pub strokes : List Stroke

-- a pen that draws, and one that measures
abbrev pub drawing : ℕ → Ink
drawing node = record { node = node; mode = Draws; strokes = [] }

abbrev pub measuring : Ink
measuring = record { node = 0; mode = Measures; strokes = [] }

abbrev pub is_rest : Mode → Bool
is_rest Draws = false
is_rest Measures = false
is_rest Rests = true

-- the pen that tells how many nodes something will make
abbrev pub ruler_mode : Mode → Mode
ruler_mode Draws = Measures
ruler_mode Measures = Rests
ruler_mode Rests = Rests

abbrev pub ruler : Ink → Ink
ruler ink = record { node = 0; mode = ruler_mode ink.mode; strokes = [] }

-- so many nodes further, with these strokes
abbrev pub putting : ℕ → List Stroke → (node : ℕ) → List Stroke → Mode → Ink
putting size strokes node before Draws = record { node = node + size; mode = Draws; strokes = before ++ strokes }
putting size strokes node before Measures = record { node = node + size; mode = Measures; strokes = before }
putting size strokes node before Rests = record { node = node; mode = Rests; strokes = before }

unfoldable pub put : ℕ → List Stroke → Ink → Ink
put size strokes ink = putting size strokes ink.node ink.strokes ink.mode

-- what the ruler of a pen tells of so many nodes
abbrev pub told : ℕ → Mode → ℕ
told size Draws = size
told size Measures = 0
told size Rests = 0

unfoldable pub ahead : Ink → ℕ → ℕ
ahead ink size = told size ink.mode
