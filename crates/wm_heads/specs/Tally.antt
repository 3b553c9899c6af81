-- How often strokes begin the head of a number, where it is known how often each instance does.
use Rattle.std.specs.Prelude.{ℕ, ◌+◌, if◌then◌else◌, ◌==◌, List, [], ◌∷◌}
use Rattle.wm_program.specs.WellFormed.{Calling}
use Rattle.wm_flow.specs.declared.seats.Tables.{Tables}
use Rattle.wm_flow.specs.Places.{head_of}
use Rattle.wm_flow.specs.Strokes.{Stroke, Point, Line, Part, Begins, Turns}

-- 1 where two numbers are the same, else 0
abbrev pub same : ℕ → ℕ → ℕ
same a b = if a == b then 1 else 0

abbrev pub times : ℕ → List ℕ → ℕ
times n [] = 0
times n (m ∷ rest) = same m n + times n rest

module _ (n : ℕ) (part : ℕ → ℕ) where
  unfoldable pub begins : List Stroke → ℕ
  begins [] = 0
  begins (Point context instance counters temporaries ∷ rest) = begins rest
  begins (Line source target doing site ∷ rest) = begins rest
  begins (Part instance start ∷ rest) = part instance + begins rest
  begins (Begins head instance loop node ∷ rest) = same head n + begins rest
  begins (Turns head ∷ rest) = begins rest

-- those of what an instance calls
abbrev pub called : (part : ℕ → ℕ) (instance : ℕ) → List Calling → ℕ
called part instance [] = 0
called part instance (calling ∷ rest) = part (instance + calling.offset) + called part instance rest

-- those of loops in an instance
abbrev pub own : ℕ → Tables → (instance : ℕ) → List ℕ → ℕ
own n tables instance [] = 0
own n tables instance (loop ∷ rest) = same (head_of tables instance loop) n + own n tables instance rest
