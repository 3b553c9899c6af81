-- Which of the pairs of a state a text prints: those that are tighter than what the two ranges give.
use Rattle.std.specs.Prelude.{List, [], ◌∷◌, if◌then◌else◌}
use Rattle.wm_cert_text.specs.declared.told.Ends.{Ends}
use Rattle.wm_cert_text.specs.declared.told.Pair.{Pair}
use Rattle.wm_cert_text.specs.declared.told.State.{State}
use Rattle.wm_cert_read.specs.Pairs.{tells}

abbrev pub tighter : List Ends → List Pair → List Pair
tighter bounds [] = []
tighter bounds (pair ∷ rest) = if tells bounds pair then pair ∷ tighter bounds rest else tighter bounds rest

-- all that a state tells, with the pairs that a text prints
abbrev pub printed : State → State
printed state = record { bounds = state.bounds; pairs = tighter state.bounds state.pairs; arrays = state.arrays }
