-- The findings of the graph of a program by the states of its heads.
use Rattle.std.specs.Prelude.{ℕ, ◌≡◌, ◌<◌, Bool, List, Option, Some, length, slice_get, slice_index_or}
use Rattle.wm_program.specs.declared.program.Program.{Program}
use Rattle.wm_domain.specs.declared.shape.Shape.{Shape}
use Rattle.wm_domain.specs.Points.{Point}
use Rattle.wm_arrays.specs.declared.state_line.StateLine.{StateLine}
use Rattle.wm_flow.specs.declared.graph.Graph.{Graph}
use Rattle.wm_flow.specs.declared.graph.Facts.{Facts}
use Rattle.wm_flow.specs.Seats.{tables_of}
use Rattle.wm_flow.specs.declared.seats.Seat.{Seat}
use Rattle.wm_program.specs.Code.{code_of}
use Rattle.wm_program.specs.declared.program.ObjectInfo.{ObjectInfo}
use Rattle.wm_state_lines.specs.Lines.{AreLines}
use Rattle.wm_labels.specs.Accepted.{IsAccepted}
use Rattle.wm_findings.specs.declared.findings.Findings.{Findings}
use Rattle.wm_findings.specs.declared.findings.Turns.TheVariants.{Never}
use Rattle.wm_turns.specs.Turning.{turns_of}
use Rattle.wm_bounds.specs.Bounds.{bounds_of}
use Rattle.wm_verdict.specs.Sites.{AreVerdicts}
use Rattle.wm_check.specs.Counters.{AreTurns}
use Rattle.wm_check.specs.Outcomes.{AreDead}

-- the turns of each loop and the bound of each frame function, by the turns of each head, the edges that are live and the nodes at
-- which a run may stop
pub record AreCounted (program : Program) (graph : Graph) (weights : List (Option ℕ)) (turns : List (Option ℕ)) (live stops : List Bool) (findings : Findings) : Type 0 where
  pub loop_count : length findings.loops ≡ length program.loops
  pub loops_are : (k : ℕ) → k < length program.loops → slice_index_or findings.loops k Never ≡ turns_of k turns live graph.heads
  pub bounds_are : findings.bounds ≡ bounds_of program graph weights turns live stops

-- the lines tell what the objects hold at the points of the state of the frame head, which is the first
pub record AreStateLines {S : Type 0} (Has : S → Point → Type 0) (objects : List ObjectInfo) (seats : List Seat) (heads : List S) (lines : List StateLine) : Type 0 where
  pub of_first : (state : S) → slice_get heads 0 ≡ Some state → AreLines (Has state) objects seats lines

module _ (Allowed : Graph → (number : ℕ) → (Point → Type 0) → (Point → Type 0) → Point → Type 0) (Started : Program → Graph → Point → Type 0) {S : Type 0} (Has : S → Point → Type 0) (shape_of : S → Shape) where
  -- The verdicts are those of labels by which the states of the heads are accepted, the lines of state those of the frame head. Loops
  -- and bounds are by the turns of the heads in their states, by edges of which each other one allows no point from these labels, and by
  -- one list of stops.
  pub record AreFindings (program : Program) (graph : Graph) (weights : List (Option ℕ)) (heads : List S) (findings : Findings) : Type 0 where
    pub accepted : IsAccepted Allowed Started Has shape_of program graph heads
    pub verdicts_are : AreVerdicts Has program graph accepted.labels findings.sites
    pub states_are : AreStateLines Has program.objects (tables_of (code_of program)).objects heads findings.states
    pub turns : List (Option ℕ)
    pub turns_are : AreTurns Has graph heads turns
    pub live : List Bool
    pub dead : AreDead Allowed Has shape_of graph accepted.labels live
    pub stops : List Bool
    pub counted : AreCounted program graph weights turns live stops findings

  -- what is told of an accepted certificate alone
  pub record AreFacts (program : Program) (graph : Graph) (heads : List S) (facts : Facts) : Type 0 where
    pub accepted : IsAccepted Allowed Started Has shape_of program graph heads
    pub turns_are : AreTurns Has graph heads facts.turns
    pub dead : AreDead Allowed Has shape_of graph accepted.labels facts.live
