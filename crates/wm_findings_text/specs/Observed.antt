-- What was seen of a program beside what is proved of it: a line for each object, and the greatest counts.
use Rattle.std.specs.Prelude.{ℕ, ◌+◌, Bool, List, [], ◌∷◌, ◌++◌, Option, Some, None, codes, decimal, slice_get}
use Rattle.wm_arrays.specs.declared.state_line.StateLine.{StateLine}
use Rattle.wm_arrays.specs.declared.summary.Summary.{Summary}
use Rattle.wm_flow.specs.declared.graph.Bound.{Bound}
use Rattle.wm_program.specs.declared.program.ObjectInfo.{ObjectInfo}
use Rattle.wm_program.specs.declared.program.Program.{Program}
use Rattle.wm_program.specs.declared.spec.Spec.{Spec}
use Rattle.wm_findings.specs.declared.findings.Findings.{Findings}
use Rattle.wm_findings.specs.declared.findings.Seen.{Seen}
use Rattle.wm_findings_text.specs.Report.{count_line, summary_text, object_name, bound_line, is_several}

unfoldable pub seen_line : List ObjectInfo → ℕ → Summary → StateLine → List ℕ
seen_line objects k seen line =
    codes "state " ++ decimal k ++ codes " " ++ object_name (slice_get objects line.object) ++ codes " seen "
    ++ summary_text seen ++ codes " proved " ++ summary_text line.summary ++ codes "\n"

-- the line of the object of number k, from 0; none where nothing was seen of it
unfoldable pub seen_line_of : List ObjectInfo → ℕ → Option StateLine → StateLine → List ℕ
seen_line_of objects k None line = []
seen_line_of objects k (Some seen) line = seen_line objects (k + 1) seen.summary line

-- a line for each object; the first has the number k, from 0
abbrev pub seen_lines : List ObjectInfo → List StateLine → ℕ → List StateLine → List ℕ
seen_lines objects seen k [] = []
seen_lines objects seen k (line ∷ lines) = seen_line_of objects k (slice_get seen k) line ++ seen_lines objects seen (k + 1) lines

-- the greatest count of a function's frames, and its bound
unfoldable pub counted_line : Bool → List ℕ → ℕ → Bound → List ℕ
counted_line several name count bound = codes "count " ++ decimal count ++ codes " " ++ bound_line several name bound

abbrev pub counted_line_of : Bool → List ℕ → Option ℕ → Option Bound → List ℕ
counted_line_of several name None bound = []
counted_line_of several name (Some count) None = []
counted_line_of several name (Some count) (Some bound) = counted_line several name count bound

-- a line for each function; the first has the number k, from 0
abbrev pub counted_lines : Bool → List ℕ → List Bound → ℕ → List (List ℕ) → List ℕ
counted_lines several counts bounds k [] = []
counted_lines several counts bounds k (name ∷ names) =
    counted_line_of several name (slice_get counts k) (slice_get bounds k) ++ counted_lines several counts bounds (k + 1) names

unfoldable pub observe_text : Program → Spec → Findings → Seen → List ℕ
observe_text program spec found seen =
    codes "wmops observe 1\n" ++ count_line (codes "frames") seen.frames ++ seen_lines program.objects seen.states 0 found.states
    ++ counted_lines (is_several spec.frames) seen.counts found.bounds 0 spec.frames
