-- The text of a report: a line for each site, loop and object, the bounds and the result. Numbers are decimal, fields have one
-- space between them, and each line ends with a line feed.
use Rattle.std.specs.Prelude.{ℕ, ◌+◌, ◌*◌, ◌/◌, ◌%◌, zero, suc, Bool, true, false, ◌&&◌, List, [], ◌∷◌, ◌++◌, length, Option, Some, None, codes, decimal, slice_get, nat_lt}
use Rattle.std.specs.Int.{div_ceil}
use Rattle.std.specs.Fmt.{signed_decimal}
use Rattle.std.specs.List.{list_all}
use Rattle.wm_arrays.specs.declared.state_line.StateLine.{StateLine}
use Rattle.wm_arrays.specs.declared.summary.Summary.{Summary}
use Rattle.wm_arrays.specs.declared.summary.Summary.TheVariants as summary
use Rattle.wm_flow.specs.declared.graph.Bound.{Bound}
use Rattle.wm_flow.specs.declared.graph.Bound.TheVariants.{At, NoTrips, TooLarge}
use Rattle.wm_program.specs.declared.program.LoopInfo.{LoopInfo}
use Rattle.wm_program.specs.declared.program.ObjectInfo.{ObjectInfo}
use Rattle.wm_program.specs.declared.program.Program.{Program}
use Rattle.wm_program.specs.declared.spec.Spec.{Spec}
use Rattle.wm_findings.specs.declared.findings.Findings.{Findings}
use Rattle.wm_findings.specs.declared.findings.Turns.{Turns}
use Rattle.wm_findings.specs.declared.findings.Turns.TheVariants as turns
use Rattle.wm_findings.specs.declared.findings.Verdict.{Verdict}
use Rattle.wm_findings.specs.declared.findings.Verdict.TheVariants.{Safe, Never, Unproved}
use Rattle.wm_findings_text.specs.Places.{place_text, name_in}
use Rattle.wm_findings_text.specs.Sites.{interval_text, site_lines}

-- a line of a word and a number
unfoldable pub count_line : List ℕ → ℕ → List ℕ
count_line word n = word ++ codes " " ++ decimal n ++ codes "\n"

-- ---- loops

abbrev pub turns_text : Turns → List ℕ
turns_text turns.Never = codes "never"
turns_text turns.None = codes "trips none"
turns_text (turns.Most n) = codes "trips " ++ decimal n

unfoldable pub loop_line : List (List ℕ) → ℕ → LoopInfo → Turns → List ℕ
loop_line sources k loop found =
    codes "loop " ++ decimal k ++ codes " " ++ place_text sources loop.place ++ codes " " ++ turns_text found ++ codes "\n"

-- the line of the loop of number k, from 0; none where nothing is told of it
unfoldable pub loop_line_of : List (List ℕ) → ℕ → LoopInfo → Option Turns → List ℕ
loop_line_of sources k loop None = []
loop_line_of sources k loop (Some found) = loop_line sources (k + 1) loop found

-- a line for each loop; the first has the number k, from 0
abbrev pub loop_lines : List (List ℕ) → List Turns → ℕ → List LoopInfo → List ℕ
loop_lines sources found k [] = []
loop_lines sources found k (loop ∷ loops) = loop_line_of sources k loop (slice_get found k) ++ loop_lines sources found (k + 1) loops

-- ---- states

abbrev pub summary_text : Summary → List ℕ
summary_text summary.Empty = codes "empty"
summary_text (summary.Range i) = interval_text i

abbrev pub object_name : Option ObjectInfo → List ℕ
object_name None = []
object_name (Some object) = object.name

unfoldable pub state_line : List ObjectInfo → ℕ → StateLine → List ℕ
state_line objects k line =
    codes "state " ++ decimal k ++ codes " " ++ object_name (slice_get objects line.object) ++ codes " "
    ++ summary_text line.summary ++ codes "\n"

-- a line for each object; the first has the number k
abbrev pub state_lines : List ObjectInfo → ℕ → List StateLine → List ℕ
state_lines objects k [] = []
state_lines objects k (line ∷ lines) = state_line objects k line ++ state_lines objects (k + 1) lines

-- ---- bounds; loops count from 1 in a text

abbrev pub bound_text : Bound → List ℕ
bound_text (At n) = codes "bound " ++ decimal n
bound_text (NoTrips loop) = codes "bound none loop " ++ decimal (loop + 1)
bound_text TooLarge = codes "bound large"

abbrev pub digit_text : ℕ → List ℕ
digit_text n = (48 + n) ∷ []

-- three digits
unfoldable pub three_digits : ℕ → List ℕ
three_digits n = digit_text (n / 100) ++ digit_text (n / 10 % 10) ++ digit_text (n % 10)

unfoldable pub thousandths_text : ℕ → List ℕ
thousandths_text n = codes "wmops " ++ decimal (n / 1000) ++ codes "." ++ three_digits (n % 1000)

-- An operation in each microsecond is a million of them in each second. The number is rounded up to three decimals.
abbrev pub millions_text : ℕ → ℕ → List ℕ
millions_text zero n = codes "wmops none"
millions_text (suc us) n = thousandths_text (div_ceil (n * 1000) (suc us))

abbrev pub rate_text : ℕ → Bound → List ℕ
rate_text us (At n) = millions_text us n
rate_text us (NoTrips loop) = codes "wmops none"
rate_text us TooLarge = codes "wmops none"

-- the function of a bound, which is told where there are several
abbrev pub function_text : Bool → List ℕ → List ℕ
function_text false name = []
function_text true name = codes " in " ++ name

unfoldable pub bound_line : Bool → List ℕ → Bound → List ℕ
bound_line several name bound = bound_text bound ++ function_text several name ++ codes "\n"

unfoldable pub rate_line : ℕ → Bool → List ℕ → Bound → List ℕ
rate_line us several name bound = rate_text us bound ++ function_text several name ++ codes "\n"

abbrev pub bound_line_of : Bool → List ℕ → Option Bound → List ℕ
bound_line_of several name None = []
bound_line_of several name (Some bound) = bound_line several name bound

abbrev pub rate_line_of : ℕ → Bool → List ℕ → Option Bound → List ℕ
rate_line_of us several name None = []
rate_line_of us several name (Some bound) = rate_line us several name bound

-- a line for each function; the first has the number k, from 0
abbrev pub bound_lines : Bool → List Bound → ℕ → List (List ℕ) → List ℕ
bound_lines several bounds k [] = []
bound_lines several bounds k (name ∷ names) = bound_line_of several name (slice_get bounds k) ++ bound_lines several bounds (k + 1) names

abbrev pub rate_lines : ℕ → Bool → List Bound → ℕ → List (List ℕ) → List ℕ
rate_lines us several bounds k [] = []
rate_lines us several bounds k (name ∷ names) = rate_line_of us several name (slice_get bounds k) ++ rate_lines us several bounds (k + 1) names

-- the rates stand where the length of a frame is known
abbrev pub rates_part : Option ℕ → Bool → List (List ℕ) → List Bound → List ℕ
rates_part None several names bounds = []
rates_part (Some us) several names bounds = rate_lines us several bounds 0 names

-- whether a specification names several frame functions
abbrev pub is_several : List (List ℕ) → Bool
is_several names = nat_lt 1 (length names)

-- ---- the result

abbrev pub is_proved : Verdict → Bool
is_proved (Safe unset) = true
is_proved Never = true
is_proved (Unproved boxes values instance) = false

abbrev pub is_number : Bound → Bool
is_number (At n) = true
is_number (NoTrips loop) = false
is_number TooLarge = false

-- no site may fail and each bound is a number
abbrev pub is_safe : Findings → Bool
is_safe found = list_all is_proved found.sites && list_all is_number found.bounds

abbrev pub result_line : Bool → List ℕ
result_line true = codes "result safe\n"
result_line false = codes "result open\n"

-- ---- the report

unfoldable pub sites_part : List (List ℕ) → Program → List Verdict → List ℕ
sites_part sources program verdicts = count_line (codes "sites") (length program.sites) ++ site_lines sources program verdicts 0 program.sites

unfoldable pub loops_part : List (List ℕ) → List LoopInfo → List Turns → List ℕ
loops_part sources loops found = count_line (codes "loops") (length loops) ++ loop_lines sources found 0 loops

unfoldable pub states_part : List ObjectInfo → List StateLine → List ℕ
states_part objects lines = count_line (codes "states") (length lines) ++ state_lines objects 1 lines

unfoldable pub bounds_part : Spec → List Bound → List ℕ
bounds_part spec bounds =
    bound_lines (is_several spec.frames) bounds 0 spec.frames ++ rates_part spec.frame_us (is_several spec.frames) spec.frames bounds

unfoldable pub report_text : Program → Spec → Findings → List ℕ
report_text program spec found =
    codes "wmops report 1\n" ++ sites_part spec.sources program found.sites ++ loops_part spec.sources program.loops found.loops
    ++ states_part program.objects found.states ++ bounds_part spec found.bounds ++ result_line (is_safe found)
