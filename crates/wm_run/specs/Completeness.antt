-- Where nothing refuses, a call comes to its whole text, unless memory runs out or the world outside fails.
use Rattle.std.specs.Prelude.{◌≡◌, ◌⊎◌, ℕ, true, List, Option, Some, None, IfSome, Result, Ok, Err}
use Rattle.wm_cert.specs.declared.gap.Gap.{Gap}
use Rattle.wm_cert_states.specs.Answers.{heads_in}
use Rattle.wm_files.specs.Outside.{Held, Rose, with_bytes}
use Rattle.wm_findings.specs.declared.findings.Findings.{Findings}
use Rattle.wm_load.specs.Check.{Check as GivenCheck}
use Rattle.wm_load.specs.Checking.{check_asked}
use Rattle.wm_load.specs.Loaded.{Loaded}
use Rattle.wm_load.specs.Loading.{load_asked}
use Rattle.wm_load.specs.Replay.{Replay as Given}
use Rattle.wm_load.specs.Replaying.{replay_asked}
use Rattle.wm_program.specs.declared.program.Program.{Program}
use Rattle.wm_proving.specs.Refusals.{IsText}
use Rattle.wm_read.specs.Asking.{Asking, told}
use Rattle.wm_report.specs.declared.fault.RunFault.{RunFault}
use Rattle.wm_report.specs.declared.fault.RunFault.TheVariants as refusals
use Rattle.wm_words.specs.Words.{Form, Prove, Check, Replay, Demo, Worst, Headroom, Observe, BadWords, form_of}
use Rattle.wm_run.specs.Demo.{ByExample, example_loaded}
use Rattle.wm_run.specs.Ends.{Call, OnlyMemory, Put, PutAnswer}
use Rattle.wm_run.specs.Outcome.{Decided, Fault}
use Rattle.wm_run.specs.Proved.{HeadroomAs, IsAcceptedAs, IsCertificate, Proof, WorstAs, report_of}
use Rattle.wm_run.specs.Replay.{whole_replay}
use Rattle.wm_run.specs.Sampled.{ObservedAs}
use Rattle.wm_run.specs.World.{World}

-- ---- how such a call ends

-- a decision of this kind is reached, and its text put whole, or a prefix of it where the sink failed, or memory ran out in the put
pub record PutAs (call : Call) (status : ℕ) (Is : Decided → Type 0) : Type 0 where
  pub decision : Decided
  pub is : Is decision
  pub put : Put call decision status

-- the same, or memory ran out before
abbrev pub Comes : Call → ℕ → (Decided → Type 0) → Type 0
Comes call status Is = PutAs call status Is ⊎ OnlyMemory call.written_before call.written_after status

-- the same of a call that reads or writes, unless the files failed
pub record EndsIn (call : Call) (status : ℕ) (Is : Decided → Type 0) : Type 0 where
  pub ends : Rose call.files.old call.files.new ⊎ Comes call status Is

-- files that tell what they hold, and that give this, let the call come to a decision of this kind
abbrev pub Leading : {A : Type 0} → Call → ℕ → Asking (Result A RunFault) → Result A RunFault → (Decided → Type 0) → Type 0
Leading call status asked answer Is = IfSome call.files.before (λ pairs. told pairs asked ≡ answer → EndsIn call status Is)

-- ---- prove

-- the name holds the whole text of the proof's certificate
pub record HoldsText {program : Program} (proof : Proof program) (world : World) (name : List ℕ) : Type 0 where
  pub bytes : List ℕ
  pub text : IsCertificate proof bytes
  pub holds_all : world.after ≡ with_bytes world.before name bytes

-- where the specification names a certificate, its name holds that of the proof
abbrev pub Stands : {program : Program} → Proof program → World → Option (List ℕ) → Type 0
Stands proof world None = world.after ≡ world.before
Stands proof world (Some name) = HoldsText proof world name

-- the report of a proof, whose certificate stands in its file
pub record IsReport (world : World) (loaded : Loaded) (d : Decided) : Type 0 where
  pub proof : Proof loaded.program
  pub findings : Findings
  pub stands : Stands proof world loaded.settings.certificate
  pub is : d ≡ report_of loaded.program loaded.settings findings

abbrev pub ProveCompletes : Call → ℕ → Type 0
ProveCompletes call status =
    (spec : List ℕ) (loaded : Loaded) → form_of call.words ≡ Prove spec → Leading call status (load_asked spec) (Ok loaded) (IsReport call.files loaded)

-- ---- worst, headroom and demo

abbrev pub WorstCompletes : Call → ℕ → Type 0
WorstCompletes call status =
    (spec : List ℕ) (loaded : Loaded) → form_of call.words ≡ Worst spec → Leading call status (load_asked spec) (Ok loaded) (WorstAs loaded)

abbrev pub HeadroomCompletes : Call → ℕ → Type 0
HeadroomCompletes call status =
    (spec : List ℕ) (loaded : Loaded) → form_of call.words ≡ Headroom spec → Leading call status (load_asked spec) (Ok loaded) (HeadroomAs loaded)

-- the summary of the example, or its first fault; whatever the files are
abbrev pub DemoCompletes : Call → ℕ → Type 0
DemoCompletes call status = (stages : ℕ) → form_of call.words ≡ Demo stages → Comes call status (ByExample stages (example_loaded stages))

-- ---- check

-- a bound that the certificate does not keep
pub record IsGap (d : Decided) : Type 0 where
  pub gap : Gap
  pub is : d ≡ Fault (refusals.NotInductive gap)

-- the report of an accepted certificate; or it is one of other heads, or one with a gap
abbrev pub AnswersText : GivenCheck → Decided → Type 0
AnswersText given d = IsAcceptedAs given d ⊎ ((d ≡ Fault refusals.WrongHeads) ⊎ IsGap d)

abbrev pub CheckCompletes : Call → ℕ → Type 0
CheckCompletes call status =
    (spec : List ℕ) (given : GivenCheck) → form_of call.words ≡ Check spec → IsText true given.certificate
    → Leading call status (check_asked spec) (Ok given) (AnswersText given)

-- bytes that are no text of a certificate are refused with the first line through which they begin none
abbrev pub CheckRefuses : Call → ℕ → Type 0
CheckRefuses call status =
    (spec : List ℕ) (given : GivenCheck) (line : ℕ) → form_of call.words ≡ Check spec → heads_in true given.certificate ≡ Err line
    → Leading call status (check_asked spec) (Ok given) (λ d. d ≡ Fault (refusals.BadText line))

-- ---- replay and observe

-- the text of the run of what the files give is put whole, unless memory runs out or the world outside fails
pub record Completes (call : Call) (status : ℕ) (given : Given) : Type 0 where
  pub ends :
      Rose call.files.old call.files.new
      ⊎ PutAnswer 0 (whole_replay given) call.written_before call.written_after call.sink_faults_before call.sink_faults_after status

-- files that tell what they hold, and of which the words of a replay make a program and frames, lead to its whole text
abbrev pub ReplayCompletes : Call → ℕ → Type 0
ReplayCompletes call status =
    (spec samples : List ℕ) (given : Given) → form_of call.words ≡ Replay spec samples
    → IfSome call.files.before (λ pairs. told pairs (replay_asked spec samples) ≡ Ok given → Completes call status given)

abbrev pub ObserveCompletes : Call → ℕ → Type 0
ObserveCompletes call status =
    (spec samples : List ℕ) (given : Given) → form_of call.words ≡ Observe spec samples
    → Leading call status (replay_asked spec samples) (Ok given) (ObservedAs given)

-- ---- refusals

abbrev pub refusal_in : {A : Type 0} → Result A RunFault → Option RunFault
refusal_in (Ok given) = None
refusal_in (Err fault) = Some fault

-- the refusal of the words, or the first of what the files hold
abbrev pub first_refusal : Held → Form → Option RunFault
first_refusal pairs (Prove spec) = refusal_in (told pairs (load_asked spec))
first_refusal pairs (Check spec) = refusal_in (told pairs (check_asked spec))
first_refusal pairs (Replay spec samples) = refusal_in (told pairs (replay_asked spec samples))
first_refusal pairs (Demo stages) = refusal_in (example_loaded stages)
first_refusal pairs (Worst spec) = refusal_in (told pairs (load_asked spec))
first_refusal pairs (Headroom spec) = refusal_in (told pairs (load_asked spec))
first_refusal pairs (Observe spec samples) = refusal_in (told pairs (replay_asked spec samples))
first_refusal pairs BadWords = Some refusals.Words

-- files that tell what they hold let the call come to the line of the refusal that is first
abbrev pub TellsRefusal : Call → ℕ → Type 0
TellsRefusal call status =
    (fault : RunFault)
    → IfSome call.files.before (λ pairs. first_refusal pairs (form_of call.words) ≡ Some fault → EndsIn call status (λ d. d ≡ Fault fault))
