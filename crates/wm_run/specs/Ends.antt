-- How a call ends: what its status, the sink and the files say, whatever the world outside does.
use Rattle.std.specs.Prelude.{◌≡◌, ◌⊎◌, ℕ, List, take, codes, Option, Some, None, IfSome, IsSomeAnd, Ok}
use Rattle.std.specs.FinMap.{get}
use Rattle.wm_files.specs.Outside.{Held, Rose, grown, with_bytes, CutShort}
use Rattle.wm_load.specs.Loaded.{Loaded}
use Rattle.wm_load.specs.Loading.{load_asked}
use Rattle.wm_read.specs.Asking.{Leads}
use Rattle.wm_report.specs.declared.fault.RunFault.TheVariants as refusals
use Rattle.wm_words.specs.Words.{Form, Prove, Check, Replay, Demo, Worst, Headroom, Observe, BadWords, form_of}
use Rattle.wm_run.specs.Outcome.{Decided, Fault, IsAnswer, IsOwn, status_of, text_of}
use Rattle.wm_run.specs.World.{World}
use Rattle.wm_run.specs.Proved.{Proof, IsCertificate}
use Rattle.wm_run.specs.Leads.{LeadsTo, ToldBy}

-- what a call is given, and what is seen of the world outside before and after it
pub record Call : Type 0 where
  pub words : List (List ℕ)
  pub files : World
  pub written_before : Option (List ℕ)
  pub written_after : Option (List ℕ)
  pub sink_faults_before : ℕ
  pub sink_faults_after : ℕ

abbrev pub call_of : List (List ℕ) → World → Option (List ℕ) → Option (List ℕ) → ℕ → ℕ → Call
call_of words files written_before written_after sink_faults_before sink_faults_after =
    record {
      words = words;
      files = files;
      written_before = written_before;
      written_after = written_after;
      sink_faults_before = sink_faults_before;
      sink_faults_after = sink_faults_after;
    }

-- the words and the files lead to this decision
abbrev pub Decides : Call → Decided → Type 0
Decides call decision = LeadsTo call.words call.files decision

-- what was written grew by these bytes
abbrev pub Grew : Call → List ℕ → Type 0
Grew call bytes = call.written_after ≡ grown call.written_before bytes

-- memory ran out, and the line that says so was put, or a prefix of it
pub record OnlyMemory (before after : Option (List ℕ)) (status : ℕ) : Type 0 where
  pub status_is : status ≡ 7
  pub size : ℕ
  pub text : after ≡ grown before (take size (codes "fault 7 memory\n"))

-- a text that has this status was put whole
pub record PutWhole (wanted : ℕ) (text : List ℕ) (before after : Option (List ℕ)) (status : ℕ) : Type 0 where
  pub status_is : status ≡ wanted
  pub grew : after ≡ grown before text

-- the sink failed, and a prefix of the text was put
pub record PutPrefix (text : List ℕ) (before after : Option (List ℕ)) (old new status : ℕ) : Type 0 where
  pub status_is : status ≡ 6
  pub rose : Rose old new
  pub size : ℕ
  pub grew : after ≡ grown before (take size text)

-- what became of a text that has this status
abbrev pub PutAnswer : ℕ → List ℕ → Option (List ℕ) → Option (List ℕ) → ℕ → ℕ → ℕ → Type 0
PutAnswer wanted text before after old new status = PutWhole wanted text before after status ⊎ (PutPrefix text before after old new status ⊎ OnlyMemory before after status)

-- what became of the text of a decision
abbrev pub Put : Call → Decided → ℕ → Type 0
Put call decision status =
    PutAnswer (status_of decision) (text_of decision) call.written_before call.written_after call.sink_faults_before call.sink_faults_after status

-- A decision is reached, and its text put whole, or a prefix of it where the sink failed, or memory ran out in the put.
pub record ByDecision (call : Call) (status : ℕ) : Type 0 where
  pub decision : Decided
  pub decides : Decides call decision
  pub own : IsOwn decision
  pub put : Put call decision status

-- memory ran out before there was a decision, and the files hold what they held
pub record ByMemory (call : Call) (status : ℕ) : Type 0 where
  pub kept : call.files.after ≡ call.files.before
  pub memory : OnlyMemory call.written_before call.written_after status

-- how each call ends
abbrev pub Ends : Call → ℕ → Type 0
Ends call status = ByDecision call status ⊎ ByMemory call status

-- ---- files that tell what they hold and do not fail

-- a decision is reached to which what they hold leads
pub record ByTold (call : Call) (pairs : Held) (status : ℕ) : Type 0 where
  pub decision : Decided
  pub decides : ToldBy call.words call.files pairs decision
  pub own : IsOwn decision
  pub put : Put call decision status

abbrev pub EndsByTold : Call → Held → ℕ → Type 0
EndsByTold call pairs status = Rose call.files.old call.files.new ⊎ (ByTold call pairs status ⊎ ByMemory call status)

abbrev pub EndsAsTold : Call → ℕ → Type 0
EndsAsTold call status = IfSome call.files.before (λ pairs. EndsByTold call pairs status)

-- ---- why each status comes

-- a text that is no refusal was put whole
pub record Answered (call : Call) (status : ℕ) : Type 0 where
  pub decision : Decided
  pub decides : Decides call decision
  pub answer : IsAnswer decision
  pub status_is : status ≡ status_of decision
  pub text : Grew call (text_of decision)

-- the line of a file that could not be read was put; the world outside failed, or the file is not there
pub record ReadFails (call : Call) : Type 0 where
  pub name : List ℕ
  pub decides : Decides call (Fault (refusals.ReadFailed name))
  pub text : Grew call (text_of (Fault (refusals.ReadFailed name)))
  pub kept : call.files.after ≡ call.files.before
  pub cause : Rose call.files.old call.files.new ⊎ IsSomeAnd call.files.before (λ pairs. get pairs name ≡ None)

-- the sink failed, and a prefix of the text of a decision was put
pub record SinkFails (call : Call) : Type 0 where
  pub decision : Decided
  pub decides : Decides call decision
  pub rose : Rose call.sink_faults_before call.sink_faults_after
  pub size : ℕ
  pub text : call.written_after ≡ grown call.written_before (take size (text_of decision))

-- the line of a certificate that could not be written was put; the world outside failed
pub record WriteFails (call : Call) : Type 0 where
  pub name : List ℕ
  pub decides : Decides call (Fault (refusals.WriteFailed name))
  pub rose : Rose call.files.old call.files.new
  pub text : Grew call (text_of (Fault (refusals.WriteFailed name)))

pub record UnknownWords (call : Call) : Type 0 where
  pub unknown : form_of call.words ≡ BadWords
  pub kept : call.files.after ≡ call.files.before
  pub text : Grew call (text_of (Fault refusals.Words))

-- ---- what the files hold

-- the name of the certificate holds the text of a proof's certificate, or a prefix of it where the world outside failed
pub record HoldsCertificate (call : Call) (spec : List ℕ) : Type 0 where
  pub loaded : Loaded
  pub read : Leads call.files.before call.files.old call.files.new (load_asked spec) (Ok loaded)
  pub proof : Proof loaded.program
  pub name : List ℕ
  pub named : loaded.settings.certificate ≡ Some name
  pub bytes : List ℕ
  pub text : IsCertificate proof bytes
  pub hold : (call.files.after ≡ with_bytes call.files.before name bytes) ⊎ (Rose call.files.old call.files.new × CutShort call.files.before call.files.after name bytes)

-- prove alone writes, and nothing but its certificate
abbrev pub HeldBy : Call → Form → Type 0
HeldBy call (Prove spec) = (call.files.after ≡ call.files.before) ⊎ HoldsCertificate call spec
HeldBy call (Check spec) = call.files.after ≡ call.files.before
HeldBy call (Replay spec samples) = call.files.after ≡ call.files.before
HeldBy call (Demo stages) = call.files.after ≡ call.files.before
HeldBy call (Worst spec) = call.files.after ≡ call.files.before
HeldBy call (Headroom spec) = call.files.after ≡ call.files.before
HeldBy call (Observe spec samples) = call.files.after ≡ call.files.before
HeldBy call BadWords = call.files.after ≡ call.files.before
