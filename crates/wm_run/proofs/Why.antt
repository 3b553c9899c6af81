-- Why a refusal is told.
use Rattle.std.proofs.Common.{◌≡◌, ◌⊎◌, inl, inr, ℕ, Bool, List, Option, Some, None, Result, Ok, Err, refl, sym, subst}
use Rattle.wm_files.specs.Outside.{Rose}
use Rattle.wm_load.specs.Check.{Check}
use Rattle.wm_load.specs.Checking.{check_asked}
use Rattle.wm_load.specs.Loaded.{Loaded}
use Rattle.wm_load.specs.Loading.{load_asked}
use Rattle.wm_load.specs.Replay.{Replay as Given}
use Rattle.wm_load.specs.Replaying.{replay_asked}
use Rattle.wm_program.specs.declared.program.Program.{Program}
use Rattle.wm_proving.specs.Refusals.{Refuses}
use Rattle.wm_read.specs.Asking.{Asking, Leads}
use Rattle.wm_report.specs.declared.fault.RunFault.{RunFault}
use Rattle.wm_report.specs.declared.fault.RunFault.TheVariants.{SourcesTooLong, Source, TooMany, NoFrame, NoInit, BadInput, FileTooLong, NotToml, MissingKey, UnknownKey, BadValue, BadKey, BadNumber, MissingWeight, Rest, OutOfRange, CertificateTooLong, BadText, WrongHeads, NotInductive, ReadFailed, WriteFailed, Memory, Words}
use Rattle.wm_words.specs.Words.{Form, Prove, Check as CheckWords, Replay, Demo, Worst, Headroom, Observe, BadWords}
use Rattle.wm_run.specs.Outcome.{Decided, Fault, IsAnswer}
use Rattle.wm_run.specs.World.{World}
use Rattle.wm_run.specs.Proved.{CheckedAs, HeadroomAs, Proof, ProvedAs, WorstAs, Written, WrittenBytes, report_of}
use Rattle.wm_run.specs.Sampled.{ObservedAs, ReplayedAs}
use Rattle.wm_run.specs.Demo.{ByExample, example_loaded}
use Rattle.wm_run.specs.Leads.{By, From, FromForm, IsKept, Reading}
use Rattle.wm_run.proofs.Fair.{IsPlain, Plain, Fair, FailedRead, fair_cause}
use Rattle.wm_run.proofs.Refusals.{check_fair, example_plain, load_fair, replay_fair}

-- a read failed
pub record FailedReading (world : World) (fault : RunFault) : Type 0 where
  pub failed : FailedRead world.before world.old world.new fault
  pub kept : IsKept world

-- the write of the certificate failed
pub record FailedWrite (world : World) (fault : RunFault) : Type 0 where
  pub name : List ℕ
  pub is : fault ≡ WriteFailed name
  pub rose : Rose world.old world.new

-- the words are none of the seven forms
pub record Unknown (world : World) (form : Form) (fault : RunFault) : Type 0 where
  pub is : fault ≡ Words
  pub unknown : form ≡ BadWords
  pub kept : IsKept world

abbrev pub Why : World → Form → RunFault → Type 0
Why world form fault = IsPlain fault ⊎ (FailedReading world fault ⊎ (FailedWrite world fault ⊎ Unknown world form fault))

-- a certificate's refusal tells of its content
refuses_plain : (pairs : Bool) (bytes : List ℕ) (fault : RunFault) → Refuses pairs bytes fault → IsPlain fault
refuses_plain pairs bytes SourcesTooLong refused = absurd refused
refuses_plain pairs bytes (Source fault at) refused = absurd refused
refuses_plain pairs bytes (TooMany what at) refused = absurd refused
refuses_plain pairs bytes (NoFrame name) refused = absurd refused
refuses_plain pairs bytes (NoInit name) refused = absurd refused
refuses_plain pairs bytes (BadInput name) refused = absurd refused
refuses_plain pairs bytes (FileTooLong name) refused = absurd refused
refuses_plain pairs bytes (NotToml name) refused = absurd refused
refuses_plain pairs bytes (MissingKey key) refused = absurd refused
refuses_plain pairs bytes (UnknownKey key) refused = absurd refused
refuses_plain pairs bytes (BadValue key) refused = absurd refused
refuses_plain pairs bytes (BadKey key) refused = absurd refused
refuses_plain pairs bytes (BadNumber key) refused = absurd refused
refuses_plain pairs bytes (MissingWeight word) refused = absurd refused
refuses_plain pairs bytes (Rest count) refused = absurd refused
refuses_plain pairs bytes (OutOfRange frame name cell value) refused = absurd refused
refuses_plain pairs bytes CertificateTooLong refused = absurd refused
refuses_plain pairs bytes (BadText line) refused = tt
refuses_plain pairs bytes WrongHeads refused = tt
refuses_plain pairs bytes (NotInductive gap) refused = tt
refuses_plain pairs bytes (ReadFailed name) refused = absurd refused
refuses_plain pairs bytes (WriteFailed name) refused = absurd refused
refuses_plain pairs bytes Memory refused = tt
refuses_plain pairs bytes Words refused = absurd refused

-- the fault of a refusal
same_fault : (fault other : RunFault) → Fault fault ≡ Fault other → other ≡ fault
same_fault fault other e = cc

-- a refusal is no answer
no_answer : {P : Type 0} (fault : RunFault) (wanted : Decided) → IsAnswer wanted → Fault fault ≡ wanted → P
no_answer {P} fault wanted answer e = absurd (subst IsAnswer (sym e) answer)

module _ (world : World) (fault : RunFault) where
  by_answer : {A : Type 0} (form : Form) (As : A → Decided → Type 0) (asked : Asking (Result A RunFault)) → Fair asked → ((given : A) → As given (Fault fault) → Why world form fault)
      → (answer : Result A RunFault) → Leads world.before world.old world.new asked answer → By world As answer (Fault fault) → Why world form fault
  by_answer {A} form As asked fair given (Ok x) leads by = given x by
  by_answer {A} form As asked fair given (Err other) leads by =
      let same : other ≡ fault = same_fault fault other by.1 in
      let this : Leads world.before world.old world.new asked (Err fault) = subst (λ (f : RunFault). Leads world.before world.old world.new asked (Err f)) same leads in
      elim (fair_cause world.before world.old world.new asked fault fair this) [
        | inl plain ↦ inl plain
        | inr failed ↦ inr (inl (record { failed = failed; kept = by.0 }))
      ]

  by_asked : {A : Type 0} (form : Form) (As : A → Decided → Type 0) (asked : Asking (Result A RunFault)) → Fair asked → ((given : A) → As given (Fault fault) → Why world form fault)
      → From world As asked (Fault fault) → Why world form fault
  by_asked {A} form As asked fair given from = by_answer form As asked fair given from.answer from.leads from.by

  -- ---- each command

  by_bytes : (form : Form) (name bytes : List ℕ) (wanted : Decided) → IsAnswer wanted → WrittenBytes world name bytes wanted (Fault fault) → Why world form fault
  by_bytes form name bytes wanted answer (inl is) = no_answer fault wanted answer is.is
  by_bytes form name bytes wanted answer (inr cannot) = inr (inr (inl (record { name = name; is = sym (same_fault fault (WriteFailed name) cannot.is); rose = cannot.rose })))

  by_written : {program : Program} (form : Form) (proof : Proof program) (certificate : Option (List ℕ)) (wanted : Decided) → IsAnswer wanted → Written proof world certificate wanted (Fault fault) → Why world form fault
  by_written {program} form proof None wanted answer is = no_answer fault wanted answer is.1
  by_written {program} form proof (Some name) wanted answer is = by_bytes form name is.bytes wanted answer is.ends

  by_proof : (form : Form) (loaded : Loaded) → ProvedAs world loaded (Fault fault) → Why world form fault
  by_proof form loaded is = by_written form is.proof loaded.settings.certificate (report_of loaded.program loaded.settings is.findings) tt is.written

  by_worst : (form : Form) (loaded : Loaded) → Reading world WorstAs loaded (Fault fault) → Why world form fault
  by_worst form loaded is = no_answer fault _ tt is.1.is

  by_headroom : (form : Form) (loaded : Loaded) → Reading world HeadroomAs loaded (Fault fault) → Why world form fault
  by_headroom form loaded is = no_answer fault _ tt is.1.is

  by_checked : (form : Form) (given : Check) → CheckedAs given (Fault fault) → Why world form fault
  by_checked form given (inl accepted) = no_answer fault _ tt accepted.is
  by_checked form given (inr refused) =
      inl (subst IsPlain (same_fault fault refused.fault refused.is) (refuses_plain _ given.certificate refused.fault refused.refused))

  by_check : (form : Form) (given : Check) → Reading world CheckedAs given (Fault fault) → Why world form fault
  by_check form given is = by_checked form given is.1

  by_replay : (form : Form) (given : Given) → Reading world ReplayedAs given (Fault fault) → Why world form fault
  by_replay form given is = no_answer fault _ tt is.1

  by_observe : (form : Form) (given : Given) → Reading world ObservedAs given (Fault fault) → Why world form fault
  by_observe form given is = no_answer fault _ tt is.1.is

  by_example : (form : Form) (stages : ℕ) (r : Result Loaded RunFault) → Plain r → ByExample stages r (Fault fault) → Why world form fault
  by_example form stages (Ok loaded) plain is = no_answer fault _ tt is.is
  by_example form stages (Err other) plain is = inl (subst IsPlain (same_fault fault other is) plain)

  pub why : (form : Form) → FromForm world form (Fault fault) → Why world form fault
  why (Prove name) from = by_asked (Prove name) (ProvedAs world) (load_asked name) (load_fair name) (by_proof (Prove name)) from
  why (CheckWords name) from = by_asked (CheckWords name) (Reading world CheckedAs) (check_asked name) (check_fair name) (by_check (CheckWords name)) from
  why (Replay spec samples) from = by_asked (Replay spec samples) (Reading world ReplayedAs) (replay_asked spec samples) (replay_fair spec samples) (by_replay (Replay spec samples)) from
  why (Demo stages) from = by_example (Demo stages) stages (example_loaded stages) (example_plain stages) from.1
  why (Worst name) from = by_asked (Worst name) (Reading world WorstAs) (load_asked name) (load_fair name) (by_worst (Worst name)) from
  why (Headroom name) from = by_asked (Headroom name) (Reading world HeadroomAs) (load_asked name) (load_fair name) (by_headroom (Headroom name)) from
  why (Observe spec samples) from = by_asked (Observe spec samples) (Reading world ObservedAs) (replay_asked spec samples) (replay_fair spec samples) (by_observe (Observe spec samples)) from
  why BadWords from = inr (inr (inr (record { is = sym (same_fault fault Words from.1); unknown = refl; kept = from.0 })))
