-- What is proved of a loaded program, and the texts that tell it.
use Rattle.std.specs.Prelude.{◌≡◌, ◌⊎◌, ℕ, true, List, Option, Some, None}
use Rattle.wm_cert_states.specs.Told.{AreOfText}
use Rattle.wm_cert_write.specs.Heads.{IsTextOf}
use Rattle.wm_files.specs.Outside.{Rose, with_bytes, CutShort}
use Rattle.wm_findings.specs.declared.findings.Findings.{Findings}
use Rattle.wm_findings_text.specs.Report.{is_safe, report_text}
use Rattle.wm_flow.specs.declared.graph.Graph.{Graph}
use Rattle.wm_groups.specs.declared.groups.Groups.{Groups}
use Rattle.wm_headroom_text.specs.Text.{IsHeadroomText}
use Rattle.wm_load.specs.Check.{Check}
use Rattle.wm_load.specs.Loaded.{Loaded}
use Rattle.wm_load.specs.Specification.{spec_of}
use Rattle.wm_path.specs.declared.choice.Choice.{Choice}
use Rattle.wm_program.specs.declared.program.Program.{Program}
use Rattle.wm_program.specs.Settings.{Settings}
use Rattle.wm_proving.specs.Proofs.{IsChecked, IsProved}
use Rattle.wm_proving.specs.Refusals.{Refuses}
use Rattle.wm_proving.specs.Worst.{AreOfParts, AreWorst}
use Rattle.wm_report.specs.declared.fault.RunFault.{RunFault}
use Rattle.wm_report.specs.declared.fault.RunFault.TheVariants.{WriteFailed}
use Rattle.wm_worst_text.specs.Text.{worst_text}
use Rattle.wm_run.specs.Outcome.{Decided, Judged, Fault}
use Rattle.wm_run.specs.States.{holds, shape_of}
use Rattle.wm_run.specs.World.{World}

-- the report of findings
abbrev pub report_of : Program → Settings → Findings → Decided
report_of program settings findings = Judged (is_safe findings) (report_text program (spec_of settings) findings)

-- a graph of the program, and states of its heads that are accepted
pub record Proof (program : Program) : Type 0 where
  pub graph : Graph
  pub heads : List Groups
  pub proved : IsProved holds shape_of program graph heads

-- ---- the certificate's file

-- the bytes are the text of the proof's certificate
abbrev pub IsCertificate : {program : Program} → Proof program → List ℕ → Type 0
IsCertificate {program} proof bytes = IsTextOf shape_of holds true proof.graph proof.heads bytes

-- the name holds the bytes, and it comes to what is wanted
pub record IsWritten (world : World) (name bytes : List ℕ) (wanted d : Decided) : Type 0 where
  pub holds_all : world.after ≡ with_bytes world.before name bytes
  pub is : d ≡ wanted

-- the world outside failed; the name holds what it held, or a prefix of the bytes
pub record CannotWrite (world : World) (name bytes : List ℕ) (d : Decided) : Type 0 where
  pub rose : Rose world.old world.new
  pub cut : CutShort world.before world.after name bytes
  pub is : d ≡ Fault (WriteFailed name)

abbrev pub WrittenBytes : World → (name bytes : List ℕ) → (wanted d : Decided) → Type 0
WrittenBytes world name bytes wanted d = IsWritten world name bytes wanted d ⊎ CannotWrite world name bytes d

-- a certificate of the proof is written
pub record WrittenAs {program : Program} (proof : Proof program) (world : World) (name : List ℕ) (wanted d : Decided) : Type 0 where
  pub bytes : List ℕ
  pub text : IsCertificate proof bytes
  pub ends : WrittenBytes world name bytes wanted d

-- where the specification names a certificate it is written, before anything is told
abbrev pub Written : {program : Program} → Proof program → World → Option (List ℕ) → (wanted d : Decided) → Type 0
Written proof world None wanted d = (world.after ≡ world.before) × (d ≡ wanted)
Written proof world (Some name) wanted d = WrittenAs proof world name wanted d

-- what prove comes to
pub record ProvedAs (world : World) (loaded : Loaded) (d : Decided) : Type 0 where
  pub proof : Proof loaded.program
  pub findings : Findings
  pub written : Written proof world loaded.settings.certificate (report_of loaded.program loaded.settings findings) d

-- ---- the other commands that find a certificate

-- what worst comes to; the choices are one for each frame function, in their order
pub record WorstAs (loaded : Loaded) (d : Decided) : Type 0 where
  pub proof : Proof loaded.program
  pub findings : Findings
  pub choices : List (Option Choice)
  pub worst : AreWorst proof.graph loaded.weights choices
  pub parts : AreOfParts loaded.program proof.graph loaded.weights choices
  pub is : d ≡ Judged (is_safe findings) (worst_text proof.graph loaded.weights (spec_of loaded.settings) findings choices)

-- what headroom comes to
pub record HeadroomAs (loaded : Loaded) (d : Decided) : Type 0 where
  pub proof : Proof loaded.program
  pub findings : Findings
  pub text : List ℕ
  pub shifts : IsHeadroomText loaded.program (spec_of loaded.settings) findings text
  pub is : d ≡ Judged (is_safe findings) text

-- ---- a certificate that is read

-- the certificate is accepted, its states are those of its text, and the report is told
pub record IsAcceptedAs (given : Check) (d : Decided) : Type 0 where
  pub graph : Graph
  pub heads : List Groups
  pub checked : IsChecked holds shape_of true given.program given.certificate graph heads
  pub states : AreOfText shape_of holds true given.certificate heads
  pub findings : Findings
  pub is : d ≡ report_of given.program given.settings findings

-- the bytes are no certificate of the program that is accepted
pub record IsRefusedAs (given : Check) (d : Decided) : Type 0 where
  pub fault : RunFault
  pub refused : Refuses true given.certificate fault
  pub is : d ≡ Fault fault

-- what check comes to
abbrev pub CheckedAs : Check → Decided → Type 0
CheckedAs given d = IsAcceptedAs given d ⊎ IsRefusedAs given d
