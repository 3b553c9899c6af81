-- What the words and the files lead to.
use Rattle.std.specs.Prelude.{◌≡◌, ℕ, List, Result, Ok, Err}
use Rattle.wm_files.specs.Outside.{Held}
use Rattle.wm_load.specs.Checking.{check_asked}
use Rattle.wm_load.specs.Loading.{load_asked}
use Rattle.wm_load.specs.Replaying.{replay_asked}
use Rattle.wm_read.specs.Asking.{Asking, Leads, told}
use Rattle.wm_report.specs.declared.fault.RunFault.{RunFault}
use Rattle.wm_report.specs.declared.fault.RunFault.TheVariants as refusals
use Rattle.wm_words.specs.Words.{Form, Prove, Check, Replay, Demo, Worst, Headroom, Observe, BadWords, form_of}
use Rattle.wm_run.specs.Outcome.{Decided, Fault}
use Rattle.wm_run.specs.World.{World}
use Rattle.wm_run.specs.Proved.{CheckedAs, HeadroomAs, ProvedAs, WorstAs}
use Rattle.wm_run.specs.Sampled.{ObservedAs, ReplayedAs}
use Rattle.wm_run.specs.Demo.{ByExample, example_loaded}

-- files that are only read
abbrev pub IsKept : World → Type 0
IsKept world = world.after ≡ world.before

module _ {A : Type 0} (world : World) (As : A → Decided → Type 0) where
  -- what an answer of the files comes to; a refusal is told, and the files hold what they held
  abbrev pub By : Result A RunFault → Decided → Type 0
  By (Ok given) d = As given d
  By (Err fault) d = IsKept world × (d ≡ Fault fault)

  -- the reads of the files lead to an answer, and this to the decision
  pub record From (asked : Asking (Result A RunFault)) (d : Decided) : Type 0 where
    pub answer : Result A RunFault
    pub leads : Leads world.before world.old world.new asked answer
    pub by : By answer d

-- the same of a command that writes nothing
abbrev pub Reading : {A : Type 0} → World → (A → Decided → Type 0) → A → Decided → Type 0
Reading {A} world As given d = IsKept world × As given d

-- what each form of the words comes to
abbrev pub FromForm : World → Form → Decided → Type 0
FromForm world (Prove name) d = From world (ProvedAs world) (load_asked name) d
FromForm world (Check name) d = From world (Reading world CheckedAs) (check_asked name) d
FromForm world (Replay spec samples) d = From world (Reading world ReplayedAs) (replay_asked spec samples) d
FromForm world (Demo stages) d = IsKept world × ByExample stages (example_loaded stages) d
FromForm world (Worst name) d = From world (Reading world WorstAs) (load_asked name) d
FromForm world (Headroom name) d = From world (Reading world HeadroomAs) (load_asked name) d
FromForm world (Observe spec samples) d = From world (Reading world ObservedAs) (replay_asked spec samples) d
FromForm world BadWords d = IsKept world × (d ≡ Fault refusals.Words)

-- the words, and what is seen of the files before and after the call, lead to this
abbrev pub LeadsTo : List (List ℕ) → World → Decided → Type 0
LeadsTo words world d = FromForm world (form_of words) d

-- ---- files that tell what they hold, and do not fail, leave one answer of theirs

abbrev pub ToldForm : World → Held → Form → Decided → Type 0
ToldForm world pairs (Prove name) d = By world (ProvedAs world) (told pairs (load_asked name)) d
ToldForm world pairs (Check name) d = By world (Reading world CheckedAs) (told pairs (check_asked name)) d
ToldForm world pairs (Replay spec samples) d = By world (Reading world ReplayedAs) (told pairs (replay_asked spec samples)) d
ToldForm world pairs (Demo stages) d = IsKept world × ByExample stages (example_loaded stages) d
ToldForm world pairs (Worst name) d = By world (Reading world WorstAs) (told pairs (load_asked name)) d
ToldForm world pairs (Headroom name) d = By world (Reading world HeadroomAs) (told pairs (load_asked name)) d
ToldForm world pairs (Observe spec samples) d = By world (Reading world ObservedAs) (told pairs (replay_asked spec samples)) d
ToldForm world pairs BadWords d = IsKept world × (d ≡ Fault refusals.Words)

abbrev pub ToldBy : List (List ℕ) → World → Held → Decided → Type 0
ToldBy words world pairs d = ToldForm world pairs (form_of words) d
