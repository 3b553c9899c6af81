-- What is made of the files that were read.
use Rattle.std.proofs.Common.{◌≡◌, ◌⊎◌, ℕ, ℤ, ◌≤◌, List, Option, Result, Ok, Err, refl, arith}
use Rattle.std.specs.Prelude.{Vec}
use Rattle.std.specs.declared.alloc.Global.{Global}
use Rattle.wm_files.specs.Outside.{Held}
use Rattle.wm_program.specs.declared.inputs.Inputs.{Inputs}
use Rattle.wm_read.specs.Asking.{Finds, Leads, Reads}
use Rattle.wm_read.specs.Files.{Texts, samples_asked, texts_asked}
use Rattle.wm_read.proofs.Asked.{reads_on, reads_off, reads_done}
use Rattle.wm_report.specs.declared.fault.RunFault.{RunFault}
use Rattle.wm_report.specs.declared.fault.RunFault.TheVariants.{Memory}
use Rattle.wm_samples.specs.Seen.{values_of}
use Rattle.wm_load.specs.declared.loaded.Loaded.{Loaded as GivenLoaded}
use Rattle.wm_load.specs.declared.replay.Replay.{Replay as GivenReplay}
use Rattle.wm_load.specs.Loaded.{Loaded, loaded_of}
use Rattle.wm_load.specs.Loading.{load_asked, load_behind, loaded_from}
use Rattle.wm_load.specs.Replay.{replay_of}
use Rattle.wm_load.specs.Replaying.{replay_asked, replay_behind, with_frames}

module _ (held : Option Held) (a b : ℕ) where
  pub load_on : (name : List ℕ) (texts : Texts) (r : Result GivenLoaded RunFault) → a ≤ b → Leads held a b (texts_asked name) (Ok texts) → Finds loaded_of r (loaded_from texts) → Reads loaded_of held a b (load_asked name) r
  unfolding load_asked
  load_on name texts r high first found =
      let le : b ≤ b = omega arith in
      reads_on loaded_of held a b b (texts_asked name) load_behind texts r high le first (reads_done loaded_of held b b (loaded_from texts) r found)

  pub load_off : (name : List ℕ) (fault : RunFault) → (fault ≡ Memory) ⊎ Leads held a b (texts_asked name) (Err fault) → (fault ≡ Memory) ⊎ Leads held a b (load_asked name) (Err fault)
  unfolding load_asked
  load_off name fault first = reads_off held a b (texts_asked name) load_behind fault first

  pub replay_done : (samples : List ℕ) (loaded : GivenLoaded) (frames : Vec Inputs Global) → a ≤ b → Leads held a b (samples_asked loaded.program samples) (Ok (values_of frames))
      → Leads held a b (replay_behind samples (loaded_of loaded)) (Ok (replay_of (record { spec = loaded.spec; weights = loaded.weights; program = loaded.program; frames = frames })))
  unfolding replay_behind Leads
  replay_done samples loaded frames high first =
      let le : b ≤ b = omega arith in
      let done : Result GivenReplay RunFault = Ok (record { spec = loaded.spec; weights = loaded.weights; program = loaded.program; frames = frames }) in
      reads_on replay_of held a b b (samples_asked loaded.program samples) (with_frames (loaded_of loaded)) (values_of frames) done high le first refl

  pub replay_failed : (samples : List ℕ) (loaded : Loaded) (fault : RunFault) → (fault ≡ Memory) ⊎ Leads held a b (samples_asked loaded.program samples) (Err fault) → (fault ≡ Memory) ⊎ Leads held a b (replay_behind samples loaded) (Err fault)
  unfolding replay_behind
  replay_failed samples loaded fault first = reads_off held a b (samples_asked loaded.program samples) (with_frames loaded) fault first

  pub replay_off : (name samples : List ℕ) (fault : RunFault) → (fault ≡ Memory) ⊎ Leads held a b (load_asked name) (Err fault) → (fault ≡ Memory) ⊎ Leads held a b (replay_asked name samples) (Err fault)
  unfolding replay_asked
  replay_off name samples fault first = reads_off held a b (load_asked name) (replay_behind samples) fault first

pub replay_on : (held : Option Held) (a b c : ℕ) (name samples : List ℕ) (loaded : Loaded) (r : Result GivenReplay RunFault) → a ≤ b → b ≤ c → Leads held a b (load_asked name) (Ok loaded) → Reads replay_of held b c (replay_behind samples loaded) r → Reads replay_of held a c (replay_asked name samples) r
unfolding replay_asked
replay_on held a b c name samples loaded r low high first second = reads_on replay_of held a b c (load_asked name) (replay_behind samples) loaded r low high first second
