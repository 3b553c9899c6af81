-- What is made of the files that a check reads.
use Rattle.std.proofs.Common.{◌≡◌, ◌⊎◌, ℕ, ◌≤◌, List, Option, Result, Ok, Err, refl, arith}
use Rattle.std.specs.Prelude.{Vec}
use Rattle.std.specs.declared.alloc.Global.{Global}
use Rattle.wm_files.specs.Outside.{Held}
use Rattle.wm_read.specs.Asking.{Finds, Leads, Reads}
use Rattle.wm_read.specs.Certificate.{certificate_asked, check_texts_asked}
use Rattle.wm_read.specs.Files.{Texts}
use Rattle.wm_read.proofs.Asked.{reads_on, reads_off, reads_done}
use Rattle.wm_report.specs.declared.fault.RunFault.{RunFault}
use Rattle.wm_report.specs.declared.fault.RunFault.TheVariants.{Memory}
use Rattle.wm_load.specs.declared.loaded.Loaded.{Loaded as GivenLoaded}
use Rattle.wm_load.specs.declared.check.Check.{Check as GivenCheck}
use Rattle.wm_load.specs.Loaded.{Loaded, loaded_of}
use Rattle.wm_load.specs.Loading.{load_behind, loaded_from}
use Rattle.wm_load.specs.Check.{check_of}
use Rattle.wm_load.specs.Checking.{check_asked, check_behind, check_load_asked, with_bytes}

module _ (held : Option Held) (a b : ℕ) where
  pub certified_on : (name : List ℕ) (texts : Texts) (r : Result GivenLoaded RunFault) → a ≤ b → Leads held a b (check_texts_asked name) (Ok texts) → Finds loaded_of r (loaded_from texts) → Reads loaded_of held a b (check_load_asked name) r
  unfolding check_load_asked
  certified_on name texts r high first found =
      let le : b ≤ b = omega arith in
      reads_on loaded_of held a b b (check_texts_asked name) load_behind texts r high le first (reads_done loaded_of held b b (loaded_from texts) r found)

  pub certified_off : (name : List ℕ) (fault : RunFault) → (fault ≡ Memory) ⊎ Leads held a b (check_texts_asked name) (Err fault) → (fault ≡ Memory) ⊎ Leads held a b (check_load_asked name) (Err fault)
  unfolding check_load_asked
  certified_off name fault first = reads_off held a b (check_texts_asked name) load_behind fault first

  pub check_done : (loaded : GivenLoaded) (bytes : Vec ℕ Global) → a ≤ b → Leads held a b (certificate_asked loaded.spec.certificate) (Ok bytes.items)
      → Leads held a b (check_behind (loaded_of loaded)) (Ok (check_of (record { spec = loaded.spec; weights = loaded.weights; program = loaded.program; certificate = bytes })))
  unfolding check_behind Leads
  check_done loaded bytes high first =
      let le : b ≤ b = omega arith in
      let done : Result GivenCheck RunFault = Ok (record { spec = loaded.spec; weights = loaded.weights; program = loaded.program; certificate = bytes }) in
      reads_on check_of held a b b (certificate_asked loaded.spec.certificate) (with_bytes (loaded_of loaded)) bytes.items done high le first refl

  pub check_failed : (loaded : Loaded) (fault : RunFault) → (fault ≡ Memory) ⊎ Leads held a b (certificate_asked loaded.settings.certificate) (Err fault) → (fault ≡ Memory) ⊎ Leads held a b (check_behind loaded) (Err fault)
  unfolding check_behind
  check_failed loaded fault first = reads_off held a b (certificate_asked loaded.settings.certificate) (with_bytes loaded) fault first

  pub check_off : (name : List ℕ) (fault : RunFault) → (fault ≡ Memory) ⊎ Leads held a b (check_load_asked name) (Err fault) → (fault ≡ Memory) ⊎ Leads held a b (check_asked name) (Err fault)
  unfolding check_asked
  check_off name fault first = reads_off held a b (check_load_asked name) check_behind fault first

pub check_on : (held : Option Held) (a b c : ℕ) (name : List ℕ) (loaded : Loaded) (r : Result GivenCheck RunFault) → a ≤ b → b ≤ c → Leads held a b (check_load_asked name) (Ok loaded) → Reads check_of held b c (check_behind loaded) r → Reads check_of held a c (check_asked name) r
unfolding check_asked
check_on held a b c name loaded r low high first second = reads_on check_of held a b c (check_load_asked name) check_behind loaded r low high first second
