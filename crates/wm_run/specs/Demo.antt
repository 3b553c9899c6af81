-- What demo comes to: the example is read as if it stood in files, with weights of 1.
use Rattle.std.specs.Prelude.{◌≡◌, ℕ, List, [], ◌∷◌, codes, Result, Ok, Err}
use Rattle.wm_findings.specs.declared.findings.Findings.{Findings}
use Rattle.wm_findings_text.specs.Demo.{demo_text}
use Rattle.wm_gen.specs.Example.{source_text, spec_text}
use Rattle.wm_load.specs.Loaded.{Loaded}
use Rattle.wm_load.specs.Loading.{loaded_from}
use Rattle.wm_program.specs.Settings.{Settings}
use Rattle.wm_read.specs.Asking.{Bytes}
use Rattle.wm_read.specs.Files.{Texts, settings_from}
use Rattle.wm_report.specs.declared.fault.RunFault.{RunFault}
use Rattle.wm_unit.specs.Steps.{chained}
use Rattle.wm_weights.specs.Table.{ones}
use Rattle.wm_run.specs.Outcome.{Decided, Fault, Told}
use Rattle.wm_run.specs.Proved.{Proof}

-- the name under which its specification would stand
abbrev pub demo_name : List ℕ
demo_name = codes "demo.toml"

abbrev pub example_texts : ℕ → Settings → Texts
example_texts stages settings = record { settings = settings; weights = ones; sources = source_text stages ∷ [] }

abbrev pub example_behind : ℕ → Settings → Result Loaded RunFault
example_behind stages settings = loaded_from (example_texts stages settings)

-- the example of so many stages as it is loaded, or the first fault of it
unfoldable pub example_loaded : ℕ → Result Loaded RunFault
example_loaded stages = chained (settings_from demo_name (Bytes spec_text)) (example_behind stages)

-- what demo comes to
pub record DemoAs (stages : ℕ) (loaded : Loaded) (d : Decided) : Type 0 where
  pub proof : Proof loaded.program
  pub findings : Findings
  pub is : d ≡ Told (demo_text stages findings)

-- the example is refused, or it is proved
abbrev pub ByExample : ℕ → Result Loaded RunFault → Decided → Type 0
ByExample stages (Ok loaded) d = DemoAs stages loaded d
ByExample stages (Err fault) d = d ≡ Fault fault
