-- The example is read as if it stood in files.
use Rattle.std.proofs.Common.{◌≡◌, ◌⊎◌, inl, inr, ◌∙◌, sym, ap, subst, ℕ, List, [], ◌∷◌, Result, Ok, Err}
use Rattle.wm_gen.specs.Example.{source_text, spec_text}
use Rattle.wm_load.specs.declared.loaded.Loaded.{Loaded as Given}
use Rattle.wm_load.specs.Loaded.{Loaded, loaded_of}
use Rattle.wm_load.specs.Loading.{loaded_from}
use Rattle.wm_program.specs.Settings.{Settings}
use Rattle.wm_read.specs.Asking.{Bytes, Finds}
use Rattle.wm_read.specs.Files.{settings_from}
use Rattle.wm_report.specs.declared.fault.RunFault.{RunFault}
use Rattle.wm_report.specs.declared.fault.RunFault.TheVariants.{Memory}
use Rattle.wm_unit.specs.Steps.{chained}
use Rattle.wm_weights.specs.Table.{ones}
use Rattle.wm_run.specs.Demo.{demo_name, example_behind, example_loaded}

module _ (stages : ℕ) (bytes : List ℕ) (same : bytes ≡ spec_text) where
  -- by what its specification says
  by_settings : (r : Result Settings RunFault) → settings_from demo_name (Bytes bytes) ≡ r → example_loaded stages ≡ chained r (example_behind stages)
  unfolding example_loaded
  by_settings r e =
      ap (λ (text : List ℕ). chained (settings_from demo_name (Bytes text)) (example_behind stages)) (sym same)
      ∙ ap (λ (settings : Result Settings RunFault). chained settings (example_behind stages)) e

  pub example_found : (settings : Settings) (source : List ℕ) (r : Result Given RunFault) → source ≡ source_text stages → settings_from demo_name (Bytes bytes) ≡ Ok settings
      → Finds loaded_of r (loaded_from (record { settings = settings; weights = ones; sources = source ∷ [] })) → Finds loaded_of r (example_loaded stages)
  example_found settings source r told e found =
      let here : loaded_from (record { settings = settings; weights = ones; sources = source ∷ [] }) ≡ example_loaded stages =
      ap (λ (text : List ℕ). loaded_from (record { settings = settings; weights = ones; sources = text ∷ [] })) told ∙ sym (by_settings (Ok settings) e) in
      subst (λ (answer : Result Loaded RunFault). Finds loaded_of r answer) here found

  pub example_refused : (fault : RunFault) → (fault ≡ Memory) ⊎ (settings_from demo_name (Bytes bytes) ≡ Err fault) → (fault ≡ Memory) ⊎ (example_loaded stages ≡ Err fault)
  example_refused fault (inl memory) = inl memory
  example_refused fault (inr e) = inr (by_settings (Err fault) e)
