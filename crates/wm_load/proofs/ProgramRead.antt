-- The program of what was read.
use Rattle.std.proofs.Common.{◌≡◌, ◌⊎◌, inl, inr, ◌∙◌, sym, ap, subst, ℕ, List, Option, Result, Ok, Err}
use Rattle.wm_program.specs.declared.program.Program.{Program}
use Rattle.wm_program.specs.declared.spec.Spec.{Spec}
use Rattle.wm_program.specs.Settings.{settings_of}
use Rattle.wm_read.specs.Asking.{Finds}
use Rattle.wm_read.specs.Files.{Texts}
use Rattle.wm_report.specs.declared.fault.RunFault.{RunFault}
use Rattle.wm_report.specs.declared.fault.RunFault.TheVariants.{Memory}
use Rattle.wm_unit.specs.Steps.{chained}
use Rattle.wm_load.specs.declared.loaded.Loaded.{Loaded as GivenLoaded}
use Rattle.wm_load.specs.Linking.{program_of_texts}
use Rattle.wm_load.specs.Loaded.{Loaded, loaded_of}
use Rattle.wm_load.specs.Loading.{loaded_from, weighed}
use Rattle.wm_load.proofs.Backwards.{same_spec}

module _ (spec : Spec) (weights : List (Option ℕ)) (sources seen : List (List ℕ)) (same : seen ≡ sources) where
  read : Texts
  read = record { settings = settings_of spec; weights = weights; sources = sources }

  from_program : (p : Result Program RunFault) → program_of_texts spec seen ≡ p → loaded_from read ≡ chained p (weighed (settings_of spec) weights)
  unfolding loaded_from read
  from_program p e =
      let all : Result Program RunFault → Result Loaded RunFault = λ (q : Result Program RunFault). chained q (weighed (settings_of spec) weights) in
      ap (λ (s : Spec). all (program_of_texts s sources)) (same_spec spec) ∙ ap (λ (t : List (List ℕ)). all (program_of_texts spec t)) (sym same) ∙ ap all e

  pub with_program : (program : Program) (r : Result GivenLoaded RunFault) → program_of_texts spec seen ≡ Ok program → Finds loaded_of r (weighed (settings_of spec) weights program)
      → Finds loaded_of r (loaded_from (record { settings = settings_of spec; weights = weights; sources = sources }))
  unfolding read
  with_program program r e found = subst (λ (q : Result Loaded RunFault). Finds loaded_of r q) (sym (from_program (Ok program) e)) found

  pub without_program : (fault : RunFault) → (fault ≡ Memory) ⊎ (program_of_texts spec seen ≡ Err fault)
      → (fault ≡ Memory) ⊎ (loaded_from (record { settings = settings_of spec; weights = weights; sources = sources }) ≡ Err fault)
  unfolding read
  without_program fault (inl memory) = inl memory
  without_program fault (inr e) = inr (from_program (Err fault) e)
