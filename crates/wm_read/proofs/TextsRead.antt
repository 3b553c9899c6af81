-- The sources, behind a specification and weights.
use Rattle.std.proofs.Common.{◌≡◌, ℕ, ◌≤◌, List, Option, None, Result, Ok, Err, ◌⊎◌, refl, ap, arith}
use Rattle.wm_files.specs.Outside.{Held}
use Rattle.wm_program.specs.Settings.{Settings}
use Rattle.wm_report.specs.declared.fault.RunFault.{RunFault}
use Rattle.wm_report.specs.declared.fault.RunFault.TheVariants.{Memory}
use Rattle.wm_read.specs.Asking.{Asking, Done, Leads}
use Rattle.wm_read.specs.Files.{Texts, sources_asked, texts_behind, weights_asked}
use Rattle.wm_weights.specs.Table.{ones}
use Rattle.wm_read.proofs.Asked.{leads_on, reads_off}

module _ (held : Option Held) (a b : ℕ) (settings : Settings) (weights : List (Option ℕ)) where
  gather : List (List ℕ) → Asking (Result Texts RunFault)
  gather sources = Done (Ok (record { settings = settings; weights = weights; sources = sources }))

  pub texts_done : (sources : List (List ℕ)) → a ≤ b → Leads held a b (sources_asked settings.sources) (Ok sources)
      → Leads held a b (texts_behind settings weights) (Ok (record { settings = settings; weights = weights; sources = sources }))
  unfolding texts_behind Leads gather
  texts_done sources high first =
      let le : b ≤ b = omega arith in
      leads_on held a b b high le gather (sources_asked settings.sources) sources (Ok (record { settings = settings; weights = weights; sources = sources })) first refl

  pub texts_failed : (fault : RunFault) → (fault ≡ Memory) ⊎ Leads held a b (sources_asked settings.sources) (Err fault)
      → (fault ≡ Memory) ⊎ Leads held a b (texts_behind settings weights) (Err fault)
  unfolding texts_behind gather
  texts_failed fault first = reads_off held a b (sources_asked settings.sources) gather fault first

-- no weights file is read
pub ones_read : (held : Option Held) (a b : ℕ) (weights : List (Option ℕ)) → weights ≡ ones → Leads held a b (weights_asked None) (Ok weights)
unfolding weights_asked Leads
ones_read held a b weights is = ap Ok is
