-- Files that tell what they hold, and do not fail, leave one answer of theirs.
use Rattle.std.proofs.Common.{◌≡◌, ◌⊎◌, inl, inr, ℕ, Option, Some, None, Result, refl, subst}
use Rattle.std.specs.Prelude.{IfSome}
use Rattle.wm_files.specs.Outside.{Held, Rose}
use Rattle.wm_load.specs.Checking.{check_asked}
use Rattle.wm_load.specs.Loading.{load_asked}
use Rattle.wm_load.specs.Replaying.{replay_asked}
use Rattle.wm_read.specs.Asking.{Asking, Leads, told}
use Rattle.wm_read.proofs.Asked.{leads_told}
use Rattle.wm_report.specs.declared.fault.RunFault.{RunFault}
use Rattle.wm_words.specs.Words.{Form, Prove, Check, Replay, Demo, Worst, Headroom, Observe, BadWords, form_of}
use Rattle.wm_run.specs.Outcome.{Decided, IsOwn}
use Rattle.wm_run.specs.World.{World}
use Rattle.wm_run.specs.Proved.{CheckedAs, HeadroomAs, ProvedAs, WorstAs}
use Rattle.wm_run.specs.Sampled.{ObservedAs, ReplayedAs}
use Rattle.wm_run.specs.Leads.{By, From, FromForm, Reading, ToldForm}
use Rattle.wm_run.specs.Ends.{Call, ByMemory, Decides, EndsAsTold, EndsByTold, Put}

module _ (world : World) (pairs : Held) (same : world.before ≡ Some pairs) where
  from_told : {A : Type 0} (As : A → Decided → Type 0) (asked : Asking (Result A RunFault)) (d : Decided) → From world As asked d → Rose world.old world.new ⊎ By world As (told pairs asked) d
  from_told {A} As asked d from =
      let here : Leads (Some pairs) world.old world.new asked from.answer = subst (λ (held : Option Held). Leads held world.old world.new asked from.answer) same from.leads in
      elim (leads_told pairs world.old world.new asked from.answer here) [
        | inl rose ↦ inl rose
        | inr is ↦ inr (subst (λ (answer : Result A RunFault). By world As answer d) is from.by)
      ]

  form_told : (d : Decided) (form : Form) → FromForm world form d → Rose world.old world.new ⊎ ToldForm world pairs form d
  form_told d (Prove name) from = from_told (ProvedAs world) (load_asked name) d from
  form_told d (Check name) from = from_told (Reading world CheckedAs) (check_asked name) d from
  form_told d (Replay spec samples) from = from_told (Reading world ReplayedAs) (replay_asked spec samples) d from
  form_told d (Demo stages) from = inr from
  form_told d (Worst name) from = from_told (Reading world WorstAs) (load_asked name) d from
  form_told d (Headroom name) from = from_told (Reading world HeadroomAs) (load_asked name) d from
  form_told d (Observe spec samples) from = from_told (Reading world ObservedAs) (replay_asked spec samples) d from
  form_told d BadWords from = inr from

module _ (call : Call) (status : ℕ) where
  ends_held : (d : Decided) → Decides call d → IsOwn d → Put call d status → (held : Option Held) → call.files.before ≡ held → IfSome held (λ pairs. EndsByTold call pairs status)
  ends_held d decides own put None same = tt
  ends_held d decides own put (Some pairs) same =
      elim (form_told call.files pairs same d (form_of call.words) decides) [
        | inl rose ↦ inl rose
        | inr is ↦ inr (inl (record { decision = d; decides = is; own = own; put = put }))
      ]

  pub ends_as_told : (d : Decided) → Decides call d → IsOwn d → Put call d status → EndsAsTold call status
  ends_as_told d decides own put = ends_held d decides own put call.files.before refl

  memory_held : ByMemory call status → (held : Option Held) → IfSome held (λ pairs. EndsByTold call pairs status)
  memory_held memory None = tt
  memory_held memory (Some pairs) = inr (inr memory)

  pub memory_as_told : ByMemory call status → EndsAsTold call status
  memory_as_told memory = memory_held memory call.files.before
