-- What a call comes to, with its status and its text.
use Rattle.std.specs.Prelude.{◌≢◌, ℕ, Bool, if◌then◌else◌, List, ⊤}
use Rattle.wm_report.specs.declared.fault.RunFault.{RunFault}
use Rattle.wm_report.specs.declared.fault.RunFault.TheVariants.{Memory}
use Rattle.wm_report.specs.Fault.{fault_text, status_of as fault_status}
use Rattle.wm_run.specs.declared.outcome.Outcome as declared
use Rattle.wm_run.specs.declared.outcome.Outcome.TheVariants as variants

pub data Decided : Type 0 where
  -- a report, a text of worst or a text of headroom; and whether each site is safe or never reached, and each bound a number
  Judged : (is_safe : Bool) → (text : List ℕ) → Decided
  -- a replay, the summary of a demo, or what was observed
  Told : (text : List ℕ) → Decided
  -- a refusal
  Fault : RunFault → Decided

-- an outcome without where it lies in memory
abbrev pub decided : declared.Outcome → Decided
decided (variants.Judged is_safe text) = Judged is_safe text.items
decided (variants.Told text) = Told text.items
decided (variants.Fault fault) = Fault fault

-- want of memory is no outcome of its own
abbrev pub IsOwn : Decided → Type 0
IsOwn (Judged is_safe text) = ⊤
IsOwn (Told text) = ⊤
IsOwn (Fault fault) = fault ≢ Memory

-- a text, and no refusal
abbrev pub IsAnswer : Decided → Type 0
IsAnswer (Judged is_safe text) = ⊤
IsAnswer (Told text) = ⊤
IsAnswer (Fault fault) = ⊥

abbrev pub status_of : Decided → ℕ
status_of (Judged is_safe text) = if is_safe then 0 else 1
status_of (Told text) = 0
status_of (Fault fault) = fault_status fault

abbrev pub text_of : Decided → List ℕ
text_of (Judged is_safe text) = text
text_of (Told text) = text
text_of (Fault fault) = fault_text fault
