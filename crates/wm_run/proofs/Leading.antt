-- From what a command reads to what the words and the files lead to.
use Rattle.std.proofs.Common.{◌≡◌, ◌⊎◌, inl, inr, ℕ, ◌≤◌, List, Option, Some, None, Result, Ok, Err, sym, subst, arith}
use Rattle.std.specs.Prelude.{IfOk}
use Rattle.wm_files.specs.Outside.{Held, Rose}
use Rattle.wm_load.specs.Loaded.{Loaded}
use Rattle.wm_load.specs.Loading.{load_asked}
use Rattle.wm_program.specs.declared.program.Program.{Program}
use Rattle.wm_read.specs.Asking.{Asking, Leads}
use Rattle.wm_read.proofs.Asked.{leads_wider}
use Rattle.wm_report.specs.declared.fault.RunFault.{RunFault}
use Rattle.wm_report.specs.declared.fault.RunFault.TheVariants.{Memory}
use Rattle.wm_words.specs.declared.command.Command.{Command}
use Rattle.wm_words.specs.Seen.{seen}
use Rattle.wm_words.specs.Words.{Form, form_of}
use Rattle.wm_run.specs.declared.outcome.Outcome.{Outcome}
use Rattle.wm_run.specs.Outcome.{Decided, Fault, IsOwn, decided}
use Rattle.wm_run.specs.World.{World, world_of}
use Rattle.wm_run.specs.Proved.{Proof, ProvedAs, Written, WrittenBytes}
use Rattle.wm_run.specs.Leads.{From, FromForm, IsKept, LeadsTo, Reading}

module _ {A E : Type 0} (world : World) (asked : Asking (Result A RunFault)) where
  -- a refusal of the files
  pub refusal_leads : (As : A → Decided → Type 0) (fault : RunFault) (r : Result Outcome E) → IsKept world
      → (fault ≡ Memory) ⊎ Leads world.before world.old world.new asked (Err fault)
      → IfOk r (λ o. decided o ≡ Fault fault) → IfOk r (λ o. IsOwn (decided o)) → IfOk r (λ o. From world As asked (decided o))
  refusal_leads As fault (Ok o) kept (inl memory) is own = absurd (subst IsOwn is own memory)
  refusal_leads As fault (Ok o) kept (inr leads) is own = record { answer = Err fault; leads = leads; by = (kept, is) }
  refusal_leads As fault (Err e) kept leads is own = tt

  -- a command that writes nothing
  pub reading_leads : (As : A → Decided → Type 0) (given : A) (r : Result Outcome E) → IsKept world → Leads world.before world.old world.new asked (Ok given)
      → IfOk r (λ o. As given (decided o)) → IfOk r (λ o. From world (Reading world As) asked (decided o))
  reading_leads As given (Ok o) kept leads is = record { answer = Ok given; leads = leads; by = (kept, is) }
  reading_leads As given (Err e) kept leads is = tt

-- ---- what is said of the count of faults over a part of a call holds over the whole call

rose_wider : (a b c : ℕ) → a ≤ b → Rose b c → Rose a c
rose_wider a b c low (inl lt) = inl (omega arith)
rose_wider a b c low (inr most) = inr most

module _ {program : Program} (proof : Proof program) (before after : Option Held) (a b c : ℕ) (low : a ≤ b) (wanted d : Decided) where
  bytes_wider : (name bytes : List ℕ) → WrittenBytes (world_of before after b c) name bytes wanted d → WrittenBytes (world_of before after a c) name bytes wanted d
  bytes_wider name bytes (inl is) = inl (record { holds_all = is.holds_all; is = is.is })
  bytes_wider name bytes (inr cannot) = inr (record { rose = rose_wider a b c low cannot.rose; cut = cannot.cut; is = cannot.is })

  written_wider : (certificate : Option (List ℕ)) → Written proof (world_of before after b c) certificate wanted d → Written proof (world_of before after a c) certificate wanted d
  written_wider None is = is
  written_wider (Some name) is = record { bytes = is.bytes; text = is.text; ends = bytes_wider name is.bytes is.ends }

proved_wider : (before after : Option Held) (a b c : ℕ) (loaded : Loaded) (d : Decided) → a ≤ b → ProvedAs (world_of before after b c) loaded d → ProvedAs (world_of before after a c) loaded d
proved_wider before after a b c loaded d low is =
    record { proof = is.proof; findings = is.findings; written = written_wider is.proof before after a b c low _ d loaded.settings.certificate is.written }

pub prove_leads : {E : Type 0} (before mid after : Option Held) (a b c : ℕ) (name : List ℕ) (loaded : Loaded) (r : Result Outcome E) → a ≤ b → b ≤ c → mid ≡ before
    → Leads before a b (load_asked name) (Ok loaded) → IfOk r (λ o. ProvedAs (world_of mid after b c) loaded (decided o))
    → IfOk r (λ o. From (world_of before after a c) (ProvedAs (world_of before after a c)) (load_asked name) (decided o))
prove_leads before mid after a b c name loaded (Ok o) low high same leads is =
    let le : a ≤ a = omega arith in
    let here : ProvedAs (world_of before after b c) loaded (decided o) = subst (λ (held : Option Held). ProvedAs (world_of held after b c) loaded (decided o)) same is in
    record {
      answer = Ok loaded;
      leads = leads_wider before a a b c (load_asked name) (Ok loaded) le low high leads;
      by = proved_wider before after a b c loaded (decided o) low here;
    }
prove_leads before mid after a b c name loaded (Err e) low high same leads is = tt

-- ---- the words

-- the form of the words is that of the command that was read
pub form_leads : {E : Type 0} (words : List (List ℕ)) (world : World) (form : Form) (r : Result Outcome E) → form ≡ form_of words
    → IfOk r (λ o. FromForm world form (decided o)) → IfOk r (λ o. LeadsTo words world (decided o))
form_leads words world form r same leads = subst (λ (f : Form). IfOk r (λ o. FromForm world f (decided o))) same leads

-- what a command comes to is what its form comes to
pub command_leads : {E : Type 0} (world : World) (found other : Command) (r : Result Outcome E) → found ≡ other
    → IfOk r (λ o. FromForm world (seen other) (decided o)) → IfOk r (λ o. FromForm world (seen found) (decided o))
command_leads world found other r same leads = subst (λ (command : Command). IfOk r (λ o. FromForm world (seen command) (decided o))) (sym same) leads
