-- A refusal for a fault of structs is that for the fault that stands.
use Rattle.std.proofs.Common.{◌≡◌, ◌⊎◌, inl, inr, ◌∙◌, sym, ap, ℕ, List}
use Rattle.std.specs.Prelude.{Result, Ok, Err}
use Rattle.wm_lang.specs.declared.token.Token.{Token}
use Rattle.wm_lang.specs.declared.unit.Unit.{Unit as Source}
use Rattle.wm_members.specs.declared.fault.StructFault.{StructFault}
use Rattle.wm_members.specs.declared.fault.StructFault.TheVariants as struct
use Rattle.wm_members.specs.Faults.{Refuses}
use Rattle.wm_read.specs.Asking.{IsFault}
use Rattle.wm_read.specs.Files.{by_fault}
use Rattle.wm_report.specs.declared.fault.RunFault.{RunFault}
use Rattle.wm_report.specs.declared.fault.RunFault.TheVariants.{Memory}
use Rattle.wm_unit.specs.Trees.{struct_fault}

module _ (names : List (List ℕ)) (tokens : List Token) (found : RunFault) (stands : Result Source StructFault) where
  told : (fault : StructFault) → stands ≡ Err fault → IsFault found (struct_fault names tokens fault) → (found ≡ Memory) ⊎ (by_fault (struct_fault names tokens) stands ≡ Err found)
  told fault e (inl memory) = inl memory
  told fault e (inr is) = inr (ap (by_fault (struct_fault names tokens)) e ∙ ap (λ (f : RunFault). Err f) (sym is))

  pub structs_refused : (fault : StructFault) → Refuses fault stands → IsFault found (struct_fault names tokens fault) → (found ≡ Memory) ⊎ (by_fault (struct_fault names tokens) stands ≡ Err found)
  structs_refused (struct.NoStruct token) e is = told (struct.NoStruct token) e is
  structs_refused (struct.StructTwice token) e is = told (struct.StructTwice token) e is
  structs_refused (struct.StructSize token) e is = told (struct.StructSize token) e is
  structs_refused (struct.NoMember token) e is = told (struct.NoMember token) e is
  structs_refused (struct.StructKind token) e is = told (struct.StructKind token) e is
  structs_refused struct.NoMemory e (inl memory) = inl memory
  structs_refused struct.NoMemory e (inr memory) = inl memory
