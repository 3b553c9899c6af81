-- What a refusal can be, where each read that fails is told, and nothing else is told as one.
use Rattle.std.proofs.Common.{◌≡◌, ℕ, List, Option, None, Result, Ok, Err, ◌⊎◌, inl, inr, ap, sym, subst}
use Rattle.std.specs.Prelude.{IsSomeAnd, ⊤}
use Rattle.std.specs.FinMap.{get}
use Rattle.wm_files.specs.Outside.{Held, Rose}
use Rattle.wm_read.specs.Asking.{Read, Bytes, TooLong, Failed, Asking, Done, Ask, ◌>>=◌, ReadGives, Leads}
use Rattle.wm_read.specs.Files.{by_fault}
use Rattle.wm_report.specs.declared.fault.RunFault.{RunFault}
use Rattle.wm_report.specs.declared.fault.RunFault.TheVariants.{SourcesTooLong, Source, TooMany, NoFrame, NoInit, BadInput, FileTooLong, NotToml, MissingKey, UnknownKey, BadValue, BadKey, BadNumber, MissingWeight, Rest, OutOfRange, CertificateTooLong, BadText, WrongHeads, NotInductive, ReadFailed, WriteFailed, Memory, Words}
use Rattle.wm_unit.specs.Steps.{chained}

-- it tells of the content of a file, or that memory ran out
abbrev pub IsPlain : RunFault → Type 0
IsPlain SourcesTooLong = ⊤
IsPlain (Source fault at) = ⊤
IsPlain (TooMany what at) = ⊤
IsPlain (NoFrame name) = ⊤
IsPlain (NoInit name) = ⊤
IsPlain (BadInput name) = ⊤
IsPlain (FileTooLong name) = ⊤
IsPlain (NotToml name) = ⊤
IsPlain (MissingKey key) = ⊤
IsPlain (UnknownKey key) = ⊤
IsPlain (BadValue key) = ⊤
IsPlain (BadKey key) = ⊤
IsPlain (BadNumber key) = ⊤
IsPlain (MissingWeight word) = ⊤
IsPlain (Rest bytes) = ⊤
IsPlain (OutOfRange frame name cell value) = ⊤
IsPlain CertificateTooLong = ⊤
IsPlain (BadText line) = ⊤
IsPlain WrongHeads = ⊤
IsPlain (NotInductive gap) = ⊤
IsPlain (ReadFailed name) = ⊥
IsPlain (WriteFailed name) = ⊥
IsPlain Memory = ⊤
IsPlain Words = ⊥

abbrev pub Plain : {A : Type 0} → Result A RunFault → Type 0
Plain (Ok x) = ⊤
Plain (Err fault) = IsPlain fault

-- each read that fails is told by the name of its file, and every other refusal is plain
abbrev pub Fair : {A : Type 0} → Asking (Result A RunFault) → Type 0
Fair (Done r) = Plain r
Fair (Ask name limit next) = ((bytes : List ℕ) → Fair (next (Bytes bytes))) × Fair (next TooLong) × (next Failed ≡ Done (Err (ReadFailed name)))

pub fair_on : {A B : Type 0} (p : Asking (Result A RunFault)) (go : A → Asking (Result B RunFault)) → Fair p → ((x : A) → Fair (go x)) → Fair (p >>= go)
fair_on (Done (Ok x)) go fair behind = behind x
fair_on (Done (Err fault)) go fair behind = fair
fair_on (Ask name limit next) go fair behind =
    (λ bytes. fair_on (next (Bytes bytes)) go (fair.0 bytes) behind, fair_on (next TooLong) go fair.1 behind, ap (λ q. q >>= go) fair.2)

pub plain_by : {A E : Type 0} (name : E → RunFault) → ((e : E) → IsPlain (name e)) → (r : Result A E) → Plain (by_fault name r)
plain_by name plain (Ok x) = tt
plain_by name plain (Err e) = plain e

pub plain_then : {A B : Type 0} (r : Result A RunFault) (go : A → Result B RunFault) → Plain r → ((x : A) → Plain (go x)) → Plain (chained r go)
plain_then (Ok x) go plain behind = behind x
plain_then (Err fault) go plain behind = plain

-- why a read failed
abbrev pub Fails : Option Held → ℕ → ℕ → List ℕ → Type 0
Fails held old new name = Rose old new ⊎ IsSomeAnd held (λ pairs. get pairs name ≡ None)

-- a read that failed, and the fault that tells it
pub record FailedRead (held : Option Held) (old new : ℕ) (fault : RunFault) : Type 0 where
  pub name : List ℕ
  pub is : fault ≡ ReadFailed name
  pub fails : Fails held old new name

module _ {A : Type 0} (held : Option Held) (old new : ℕ) where
  failed_by : (fault : RunFault) (name : List ℕ) (p : Asking (Result A RunFault)) → p ≡ Done (Err (ReadFailed name)) → Leads held old new p (Err fault) → Fails held old new name → FailedRead held old new fault
  unfolding Leads
  failed_by fault name (Done r) is leads fails =
      let same : fault ≡ ReadFailed name = cc in
      record { name = name; is = same; fails = fails }
  failed_by fault name (Ask other limit next) is leads fails = absurd cc

  fair_read : (name : List ℕ) (limit : ℕ) (next : Read → Asking (Result A RunFault)) (fault : RunFault) → Fair (Ask name limit next)
      → ((read : Read) → Fair (next read) → Leads held old new (next read) (Err fault) → IsPlain fault ⊎ FailedRead held old new fault)
      → (read : Read) → ReadGives held old new name limit read → Leads held old new (next read) (Err fault) → IsPlain fault ⊎ FailedRead held old new fault
  fair_read name limit next fault fair behind (Bytes bytes) given leads = behind (Bytes bytes) (fair.0 bytes) leads
  fair_read name limit next fault fair behind TooLong given leads = behind TooLong fair.1 leads
  fair_read name limit next fault fair behind Failed given leads = inr (failed_by fault name (next Failed) fair.2 leads given)

  pub fair_cause : (p : Asking (Result A RunFault)) (fault : RunFault) → Fair p → Leads held old new p (Err fault) → IsPlain fault ⊎ FailedRead held old new fault
  unfolding Leads
  fair_cause (Done r) fault fair leads = inl (subst (λ (r : Result A RunFault). Plain r) (sym leads) fair)
  fair_cause (Ask name limit next) fault fair leads = fair_read name limit next fault fair (λ read f l. fair_cause (next read) fault f l) leads.0 leads.1 leads.2
