-- A refusal for a fault of names or limits is that for the fault that stands.
use Rattle.std.proofs.Common.{◌≡◌, ◌⊎◌, inl, inr, ◌∙◌, sym, ap, ℕ, List}
use Rattle.std.specs.Prelude.{Result, Ok, Err}
use Rattle.wm_link.specs.Answers.{Refuses}
use Rattle.wm_lang.specs.declared.token.Token.{Token}
use Rattle.wm_program.specs.declared.faults.LinkFault.{LinkFault}
use Rattle.wm_program.specs.declared.faults.LinkFault.TheVariants.{UnknownName, Redefined, WrongKind, WrongCount, NotConstant, BadLength, AssignToConst, BreakOutside, MissingReturn, Recursion, TooManyAt, NoFrame, NoInit, BadInput, TooMany, NoMemory}
use Rattle.wm_program.specs.declared.program.Program.{Program}
use Rattle.wm_read.specs.Asking.{IsFault}
use Rattle.wm_read.specs.Files.{by_fault}
use Rattle.wm_report.specs.declared.fault.RunFault.{RunFault}
use Rattle.wm_report.specs.declared.fault.RunFault.TheVariants.{Memory}
use Rattle.wm_tokens.specs.Tokens.{link_fault}

module _ (names : List (List ℕ)) (tokens : List Token) (found : RunFault) (stands : Result Program LinkFault) where
  told : (fault : LinkFault) → stands ≡ Err fault → IsFault found (link_fault names tokens fault) → (found ≡ Memory) ⊎ (by_fault (link_fault names tokens) stands ≡ Err found)
  told fault e (inl memory) = inl memory
  told fault e (inr is) = inr (ap (by_fault (link_fault names tokens)) e ∙ ap (λ (f : RunFault). Err f) (sym is))

  pub link_refused : (fault : LinkFault) → Refuses fault stands → IsFault found (link_fault names tokens fault) → (found ≡ Memory) ⊎ (by_fault (link_fault names tokens) stands ≡ Err found)
  link_refused (UnknownName token) e is = told (UnknownName token) e is
  link_refused (Redefined token) e is = told (Redefined token) e is
  link_refused (WrongKind token) e is = told (WrongKind token) e is
  link_refused (WrongCount token) e is = told (WrongCount token) e is
  link_refused (NotConstant token) e is = told (NotConstant token) e is
  link_refused (BadLength token) e is = told (BadLength token) e is
  link_refused (AssignToConst token) e is = told (AssignToConst token) e is
  link_refused (BreakOutside token) e is = told (BreakOutside token) e is
  link_refused (MissingReturn token) e is = told (MissingReturn token) e is
  link_refused (Recursion token) e is = told (Recursion token) e is
  link_refused (TooManyAt limit token) e is = told (TooManyAt limit token) e is
  link_refused (NoFrame name) e is = told (NoFrame name) e is
  link_refused (NoInit name) e is = told (NoInit name) e is
  link_refused (BadInput name) e is = told (BadInput name) e is
  link_refused (TooMany limit) e is = told (TooMany limit) e is
  link_refused NoMemory e (inl memory) = inl memory
  link_refused NoMemory e (inr memory) = inl memory
