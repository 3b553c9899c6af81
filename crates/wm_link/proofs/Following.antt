-- What the first way through a unit refuses is refused, and what the second gives is given.
use Rattle.std.proofs.Common.{◌≡◌, ◌∙◌, sym, ap, subst, ℕ, List, []}
use Rattle.std.specs.Prelude.{Result, Ok}
use Rattle.wm_lang.specs.declared.unit.Unit.{Unit as Source}
use Rattle.wm_program.specs.declared.faults.LinkFault.{LinkFault}
use Rattle.wm_program.specs.declared.faults.LinkFault.TheVariants.{UnknownName, Redefined, WrongKind, WrongCount, NotConstant, BadLength, AssignToConst, BreakOutside, MissingReturn, Recursion, TooManyAt, NoFrame, NoInit, BadInput, TooMany, NoMemory}
use Rattle.wm_program.specs.declared.program.Program.{Program}
use Rattle.wm_program.specs.declared.spec.Spec.{Spec}
use Rattle.wm_scope.specs.declared.reading.Reading.{Reading}
use Rattle.wm_reading.specs.Reading.{read_unit}
use Rattle.wm_assemble.specs.declared.plan.Started.{Started}
use Rattle.wm_assemble.specs.Answers.{Refuses}
use Rattle.wm_assemble.specs.Linked.{started, finished}
use Rattle.wm_link.specs.Linked.{followed, linked}

goes_on : (unit : Source) (spec : Spec) (fault : LinkFault) (stands : Result Started LinkFault) → Refuses fault stands → Refuses fault (followed unit spec stands)
goes_on unit spec (UnknownName token) stands e = ap (followed unit spec) e
goes_on unit spec (Redefined token) stands e = ap (followed unit spec) e
goes_on unit spec (WrongKind token) stands e = ap (followed unit spec) e
goes_on unit spec (WrongCount token) stands e = ap (followed unit spec) e
goes_on unit spec (NotConstant token) stands e = ap (followed unit spec) e
goes_on unit spec (BadLength token) stands e = ap (followed unit spec) e
goes_on unit spec (AssignToConst token) stands e = ap (followed unit spec) e
goes_on unit spec (BreakOutside token) stands e = ap (followed unit spec) e
goes_on unit spec (MissingReturn token) stands e = ap (followed unit spec) e
goes_on unit spec (Recursion token) stands e = ap (followed unit spec) e
goes_on unit spec (TooManyAt limit token) stands e = ap (followed unit spec) e
goes_on unit spec (NoFrame name) stands e = ap (followed unit spec) e
goes_on unit spec (NoInit name) stands e = ap (followed unit spec) e
goes_on unit spec (BadInput name) stands e = ap (followed unit spec) e
goes_on unit spec (TooMany limit) stands e = ap (followed unit spec) e
goes_on unit spec NoMemory stands e = tt

pub refused : (unit : Source) (spec : Spec) (first : Reading) (fault : LinkFault) → first ≡ read_unit unit [] → Refuses fault (started unit spec first) → Refuses fault (linked unit spec)
unfolding linked
refused unit spec first fault r e =
    goes_on unit spec fault (started unit spec (read_unit unit [])) (subst (λ (f : Reading). Refuses fault (started unit spec f)) r e)

pub given : (unit : Source) (spec : Spec) (first second : Reading) (begun : Started) (offsets : List (List ℕ)) (program : Program) → first ≡ read_unit unit [] → started unit spec first ≡ Ok begun → offsets ≡ begun.offsets → second ≡ read_unit unit offsets → program ≡ finished spec begun second → linked unit spec ≡ Ok program
unfolding linked
given unit spec first second begun offsets program r s o t p =
    let gives : Program → Result Program LinkFault = λ q. Ok q in
    ap (λ (f : Reading). followed unit spec (started unit spec f)) (sym r)
    ∙ ap (followed unit spec) s
    ∙ ap gives (sym (p ∙ ap (finished spec begun) (t ∙ ap (read_unit unit) o)))
