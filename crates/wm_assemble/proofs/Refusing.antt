-- What is refused stands, unless it is memory.
use Rattle.std.proofs.Common.{◌≡◌, ◌∙◌, sym, ap, subst, refl, ℕ, ◌≤◌, ℤ, Bool, true, false, List, Option, Some, None}
use Rattle.std.proofs.lemmas.Bool.{true≢false, le-ltb}
use Rattle.std.specs.Prelude.{Result, Ok, Err, if◌then◌else◌, is_some, nat_lt}
use Rattle.wm_lang.specs.declared.place.Position.{Position}
use Rattle.wm_lang.specs.declared.unit.Unit.{Unit as Source}
use Rattle.wm_program.specs.declared.faults.LinkFault.{LinkFault}
use Rattle.wm_program.specs.declared.faults.LinkFault.TheVariants.{UnknownName, Redefined, WrongKind, WrongCount, NotConstant, BadLength, AssignToConst, BreakOutside, MissingReturn, Recursion, TooManyAt, NoFrame, NoInit, BadInput, TooMany, NoMemory}
use Rattle.wm_program.specs.declared.faults.What.TheVariants as what
use Rattle.wm_program.specs.declared.program.FunctionInfo.{FunctionInfo}
use Rattle.wm_program.specs.declared.program.LoopInfo.{LoopInfo}
use Rattle.wm_program.specs.declared.spec.Spec.{Spec}
use Rattle.wm_scope.specs.declared.reading.Reading.{Reading}
use Rattle.wm_calls.specs.Recursion.{recursion_of}
use Rattle.wm_calls.specs.Sizes.{sizes_of}
use Rattle.wm_instances.specs.Constants.{constants_of}
use Rattle.wm_assemble.specs.declared.plan.Plan.{Plan}
use Rattle.wm_assemble.specs.declared.plan.Laid.{Laid}
use Rattle.wm_assemble.specs.declared.plan.Started.{Started}
use Rattle.wm_assemble.specs.Answers.{Refuses, Answers}
use Rattle.wm_assemble.specs.Faults.{or_fault, token_fault, spec_fault}
use Rattle.wm_assemble.specs.Plans.{plan_of, total_of, laid_of}
use Rattle.wm_assemble.specs.Linked.{unless, laid_fault, counted, planned, gathered, early_fault, started}

pub refused : (fault : LinkFault) (stands : Result Started LinkFault) → stands ≡ Err fault → Refuses fault stands
refused (UnknownName token) stands e = e
refused (Redefined token) stands e = e
refused (WrongKind token) stands e = e
refused (WrongCount token) stands e = e
refused (NotConstant token) stands e = e
refused (BadLength token) stands e = e
refused (AssignToConst token) stands e = e
refused (BreakOutside token) stands e = e
refused (MissingReturn token) stands e = e
refused (Recursion token) stands e = e
refused (TooManyAt limit token) stands e = e
refused (NoFrame name) stands e = e
refused (NoInit name) stands e = e
refused (BadInput name) stands e = e
refused (TooMany limit) stands e = e
refused NoMemory stands e = tt

-- want of memory says nothing
pub spared : (fault : LinkFault) (stands : Result Started LinkFault) → fault ≡ NoMemory → Refuses fault stands
spared fault stands e = subst (λ (f : LinkFault). Refuses f stands) (sym e) tt

-- the first fault stands
pub stopped : (found : Option LinkFault) (rest : Result Started LinkFault) (fault : LinkFault) → Some fault ≡ found → Refuses fault (unless found rest)
stopped found rest fault e = refused fault (unless found rest) (ap (λ o. unless o rest) (sym e))

-- without a fault the rest stands
pub passed : (found : Option LinkFault) (rest : Result Started LinkFault) → None ≡ found → unless found rest ≡ rest
passed found rest e = ap (λ o. unless o rest) (sym e)

-- ---- by functions

pub counted_fault : (unit : Source) (functions : List FunctionInfo) (loops : List LoopInfo) (plan : Plan) (sizes : List ℕ) (laid : Laid) (constants : List ℤ) (fault : LinkFault) → laid ≡ laid_of plan → constants ≡ constants_of unit.items → Some fault ≡ laid_fault functions loops laid constants → Refuses fault (counted unit functions loops plan sizes)
unfolding counted
counted_fault unit functions loops plan sizes laid constants fault l k e =
    stopped (laid_fault functions loops (laid_of plan) (constants_of unit.items)) (Ok (gathered plan sizes (laid_of plan) (constants_of unit.items))) fault
    (e ∙ ap (λ (l : Laid). laid_fault functions loops l constants) l ∙ ap (laid_fault functions loops (laid_of plan)) k)

pub counted_started : (unit : Source) (functions : List FunctionInfo) (loops : List LoopInfo) (plan : Plan) (sizes : List ℕ) (laid : Laid) (constants : List ℤ) (begun : Started) → laid ≡ laid_of plan → constants ≡ constants_of unit.items → None ≡ laid_fault functions loops laid constants → begun ≡ gathered plan sizes laid constants → counted unit functions loops plan sizes ≡ Ok begun
unfolding counted
counted_started unit functions loops plan sizes laid constants begun l k e p =
    let gives : Started → Result Started LinkFault = λ q. Ok q in
    passed (laid_fault functions loops (laid_of plan) (constants_of unit.items)) (gives (gathered plan sizes (laid_of plan) (constants_of unit.items)))
    (e ∙ ap (λ (l : Laid). laid_fault functions loops l constants) l ∙ ap (laid_fault functions loops (laid_of plan)) k)
    ∙ ap gives (sym (p ∙ ap (λ (l : Laid). gathered plan sizes l constants) l ∙ ap (gathered plan sizes (laid_of plan)) k))

pub planned_many : (unit : Source) (functions : List FunctionInfo) (loops : List LoopInfo) (plan : Plan) (sizes : List ℕ) → sizes ≡ sizes_of plan.calls → nat_lt 1024 (total_of sizes plan) ≡ true → planned unit functions loops plan ≡ Err (TooMany what.Instances)
unfolding planned
planned_many unit functions loops plan sizes s h =
    let over : nat_lt 1024 (total_of (sizes_of plan.calls) plan) ≡ true = ap (λ (s : List ℕ). nat_lt 1024 (total_of s plan)) (sym s) ∙ h in
    ap (λ (b : Bool). if b then Err (TooMany what.Instances) else counted unit functions loops plan (sizes_of plan.calls)) over

pub planned_rest : (unit : Source) (functions : List FunctionInfo) (loops : List LoopInfo) (plan : Plan) (sizes : List ℕ) → sizes ≡ sizes_of plan.calls → nat_lt 1024 (total_of sizes plan) ≡ false → planned unit functions loops plan ≡ counted unit functions loops plan sizes
unfolding planned
planned_rest unit functions loops plan sizes s h =
    let over : nat_lt 1024 (total_of (sizes_of plan.calls) plan) ≡ false = ap (λ (s : List ℕ). nat_lt 1024 (total_of s plan)) (sym s) ∙ h in
    ap (λ (b : Bool). if b then Err (TooMany what.Instances) else counted unit functions loops plan (sizes_of plan.calls)) over
    ∙ ap (counted unit functions loops plan) (sym s)

pub planned_answers : (unit : Source) (functions : List FunctionInfo) (loops : List LoopInfo) (plan : Plan) (sizes : List ℕ) (result : Result Started LinkFault) → sizes ≡ sizes_of plan.calls → total_of sizes plan ≤ 1024 → Answers result (counted unit functions loops plan sizes) → Answers result (planned unit functions loops plan)
planned_answers unit functions loops plan sizes result s h a =
    subst (λ (stands : Result Started LinkFault). Answers result stands) (sym (planned_rest unit functions loops plan sizes s (le-ltb 1024 (total_of sizes plan) h))) a

pub or_first : (found other : Option LinkFault) → true ≡ is_some found → found ≡ or_fault found other
or_first None other e = absurd (true≢false e)
or_first (Some fault) other e = refl

pub or_second : (found other : Option LinkFault) → false ≡ is_some found → other ≡ or_fault found other
or_second None other e = refl
or_second (Some fault) other e = absurd (true≢false (sym e))

pub early_first : (spec : Spec) (reading : Reading) (circle : Option Position) (fault : Option LinkFault) → circle ≡ recursion_of reading.calls → fault ≡ token_fault reading.least circle → true ≡ is_some fault → fault ≡ early_fault spec reading
unfolding early_fault
early_first spec reading circle fault c f h =
    let e : fault ≡ token_fault reading.least (recursion_of reading.calls) = f ∙ ap (token_fault reading.least) c in
    or_first fault (spec_fault reading.functions reading.objects spec) h
    ∙ ap (λ (o : Option LinkFault). or_fault o (spec_fault reading.functions reading.objects spec)) e

pub early_second : (spec : Spec) (reading : Reading) (circle : Option Position) (fault : Option LinkFault) → circle ≡ recursion_of reading.calls → fault ≡ token_fault reading.least circle → false ≡ is_some fault → spec_fault reading.functions reading.objects spec ≡ early_fault spec reading
unfolding early_fault
early_second spec reading circle fault c f h =
    let e : fault ≡ token_fault reading.least (recursion_of reading.calls) = f ∙ ap (token_fault reading.least) c in
    or_second fault (spec_fault reading.functions reading.objects spec) h
    ∙ ap (λ (o : Option LinkFault). or_fault o (spec_fault reading.functions reading.objects spec)) e

pub linked_fault : (unit : Source) (spec : Spec) (reading : Reading) (fault : LinkFault) → Some fault ≡ early_fault spec reading → Refuses fault (started unit spec reading)
unfolding started
linked_fault unit spec reading fault e =
    stopped (early_fault spec reading) (planned unit reading.functions reading.loops (plan_of unit spec reading.functions reading.calls)) fault e

pub linked_rest : (unit : Source) (spec : Spec) (reading : Reading) (plan : Plan) → None ≡ early_fault spec reading → plan ≡ plan_of unit spec reading.functions reading.calls → started unit spec reading ≡ planned unit reading.functions reading.loops plan
unfolding started
linked_rest unit spec reading plan e p =
    passed (early_fault spec reading) (planned unit reading.functions reading.loops (plan_of unit spec reading.functions reading.calls)) e
    ∙ ap (planned unit reading.functions reading.loops) (sym p)
