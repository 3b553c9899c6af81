-- Steps that make no object, and those that make one.
use Rattle.std.proofs.Common.{◌≡◌, ℕ, ◌+◌, Bool, true, false, cond, List, [], ◌∷◌, ◌++◌, length, Option, Some, None, refl, ap, ◌∙◌, length-append, arith}
use Rattle.std.specs.Prelude.{nat_lt, ◌==◌}
use Rattle.wm_lang.specs.declared.expression.Identifier.{Identifier}
use Rattle.wm_lang.specs.declared.place.Position.{Position}
use Rattle.wm_lang.specs.declared.statement.Declarator.{Declarator}
use Rattle.wm_lang.specs.declared.unit.Parameter.{Parameter}
use Rattle.wm_ops.specs.declared.operators.Width.{Width}
use Rattle.wm_program.specs.declared.faults.What.TheVariants.{Locals, Objects, LoopNest}
use Rattle.wm_program.specs.declared.program.ObjectInfo.{ObjectInfo}
use Rattle.wm_scope.specs.declared.fault.TokenFault.{TokenFault}
use Rattle.wm_scope.specs.declared.fault.TokenFault.TheVariants.{Redefined, BreakOutside, TooMany}
use Rattle.wm_scope.specs.Scopes.{is_here}
use Rattle.wm_body.specs.declared.work.Work.{Work}
use Rattle.wm_body.specs.Declarations.{name_of, length_of, make_static, static_object, automatic}
use Rattle.wm_body.specs.Statements.{leaping}
use Rattle.wm_body.specs.Works.{within, tell, checked, declare, noted_local, make_local, noted_object, make_object, make_loop, leapt, entered, quit}
use Rattle.wm_reading.specs.Functions.{brackets, parameter_by, parameter, parameters}

kept : (b : Bool) (fault : TokenFault) (at : Position) (v : Work) → (cond b (tell fault at v) v).objects ≡ v.objects
kept true fault at v = refl
kept false fault at v = refl

kept_unless : (b : Bool) (fault : TokenFault) (at : Position) (v : Work) → (cond b v (tell fault at v)).objects ≡ v.objects
kept_unless true fault at v = refl
kept_unless false fault at v = refl

checked_keeps : (name : Identifier) (v : Work) → (checked name v).objects ≡ v.objects
unfolding checked
checked_keeps name v = kept (is_here name.name v.scope) Redefined name.at v

local_keeps : (at : Position) (v : Work) → (noted_local at v).objects ≡ v.objects
local_keeps at v = kept_unless (nat_lt (length v.locals) 256) (TooMany Locals) at v

object_keeps : (at : Position) (v : Work) → (noted_object at v).objects ≡ v.objects
object_keeps at v = kept_unless (nat_lt (length v.objects) 512) (TooMany Objects) at v

pub loop_keeps : (at : Position) (step depth : ℕ) (v : Work) → (make_loop at step depth v).1.objects ≡ v.objects
unfolding make_loop
loop_keeps at step depth v = kept_unless (nat_lt depth 8) (TooMany LoopNest) at v

pub leap_keeps : (at : Position) (depth : ℕ) (v : Work) → (leaping at depth v).1.objects ≡ v.objects
unfolding leapt
leap_keeps at depth v = kept (depth == 0) BreakOutside at v

pub enter_keeps : (v : Work) → (entered v).objects ≡ v.objects
unfolding entered
enter_keeps v = refl

pub quit_keeps : (outer : ℕ) (v : Work) → (quit outer v).objects ≡ v.objects
unfolding quit
quit_keeps outer v = refl

pub automatic_keeps : (width : Width) (is_const : Bool) (it : Declarator) (v : Work) → (automatic width is_const it v).1.objects ≡ v.objects
unfolding automatic declare make_local
automatic_keeps width is_const it v =
    let c = (within (length_of it) v).1 in
    local_keeps (name_of it).at (checked (name_of it) c) ∙ checked_keeps (name_of it) c

-- an object that is made stands behind the others
pub object_made : (at : Position) (info : ObjectInfo) (v : Work) → (make_object at info v).1.objects ≡ v.objects ++ info ∷ []
unfolding make_object
object_made at info v = ap (λ (xs : List ObjectInfo). xs ++ info ∷ []) (object_keeps at v)

one_more : (xs : List ObjectInfo) (x : ObjectInfo) → length (xs ++ x ∷ []) ≡ length xs + 1
one_more xs x = omega (arith, length-append xs (x ∷ []))

pub static_counts : (width : Width) (is_const : Bool) (it : Declarator) (v : Work) → length (static_object width is_const it v).1.objects ≡ length v.objects + 1
unfolding static_object make_static declare
static_counts width is_const it v =
    let c = (within (length_of it) v).1 in
    ap length (object_made (name_of it).at _ _)
    ∙ (one_more _ _ ∙ ap (λ (xs : List ObjectInfo). length xs + 1) (checked_keeps (name_of it) c))

-- ---- parameters

one_keeps : (views : ℕ) (it : Parameter) (o : Option Identifier) (v : Work) → (parameter_by views it o v).1.objects ≡ v.objects
unfolding make_local declare
one_keeps views it None v = refl
one_keeps views it (Some name) v =
    let b = (within (brackets it.kind name.at) v).1 in
    local_keeps name.at (checked name b) ∙ checked_keeps name b

next_keeps : (views : ℕ) (it : Parameter) (v : Work) → (parameter views it v).1.objects ≡ v.objects
unfolding parameter
next_keeps views it v = one_keeps views it it.name v

pub parameters_keep : (views : ℕ) (its : List Parameter) (v : Work) → (parameters views its v).1.objects ≡ v.objects
parameters_keep views [] v = refl
parameters_keep views (it ∷ rest) v =
    let r = parameter views it v in
    parameters_keep r.0 rest r.1 ∙ next_keeps views it v
