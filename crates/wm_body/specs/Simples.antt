-- Assignments, steps and calls.
use Rattle.std.specs.Prelude.{ℕ, ℤ, pos, Bool, true, false, List, [], ◌∷◌, ◌++◌, Option, Some, None}
use Rattle.wm_lang.specs.declared.expression.Expr.{Expr as Written}
use Rattle.wm_lang.specs.declared.expression.Identifier.{Identifier}
use Rattle.wm_lang.specs.declared.expression.SpotKind.{SpotKind}
use Rattle.wm_lang.specs.declared.expression.SpotKind.TheVariants as spots
use Rattle.wm_lang.specs.declared.place.Position.{Position}
use Rattle.wm_lang.specs.declared.statement.AssignMark.{AssignMark}
use Rattle.wm_lang.specs.declared.statement.AssignMark.TheVariants as assigns
use Rattle.wm_lang.specs.declared.statement.Simple.{Simple}
use Rattle.wm_lang.specs.declared.statement.Simple.TheVariants as simples
use Rattle.wm_lang.specs.declared.statement.StepMark.{StepMark}
use Rattle.wm_lang.specs.declared.statement.StepMark.TheVariants as steps
use Rattle.wm_ops.specs.declared.operators.Width.{Width}
use Rattle.wm_program.specs.declared.program.SiteKind.TheVariants as site
use Rattle.wm_program.specs.declared.tree.Expr.TheVariants as e
use Rattle.wm_program.specs.declared.tree.PlainMark.{PlainMark}
use Rattle.wm_program.specs.declared.tree.PlainMark.TheVariants as plain
use Rattle.wm_program.specs.declared.tree.Scalar.TheVariants as scalar
use Rattle.wm_program.specs.declared.tree.Simple.{Simple as Act}
use Rattle.wm_program.specs.declared.tree.Simple.TheVariants as act
use Rattle.wm_program.specs.declared.tree.Spot.{Spot as Target}
use Rattle.wm_program.specs.declared.tree.Spot.TheVariants as targets
use Rattle.wm_scope.specs.declared.fault.TokenFault.TheVariants.{UnknownName, AssignToConst}
use Rattle.wm_scope.specs.declared.meaning.Meaning.{Meaning}
use Rattle.wm_scope.specs.declared.meaning.Meaning.TheVariants as meaning
use Rattle.wm_scope.specs.declared.scope.Scope.{Scope}
use Rattle.wm_scope.specs.Scopes.{meaning_of}
use Rattle.wm_source.specs.Reading.{source_of}
use Rattle.wm_marks.specs.declared.marks.Marks.{Marks}
use Rattle.wm_marks.specs.Marking.{Marking, ◌>>=◌, ◌>>◌, ◌<$>◌, pure, noted, note, site as site_at}
use Rattle.wm_value.specs.declared.form.Value.{Value}
use Rattle.wm_value.specs.declared.form.Value.TheVariants as value
use Rattle.wm_value.specs.Kinds.{no_number, wrong, unknown, is_narrow, array_at, pointed_at}
use Rattle.wm_value.specs.Widths.{narrowing_in, scalar_width, element_width, site_where, spot_width}
use Rattle.wm_value.specs.Needs.{number_in, call_in}

abbrev pub no_target : Position → Marking Target
no_target at = wrong (targets.Scalar scalar.Overflow) at

-- what is const may not be written
abbrev pub protected : Bool → Position → Marks → Marks
protected true at m = noted AssignToConst at m
protected false at m = m

abbrev pub protect : Bool → Position → Marking (Unit {0})
protect is_const at = λ m. (tt, protected is_const at m)

abbrev pub target_by : Position → Position → Meaning → Marking Target
target_by at name_at (meaning.Operator op) = no_target at
target_by at name_at (meaning.Counting call) = no_target at
target_by at name_at (meaning.Function number) = no_target at
target_by at name_at (meaning.Scalar scalar width is_const) = protect is_const at >> pure (targets.Scalar scalar)
target_by at name_at (meaning.Array array width is_const) = no_target at
target_by at name_at meaning.Nothing = unknown (targets.Scalar scalar.Overflow) name_at

unfoldable pub named_target : Scope → Position → Identifier → Marking Target
named_target scope at name = target_by at name.at (meaning_of name.name scope)

abbrev pub is_const_array : Meaning → Bool
is_const_array (meaning.Operator op) = false
is_const_array (meaning.Counting call) = false
is_const_array (meaning.Function number) = false
is_const_array (meaning.Scalar scalar width is_const) = false
is_const_array (meaning.Array array width is_const) = is_const
is_const_array meaning.Nothing = false

abbrev pub is_const_element : Scope → SpotKind Written → Bool
is_const_element scope (spots.Scalar name) = false
is_const_element scope (spots.Element name bracket index) = is_const_array (meaning_of name.name scope)
is_const_element scope (spots.Pointed star name) = is_const_array (meaning_of name.name scope)
is_const_element scope (spots.Member object mark mark_at member) = false
is_const_element scope (spots.MemberElement object mark mark_at member bracket index) = false

unfoldable pub element_target : Scope → Identifier → Position → Written → Marking Target
element_target scope name bracket index =
    array_at scope name name.at >>= λ array. site_at site.Index bracket >>= λ here.
    number_in scope index >>= λ x. pure (targets.Element array x here)

unfoldable pub pointed_target : Scope → Position → Identifier → Marking Target
pointed_target scope star name = pointed_at scope star name >>= λ found. pure (targets.Element found.0 no_number found.1)

-- what an assignment writes; the first place is that of the spot
unfoldable pub bare_target : Scope → Position → SpotKind Written → Marking Target
bare_target scope at (spots.Scalar name) = named_target scope at name
bare_target scope at (spots.Element name bracket index) = element_target scope name bracket index
bare_target scope at (spots.Pointed star name) = pointed_target scope star name
bare_target scope at (spots.Member object mark mark_at member) = pure (targets.Scalar scalar.Overflow)
bare_target scope at (spots.MemberElement object mark mark_at member bracket index) = pure (targets.Scalar scalar.Overflow)

-- an element of a const array may not be written
unfoldable pub target : Scope → Position → SpotKind Written → Marking Target
target scope at kind = protect (is_const_element scope kind) at >> bare_target scope at kind

unfoldable pub update_sites : Width → Position → Marking (ℕ × Option ℕ)
update_sites width at =
    site_at site.Arithmetic at >>= λ arithmetic.
    site_where (is_narrow width) (site_at site.Narrowing at) >>= λ narrowing. pure (arithmetic, narrowing)

unfoldable pub update : Scope → Position → SpotKind Written → PlainMark → Position → Written → Marking Act
update scope spot_at kind mark at value =
    target scope spot_at kind >>= λ spot. update_sites (spot_width scope kind) at >>= λ sites.
    number_in scope value >>= λ x. pure (act.Update spot mark x sites.0 sites.1)

unfoldable pub assign : Scope → Position → SpotKind Written → AssignMark → Position → Written → Marking Act
assign scope spot_at kind assigns.Plain at value =
    target scope spot_at kind >>= λ spot. narrowing_in scope (source_of value) (spot_width scope kind) at >>= λ narrowing.
    number_in scope value >>= λ x. pure (act.Assign spot (record { value = x; narrowing = narrowing }))
assign scope spot_at kind assigns.Plus at value = update scope spot_at kind plain.Plus at value
assign scope spot_at kind assigns.Minus at value = update scope spot_at kind plain.Minus at value
assign scope spot_at kind assigns.Times at value = update scope spot_at kind plain.Times at value

abbrev pub step_of : StepMark → PlainMark
step_of steps.Increment = plain.Plus
step_of steps.Decrement = plain.Minus

unfoldable pub step_after : Scope → Position → SpotKind Written → StepMark → Position → Marking Act
step_after scope spot_at kind mark at =
    target scope spot_at kind >>= λ spot. update_sites (spot_width scope kind) at >>= λ sites.
    pure (act.Update spot (step_of mark) (e.Constant (pos 1)) sites.0 sites.1)

unfoldable pub step_before : Scope → Position → SpotKind Written → StepMark → Position → Marking Act
step_before scope spot_at kind mark at =
    update_sites (spot_width scope kind) at >>= λ sites. target scope spot_at kind >>= λ spot.
    pure (act.Update spot (step_of mark) (e.Constant (pos 1)) sites.0 sites.1)

-- a call whose value is dropped
abbrev pub act_of : Value → Act
act_of (value.Number number) = act.Evaluate number
act_of (value.Truth condition) = act.Evaluate no_number
act_of (value.View view sight) = act.Evaluate no_number
act_of value.LostView = act.Evaluate no_number
act_of value.Function = act.Evaluate no_number
act_of (value.Effect effect) = effect
act_of value.Nothing = act.Evaluate no_number

unfoldable pub simple : Scope → Simple → Marking Act
simple scope (simples.Assign spot mark at value) = assign scope spot.at spot.kind mark at value
simple scope (simples.StepAfter spot mark at) = step_after scope spot.at spot.kind mark at
simple scope (simples.StepBefore mark at spot) = step_before scope spot.at spot.kind mark at
simple scope (simples.Call call) = act_of <$> call_in scope call

-- several, behind those that were read
abbrev pub all_simple : Scope → List Act → List Simple → Marking (List Act)
all_simple scope found [] = pure found
all_simple scope found (one ∷ rest) = simple scope one >>= λ x. all_simple scope (found ++ x ∷ []) rest
