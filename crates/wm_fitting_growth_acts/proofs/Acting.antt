-- Assignments, steps and calls.
use Rattle.std.proofs.Common.{◌≡◌, ℕ, Bool, true, false, Option, List, [], ◌∷◌, ◌++◌}
use Rattle.wm_lang.specs.declared.expression.Expr.{Expr as Source}
use Rattle.wm_lang.specs.declared.expression.Identifier.{Identifier}
use Rattle.wm_lang.specs.declared.expression.SpotKind.{SpotKind}
use Rattle.wm_lang.specs.declared.expression.SpotKind.TheVariants as spots
use Rattle.wm_lang.specs.declared.place.Position.{Position}
use Rattle.wm_lang.specs.declared.statement.AssignMark.{AssignMark}
use Rattle.wm_lang.specs.declared.statement.AssignMark.TheVariants as assigns
use Rattle.wm_lang.specs.declared.statement.Simple.{Simple}
use Rattle.wm_lang.specs.declared.statement.Simple.TheVariants as simples
use Rattle.wm_lang.specs.declared.statement.StepMark.{StepMark}
use Rattle.wm_ops.specs.declared.operators.Width.{Width}
use Rattle.wm_program.specs.declared.program.SiteKind.TheVariants as kind
use Rattle.wm_program.specs.declared.tree.PlainMark.{PlainMark}
use Rattle.wm_program.specs.declared.tree.PlainMark.TheVariants as plain
use Rattle.wm_program.specs.declared.tree.Simple.{Simple as Act}
use Rattle.wm_scope.specs.declared.fault.TokenFault.TheVariants.{UnknownName, WrongKind, AssignToConst}
use Rattle.wm_scope.specs.declared.meaning.Meaning.{Meaning}
use Rattle.wm_scope.specs.declared.meaning.Meaning.TheVariants as meaning
use Rattle.wm_scope.specs.declared.scope.Scope.{Scope}
use Rattle.wm_scope.specs.Scopes.{meaning_of}
use Rattle.wm_source.specs.Reading.{source_of}
use Rattle.wm_marks.specs.declared.marks.Marks.{Marks}
use Rattle.wm_marks.specs.Marking.{site as site_at}
use Rattle.wm_value.specs.Kinds.{is_narrow, array_at, pointed_at}
use Rattle.wm_value.specs.Needs.{number_in}
use Rattle.wm_value.specs.Widths.{narrowing_in, spot_width}
use Rattle.wm_body.specs.Simples.{protected, target_by, named_target, is_const_element, element_target, pointed_target, bare_target, target, update_sites, update, assign, step_after, step_before, simple, all_simple}
use Rattle.wm_fitting.specs.Fitting.{Grows}
use Rattle.wm_fitting.proofs.Collecting.{grows_none, grows_then}
use Rattle.wm_fitting_growth.proofs.Adding.{noted_grows, site_grows, site_where_grows}
use Rattle.wm_fitting_growth.proofs.Names.{array_at_grows, narrowing_grows}
use Rattle.wm_fitting_growth.proofs.Forms.{numbers_grow, calls_grow}

-- ---- what is written

protected_grows : (b : Bool) (at : Position) (m : Marks) → Grows m (protected b at m)
protected_grows true at m = noted_grows AssignToConst at m
protected_grows false at m = grows_none m

target_by_grows : (at name_at : Position) (g : Meaning) (m : Marks) → Grows m (target_by at name_at g m).1
target_by_grows at name_at (meaning.Operator op) m = noted_grows WrongKind at m
target_by_grows at name_at (meaning.Counting call) m = noted_grows WrongKind at m
target_by_grows at name_at (meaning.Function number) m = noted_grows WrongKind at m
target_by_grows at name_at (meaning.Scalar scalar width is_const) m = protected_grows is_const at m
target_by_grows at name_at (meaning.Array array width is_const) m = noted_grows WrongKind at m
target_by_grows at name_at meaning.Nothing m = noted_grows UnknownName name_at m

named_target_grows : (scope : Scope) (at : Position) (name : Identifier) (m : Marks) → Grows m (named_target scope at name m).1
unfolding named_target
named_target_grows scope at name m = target_by_grows at name.at (meaning_of name.name scope) m

element_target_grows : (scope : Scope) (name : Identifier) (bracket : Position) (index : Source) (m : Marks) → Grows m (element_target scope name bracket index m).1
unfolding element_target
element_target_grows scope name bracket index m =
    let a = (array_at scope name name.at m).1 in
    grows_then (array_at_grows scope name name.at m) (grows_then (site_grows kind.Index bracket a) (numbers_grow scope index (site_at kind.Index bracket a).1))

pointed_target_grows : (scope : Scope) (star : Position) (name : Identifier) (m : Marks) → Grows m (pointed_target scope star name m).1
unfolding pointed_target pointed_at
pointed_target_grows scope star name m = grows_then (array_at_grows scope name star m) (site_grows kind.Index star (array_at scope name star m).1)

bare_target_grows : (scope : Scope) (at : Position) (it : SpotKind Source) (m : Marks) → Grows m (bare_target scope at it m).1
unfolding bare_target
bare_target_grows scope at (spots.Scalar name) m = named_target_grows scope at name m
bare_target_grows scope at (spots.Element name bracket index) m = element_target_grows scope name bracket index m
bare_target_grows scope at (spots.Pointed star name) m = pointed_target_grows scope star name m
bare_target_grows scope at (spots.Member object mark mark_at member) m = grows_none m
bare_target_grows scope at (spots.MemberElement object mark mark_at member bracket index) m = grows_none m

target_grows : (scope : Scope) (at : Position) (it : SpotKind Source) (m : Marks) → Grows m (target scope at it m).1
unfolding target
target_grows scope at it m =
    grows_then (protected_grows (is_const_element scope it) at m) (bare_target_grows scope at it (protected (is_const_element scope it) at m))

update_sites_grow : (width : Width) (at : Position) (m : Marks) → Grows m (update_sites width at m).1
unfolding update_sites
update_sites_grow width at m =
    grows_then (site_grows kind.Arithmetic at m)
    (site_where_grows (is_narrow width) (site_at kind.Narrowing at) (site_grows kind.Narrowing at) (site_at kind.Arithmetic at m).1)

-- ---- acts

update_grows : (scope : Scope) (spot_at : Position) (it : SpotKind Source) (mark : PlainMark) (at : Position) (value : Source) (m : Marks) → Grows m (update scope spot_at it mark at value m).1
unfolding update
update_grows scope spot_at it mark at value m =
    let spot = (target scope spot_at it m).1 in
    let sites = (update_sites (spot_width scope it) at spot).1 in
    grows_then (target_grows scope spot_at it m) (grows_then (update_sites_grow (spot_width scope it) at spot) (numbers_grow scope value sites))

assign_grows : (scope : Scope) (spot_at : Position) (it : SpotKind Source) (mark : AssignMark) (at : Position) (value : Source) (m : Marks) → Grows m (assign scope spot_at it mark at value m).1
unfolding assign
assign_grows scope spot_at it assigns.Plain at value m =
    let spot = (target scope spot_at it m).1 in
    let n = (narrowing_in scope (source_of value) (spot_width scope it) at spot).1 in
    grows_then (target_grows scope spot_at it m)
    (grows_then (narrowing_grows scope (source_of value) (spot_width scope it) at spot) (numbers_grow scope value n))
assign_grows scope spot_at it assigns.Plus at value m = update_grows scope spot_at it plain.Plus at value m
assign_grows scope spot_at it assigns.Minus at value m = update_grows scope spot_at it plain.Minus at value m
assign_grows scope spot_at it assigns.Times at value m = update_grows scope spot_at it plain.Times at value m

step_after_grows : (scope : Scope) (spot_at : Position) (it : SpotKind Source) (mark : StepMark) (at : Position) (m : Marks) → Grows m (step_after scope spot_at it mark at m).1
unfolding step_after
step_after_grows scope spot_at it mark at m =
    grows_then (target_grows scope spot_at it m) (update_sites_grow (spot_width scope it) at (target scope spot_at it m).1)

step_before_grows : (scope : Scope) (spot_at : Position) (it : SpotKind Source) (mark : StepMark) (at : Position) (m : Marks) → Grows m (step_before scope spot_at it mark at m).1
unfolding step_before
step_before_grows scope spot_at it mark at m =
    grows_then (update_sites_grow (spot_width scope it) at m) (target_grows scope spot_at it (update_sites (spot_width scope it) at m).1)

simple_grows : (scope : Scope) (it : Simple) (m : Marks) → Grows m (simple scope it m).1
unfolding simple
simple_grows scope (simples.Assign spot mark at value) m = assign_grows scope spot.at spot.kind mark at value m
simple_grows scope (simples.StepAfter spot mark at) m = step_after_grows scope spot.at spot.kind mark at m
simple_grows scope (simples.StepBefore mark at spot) m = step_before_grows scope spot.at spot.kind mark at m
simple_grows scope (simples.Call call) m = calls_grow scope call m

pub acts_grow : (scope : Scope) (found : List Act) (simples : List Simple) (m : Marks) → Grows m (all_simple scope found simples m).1
acts_grow scope found [] m = grows_none m
acts_grow scope found (one ∷ rest) m =
    let x = simple scope one m in
    grows_then (simple_grows scope one m) (acts_grow scope (found ++ x.0 ∷ []) rest x.1)
