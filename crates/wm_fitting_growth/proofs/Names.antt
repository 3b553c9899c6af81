-- Names, and where a number, a condition or a view is needed.
use Rattle.std.proofs.Common.{ℕ, Bool, true, false, cond, Option, Some, None}
use Rattle.wm_lang.specs.declared.expression.Identifier.{Identifier}
use Rattle.wm_lang.specs.declared.place.Position.{Position}
use Rattle.wm_ops.specs.declared.operators.Width.{Width}
use Rattle.wm_program.specs.declared.program.SiteKind.TheVariants as kind
use Rattle.wm_program.specs.declared.tree.Expr.{Expr}
use Rattle.wm_program.specs.declared.tree.Scalar.{Scalar}
use Rattle.wm_program.specs.declared.tree.Scalar.TheVariants as scalar
use Rattle.wm_program.specs.declared.tree.View.{View}
use Rattle.wm_scope.specs.declared.fault.TokenFault.TheVariants.{UnknownName, WrongKind}
use Rattle.wm_scope.specs.declared.meaning.Meaning.{Meaning}
use Rattle.wm_scope.specs.declared.meaning.Meaning.TheVariants as meaning
use Rattle.wm_scope.specs.declared.scope.Scope.{Scope}
use Rattle.wm_scope.specs.declared.scope.Slot.{Slot}
use Rattle.wm_scope.specs.Scopes.{meaning_of}
use Rattle.wm_source.specs.Firsts.{beginning_of}
use Rattle.wm_source.specs.Source.{Source}
use Rattle.wm_marks.specs.declared.marks.Marks.{Marks}
use Rattle.wm_marks.specs.Marking.{pure}
use Rattle.wm_value.specs.declared.form.Begun.{Begun}
use Rattle.wm_value.specs.declared.form.Value.{Value}
use Rattle.wm_value.specs.declared.form.Value.TheVariants.{Number, Truth, View as Seen, LostView, Function, Effect, Nothing}
use Rattle.wm_value.specs.Kinds.{no_view, wrong, number_of, condition_of, fits, view_of, passed_by, passed_of, named_by, named, array_by, array_at, pointed_at, addressed_by, address_by, address, scalar_place, sight_by, sight_at, begin_part, part_value}
use Rattle.wm_value.specs.Values.{pointed_value}
use Rattle.wm_value.specs.Widths.{narrows, carries, argument_site, narrowing_in, argument_narrowing_in, passed_narrowing_in}
use Rattle.wm_marks.specs.Marking.{site as site_at}
use Rattle.wm_fitting.specs.Fitting.{Grows}
use Rattle.wm_fitting.proofs.Collecting.{grows_none, grows_then}
use Rattle.wm_fitting_growth.proofs.Adding.{noted_grows, site_grows, site_behind_grows, site_where_grows, took_object_grows, took_local_grows}

-- ---- what is needed

pub number_of_grows : (at : Position) (v : Value) (m : Marks) → Grows m (number_of at v m).1
unfolding number_of
number_of_grows at (Number number) m = grows_none m
number_of_grows at (Truth condition) m = noted_grows WrongKind at m
number_of_grows at (Seen view sight) m = noted_grows WrongKind at m
number_of_grows at LostView m = noted_grows WrongKind at m
number_of_grows at Function m = noted_grows WrongKind at m
number_of_grows at (Effect effect) m = noted_grows WrongKind at m
number_of_grows at Nothing m = grows_none m

pub condition_of_grows : (at : Position) (v : Value) (m : Marks) → Grows m (condition_of at v m).1
unfolding condition_of
condition_of_grows at (Number number) m = grows_none m
condition_of_grows at (Truth condition) m = grows_none m
condition_of_grows at (Seen view sight) m = noted_grows WrongKind at m
condition_of_grows at LostView m = noted_grows WrongKind at m
condition_of_grows at Function m = noted_grows WrongKind at m
condition_of_grows at (Effect effect) m = noted_grows WrongKind at m
condition_of_grows at Nothing m = grows_none m

seen_grows : (b : Bool) (view : View Expr) (at : Position) (m : Marks) → Grows m (cond b (pure view) (wrong no_view at) m).1
seen_grows true view at m = grows_none m
seen_grows false view at m = noted_grows WrongKind at m

view_of_grows : (at : Position) (slot : Slot) (v : Value) (m : Marks) → Grows m (view_of at slot v m).1
view_of_grows at slot (Number number) m = noted_grows WrongKind at m
view_of_grows at slot (Truth condition) m = noted_grows WrongKind at m
view_of_grows at slot (Seen view sight) m = seen_grows (fits sight slot) view at m
view_of_grows at slot LostView m = grows_none m
view_of_grows at slot Function m = noted_grows WrongKind at m
view_of_grows at slot (Effect effect) m = noted_grows WrongKind at m
view_of_grows at slot Nothing m = grows_none m

passed_by_grows : (b : Bool) (at : Position) (slot : Slot) (narrowing : Option ℕ) (v : Value) (m : Marks) → Grows m (passed_by b at slot narrowing v m).1
passed_by_grows true at slot narrowing v m = view_of_grows at slot v m
passed_by_grows false at slot narrowing v m = number_of_grows at v m

pub passed_of_grows : (at : Position) (slot : Option Slot) (narrowing : Option ℕ) (v : Value) (m : Marks) → Grows m (passed_of at slot narrowing v m).1
unfolding passed_of
passed_of_grows at None narrowing v m = grows_none m
passed_of_grows at (Some slot) narrowing v m = passed_by_grows slot.is_view at slot narrowing v m

-- ---- names

named_by_grows : (at : Position) (g : Meaning) (m : Marks) → Grows m (named_by at g m).1
named_by_grows at (meaning.Operator op) m = grows_none m
named_by_grows at (meaning.Counting call) m = grows_none m
named_by_grows at (meaning.Function number) m = grows_none m
named_by_grows at (meaning.Scalar scalar width is_const) m = grows_none m
named_by_grows at (meaning.Array array width is_const) m = grows_none m
named_by_grows at meaning.Nothing m = noted_grows UnknownName at m

pub named_grows : (scope : Scope) (name : Identifier) (m : Marks) → Grows m (named scope name m).1
unfolding named
named_grows scope name m = named_by_grows name.at (meaning_of name.name scope) m

array_by_grows : (at wrong_at : Position) (g : Meaning) (m : Marks) → Grows m (array_by at wrong_at g m).1
array_by_grows at wrong_at (meaning.Operator op) m = noted_grows WrongKind wrong_at m
array_by_grows at wrong_at (meaning.Counting call) m = noted_grows WrongKind wrong_at m
array_by_grows at wrong_at (meaning.Function number) m = noted_grows WrongKind wrong_at m
array_by_grows at wrong_at (meaning.Scalar scalar width is_const) m = noted_grows WrongKind wrong_at m
array_by_grows at wrong_at (meaning.Array array width is_const) m = grows_none m
array_by_grows at wrong_at meaning.Nothing m = noted_grows UnknownName at m

pub array_at_grows : (scope : Scope) (name : Identifier) (wrong_at : Position) (m : Marks) → Grows m (array_at scope name wrong_at m).1
unfolding array_at
array_at_grows scope name wrong_at m = array_by_grows name.at wrong_at (meaning_of name.name scope) m

pub pointed_value_grows : (scope : Scope) (star : Position) (name : Identifier) (m : Marks) → Grows m (pointed_value scope star name m).1
unfolding pointed_value pointed_at
pointed_value_grows scope star name m = grows_then (array_at_grows scope name star m) (site_grows kind.Index star (array_at scope name star m).1)

-- ---- addresses

addressed_by_grows : (at : Position) (s : Scalar) (width : Width) (is_const : Bool) (m : Marks) → Grows m (addressed_by at s width is_const m).1
addressed_by_grows at scalar.Overflow width is_const m = noted_grows WrongKind at m
addressed_by_grows at (scalar.Object object) width is_const m = took_object_grows object m
addressed_by_grows at (scalar.Local local) width is_const m = took_local_grows local m

address_by_grows : (at name_at : Position) (g : Meaning) (m : Marks) → Grows m (address_by at name_at g m).1
address_by_grows at name_at (meaning.Operator op) m = noted_grows WrongKind at m
address_by_grows at name_at (meaning.Counting call) m = noted_grows WrongKind at m
address_by_grows at name_at (meaning.Function number) m = noted_grows WrongKind at m
address_by_grows at name_at (meaning.Scalar scalar width is_const) m = addressed_by_grows at scalar width is_const m
address_by_grows at name_at (meaning.Array array width is_const) m = noted_grows WrongKind at m
address_by_grows at name_at meaning.Nothing m = noted_grows UnknownName name_at m

pub address_grows : (scope : Scope) (at : Position) (name : Identifier) (m : Marks) → Grows m (address scope at name m).1
unfolding address
address_grows scope at name m = address_by_grows at name.at (meaning_of name.name scope) m

sight_by_grows : (at name_at : Position) (g : Meaning) (m : Marks) → Grows m (sight_by at name_at g m).1
sight_by_grows at name_at (meaning.Operator op) m = noted_grows WrongKind name_at m
sight_by_grows at name_at (meaning.Counting call) m = noted_grows WrongKind name_at m
sight_by_grows at name_at (meaning.Function number) m = noted_grows WrongKind name_at m
sight_by_grows at name_at (meaning.Scalar scalar width is_const) m = noted_grows WrongKind (scalar_place at name_at scalar) m
sight_by_grows at name_at (meaning.Array array width is_const) m = grows_none m
sight_by_grows at name_at meaning.Nothing m = noted_grows UnknownName name_at m

sight_at_grows : (scope : Scope) (at : Position) (name : Identifier) (m : Marks) → Grows m (sight_at scope at name m).1
unfolding sight_at
sight_at_grows scope at name m = sight_by_grows at name.at (meaning_of name.name scope) m

pub begin_part_grows : (scope : Scope) (at : Position) (name : Identifier) (bracket : Position) (m : Marks) → Grows m (begin_part scope at name bracket m).1
unfolding begin_part
begin_part_grows scope at name bracket m = grows_then (sight_at_grows scope at name m) (site_grows kind.View bracket (sight_at scope at name m).1)

pub part_value_grows : (at : Position) (begun : Begun) (v : Value) (m : Marks) → Grows m (part_value at begun v m).1
unfolding part_value
part_value_grows at begun v m = number_of_grows at v m

-- ---- conversions

pub narrowing_grows : (scope : Scope) (source : Source) (to : Width) (at : Position) (m : Marks) → Grows m (narrowing_in scope source to at m).1
unfolding narrowing_in
narrowing_grows scope source to at m = site_where_grows (narrows scope source to) (site_at kind.Narrowing at) (site_grows kind.Narrowing at) m

argument_site_grows : (b : Bool) (at : Position) (m : Marks) → Grows m (argument_site b at m).1
argument_site_grows true at m = site_behind_grows at m
argument_site_grows false at m = site_grows kind.Narrowing at m

pub argument_narrowing_grows : (scope : Scope) (source : Source) (to : Width) (m : Marks) → Grows m (argument_narrowing_in scope source to m).1
unfolding argument_narrowing_in
argument_narrowing_grows scope source to m =
    site_where_grows (narrows scope source to) (argument_site (carries scope source) (beginning_of source)) (argument_site_grows (carries scope source) (beginning_of source)) m

unless_view : (b : Bool) (scope : Scope) (source : Source) (to : Width) (m : Marks) → Grows m (cond b (pure None) (argument_narrowing_in scope source to) m).1
unless_view true scope source to m = grows_none m
unless_view false scope source to m = argument_narrowing_grows scope source to m

pub passed_narrowing_grows : (scope : Scope) (source : Source) (slot : Option Slot) (m : Marks) → Grows m (passed_narrowing_in scope source slot m).1
unfolding passed_narrowing_in
passed_narrowing_grows scope source None m = grows_none m
passed_narrowing_grows scope source (Some slot) m = unless_view slot.is_view scope source slot.width m
