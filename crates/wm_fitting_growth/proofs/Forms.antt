-- The reading of an expression.
use Rattle.std.proofs.Common.{ℕ, ℤ, Bool, true, false, Option, Some, None, List, [], ◌∷◌, ◌++◌, length}
use Rattle.std.specs.Prelude.{slice_get}
use Rattle.wm_lang.specs.declared.expression.Call.{Call as Written}
use Rattle.wm_lang.specs.declared.expression.Expr.{Expr as Expression}
use Rattle.wm_lang.specs.declared.expression.Identifier.{Identifier}
use Rattle.wm_lang.specs.declared.expression.UnaryMark.TheVariants as unary
use Rattle.wm_lang.specs.declared.place.Position.{Position}
use Rattle.wm_ops.specs.Operators.{arity_of}
use Rattle.wm_ops.specs.declared.operators.Op.{Op}
use Rattle.wm_program.specs.declared.program.SiteKind.TheVariants as kind
use Rattle.wm_program.specs.declared.tree.Comparison.{Comparison}
use Rattle.wm_program.specs.declared.tree.Comparison.TheVariants as comparison
use Rattle.wm_program.specs.declared.tree.Condition.{Condition}
use Rattle.wm_program.specs.declared.tree.Converted.{Converted}
use Rattle.wm_program.specs.declared.tree.Expr.{Expr}
use Rattle.wm_program.specs.declared.tree.Link.{Link}
use Rattle.wm_program.specs.declared.tree.Passed.{Passed}
use Rattle.wm_scope.specs.declared.fault.TokenFault.TheVariants.{UnknownName, WrongKind}
use Rattle.wm_scope.specs.declared.meaning.Meaning.{Meaning}
use Rattle.wm_scope.specs.declared.meaning.Meaning.TheVariants as meaning
use Rattle.wm_scope.specs.declared.scope.Scope.{Scope}
use Rattle.wm_scope.specs.declared.scope.Slot.{Slot}
use Rattle.wm_scope.specs.Scopes.{meaning_of, slots_of}
use Rattle.wm_source.specs.Constants.{value_of}
use Rattle.wm_source.specs.Firsts.{beginning_of}
use Rattle.wm_source.specs.Reading.{source_of}
use Rattle.wm_source.specs.Source.{Disjunction, Conjunction, Comparisons, Sums, Products, Source, Chain, Unary, Cast, Number, Scalar, Element, Pointed, Member, Call, Parenthesis, AddressOf, AddressOfElement, AddressOfOther, Parts, End, Part, Sources, None as NoSource, More}
use Rattle.wm_source.specs.Written.{written_sources}
use Rattle.wm_marks.specs.declared.marks.Marks.{Marks}
use Rattle.wm_marks.specs.Marking.{Marking, noted, site}
use Rattle.wm_value.specs.declared.form.Head.{Head}
use Rattle.wm_value.specs.declared.form.Head.TheVariants as head
use Rattle.wm_value.specs.declared.form.Sight.{Sight}
use Rattle.wm_value.specs.declared.form.Value.{Value}
use Rattle.wm_value.specs.Kinds.{number_of, condition_of, passed_of, array_at, begin_part}
use Rattle.wm_value.specs.Needs.{number_in, condition_in, call_in}
use Rattle.wm_value.specs.Values.{settle, settled, form_in, comparison_of, link_site, again, chosen, begun_call, operator_value, counting_value, function_value, called_by, disjunction_in, conjunction_in, comparison_in, links_in, offset_in, operands_in, passed_in}
use Rattle.wm_value.specs.Widths.{width_at, takes_view, head_of, argument_narrowing_in, passed_narrowing_in}
use Rattle.wm_fitting.specs.Fitting.{Grows}
use Rattle.wm_fitting.proofs.Collecting.{grows_none, grows_then}
use Rattle.wm_fitting_growth.proofs.Adding.{noted_grows, again_grows, miscounted_grows, site_grows, link_site_grows, called_grows}
use Rattle.wm_fitting_growth.proofs.Names.{number_of_grows, condition_of_grows, passed_of_grows, named_grows, array_at_grows, pointed_value_grows, address_grows, begin_part_grows, part_value_grows, argument_narrowing_grows, passed_narrowing_grows}

-- ---- parts of a reading

settle_grows : (o : Option ℤ) (p : Marking Value) → ((m : Marks) → Grows m (p m).1) → (m : Marks) → Grows m (settle o p m).1
settle_grows None p h m = h m
settle_grows (Some z) p h m = grows_none m

chosen_grows : (h : Head) (view : Sight → Marking Value) (chain : Bool → Marking Value) → ((sight : Sight) (m : Marks) → Grows m (view sight m).1) → ((lost : Bool) (m : Marks) → Grows m (chain lost m).1) → (m : Marks) → Grows m (chosen h view chain m).1
chosen_grows head.Number view chain v c m = c false m
chosen_grows (head.Sight sight) view chain v c m = v sight m
chosen_grows head.Nothing view chain v c m = c true m

begun_call_grows : (scope : Scope) (function : ℕ) (name : Identifier) (arguments : Sources) (m : Marks) → Grows m (begun_call scope function name arguments m).1
unfolding begun_call
begun_call_grows scope function name arguments m = called_grows _ m

module _ (scope : Scope) (name : Identifier) (arguments : Sources) (operands : Op → Marking (List (Converted Expr))) (handed : List Slot → Marking (List (Passed Expr))) (op_grows : (op : Op) (m : Marks) → Grows m (operands op m).1) (handed_grows : (slots : List Slot) (m : Marks) → Grows m (handed slots m).1) where
  called_by_grows : (g : Meaning) (m : Marks) → Grows m (called_by scope name arguments operands handed g m).1
  unfolding operator_value counting_value function_value
  called_by_grows (meaning.Operator op) m =
      let here = site (kind.Operator op) name.at m in
      let found = operands op here.1 in
      grows_then (site_grows (kind.Operator op) name.at m) (grows_then (op_grows op here.1) (miscounted_grows (length found.0) (arity_of op) name.at found.1))
  called_by_grows (meaning.Counting call) m =
      let found = handed [] m in
      grows_then (handed_grows [] m) (miscounted_grows (length found.0) 0 name.at found.1)
  called_by_grows (meaning.Function function) m =
      let slots = slots_of function scope in
      let begun = begun_call scope function name arguments m in
      let found = handed slots begun.1 in
      grows_then (begun_call_grows scope function name arguments m) (grows_then (handed_grows slots begun.1) (miscounted_grows (length found.0) (length slots) name.at found.1))
  called_by_grows (meaning.Scalar scalar width is_const) m = grows_then (noted_grows WrongKind name.at m) (handed_grows [] (noted WrongKind name.at m))
  called_by_grows (meaning.Array array width is_const) m = grows_then (noted_grows WrongKind name.at m) (handed_grows [] (noted WrongKind name.at m))
  called_by_grows meaning.Nothing m = grows_then (noted_grows UnknownName name.at m) (handed_grows [] (noted UnknownName name.at m))

-- ---- the reading

mutual
  form_grows : (scope : Scope) (source : Source) (wants : Bool) (m : Marks) → Grows m (form_in scope wants source m).1
  form_grows scope (Chain Disjunction at first parts) wants m =
      let x = settled first (form_in scope false first) m in
      let c = condition_of (beginning_of first) x.0 x.1 in
      grows_then (settle_grows (value_of first) (form_in scope false first) (form_grows scope first false) m)
      (grows_then (condition_of_grows (beginning_of first) x.0 x.1) (disjunction_grows scope c.0 [] parts c.1))
  form_grows scope (Chain Conjunction at first parts) wants m =
      let x = settled first (form_in scope false first) m in
      let c = condition_of (beginning_of first) x.0 x.1 in
      grows_then (settle_grows (value_of first) (form_in scope false first) (form_grows scope first false) m)
      (grows_then (condition_of_grows (beginning_of first) x.0 x.1) (conjunction_grows scope c.0 [] parts c.1))
  form_grows scope (Chain Comparisons at first parts) wants m =
      let x = settled first (form_in scope false first) m in
      let c = number_of (beginning_of first) x.0 x.1 in
      grows_then (settle_grows (value_of first) (form_in scope false first) (form_grows scope first false) m)
      (grows_then (number_of_grows (beginning_of first) x.0 x.1) (comparison_grows scope at c.0 false comparison.Equal _ parts c.1))
  form_grows scope (Chain Sums at first parts) wants m =
      chosen_grows (head_of scope wants first parts) _ _ (λ sight n. offset_grows scope sight parts n)
      (λ lost n.
      let x = settled first (form_in scope false first) n in
      let c = number_of (beginning_of first) x.0 x.1 in
      grows_then (settle_grows (value_of first) (form_in scope false first) (form_grows scope first false) n)
      (grows_then (number_of_grows (beginning_of first) x.0 x.1) (links_grows scope lost c.0 [] parts c.1)))
      m
  form_grows scope (Chain Products at first parts) wants m =
      let x = settled first (form_in scope false first) m in
      let c = number_of (beginning_of first) x.0 x.1 in
      grows_then (settle_grows (value_of first) (form_in scope false first) (form_grows scope first false) m)
      (grows_then (number_of_grows (beginning_of first) x.0 x.1) (links_grows scope false c.0 [] parts c.1))
  form_grows scope (Unary unary.Minus at operand) wants m =
      let n = (site kind.Arithmetic at m).1 in
      let x = settled operand (form_in scope false operand) n in
      grows_then (site_grows kind.Arithmetic at m)
      (grows_then (settle_grows (value_of operand) (form_in scope false operand) (form_grows scope operand false) n) (number_of_grows (beginning_of operand) x.0 x.1))
  form_grows scope (Unary unary.Plus at operand) wants m =
      let x = settled operand (form_in scope false operand) m in
      grows_then (settle_grows (value_of operand) (form_in scope false operand) (form_grows scope operand false) m) (number_of_grows (beginning_of operand) x.0 x.1)
  form_grows scope (Unary unary.Not at operand) wants m =
      let x = settled operand (form_in scope false operand) m in
      grows_then (settle_grows (value_of operand) (form_in scope false operand) (form_grows scope operand false) m) (condition_of_grows (beginning_of operand) x.0 x.1)
  form_grows scope (Cast at to operand) wants m =
      let x = settled operand (form_in scope false operand) m in
      grows_then (settle_grows (value_of operand) (form_in scope false operand) (form_grows scope operand false) m) (number_of_grows (beginning_of operand) x.0 x.1)
  form_grows scope (Number at z) wants m = grows_none m
  form_grows scope (Scalar at name) wants m = named_grows scope name m
  form_grows scope (Element at name bracket index) wants m =
      let a = (array_at scope name name.at m).1 in
      let n = (site kind.Index bracket a).1 in
      let x = settled index (form_in scope false index) n in
      grows_then (array_at_grows scope name name.at m) (grows_then (site_grows kind.Index bracket a)
      (grows_then (settle_grows (value_of index) (form_in scope false index) (form_grows scope index false) n) (number_of_grows (beginning_of index) x.0 x.1)))
  form_grows scope (Pointed at star name) wants m = pointed_value_grows scope star name m
  form_grows scope (Member at object) wants m = grows_none m
  form_grows scope (Call name arguments) wants m =
      called_by_grows scope name arguments (λ op. operands_in scope op [] arguments) (λ slots. passed_in scope slots [] arguments)
      (λ op n. operands_grows scope op [] arguments n) (λ slots n. passed_grows scope slots [] arguments n) (meaning_of name.name scope) m
  form_grows scope (Parenthesis at inner) wants m = settle_grows (value_of inner) (form_in scope wants inner) (form_grows scope inner wants) m
  form_grows scope (AddressOf at name) wants m = address_grows scope at name m
  form_grows scope (AddressOfElement at name bracket index) wants m =
      let b = begin_part scope at name bracket m in
      let x = settled index (form_in scope false index) b.1 in
      grows_then (begin_part_grows scope at name bracket m)
      (grows_then (settle_grows (value_of index) (form_in scope false index) (form_grows scope index false) b.1) (part_value_grows (beginning_of index) b.0 x.0 x.1))
  form_grows scope (AddressOfOther at object) wants m = grows_none m

  disjunction_grows : (scope : Scope) (left : Condition) (others : List Condition) (parts : Parts) (m : Marks) → Grows m (disjunction_in scope left others parts m).1
  disjunction_grows scope left others End m = grows_none m
  disjunction_grows scope left others (Part mark at operand rest) m =
      let x = settled operand (form_in scope false operand) m in
      let c = condition_of (beginning_of operand) x.0 x.1 in
      grows_then (settle_grows (value_of operand) (form_in scope false operand) (form_grows scope operand false) m)
      (grows_then (condition_of_grows (beginning_of operand) x.0 x.1) (disjunction_grows scope left (others ++ c.0 ∷ []) rest c.1))

  conjunction_grows : (scope : Scope) (left : Condition) (others : List Condition) (parts : Parts) (m : Marks) → Grows m (conjunction_in scope left others parts m).1
  conjunction_grows scope left others End m = grows_none m
  conjunction_grows scope left others (Part mark at operand rest) m =
      let x = settled operand (form_in scope false operand) m in
      let c = condition_of (beginning_of operand) x.0 x.1 in
      grows_then (settle_grows (value_of operand) (form_in scope false operand) (form_grows scope operand false) m)
      (grows_then (condition_of_grows (beginning_of operand) x.0 x.1) (conjunction_grows scope left (others ++ c.0 ∷ []) rest c.1))

  comparison_grows : (scope : Scope) (at : Position) (left : Expr) (seen : Bool) (mark : Comparison) (right : Expr) (parts : Parts) (m : Marks) → Grows m (comparison_in scope at left seen mark right parts m).1
  comparison_grows scope at left seen mark right End m = grows_none m
  comparison_grows scope at left seen mark right (Part next here operand rest) m =
      let n = again seen at m in
      let x = settled operand (form_in scope false operand) n in
      let c = number_of (beginning_of operand) x.0 x.1 in
      grows_then (again_grows seen at m) (grows_then (settle_grows (value_of operand) (form_in scope false operand) (form_grows scope operand false) n)
      (grows_then (number_of_grows (beginning_of operand) x.0 x.1) (comparison_grows scope at left true (comparison_of next) c.0 rest c.1)))

  links_grows : (scope : Scope) (lost : Bool) (left : Expr) (links : List (Link Expr)) (parts : Parts) (m : Marks) → Grows m (links_in scope lost left links parts m).1
  links_grows scope lost left links End m = grows_none m
  links_grows scope lost left links (Part mark at operand rest) m =
      let here = link_site mark (value_of operand) at m in
      let x = settled operand (form_in scope false operand) here.1 in
      let c = number_of (beginning_of operand) x.0 x.1 in
      grows_then (link_site_grows mark (value_of operand) at m) (grows_then (settle_grows (value_of operand) (form_in scope false operand) (form_grows scope operand false) here.1)
      (grows_then (number_of_grows (beginning_of operand) x.0 x.1) (links_grows scope lost left _ rest c.1)))

  offset_grows : (scope : Scope) (sight : Sight) (parts : Parts) (m : Marks) → Grows m (offset_in scope sight parts m).1
  offset_grows scope sight End m = grows_none m
  offset_grows scope sight (Part mark at operand rest) m =
      let n = (site kind.View at m).1 in
      let x = settled operand (form_in scope false operand) n in
      grows_then (site_grows kind.View at m)
      (grows_then (settle_grows (value_of operand) (form_in scope false operand) (form_grows scope operand false) n) (number_of_grows (beginning_of operand) x.0 x.1))

  operands_grows : (scope : Scope) (op : Op) (found : List (Converted Expr)) (sources : Sources) (m : Marks) → Grows m (operands_in scope op found sources m).1
  operands_grows scope op found NoSource m = grows_none m
  operands_grows scope op found (More source rest) m =
      let n = argument_narrowing_in scope source (width_at op (length found)) m in
      let x = settled source (form_in scope false source) n.1 in
      let c = number_of (beginning_of source) x.0 x.1 in
      grows_then (argument_narrowing_grows scope source (width_at op (length found)) m) (grows_then (settle_grows (value_of source) (form_in scope false source) (form_grows scope source false) n.1)
      (grows_then (number_of_grows (beginning_of source) x.0 x.1) (operands_grows scope op _ rest c.1)))

  passed_grows : (scope : Scope) (slots : List Slot) (found : List (Passed Expr)) (sources : Sources) (m : Marks) → Grows m (passed_in scope slots found sources m).1
  passed_grows scope slots found NoSource m = grows_none m
  passed_grows scope slots found (More source rest) m =
      let slot = slice_get slots (length found) in
      let n = passed_narrowing_in scope source slot m in
      let x = settled source (form_in scope (takes_view slot) source) n.1 in
      let c = passed_of (beginning_of source) slot n.0 x.0 x.1 in
      grows_then (passed_narrowing_grows scope source slot m) (grows_then (settle_grows (value_of source) (form_in scope (takes_view slot) source) (form_grows scope source (takes_view slot)) n.1)
      (grows_then (passed_of_grows (beginning_of source) slot n.0 x.0 x.1) (passed_grows scope slots _ rest c.1)))

-- ---- the laws

pub expressions_grow : (scope : Scope) (source : Source) (wants : Bool) (m : Marks) → Grows m (settled source (form_in scope wants source) m).1
expressions_grow scope source wants m = settle_grows (value_of source) (form_in scope wants source) (form_grows scope source wants) m

pub numbers_grow : (scope : Scope) (expression : Expression) (m : Marks) → Grows m (number_in scope expression m).1
unfolding number_in
numbers_grow scope expression m =
    let source = source_of expression in
    let x = settled source (form_in scope false source) m in
    grows_then (expressions_grow scope source false m) (number_of_grows (beginning_of source) x.0 x.1)

pub conditions_grow : (scope : Scope) (expression : Expression) (m : Marks) → Grows m (condition_in scope expression m).1
unfolding condition_in
conditions_grow scope expression m =
    let source = source_of expression in
    let x = settled source (form_in scope false source) m in
    grows_then (expressions_grow scope source false m) (condition_of_grows (beginning_of source) x.0 x.1)

pub calls_grow : (scope : Scope) (call : Written Expression) (m : Marks) → Grows m (call_in scope call m).1
unfolding call_in
calls_grow scope call m =
    let arguments = written_sources call.arguments in
    called_by_grows scope call.name arguments (λ op. operands_in scope op [] arguments) (λ slots. passed_in scope slots [] arguments)
    (λ op n. operands_grows scope op [] arguments n) (λ slots n. passed_grows scope slots [] arguments n) (meaning_of call.name.name scope) m
