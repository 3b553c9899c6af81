-- The reading of an expression. Each part is read in the order of its tokens.
use Rattle.std.specs.Prelude.{ℕ, ℤ, pos, Bool, true, false, if◌then◌else◌, ◌==◌, List, [], ◌∷◌, ◌++◌, length, Option, Some, None, slice_get}
use Rattle.std.specs.Ordering.{int_eq}
use Rattle.wm_lang.specs.declared.expression.Expr.{Expr as Written}
use Rattle.wm_lang.specs.declared.expression.Identifier.{Identifier}
use Rattle.wm_lang.specs.declared.expression.UnaryMark.{UnaryMark}
use Rattle.wm_lang.specs.declared.expression.UnaryMark.TheVariants as unary
use Rattle.wm_lang.specs.declared.place.Position.{Position}
use Rattle.wm_ops.specs.Operators.{arity_of}
use Rattle.wm_ops.specs.declared.operators.Op.{Op}
use Rattle.wm_ops.specs.declared.operators.Width.{Width}
use Rattle.wm_ops.specs.declared.words.CountCall.{CountCall}
use Rattle.wm_program.specs.declared.program.SiteKind.TheVariants as site
use Rattle.wm_program.specs.declared.tree.Array.{Array}
use Rattle.wm_program.specs.declared.tree.Call.{Call as Invocation}
use Rattle.wm_program.specs.declared.tree.Comparison.{Comparison}
use Rattle.wm_program.specs.declared.tree.Comparison.TheVariants as comparison
use Rattle.wm_program.specs.declared.tree.Condition.{Condition}
use Rattle.wm_program.specs.declared.tree.Condition.TheVariants as c
use Rattle.wm_program.specs.declared.tree.Converted.{Converted}
use Rattle.wm_program.specs.declared.tree.Expr.{Expr}
use Rattle.wm_program.specs.declared.tree.Expr.TheVariants as e
use Rattle.wm_program.specs.declared.tree.Link.{Link}
use Rattle.wm_program.specs.declared.tree.Passed.{Passed}
use Rattle.wm_program.specs.declared.tree.PlainMark.{PlainMark}
use Rattle.wm_program.specs.declared.tree.PlainMark.TheVariants as plain
use Rattle.wm_program.specs.declared.tree.Simple.TheVariants as simple
use Rattle.wm_scope.specs.declared.fault.TokenFault.TheVariants.{UnknownName, WrongKind, WrongCount, NotConstant}
use Rattle.wm_scope.specs.declared.meaning.Meaning.{Meaning}
use Rattle.wm_scope.specs.declared.meaning.Meaning.TheVariants as meaning
use Rattle.wm_scope.specs.declared.scope.Scope.{Scope}
use Rattle.wm_scope.specs.declared.scope.Slot.{Slot}
use Rattle.wm_scope.specs.Scopes.{meaning_of, offset_of, slots_of, result_of}
use Rattle.wm_source.specs.Constants.{width_of as type_width, value_of}
use Rattle.wm_source.specs.Firsts.{beginning_of}
use Rattle.wm_source.specs.Reading.{source_of}
use Rattle.wm_source.specs.Source.{Mark, Either, Both, Equal, NotEqual, Less, LessEqual, Greater, GreaterEqual, Plus, Minus, Times, Divide, Level, Disjunction, Conjunction, Comparisons, Sums, Products, Source, Chain, Unary, Cast, Number as Numeral, Scalar as Name, Element, Pointed, Member, Call, Parenthesis, AddressOf, AddressOfElement, AddressOfOther, Parts, End, Part, Sources, None as NoSource, More}
use Rattle.wm_marks.specs.declared.marks.Marks.{Marks}
use Rattle.wm_marks.specs.Marking.{Marking, ◌>>=◌, ◌>>◌, ◌<$>◌, pure, noted, note, site as site_at, called}
use Rattle.wm_value.specs.declared.form.Sight.{Sight}
use Rattle.wm_value.specs.declared.form.Head.{Head}
use Rattle.wm_value.specs.declared.form.Head.TheVariants as head
use Rattle.wm_value.specs.declared.form.Value.{Value}
use Rattle.wm_value.specs.declared.form.Value.TheVariants.{Number, Truth, View as Seen, LostView, Function, Effect, Nothing}
use Rattle.wm_value.specs.Kinds.{no_number, number_of, condition_of, passed_of, named, array_at, pointed_at, address, part_of, begin_part, part_value}
use Rattle.wm_value.specs.Widths.{argument_narrowing_in, passed_narrowing_in, width_at, takes_view, head_of, handed_in}

-- a constant expression stands for its value
abbrev pub settle : Option ℤ → Marking Value → Marking Value
settle None form = form
settle (Some z) form = pure (Number (e.Constant z))

abbrev pub settled : Source → Marking Value → Marking Value
settled source form = settle (value_of source) form

-- ---- marks

abbrev pub comparison_of : Mark → Comparison
comparison_of Less = comparison.Less
comparison_of LessEqual = comparison.LessEqual
comparison_of Greater = comparison.Greater
comparison_of GreaterEqual = comparison.GreaterEqual
comparison_of Equal = comparison.Equal
comparison_of NotEqual = comparison.NotEqual
comparison_of Plus = comparison.Equal
comparison_of Minus = comparison.Equal
comparison_of Times = comparison.Equal
comparison_of Divide = comparison.Equal
comparison_of Either = comparison.Equal
comparison_of Both = comparison.Equal

abbrev pub plain_of : Mark → PlainMark
plain_of Plus = plain.Plus
plain_of Minus = plain.Minus
plain_of Times = plain.Times
plain_of Divide = plain.Divide
plain_of Either = plain.Plus
plain_of Both = plain.Plus
plain_of Equal = plain.Plus
plain_of NotEqual = plain.Plus
plain_of Less = plain.Plus
plain_of LessEqual = plain.Plus
plain_of Greater = plain.Plus
plain_of GreaterEqual = plain.Plus

abbrev pub divided_by : Option ℤ → Position → Marks → Marks
divided_by None at m = noted NotConstant at m
divided_by (Some z) at m = if int_eq z (pos 0) then noted NotConstant at m else m

-- a divisor is a constant that is not 0
abbrev pub divided : Mark → Option ℤ → Position → Marks → Marks
divided Plus z at m = m
divided Minus z at m = m
divided Times z at m = m
divided Divide z at m = divided_by z at m
divided Either z at m = m
divided Both z at m = m
divided Equal z at m = m
divided NotEqual z at m = m
divided Less z at m = m
divided LessEqual z at m = m
divided Greater z at m = m
divided GreaterEqual z at m = m

unfoldable pub link_site : Mark → Option ℤ → Position → Marking ℕ
link_site mark z at = λ m. site_at site.Arithmetic at (divided mark z at m)

abbrev pub again : Bool → Position → Marks → Marks
again true at m = noted WrongKind at m
again false at m = m

-- a comparison that is compared again
abbrev pub compared_again : Bool → Position → Marking (Unit {0})
compared_again seen at = λ m. (tt, again seen at m)

-- `*p`
unfoldable pub pointed_value : Scope → Position → Identifier → Marking Value
pointed_value scope star name = pointed_at scope star name >>= λ found. pure (Number (e.Element found.0 no_number found.1))

-- ---- chains

abbrev pub chain_value : Bool → Expr → List (Link Expr) → Value
chain_value true first links = Nothing
chain_value false first links = Number (e.Chain first links)

abbrev pub chosen : Head → (Sight → Marking Value) → (Bool → Marking Value) → Marking Value
chosen head.Number view chain = chain false
chosen (head.Sight sight) view chain = view sight
chosen head.Nothing view chain = chain true

abbrev pub signed_by : UnaryMark → Position → Marking Expr → Marking Condition → Marking Value
signed_by unary.Minus at number condition =
    site_at site.Arithmetic at >>= λ here. (λ x. Number (e.Negate x here)) <$> number
signed_by unary.Plus at number condition = (λ x. Number (e.Plus x)) <$> number
signed_by unary.Not at number condition = (λ x. Truth (c.Not x)) <$> condition

-- ---- calls

abbrev pub miscounted : ℕ → ℕ → Position → Marks → Marks
miscounted found wanted at m = if found == wanted then m else noted WrongCount at m

abbrev pub counting : ℕ → ℕ → Position → Marking (Unit {0})
counting found wanted at = λ m. (tt, miscounted found wanted at m)

abbrev pub call_value : Option Width → Invocation Expr → Value
call_value None call = Effect (simple.Evaluate (e.Call call))
call_value (Some width) call = Number (e.Call call)

-- a call of a function is told before its arguments are read; it has this number among the calls
unfoldable pub begun_call : Scope → ℕ → Identifier → Sources → Marking ℕ
begun_call scope function name arguments =
    λ m. (offset_of (length m.calls) scope, (called (record { function = function; at = name.at; views = handed_in scope (slots_of function scope) 0 [] arguments }) m).1)

unfoldable pub operator_value : Op → Identifier → List (Converted Expr) → ℕ → Marking Value
operator_value op name found here =
    counting (length found) (arity_of op) name.at >> pure (Number (e.Operator op found here))

unfoldable pub counting_value : CountCall → Identifier → List (Passed Expr) → Marking Value
counting_value call name found = counting (length found) 0 name.at >> pure (Effect (simple.Count call))

unfoldable pub function_value : Scope → ℕ → Identifier → ℕ → List (Passed Expr) → Marking Value
function_value scope function name offset found =
    counting (length found) (length (slots_of function scope)) name.at
    >> pure (call_value (result_of function scope) (record { function = function; offset = offset; arguments = found }))

abbrev pub called_by : Scope → Identifier → Sources → (Op → Marking (List (Converted Expr))) → (List Slot → Marking (List (Passed Expr))) → Meaning → Marking Value
called_by scope name arguments operands passed (meaning.Operator op) =
    site_at (site.Operator op) name.at >>= λ here. operands op >>= λ found. operator_value op name found here
called_by scope name arguments operands passed (meaning.Counting call) =
    passed [] >>= λ found. counting_value call name found
called_by scope name arguments operands passed (meaning.Function function) =
    begun_call scope function name arguments >>= λ offset.
    passed (slots_of function scope) >>= λ found. function_value scope function name offset found
called_by scope name arguments operands passed (meaning.Scalar scalar width is_const) =
    note WrongKind name.at >> (passed [] >>= λ found. pure Nothing)
called_by scope name arguments operands passed (meaning.Array array width is_const) =
    note WrongKind name.at >> (passed [] >>= λ found. pure Nothing)
called_by scope name arguments operands passed meaning.Nothing =
    note UnknownName name.at >> (passed [] >>= λ found. pure Nothing)

-- ---- the reading

abbrev mutual
  pub form_in : Scope → Bool → Source → Marking Value
  form_in scope wants (Chain Disjunction at first parts) =
      settled first (form_in scope false first) >>= condition_of (beginning_of first) >>= λ left.
      disjunction_in scope left [] parts
  form_in scope wants (Chain Conjunction at first parts) =
      settled first (form_in scope false first) >>= condition_of (beginning_of first) >>= λ left.
      conjunction_in scope left [] parts
  form_in scope wants (Chain Comparisons at first parts) =
      settled first (form_in scope false first) >>= number_of (beginning_of first) >>= λ left.
      comparison_in scope at left false comparison.Equal no_number parts
  form_in scope wants (Chain Sums at first parts) =
      chosen (head_of scope wants first parts)
      (λ sight. offset_in scope sight parts)
      (λ lost. settled first (form_in scope false first) >>= number_of (beginning_of first) >>= λ left. links_in scope lost left [] parts)
  form_in scope wants (Chain Products at first parts) =
      settled first (form_in scope false first) >>= number_of (beginning_of first) >>= λ left.
      links_in scope false left [] parts
  form_in scope wants (Unary mark at operand) =
      signed_by mark at
      (settled operand (form_in scope false operand) >>= number_of (beginning_of operand))
      (settled operand (form_in scope false operand) >>= condition_of (beginning_of operand))
  form_in scope wants (Cast at to operand) =
      (λ x. Number (e.Cast (type_width to) x)) <$> (settled operand (form_in scope false operand) >>= number_of (beginning_of operand))
  form_in scope wants (Numeral at z) = pure (Number (e.Constant z))
  form_in scope wants (Name at name) = named scope name
  form_in scope wants (Element at name bracket index) =
      array_at scope name name.at >>= λ array. site_at site.Index bracket >>= λ here.
      settled index (form_in scope false index) >>= number_of (beginning_of index) >>= λ x. pure (Number (e.Element array x here))
  form_in scope wants (Pointed at star name) = pointed_value scope star name
  form_in scope wants (Member at object) = pure Nothing
  form_in scope wants (Call name arguments) =
      called_by scope name arguments (λ op. operands_in scope op [] arguments) (λ slots. passed_in scope slots [] arguments) (meaning_of name.name scope)
  form_in scope wants (Parenthesis at inner) = settled inner (form_in scope wants inner)
  form_in scope wants (AddressOf at name) = address scope at name
  form_in scope wants (AddressOfElement at name bracket index) =
      begin_part scope at name bracket >>= λ begun. settled index (form_in scope false index) >>= part_value (beginning_of index) begun
  form_in scope wants (AddressOfOther at object) = pure Nothing

  pub disjunction_in : Scope → Condition → List Condition → Parts → Marking Value
  disjunction_in scope left others End = pure (Truth (c.Or left others))
  disjunction_in scope left others (Part mark at operand rest) =
      settled operand (form_in scope false operand) >>= condition_of (beginning_of operand) >>= λ x.
      disjunction_in scope left (others ++ x ∷ []) rest

  pub conjunction_in : Scope → Condition → List Condition → Parts → Marking Value
  conjunction_in scope left others End = pure (Truth (c.And left others))
  conjunction_in scope left others (Part mark at operand rest) =
      settled operand (form_in scope false operand) >>= condition_of (beginning_of operand) >>= λ x.
      conjunction_in scope left (others ++ x ∷ []) rest

  -- whether a side was read already, and the last mark and side
  pub comparison_in : Scope → Position → Expr → Bool → Comparison → Expr → Parts → Marking Value
  comparison_in scope at left seen mark right End = pure (Truth (c.Compare left mark right))
  comparison_in scope at left seen mark right (Part next here operand rest) =
      compared_again seen at
      >> (settled operand (form_in scope false operand) >>= number_of (beginning_of operand) >>= λ x.
      comparison_in scope at left true (comparison_of next) x rest)

  pub links_in : Scope → Bool → Expr → List (Link Expr) → Parts → Marking Value
  links_in scope lost left links End = pure (chain_value lost left links)
  links_in scope lost left links (Part mark at operand rest) =
      link_site mark (value_of operand) at >>= λ here.
      settled operand (form_in scope false operand) >>= number_of (beginning_of operand) >>= λ x.
      links_in scope lost left (links ++ (record { mark = plain_of mark; site = here; operand = x }) ∷ []) rest

  -- the part of an array from an index on, which is the one part of a sum
  pub offset_in : Scope → Sight → Parts → Marking Value
  offset_in scope sight End = pure LostView
  offset_in scope sight (Part mark at operand rest) =
      site_at site.View at >>= λ here.
      settled operand (form_in scope false operand) >>= number_of (beginning_of operand) >>= λ x. pure (part_of (Some sight) x here)

  pub operands_in : Scope → Op → List (Converted Expr) → Sources → Marking (List (Converted Expr))
  operands_in scope op found NoSource = pure found
  operands_in scope op found (More source rest) =
      argument_narrowing_in scope source (width_at op (length found)) >>= λ narrowing.
      settled source (form_in scope false source) >>= number_of (beginning_of source) >>= λ x.
      operands_in scope op (found ++ (record { value = x; narrowing = narrowing }) ∷ []) rest

  pub passed_in : Scope → List Slot → List (Passed Expr) → Sources → Marking (List (Passed Expr))
  passed_in scope slots found NoSource = pure found
  passed_in scope slots found (More source rest) =
      passed_narrowing_in scope source (slice_get slots (length found)) >>= λ narrowing.
      settled source (form_in scope (takes_view (slice_get slots (length found))) source)
      >>= passed_of (beginning_of source) (slice_get slots (length found)) narrowing >>= λ x.
      passed_in scope slots (found ++ x ∷ []) rest

-- an expression, where a view is wanted or not
abbrev pub value_in : Scope → Bool → Written → Marking Value
value_in scope wants expression = settled (source_of expression) (form_in scope wants (source_of expression))
