-- Calls, their arguments, and the links of a chain.
use Rattle.std.proofs.Common.{◌≡◌, ℕ, zero, suc, ◌<◌, Bool, true, false, cond, Option, Some, None, List, [], ◌∷◌, ◌++◌, length, map, ℤ, pos, refl, sym, ap, subst, ◌∙◌, arith}
use Rattle.std.proofs.lemmas.Bool.Decides.{nat_tests}
use Rattle.std.specs.Prelude.{slice_get, if◌then◌else◌, IsSomeAnd, ◌==◌}
use Rattle.std.specs.Option.{option_map_or, option_map}
use Rattle.std.specs.Ordering.{int_eq}
use Rattle.wm_lang.specs.declared.expression.Identifier.{Identifier}
use Rattle.wm_lang.specs.declared.place.Position.{Position}
use Rattle.wm_ops.specs.Operators.{arg_widths_of, arity_of}
use Rattle.wm_ops.specs.declared.operators.Op.{Op}
use Rattle.wm_ops.specs.declared.operators.Width.{Width}
use Rattle.wm_ops.specs.declared.operators.Width.TheVariants.{W32}
use Rattle.wm_program.specs.declared.program.SiteKind.TheVariants as kind
use Rattle.wm_program.specs.declared.tree.Converted.{Converted}
use Rattle.wm_program.specs.declared.tree.Expr.{Expr}
use Rattle.wm_program.specs.declared.tree.Expr.TheVariants as e
use Rattle.wm_program.specs.declared.tree.Passed.{Passed}
use Rattle.wm_program.specs.declared.tree.Passed.TheVariants as passed
use Rattle.wm_program.specs.declared.tree.View.{View}
use Rattle.wm_program.specs.declared.tree.View.TheVariants as view
use Rattle.wm_program.specs.Code.{routine_at}
use Rattle.wm_program.specs.Tree.{Invoke}
use Rattle.wm_program.specs.Trees.{expression_of}
use Rattle.wm_program.specs.WellFormed.{IsSite, Slot, goes_down, FitsNarrowing, FitsDivisor, FitsDropped, slot_of_width, operator_slots, routine_slots}
use Rattle.wm_source.specs.Constants.{value_of}
use Rattle.wm_source.specs.Source.{Mark, Divide, Source, Sources}
use Rattle.wm_scope.specs.declared.fault.TokenFault.TheVariants.{UnknownName, WrongKind, WrongCount, NotConstant}
use Rattle.wm_scope.specs.declared.meaning.Meaning.{Meaning}
use Rattle.wm_scope.specs.declared.meaning.Meaning.TheVariants as meaning
use Rattle.wm_scope.specs.declared.reading.CallPlace.{CallPlace}
use Rattle.wm_scope.specs.declared.scope.Slot.{Slot as Parameter}
use Rattle.wm_scope.specs.Scopes.{slots_of, result_of}
use Rattle.wm_marks.specs.declared.marks.Marks.{Marks}
use Rattle.wm_marks.specs.Marking.{Marking, pure, noted, site as site_at}
use Rattle.wm_value.specs.declared.form.Sight.{Sight}
use Rattle.wm_value.specs.declared.form.Value.{Value}
use Rattle.wm_value.specs.declared.form.Value.TheVariants.{Number, Truth, View as Seen, LostView, Function, Effect, Nothing}
use Rattle.wm_value.specs.Kinds.{no_view, wrong, fits, number_of, view_of, passed_by, passed_of}
use Rattle.wm_value.specs.Values.{plain_of, link_site, again, miscounted, call_value, begun_call, operator_value, counting_value, function_value, called_by}
use Rattle.wm_value.specs.Widths.{is_operator, width_or, call_width, width_at, narrows, takes_view, passed_narrowing_in, argument_narrowing_in, carries, handed_in}
use Rattle.wm_value.specs.Values.{settled}
use Rattle.wm_fitting.specs.Fitting.{Setting, FunctionFits, MeaningFits, Good, FitsNumber, FitsView, FitsAs, slot_seen}
use Rattle.wm_fitting.proofs.Collecting.{chain, done, faulty, grows_then, site_fits}
use Rattle.wm_fitting.proofs.Folds.{of_constant, of_call, handed_of}
use Rattle.wm_fitting.proofs.Forms.{falls, as_number, number_operator, arity_told, OperandFits, OperandsFit, PassedFits, AllPassedFit, passed_all}
use Rattle.wm_fitting.proofs.Naming.{also, FitsSlot, number_fits, fits_alike, seen_slot}
use Rattle.wm_fitting.proofs.Ranges.{none_some}
use Rattle.wm_fitting.proofs.Settling.{FitsForm, FitsSettled, settle_fits, ArgumentFits, argument_fits, NarrowsNext, narrows_then, site_next}

-- ---- the links of a chain

-- a divisor is a constant that is not 0
abbrev pub Divides : Mark → Option ℤ → Type 0
Divides Divide None = ⊥
Divides Divide (Some z) = int_eq z (pos 0) ≡ false
Divides _ o = Unit {0}

pub record LinkTold (S : Setting) (mark : Mark) (o : Option ℤ) (number : ℕ) : Type 0 where
  pub site : IsSite S.code number kind.Arithmetic
  pub divides : Divides mark o

divide_by : (S : Setting) (z : ℤ) (at : Position) (m : Marks) (b : Bool) → int_eq z (pos 0) ≡ b → Good S (LinkTold S Divide (Some z)) m (site_at kind.Arithmetic at (cond b (noted NotConstant at m) m))
divide_by S z at m true h = chain (faulty {A = Unit {0}} {Q = λ u. ⊥} {a = tt} NotConstant at m) (also (site_fits S kind.Arithmetic at (noted NotConstant at m)) (λ k s b. absurd b))
divide_by S z at m false h = also (site_fits S kind.Arithmetic at m) (λ k s. record { site = s; divides = h })

pub link_fits : (S : Setting) (mark : Mark) (o : Option ℤ) (at : Position) (m : Marks) → Good S (LinkTold S mark o) m (link_site mark o at m)
unfolding link_site
link_fits S Divide None at m = chain (faulty {A = Unit {0}} {Q = λ u. ⊥} {a = tt} NotConstant at m) (also (site_fits S kind.Arithmetic at (noted NotConstant at m)) (λ k s b. absurd b))
link_fits S Divide (Some z) at m = divide_by S z at m (int_eq z (pos 0)) refl
link_fits S _ o at m = also (site_fits S kind.Arithmetic at m) (λ k s. record { site = s; divides = tt })

divisor_by : (S : Setting) (o : Option ℤ) (x : Expr) → Divides Divide o → ((z : ℤ) → o ≡ Some z → x ≡ e.Constant z) → FitsDivisor S.code S.routine (plain_of Divide) (expression_of x)
divisor_by S None x d k = absurd d
divisor_by S (Some z) x d k = (z, ap expression_of (k z refl) ∙ of_constant z, d)

pub divisor_fits : (S : Setting) (mark : Mark) (o : Option ℤ) (x : Expr) → Divides mark o → ((z : ℤ) → o ≡ Some z → x ≡ e.Constant z) → FitsDivisor S.code S.routine (plain_of mark) (expression_of x)
divisor_fits S Divide o x d k = divisor_by S o x d k
divisor_fits S _ o x d k = tt

pub again_fits : (S : Setting) (seen : Bool) (at : Position) (m : Marks) → Good {A = Unit {0}} S (λ u. Unit {0}) m (tt, again seen at m)
again_fits S true at m = faulty WrongKind at m
again_fits S false at m = done tt

-- ---- operands

slot_told : (ws : List Width) (k : ℕ) (slot : Slot) → slice_get (map slot_of_width ws) k ≡ Some slot → slot ≡ slot_of_width (width_or (slice_get ws k))
slot_told [] k slot h = cc
slot_told (w ∷ ws) zero slot h = cc
slot_told (w ∷ ws) (suc k) slot h = slot_told ws k slot h

operand_here : (S : Setting) (narrow : Width → Bool) (width : Width) (x : Expr) (narrowing : Option ℕ) → FitsNumber S narrow x → FitsNarrowing S.code S.routine (narrow width) narrowing → OperandFits S (record { value = x; narrowing = narrowing }) (slot_of_width width)
operand_here S narrow width x narrowing f h = record {
  value = refl;
  fits = f.fits;
  narrowing = subst (λ b. FitsNarrowing S.code S.routine b narrowing) (sym (f.needs width)) h;
}

pub operand_at : (S : Setting) (op : Op) (k : ℕ) (narrow : Width → Bool) (x : Expr) (narrowing : Option ℕ) → FitsNumber S narrow x → FitsNarrowing S.code S.routine (narrow (width_at op k)) narrowing → (slot : Slot) → slice_get (operator_slots op) k ≡ Some slot → OperandFits S (record { value = x; narrowing = narrowing }) slot
unfolding width_at
operand_at S op k narrow x narrowing f h slot i =
    subst (λ slot. OperandFits S (record { value = x; narrowing = narrowing }) slot) (sym (slot_told (arg_widths_of op) k slot i)) (operand_here S narrow (width_or (slice_get (arg_widths_of op) k)) x narrowing f h)

-- ---- what is handed to a function

-- what is known of what goes to a slot: of a view what it is, of a value its conversion too
abbrev pub GoesFits : Setting → Source → Width → Bool → Option ℕ → Value → Type 0
GoesFits S source width true narrowing v = FitsSettled S source v
GoesFits S source width false narrowing v = ArgumentFits S source width narrowing v

abbrev pub GivenFits : Setting → Source → Option Parameter → Option ℕ → Value → Type 0
GivenFits S source None narrowing v = FitsSettled S source v
GivenFits S source (Some slot) narrowing v = GoesFits S source slot.width slot.is_view narrowing v

given_by : (S : Setting) (source : Source) (width : Width) (b : Bool) (form : Bool → Marking Value) (m : Marks) → (carries S.scope source ≡ true → value_of source ≡ None) → ((wants : Bool) (n : Marks) → value_of source ≡ None → Good S (FitsForm S source) n (form wants n)) → ((n : Marks) (at : Position) → n.waiting ≡ Some at → carries S.scope source ≡ true → NarrowsNext n (form false n).1) → Good S (GoesFits S source width b (if◌then◌else◌ {A = Marking (Option ℕ)} b (pure None) (argument_narrowing_in S.scope source width) m).0) m (settled source (form b) (if◌then◌else◌ {A = Marking (Option ℕ)} b (pure None) (argument_narrowing_in S.scope source width) m).1)
given_by S source width true form m none good next = settle_fits S source (form true) m (good true m)
given_by S source width false form m none good next = argument_fits S source width (form false) m none (good false) next

pub given_fits : (S : Setting) (source : Source) (o : Option Parameter) (form : Bool → Marking Value) (m : Marks) → (carries S.scope source ≡ true → value_of source ≡ None) → ((wants : Bool) (n : Marks) → value_of source ≡ None → Good S (FitsForm S source) n (form wants n)) → ((n : Marks) (at : Position) → n.waiting ≡ Some at → carries S.scope source ≡ true → NarrowsNext n (form false n).1) → Good S (GivenFits S source o (passed_narrowing_in S.scope source o m).0) m (settled source (form (takes_view o)) (passed_narrowing_in S.scope source o m).1)
unfolding passed_narrowing_in
given_fits S source None form m none good next = settle_fits S source (form false) m (good false m)
given_fits S source (Some slot) form m none good next = given_by S source slot.width slot.is_view form m none good next

view_by : (S : Setting) (at : Position) (slot : Parameter) (v : View Expr) (sight : Sight) (m : Marks) (b : Bool) → fits sight slot ≡ b → Good S (λ x. FitsView S v sight → FitsSlot S x slot.width) m (if◌then◌else◌ {A = Marking (View Expr)} b (pure v) (wrong no_view at) m)
view_by S at slot v sight m true h = done (seen_slot S v sight slot.width (fits_alike sight slot h))
view_by S at slot v sight m false h = faulty WrongKind at m

view_fits : (S : Setting) (narrow : Width → Bool) (at : Position) (slot : Parameter) (v : Value) (m : Marks) → Good S (λ x. FitsAs S narrow v → FitsSlot S x slot.width) m (view_of at slot v m)
view_fits S narrow at slot (Number x) m = faulty WrongKind at m
view_fits S narrow at slot (Truth condition) m = faulty WrongKind at m
view_fits S narrow at slot (Seen v sight) m = view_by S at slot v sight m (fits sight slot) refl
view_fits S narrow at slot LostView m = done (λ f. absurd f)
view_fits S narrow at slot Function m = faulty WrongKind at m
view_fits S narrow at slot (Effect effect) m = faulty WrongKind at m
view_fits S narrow at slot Nothing m = done (λ f. absurd f)

view_passed : (S : Setting) (slot : Parameter) (v : View Expr) → slot.is_view ≡ true → FitsSlot S v slot.width → PassedFits S (passed.View v) (slot_seen slot)
view_passed S slot (view.Whole array) h f = (h, f.0, f.1)
view_passed S slot (view.From array index site) h f = (h, f.0, f.1, f.2, f.3)

value_passed : (S : Setting) (source : Source) (slot : Parameter) (narrowing : Option ℕ) (v : Value) (x : Expr) → slot.is_view ≡ false → FitsNumber S (narrows S.scope source) x → ArgumentFits S source slot.width narrowing v → OperandFits S (record { value = x; narrowing = narrowing }) (slot_seen slot)
value_passed S source slot narrowing v x h f a = record {
  value = h;
  fits = f.fits;
  narrowing = subst (λ b. FitsNarrowing S.code S.routine b narrowing) (sym (f.needs slot.width)) a.narrowing;
}

passed_by_fits : (S : Setting) (source : Source) (at : Position) (slot : Parameter) (narrowing : Option ℕ) (v : Value) (m : Marks) (b : Bool) → slot.is_view ≡ b → Good S (λ x. GoesFits S source slot.width b narrowing v → PassedFits S x (slot_seen slot)) m (passed_by b at slot narrowing v m)
passed_by_fits S source at slot narrowing v m true h = chain (view_fits S (narrows S.scope source) at slot v m) (done (λ f g. view_passed S slot (view_of at slot v m).0 h (f g.fits)))
passed_by_fits S source at slot narrowing v m false h = chain (number_fits S (narrows S.scope source) at v m) (done (λ f g. value_passed S source slot narrowing v (number_of at v m).0 h (f (g.value).fits) g))

same_slot : (S : Setting) (x : Passed Expr) (one other : Slot) → ◌≡◌ {A = Option Slot} (Some one) (Some other) → PassedFits S x one → PassedFits S x other
same_slot S x one other h f = let k : one ≡ other = cc in subst (PassedFits S x) k f

pub passed_fits : (S : Setting) (source : Source) (at : Position) (o : Option Parameter) (narrowing : Option ℕ) (v : Value) (m : Marks) → Good S (λ x. GivenFits S source o narrowing v → (slot : Slot) → option_map slot_seen o ≡ Some slot → PassedFits S x slot) m (passed_of at o narrowing v m)
unfolding passed_of
passed_fits S source at None narrowing v m = done (λ f slot h. absurd (none_some slot h))
passed_fits S source at (Some slot) narrowing v m = also (passed_by_fits S source at slot narrowing v m slot.is_view refl) (λ x f g other h. same_slot S x (slot_seen slot) other h (f g))

pub seen_at : (slots : List Parameter) (k : ℕ) → slice_get (map slot_seen slots) k ≡ option_map slot_seen (slice_get slots k)
seen_at [] k = refl
seen_at (slot ∷ slots) zero = refl
seen_at (slot ∷ slots) (suc k) = seen_at slots k

-- ---- calls

equal : (a b : ℕ) → (a == b) ≡ true → a ≡ b
equal a b h = grind (arith, nat_tests)

counting_by : (S : Setting) (found wanted : ℕ) (at : Position) (m : Marks) (b : Bool) → (found == wanted) ≡ b → Good {A = Unit {0}} S (λ u. found ≡ wanted) m (tt, cond b m (noted WrongCount at m))
counting_by S found wanted at m true h = done (equal found wanted h)
counting_by S found wanted at m false h = faulty WrongCount at m

counting_fits : (S : Setting) (found wanted : ℕ) (at : Position) (m : Marks) → Good {A = Unit {0}} S (λ u. found ≡ wanted) m (tt, miscounted found wanted at m)
counting_fits S found wanted at m = counting_by S found wanted at m (found == wanted) refl

length_map : {A B : Type 0} (f : A → B) (xs : List A) → length (map f xs) ≡ length xs
length_map f [] = refl
length_map f (x ∷ xs) = ap suc (length_map f xs)

as_many : (S : Setting) (function : ℕ) → FunctionFits S function → length (slots_of function S.scope) ≡ length (routine_slots (routine_at S.code function))
as_many S function F = sym (length_map slot_seen (slots_of function S.scope)) ∙ ap length F.slots

call_fits : (S : Setting) (function offset : ℕ) (found : List (Passed Expr)) (o : Option Width) → (routine_at S.code function).result ≡ o → FunctionFits S function → 0 < offset → length found ≡ length (slots_of function S.scope) → AllPassedFit S found (routine_slots (routine_at S.code function)) → FitsAs S (falls S (width_or o)) (call_value o (record { function = function; offset = offset; arguments = found }))
call_fits S function offset found None r F h l a =
    subst (λ y. FitsDropped S.code S.routine y) (sym (of_call (record { function = function; offset = offset; arguments = found })))
    ((F.there, h), passed_all S found (routine_slots (routine_at S.code function)) (l ∙ as_many S function F) a)
call_fits S function offset found (Some width) r F h l a =
    as_number S (falls S width) (e.Call (record { function = function; offset = offset; arguments = found })) (Invoke function offset (handed_of found)) (of_call (record { function = function; offset = offset; arguments = found }))
    ((F.there, h), subst (λ o. IsSomeAnd o (λ w. Unit {0})) (sym r) tt, passed_all S found (routine_slots (routine_at S.code function)) (l ∙ as_many S function F) a)
    (λ to. ap (λ o. goes_down S.code S.routine (option_map_or (λ w. w) o W32) to) r)

length_with : {X : Type 0} (xs : List X) (x : X) → length (xs ++ x ∷ []) ≡ suc (length xs)
length_with [] x = refl
length_with (y ∷ xs) x = ap suc (length_with xs x)

begun_fits : (S : Setting) (function : ℕ) (name : Identifier) (arguments : Sources) (m : Marks) → Good S (λ offset. 0 < offset) m (begun_call S.scope function name arguments m)
unfolding begun_call
begun_fits S function name arguments m =
    let place : CallPlace = record { function = function; at = name.at; views = handed_in S.scope (slots_of function S.scope) 0 [] arguments } in
    let one = length_with m.calls place in
    record {
      grows = record {
        sites = λ k it h. h;
        loops = refl;
        objects = λ k h. h;
        locals = λ k h. h;
        calls = omega arith;
        least = λ h. h;
      };
      fits = λ l t. t.calls (length m.calls) (omega arith);
    }

pub called_fits : (S : Setting) (name : Identifier) (arguments : Sources) (operands : Op → Marking (List (Converted Expr))) (handed : List Parameter → Marking (List (Passed Expr))) (g : Meaning) (m : Marks) → MeaningFits S g → ((op : Op) (n : Marks) → Good S (λ xs. OperandsFit S xs (operator_slots op)) n (operands op n)) → ((slots : List Parameter) (n : Marks) → Good S (λ xs. AllPassedFit S xs (map slot_seen slots)) n (handed slots n)) → Good S (FitsAs S (falls S (call_width S.scope g))) m (called_by S.scope name arguments operands handed g m)
unfolding operator_value counting_value function_value
called_fits S name arguments operands handed (meaning.Operator op) m f ops all =
    let k = site_at (kind.Operator op) name.at m in
    let r = operands op k.1 in
    chain (site_fits S (kind.Operator op) name.at m) (chain (ops op k.1) (chain (counting_fits S (length r.0) (arity_of op) name.at r.1)
    (done (λ l f s. number_operator S op r.0 k.0 (l ∙ arity_told op) f s))))
called_fits S name arguments operands handed (meaning.Counting call) m f ops all =
    let r = handed [] m in
    chain (all [] m) (chain (counting_fits S (length r.0) 0 name.at r.1) (done (λ l f. tt)))
called_fits S name arguments operands handed (meaning.Function function) m F ops all =
    let b = begun_call S.scope function name arguments m in
    let r = handed (slots_of function S.scope) b.1 in
    chain (begun_fits S function name arguments m) (chain (all (slots_of function S.scope) b.1) (chain (counting_fits S (length r.0) (length (slots_of function S.scope)) name.at r.1)
    (done (λ l a h. call_fits S function b.0 r.0 (result_of function S.scope) (sym F.result) F h l (subst (AllPassedFit S r.0) F.slots a)))))
called_fits S name arguments operands handed (meaning.Scalar scalar width is_const) m f ops all =
    chain (faulty {A = Unit {0}} {Q = λ u. ⊥} {a = tt} WrongKind name.at m) (chain (all [] (noted WrongKind name.at m)) (done (λ f b. b)))
called_fits S name arguments operands handed (meaning.Array array width is_const) m f ops all =
    chain (faulty {A = Unit {0}} {Q = λ u. ⊥} {a = tt} WrongKind name.at m) (chain (all [] (noted WrongKind name.at m)) (done (λ f b. b)))
called_fits S name arguments operands handed meaning.Nothing m f ops all =
    chain (faulty {A = Unit {0}} {Q = λ u. ⊥} {a = tt} UnknownName name.at m) (chain (all [] (noted UnknownName name.at m)) (done (λ f b. b)))

-- a call of an operator begins with the site of the operator
pub called_next : (S : Setting) (name : Identifier) (arguments : Sources) (operands : Op → Marking (List (Converted Expr))) (handed : List Parameter → Marking (List (Passed Expr))) (g : Meaning) (m : Marks) (here : Position) → m.waiting ≡ Some here → is_operator g ≡ true → ((op : Op) (n : Marks) → Good S (λ xs. OperandsFit S xs (operator_slots op)) n (operands op n)) → NarrowsNext m (called_by S.scope name arguments operands handed g m).1
unfolding operator_value
called_next S name arguments operands handed (meaning.Operator op) m here w c ops =
    let n = (site_at (kind.Operator op) name.at m).1 in
    let r = operands op n in
    narrows_then (site_next (kind.Operator op) name.at here m w) (grows_then (ops op n).grows (counting_fits S (length r.0) (arity_of op) name.at r.1).grows)
called_next S name arguments operands handed (meaning.Counting call) m here w c ops = cc
called_next S name arguments operands handed (meaning.Function function) m here w c ops = cc
called_next S name arguments operands handed (meaning.Scalar scalar width is_const) m here w c ops = cc
called_next S name arguments operands handed (meaning.Array array width is_const) m here w c ops = cc
called_next S name arguments operands handed meaning.Nothing m here w c ops = cc
