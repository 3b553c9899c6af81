-- The length of what is declared, the numbers with which an object begins, and what a variable begins with.
use Rattle.std.proofs.Common.{◌≡◌, ℕ, ◌<◌, ◌≤◌, ℤ, List, [], ◌∷◌, length, Option, Some, None, refl, sym, subst, arith}
use Rattle.std.proofs.lemmas.List.Elements.{All-nil, All-cons}
use Rattle.std.specs.List.{All}
use Rattle.std.specs.Option.{option_map_or}
use Rattle.std.specs.Prelude.{false, IsSomeAnd, slice_get}
use Rattle.wm_lang.specs.declared.expression.Identifier.{Identifier}
use Rattle.wm_lang.specs.declared.statement.Declarator.{Declarator}
use Rattle.wm_lang.specs.declared.statement.Declarator.TheVariants as declarator
use Rattle.wm_lang.specs.declared.statement.Initializer.{Initializer}
use Rattle.wm_lang.specs.declared.statement.InitializerList.{InitializerList}
use Rattle.wm_ops.specs.Arguments.{HasWidth}
use Rattle.wm_ops.specs.declared.operators.Width.{Width}
use Rattle.wm_ops.specs.declared.operators.Width.TheVariants.{W32}
use Rattle.wm_program.specs.declared.program.LocalInfo.{LocalInfo}
use Rattle.wm_program.specs.declared.tree.Converted.{Converted}
use Rattle.wm_program.specs.declared.tree.Expr.{Expr}
use Rattle.wm_program.specs.declared.tree.Scalar.TheVariants as scalar
use Rattle.wm_program.specs.Trees.{expression_of, scalar_of, array_of, fresh_of}
use Rattle.wm_program.specs.WellFormed.{Has, is_array, ScalarLocal, IsAutomatic, scalar_width, FitsConversion, FitsFresh}
use Rattle.wm_scope.specs.declared.scope.Scope.{Scope}
use Rattle.wm_marks.specs.declared.marks.Marks.{Marks}
use Rattle.wm_body.specs.Declarations.{length_of, value_constants, list_constants, constants_of, values_of, fresh}
use Rattle.wm_body.specs.Lengths.{constants_in, count_of}
use Rattle.wm_fitting.specs.Fitting.{Setting, ScopeFits, Good, Grows}
use Rattle.wm_fitting.proofs.Collecting.{grows_none, chain, done}
use Rattle.wm_fitting.proofs.Naming.{also}
use Rattle.wm_fitting_parts.specs.Laws.{FitsInitial, IsLength}
use Rattle.wm_fitting_parts.proofs.Lengths.{lengths_fit, constants_fit}
use Rattle.wm_fitting_parts.proofs.Returns.{conversions_fit}
use Rattle.wm_fitting_growth_acts.proofs.Parts.{lengths_grow, constants_grow, conversions_grow}
use Rattle.wm_fitting_declarations.specs.PlainDeclarations.{IsPlainValue, IsPlainList, IsPlainDeclarator}
use Rattle.wm_fitting_declarations.specs.Works.{LikeLocal}

-- ---- lengths

-- a scalar has none, an array one that its initialisers do not pass
abbrev pub IsCount : Declarator → Option ℕ → Type 0
IsCount (declarator.Scalar name initial) None = Unit {0}
IsCount (declarator.Scalar name initial) (Some count) = ⊥
IsCount (declarator.Array name bracket length initial) None = ⊥
IsCount (declarator.Array name bracket length initial) (Some count) = (0 < count) × (count_of initial ≤ count)

pub length_grows : (scope : Scope) (it : Declarator) (m : Marks) → Grows m (length_of it scope m).1
unfolding length_of
length_grows scope (declarator.Scalar name initial) m = grows_none m
length_grows scope (declarator.Array name bracket size initial) m = lengths_grow scope size (count_of initial) name.at m

pub length_fits : (S : Setting) → ScopeFits S → (it : Declarator) → IsPlainDeclarator it → (m : Marks) → Good S (IsCount it) m (length_of it S.scope m)
unfolding length_of
length_fits S names (declarator.Scalar name initial) p m = done tt
length_fits S names (declarator.Array name bracket size initial) p m =
    chain (lengths_fit S names size p.0 (count_of initial) name.at m) (done (λ f. (f.0, f.2)))

-- ---- numbers with which an object begins

abbrev pub IsFor : Declarator → List ℤ → Type 0
IsFor (declarator.Scalar name initial) numbers = length numbers ≤ 1
IsFor (declarator.Array name bracket size initial) numbers = length numbers ≡ count_of initial

abbrev pub AreNumbers : Width → Declarator → List ℤ → Type 0
AreNumbers width it numbers = All (HasWidth width) numbers × IsFor it numbers

value_grows : (width : Width) (scope : Scope) (initial : Option Initializer) (m : Marks) → Grows m (value_constants width initial scope m).1
value_grows width scope None m = grows_none m
value_grows width scope (Some initial) m = constants_grow scope width [] (initial.value ∷ []) m

list_grows : (width : Width) (scope : Scope) (initial : Option InitializerList) (m : Marks) → Grows m (list_constants width initial scope m).1
list_grows width scope None m = grows_none m
list_grows width scope (Some initial) m = constants_grow scope width [] initial.values m

pub constants_of_grow : (width : Width) (scope : Scope) (it : Declarator) (m : Marks) → Grows m (constants_of width it scope m).1
unfolding constants_of
constants_of_grow width scope (declarator.Scalar name initial) m = value_grows width scope initial m
constants_of_grow width scope (declarator.Array name bracket size initial) m = list_grows width scope initial m

value_fits : (S : Setting) → ScopeFits S → (width : Width) (name : Identifier) (initial : Option Initializer) → IsPlainDeclarator (declarator.Scalar name initial) → (m : Marks) → Good S (AreNumbers width (declarator.Scalar name initial)) m (value_constants width initial S.scope m)
value_fits S names width name None p m = done (All-nil (HasWidth width), omega arith)
value_fits S names width name (Some initial) p m =
    also (constants_fit S names width (initial.value ∷ []) (All-cons IsPlainValue initial.value [] p (All-nil IsPlainValue)) m)
    (λ numbers f. (f.0, omega (arith, f.1)))

list_fits : (S : Setting) → ScopeFits S → (width : Width) (initial : Option InitializerList) → IsPlainList initial → (m : Marks) → Good S (λ numbers. All (HasWidth width) numbers × (length numbers ≡ count_of initial)) m (list_constants width initial S.scope m)
list_fits S names width None p m = done (All-nil (HasWidth width), refl)
list_fits S names width (Some initial) p m = constants_fit S names width initial.values p m

pub constants_of_fit : (S : Setting) → ScopeFits S → (width : Width) (it : Declarator) → IsPlainDeclarator it → (m : Marks) → Good S (AreNumbers width it) m (constants_of width it S.scope m)
unfolding constants_of
constants_of_fit S names width (declarator.Scalar name initial) p m = value_fits S names width name initial p m
constants_of_fit S names width (declarator.Array name bracket size initial) p m = list_fits S names width initial p.1 m

pub lengths_agree : (it : Declarator) (count : Option ℕ) (numbers : List ℤ) → IsCount it count → IsFor it numbers → IsLength count numbers
lengths_agree (declarator.Scalar name initial) None numbers c f = f
lengths_agree (declarator.Scalar name initial) (Some count) numbers c f = absurd c
lengths_agree (declarator.Array name bracket size initial) None numbers c f = absurd c
lengths_agree (declarator.Array name bracket size initial) (Some count) numbers c f = (c.0, omega (arith, c.1, f))

-- ---- what an automatic variable begins with

pub has_also : {X : Type 0} {P Q : X → Type 0} (o : Option X) → ((x : X) → P x → Q x) → IsSomeAnd o P → IsSomeAnd o Q
has_also None f h = absurd h
has_also (Some x) f h = f x h

local_width : (o : Option LocalInfo) (info : LocalInfo) → IsSomeAnd o (LikeLocal info) → option_map_or (λ it. it.width) o W32 ≡ info.width
local_width None info h = absurd h
local_width (Some it) info h = h.width

-- an automatic variable as it stands in the function
pub record Stood (S : Setting) (width : Width) (count : Option ℕ) (info : LocalInfo) (local : ℕ) : Type 0 where
  pub width_told : info.width ≡ width
  pub array_told : info.array ≡ count
  pub no_view : info.view ≡ false
  pub behind : S.routine.parameters ≤ local
  pub there : Has S.routine.locals local (LikeLocal info)

scalar_fits : (S : Setting) (local : ℕ) (width : Width) (info : LocalInfo) → Stood S width None info local → (o : Option (Converted Expr)) → FitsInitial S width o → FitsFresh S.code S.routine (scalar_of local width o)
scalar_fits S local width info s o f = by_value o f
  where
    it_is : IsAutomatic S.code S.routine local ScalarLocal
    it_is = (s.behind, has_also (slice_get S.routine.locals local) (λ it h. record { no_view = cc; no_array = subst (λ a. is_array a ≡ false) (sym (array_is it h)) refl }) s.there)
      where
        array_is : (it : LocalInfo) → LikeLocal info it → it.array ≡ None
        array_is it h = cc

    width_is : scalar_width S.code S.routine (scalar.Local local) ≡ width
    width_is = subst (λ w. scalar_width S.code S.routine (scalar.Local local) ≡ w) s.width_told (local_width (slice_get S.routine.locals local) info s.there)

    by_value : (o : Option (Converted Expr)) → FitsInitial S width o → FitsFresh S.code S.routine (scalar_of local width o)
    by_value None f = (it_is, width_is)
    by_value (Some x) f = (it_is, subst (λ w. FitsConversion S.code S.routine (expression_of x.value) x.narrowing w) (sym width_is) f)

values_grow : (width : Width) (scope : Scope) (initial : Option InitializerList) (m : Marks) → Grows m (values_of width initial scope m).1
unfolding values_of
values_grow width scope None m = grows_none m
values_grow width scope (Some initial) m = constants_grow scope width [] initial.values m

pub fresh_grows : (scope : Scope) (local : ℕ) (width : Width) (count : Option ℕ) (it : Declarator) (m : Marks) → Grows m (fresh local width count it scope m).1
unfolding fresh
fresh_grows scope local width count (declarator.Scalar name initial) m = conversions_grow scope width initial m
fresh_grows scope local width count (declarator.Array name bracket size initial) m = values_grow width scope initial m

array_fits : (S : Setting) → ScopeFits S → (local : ℕ) (width : Width) (count : ℕ) (info : LocalInfo) → Stood S width (Some count) info local → (initial : Option InitializerList) → count_of initial ≤ count → IsPlainList initial → (m : Marks)
    → Good S (λ values. FitsFresh S.code S.routine (array_of local count values)) m (values_of width initial S.scope m)
unfolding values_of
array_fits S names local width count info s None c p m =
    done (s.behind, has_also (slice_get S.routine.locals local) (λ it h. cc) s.there)
array_fits S names local width count info s (Some initial) c p m =
    chain (constants_fit S names width initial.values p m)
    (done (λ f. ((s.behind, has_also (slice_get S.routine.locals local) (λ it h. (cc, subst (λ w. All (HasWidth w) (constants_in S.scope width [] initial.values m).0) (sym (width_is it h)) f.0)) s.there), omega (arith, f.1, c))))
  where
    width_is : (it : LocalInfo) → LikeLocal info it → it.width ≡ width
    width_is it h = cc

pub fresh_fits : (S : Setting) → ScopeFits S → (local : ℕ) (width : Width) (count : Option ℕ) (info : LocalInfo) → Stood S width count info local → (it : Declarator) → IsPlainDeclarator it → IsCount it count → (m : Marks)
    → Good S (λ made. FitsFresh S.code S.routine (fresh_of made)) m (fresh local width count it S.scope m)
unfolding fresh
fresh_fits S names local width None info s (declarator.Scalar name initial) p c m =
    chain (conversions_fit S names width initial p m) (done (λ f. scalar_fits S local width info s _ f))
fresh_fits S names local width (Some count) info s (declarator.Scalar name initial) p c m = absurd c
fresh_fits S names local width None info s (declarator.Array name bracket size initial) p c m = absurd c
fresh_fits S names local width (Some count) info s (declarator.Array name bracket size initial) p c m =
    chain (array_fits S names local width count info s initial c.1 p.1 m) (done (λ f. f))
