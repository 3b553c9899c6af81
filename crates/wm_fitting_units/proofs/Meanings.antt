-- The names of file scope fit the program.
use Rattle.std.proofs.Common.{◌≡◌, ℕ, zero, suc, ◌<◌, ◌≤◌, Bool, true, false, cond, List, [], ◌∷◌, length, map, Option, Some, None, refl, sym, ap, subst, ◌∙◌, arith, bytes_eq}
use Rattle.std.proofs.lemmas.List.Elements.{All-head, All-tail, All-weaker}
use Rattle.std.proofs.lemmas.Option.{get_or_from_slice_get, slice_get-get_or}
use Rattle.std.specs.List.{All}
use Rattle.std.specs.Option.{option_map_or}
use Rattle.std.specs.Prelude.{IsSomeAnd, codes, get_or, slice_get}
use Rattle.wm_ops.specs.declared.operators.Width.{Width}
use Rattle.wm_ops.specs.declared.operators.Width.TheVariants.{W32}
use Rattle.wm_ops.specs.declared.words.Counted.{Counted}
use Rattle.wm_ops.specs.declared.words.Counted.TheVariants as counted
use Rattle.wm_ops.specs.Names.{word_named}
use Rattle.wm_program.specs.declared.program.FunctionInfo.{FunctionInfo}
use Rattle.wm_program.specs.declared.program.ObjectInfo.{ObjectInfo}
use Rattle.wm_program.specs.declared.tree.Array.{Array}
use Rattle.wm_program.specs.declared.tree.Array.TheVariants as array
use Rattle.wm_program.specs.declared.tree.Scalar.{Scalar}
use Rattle.wm_program.specs.declared.tree.Scalar.TheVariants as scalar
use Rattle.wm_program.specs.Code.{Code, Routine, no_routine, routine_of, routine_at}
use Rattle.wm_program.specs.WellFormed.{Has, routine_slots}
use Rattle.wm_scope.specs.declared.meaning.Meaning.{Meaning}
use Rattle.wm_scope.specs.declared.meaning.Meaning.TheVariants as meaning
use Rattle.wm_scope.specs.declared.meaning.Named.{Named}
use Rattle.wm_scope.specs.declared.scope.Scope.{Scope}
use Rattle.wm_scope.specs.declared.scope.Signature.{Signature}
use Rattle.wm_scope.specs.Names.{latest, outermost, word_meaning}
use Rattle.wm_body.specs.Declarations.{object_meaning}
use Rattle.wm_reading.specs.Functions.{begun_scope}
use Rattle.wm_fitting.specs.Fitting.{Setting, FunctionFits, MeaningFits, slot_seen}
use Rattle.wm_fitting_scopes.proofs.Meanings.{objects_fit}
use Rattle.wm_fitting_declarations.specs.Works.{LikeObject}
use Rattle.wm_fitting_functions.specs.Units.{FileFits}
use Rattle.wm_fitting_units.specs.Passes.{IsObject, IsScalarMeant, IsArrayMeant, IsMeant, IsSigned}

-- ---- names

picked : (S : Setting) (b : Bool) (g h : Meaning) → MeaningFits S g → MeaningFits S h → MeaningFits S (cond b g h)
picked S true g h f k = f
picked S false g h f k = k

latest_fits : (S : Setting) (word : List ℕ) (names : List Named) → All (λ named. MeaningFits S named.meaning) names → (g : Meaning) → MeaningFits S g → MeaningFits S (latest word names g)
latest_fits S word [] a g f = f
latest_fits S word (named ∷ rest) a g f =
    latest_fits S word rest (All-tail (λ named. MeaningFits S named.meaning) named rest a) _
    (picked S (bytes_eq word named.name) named.meaning g (All-head (λ named. MeaningFits S named.meaning) named rest a) f)

word_fits : (S : Setting) (o : Option Counted) → MeaningFits S (word_meaning o)
word_fits S None = tt
word_fits S (Some (counted.Operator op)) = tt
word_fits S (Some (counted.Call call)) = tt
word_fits S (Some (counted.Word word)) = tt

outermost_fits : (S : Setting) (word : List ℕ) → MeaningFits S (outermost word)
outermost_fits S word =
    picked S (bytes_eq word (codes "Overflow")) (meaning.Scalar scalar.Overflow W32 false) (word_meaning (word_named word))
    (record { own = tt; fits = tt; width_told = refl; written = λ e. tt }) (word_fits S (word_named word))

-- ---- what the program has

pub within_list : {X : Type 0} (xs : List X) (k : ℕ) (x : X) → slice_get xs k ≡ Some x → k < length xs
within_list [] k x e = cc
within_list (y ∷ xs) zero x e = omega arith
within_list (y ∷ xs) (suc k) x e = omega (arith, within_list xs k x e)

pub record Known (code : Code) (own : ℕ) (objects : List ObjectInfo) (functions : List FunctionInfo) (scope : Scope) : Type 0 where
  pub has_objects : (k : ℕ) (x : ObjectInfo) → slice_get objects k ≡ Some x → Has code.objects k (LikeObject x)
  pub count : length objects ≤ own
  pub has_functions : (k : ℕ) (info : FunctionInfo) → slice_get functions k ≡ Some info → slice_get code.routines k ≡ Some (routine_of info)
  pub signed : length scope.signatures ≡ length functions
  pub signatures : (k : ℕ) (signature : Signature) (info : FunctionInfo) → slice_get scope.signatures k ≡ Some signature → slice_get functions k ≡ Some info → IsSigned signature info

-- ---- what a name means

object_by : (S : Setting) (object : ℕ) (width : Width) (is_const is_array : Bool) (x : ObjectInfo) → object < S.own → IsObject width is_const is_array x → (o : Option ObjectInfo) → slice_get S.code.objects object ≡ o → IsSomeAnd o (LikeObject x) → MeaningFits S (object_meaning object width is_const is_array)
object_by S object width is_const is_array x l h None e f = absurd f
object_by S object width is_const is_array x l h (Some it) e f =
    subst (λ w. MeaningFits S (object_meaning object w is_const is_array)) (f.width ∙ h.width_told)
    (subst (λ c. MeaningFits S (object_meaning object it.width c is_array)) (f.constant ∙ h.const_told)
    (objects_fit S object it e l is_array (f.scalar ∙ h.scalar_told)))

-- the file scope in a function
abbrev home : Code → ℕ → Scope → Routine → List ℕ → Setting
home code own scope routine offsets = record { code = code; routine = routine; scope = begun_scope offsets scope; own = own }

named_object : (code : Code) (own : ℕ) (objects : List ObjectInfo) (functions : List FunctionInfo) (s : Scope) → Known code own objects functions s → (routine : Routine) (offsets : List ℕ)
    → (object : ℕ) (width : Width) (is_const is_array : Bool) (o : Option ObjectInfo) → slice_get objects object ≡ o → IsSomeAnd o (IsObject width is_const is_array) → MeaningFits (home code own s routine offsets) (object_meaning object width is_const is_array)
named_object code own objects functions s k routine offsets object width is_const is_array None e h = absurd h
named_object code own objects functions s k routine offsets object width is_const is_array (Some x) e h =
    object_by (home code own s routine offsets) object width is_const is_array x (omega (arith, k.count, within_list objects object x e)) h (slice_get code.objects object) refl (k.has_objects object x e)

no_info : FunctionInfo
no_info = record { name = []; result = None; locals = []; parameters = 0; body = record { statements = [] }; tokens = 0 }

no_signature : Signature
no_signature = record { result = None; slots = [] }

named_function : (code : Code) (own : ℕ) (objects : List ObjectInfo) (functions : List FunctionInfo) (s : Scope) → Known code own objects functions s → (routine : Routine) (offsets : List ℕ)
    → (function : ℕ) → function < length functions → FunctionFits (home code own s routine offsets) function
named_function code own objects functions s k routine offsets function l =
    let info = get_or functions function no_info in
    let has : slice_get functions function ≡ Some info = slice_get-get_or functions function no_info l in
    let signature = get_or s.signatures function no_signature in
    let signs : slice_get s.signatures function ≡ Some signature = slice_get-get_or s.signatures function no_signature (omega (arith, l, k.signed)) in
    let routine_has = k.has_functions function info has in
    let routine_is : routine_at code function ≡ routine_of info = get_or_from_slice_get code.routines function (routine_of info) no_routine routine_has in
    let told = k.signatures function signature info signs has in
    record {
      there = within_list code.routines function (routine_of info) routine_has;
      result = ap (λ o. option_map_or (λ (it : Signature). it.result) o None) signs ∙ (sym told.result ∙ ap (λ (it : Routine). it.result) (sym routine_is));
      slots =
          ap (λ o. map slot_seen (option_map_or (λ (it : Signature). it.slots) o [])) signs
          ∙ (sym told.slots ∙ ap routine_slots (sym routine_is));
    }

scalar_fits : (code : Code) (own : ℕ) (objects : List ObjectInfo) (functions : List FunctionInfo) (s : Scope) → Known code own objects functions s → (routine : Routine) (offsets : List ℕ)
    → (it : Scalar) (width : Width) (is_const : Bool) → IsScalarMeant objects it width is_const → MeaningFits (home code own s routine offsets) (meaning.Scalar it width is_const)
scalar_fits code own objects functions s k routine offsets scalar.Overflow width is_const h = absurd h
scalar_fits code own objects functions s k routine offsets (scalar.Object object) width is_const h = named_object code own objects functions s k routine offsets object width is_const false (slice_get objects object) refl h
scalar_fits code own objects functions s k routine offsets (scalar.Local local) width is_const h = absurd h

array_fits : (code : Code) (own : ℕ) (objects : List ObjectInfo) (functions : List FunctionInfo) (s : Scope) → Known code own objects functions s → (routine : Routine) (offsets : List ℕ)
    → (it : Array) (width : Width) (is_const : Bool) → IsArrayMeant objects it width is_const → MeaningFits (home code own s routine offsets) (meaning.Array it width is_const)
array_fits code own objects functions s k routine offsets (array.Object object) width is_const h = named_object code own objects functions s k routine offsets object width is_const true (slice_get objects object) refl h
array_fits code own objects functions s k routine offsets (array.Local local) width is_const h = absurd h
array_fits code own objects functions s k routine offsets (array.View local number) width is_const h = absurd h

meant_fits : (code : Code) (own : ℕ) (objects : List ObjectInfo) (functions : List FunctionInfo) (s : Scope) → Known code own objects functions s → (routine : Routine) (offsets : List ℕ)
    → (g : Meaning) → IsMeant objects (length functions) g → MeaningFits (home code own s routine offsets) g
meant_fits code own objects functions s k routine offsets (meaning.Operator op) h = tt
meant_fits code own objects functions s k routine offsets (meaning.Counting call) h = tt
meant_fits code own objects functions s k routine offsets (meaning.Function function) h = named_function code own objects functions s k routine offsets function h
meant_fits code own objects functions s k routine offsets (meaning.Scalar it width is_const) h = scalar_fits code own objects functions s k routine offsets it width is_const h
meant_fits code own objects functions s k routine offsets (meaning.Array it width is_const) h = array_fits code own objects functions s k routine offsets it width is_const h
meant_fits code own objects functions s k routine offsets meaning.Nothing h = tt

pub file_fits : (code : Code) (own : ℕ) (objects : List ObjectInfo) (functions : List FunctionInfo) (s : Scope) → Known code own objects functions s → All (λ named. IsMeant objects (length functions) named.meaning) s.file → FileFits code own s
file_fits code own objects functions s k a routine offsets =
    let S = home code own s routine offsets in
    record {
      names = λ word. latest_fits S word s.file
          (All-weaker (λ named. IsMeant objects (length functions) named.meaning) (λ named. MeaningFits S named.meaning) (λ named h. meant_fits code own objects functions s k routine offsets named.meaning h) s.file a)
          (outermost word) (outermost_fits S word);
    }
