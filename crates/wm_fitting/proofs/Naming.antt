-- Names, and where a number, a condition or a view is needed.
use Rattle.std.proofs.Common.{◌≡◌, ℕ, Bool, true, false, cond, Option, Some, None, refl, ap, ◌∙◌, arith}
use Rattle.std.specs.Prelude.{IsSomeAnd, slice_get, not, ◌||◌}
use Rattle.wm_lang.specs.declared.expression.Identifier.{Identifier}
use Rattle.wm_lang.specs.declared.place.Position.{Position}
use Rattle.wm_ops.specs.declared.operators.Width.{Width}
use Rattle.wm_ops.specs.declared.operators.Width.TheVariants.{W16, W32}
use Rattle.wm_program.specs.declared.program.LocalInfo.{LocalInfo}
use Rattle.wm_program.specs.declared.program.ObjectInfo.{ObjectInfo}
use Rattle.wm_program.specs.declared.program.SiteKind.TheVariants as kind
use Rattle.wm_program.specs.declared.tree.Array.{Array}
use Rattle.wm_program.specs.declared.tree.Array.TheVariants as array
use Rattle.wm_program.specs.declared.tree.Expr.{Expr}
use Rattle.wm_program.specs.declared.tree.Scalar.{Scalar}
use Rattle.wm_program.specs.declared.tree.Scalar.TheVariants as scalar
use Rattle.wm_program.specs.declared.tree.View.{View}
use Rattle.wm_program.specs.declared.tree.View.TheVariants as view
use Rattle.wm_program.specs.WellFormed.{IsSite, FitsArray, array_width, ScalarLocal, ArrayLocal, is_array}
use Rattle.wm_scope.specs.declared.fault.TokenFault.TheVariants.{UnknownName, WrongKind}
use Rattle.wm_scope.specs.declared.meaning.Meaning.{Meaning}
use Rattle.wm_scope.specs.declared.meaning.Meaning.TheVariants as meaning
use Rattle.wm_scope.specs.declared.scope.Slot.{Slot as Parameter}
use Rattle.wm_scope.specs.Scopes.{meaning_of}
use Rattle.wm_marks.specs.declared.marks.Marks.{Marks}
use Rattle.wm_marks.specs.Marking.{with_number}
use Rattle.wm_value.specs.declared.form.Begun.{Begun}
use Rattle.wm_value.specs.declared.form.Sight.{Sight}
use Rattle.wm_value.specs.declared.form.Value.{Value}
use Rattle.wm_value.specs.declared.form.Value.TheVariants.{Number, Truth, View as Seen, LostView, Function, Effect, Nothing}
use Rattle.wm_value.specs.Kinds.{number_of, condition_of, same_width, fits, named_by, named, array_by, array_at, pointed_at, addressed_by, address_by, address, scalar_place, sight_by, sight_at, part_of, begin_part, part_value}
use Rattle.wm_value.specs.Widths.{scalar_width as told_width, element_width}
use Rattle.wm_fitting.specs.Fitting.{Setting, ScalarFits, MeaningFits, ScopeFits, Good, FitsNumber, FitsView, FitsAs}
use Rattle.wm_fitting.proofs.Collecting.{chain, done, faulty, has_with, has_stays, site_fits}
use Rattle.wm_fitting.proofs.Forms.{Fits, Tests, falls, number_named, test_truth}

-- a step's property is another
pub also : {A : Type 0} {S : Setting} {P Q : A → Type 0} {m : Marks} {r : A × Marks} → Good S P m r → ((a : A) → P a → Q a) → Good S Q m r
also h f = record { grows = h.grows; fits = λ l t. f _ (h.fits l t) }

-- what holds of the one thing that is there, and what else
both : {X : Type 0} (o : Option X) {P Q R : X → Type 0} → IsSomeAnd o P → ((x : X) → o ≡ Some x → Q x) → ((x : X) → P x → Q x → R x) → IsSomeAnd o R
both None p q f = p
both (Some x) p q f = f x p (q x refl)

-- ---- where a number or a condition is needed

pub number_fits : (S : Setting) (narrow : Width → Bool) (at : Position) (v : Value) (m : Marks) → Good S (λ x. FitsAs S narrow v → FitsNumber S narrow x) m (number_of at v m)
unfolding number_of
number_fits S narrow at (Number x) m = done (λ f. f)
number_fits S narrow at (Truth condition) m = faulty WrongKind at m
number_fits S narrow at (Seen view sight) m = faulty WrongKind at m
number_fits S narrow at LostView m = faulty WrongKind at m
number_fits S narrow at Function m = faulty WrongKind at m
number_fits S narrow at (Effect effect) m = faulty WrongKind at m
number_fits S narrow at Nothing m = done (λ f. absurd f)

pub number_told : (at : Position) (v : Value) (x : Expr) (m : Marks) → v ≡ Number x → (number_of at v m).0 ≡ x
unfolding number_of
number_told at v x m h = ap (λ v. (number_of at v m).0) h

pub condition_fits : (S : Setting) (narrow : Width → Bool) (at : Position) (v : Value) (m : Marks) → Good S (λ x. FitsAs S narrow v → Tests S x) m (condition_of at v m)
unfolding condition_of
condition_fits S narrow at (Number x) m = done (λ f. test_truth S x f.fits)
condition_fits S narrow at (Truth condition) m = done (λ f. f)
condition_fits S narrow at (Seen view sight) m = faulty WrongKind at m
condition_fits S narrow at LostView m = faulty WrongKind at m
condition_fits S narrow at Function m = faulty WrongKind at m
condition_fits S narrow at (Effect effect) m = faulty WrongKind at m
condition_fits S narrow at Nothing m = done (λ f. absurd f)

-- a view that fits a slot
abbrev pub FitsSlot : Setting → View Expr → Width → Type 0
FitsSlot S (view.Whole array) width = FitsArray S.code S.routine array × (array_width S.code S.routine array ≡ width)
FitsSlot S (view.From array index site) width =
    FitsArray S.code S.routine array × (array_width S.code S.routine array ≡ width) × Fits S index
    × IsSite S.code site kind.View

alike : (a b : Width) → same_width a b ≡ true → a ≡ b
alike W16 W16 h = refl
alike W16 W32 h = cc
alike W32 W16 h = cc
alike W32 W32 h = refl

alike_by : (p q r : Bool) → cond p (cond q r true) false ≡ true → p ≡ true
alike_by true q r h = refl
alike_by false q r h = h

pub fits_alike : (sight : Sight) (slot : Parameter) → fits sight slot ≡ true → sight.width ≡ slot.width
fits_alike sight slot h = alike sight.width slot.width (alike_by (same_width sight.width slot.width) sight.is_const slot.is_const h)

pub seen_slot : (S : Setting) (v : View Expr) (sight : Sight) (width : Width) → sight.width ≡ width → FitsView S v sight → FitsSlot S v width
seen_slot S (view.Whole array) sight width h f = (f.0, f.1 ∙ h)
seen_slot S (view.From array index site) sight width h f = (f.0, f.1 ∙ h, f.2, f.3)

-- ---- names

pub named_fits_by : (S : Setting) (at : Position) (g : Meaning) (m : Marks) → MeaningFits S g → Good S (FitsAs S (falls S (told_width g))) m (named_by at g m)
named_fits_by S at (meaning.Operator op) m f = done tt
named_fits_by S at (meaning.Counting call) m f = done tt
named_fits_by S at (meaning.Function number) m f = done tt
named_fits_by S at (meaning.Scalar scalar width is_const) m f = done (number_named S scalar width f.fits f.width_told)
named_fits_by S at (meaning.Array array width is_const) m f = done (f.fits, f.width_told)
named_fits_by S at meaning.Nothing m f = faulty UnknownName at m

pub named_fits : (S : Setting) (names : ScopeFits S) (name : Identifier) (m : Marks) → Good S (FitsAs S (falls S (told_width (meaning_of name.name S.scope)))) m (named S.scope name m)
unfolding named
named_fits S names name m = named_fits_by S name.at (meaning_of name.name S.scope) m (names.names name.name)

-- an array of this type
pub record ArrayFound (S : Setting) (width : Width) (array : Array) : Type 0 where
  pub fits : FitsArray S.code S.routine array
  pub width_told : array_width S.code S.routine array ≡ width

array_by_fits : (S : Setting) (at wrong_at : Position) (g : Meaning) (m : Marks) → MeaningFits S g → Good S (ArrayFound S (element_width g)) m (array_by at wrong_at g m)
array_by_fits S at wrong_at (meaning.Operator op) m f = faulty WrongKind wrong_at m
array_by_fits S at wrong_at (meaning.Counting call) m f = faulty WrongKind wrong_at m
array_by_fits S at wrong_at (meaning.Function number) m f = faulty WrongKind wrong_at m
array_by_fits S at wrong_at (meaning.Scalar scalar width is_const) m f = faulty WrongKind wrong_at m
array_by_fits S at wrong_at (meaning.Array array width is_const) m f = done (record { fits = f.fits; width_told = f.width_told })
array_by_fits S at wrong_at meaning.Nothing m f = faulty UnknownName at m

pub array_fits : (S : Setting) (names : ScopeFits S) (name : Identifier) (wrong_at : Position) (m : Marks) → Good S (ArrayFound S (element_width (meaning_of name.name S.scope))) m (array_at S.scope name wrong_at m)
unfolding array_at
array_fits S names name wrong_at m = array_by_fits S name.at wrong_at (meaning_of name.name S.scope) m (names.names name.name)

-- ---- addresses

taken_object : (S : Setting) (object : ℕ) (width : Width) (is_const : Bool) (m : Marks) → ScalarFits S (scalar.Object object) width is_const → Good {A = Unit {0}} S (λ v. FitsArray S.code S.routine (array.Object object)) m (tt, record m { objects = with_number object m.objects })
taken_object S object width is_const m f = record {
  grows = record {
    sites = λ k it h. h;
    loops = refl;
    objects = λ k h. has_stays k object m.objects h;
    locals = λ k h. h;
    calls = omega arith;
    least = λ h. h;
  };
  fits = λ l t. both (slice_get S.code.objects object) f.fits (t.objects object (has_with object m.objects) f.own) (λ it s a. object_taken it a);
}
  where
    or_true : (p q : Bool) → q ≡ true → (p || q) ≡ true
    or_true true q h = refl
    or_true false q h = h

    object_taken : (it : ObjectInfo) → it.addressed ≡ true → (not it.scalar || it.addressed) ≡ true
    object_taken it a = or_true (not it.scalar) it.addressed a

taken_local : (S : Setting) (local : ℕ) (width : Width) (is_const : Bool) (m : Marks) → ScalarFits S (scalar.Local local) width is_const → Good {A = Unit {0}} S (λ v. FitsArray S.code S.routine (array.Local local)) m (tt, record m { locals = with_number local m.locals })
taken_local S local width is_const m f = record {
  grows = record {
    sites = λ k it h. h;
    loops = refl;
    objects = λ k h. h;
    locals = λ k h. has_stays k local m.locals h;
    calls = omega arith;
    least = λ h. h;
  };
  fits = λ l t. both (slice_get S.routine.locals local) f.fits (t.locals local (has_with local m.locals)) (λ it s a. local_taken it s a);
}
  where
    or_true : (p q : Bool) → q ≡ true → (p || q) ≡ true
    or_true true q h = refl
    or_true false q h = h

    local_taken : (it : LocalInfo) → ScalarLocal it → it.addressed ≡ true → ArrayLocal it
    local_taken it s a = record { no_view = s.no_view; has_cells = or_true (is_array it.array) it.addressed a }

addressed_fits : (S : Setting) (narrow : Width → Bool) (at : Position) (scalar : Scalar) (width : Width) (is_const : Bool) (m : Marks) → ScalarFits S scalar width is_const → Good S (FitsAs S narrow) m (addressed_by at scalar width is_const m)
addressed_fits S narrow at scalar.Overflow width is_const m f = faulty WrongKind at m
addressed_fits S narrow at (scalar.Object object) width is_const m f = chain (taken_object S object width is_const m f) (done (λ a. (a, f.width_told)))
addressed_fits S narrow at (scalar.Local local) width is_const m f = chain (taken_local S local width is_const m f) (done (λ a. (a, f.width_told)))

address_by_fits : (S : Setting) (narrow : Width → Bool) (at name_at : Position) (g : Meaning) (m : Marks) → MeaningFits S g → Good S (FitsAs S narrow) m (address_by at name_at g m)
address_by_fits S narrow at name_at (meaning.Operator op) m f = faulty WrongKind at m
address_by_fits S narrow at name_at (meaning.Counting call) m f = faulty WrongKind at m
address_by_fits S narrow at name_at (meaning.Function number) m f = faulty WrongKind at m
address_by_fits S narrow at name_at (meaning.Scalar scalar width is_const) m f = addressed_fits S narrow at scalar width is_const m f
address_by_fits S narrow at name_at (meaning.Array array width is_const) m f = faulty WrongKind at m
address_by_fits S narrow at name_at meaning.Nothing m f = faulty UnknownName name_at m

pub address_fits : (S : Setting) (names : ScopeFits S) (narrow : Width → Bool) (at : Position) (name : Identifier) (m : Marks) → Good S (FitsAs S narrow) m (address S.scope at name m)
unfolding address
address_fits S names narrow at name m = address_by_fits S narrow at name.at (meaning_of name.name S.scope) m (names.names name.name)

-- ---- parts of arrays

abbrev pub SightFits : Setting → Option Sight → Type 0
SightFits S None = ⊥
SightFits S (Some sight) = ArrayFound S sight.width sight.array

sight_by_fits : (S : Setting) (at name_at : Position) (g : Meaning) (m : Marks) → MeaningFits S g → Good S (SightFits S) m (sight_by at name_at g m)
sight_by_fits S at name_at (meaning.Operator op) m f = faulty WrongKind name_at m
sight_by_fits S at name_at (meaning.Counting call) m f = faulty WrongKind name_at m
sight_by_fits S at name_at (meaning.Function number) m f = faulty WrongKind name_at m
sight_by_fits S at name_at (meaning.Scalar scalar width is_const) m f = faulty WrongKind (scalar_place at name_at scalar) m
sight_by_fits S at name_at (meaning.Array array width is_const) m f = done (record { fits = f.fits; width_told = f.width_told })
sight_by_fits S at name_at meaning.Nothing m f = faulty UnknownName name_at m

sight_fits : (S : Setting) (names : ScopeFits S) (at : Position) (name : Identifier) (m : Marks) → Good S (SightFits S) m (sight_at S.scope at name m)
unfolding sight_at
sight_fits S names at name m = sight_by_fits S at name.at (meaning_of name.name S.scope) m (names.names name.name)

pub record BegunFits (S : Setting) (begun : Begun) : Type 0 where
  pub sight : SightFits S begun.sight
  pub site : IsSite S.code begun.site kind.View

pub begin_part_fits : (S : Setting) (names : ScopeFits S) (at : Position) (name : Identifier) (bracket : Position) (m : Marks) → Good S (BegunFits S) m (begin_part S.scope at name bracket m)
unfolding begin_part
begin_part_fits S names at name bracket m =
    chain (sight_fits S names at name m) (chain (site_fits S kind.View bracket (sight_at S.scope at name m).1) (done (λ s h. record { sight = h; site = s })))

pub part_fits : (S : Setting) (narrow : Width → Bool) (sight : Option Sight) (x : Expr) (site : ℕ) → SightFits S sight → Fits S x → IsSite S.code site kind.View → FitsAs S narrow (part_of sight x site)
unfolding part_of
part_fits S narrow None x site h f s = h
part_fits S narrow (Some sight) x site h f s = (h.fits, h.width_told, f, s)

pub part_value_fits : (S : Setting) (narrow other : Width → Bool) (at : Position) (begun : Begun) (v : Value) (m : Marks) → Good S (λ w. FitsAs S other v → BegunFits S begun → FitsAs S narrow w) m (part_value at begun v m)
unfolding part_value
part_value_fits S narrow other at begun v m =
    chain (number_fits S other at v m) (done (λ x f b. part_fits S narrow begun.sight (number_of at v m).0 begun.site b.sight (x f).fits b.site))

pub pointed_fits : (S : Setting) (names : ScopeFits S) (star : Position) (name : Identifier) (m : Marks) → Good S (λ found. ArrayFound S (element_width (meaning_of name.name S.scope)) found.0 × IsSite S.code found.1 kind.Index) m (pointed_at S.scope star name m)
unfolding pointed_at
pointed_fits S names star name m =
    chain (array_fits S names name star m) (chain (site_fits S kind.Index star (array_at S.scope name star m).1) (done (λ s a. (a, s))))
