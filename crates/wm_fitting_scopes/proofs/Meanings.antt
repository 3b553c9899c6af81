-- What the names of variables mean.
use Rattle.std.proofs.Common.{◌≡◌, ℕ, ◌<◌, Bool, true, false, cond, not, ◌||◌, Option, Some, None, refl, sym, ap, subst}
use Rattle.std.specs.Option.{option_map_or}
use Rattle.std.specs.Prelude.{IsTrue, IsSomeAnd, slice_get}
use Rattle.wm_ops.specs.declared.operators.Width.TheVariants.{W32}
use Rattle.wm_program.specs.declared.program.LocalInfo.{LocalInfo}
use Rattle.wm_program.specs.declared.program.ObjectInfo.{ObjectInfo}
use Rattle.wm_program.specs.declared.tree.Array.TheVariants as array
use Rattle.wm_program.specs.declared.tree.Scalar.TheVariants as scalar
use Rattle.wm_program.specs.WellFormed.{is_array, ScalarLocal, ArrayLocal, ArrayObject, views_before}
use Rattle.wm_scope.specs.declared.meaning.Meaning.TheVariants as meaning
use Rattle.wm_scope.specs.declared.scope.Slot.{Slot}
use Rattle.wm_body.specs.Declarations.{object_meaning, local_meaning}
use Rattle.wm_reading.specs.Functions.{parameter_meaning}
use Rattle.wm_fitting.specs.Fitting.{Setting, ScalarFits, ArrayFits, MeaningFits}

-- ---- automatic variables

scalar_local : (S : Setting) (local : ℕ) (info : LocalInfo) → slice_get S.routine.locals local ≡ Some info → info.view ≡ false → info.array ≡ None → (is_const : Bool) → ScalarFits S (scalar.Local local) info.width is_const
scalar_local S local info h v a is_const = record {
  own = tt;
  fits = subst (λ o. IsSomeAnd o ScalarLocal) (sym h) (record { no_view = v; no_array = ap is_array a });
  width_told = ap (λ o. option_map_or (λ it. it.width) o W32) h;
  written = λ c. tt;
}

local_by : (S : Setting) (local : ℕ) (info : LocalInfo) → slice_get S.routine.locals local ≡ Some info → info.view ≡ false → (is_const : Bool) (o : Option ℕ) → info.array ≡ o → MeaningFits S (local_meaning local info.width is_const o)
local_by S local info h v is_const None a = scalar_local S local info h v a is_const
local_by S local info h v is_const (Some count) a = record {
  fits = subst (λ o. IsSomeAnd o ArrayLocal) (sym h) (record { no_view = v; has_cells = subst (λ o. IsTrue (is_array o || info.addressed)) (sym a) refl });
  width_told = ap (λ o. option_map_or (λ it. it.width) o W32) h;
  written = λ c. tt;
}

pub locals_fit : (S : Setting) (local : ℕ) (info : LocalInfo) → slice_get S.routine.locals local ≡ Some info → info.view ≡ false → (is_const : Bool) → MeaningFits S (local_meaning local info.width is_const info.array)
locals_fit S local info h v is_const = local_by S local info h v is_const info.array refl

-- ---- objects

pub objects_fit : (S : Setting) (object : ℕ) (info : ObjectInfo) → slice_get S.code.objects object ≡ Some info → object < S.own → (is_array : Bool) → info.scalar ≡ not is_array → MeaningFits S (object_meaning object info.width info.constant is_array)
objects_fit S object info h o true e = record {
  fits = subst (λ o. IsSomeAnd o ArrayObject) (sym h) (subst (λ b. IsTrue (not b || info.addressed)) (sym e) refl);
  width_told = ap (λ o. option_map_or (λ it. it.width) o W32) h;
  written = λ c. subst (λ o. IsSomeAnd o (λ it. it.constant ≡ false)) (sym h) c;
}
objects_fit S object info h o false e = record {
  own = o;
  fits = subst (λ o. IsSomeAnd o (λ it. it.scalar ≡ true)) (sym h) e;
  width_told = ap (λ o. option_map_or (λ it. it.width) o W32) h;
  written = λ c. subst (λ o. IsSomeAnd o (λ it. it.constant ≡ false)) (sym h) c;
}

-- ---- parameters

parameter_by : (S : Setting) (slot : Slot) (local : ℕ) (info : LocalInfo) → slice_get S.routine.locals local ≡ Some info → info.width ≡ slot.width → info.array ≡ None → (b : Bool) → info.view ≡ b
    → MeaningFits S (cond b (meaning.Array (array.View local (views_before S.routine local)) slot.width slot.is_const) (meaning.Scalar (scalar.Local local) slot.width slot.is_const))
parameter_by S slot local info h w a true v = record {
  fits = (subst (λ o. IsSomeAnd o (λ it. it.view ≡ true)) (sym h) v, refl);
  width_told = subst (λ width. option_map_or (λ it. it.width) (slice_get S.routine.locals local) W32 ≡ width) w (ap (λ o. option_map_or (λ it. it.width) o W32) h);
  written = λ c. tt;
}
parameter_by S slot local info h w a false v = subst (λ width. ScalarFits S (scalar.Local local) width slot.is_const) w (scalar_local S local info h v a slot.is_const)

pub parameters_fit : (S : Setting) (slot : Slot) (local : ℕ) (info : LocalInfo) → slice_get S.routine.locals local ≡ Some info → info.width ≡ slot.width → info.view ≡ slot.is_view → info.array ≡ None → MeaningFits S (parameter_meaning slot local (views_before S.routine local))
parameters_fit S slot local info h w v a = parameter_by S slot local info h w a slot.is_view v
