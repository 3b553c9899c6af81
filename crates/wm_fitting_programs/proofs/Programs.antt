-- Programs that are made.
use Rattle.std.proofs.Common.{◌≡◌, ℕ, ◌<◌, Bool, true, false, cond, List, [], ◌∷◌, ◌++◌, length, map, Some, None, refl, sym, subst, arith}
use Rattle.std.proofs.lemmas.List.Elements.{All-nil, All-push, All-map, All-weaker}
use Rattle.std.specs.List.{All}
use Rattle.std.specs.Prelude.{IsSomeAnd, slice_get}
use Rattle.wm_lang.specs.declared.unit.Unit.{Unit as Source}
use Rattle.wm_ops.specs.Arguments.{HasWidth}
use Rattle.wm_ops.specs.declared.operators.Width.TheVariants.{W16}
use Rattle.wm_program.specs.declared.program.FunctionInfo.{FunctionInfo}
use Rattle.wm_program.specs.declared.program.LoopInfo.{LoopInfo}
use Rattle.wm_program.specs.declared.program.ObjectInfo.{ObjectInfo}
use Rattle.wm_program.specs.declared.spec.RangeOf.{RangeOf}
use Rattle.wm_program.specs.declared.spec.Spec.{Spec}
use Rattle.wm_program.specs.Code.{Code, code_of, routine_of}
use Rattle.wm_program.specs.WellFormed.{ObjectFits}
use Rattle.wm_scope.specs.declared.reading.Reading.{Reading}
use Rattle.wm_inputs.specs.Chooser.{call_object, chooser}
use Rattle.wm_inputs.specs.Ranges.{marked_object, marked_objects}
use Rattle.wm_assemble.specs.declared.plan.Started.{Started}
use Rattle.wm_assemble.specs.Linked.{functions_of, finished}
use Rattle.wm_assemble.specs.Plans.{has_choice}
use Rattle.wm_reading.specs.Reading.{read_unit}
use Rattle.wm_fitting.proofs.Collecting.{get_front}
use Rattle.wm_fitting_declarations.specs.Works.{LoopFits}
use Rattle.wm_fitting_units.specs.Passes.{IsPlainItem, SameObject, Contains, ReadingFits}
use Rattle.wm_fitting_units.proofs.Units.{units_fit}
use Rattle.wm_fitting_programs.specs.Laws.{HasOffsets, PartsFit}
use Rattle.wm_fitting_programs.proofs.Offsets.{map_get}

-- ---- the functions of the source stand before the one that chooses

functions_by : (b : Bool) (functions : List FunctionInfo) (last : FunctionInfo) (k : ℕ) (info : FunctionInfo) → slice_get functions k ≡ Some info → slice_get (cond b (functions ++ last ∷ []) functions) k ≡ Some info
functions_by true functions last k info e = get_front functions (last ∷ []) k info e
functions_by false functions last k info e = e

-- ---- the objects of the source stand before `call`

marked_fits : (ranges : List RangeOf) (x : ObjectInfo) → ObjectFits x → ObjectFits (marked_object ranges x)
marked_fits ranges x f = record { not_empty = f.not_empty; scalar_length = f.scalar_length; initial_length = f.initial_length; initial_width = f.initial_width }

call_fits : ObjectFits call_object
call_fits = record { not_empty = omega arith; scalar_length = λ e. refl; initial_length = omega arith; initial_width = All-nil (HasWidth W16) }

all_marked : (ranges : List RangeOf) (objects : List ObjectInfo) → All ObjectFits objects → All ObjectFits (marked_objects ranges objects)
unfolding marked_objects
all_marked ranges objects a =
    All-map ObjectFits (marked_object ranges) objects (All-weaker ObjectFits (λ x. ObjectFits (marked_object ranges x)) (marked_fits ranges) objects a)

objects_by : (b : Bool) (objects : List ObjectInfo) → All ObjectFits objects → All ObjectFits (cond b (objects ++ call_object ∷ []) objects)
objects_by true objects a = All-push ObjectFits objects call_object a call_fits
objects_by false objects a = a

marked_same : (ranges : List RangeOf) (x : ObjectInfo) → SameObject x (marked_object ranges x)
marked_same ranges x = record { like = record { width = refl; scalar = refl; constant = refl }; addressed = refl }

there_by : (b : Bool) (ranges : List RangeOf) (objects : List ObjectInfo) (k : ℕ) (x : ObjectInfo) → slice_get objects k ≡ Some x
    → slice_get (cond b (marked_objects ranges objects ++ call_object ∷ []) (marked_objects ranges objects)) k ≡ Some (marked_object ranges x)
unfolding marked_objects
there_by true ranges objects k x e = get_front (map (marked_object ranges) objects) (call_object ∷ []) k (marked_object ranges x) (map_get (marked_object ranges) objects k x e)
there_by false ranges objects k x e = map_get (marked_object ranges) objects k x e

-- ---- programs

contains : (spec : Spec) (started : Started) (reading : Reading) → HasOffsets started.offsets reading.calls → Contains (code_of (finished spec started reading)) started.offsets reading
unfolding finished
contains spec started reading h = record {
  functions = λ k info e. map_get routine_of (functions_of (length reading.objects) started.sizes started.frames reading.functions) k info
      (functions_by (has_choice started.frames) reading.functions (chooser (length reading.objects) started.sizes started.frames) k info e);
  objects = λ k x e. subst (λ o. IsSomeAnd o (SameObject x)) (sym (there_by (has_choice started.frames) spec.ranges reading.objects k x e)) (marked_same spec.ranges x);
  sites = refl;
  loops = refl;
  calls = h;
}

loop_fits : (code : Code) (it : LoopInfo) → LoopFits code it → (it.function < length code.routines) × (0 < it.step) × (it.step < 32768)
loop_fits code it f = (f.function, f.least, f.greatest)

parts_fit : (spec : Spec) (started : Started) (reading : Reading) → HasOffsets started.offsets reading.calls → ReadingFits (code_of (finished spec started reading)) reading → PartsFit (code_of (finished spec started reading)) reading
unfolding finished
parts_fit spec started reading h r =
    let code = code_of (finished spec started reading) in
    record {
      there = (contains spec started reading h).functions;
      functions = r.functions;
      objects = objects_by (has_choice started.frames) (marked_objects spec.ranges reading.objects) (all_marked spec.ranges reading.objects r.objects);
      loops = All-weaker (LoopFits code) (λ it. (it.function < length code.routines) × (0 < it.step) × (it.step < 32768)) (loop_fits code) reading.loops r.loops;
    }

pub programs_fit : (unit : Source) → All IsPlainItem unit.items → (spec : Spec) (started : Started)
    → (read_unit unit started.offsets).least ≡ None → HasOffsets started.offsets (read_unit unit started.offsets).calls
    → PartsFit (code_of (finished spec started (read_unit unit started.offsets))) (read_unit unit started.offsets)
programs_fit unit q spec started l h =
    let reading = read_unit unit started.offsets in
    parts_fit spec started reading h (units_fit (code_of (finished spec started reading)) unit q started.offsets l (contains spec started reading h))
