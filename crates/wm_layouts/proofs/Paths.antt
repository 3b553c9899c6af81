-- The arrays of the open instances, one caller after another.
use Rattle.std.proofs.Common.{◌≡◌, ◌∙◌, ℕ, zero, suc, ◌-◌, List, [], ◌∷◌, ◌++◌, Option, Some, None, refl, ap, sym, append_assoc, arith}
use Rattle.std.specs.Prelude.{Result, Ok, Err, OnOk}
use Rattle.std.specs.Option.{option_map_or}
use Rattle.wm_program.specs.declared.program.LocalInfo.{LocalInfo}
use Rattle.wm_program.specs.Code.{Code}
use Rattle.wm_flow.specs.Plain.{Range}
use Rattle.wm_flow.specs.Layouts.{array_ranges, locals_of, caller_of, path_arrays}

pub path_end : (code : Code) (levels instance : ℕ) (old new : List Range) → levels ≡ 0 → new ≡ old ++ array_ranges (locals_of code instance) → new ≡ old ++ path_arrays code levels instance
unfolding path_arrays
path_end code zero instance old new h g = g
path_end code (suc levels) instance old new h g = absurd (omega arith)

pub path_root : (code : Code) (levels instance : ℕ) (old new : List Range) → None ≡ caller_of code instance → new ≡ old ++ array_ranges (locals_of code instance) → new ≡ old ++ path_arrays code levels instance
unfolding path_arrays
path_root code zero instance old new h g = g
path_root code (suc levels) instance old new h g =
    g ∙ ap (λ caller. old ++ (option_map_or (path_arrays code levels) caller [] ++ array_ranges (locals_of code instance))) h

pub path_on : (code : Code) (levels instance caller : ℕ) (old mid new : List Range) → (levels ≡ 0 → ⊥) → Some caller ≡ caller_of code instance → mid ≡ old ++ path_arrays code (levels - 1) caller → new ≡ mid ++ array_ranges (locals_of code instance) → new ≡ old ++ path_arrays code levels instance
unfolding path_arrays
path_on code zero instance caller old mid new h k m g = absurd (h refl)
path_on code (suc levels) instance caller old mid new h k m g =
    let e : suc levels - 1 ≡ levels = omega arith in
    g
    ∙ (ap (λ list. list ++ array_ranges (locals_of code instance)) (m ∙ ap (λ n. old ++ path_arrays code n caller) e)
    ∙ (append_assoc old (path_arrays code levels caller) (array_ranges (locals_of code instance))
    ∙ ap (λ it. old ++ (option_map_or (path_arrays code levels) it [] ++ array_ranges (locals_of code instance))) k))

pub path_on_ok : {T E : Type 0} (result : Result T E) (code : Code) (levels instance caller : ℕ) (old mid new : List Range) (locals : List LocalInfo) → (levels ≡ 0 → ⊥) → Some caller ≡ caller_of code instance → mid ≡ old ++ path_arrays code (levels - 1) caller → locals ≡ locals_of code instance → OnOk result (new ≡ mid ++ array_ranges locals) → OnOk result (new ≡ old ++ path_arrays code levels instance)
path_on_ok (Ok x) code levels instance caller old mid new locals h k m l g =
    path_on code levels instance caller old mid new h k m (g ∙ ap (λ it. mid ++ array_ranges it) l)
path_on_ok (Err e) code levels instance caller old mid new locals h k m l g = g
