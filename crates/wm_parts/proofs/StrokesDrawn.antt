-- An instance with all that it calls, by its levels.
use Rattle.std.proofs.Common.{◌≡◌, ℕ, zero, suc, ◌-◌, ◌<◌, refl, ap, sym, ◌∙◌, arith}
use Rattle.wm_flow.specs.Places.{Plan}
use Rattle.wm_flow.specs.Parts.{part_strokes}
use Rattle.wm_flow.specs.Graphs.{Sketch, all_drawn, drawn_part}

pub part_none : (plan : Plan) (instance start : ℕ) (sketch : Sketch) → drawn_part plan 0 instance start sketch ≡ sketch
unfolding drawn_part
part_none plan instance start sketch = refl

part_suc : (plan : Plan) (levels instance start : ℕ) (sketch : Sketch) → drawn_part plan (suc levels) instance start sketch ≡ all_drawn plan.code (drawn_part plan levels) (part_strokes plan instance start) sketch
unfolding drawn_part
part_suc plan levels instance start sketch = refl

pub part_some : (plan : Plan) (levels instance start : ℕ) (sketch : Sketch) → 0 < levels → drawn_part plan levels instance start sketch ≡ all_drawn plan.code (drawn_part plan (levels - 1)) (part_strokes plan instance start) sketch
part_some plan levels instance start sketch h =
    let e : levels ≡ suc (levels - 1) = omega arith in
    ap (λ n. drawn_part plan n instance start sketch) e ∙ part_suc plan (levels - 1) instance start sketch
