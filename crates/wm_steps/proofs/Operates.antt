-- An operator: its values wait for it, it is counted, and it is applied.
use Rattle.std.proofs.Common.{◌≡◌, ℕ, suc, ◌+◌, [], ◌∷◌, ◌++◌, Some, None, ap, ◌∙◌, arith}
use Rattle.wm_ops.specs.declared.operators.Op.{Op}
use Rattle.wm_ops.specs.declared.words.Counted.TheVariants as counted
use Rattle.wm_flow.specs.declared.scene.Held.{Held}
use Rattle.wm_flow.specs.declared.scene.Scene.{Scene}
use Rattle.wm_flow.specs.Plain.{Count, Operate}
use Rattle.wm_flow.specs.Places.{Plan, bases_of, overflow_place}
use Rattle.wm_flow.specs.Strokes.{step}
use Rattle.wm_flow.specs.Yields.{own_operator, yield_size, yield_strokes}
use Rattle.wm_flow.specs.Expressions.{operands, argument_form, operate_strokes}
use Rattle.wm_pen.specs.Ink.{Ink, put}
use Rattle.wm_pen.proofs.Joins.{put_after3}
use Rattle.wm_steps.specs.Moves.{stepped, yielding, applying, operating}

pub operating_joins : (plan : Plan) (scene : Scene) (op : Op) (site : ℕ) (held : Held) (target temporaries : ℕ) (ink : Ink) → applying plan scene op site (operands (bases_of plan scene) held) target temporaries (yielding plan scene own_operator held.values held.temporaries ink) ≡ operating plan scene op site held target temporaries ink
unfolding applying stepped yielding operating operate_strokes
operating_joins plan scene op site held target temporaries ink =
    let bases = bases_of plan scene in
    let own = operands bases held in
    let s = yield_size bases own_operator held.values in
    let doing = Operate op (argument_form own.values 0 ∷ argument_form own.values 1 ∷ argument_form own.values 2 ∷ []) target (overflow_place bases) in
    let first = yield_strokes plan scene own_operator held.values ink.node held.temporaries ++ step plan scene (ink.node + s) (Count (counted.Operator op)) None own.temporaries in
    let e : s + 1 + 1 ≡ s + 2 = omega arith in
    let h : ink.node + s + 1 ≡ suc (ink.node + s) = omega arith in
    put_after3 s 1 1 (yield_strokes plan scene own_operator held.values ink.node held.temporaries) (λ node. step plan scene node (Count (counted.Operator op)) None own.temporaries) (λ node. step plan scene node doing (Some site) temporaries) ink
    ∙ (ap (λ n. put n (first ++ step plan scene (ink.node + s + 1) doing (Some site) temporaries) ink) e
    ∙ ap (λ n. put (s + 2) (first ++ step plan scene n doing (Some site) temporaries) ink) h)
