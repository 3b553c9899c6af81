-- Addressed parameters, the last one first.
use Rattle.std.proofs.Common.{◌≡◌, ℕ, zero, suc, ◌+◌, ◌-◌, ◌≢◌, List, [], ◌∷◌, ◌++◌, length, None, refl, ap, sym, ◌∙◌, append_assoc, append-nil, arith}
use Rattle.wm_flow.specs.declared.scene.Scene.{Scene}
use Rattle.wm_flow.specs.declared.seats.LocalSeat.{LocalSeat}
use Rattle.wm_flow.specs.declared.seats.LocalSeat.TheVariants as local_seat
use Rattle.wm_flow.specs.Kept.{form_of, variable}
use Rattle.wm_flow.specs.Plain.{Write}
use Rattle.wm_flow.specs.Places.{Plan, bases_of, temporary, above_at}
use Rattle.wm_flow.specs.Strokes.{step}
use Rattle.wm_flow.specs.Calls.{addressed_among, seats_of}
use Rattle.wm_flow.specs.Parts.{stored_from, storing_from}
use Rattle.wm_program.specs.Code.{routine_at}
use Rattle.wm_pen.specs.Ink.{Ink, put}
use Rattle.wm_pen.proofs.Joins.{put_none, put_after}
use Rattle.wm_steps.specs.Moves.{stepped}
use Rattle.wm_parameters.specs.Draws.{writes, storing, storing_all}

pub stored_none : (plan : Plan) (scene : Scene) (count above kept : ℕ) (ink : Ink) → storing plan scene [] count above kept ink ≡ ink
unfolding storing
stored_none plan scene count above kept ink = put_none ink

pub stored_end : (plan : Plan) (scene : Scene) (seat : LocalSeat) (rest : List LocalSeat) (above kept : ℕ) (ink : Ink) → storing plan scene (seat ∷ rest) 0 above kept ink ≡ ink
unfolding storing
stored_end plan scene seat rest above kept ink = put_none ink

pub stored_scalar : (plan : Plan) (scene : Scene) (k : ℕ) (rest : List LocalSeat) (count above kept : ℕ) (ink : Ink) → storing plan scene (local_seat.Scalar k ∷ rest) (suc count) above kept ink ≡ storing plan scene rest count above kept ink
unfolding storing
stored_scalar plan scene k rest count above kept ink = refl

pub stored_array : (plan : Plan) (scene : Scene) (k : ℕ) (rest : List LocalSeat) (count above kept : ℕ) (ink : Ink) → stepped plan scene (Write (above + k) (form_of (variable (temporary (bases_of plan scene) kept))) 1) None kept (storing plan scene rest count above (suc kept) ink) ≡ storing plan scene (local_seat.Array k ∷ rest) (suc count) above kept ink
unfolding storing stepped
stored_array plan scene k rest count above kept ink =
    let n = addressed_among rest count in
    let doing = Write (above + k) (form_of (variable (temporary (bases_of plan scene) kept))) 1 in
    let e : n + 1 ≡ suc n = omega arith in
    put_after n 1 (writes plan scene rest count above (suc kept) ink.node) (λ node. step plan scene node doing None kept) ink
    ∙ ap (λ m. put m (writes plan scene rest count above (suc kept) ink.node ++ step plan scene (ink.node + n) doing None kept) ink) e

-- by what the code knows of the locals
pub none_is : (plan : Plan) (scene : Scene) (seats : List LocalSeat) (count above kept : ℕ) (ink : Ink) → seats ≡ [] → ink ≡ storing plan scene seats count above kept ink
none_is plan scene seats count above kept ink is =
    sym (ap (λ (xs : List LocalSeat). storing plan scene xs count above kept ink) is ∙ stored_none plan scene count above kept ink)

pred_is : (count : ℕ) → count ≢ 0 → suc (count - 1) ≡ count
pred_is count h = omega arith

pub scalar_is : (plan : Plan) (scene : Scene) (k : ℕ) (seat : LocalSeat) (seats rest : List LocalSeat) (count above kept : ℕ) (ink : Ink) → seats ≡ seat ∷ rest → seat ≡ local_seat.Scalar k → count ≢ 0 → storing plan scene rest (count - 1) above kept ink ≡ storing plan scene seats count above kept ink
scalar_is plan scene k seat seats rest count above kept ink is scalar h =
    sym (ap (λ (xs : List LocalSeat). storing plan scene xs count above kept ink) (is ∙ ap (λ (x : LocalSeat). x ∷ rest) scalar)
    ∙ (ap (λ n. storing plan scene (local_seat.Scalar k ∷ rest) n above kept ink) (sym (pred_is count h))
    ∙ stored_scalar plan scene k rest (count - 1) above kept ink))

-- in front of others that are stored behind them
stored_before : (plan : Plan) (scene : Scene) (seats : List LocalSeat) (count above : ℕ) (behind : List ℕ) (node : ℕ) → storing_from plan scene (stored_from seats count above behind) node ≡ writes plan scene seats count above (length behind) node ++ storing_from plan scene behind (node + addressed_among seats count)
stored_before plan scene [] count above behind node =
    let e : node ≡ node + 0 = omega arith in
    ap (λ n. storing_from plan scene behind n) e
stored_before plan scene (seat ∷ rest) zero above behind node =
    let e : node ≡ node + 0 = omega arith in
    ap (λ n. storing_from plan scene behind n) e
stored_before plan scene (local_seat.Scalar k ∷ rest) (suc count) above behind node = stored_before plan scene rest count above behind node
stored_before plan scene (local_seat.Array k ∷ rest) (suc count) above behind node =
    let n = addressed_among rest count in
    let doing = Write (above + k) (form_of (variable (temporary (bases_of plan scene) (length behind)))) 1 in
    let one = step plan scene (node + n) doing None (length behind) in
    let e : suc (node + n) ≡ node + suc n = omega arith in
    stored_before plan scene rest count above ((above + k) ∷ behind) node
    ∙ (sym (append_assoc (writes plan scene rest count above (suc (length behind)) node) one (storing_from plan scene behind (suc (node + n))))
    ∙ ap (λ m. (writes plan scene rest count above (suc (length behind)) node ++ one) ++ storing_from plan scene behind m) e)

pub all_stored : (plan : Plan) (scene : Scene) (ink : Ink) → storing plan scene (seats_of plan scene.function) (routine_at plan.code scene.function).parameters (above_at plan.tables scene.instance) 0 ink ≡ storing_all plan scene ink
unfolding storing storing_all
all_stored plan scene ink =
    let seats = seats_of plan scene.function in
    let count = (routine_at plan.code scene.function).parameters in
    let above = above_at plan.tables scene.instance in
    ap (λ xs. put (addressed_among seats count) xs ink)
    (sym (append-nil (writes plan scene seats count above 0 ink.node))
    ∙ sym (stored_before plan scene seats count above [] ink.node))
