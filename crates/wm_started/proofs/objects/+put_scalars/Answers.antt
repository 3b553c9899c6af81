use Rattle.std.proofs.Common.{Option, sym, subst, ℕ, ℤ, FitsSigned, w64, rules}
use Rattle.std.proofs.lemmas.Int.{to_z-of_z}
use Rattle.std.proofs.lemmas.Result.{on_ok_weaker}
use Rattle.wm_started.specs.Starting.{NumberAt, first_number}
use Rattle.wm_started.proofs.Putting.{numbers_parts}
use Rattle.wm_started.proofs.objects.+put_scalars.Goals as goal

pub returns-in_ok-put-in-Some-split_first-clause-sound : goal.returns-in_ok-put-in-Some-split_first-clause-sound
returns-in_ok-put-in-Some-split_first-clause-sound t c =
    on_ok_weaker c.put_scalars.result (λ f p all k.
    let fits : FitsSigned w64 c.first_number.result = search rules in
    let parts = numbers_parts c.args.seats.now c.in-Some-split_first.rest.now c.args.objects.now c.in-Some.more.now c.in-Some-split_first.seat.now c.in-Some.object.now c.args.start.bases c.args.start.inputs p c.in-Some-split_first.ensures.cases.0 c.in-Some.ensures.cases.0 all in
    f p parts.1 (c.in_ok-put-in-Some-split_first.ensures.sound p
    (subst (λ (z : ℤ). NumberAt c.in_ok-v-in-Some-split_first.v z p) (sym (to_z-of_z w64 c.first_number.result fits))
    (subst (λ (z : ℤ). NumberAt c.in_ok-v-in-Some-split_first.v z p) (sym c.first_number.ensures)
    (subst (λ (v : Option ℕ). NumberAt v (first_number c.in-Some.object.now) p) (sym c.in_ok-v-in-Some-split_first.ensures) parts.0))) k))
    c.put_scalars.ensures.sound

pub returns-in_ok-put-in-Some-split_first-clause-inside : goal.returns-in_ok-put-in-Some-split_first-clause-inside
returns-in_ok-put-in-Some-split_first-clause-inside t c =
    on_ok_weaker c.put_scalars.result (λ f k. f (c.in_ok-put-in-Some-split_first.ensures.inside k)) c.put_scalars.ensures.inside
