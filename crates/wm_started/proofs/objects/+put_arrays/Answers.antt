use Rattle.std.proofs.Common.{Option, sym, subst, ℕ}
use Rattle.std.proofs.lemmas.Result.{on_ok_weaker}
use Rattle.wm_started.specs.Starting.{CellsAt}
use Rattle.wm_started.proofs.Putting.{cells_parts}
use Rattle.wm_started.proofs.objects.+put_arrays.Goals as goal

pub returns-in_ok-put_object-in-Some-split_first-clause-sound : goal.returns-in_ok-put_object-in-Some-split_first-clause-sound
returns-in_ok-put_object-in-Some-split_first-clause-sound t c =
    on_ok_weaker c.put_arrays.result (λ f p all k.
    let parts = cells_parts c.args.seats.now c.in-Some-split_first.rest.now c.args.objects.now c.in-Some.more.now c.in-Some-split_first.seat.now c.in-Some.object.now p c.in-Some-split_first.ensures.cases.0 c.in-Some.ensures.cases.0 all in
    f p parts.1 (c.in_ok-put_object-in-Some-split_first.ensures.sound p (subst (λ (a : Option ℕ). CellsAt a c.in-Some.object.now p) (sym c.array_of.ensures) parts.0) k))
    c.put_arrays.ensures.sound

pub returns-in_ok-put_object-in-Some-split_first-clause-inside : goal.returns-in_ok-put_object-in-Some-split_first-clause-inside
returns-in_ok-put_object-in-Some-split_first-clause-inside t c =
    on_ok_weaker c.put_arrays.result (λ f k. f (c.in_ok-put_object-in-Some-split_first.ensures.inside k)) c.put_arrays.ensures.inside
