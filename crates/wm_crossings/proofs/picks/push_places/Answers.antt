use Rattle.wm_crossings.proofs.Places.{places_step}
use Rattle.wm_crossings.proofs.picks.push_places.Goals as goal

pub loop-k-preserved : goal.loop-k-preserved
loop-k-preserved c =
    places_step c.args.picks.now c.loop-k.picks c.push.new.self c.args.first c.loop-k.k c.in_ok-place.place
    c.in_ok-push.ensures.grown c.in_ok-place.ensures c.loop-k.invariant
