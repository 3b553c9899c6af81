use Rattle.std.proofs.Common.{◌∙◌, ap, length, ◌-◌}
use Rattle.wm_instances.specs.Instances.{called, grown_by, grown_each}
use Rattle.wm_instances.proofs.Growing.{begun, on}
use Rattle.wm_instances.proofs.trees.+grow.Goals as goal

pub loop-place-init : goal.loop-place-init
loop-place-init t c =
    let f = grown_by (c.args.depth - 1) c.args.calls.now c.in_ok-number-in-Some.number c.in_ok-roots-in-Some.roots.items in
    ap (λ places. grown_each f places c.push.new.self) c.items-place-items.ensures.items
    ∙ ap (grown_each f c.in-Some.places.now) c.in_ok-push-in-Some.ensures.grown
    ∙ begun c.args.depth c.args.calls.now c.args.info c.args.made.now c.in-Some.places.now c.in_ok-number-in-Some.number c.in_ok-roots-in-Some.roots.items c.if-depth-eq0.false c.in-Some.ensures
    (c.in_ok-number-in-Some.ensures ∙ ap length c.items.ensures.items)
    (c.in_ok-roots-in-Some.ensures ∙ c.items-in-Some.ensures.items)

pub loop-place-preserved : goal.loop-place-preserved
loop-place-preserved t c =
    on (c.args.depth - 1) c.args.calls.now c.in_ok-number-in-Some.number c.in_ok-roots-in-Some.roots.items c.items-place-items.result.now c.loop-place.place-index c.place-item.result c.in_ok-next-in-Some.next c.loop-place.made c.grow.new.made _ c.loop-place-test.true c.place-item.is
    (c.in_ok-next-in-Some.ensures ∙ ap (λ r. called c.in_ok-number-in-Some.number r c.place-item.result) c.as_slice.ensures.value) c.in_ok-grow-in-Some.ensures.grown c.loop-place.invariant
