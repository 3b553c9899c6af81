use Rattle.std.proofs.lemmas.List.{drop_more}
use Rattle.wm_flow.specs.Places.{bases_of}
use Rattle.wm_places.specs.Seen.{plan_of}
use Rattle.wm_steps.specs.Moves.{yielding}
use Rattle.wm_steps.specs.Values.{all_waited}
use Rattle.wm_steps.proofs.ValuesWait.{turn_values, turn_strokes, ended_values, ended_strokes}
use Rattle.wm_steps.proofs.yields.wait_all.Goals as goal

pub loop-kept-preserved : goal.loop-kept-preserved
loop-kept-preserved c =
    let plan = plan_of c.args.plan.now in
    let next = drop_more c.args.values.now c.loop-kept.kept-index _ c.loop-kept-test.true in (
      turn_values (bases_of plan c.args.scene) c.args.it c.args.values.now c.loop-kept.kept-index _ c.loop-kept.held c.wait_next.new.held (all_waited (bases_of plan c.args.scene) c.args.it c.args.held.now c.args.values.now) next c.in_ok-wait_next.ensures.values c.loop-kept.invariant.0,
      turn_strokes plan c.args.scene c.args.it c.args.values.now c.loop-kept.kept-index _ c.loop-kept.held c.wait_next.new.held c.loop-kept.pen c.wait_next.new.pen (yielding plan c.args.scene c.args.it c.args.values.now c.args.held.now.temporaries c.args.pen.now) next c.in_ok-wait_next.ensures.values c.in_ok-wait_next.ensures.strokes c.loop-kept.invariant.1,
    )

pub returns-clause-values : goal.returns-clause-values
returns-clause-values c =
    let bases = bases_of (plan_of c.args.plan.now) c.args.scene in
    ended_values bases c.args.it c.args.values.now c.loop-kept.kept-index c.loop-kept.held (all_waited bases c.args.it c.args.held.now c.args.values.now) c.loop-kept-test.false c.loop-kept.invariant.0

pub returns-clause-strokes : goal.returns-clause-strokes
returns-clause-strokes c =
    let plan = plan_of c.args.plan.now in
    ended_strokes plan c.args.scene c.args.it c.args.values.now c.loop-kept.kept-index c.loop-kept.held.temporaries c.loop-kept.pen (yielding plan c.args.scene c.args.it c.args.values.now c.args.held.now.temporaries c.args.pen.now) c.loop-kept-test.false c.loop-kept.invariant.1
