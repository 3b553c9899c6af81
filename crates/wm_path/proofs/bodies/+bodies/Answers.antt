use Rattle.std.proofs.Common.{◌∙◌, sym}
use Rattle.wm_path.specs.Fields.{seen}
use Rattle.wm_path.proofs.Levels.{all_bodies, no_level}
use Rattle.wm_path.proofs.bodies.+bodies.Goals as goal

pub bodies_of-returns-then-levels-eq0 : goal.bodies_of-returns-then-levels-eq0
bodies_of-returns-then-levels-eq0 t c = c.new-bodies.ensures ∙ sym (no_level c.args.levels (seen c.args.field.now) c.args.edges.now c.if-levels-eq0.true)

pub bodies_of-returns : goal.bodies_of-returns
bodies_of-returns t c =
    all_bodies c.args.levels (seen c.args.field.now) c.args.edges.now c.loop-number.bodies c.loop-number.number-index c.if-levels-eq0.false c.loop-number-test.false c.loop-number.invariant
