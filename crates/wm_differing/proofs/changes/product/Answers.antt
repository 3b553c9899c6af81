use Rattle.wm_differing.proofs.Adding.{no_hull, product_added}
use Rattle.wm_differing.proofs.changes.product.Goals as goal

pub returns-in-None : goal.returns-in-None
returns-in-None c = no_hull c.args.op c.args.away c.args.boxes.now c.box_of-second.result c.box_of-third.result c.box_of-second.ensures c.box_of-third.ensures c.in-None.ensures.range

pub returns-in-Some : goal.returns-in-Some
returns-in-Some c =
    product_added c.args.op c.args.away c.args.boxes.now c.box_of-second.result c.box_of-third.result c.in-Some.r c.turned.result c.box_of-second.ensures c.box_of-third.ensures c.requires.fit c.in-Some.ensures.range c.turned.ensures
