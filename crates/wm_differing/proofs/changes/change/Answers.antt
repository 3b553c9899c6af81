use Rattle.wm_differing.proofs.Adding.{change_is, no_change, no_added}
use Rattle.wm_differing.proofs.changes.change.Goals as goal

pub returns-in-None : goal.returns-in-None
returns-in-None c = record { exact = no_change c.args.op c.args.boxes.now c.in-None.ensures }

pub returns-in-None-added : goal.returns-in-None-added
returns-in-None-added c = record { exact = no_added c.args.op c.in-Some.what c.args.boxes.now c.in-Some.ensures c.in-None-added.ensures }

pub returns-in-Some-added : goal.returns-in-Some-added
returns-in-Some-added c = record { exact = change_is c.args.op c.in-Some.what c.args.boxes.now c.in-Some-added.d c.joined.result c.in-Some.ensures c.in-Some-added.ensures c.joined.ensures }
