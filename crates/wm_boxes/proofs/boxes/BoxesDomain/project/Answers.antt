use Rattle.wm_boxes.proofs.Least.{exactly_keeps, exactly_least}
use Rattle.wm_boxes.specs.Laws.{of_picks}
use Rattle.wm_boxes.proofs.boxes.BoxesDomain.project.Goals as goal

pub project-requires-clause-picks : goal.project-requires-clause-picks
project-requires-clause-picks c = of_picks c.args.self.now.group c.args.self.now.spans c.args.picks.now c.requires.picks

pub returns-clause-sound : goal.returns-clause-sound
returns-clause-sound c = exactly_keeps _ _ c.in_ok-spans.ensures.points

pub returns-clause-least : goal.returns-clause-least
returns-clause-least c = exactly_least _ _ c.in_ok-spans.ensures.points
