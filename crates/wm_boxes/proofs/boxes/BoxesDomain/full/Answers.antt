use Rattle.std.proofs.Common.{List, length, subst}
use Rattle.wm_interval.specs.declared.Interval.{Interval}
use Rattle.wm_spans.specs.Exact.{Exactly, IsBlank}
use Rattle.wm_boxes.proofs.Least.{exactly_keeps, exactly_least}
use Rattle.wm_boxes.proofs.boxes.BoxesDomain.full.Goals as goal

pub returns-clause-sound : goal.returns-clause-sound
returns-clause-sound c = exactly_keeps _ _ (subst (λ (xs : List Interval). Exactly c.in_ok-spans.spans (IsBlank (length xs))) c.items-2.ensures.items c.in_ok-spans.ensures.points)

pub returns-clause-least : goal.returns-clause-least
returns-clause-least c = exactly_least _ _ (subst (λ (xs : List Interval). Exactly c.in_ok-spans.spans (IsBlank (length xs))) c.items-2.ensures.items c.in_ok-spans.ensures.points)

pub returns-clause-unset : goal.returns-clause-unset
returns-clause-unset c = (subst (λ (xs : List Interval). Exactly c.in_ok-spans.spans (IsBlank (length xs))) c.items-2.ensures.items c.in_ok-spans.ensures.points).made
