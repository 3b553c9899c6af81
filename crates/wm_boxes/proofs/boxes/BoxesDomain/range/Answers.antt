use Rattle.std.proofs.Common.{sym, subst, ◌∙◌}
use Rattle.wm_interval.specs.declared.Interval.{Interval}
use Rattle.wm_interval.specs.Holds.{IsHullOf}
use Rattle.wm_domain.specs.Changes.{IsValueOf}
use Rattle.wm_spans.specs.Spanned.{In}
use Rattle.wm_spans.proofs.Ends.{range_hull}
use Rattle.wm_boxes.specs.Laws.{of_count}
use Rattle.wm_boxes.proofs.Others.{bare_of_empty}
use Rattle.wm_boxes.proofs.boxes.BoxesDomain.range.Goals as goal

pub range-requires : goal.range-requires
range-requires c = record { inside = of_count c.args.self.now.group c.args.self.now.spans c.args.v c.requires.inside }

pub returns-then-is_empty : goal.returns-then-is_empty
returns-then-is_empty c = record { exact = bare_of_empty c.args.self.now.spans (sym c.is_empty.ensures.value ∙ c.if-is_empty.true) }

pub returns : goal.returns
returns c = record {
  exact = subst (λ (r : Interval). IsHullOf (IsValueOf (In c.args.self.now.spans) c.args.v) r) (sym c.range.ensures.value)
      (range_hull c.args.self.now.spans c.range.ensures.kept (sym c.is_empty.ensures.value ∙ c.if-is_empty.false) c.args.v (of_count c.args.self.now.group c.args.self.now.spans c.args.v c.requires.inside));
}
