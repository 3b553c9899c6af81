use Rattle.std.proofs.Common.{◌∙◌, sym}
use Rattle.wm_spans.proofs.Raising.{included, included_empty, included_in_empty}
use Rattle.wm_spans.proofs.spans.Spans.within.Goals as goal

pub returns-then-is_empty : goal.returns-then-is_empty
returns-then-is_empty c = record { inclusion = included_empty c.args.self.now c.args.other.now (sym c.is_empty.ensures.value ∙ c.if-is_empty.true) }

pub returns-then-is_empty-2 : goal.returns-then-is_empty-2
returns-then-is_empty-2 c = record {
  inclusion = included_in_empty c.args.self.now c.args.other.now c.is_empty.ensures.kept (sym c.is_empty.ensures.value ∙ c.if-is_empty.false) (sym c.is_empty-2.ensures.value ∙ c.if-is_empty-2.true);
}

pub returns : goal.returns
returns c = record {
  inclusion = included c.args.self.now c.args.other.now c.is_below.ensures.here c.is_below.ensures.there c.requires.full c.requires.array_full (sym c.is_empty.ensures.value ∙ c.if-is_empty.false) (sym c.is_empty-2.ensures.value ∙ c.if-is_empty-2.false)
      c.is_below.result c.is_below.ensures.value;
}
