use Rattle.std.proofs.Common.{◌∙◌, sym}
use Rattle.wm_spans.proofs.Joined.{join_none_kept, join_none_spanned, join_like_kept, join_like_spanned, join_two_kept, join_two_spanned}
use Rattle.wm_spans.proofs.spans.Spans.join_with.Goals as goal

pub returns-then-is_empty-clause-kept : goal.returns-then-is_empty-clause-kept
returns-then-is_empty-clause-kept c = join_none_kept c.args.self.now c.args.other.now (sym c.is_empty.ensures.value ∙ c.if-is_empty.true)

pub returns-then-is_empty-clause-spanned : goal.returns-then-is_empty-clause-spanned
returns-then-is_empty-clause-spanned c = join_none_spanned c.args.self.now c.args.other.now

pub returns-then-is_empty-2-clause-kept : goal.returns-then-is_empty-2-clause-kept
returns-then-is_empty-2-clause-kept c = join_like_kept c.args.self.now c.args.other.now c.become_like.new.self (sym c.is_empty-2.ensures.value ∙ c.if-is_empty-2.true) (sym c.is_empty.ensures.value ∙ c.if-is_empty.false) c.become_like.ensures.value

pub returns-then-is_empty-2-clause-spanned : goal.returns-then-is_empty-2-clause-spanned
returns-then-is_empty-2-clause-spanned c = join_like_spanned c.args.self.now c.args.other.now c.become_like.new.self (sym c.is_empty.ensures.value ∙ c.if-is_empty.false) c.become_like.ensures.value

pub returns-clause-kept : goal.returns-clause-kept
returns-clause-kept c = join_two_kept c.args.self.now c.args.other.now c.raise.new.self c.raise.ensures.here c.raise.ensures.there (sym c.is_empty-2.ensures.value ∙ c.if-is_empty-2.false) (sym c.is_empty.ensures.value ∙ c.if-is_empty.false) c.requires.full c.requires.array_full c.raise.ensures.raised

pub returns-clause-spanned : goal.returns-clause-spanned
returns-clause-spanned c = join_two_spanned c.args.self.now c.args.other.now c.raise.new.self c.raise.ensures.here c.raise.ensures.there (sym c.is_empty-2.ensures.value ∙ c.if-is_empty-2.false) (sym c.is_empty.ensures.value ∙ c.if-is_empty.false) c.requires.full c.requires.array_full c.raise.ensures.raised
