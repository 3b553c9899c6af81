use Rattle.std.proofs.Common.{sym, ◌∙◌, true≢false}
use Rattle.wm_cast.proofs.Narrowing.{narrow_itself, narrow_all}
use Rattle.wm_cast.proofs.casts.narrowed.Goals as goal

pub returns-then-within : goal.returns-then-within
returns-then-within c = record { narrow = narrow_itself c.args.range c.new-all.result c.new-all.ensures.low c.new-all.ensures.high (c.within.ensures.ends.0 c.if-within.true).0 (c.within.ensures.ends.0 c.if-within.true).1 }

pub returns : goal.returns
returns c = record { narrow = narrow_all c.args.range c.new-all.result c.new-all.ensures.low c.new-all.ensures.high (λ h. true≢false (sym (c.within.ensures.ends.1 h) ∙ c.if-within.false)) }
