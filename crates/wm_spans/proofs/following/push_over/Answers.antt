use Rattle.wm_spans.proofs.Over.{pushed_short, pushed_long}
use Rattle.wm_spans.proofs.following.push_over.Goals as goal

pub returns-then-old-new : goal.returns-then-old-new
returns-then-old-new g c = record { items = pushed_short c.args.list.now.items _ _ c.args.old.now c.args.new.now c.if-old-new.true c.in_ok-push_all.ensures.items c.in_ok-push_all-2.ensures.items }

pub returns : goal.returns
returns g c = record { items = pushed_long c.args.list.now.items _ c.args.old.now c.args.new.now c.if-old-new.false c.in_ok-push_all-3.ensures.items }
