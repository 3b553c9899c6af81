use Rattle.std.proofs.Common.{sym, ◌∙◌}
use Rattle.wm_spec.proofs.Sets.{has_texts-insert, all_new-next}
use Rattle.wm_spec.proofs.lists.set_of.Goals as goal

pub loop-name-preserved : goal.loop-name-preserved
loop-name-preserved c =
    let names = c.args.names.now in
    let i = c.loop-name.name-index in
    let item = c.name-item.result in
    let named = c.bytes.ensures.bytes ∙ c.name-item.is in
    let (has, left) = c.loop-name.invariant in
    let fresh = sym c.in_ok-insert.ensures.added ∙ c.if-not-branch.false in (
      has_texts-insert c.loop-name.set c.insert.new.self names i item c.bytes.result c.loop-name-test.true named has c.in_ok-insert.ensures.keys,
      sym (all_new-next c.loop-name.set names i item c.bytes.result.now c.loop-name-test.true named has fresh) ∙ left,
    )
