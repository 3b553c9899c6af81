use Rattle.wm_files.proofs.PairsAt.{held_of-insert}
use Rattle.wm_files.proofs.memory.set_pair.Goals as goal

pub returns-clause-ok : goal.returns-clause-ok
returns-clause-ok c =
    rw (← c.in_ok-name.ensures.items, ← c.in_ok-bytes.ensures.items) (held_of-insert c.args.pairs.now c.insert.new.self c.in_ok-name.name c.in_ok-bytes.bytes c.in_ok-insert.ensures.entries)
