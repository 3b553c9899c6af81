use Rattle.std.proofs.Common.{rules, refl}
use Rattle.wm_files.proofs.PairsAt.{get-held_of}
use Rattle.wm_files.proofs.memory.copy_of.Goals as goal

pub returns-in_default : goal.returns-in_default
returns-in_default c = rw (get-held_of c.args.pairs.now c.args.name.now, ← c.in_default.ensures.value) refl

pub returns-then-len-limit : goal.returns-then-len-limit
returns-then-len-limit c = rw (get-held_of c.args.pairs.now c.args.name.now, ← c.in-Some.ensures.value) (search rules)

pub returns-in-Ok : goal.returns-in-Ok
returns-in-Ok c = rw (get-held_of c.args.pairs.now c.args.name.now, ← c.in-Some.ensures.value) (search rules)

pub returns-in-Err : goal.returns-in-Err
returns-in-Err c = rw (get-held_of c.args.pairs.now c.args.name.now, ← c.in-Some.ensures.value) (search rules)
