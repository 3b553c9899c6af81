-- The word of the name that is taken out has again what it had before.
use Rattle.wm_scope.proofs.Declared.{indexed-front, names-taken}
use Rattle.wm_scope.proofs.names.Names.drop_last.Goals as goal

pub invariant_of-self-in-Some : goal.invariant_of-self-in-Some
invariant_of-self-in-Some c =
    indexed-front c.self.inside.places c.put_back.new.self c.self.inside.entries.items c.pop.new.self.items c.in-Some.entry c.bytes.result.now
    c.bytes.ensures.bytes c.put_back.ensures.put_back c.in-Some.ensures.items c.self.invariant

pub returns-in-Some : goal.returns-in-Some
returns-in-Some c =
    names-taken c.self.inside.places c.put_back.new.self c.self.inside.entries.items c.pop.new.self.items c.in-Some.entry c.bytes.result.now
    c.bytes.ensures.bytes c.args.self.now c.in-Some.ensures.items c.self.view_is
