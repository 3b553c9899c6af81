-- The word is found at the new place; where the entry is refused it has again what it had.
use Rattle.std.proofs.Common.{ap, sym, ◌∙◌, arith, ◌++◌, ◌∷◌, []}
use Rattle.wm_scope.specs.Indexed.{names_of, last_of}
use Rattle.wm_scope.proofs.Declared.{indexed-push, indexed-again, names_of-behind}
use Rattle.wm_scope.proofs.names.Names.push.Goals as goal

pub invariant_of-self-in-Ok : goal.invariant_of-self-in-Ok
invariant_of-self-in-Ok c =
    indexed-push c.self.inside.places c.put.new.self c.self.inside.entries.items c.push.new.self.items
    (record { named = c.args.named; before = c.last-before.result }) c.bytes-2.result.now c.bytes-2.ensures.bytes
    c.len.result (c.len.ensures ∙ omega (arith, c.self.inside.entries.ok.0)) c.in_ok-put.ensures.put c.in-Ok.ensures.items c.self.invariant
    (c.last-before.ensures.last ∙ c.self.invariant.0 c.bytes.result.now ∙ ap (λ word. last_of word (names_of c.self.inside.entries.items)) c.bytes.ensures.bytes)

pub invariant_of-self-in-Err : goal.invariant_of-self-in-Err
invariant_of-self-in-Err c =
    let returned = c.in-Err.ensures.value_returned in
    indexed-again c.self.inside.places c.put.new.self c.put_back.new.self c.self.inside.entries.items c.push.new.self.items
    c.bytes-2.result.now c.bytes-in-Err.result.now c.last-before.result c.in-Err.refused.value.before (record { place = c.len.result; meaning = c.args.named.meaning })
    c.in_ok-put.ensures.put c.put_back.ensures.put_back
    (c.bytes-in-Err.ensures.bytes ∙ ap (λ entry. entry.named.name) returned ∙ sym c.bytes-2.ensures.bytes)
    (ap (λ entry. entry.before) returned) c.in-Err.ensures.items c.self.invariant
    (c.last-before.ensures.last ∙ c.self.invariant.0 c.bytes.result.now ∙ ap (λ word. last_of word (names_of c.self.inside.entries.items)) (c.bytes.ensures.bytes ∙ sym c.bytes-2.ensures.bytes))

pub returns-in-Ok-clause-grown : goal.returns-in-Ok-clause-grown
returns-in-Ok-clause-grown c =
    ap names_of c.in-Ok.ensures.items ∙ names_of-behind c.self.inside.entries.items (record { named = c.args.named; before = c.last-before.result })
    ∙ ap (λ names. names ++ c.args.named ∷ []) c.self.view_is
