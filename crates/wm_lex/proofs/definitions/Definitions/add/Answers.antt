use Rattle.std.proofs.Common.{ap, ◌∙◌, arith}
use Rattle.wm_lex.specs.Macros.{place_in}
use Rattle.wm_lex.proofs.MapOfWords.{added}
use Rattle.wm_lex.proofs.definitions.Definitions.add.Goals as goal

pub invariant_of-self-in-Ok : goal.invariant_of-self-in-Ok
invariant_of-self-in-Ok c =
    added c.self.inside.macros.items c.push.new.self.items c.args.new c.in_ok-word.word c.len-place.result c.self.inside.places c.insert.new.self
    (c.in_ok-word.ensures.items ∙ c.bytes.ensures.bytes) (omega (arith, c.len-place.ensures, c.self.inside.macros.ok.0)) c.in_ok-push.ensures.items
    (ap (place_in c.args.new.name) c.self.view_is ∙ c.requires) c.self.invariant c.in-Ok.ensures.updates
