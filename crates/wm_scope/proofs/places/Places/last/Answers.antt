-- What the hash table finds is what the list of its pairs has.
use Rattle.std.proofs.Common.{ap, sym, ◌∙◌}
use Rattle.std.specs.Option.{option_copied}
use Rattle.wm_scope.specs.Places.{last_in}
use Rattle.wm_scope.proofs.Tables.{flat, lookup-pairs}
use Rattle.wm_scope.proofs.places.Places.last.Goals as goal

pub returns-in-None : goal.returns-in-None
returns-in-None c = record {
  last = ap (λ r. flat (option_copied r)) (sym c.in-None.is) ∙ ap flat c.get.ensures.value ∙ lookup-pairs c.args.word.now c.self.inside.entries.entries ∙ ap (last_in c.args.word.now) c.self.view_is;
}

pub returns-in-Some : goal.returns-in-Some
returns-in-Some c = record {
  last = ap (λ r. flat (option_copied r)) (sym c.in-Some.is) ∙ ap flat c.get.ensures.value ∙ lookup-pairs c.args.word.now c.self.inside.entries.entries ∙ ap (last_in c.args.word.now) c.self.view_is;
}
