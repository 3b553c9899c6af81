use Rattle.std.proofs.Common.{ap, ◌∙◌, None}
use Rattle.wm_scope.specs.Names.{latest}
use Rattle.wm_scope.specs.Indexed.{names_of, meaning_or}
use Rattle.wm_scope.proofs.Declared.{latest-last_from}
use Rattle.wm_scope.proofs.names.Names.latest.Goals as goal

pub returns : goal.returns
returns c = record {
  meaning = λ before.
      c.meaning_at.ensures before ∙ ap (λ last. meaning_or last before) (c.last.ensures.last ∙ c.self.invariant.0 c.args.word.now)
      ∙ latest-last_from 0 c.args.word.now (names_of c.self.inside.entries.items) None before
      ∙ ap (λ names. latest c.args.word.now names before) c.self.view_is;
}
