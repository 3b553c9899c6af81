use Rattle.std.proofs.Common.{ap, ◌∙◌, drop}
use Rattle.wm_scope.specs.Names.{is_among}
use Rattle.wm_scope.specs.Indexed.{names_of, is_behind}
use Rattle.wm_scope.proofs.Declared.{among-last_of}
use Rattle.wm_scope.proofs.names.Names.has_behind.Goals as goal

pub returns : goal.returns
returns c = record {
  among = c.is_behind.ensures ∙ ap (is_behind c.args.outer) (c.last.ensures.last ∙ c.self.invariant.0 c.args.word.now)
      ∙ among-last_of c.args.outer c.args.word.now (names_of c.self.inside.entries.items)
      ∙ ap (λ names. is_among c.args.word.now (drop c.args.outer names)) c.self.view_is;
}
