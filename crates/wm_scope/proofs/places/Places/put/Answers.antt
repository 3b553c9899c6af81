-- A word that is there keeps its place in the table; another goes behind all.
use Rattle.std.proofs.Common.{ap, ◌∙◌}
use Rattle.wm_scope.specs.Pairs.{pairs}
use Rattle.wm_scope.specs.Places.{put}
use Rattle.wm_scope.proofs.Tables.{pairs-insert}
use Rattle.wm_scope.proofs.places.Places.put.Goals as goal

pub returns-clause-put : goal.returns-clause-put
returns-clause-put c =
    ap pairs c.in_ok-insert.ensures.entries ∙ pairs-insert c.in_ok-word.word c.args.last c.self.inside.entries.entries
    ∙ ap (λ w. put w c.args.last (pairs c.self.inside.entries.entries)) c.in_ok-word.ensures.items
    ∙ ap (put c.args.word.now c.args.last) c.self.view_is
