-- A word that is there has the value; without it nothing changes.
use Rattle.std.proofs.Common.{ap, sym, ◌∙◌}
use Rattle.std.specs.Option.{option_copied_mut}
use Rattle.wm_scope.specs.Pairs.{pairs}
use Rattle.wm_scope.specs.Places.{put_back}
use Rattle.wm_scope.proofs.Tables.{pairs-set, pairs-absent}
use Rattle.wm_scope.proofs.places.Places.put_back.Goals as goal
use Rattle.wm_scope.proofs.places.Places.put_back.Goals.{in-Some, in-None}

pub returns : goal.returns
returns c =
    let word = c.args.word.now in
    let entries = c.self.inside.entries.entries in
    let shown = ap (put_back word c.args.before) c.self.view_is in
    elim c.match-get_mut.branch [
      | in-Some w ↦ record {
        put_back = ap (λ inside. pairs inside.entries.entries) w.self-inside-is ∙ ap pairs (c.get_mut.follows.holds c.args.before).0 ∙ pairs-set word c.args.before entries ∙ shown;
      }
      | in-None w ↦ record {
        put_back = ap (λ inside. pairs inside.entries.entries) w.self-inside-is ∙ ap (λ map. pairs map.entries) c.get_mut.follows.holds-at-none
            ∙ sym (pairs-absent word c.args.before entries (sym c.get_mut.ensures.value ∙ ap option_copied_mut w.in-None.is)) ∙ shown;
      }
    ]
