use Rattle.std.proofs.Common.{◌≡◌, sym}
use Rattle.wm_tied.proofs.Cutting.{made_tied, made_exactly}
use Rattle.wm_tied.proofs.tied.Tied.new.Goals as goal

pub returns-clause-points : goal.returns-clause-points
returns-clause-points c = made_exactly (record { group = c.in_ok-full.full.items; ties = c.in_ok-ties.ties; spans = c.in_ok-spans.spans }) c.args.group.now _ c.in_ok-full.ensures.items
    (made_tied c.in_ok-full.full.items c.args.group.now c.in_ok-ties.ties c.in_ok-full.ensures.items c.requires.few c.requires.group c.in_ok-ties.ensures.variables c.in_ok-ties.ensures.points) c.in_ok-ties.ensures.points c.in_ok-spans.ensures.points
