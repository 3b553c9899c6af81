use Rattle.std.proofs.Common.{◌∙◌, sym, subst, ap, ℕ, length, List}
use Rattle.wm_interval.specs.declared.Interval.{Interval}
use Rattle.wm_spans.specs.Spanned.{cell_at}
use Rattle.wm_spans.specs.Exact.{Exactly, AreDrawn}
use Rattle.wm_spans.proofs.Picked.{projected_of}
use Rattle.wm_spans.proofs.spans.Spans.project.Goals as goal

pub returns-clause-points : goal.returns-clause-points
returns-clause-points c = projected_of c.args.self.now c.in_ok-spans.spans c.draw.new.spans c.args.picks.now c.args.array_picks.now c.args.arrays.now c.requires.picks c.requires.array_picks c.draw.ensures.full c.draw.ensures.array_full
    c.requires.arrays_long c.in_ok-spans.ensures.array_full c.in_ok-spans.ensures.points c.draw.ensures.points c.draw.ensures.kept
