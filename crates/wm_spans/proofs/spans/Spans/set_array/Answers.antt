use Rattle.std.proofs.Common.{subst}
use Rattle.wm_interval.specs.declared.Interval.{Interval}
use Rattle.wm_spans.specs.Spanned.{CellsLie}
use Rattle.wm_spans.proofs.Writing.{set_found}
use Rattle.wm_spans.proofs.spans.Spans.set_array.Goals as goal

pub put_cells-requires-clause-lies : goal.put_cells-requires-clause-lies
put_cells-requires-clause-lies c = subst (λ (x : Interval). CellsLie x c.fitted.result) c.full_array-full.ensures.value c.fitted.ensures.lies

pub returns-clause-points : goal.returns-clause-points
returns-clause-points c = set_found c.args.self.now c.put_cells.new.self c.args.a c.requires.inside c.full_array-full.ensures.kept c.full_array-full.result c.full_array-full.ensures.value c.args.s c.fitted.result c.fitted.ensures.lies c.fitted.ensures.allows c.put_cells.ensures.value
