use Rattle.wm_filters.proofs.Staying.{word_at}
use Rattle.wm_filters.proofs.filters.put_range.Goals as goal

pub returns-in-None-clause-kept : goal.returns-in-None-clause-kept
returns-in-None-clause-kept g c = λ p i h k. absurd (c.in-None.ensures.words (p.values c.args.v) k (word_at (g.D.Domain.shape_of c.args.state.now) p c.args.v c.requires.shaped i c.requires.inside))

pub returns-in-Some-clause-kept : goal.returns-in-Some-clause-kept
returns-in-Some-clause-kept g c = λ p i h k. c.set_range.ensures.kept p i h (c.in-Some.ensures.words.1 (p.values c.args.v) k (word_at (g.D.Domain.shape_of c.args.state.now) p c.args.v c.requires.shaped i c.requires.inside))
