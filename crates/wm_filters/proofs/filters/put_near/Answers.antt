use Rattle.wm_filters.proofs.Staying.{word_at}
use Rattle.wm_filters.proofs.filters.put_near.Goals as goal

pub returns-in-None-clause-kept : goal.returns-in-None-clause-kept
returns-in-None-clause-kept g c = λ p i h k d. absurd (c.in-None.ensures.words (p.values c.args.v) k (word_at (g.D.Domain.shape_of c.args.state.now) p c.args.v c.requires.shaped i c.requires.inside))

pub returns-in-None-differences-clause-kept : goal.returns-in-None-differences-clause-kept
returns-in-None-differences-clause-kept g c = λ p i h k d.
    absurd (c.in-None-differences.ensures.differences (p.values c.args.v) (p.values c.args.w)
    (word_at (g.D.Domain.shape_of c.args.state.now) p c.args.v c.requires.shaped i c.requires.inside)
    (word_at (g.D.Domain.shape_of c.args.state.now) p c.args.w c.requires.shaped i c.requires.from) d)

pub returns-in-Some-differences-clause-kept : goal.returns-in-Some-differences-clause-kept
returns-in-Some-differences-clause-kept g c = λ p i h k d.
    let v = word_at (g.D.Domain.shape_of c.args.state.now) p c.args.v c.requires.shaped i c.requires.inside in
    let w = word_at (g.D.Domain.shape_of c.args.state.now) p c.args.w c.requires.shaped i c.requires.from in
    c.set_near.ensures.kept p i h (c.in-Some.ensures.words.1 (p.values c.args.v) k v) (c.in-Some-differences.ensures.differences.1 (p.values c.args.v) (p.values c.args.w) v w d)
