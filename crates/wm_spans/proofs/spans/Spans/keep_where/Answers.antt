use Rattle.std.proofs.Common.{◌≡◌, ap, sym, subst, arith}
use Rattle.std.proofs.lemmas.Int.{ints}
use Rattle.wm_spans.proofs.Summing.{no_term_kept, no_term_spanned, cleared_spanned, above_none, below_none, cleared_none, no_term_made}
use Rattle.wm_spans.proofs.spans.Spans.keep_where.Goals as goal

pub returns-then-r-gt0-clause-kept : goal.returns-then-r-gt0-clause-kept
returns-then-r-gt0-clause-kept c = above_none c.args.self.now c.clear.new.self c.args.r (omega (arith, ints))

pub returns-then-r-gt0-clause-spanned : goal.returns-then-r-gt0-clause-spanned
returns-then-r-gt0-clause-spanned c = cleared_spanned c.args.self.now c.clear.new.self _ _ _ c.clear.ensures.value

pub returns-then-r-lt0-clause-kept : goal.returns-then-r-lt0-clause-kept
returns-then-r-lt0-clause-kept c = below_none c.args.self.now c.clear-then-r-lt0.new.self c.args.r (omega (arith, ints))

pub returns-then-r-lt0-clause-spanned : goal.returns-then-r-lt0-clause-spanned
returns-then-r-lt0-clause-spanned c = cleared_spanned c.args.self.now c.clear-then-r-lt0.new.self _ _ _ c.clear-then-r-lt0.ensures.value

pub returns-clause-kept : goal.returns-clause-kept
returns-clause-kept c = no_term_kept c.args.self.now c.args.r

pub returns-clause-spanned : goal.returns-clause-spanned
returns-clause-spanned c = no_term_spanned c.args.self.now c.args.r (omega (arith, ints)) (omega (arith, ints))

pub returns-then-r-gt0-clause-made : goal.returns-then-r-gt0-clause-made
returns-then-r-gt0-clause-made c = cleared_none c.args.self.now c.clear.new.self _ c.clear.ensures.value

pub returns-then-r-lt0-clause-made : goal.returns-then-r-lt0-clause-made
returns-then-r-lt0-clause-made c = cleared_none c.args.self.now c.clear-then-r-lt0.new.self _ c.clear-then-r-lt0.ensures.value

pub returns-clause-made : goal.returns-clause-made
returns-clause-made c = no_term_made c.args.self.now c.args.r (omega (arith, ints)) (omega (arith, ints))
