use Rattle.std.proofs.Common.{arith}
use Rattle.std.proofs.lemmas.Int.{ints}
use Rattle.wm_tied.proofs.Bounding.{no_term_exactly, above_exactly, below_exactly}
use Rattle.wm_tied.proofs.tied.Tied.keep_where.Goals as goal

pub returns-then-r-gt0-clause-points : goal.returns-then-r-gt0-clause-points
returns-then-r-gt0-clause-points c = above_exactly c.args.self.now c.clear.new.self c.args.r (omega (arith, ints)) c.clear.ensures.none

pub returns-then-r-lt0-clause-points : goal.returns-then-r-lt0-clause-points
returns-then-r-lt0-clause-points c = below_exactly c.args.self.now c.clear-then-r-lt0.new.self c.args.r (omega (arith, ints)) c.clear-then-r-lt0.ensures.none

pub returns-clause-points : goal.returns-clause-points
returns-clause-points c = no_term_exactly c.args.self.now c.args.r (omega (arith, ints)) (omega (arith, ints))
