use Rattle.std.proofs.Common.{◌≡◌, subst, sym, arith}
use Rattle.wm_arrays.specs.declared.summary.Summary.TheVariants.{Range}
use Rattle.wm_arrays.specs.Meaning.{IsLeastKeeping}
use Rattle.wm_arrays.proofs.Arrays.{least_in_one, least_in_more}
use Rattle.wm_arrays.proofs.summary.Summary.write.Goals as goal

pub returns-then-length-eq1-clause-least : goal.returns-then-length-eq1-clause-least
returns-then-length-eq1-clause-least c = λ some. let one : c.args.length ≡ 1 = omega arith in subst (λ n. IsLeastKeeping c.args.self c.args.r n (Range c.args.r)) (sym one) (least_in_one c.args.self c.args.r)

pub returns-clause-least : goal.returns-clause-least
returns-clause-least c = λ some. least_in_more c.args.self c.join.result c.args.r c.args.length (omega arith) c.join.ensures.least
