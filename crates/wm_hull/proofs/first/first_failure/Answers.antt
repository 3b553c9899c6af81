use Rattle.std.proofs.Common.{w64, FitsSigned, rules}
use Rattle.std.proofs.lemmas.Int.{to_z-of_z}
use Rattle.wm_ops.specs.Outcomes.{fails_of}
use Rattle.wm_hull.proofs.Narrowing.{first_of_all, fits_first, fits_second}
use Rattle.wm_hull.proofs.first.first_failure.Goals as goal

pub search_second-second-requires-clause-types : goal.search_second-second-requires-clause-types
search_second-second-requires-clause-types c = fits_first c.args.op c.args.x c.args.y c.args.z c.search_first-first.result c.requires.types c.search_first-first.ensures.searched.low_in c.search_first-first.ensures.searched.high_in

pub search_second-second-requires-clause-some : goal.search_second-second-requires-clause-some
search_second-second-requires-clause-some c = c.search_first-first.ensures.searched.found

pub search_third-third-requires-clause-types : goal.search_third-third-requires-clause-types
search_third-third-requires-clause-types c = fits_second c.args.op c.search_first-first.result c.args.y c.args.z c.search_second-second.result
    (fits_first c.args.op c.args.x c.args.y c.args.z c.search_first-first.result c.requires.types c.search_first-first.ensures.searched.low_in c.search_first-first.ensures.searched.high_in)
    c.search_second-second.ensures.searched.low_in c.search_second-second.ensures.searched.high_in

pub search_third-third-requires-clause-some : goal.search_third-third-requires-clause-some
search_third-third-requires-clause-some c = c.search_second-second.ensures.searched.found

pub returns : goal.returns
returns c =
    let a : FitsSigned w64 c.search_first-first.result.low = search rules in
    let b : FitsSigned w64 c.search_second-second.result.low = search rules in
    let d : FitsSigned w64 c.search_third-third.result.low = search rules in
    simp to_z-of_z (first_of_all (fails_of c.args.op) c.args.x c.args.y c.args.z c.search_first-first.result c.search_second-second.result c.search_third-third.result
    c.search_first-first.ensures.searched c.search_first-first.ensures.point c.search_second-second.ensures.searched c.search_second-second.ensures.point c.search_third-third.ensures.searched c.search_third-third.ensures.point)
