use Rattle.std.proofs.Common.{◌∙◌, ap, sym, arith}
use Rattle.std.proofs.lemmas.Grind.{common_steps}
use Rattle.std.proofs.lemmas.Bool.Decides.{nat_tests}
use Rattle.std.specs.Prelude.{◌<◌, ◌≤◌, length}
use Rattle.wm_sketch.specs.Seen.{row_of}
use Rattle.wm_sketch.proofs.Rows.{row_inside, row_outside}
use Rattle.wm_sketch.proofs.known.row_at.Goals as goal

pub returns-in-Some : goal.returns-in-Some
returns-in-Some c =
    let within : c.args.context < length c.args.rows.now = grind (arith, nat_tests, c.in-Some.ensures.lookup) in
    ap row_of c.items.ensures.items
    ∙ sym (row_inside c.args.rows.now c.args.context c.in-Some.row.now within c.in-Some.ensures.lookup.1)

pub returns-in-None : goal.returns-in-None
returns-in-None c =
    let behind : length c.args.rows.now ≤ c.args.context = grind (arith, nat_tests, c.in-None.ensures.lookup) in
    sym (row_outside c.args.rows.now c.args.context behind)
