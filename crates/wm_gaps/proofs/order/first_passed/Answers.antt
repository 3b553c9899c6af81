use Rattle.std.proofs.Common.{◌≡◌, ◌+◌, length, rules}
use Rattle.wm_domain.specs.States.{array_count}
use Rattle.wm_gaps.proofs.Whole.{behind_all}
use Rattle.wm_gaps.proofs.order.first_passed.Goals as goal

pub returns-in-None-2 : goal.returns-in-None-2
returns-in-None-2 g c =
    let v : c.in_ok-variables.variables ≡ length c.args.shape.now.group + length c.args.shape.now.singles = search rules in
    let k : c.in_ok-group.group ≡ length c.args.shape.now.group = search rules in
    let a : c.in_ok-arrays.arrays ≡ array_count c.args.shape.now = search rules in
    record {
      first = behind_all g.D.Domain.PAIRS c.args.shape.now (g.D.Domain.holds c.args.have.now) (g.D.Domain.holds c.args.allowed.now) c.in_ok-variables.variables c.in_ok-group.group c.in_ok-arrays.arrays c.variables_passed.result c.in_ok-found-in-None.field-0 c.arrays_passed.result v k a c.in-None.is c.in-None-2.is c.variables_passed.ensures.first c.in_ok-found-in-None.ensures.first c.arrays_passed.ensures.first;
    }
