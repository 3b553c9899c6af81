use Rattle.std.proofs.Common.{arith}
use Rattle.std.proofs.lemmas.Int.{ints}
use Rattle.wm_growths.proofs.growing.product_size.Goals as goal

pub hull-requires : goal.hull-requires
hull-requires c =
    let y = c.requires.y in
    let z = c.requires.z in
    let y_order = c.args.y.ordered in
    let z_order = c.args.z.ordered in
    record {
      low_ends = record { first = record { above = omega (arith, ints); below = omega (arith, ints) }; second = record { above = omega (arith, ints); below = omega (arith, ints) }; third = tt };
      high_ends = record { first = record { above = omega (arith, ints); below = omega (arith, ints) }; second = record { above = omega (arith, ints); below = omega (arith, ints) }; third = tt };
    }
