use Rattle.std.proofs.Common.{◌≡◌, ◌∙◌, sym, pos, negsuc, ◌≤ℤ◌, arith}
use Rattle.std.proofs.lemmas.Int.{ints}
use Rattle.wm_ops.specs.Norms.{norm_in}
use Rattle.wm_ops.specs.Outcomes.{value_of}
use Rattle.wm_hull.proofs.NormRanges.{norm_value, norms_across, norms_from_zero, norms_of_zero}
use Rattle.wm_hull.proofs.Spans.{range_same}
use Rattle.wm_hull.proofs.parts.norms.Goals as goal

pub returns-then-x-lt0-2 : goal.returns-then-x-lt0-2
returns-then-x-lt0-2 c =
    let places = norm_value c.args.op c.requires.norm in
    let negative : c.args.x.low ≤ℤ negsuc 0 = omega (arith, ints) in
    let natural : pos 0 ≤ℤ c.args.x.high = omega (arith, ints) in
    λ y z. range_same (λ a b c. pos (norm_in places.0 a)) c.args.x y z c.norms_up_to.result (value_of c.args.op) places.1
    (norms_across places.0 c.args.x y z c.norms_up_to.result negative natural c.norms_up_to.ensures.low (c.norms_up_to.ensures.high ∙ sym (places.1 (negsuc 0) (pos 0) (pos 0))))

pub returns-then-x-gt0-2 : goal.returns-then-x-gt0-2
returns-then-x-gt0-2 c =
    let places = norm_value c.args.op c.requires.norm in
    let zero_is : c.args.x.low ≡ pos 0 = omega (arith, ints) in
    let positive : pos 1 ≤ℤ c.args.x.high = omega (arith, ints) in
    λ y z. range_same (λ a b c. pos (norm_in places.0 a)) c.args.x y z c.norms_up_to-then-x-gt0-2.result (value_of c.args.op) places.1
    (norms_from_zero places.0 c.args.x y z c.norms_up_to-then-x-gt0-2.result zero_is positive c.norms_up_to-then-x-gt0-2.ensures.low (c.norms_up_to-then-x-gt0-2.ensures.high ∙ sym (places.1 (pos 1) (pos 0) (pos 0))))

pub returns : goal.returns
returns c =
    let places = norm_value c.args.op c.requires.norm in
    let zero_is : c.args.x.low ≡ pos 0 = omega (arith, ints) in
    let high_zero : c.args.x.high ≡ pos 0 = omega (arith, ints) in
    λ y z. range_same (λ a b c. pos (norm_in places.0 a)) c.args.x y z c.new.result (value_of c.args.op) places.1
    (norms_of_zero places.0 c.args.x y z c.new.result zero_is high_zero c.new.ensures.low c.new.ensures.high)
