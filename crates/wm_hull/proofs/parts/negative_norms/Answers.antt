use Rattle.std.proofs.Common.{◌≡◌, ◌∙◌, sym, pos, w64, FitsSigned, ◌≤ℤ◌, rules}
use Rattle.std.proofs.lemmas.Int.{to_z-of_z}
use Rattle.wm_ops.specs.Norms.{norm_in}
use Rattle.wm_ops.specs.Outcomes.{value_of}
use Rattle.wm_hull.proofs.NormRanges.{norm_value, in_order_below, norms_below}
use Rattle.wm_hull.proofs.Spans.{range_same}
use Rattle.wm_hull.proofs.parts.negative_norms.Goals as goal
use Rattle.wm_hull.proofs.parts.negative_norms.Goals.{After-norm-high}

low_is : (c : After-norm-high) → c.norm-low.result ≡ value_of c.args.op c.args.x.low (pos 0) (pos 0)
low_is c = let number : FitsSigned w64 c.args.x.low = search rules in simp to_z-of_z at c.norm-low.ensures

high_is : (c : After-norm-high) → c.norm-high.result ≡ value_of c.args.op c.args.x.high (pos 0) (pos 0)
high_is c = let number : FitsSigned w64 c.args.x.high = search rules in simp to_z-of_z at c.norm-high.ensures

pub new-requires : goal.new-requires
new-requires c =
    let first : FitsSigned w64 c.norm-low.result = search rules in
    let second : FitsSigned w64 c.norm-high.result = search rules in
    let e = (goal.at.new-requires c).After-norm-high in
    let places = norm_value c.args.op c.requires.norm in
    let ordered : c.norm-low.result ≤ℤ c.norm-high.result = in_order_below places.0 c.args.x.low c.args.x.high _ _ c.requires.negative c.args.x.ordered
    (low_is e ∙ sym (places.1 c.args.x.low (pos 0) (pos 0))) (high_is e ∙ sym (places.1 c.args.x.high (pos 0) (pos 0))) in
    simp to_z-of_z ordered

pub returns : goal.returns
returns c =
    let first : FitsSigned w64 c.norm-low.result = search rules in
    let second : FitsSigned w64 c.norm-high.result = search rules in
    let e = (goal.at.returns c).After-norm-high in
    let places = norm_value c.args.op c.requires.norm in
    λ y z. range_same (λ a b c. pos (norm_in places.0 a)) c.args.x y z c.new.result (value_of c.args.op) places.1
    (norms_below places.0 c.args.x y z c.new.result c.requires.negative
    (simp to_z-of_z at c.new.ensures.low ∙ low_is e ∙ sym (places.1 c.args.x.low (pos 0) (pos 0)))
    (simp to_z-of_z at c.new.ensures.high ∙ high_is e ∙ sym (places.1 c.args.x.high (pos 0) (pos 0))))
