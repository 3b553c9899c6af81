use Rattle.std.proofs.Common.{◌≡◌, ◌-◌, ◌<◌, ℕ, length, subst, ◌∙◌, rules}
use Rattle.wm_domain.specs.Points.{range_at}
use Rattle.wm_middle.specs.Parting.{AreWords}
use Rattle.wm_middle.proofs.Shaping.{middle_shape}
use Rattle.wm_middle.proofs.shapes.shape_of.Goals as goal

pub returns : goal.returns
returns c =
    let count = length c.args.middle.now.parts.items in
    let e : c.len.result ≡ count = search rules in
    let f : c.items.result.now ≡ c.args.target.now.arrays = search rules in
    record {
      middle = middle_shape c.args.target.now c.in_ok-group.group c.in_ok-singles.singles c.in_ok-arrays.arrays c.args.middle.now.group count
          c.requires.shape c.in_ok-group.ensures.long
          (subst (λ (n : ℕ). length c.in_ok-singles.singles ≡ n - c.args.middle.now.group) e c.in_ok-singles.ensures.long)
          c.requires.few c.requires.inside (c.in_ok-arrays.ensures ∙ f) c.in_ok-group.ensures.each
          (subst (λ (n : ℕ). (k : ℕ) → k < n - c.args.middle.now.group → AreWords (range_at c.in_ok-singles.singles k)) e c.in_ok-singles.ensures.each);
    }
