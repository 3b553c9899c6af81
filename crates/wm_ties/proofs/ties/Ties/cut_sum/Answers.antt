use Rattle.std.proofs.Common.{◌≡◌, ℕ, ℤ, ◌≤ℤ◌, neg_ℤ, sym, subst}
use Rattle.std.specs.Prelude.{◌↔◌}
use Rattle.wm_octagon.specs.View.{Holds}
use Rattle.wm_octagon.specs.Sides.{WithSum}
use Rattle.wm_ties.proofs.Making.{read60, read_clamped}
use Rattle.wm_ties.proofs.Calls.{IsSmall, cut_sum_exactly}
use Rattle.wm_ties.proofs.ties.Ties.cut_sum.Goals as goal

pub returns-clause-points : goal.returns-clause-points
returns-clause-points c = cut_sum_exactly c.args.self.now c.args.a c.args.b c.side.result c.side-2.result c.side.ensures.value c.side-2.ensures.value
    c.against.result c.against-2.result c.against.ensures.value c.against-2.ensures.value c.cap_sum.new.self c.cap_sum-2.new.self c.args.r.low c.args.r.high c.clamped.result c.clamped_back.result
    c.cap_sum.ensures.words c.requires.first c.requires.second
    (subst (λ (k : ℤ). (y : ℤ) → IsSmall y → (y ≤ℤ c.clamped.result) ↔ (y ≤ℤ k)) (read60 c.args.r.high c.requires.size.high_size) c.clamped.ensures.below)
    (subst (λ (k : ℤ). (y : ℤ) → IsSmall y → (neg_ℤ y ≤ℤ c.clamped_back.result) ↔ (k ≤ℤ y)) (read60 c.args.r.low c.requires.size.low_size) c.clamped_back.ensures.above)
    (subst (λ (k : ℤ). (x : ℕ → ℤ) → Holds c.cap_sum.new.self x ↔ WithSum c.args.self.now c.side.result c.side-2.result k x) (read_clamped c.clamped.result c.clamped.ensures.size) c.cap_sum.ensures.points)
    (subst (λ (k : ℤ). (x : ℕ → ℤ) → Holds c.cap_sum-2.new.self x ↔ WithSum c.cap_sum.new.self c.against.result c.against-2.result k x) (read_clamped c.clamped_back.result c.clamped_back.ensures.size) c.cap_sum-2.ensures.points)
