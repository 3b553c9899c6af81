use Rattle.std.proofs.Common.{◌≡◌, ◌∙◌, ◌+ℤ◌, sym, subst, ap, w64}
use Rattle.std.proofs.lemmas.Int.{to_z-of_z}
use Rattle.std.specs.Int.{int_min}
use Rattle.wm_octagon.specs.Ways.{at, least_way}
use Rattle.wm_octagon.proofs.Small.{fits_small, fits_medium, small_read, medium_small}
use mir.Val.{SFits}
use Rattle.wm_octagon.proofs.closing.ClosingChange.changed.Goals as goal
use Rattle.wm_octagon.specs.Medium.{IsMedium}

pub sum-by_i-requires-clause-b : goal.sum-by_i-requires-clause-b
sum-by_i-requires-clause-b c =
    let s = c.args.self.now.sized.i_row c.args.l in
    subst IsMedium (sym (small_read _ s)) (medium_small _ s)

pub returns : goal.returns
returns c =
    let s = c.args.self.now.sized in
    let r0 = c.ranges.bound in
    let r1 = fits_medium _ (s.j_ways c.args.k) in
    let r2 = fits_small _ (s.j_row c.args.l) in
    let r3 = fits_medium _ (s.i_ways c.args.k) in
    let r4 = fits_small _ (s.i_row c.args.l) in
    let r5 = fits_medium _ (s.sides c.opposite.result) in
    let r6 = fits_medium _ (s.sides c.args.l) in
    let f1 : SFits w64 c.sum-by_j.result = record { sfits = c.sum-by_j.type_inv } in
    let f2 : SFits w64 c.sum-by_i.result = record { sfits = c.sum-by_i.type_inv } in
    let f3 : SFits w64 c.sum-alone.result = record { sfits = c.sum-alone.type_inv } in
    let f4 : SFits w64 c.least.result = record { sfits = c.least.type_inv } in
    let f5 : SFits w64 c.lesser.result = record { sfits = c.lesser.type_inv } in
    let e1 : c.sum-by_j.result ≡ at c.args.self.now.to_j.now c.args.k +ℤ at c.args.self.now.from_j.now c.args.l = simp to_z-of_z at c.sum-by_j.ensures in
    let e2 : c.sum-by_i.result ≡ at c.args.self.now.to_i.now c.args.k +ℤ at c.args.self.now.from_i.now c.args.l = simp to_z-of_z at c.sum-by_i.ensures in
    let e3 : c.sum-alone.result ≡ at c.args.self.now.tops.now c.opposite.result +ℤ at c.args.self.now.tops.now c.args.l = simp to_z-of_z at c.sum-alone.ensures in
    let e4 : c.least.result ≡ int_min c.args.bound (int_min c.sum-by_j.result c.sum-by_i.result) = simp to_z-of_z at c.least.ensures in
    let e5 : c.lesser.result ≡ int_min c.least.result c.sum-alone.result = simp to_z-of_z at c.lesser.ensures in
    let o = ap (at c.args.self.now.tops.now) c.opposite.ensures in
    to_z-of_z w64 c.lesser.result f5 ∙ e5
    ∙ ap (λ z. int_min z c.sum-alone.result) (e4 ∙ ap (λ z. int_min c.args.bound (int_min z c.sum-by_i.result)) e1 ∙ ap (λ z. int_min c.args.bound (int_min (at c.args.self.now.to_j.now c.args.k +ℤ at c.args.self.now.from_j.now c.args.l) z)) e2)
    ∙ ap (λ z. int_min (least_way c.args.self.now.to_j.now c.args.self.now.from_j.now c.args.self.now.to_i.now c.args.self.now.from_i.now c.args.bound c.args.k c.args.l) z) (e3 ∙ ap (λ z. z +ℤ at c.args.self.now.tops.now c.args.l) o)
