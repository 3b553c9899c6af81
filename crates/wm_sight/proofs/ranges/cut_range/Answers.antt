use Rattle.std.proofs.Common.{◌≡◌, w64, FitsSigned, rules}
use Rattle.std.proofs.lemmas.Int.{to_z-of_z}
use Rattle.wm_sight.proofs.Shown.{cut_told, box_told}
use Rattle.wm_sight.proofs.ranges.cut_range.Goals as goal

pub returns-in-Some : goal.returns-in-Some
returns-in-Some g c =
    let low_fits : FitsSigned w64 c.args.low = search rules in
    let high_fits : FitsSigned w64 c.args.high = search rules in
    let e : c.new.result.low ≡ c.args.low = simp to_z-of_z at c.new.ensures.low in
    let f : c.new.result.high ≡ c.args.high = simp to_z-of_z at c.new.ensures.high in
    record {
      cut = cut_told (g.D.Domain.holds c.args.label.now) c.args.form.now c.args.low c.args.high c.in-Some.range c.new.result c.meet.result c.in-Some.ensures.exact e f c.meet.ensures.common c.meet.ensures.each;
      boxed = box_told (g.D.Domain.holds c.args.label.now) c.args.form.now c.args.low c.args.high c.in-Some.range c.new.result c.meet.result c.in-Some.ensures.exact e f c.meet.ensures.common;
    }
