use Rattle.std.proofs.Common.{rules, ◌≡◌, true, false}
use Rattle.wm_ops.specs.declared.operators.Op.TheVariants.{Add, Sub, LAdd, LSub}
use Rattle.wm_sight.specs.Sights.{SumFits16, SumFits32}
use Rattle.wm_sight.proofs.Trying.{fits_for, fits_add, fits_sub, fits_long_add, fits_long_sub}
use Rattle.wm_sight.proofs.trials.stays_by_form.Goals as goal

pub returns-then-eq : goal.returns-then-eq
returns-then-eq g c =
    let Has = g.D.Domain.holds c.args.label.now in
    let e : c.args.op ≡ Add = search rules in
    fits_for c.args.op Add Has c.args.args.now (SumFits16 Has false c.args.args.now) c.sum_stays.result e (fits_add Has c.args.args.now) c.sum_stays.ensures

pub returns-then-eq-2 : goal.returns-then-eq-2
returns-then-eq-2 g c =
    let Has = g.D.Domain.holds c.args.label.now in
    let e : c.args.op ≡ Sub = search rules in
    fits_for c.args.op Sub Has c.args.args.now (SumFits16 Has true c.args.args.now) c.sum_stays-then-eq-2.result e (fits_sub Has c.args.args.now) c.sum_stays-then-eq-2.ensures

pub returns-then-eq-3 : goal.returns-then-eq-3
returns-then-eq-3 g c =
    let Has = g.D.Domain.holds c.args.label.now in
    let e : c.args.op ≡ LAdd = search rules in
    fits_for c.args.op LAdd Has c.args.args.now (SumFits32 Has false c.args.args.now) c.sum_stays-then-eq-3.result e (fits_long_add Has c.args.args.now) c.sum_stays-then-eq-3.ensures

pub returns-then-eq-4 : goal.returns-then-eq-4
returns-then-eq-4 g c =
    let Has = g.D.Domain.holds c.args.label.now in
    let e : c.args.op ≡ LSub = search rules in
    fits_for c.args.op LSub Has c.args.args.now (SumFits32 Has true c.args.args.now) c.sum_stays-then-eq-4.result e (fits_long_sub Has c.args.args.now) c.sum_stays-then-eq-4.ensures
