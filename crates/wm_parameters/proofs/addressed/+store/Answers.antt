use Rattle.std.proofs.Common.{◌≡◌, OnOk, subst}
use Rattle.std.proofs.lemmas.List.{nil_from_length}
use Rattle.wm_pen.specs.Ink.{Ink}
use Rattle.wm_places.specs.Seen.{plan_of}
use Rattle.wm_parameters.proofs.ParametersStored.{none_is, scalar_is}
use Rattle.wm_parameters.proofs.addressed.+store.Goals as goal

pub returns-in-None : goal.returns-in-None
returns-in-None t c =
    none_is (plan_of c.args.plan.now) c.args.scene c.args.seats.now c.args.count c.args.above c.args.kept c.args.pen.now (nil_from_length c.args.seats.now c.in-None.ensures.cases)

pub returns-in-Scalar : goal.returns-in-Scalar
returns-in-Scalar t c =
    subst (λ (k : Ink). OnOk c.store.result (c.store.new.pen ≡ k))
    (scalar_is (plan_of c.args.plan.now) c.args.scene c.in-Scalar.field-0 c.in-Some.seat.now c.args.seats.now c.in-Some.rest.now c.args.count c.args.above c.args.kept c.args.pen.now c.in-Some.ensures.cases.0 c.in-Scalar.is c.if-count-eq0.false)
    c.store.ensures
