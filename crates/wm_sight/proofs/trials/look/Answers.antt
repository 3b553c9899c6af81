use Rattle.std.proofs.Common.{IfOk, w64, FitsSigned, rules, subst}
use Rattle.std.proofs.lemmas.Int.{to_z-of_z}
use Rattle.wm_flow.specs.declared.action.Action.TheVariants.{Plain, Operate, Test}
use Rattle.wm_sight.specs.Ranges.{Stays}
use Rattle.wm_sight.specs.Sights.{IsTested}
use Rattle.wm_sight.proofs.Trying.{seen_at}
use Rattle.wm_sight.proofs.trials.look.Goals as goal

pub returns-in-Plain : goal.returns-in-Plain
returns-in-Plain g c = record {
  seen = seen_at c.args.kind (g.D.Domain.holds c.args.label.now) c.args.action.now (Plain c.in-Plain.mark c.in-Plain.args c.in-Plain.target) c.plain_edge.result c.in-Plain.is c.plain_edge.ensures;
}

pub returns-in-Operate : goal.returns-in-Operate
returns-in-Operate g c = record {
  seen = seen_at c.args.kind (g.D.Domain.holds c.args.label.now) c.args.action.now (Operate c.in-Operate.op c.in-Operate.args c.in-Operate.target c.in-Operate.overflow) c.operated.result c.in-Operate.is c.operated.ensures;
}

pub returns-in-Test : goal.returns-in-Test
returns-in-Test g c =
    let Has = g.D.Domain.holds c.args.label.now in
    let low_fits : FitsSigned w64 c.in-Test.low = search rules in
    let high_fits : FitsSigned w64 c.in-Test.high = search rules in
    let h : IfOk c.test_edge.result (λ seen. IsTested c.args.kind (Stays Has c.in-Test.form c.in-Test.low c.in-Test.high) Has c.items.result.now c.in-Test.low c.in-Test.high c.in-Test.how seen) = simp to_z-of_z at c.test_edge.ensures in
    let k = subst (λ xs. IfOk c.test_edge.result (λ seen. IsTested c.args.kind (Stays Has c.in-Test.form c.in-Test.low c.in-Test.high) Has xs c.in-Test.low c.in-Test.high c.in-Test.how seen)) c.items.ensures.items h in
    record { seen = seen_at c.args.kind Has c.args.action.now (Test c.in-Test.args c.in-Test.form c.in-Test.low c.in-Test.high c.in-Test.how) c.test_edge.result c.in-Test.is k }
