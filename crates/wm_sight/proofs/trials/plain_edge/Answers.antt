use Rattle.std.proofs.Common.{slice_index_or, arith}
use Rattle.wm_sight.specs.Sights.{form_at}
use Rattle.wm_sight.proofs.Trying.{placed, computed_at}
use Rattle.wm_sight.proofs.trials.plain_edge.Goals as goal

pub returns : goal.returns
returns g c =
    let args = c.args.args.now in
    computed_at c.args.mark (g.D.Domain.holds c.args.label.now) (slice_index_or args 0 c.index-args-0.result) (slice_index_or args 1 c.index-args-1.result) (form_at args 0) (form_at args 1) c.computed.result
    (placed args 0 2 c.index-args-0.result (omega arith) c.type_inv.args)
    (placed args 1 2 c.index-args-1.result (omega arith) c.type_inv.args)
    c.computed.ensures
