use Rattle.std.proofs.Common.{slice_index_or, arith}
use Rattle.wm_sight.specs.Sights.{form_at}
use Rattle.wm_sight.proofs.Trying.{placed, argument_placed, operated_by}
use Rattle.wm_sight.proofs.trials.operated.Goals as goal

pub returns-in_ok-fits-in-Some-3 : goal.returns-in_ok-fits-in-Some-3
returns-in_ok-fits-in-Some-3 g c =
    let Has = g.D.Domain.holds c.args.label.now in
    let op = c.args.op in
    let args = c.args.args.now in
    let first = placed args 0 3 c.index-args-0.result (omega arith) c.type_inv.args in
    let second = placed args 1 3 c.index-args-1.result (omega arith) c.type_inv.args in
    let third = placed args 2 3 c.index-args-2.result (omega arith) c.type_inv.args in
    operated_by op Has args c.in-Some.x c.in-Some-2.y c.in-Some-3.z c.in_ok-fits-in-Some-3.fits c.applied.result
    (argument_placed Has op 0 (slice_index_or args 0 c.index-args-0.result) (form_at args 0) c.in_ok-argument.field-0 c.in-Some.x first c.in-Some.is c.in_ok-argument.ensures.boxed)
    (argument_placed Has op 1 (slice_index_or args 1 c.index-args-1.result) (form_at args 1) c.in_ok-argument-in-Some.field-0 c.in-Some-2.y second c.in-Some-2.is c.in_ok-argument-in-Some.ensures.boxed)
    (argument_placed Has op 2 (slice_index_or args 2 c.index-args-2.result) (form_at args 2) c.in_ok-argument-in-Some-2.field-0 c.in-Some-3.z third c.in-Some-3.is c.in_ok-argument-in-Some-2.ensures.boxed)
    c.in_ok-fits-in-Some-3.ensures
    c.applied.ensures
