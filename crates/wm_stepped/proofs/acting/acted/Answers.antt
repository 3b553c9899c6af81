use Rattle.std.proofs.lemmas.Result.{IfOk-weaker}
use Rattle.wm_flow.specs.declared.action.Action.TheVariants as action
use Rattle.wm_stepped.proofs.Allowed.{keeps_kind, keeps_none}
use Rattle.wm_stepped.proofs.acting.acted.Goals as goal

pub returns-in-Plain-clause-sound : goal.returns-in-Plain-clause-sound
returns-in-Plain-clause-sound g c =
    IfOk-weaker c.compute.result _ _ (λ s h. keeps_kind g.D.Domain.holds g.D.Domain.shape_of c.args.way.now.source.now c.args.way.now.target.now (g.D.Domain.holds c.args.at.now) c.args.action.now s (action.Plain c.in-Plain.mark c.in-Plain.args c.in-Plain.target) c.in-Plain.is h) c.compute.ensures.sound

pub returns-in-Cast-clause-sound : goal.returns-in-Cast-clause-sound
returns-in-Cast-clause-sound g c =
    IfOk-weaker c.cast_form.result _ _ (λ s h. keeps_kind g.D.Domain.holds g.D.Domain.shape_of c.args.way.now.source.now c.args.way.now.target.now (g.D.Domain.holds c.args.at.now) c.args.action.now s (action.Cast c.in-Cast.form c.in-Cast.target) c.in-Cast.is h) c.cast_form.ensures.sound

pub returns-in-AssignRange-clause-sound : goal.returns-in-AssignRange-clause-sound
returns-in-AssignRange-clause-sound g c =
    IfOk-weaker c.assign_range.result _ _ (λ s h. keeps_kind g.D.Domain.holds g.D.Domain.shape_of c.args.way.now.source.now c.args.way.now.target.now (g.D.Domain.holds c.args.at.now) c.args.action.now s (action.AssignRange c.in-AssignRange.target c.in-AssignRange.range) c.in-AssignRange.is h) c.assign_range.ensures.sound

pub returns-in-Read-clause-sound : goal.returns-in-Read-clause-sound
returns-in-Read-clause-sound g c =
    IfOk-weaker c.read_cell.result _ _ (λ s h. keeps_kind g.D.Domain.holds g.D.Domain.shape_of c.args.way.now.source.now c.args.way.now.target.now (g.D.Domain.holds c.args.at.now) c.args.action.now s (action.Read c.in-Read.array c.in-Read.target) c.in-Read.is h) c.read_cell.ensures.sound

pub returns-in-Leave-clause-sound : goal.returns-in-Leave-clause-sound
returns-in-Leave-clause-sound g c =
    IfOk-weaker c.nowhere.result _ _ (λ s h. keeps_none g.D.Domain.holds g.D.Domain.shape_of c.args.way.now.source.now c.args.way.now.target.now (g.D.Domain.holds c.args.at.now) c.args.action.now s c.in-Leave.call c.in-Leave.from_call c.in-Leave.from_exit c.in-Leave.arrays c.in-Leave.result c.in-Leave.is) c.nowhere.ensures.bare
