use Rattle.std.proofs.Common.{sym, subst}
use Rattle.wm_domain.specs.declared.shape.Shape.{Shape}
use Rattle.wm_domain.specs.States.{Keeps, IsLeast}
use Rattle.wm_domain.specs.Places.{ArePaired, Followed}
use Rattle.wm_carry.proofs.Pairing.{way_paired, keeps_followed, least_followed}
use Rattle.wm_carry.proofs.carry.carried.Goals as goal

pub follow-requires-clause-paired : goal.follow-requires-clause-paired
follow-requires-clause-paired g c =
    let way = c.args.way.now in
    subst (λ (s : Shape). ArePaired s way.target.now) (sym c.requires.shape) (way_paired way.source.now way.target.now c.requires.way)

pub returns-clause-sound : goal.returns-clause-sound
returns-clause-sound g c =
    let way = c.args.way.now in
    let Has = g.D.Domain.holds c.args.at.now in
    keeps_followed way.source.now way.target.now g.D.Domain.holds g.D.Domain.shape_of c.in_ok-state.state Has
    (subst (λ (s : Shape). Keeps g.D.Domain.holds g.D.Domain.shape_of c.in_ok-state.state (Followed s way.target.now Has)) c.requires.shape c.in_ok-state.ensures.sound)

pub returns-clause-least : goal.returns-clause-least
returns-clause-least g c =
    let way = c.args.way.now in
    let Has = g.D.Domain.holds c.args.at.now in
    least_followed way.source.now way.target.now g.D.Domain.holds g.D.Domain.shape_of c.in_ok-state.state Has
    (subst (λ (s : Shape). IsLeast g.D.Domain.holds g.D.Domain.shape_of c.in_ok-state.state (Followed s way.target.now Has)) c.requires.shape c.in_ok-state.ensures.least)
