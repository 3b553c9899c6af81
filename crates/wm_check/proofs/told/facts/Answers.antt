use Rattle.std.proofs.Common.{◌∙◌, subst}
use Rattle.wm_check.specs.Found.{AreFacts}
use Rattle.wm_check.proofs.Telling.{facts_told, told_by}
use Rattle.wm_check.proofs.told.facts.Goals as goal

pub returns : goal.returns
returns g c =
    let allowed = g.M.Images.allowed in
    let started = g.M.Images.started in
    let Has = g.D.Domain.holds in
    let shape_of = g.D.Domain.shape_of in
    let program = c.args.program.now in
    let graph = c.args.graph.now in
    record {
      facts = subst (λ hs. AreFacts allowed started Has shape_of program graph hs (record { turns = c.in_ok-turns-in-Accepted.turns; live = c.in_ok-live-in-Accepted.live; stops = c.in_ok-stops-in-Accepted.stops })) c.items-states.ensures.items
          (facts_told allowed started Has shape_of program graph c.items-states.result.now c.in-Accepted.told (record { turns = c.in_ok-turns-in-Accepted.turns; live = c.in_ok-live-in-Accepted.live; stops = c.in_ok-stops-in-Accepted.stops })
          (told_by allowed started Has shape_of program graph c.items-states.result.now c.in-Accepted.told c.in-Accepted.is c.in_ok-_gap.ensures.told)
          c.in_ok-turns-in-Accepted.ensures.turns (c.in_ok-live-in-Accepted.ensures ∙ c.as_slice.ensures.value));
    }
