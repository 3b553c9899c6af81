-- What was passed over calls nothing.
use Rattle.std.proofs.Common.{◌≡◌, drop, map}
use Rattle.wm_flow.specs.Yields.{operates_among}
use Rattle.wm_program.specs.UsedParts.{passed_in, plain_link}
use Rattle.wm_coming.specs.Chains.{operates_links}
use Rattle.wm_coming.proofs.operators.+operates.Given as goal

abbrev pub invariant-operates_passed-loop-argument : goal.invariant-operates_passed-loop-argument
invariant-operates_passed-loop-argument l = operates_among (passed_in (drop l.argument-index l.argument-items)) ≡ operates_among (passed_in l.arguments)

abbrev pub invariant-operates_links-loop-link : goal.invariant-operates_links-loop-link
invariant-operates_links-loop-link l = operates_links (map plain_link (drop l.link-index l.link-items)) ≡ operates_links (map plain_link l.rest)
