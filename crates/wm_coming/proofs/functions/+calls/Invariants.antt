-- What was passed over calls nothing.
use Rattle.std.proofs.Common.{◌≡◌, drop, map}
use Rattle.wm_flow.specs.Yields.{calls_among}
use Rattle.wm_program.specs.UsedParts.{operands_of, plain_link}
use Rattle.wm_coming.specs.Chains.{calls_links}
use Rattle.wm_coming.proofs.functions.+calls.Given as goal

abbrev pub invariant-calls_operands-loop-argument : goal.invariant-calls_operands-loop-argument
invariant-calls_operands-loop-argument l = calls_among (operands_of (drop l.argument-index l.argument-items)) ≡ calls_among (operands_of l.arguments)

abbrev pub invariant-calls_links-loop-link : goal.invariant-calls_links-loop-link
invariant-calls_links-loop-link l = calls_links (map plain_link (drop l.link-index l.link-items)) ≡ calls_links (map plain_link l.rest)
