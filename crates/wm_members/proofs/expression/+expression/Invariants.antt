-- What is made so far and what is left to make are all.
use Rattle.std.proofs.Common.{◌≡◌, [], map, drop}
use Rattle.wm_members.specs.Expressions.{seen, part_seen, part_made, arguments_made}
use Rattle.wm_members.specs.Making.{more}
use Rattle.wm_members.proofs.expression.+expression.Given as goal

abbrev pub invariant-truths-loop-part : goal.invariant-truths-loop-part
invariant-truths-loop-part l =
    more part_made l.done (map part_seen (drop l.part-index l.part-items)) l.state ≡ more part_made [] (map part_seen l.rest) l.fn.state

abbrev pub invariant-equalities-loop-part : goal.invariant-equalities-loop-part
invariant-equalities-loop-part l =
    more part_made l.done (map part_seen (drop l.part-index l.part-items)) l.state ≡ more part_made [] (map part_seen l.rest) l.fn.state

abbrev pub invariant-relations-loop-part : goal.invariant-relations-loop-part
invariant-relations-loop-part l =
    more part_made l.done (map part_seen (drop l.part-index l.part-items)) l.state ≡ more part_made [] (map part_seen l.rest) l.fn.state

abbrev pub invariant-sums-loop-part : goal.invariant-sums-loop-part
invariant-sums-loop-part l =
    more part_made l.done (map part_seen (drop l.part-index l.part-items)) l.state ≡ more part_made [] (map part_seen l.rest) l.fn.state

abbrev pub invariant-products-loop-part : goal.invariant-products-loop-part
invariant-products-loop-part l =
    more part_made l.done (map part_seen (drop l.part-index l.part-items)) l.state ≡ more part_made [] (map part_seen l.rest) l.fn.state

abbrev pub invariant-arguments_of-loop-place : goal.invariant-arguments_of-loop-place
invariant-arguments_of-loop-place l =
    arguments_made l.function l.place l.done (map seen (drop l.place l.argument-items)) l.state
    ≡ arguments_made l.function 0 [] (map seen l.arguments) l.fn.state
