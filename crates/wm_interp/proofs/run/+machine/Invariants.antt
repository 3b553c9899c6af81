-- How deep the recursion may still go; a function that calls another at the same depth ranks above it.
use Rattle.std.proofs.Common.{◌≡◌, ◌+◌, ◌-◌, ◌*◌, [], drop, map}
use Rattle.wm_program.specs.Trees.{test_of, effect_of, fresh_of}
use Rattle.wm_interp.specs.Going.{links_on, gather_on}
use Rattle.wm_interp.specs.Doing.{perform_all_on, make_all_on, exec_on, turns_on}
use Rattle.wm_interp.specs.Layers.{series_on, loop_turn}
use Rattle.wm_interp.specs.Parts.{plain_link, passed_in, tree_all}
use Rattle.wm_interp.specs.Seen.{held_of, setting_of}
use Rattle.wm_interp.proofs.run.+machine.Given as goal

abbrev pub decreases-evaluate : goal.decreases-evaluate
decreases-evaluate l = 16 * l.depth + 0

abbrev pub decreases-ask : goal.decreases-ask
decreases-ask l = 16 * l.depth + 0

abbrev pub decreases-exec : goal.decreases-exec
decreases-exec l = 16 * l.depth + 0

abbrev pub decreases-convert : goal.decreases-convert
decreases-convert l = 16 * l.depth + 1

abbrev pub decreases-operand : goal.decreases-operand
decreases-operand l = 16 * l.depth + 2

abbrev pub decreases-operands : goal.decreases-operands
decreases-operands l = 16 * l.depth + 3

abbrev pub decreases-links : goal.decreases-links
decreases-links l = 16 * l.depth + 1

abbrev pub decreases-pass : goal.decreases-pass
decreases-pass l = 16 * l.depth + 2

abbrev pub decreases-gather : goal.decreases-gather
decreases-gather l = 16 * l.depth + 3

abbrev pub decreases-enter_call : goal.decreases-enter_call
decreases-enter_call l = 16 * l.depth + 7

abbrev pub decreases-invoke : goal.decreases-invoke
decreases-invoke l = 16 * l.depth + 6

abbrev pub decreases-body : goal.decreases-body
decreases-body l = 16 * l.depth + 5

abbrev pub decreases-series : goal.decreases-series
decreases-series l = 16 * l.depth + 1

abbrev pub decreases-find : goal.decreases-find
decreases-find l = 16 * l.depth + 1

abbrev pub decreases-perform : goal.decreases-perform
decreases-perform l = 16 * l.depth + 2

abbrev pub decreases-perform_all : goal.decreases-perform_all
decreases-perform_all l = 16 * l.depth + 3

abbrev pub decreases-perform_step : goal.decreases-perform_step
decreases-perform_step l = 16 * l.depth + 4

abbrev pub decreases-make : goal.decreases-make
decreases-make l = 16 * l.depth + 2

abbrev pub decreases-make_all : goal.decreases-make_all
decreases-make_all l = 16 * l.depth + 3

abbrev pub decreases-exec_all : goal.decreases-exec_all
decreases-exec_all l = 16 * l.depth + 1

abbrev pub decreases-test : goal.decreases-test
decreases-test l = 16 * l.depth + 1

abbrev pub decreases-turn : goal.decreases-turn
decreases-turn l = 16 * l.depth + 5

abbrev pub decreases-tested_loop : goal.decreases-tested_loop
decreases-tested_loop l = 16 * l.depth + 7

abbrev pub decreases-do_loop : goal.decreases-do_loop
decreases-do_loop l = 16 * l.depth + 7

abbrev pub decreases-turns : goal.decreases-turns
decreases-turns l = 16 * l.depth + 6

-- what is left of a list gives what the whole list gives
abbrev pub invariant-links-loop-link : goal.invariant-links-loop-link
invariant-links-loop-link l =
    links_on (setting_of l.at) (map plain_link (drop l.link-index l.rest)) l.z (held_of l.memory)
    ≡ links_on (setting_of l.at) (map plain_link l.rest) l.fn.first (held_of l.fn.memory)

abbrev pub invariant-gather-loop-argument : goal.invariant-gather-loop-argument
invariant-gather-loop-argument l =
    gather_on (setting_of l.at) (passed_in (drop l.argument-index l.arguments)) l.numbers.items (held_of l.memory)
    ≡ gather_on (setting_of l.at) (passed_in l.arguments) [] (held_of l.fn.memory)

abbrev pub invariant-series-loop-condition : goal.invariant-series-loop-condition
invariant-series-loop-condition l =
    series_on (setting_of l.at) l.stop (map test_of (drop l.condition-index l.rest)) (held_of l.memory)
    ≡ series_on (setting_of l.at) l.stop (map test_of l.rest) (held_of l.fn.memory)

abbrev pub invariant-perform_all-loop-simple : goal.invariant-perform_all-loop-simple
invariant-perform_all-loop-simple l =
    perform_all_on (setting_of l.at) (map effect_of (drop l.simple-index l.simples)) (held_of l.memory)
    ≡ perform_all_on (setting_of l.at) (map effect_of l.simples) (held_of l.fn.memory)

abbrev pub invariant-make_all-loop-one : goal.invariant-make_all-loop-one
invariant-make_all-loop-one l =
    make_all_on (setting_of l.at) (map fresh_of (drop l.one-index l.declared)) (held_of l.memory)
    ≡ make_all_on (setting_of l.at) (map fresh_of l.declared) (held_of l.fn.memory)

abbrev pub invariant-exec_all-loop-statement : goal.invariant-exec_all-loop-statement
invariant-exec_all-loop-statement l =
    exec_on (setting_of l.at) (tree_all (drop l.statement-index l.statements)) (held_of l.memory)
    ≡ exec_on (setting_of l.at) (tree_all l.statements) (held_of l.fn.memory)

abbrev pub invariant-turns-loop : goal.invariant-turns-loop
invariant-turns-loop l =
    turns_on (l.most - l.counter) (loop_turn (setting_of l.at) l.turning) (held_of l.memory)
    ≡ turns_on l.most (loop_turn (setting_of l.at) l.turning) (held_of l.fn.memory)
