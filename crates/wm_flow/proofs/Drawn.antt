-- The graphs of the small programs, computed.
use Rattle.std.proofs.Common.{refl}
use Rattle.wm_flow.specs.Seats.{seat_of, local_seat_of, tables_of}
use Rattle.wm_flow.specs.Kept.{with_term, with_terms, collected}
use Rattle.wm_flow.specs.Places.{bases_of, root_source, scalar_source, array_source, offset_of}
use Rattle.wm_flow.specs.Layouts.{path_arrays, static_layout, instance_layout}
use Rattle.wm_flow.specs.Strokes.{point, step}
use Rattle.wm_flow.specs.Yields.{must_yield, yielded, yield_size, to_temporary, yield_strokes, after}
use Rattle.wm_flow.specs.Calls.{entry_picks, entry_arrays, enter, from_call, from_exit, returned, leave, head_picks, to_head, to_head_from_start, from_head}
use Rattle.wm_flow.specs.Expressions.{place_form, place_strokes, plain_form, plain_strokes, narrow_strokes, operate_strokes, call_strokes, value, values_after, size, sizes, strokes, all_strokes}
use Rattle.wm_flow.specs.Tests.{keeping, fork, sides_strokes, compared, compared_number, test_size, test_strokes}
use Rattle.wm_flow.specs.Effects.{store_size, store_strokes, found_strokes, update_size, update_strokes, effect_size, effect_strokes, effects_size, effects_strokes, fresh_size, fresh_strokes, declared_size, declared_strokes}
use Rattle.wm_flow.specs.Statements.{clear_size, clear_strokes, word_strokes, resetting, turning, ties_strokes, enter_strokes, turn_strokes, return_size, return_strokes, tree_size, tree_strokes}
use Rattle.wm_flow.specs.Parts.{part_size, part_strokes, plan_for, plan_of}
use Rattle.wm_flow.specs.Graphs.{node_drawn, drawn, drawn_part, taking_inputs, frame_strokes, whole_strokes, graph_of}
use Rattle.wm_flow.specs.Examples.{QuotientGraph, ShiftingArcs, ShiftingHeads}

pub quotient_graph : QuotientGraph
unfolding seat_of local_seat_of tables_of with_term with_terms collected bases_of root_source scalar_source array_source offset_of path_arrays static_layout instance_layout point step must_yield yielded yield_size to_temporary yield_strokes after entry_picks entry_arrays enter from_call from_exit returned leave head_picks to_head to_head_from_start from_head place_form place_strokes plain_form plain_strokes narrow_strokes operate_strokes call_strokes value values_after size sizes strokes all_strokes keeping fork sides_strokes compared compared_number test_size test_strokes store_size store_strokes found_strokes update_size update_strokes effect_size effect_strokes effects_size effects_strokes fresh_size fresh_strokes declared_size declared_strokes clear_size clear_strokes word_strokes resetting turning ties_strokes enter_strokes turn_strokes return_size return_strokes tree_size tree_strokes part_size part_strokes plan_for plan_of node_drawn drawn drawn_part taking_inputs frame_strokes whole_strokes graph_of
quotient_graph = refl

pub shifting_arcs : ShiftingArcs
unfolding seat_of local_seat_of tables_of with_term with_terms collected bases_of root_source scalar_source array_source offset_of path_arrays static_layout instance_layout point step must_yield yielded yield_size to_temporary yield_strokes after entry_picks entry_arrays enter from_call from_exit returned leave head_picks to_head to_head_from_start from_head place_form place_strokes plain_form plain_strokes narrow_strokes operate_strokes call_strokes value values_after size sizes strokes all_strokes keeping fork sides_strokes compared compared_number test_size test_strokes store_size store_strokes found_strokes update_size update_strokes effect_size effect_strokes effects_size effects_strokes fresh_size fresh_strokes declared_size declared_strokes clear_size clear_strokes word_strokes resetting turning ties_strokes enter_strokes turn_strokes return_size return_strokes tree_size tree_strokes part_size part_strokes plan_for plan_of node_drawn drawn drawn_part taking_inputs frame_strokes whole_strokes graph_of
shifting_arcs = refl

pub shifting_heads : ShiftingHeads
unfolding seat_of local_seat_of tables_of with_term with_terms collected bases_of root_source scalar_source array_source offset_of path_arrays static_layout instance_layout point step must_yield yielded yield_size to_temporary yield_strokes after entry_picks entry_arrays enter from_call from_exit returned leave head_picks to_head to_head_from_start from_head place_form place_strokes plain_form plain_strokes narrow_strokes operate_strokes call_strokes value values_after size sizes strokes all_strokes keeping fork sides_strokes compared compared_number test_size test_strokes store_size store_strokes found_strokes update_size update_strokes effect_size effect_strokes effects_size effects_strokes fresh_size fresh_strokes declared_size declared_strokes clear_size clear_strokes word_strokes resetting turning ties_strokes enter_strokes turn_strokes return_size return_strokes tree_size tree_strokes part_size part_strokes plan_for plan_of node_drawn drawn drawn_part taking_inputs frame_strokes whole_strokes graph_of
shifting_heads = refl
