-- What is left is read behind what was found, as the whole list is.
use Rattle.std.proofs.Common.{◌≡◌, drop, [], false}
use Rattle.wm_program.specs.declared.tree.Comparison.TheVariants.{Equal}
use Rattle.wm_source.specs.Reading.{either_mark, both_mark, equality_mark, relation_mark, sum_mark, product_mark}
use Rattle.wm_source.specs.Written.{written_parts, written_sources}
use Rattle.wm_value.specs.Kinds.{no_number}
use Rattle.wm_value.specs.Values.{disjunction_in, conjunction_in, comparison_in, links_in, offset_in, operands_in, passed_in}
use Rattle.wm_value.proofs.expression.+value.Given as goal

abbrev pub invariant-disjunction-loop-part : goal.invariant-disjunction-loop-part
invariant-disjunction-loop-part l =
    disjunction_in l.scope l.left l.others (written_parts either_mark (drop l.part-index l.part-items)) l.marks
    ≡ disjunction_in l.scope l.fn.left [] (written_parts either_mark l.rest) l.fn.marks

abbrev pub invariant-conjunction-loop-part : goal.invariant-conjunction-loop-part
invariant-conjunction-loop-part l =
    conjunction_in l.scope l.left l.others (written_parts both_mark (drop l.part-index l.part-items)) l.marks
    ≡ conjunction_in l.scope l.fn.left [] (written_parts both_mark l.rest) l.fn.marks

abbrev pub invariant-equalities-loop-part : goal.invariant-equalities-loop-part
invariant-equalities-loop-part l =
    comparison_in l.scope l.at l.left l.seen l.mark l.right (written_parts equality_mark (drop l.part-index l.part-items)) l.marks
    ≡ comparison_in l.scope l.at l.fn.left false Equal no_number (written_parts equality_mark l.rest) l.fn.marks

abbrev pub invariant-relations-loop-part : goal.invariant-relations-loop-part
invariant-relations-loop-part l =
    comparison_in l.scope l.at l.left l.seen l.mark l.right (written_parts relation_mark (drop l.part-index l.part-items)) l.marks
    ≡ comparison_in l.scope l.at l.fn.left false Equal no_number (written_parts relation_mark l.rest) l.fn.marks

abbrev pub invariant-sums-loop-part : goal.invariant-sums-loop-part
invariant-sums-loop-part l =
    links_in l.scope l.lost l.left l.links (written_parts sum_mark (drop l.part-index l.part-items)) l.marks
    ≡ links_in l.scope l.lost l.fn.left [] (written_parts sum_mark l.rest) l.fn.marks

abbrev pub invariant-products-loop-part : goal.invariant-products-loop-part
invariant-products-loop-part l =
    links_in l.scope false l.left l.links (written_parts product_mark (drop l.part-index l.part-items)) l.marks
    ≡ links_in l.scope false l.fn.left [] (written_parts product_mark l.rest) l.fn.marks

abbrev pub invariant-offset-loop-part : goal.invariant-offset-loop-part
invariant-offset-loop-part l =
    offset_in l.scope l.sight (written_parts sum_mark (drop l.part-index l.part-items)) l.marks
    ≡ offset_in l.scope l.sight (written_parts sum_mark l.rest) l.fn.marks

abbrev pub invariant-operands-loop-argument : goal.invariant-operands-loop-argument
invariant-operands-loop-argument l =
    operands_in l.scope l.op l.found (written_sources (drop l.argument-index l.argument-items)) l.marks
    ≡ operands_in l.scope l.op [] (written_sources l.arguments) l.fn.marks

abbrev pub invariant-passed-loop-argument : goal.invariant-passed-loop-argument
invariant-passed-loop-argument l =
    passed_in l.scope l.slots l.found (written_sources (drop l.argument-index l.argument-items)) l.marks
    ≡ passed_in l.scope l.slots [] (written_sources l.arguments) l.fn.marks
