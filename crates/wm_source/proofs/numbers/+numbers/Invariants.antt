-- The numbers so far and those of the parts that are left are those of all parts.
use Rattle.std.proofs.Common.{◌≡◌, drop}
use Rattle.wm_source.specs.Numbers.{numbers_in_parts, numbers_in_sources}
use Rattle.wm_source.specs.Reading.{either_mark, both_mark, equality_mark, relation_mark, sum_mark, product_mark}
use Rattle.wm_source.specs.Written.{written_parts, written_sources}
use Rattle.wm_source.proofs.numbers.+numbers.Given as goal

abbrev pub invariant-logical_numbers-loop-part : goal.invariant-logical_numbers-loop-part
invariant-logical_numbers-loop-part l = numbers_in_parts (written_parts either_mark (drop l.part-index l.part-items)) l.seen ≡ numbers_in_parts (written_parts either_mark l.rest) l.fn.seen

abbrev pub invariant-conjunction_numbers-loop-part : goal.invariant-conjunction_numbers-loop-part
invariant-conjunction_numbers-loop-part l = numbers_in_parts (written_parts both_mark (drop l.part-index l.part-items)) l.seen ≡ numbers_in_parts (written_parts both_mark l.rest) l.fn.seen

abbrev pub invariant-equality_numbers-loop-part : goal.invariant-equality_numbers-loop-part
invariant-equality_numbers-loop-part l = numbers_in_parts (written_parts equality_mark (drop l.part-index l.part-items)) l.seen ≡ numbers_in_parts (written_parts equality_mark l.rest) l.fn.seen

abbrev pub invariant-relation_numbers-loop-part : goal.invariant-relation_numbers-loop-part
invariant-relation_numbers-loop-part l = numbers_in_parts (written_parts relation_mark (drop l.part-index l.part-items)) l.seen ≡ numbers_in_parts (written_parts relation_mark l.rest) l.fn.seen

abbrev pub invariant-sum_numbers-loop-part : goal.invariant-sum_numbers-loop-part
invariant-sum_numbers-loop-part l = numbers_in_parts (written_parts sum_mark (drop l.part-index l.part-items)) l.seen ≡ numbers_in_parts (written_parts sum_mark l.rest) l.fn.seen

abbrev pub invariant-product_numbers-loop-part : goal.invariant-product_numbers-loop-part
invariant-product_numbers-loop-part l = numbers_in_parts (written_parts product_mark (drop l.part-index l.part-items)) l.seen ≡ numbers_in_parts (written_parts product_mark l.rest) l.fn.seen

abbrev pub invariant-argument_numbers-loop-argument : goal.invariant-argument_numbers-loop-argument
invariant-argument_numbers-loop-argument l =
    numbers_in_sources (written_sources (drop l.argument-index l.argument-items)) l.seen ≡ numbers_in_sources (written_sources l.arguments) l.fn.seen
