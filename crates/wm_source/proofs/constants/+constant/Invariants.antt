-- The value so far and the parts that are left give the value of all parts.
use Rattle.std.proofs.Common.{◌≡◌, drop}
use Rattle.wm_numbers.specs.Within.{IsWord32}
use Rattle.wm_source.specs.Constants.{value_on}
use Rattle.wm_source.specs.Written.{sum_parts, product_parts}
use Rattle.wm_source.proofs.constants.+constant.Given as goal

abbrev pub invariant-products-loop-part : goal.invariant-products-loop-part
invariant-products-loop-part l = record {
  left : value_on l.value (product_parts (drop l.part-index l.part-items)) ≡ value_on l.first (product_parts l.rest);
  fits : IsWord32 l.value;
}

abbrev pub invariant-sums-loop-part : goal.invariant-sums-loop-part
invariant-sums-loop-part l = record {
  left : value_on l.value (sum_parts (drop l.part-index l.part-items)) ≡ value_on l.first (sum_parts l.rest);
  fits : IsWord32 l.value;
}
