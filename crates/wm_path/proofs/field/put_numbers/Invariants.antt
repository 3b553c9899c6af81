use Rattle.std.proofs.Common.{◌≡◌, drop}
use Rattle.wm_path.specs.Fields.{head_numbers}
use Rattle.wm_path.proofs.field.put_numbers.Given as goal

abbrev pub invariant-loop-number : goal.invariant-loop-number
invariant-loop-number l = head_numbers l.number (drop l.number l.heads) l.numbers.items ≡ head_numbers 0 l.heads l.fn.numbers.items
