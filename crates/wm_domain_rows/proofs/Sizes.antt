-- Lengths of two lists in a row, and the sizes of drawn numbers.
use Rattle.std.proofs.Common.{◌≡◌, ◌<◌, ◌^◌, ℕ, ◌+◌, ℤ, List, ◌++◌, length, arith, unsigned_abs}
use Rattle.std.proofs.lemmas.Int.{ints}
use Rattle.std.proofs.lemmas.List.{length-append}
use Rattle.wm_interval.specs.declared.Interval.{Interval}
use Rattle.wm_domain_rows.specs.Drawn.{IsTiny}

pub append_length : (xs ys : List Interval) → length (xs ++ ys) ≡ length xs + length ys
append_length xs ys = length-append xs ys

pub tiny_small : (z : ℤ) → IsTiny z → unsigned_abs z < 2 ^ 50
tiny_small z t = let a = t.above in let b = t.below in omega (arith, ints)
