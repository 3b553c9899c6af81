-- Products of numbers of 16 bits have 32 bits.
use Rattle.std.proofs.Common.{ℤ, pos, negsuc, ◌*ℤ◌, subst, arith}
use Rattle.std.proofs.lemmas.Int.{ints}
use Rattle.wm_numbers.proofs.Order.{le_trans}
use Rattle.wm_numbers.specs.Within.{Within, IsWord16, IsWord32}
use Rattle.wm_interval.specs.Holds.{Holds, IsHullOf, ResultOn}
use Rattle.wm_interval.specs.declared.Interval.{Interval}
use Rattle.wm_ops.proofs.Bounds.{product_small}
use Rattle.wm_hull.specs.Ranges.{IsBox16, IsBox32}

pub word_in : (x : Interval) (a : ℤ) → IsBox16 x → Holds x a → IsWord16 a
word_in x a h w = record { above = le_trans h.low_in.above w.above; below = le_trans w.below h.high_in.below }

wide : (v : ℤ) → Within (negsuc 1073741823) (pos 1073741824) v → IsWord32 v
wide v w = let a = w.above in let b = w.below in record { above = omega (arith, ints); below = omega (arith, ints) }

reached : (x y : Interval) (v : ℤ) → IsBox16 x → IsBox16 y → ResultOn ◌*ℤ◌ x y v → IsWord32 v
reached x y v h k r = subst IsWord32 r.gives (wide (r.x *ℤ r.y) (product_small r.x r.y (word_in x r.x h r.x_in) (word_in y r.y k r.y_in)))

pub product_box : (x y range : Interval) → IsBox16 x → IsBox16 y → IsHullOf (ResultOn ◌*ℤ◌ x y) range → IsBox32 range
product_box x y range h k r = record { low_in = reached x y _ h k r.low_is.attained; high_in = reached x y _ h k r.high_is.attained }
