-- Sums, differences, sizes and opposites.
use Rattle.std.specs.Prelude.{ℤ, pos, ◌+ℤ◌, ◌-ℤ◌, neg_ℤ, unsigned_abs}
use Rattle.wm_ops.specs.declared.clamping.Clamped.{Clamped}
use Rattle.wm_ops.specs.Clamping.{to16, to32}

abbrev pub add_of : ℤ → ℤ → Clamped
add_of a b = to16 (a +ℤ b)

abbrev pub sub_of : ℤ → ℤ → Clamped
sub_of a b = to16 (a -ℤ b)

abbrev pub abs_s_of : ℤ → Clamped
abs_s_of a = to16 (pos (unsigned_abs a))

abbrev pub negate_of : ℤ → Clamped
negate_of a = to16 (neg_ℤ a)

abbrev pub l_add_of : ℤ → ℤ → Clamped
l_add_of a b = to32 (a +ℤ b)

abbrev pub l_sub_of : ℤ → ℤ → Clamped
l_sub_of a b = to32 (a -ℤ b)

abbrev pub l_abs_of : ℤ → Clamped
l_abs_of a = to32 (pos (unsigned_abs a))

abbrev pub l_negate_of : ℤ → Clamped
l_negate_of a = to32 (neg_ℤ a)
