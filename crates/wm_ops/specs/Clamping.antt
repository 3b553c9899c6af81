-- What a formula with clamps gives: the number, and whether some clamp on the way to it changed its number.
use Rattle.std.specs.Prelude.{ℤ, pos, negsuc, Bool, false, int_lt, ◌||◌}
use Rattle.wm_numbers.specs.Clamp.{clamp16, clamp32}
use Rattle.wm_ops.specs.declared.clamping.Clamped.{Clamped}

-- a clamp to 16 bits changes z
unfoldable pub leaves16 : ℤ → Bool
leaves16 z = int_lt z (negsuc 32767) || int_lt (pos 32767) z

-- a clamp to 32 bits changes z
unfoldable pub leaves32 : ℤ → Bool
leaves32 z = int_lt z (negsuc 2147483647) || int_lt (pos 2147483647) z

-- no clamp
abbrev pub exact : ℤ → Clamped
exact z = record { value = z; changed = false }

-- a clamp to 16 bits
abbrev pub to16 : ℤ → Clamped
to16 z = record { value = clamp16 z; changed = leaves16 z }

-- a clamp to 32 bits
abbrev pub to32 : ℤ → Clamped
to32 z = record { value = clamp32 z; changed = leaves32 z }

-- a formula upon the number that another gave: a clamp of either counts
abbrev pub and_then : Clamped → (ℤ → Clamped) → Clamped
and_then first next =
    record { value = (next first.value).value; changed = first.changed || (next first.value).changed }
