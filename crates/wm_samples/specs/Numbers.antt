-- The numbers of a sample file: two's complement, the least byte first.
use Rattle.std.specs.Prelude.{ℕ, ℤ, List, [], ◌∷◌, slice_index}
use Rattle.std.specs.Int.{w16, w32, cast_signed, from_le_bytes}
use Rattle.wm_ops.specs.declared.operators.Width.{Width}
use Rattle.wm_ops.specs.declared.operators.Width.TheVariants.{W16, W32}

-- how many bytes a number takes
abbrev pub bytes_of : Width → ℕ
bytes_of W16 = 2
bytes_of W32 = 4

-- the number at the front of the bytes; a byte past their end counts as 0
abbrev pub number_in : Width → List ℕ → ℤ
number_in W16 bytes = cast_signed w16 (from_le_bytes w16 (slice_index bytes 0 ∷ slice_index bytes 1 ∷ []))
number_in W32 bytes = cast_signed w32 (from_le_bytes w32 (slice_index bytes 0 ∷ slice_index bytes 1 ∷ slice_index bytes 2 ∷ slice_index bytes 3 ∷ []))
