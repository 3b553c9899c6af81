-- One, where a local is kept as an array.
use Rattle.std.specs.Prelude.{ℕ}
use Rattle.wm_flow.specs.declared.seats.LocalSeat.{LocalSeat}
use Rattle.wm_flow.specs.declared.seats.LocalSeat.TheVariants as local_seat

abbrev pub array_count : LocalSeat → ℕ
array_count (local_seat.Scalar k) = 0
array_count (local_seat.Array k) = 1
