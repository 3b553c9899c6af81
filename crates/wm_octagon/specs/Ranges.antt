-- Variables that have any numbers of their ranges.
use Rattle.std.specs.Prelude.{ℕ, ◌*◌, ◌/◌, ◌%◌, ◌<◌, nat_eq, ℤ, pos, neg_ℤ, List, length, map, slice_index_or, if◌then◌else◌}
use Rattle.wm_interval.specs.declared.Interval.{Interval}
use Rattle.wm_numbers.specs.Within.{Within, IsWord32}
use Rattle.wm_octagon.specs.Layout.{table}
use Rattle.wm_octagon.specs.HalfTable.{HalfTable}
use Rattle.wm_octagon.specs.Changes.{apart}

-- both ends have 32 bits
pub record IsNarrow (r : Interval) : Type 0 where
  pub low_fits : IsWord32 r.low
  pub high_fits : IsWord32 r.high

-- the ends of range v
abbrev pub low_of : List Interval → ℕ → ℤ
low_of rs v = slice_index_or (map (λ r. r.low) rs) v (pos 0)

abbrev pub high_of : List Interval → ℕ → ℤ
high_of rs v = slice_index_or (map (λ r. r.high) rs) v (pos 0)

-- the greatest value of side k
abbrev pub range_top : List Interval → ℕ → ℤ
range_top rs k = if nat_eq (k % 2) 0 then high_of rs (k / 2) else neg_ℤ (low_of rs (k / 2))

-- the greatest value of side k, whose variable has any number of r
abbrev pub end_of : Interval → ℕ → ℤ
end_of r k = if nat_eq (k % 2) 0 then r.high else neg_ℤ r.low

-- x gives each variable a number of its range
pub record InRanges (rs : List Interval) (x : ℕ → ℤ) : Type 0 where
  pub inside : (v : ℕ) → v < length rs → Within (low_of rs v) (high_of rs v) (x v)

-- the half table of the ranges
abbrev pub box_table : List Interval → HalfTable
box_table rs = record { variables = length rs; bounds = table (2 * length rs) (apart (range_top rs)) }
