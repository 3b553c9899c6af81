-- The lower half of a number as a signed one: the numbers lie in pages of 65536, on each of which it rises.
use Rattle.std.proofs.Common.{◌≡◌, refl, sym, ap, ◌∙◌, ℤ, pos, negsuc, ◌+ℤ◌, ◌-ℤ◌, ◌*ℤ◌, ◌≤ℤ◌, arith}
use Rattle.std.proofs.lemmas.Int.{ints}
use Rattle.wm_numbers.proofs.Floors.{floor_mono, floor_is, floor_below, floor_above}
use Rattle.wm_numbers.proofs.Order.{le_trans, le_of_eq, le_antisym, low_within, high_within}
use Rattle.wm_numbers.specs.Floor.{floor_shift}
use Rattle.wm_numbers.specs.Within.{Within}
use Rattle.wm_interval.specs.declared.Interval.{Interval}
use Rattle.wm_ops.specs.Parts.{low_half}
use Rattle.wm_hull.specs.Ranges.{IsRangeOf}
use Rattle.wm_hull.proofs.Spans.{range_by}

-- the number of the page, and what is left
abbrev pub page : ℤ → ℤ
page z = floor_shift (z +ℤ pos 32768) 16

half_on : (z q : ℤ) → page z ≡ q → low_half z ≡ z -ℤ (q *ℤ pos 65536)
unfolding low_half
half_on z q e = ap (λ (p : ℤ). z -ℤ (p *ℤ pos 65536)) e

half_within : (z : ℤ) → Within (negsuc 32767) (pos 32767) (low_half z)
half_within z =
    let e = half_on z (page z) refl in
    let below = floor_below (z +ℤ pos 32768) 16 in
    let above = floor_above (z +ℤ pos 32768) 16 in
    record { above = omega (arith, ints); below = omega (arith, ints) }

-- at q * 65536 + r, with r a signed number of 16 bits, it is r
half_at : (q r : ℤ) → Within (negsuc 32767) (pos 32767) r → low_half ((q *ℤ pos 65536) +ℤ r) ≡ r
half_at q r w =
    let v = (q *ℤ pos 65536) +ℤ r in
    let above = w.above in
    let below = w.below in
    let p : page v ≡ q = floor_is (v +ℤ pos 32768) q 16 (omega (arith, ints)) (omega (arith, ints)) in
    half_on v q p ∙ omega (arith, ints)

module _ (x y z result : Interval) where
  -- all on one page
  pub one_page : page x.low ≡ page x.high → result.low ≡ low_half x.low → result.high ≡ low_half x.high → IsRangeOf (λ a b c. low_half a) x y z result
  one_page same low high =
      let q = page x.low in
      let at_low : low_half x.low ≡ x.low -ℤ (q *ℤ pos 65536) = half_on x.low q refl in
      let at_high : low_half x.high ≡ x.high -ℤ (q *ℤ pos 65536) = half_on x.high q (sym same) in
      range_by (λ a b c. low_half a) x y z result
      (record { a = x.low; b = y.low; c = z.low; inside = record { first = low_within x.ordered; second = low_within y.ordered; third = low_within z.ordered }; gives = sym low })
      (record { a = x.high; b = y.low; c = z.low; inside = record { first = high_within x.ordered; second = low_within y.ordered; third = low_within z.ordered }; gives = sym high })
      (λ a b c inside.
      let from = inside.first.above in
      let to = inside.first.below in
      let up : page x.low ≤ℤ page a = floor_mono 16 (omega (arith, ints)) in
      let down : page a ≤ℤ page x.high = floor_mono 16 (omega (arith, ints)) in
      let here : page a ≡ q = le_antisym (le_trans down (le_of_eq (sym same))) up in
      let e : low_half a ≡ a -ℤ (q *ℤ pos 65536) = half_on a q here in
      record { above = omega (arith, ints); below = omega (arith, ints) })

  -- the last number of a page and the first of a later one are among them
  pub two_pages : ¬ (page x.low ≡ page x.high) → result.low ≡ negsuc 32767 → result.high ≡ pos 32767 → IsRangeOf (λ a b c. low_half a) x y z result
  two_pages apart low high =
      let p = page x.low in
      let q = page x.high in
      let in_order : page x.low ≤ℤ page x.high = floor_mono 16 (let o = x.ordered in omega (arith, ints)) in
      let next : (p +ℤ pos 1) ≤ℤ q = omega (arith, ints) in
      let start = floor_above (x.low +ℤ pos 32768) 16 in
      let end = floor_below (x.high +ℤ pos 32768) 16 in
      let o = x.ordered in
      let low_at : Within x.low x.high ((q *ℤ pos 65536) +ℤ negsuc 32767) = record { above = omega (arith, ints); below = omega (arith, ints) } in
      let high_at : Within x.low x.high ((p *ℤ pos 65536) +ℤ pos 32767) = record { above = omega (arith, ints); below = omega (arith, ints) } in
      range_by (λ a b c. low_half a) x y z result
      (record {
        a = (q *ℤ pos 65536) +ℤ negsuc 32767;
        b = y.low;
        c = z.low;
        inside = record { first = low_at; second = low_within y.ordered; third = low_within z.ordered };
        gives = half_at q (negsuc 32767) (record { above = omega (arith, ints); below = omega (arith, ints) }) ∙ sym low;
      })
      (record {
        a = (p *ℤ pos 65536) +ℤ pos 32767;
        b = y.low;
        c = z.low;
        inside = record { first = high_at; second = low_within y.ordered; third = low_within z.ordered };
        gives = half_at p (pos 32767) (record { above = omega (arith, ints); below = omega (arith, ints) }) ∙ sym high;
      })
      (λ a b c inside. let w = half_within a in record { above = le_trans (le_of_eq low) w.above; below = le_trans w.below (le_of_eq (sym high)) })

-- on one page the lower halves are in order
pub halves_in_order : (u v : ℤ) → u ≤ℤ v → page u ≡ page v → low_half u ≤ℤ low_half v
halves_in_order u v h same =
    let at_low : low_half u ≡ u -ℤ (page u *ℤ pos 65536) = half_on u (page u) refl in
    let at_high : low_half v ≡ v -ℤ (page u *ℤ pos 65536) = half_on v (page u) (sym same) in
    omega (arith, ints)
