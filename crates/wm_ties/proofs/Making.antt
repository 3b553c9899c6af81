-- What is made anew: octagons of ranges and of picked variables, and numbers cut to a size.
use Rattle.std.proofs.Common.{◌≡◌, ◌≢◌, ◌⊎◌, inl, inr, ℕ, ◌+◌, ◌*◌, ◌^◌, ◌<◌, ℤ, pos, negsuc, ◌+ℤ◌, ◌-ℤ◌, ◌≤ℤ◌, neg_ℤ, List, length, map, Option, Some, None, sym, ◌∙◌, ap, subst, arith, refl, All, to_z, of_z, w64}
use Rattle.std.specs.Prelude.{◌↔◌, IfSome, slice_index_or, unsigned_abs}
use Rattle.std.proofs.lemmas.Int.{ints}
use Rattle.std.proofs.Math.ListN.{get_or-map}
use Rattle.std.proofs.lemmas.List.Elements.{All-get_or}
use Rattle.wm_numbers.specs.Within.{Within, IsWord32}
use Rattle.wm_interval.specs.declared.Interval.{Interval}
use Rattle.wm_interval.specs.Holds.{SizesBelow}
use Rattle.wm_domain.specs.Points.{range_at, nought, IsNarrow}
use Rattle.wm_octagon.specs.HalfTable.{IsSmall}
use Rattle.wm_octagon.proofs.Small.{small_read, fits_negated}
use mir.Val.{SFits}
use Rattle.wm_octagon.specs.Ranges.{low_of, high_of, InRanges}
use Rattle.wm_octagon.specs.Projecting.{picked, IsPicked, ProjectedOf}
use Rattle.wm_octagon.specs.View.{OctagonView, Holds, IsLeast}
use Rattle.wm_ties.specs.Exact.{IsNarrowly, AreInside}
use Rattle.wm_ties.proofs.Reach.{holds_of, reach_range}
use Rattle.wm_ties.proofs.Calls.{narrow_least}

low_is : (rs : List Interval) (v : ℕ) → low_of rs v ≡ (range_at rs v).low
low_is rs v = get_or-map (λ (r : Interval). r.low) rs v nought

high_is : (rs : List Interval) (v : ℕ) → high_of rs v ≡ (range_at rs v).high
high_is rs v = get_or-map (λ (r : Interval). r.high) rs v nought

in_range : (rs : List Interval) (v : ℕ) (z : ℤ) → Within (low_of rs v) (high_of rs v) z → Within (range_at rs v).low (range_at rs v).high z
in_range rs v z w = record { above = subst (λ (y : ℤ). y ≤ℤ z) (low_is rs v) w.above; below = subst (λ (y : ℤ). z ≤ℤ y) (high_is rs v) w.below }

of_range : (rs : List Interval) (v : ℕ) (z : ℤ) → Within (range_at rs v).low (range_at rs v).high z → Within (low_of rs v) (high_of rs v) z
of_range rs v z w = record { above = subst (λ (y : ℤ). y ≤ℤ z) (sym (low_is rs v)) w.above; below = subst (λ (y : ℤ). z ≤ℤ y) (sym (high_is rs v)) w.below }

in_word : (r : Interval) (z : ℤ) → IsNarrow r → Within r.low r.high z → IsWord32 z
in_word r z n w = let a = n.low_fits.above in let b = n.high_fits.below in let c = w.above in let d = w.below in record { above = omega (arith, ints); below = omega (arith, ints) }

narrow_at : (rs : List Interval) (v : ℕ) (z : ℤ) → All IsNarrow rs → v < length rs → Within (low_of rs v) (high_of rs v) z → IsWord32 z
narrow_at rs v z a hv w = in_word (range_at rs v) z (All-get_or IsNarrow rs v nought hv a) (in_range rs v z w)

pub new_narrow : (o : OctagonView) (rs : List Interval) → All IsNarrow rs → o.variables ≡ length rs → IsLeast o (InRanges rs) → IsNarrowly o
new_narrow o rs a e t = narrow_least o (InRanges rs) t (λ x p v hv. let h : v < length rs = subst (λ (k : ℕ). v < k) e hv in narrow_at rs v (x v) a h (p.inside v h))

pub new_exactly : (o : OctagonView) (rs : List Interval) → o.variables ≡ length rs → IsLeast o (InRanges rs) → (x : ℕ → ℤ) → Holds o x ↔ AreInside rs x
new_exactly o rs e t x = (
  λ p. record { inside = λ v hv. in_range rs v (x v) (reach_range o (InRanges rs) v (low_of rs v) (high_of rs v) (subst (λ (k : ℕ). v < k) (sym e) hv) t (λ y q. q.inside v hv) x p) },
  λ i. holds_of o (InRanges rs) t x (record { inside = λ v hv. of_range rs v (x v) (i.inside v hv) }),
)

-- a picked variable has 32 bits, and one that is not has them from its range
picked_word : (o : OctagonView) (rs : List Interval) (was : ℕ → ℤ) (v : ℕ) (z : ℤ) (p : Option ℕ) → All IsNarrow rs → v < length rs → IsNarrowly o → Holds o was → IfSome p (λ u. u < o.variables) → IsPicked p (low_of rs v) (high_of rs v) was z → IsWord32 z
picked_word o rs was v z None a hv n h named i = narrow_at rs v z a hv i
picked_word o rs was v z (Some u) a hv n h named i = subst IsWord32 (sym i) (n.words was h u named)

pub project_narrow : (o q : OctagonView) (keep : List (Option ℕ)) (rs : List Interval) → length rs ≡ length keep → All (λ p. IfSome p (λ v. v < o.variables)) keep → All IsNarrow rs → q.variables ≡ length keep → IsLeast q (ProjectedOf o keep rs) → IsNarrowly o → IsNarrowly q
project_narrow o q keep rs long named a e t n = narrow_least q (ProjectedOf o keep rs) t (λ x p v hv.
    let h : v < length keep = subst (λ (k : ℕ). v < k) e hv in
    picked_word o rs p.was v (x v) (picked keep v) a (subst (λ (k : ℕ). v < k) (sym long) h) n p.point (All-get_or (λ (k : Option ℕ). IfSome k (λ u. u < o.variables)) keep v None h named) (p.each v h))

-- the negative of a clamped number
back_read : (c : ℤ) → Within (negsuc 8589934591) (pos 8589934592) c → to_z w64 (of_z w64 (pos 0 -ℤ to_z w64 (of_z w64 c))) ≡ neg_ℤ c
back_read c w = let a = w.above in let b = w.below in omega (arith, ints)

pub back_above : (z c : ℤ) → Within (negsuc 8589934591) (pos 8589934592) c → ((y : ℤ) → Within (negsuc 4294967295) (pos 4294967296) y → (c ≤ℤ y) ↔ (z ≤ℤ y))
    → (y : ℤ) → Within (negsuc 4294967295) (pos 4294967296) y → (neg_ℤ y ≤ℤ to_z w64 (of_z w64 (pos 0 -ℤ to_z w64 (of_z w64 c)))) ↔ (z ≤ℤ y)
back_above z c w each y s =
    let e = back_read c w in
    let f = each y s in
    (λ h. f.0 (omega (arith, ints)), λ h. let g = f.1 h in omega (arith, ints))

-- the sum's ends
pub low_read : (low : ℤ) → Within (negsuc 4294967295) (pos 4294967296) low → to_z w64 (of_z w64 (pos 0 -ℤ to_z w64 (of_z w64 low))) ≡ neg_ℤ low
low_read low w = let a = w.above in let b = w.below in omega (arith, ints)

pub high_read : (high : ℤ) → Within (negsuc 4294967295) (pos 4294967296) high → to_z w64 (of_z w64 high) ≡ high
high_read high w = let a = w.above in let b = w.below in omega (arith, ints)

pub low_fits : (low : ℤ) → Within (negsuc 4294967295) (pos 4294967296) low → SFits w64 (pos 0 -ℤ to_z w64 (of_z w64 low))
low_fits low w =
    let a = w.above in
    let b = w.below in
    let s : IsSmall low = record { above = omega (arith, ints); below = omega (arith, ints) } in
    subst (λ (z : ℤ). SFits w64 (pos 0 -ℤ z)) (sym (small_read low s)) (fits_negated low s)

pub order_read : (low high : ℤ) → Within (negsuc 4294967295) (pos 4294967296) low → Within (negsuc 4294967295) (pos 4294967296) high → neg_ℤ low ≤ℤ high
    → to_z w64 (of_z w64 (pos 0 -ℤ to_z w64 (of_z w64 low))) ≤ℤ to_z w64 (of_z w64 high)
order_read low high w x h = let e = low_read low w in let f = high_read high x in omega (arith, ints)

pub sum_size : (r : Interval) (low high : ℤ) → Within (negsuc 4294967295) (pos 4294967296) low → Within (negsuc 4294967295) (pos 4294967296) high → r.low ≡ neg_ℤ low → r.high ≡ high → SizesBelow (2 ^ 34) r
sum_size r low high w x e f = let a = w.above in let b = w.below in let c = x.above in let d = x.below in record { low_size = omega (arith, ints); high_size = omega (arith, ints) }

-- numbers read back
pub read40 : (z : ℤ) → unsigned_abs z < 2 ^ 40 → to_z w64 (of_z w64 z) ≡ z
read40 z h = omega (arith, ints)

pub read60 : (z : ℤ) → unsigned_abs z < 2 ^ 60 → to_z w64 (of_z w64 z) ≡ z
read60 z h = omega (arith, ints)

pub read_clamped : (z : ℤ) → Within (negsuc 8589934591) (pos 8589934592) z → to_z w64 (of_z w64 z) ≡ z
read_clamped z w = let a = w.above in let b = w.below in omega (arith, ints)
