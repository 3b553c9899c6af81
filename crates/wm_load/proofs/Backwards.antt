-- What a specification says gives the specification back.
use Rattle.std.proofs.Common.{◌≡◌, ◌∙◌, refl, ap, ap₂, ℤ, ◌≤ℤ◌, Bool, true, false, List, [], ◌∷◌}
use Rattle.std.specs.Prelude.{T, map}
use Rattle.std.specs.Int.Signed.{le_z, le_z_yes}
use Rattle.wm_interval.specs.declared.Interval.{Interval}
use Rattle.wm_program.specs.declared.spec.RangeOf.{RangeOf}
use Rattle.wm_program.specs.declared.spec.Spec.{Spec}
use Rattle.wm_program.specs.Settings.{range_of, settings_of}
use Rattle.wm_load.specs.Specification.{interval_where, interval_of, range_from, spec_of}

-- two proofs of one order are the same
one_proof : (b : Bool) (p q : T b) → p ≡ q
one_proof true p q = refl
one_proof false p q = absurd p

one_order : (a b : ℤ) (p q : a ≤ℤ b) → p ≡ q
one_order a b p q =
    let made : T (le_z a b) → a ≤ℤ b = λ (t : T (le_z a b)). record { le = t } in
    ap made (one_proof (le_z a b) p.le q.le)

same_where : (i : Interval) (ordered : Bool) (holds : T ordered → i.low ≤ℤ i.high) → T ordered → interval_where i.low i.high ordered holds ≡ i
same_where i true holds t =
    let made : i.low ≤ℤ i.high → Interval = λ (o : i.low ≤ℤ i.high). record { low = i.low; high = i.high; ordered = o } in
    ap made (one_order i.low i.high (holds tt) i.ordered)
same_where i false holds t = absurd t

same_interval : (i : Interval) → interval_of i.low i.high ≡ i
same_interval i = same_where i (le_z i.low i.high) le_z_yes i.ordered.le

same_range : (r : RangeOf) → range_from (range_of r) ≡ r
same_range r =
    let made : Interval → RangeOf = λ (i : Interval). record { name = r.name; range = i } in
    ap made (same_interval r.range)

same_ranges : (rs : List RangeOf) → map range_from (map range_of rs) ≡ rs
same_ranges [] = refl
same_ranges (r ∷ rs) = ap (λ (x : RangeOf). x ∷ map range_from (map range_of rs)) (same_range r) ∙ ap (λ (xs : List RangeOf). r ∷ xs) (same_ranges rs)

pub same_spec : (spec : Spec) → spec_of (settings_of spec) ≡ spec
unfolding spec_of
same_spec spec =
    let made : List RangeOf → Spec =
    λ (ranges : List RangeOf). record {
      sources = spec.sources;
      weights = spec.weights;
      certificate = spec.certificate;
      init = spec.init;
      frames = spec.frames;
      frame_us = spec.frame_us;
      pack = spec.pack;
      steps = spec.steps;
      ranges = ranges;
    } in
    ap made (same_ranges spec.ranges)
