use Rattle.std.proofs.Common.{ℕ, ◌<◌, ◌+◌, None, length, subst, refl, sym, ◌∙◌}
use Rattle.std.specs.Prelude.{slice_index_or}
use Rattle.wm_interval.specs.declared.Interval.{Interval}
use Rattle.wm_interval.specs.Holds.{Holds}
use Rattle.std.proofs.lemmas.List.{length-set}
use Rattle.wm_domain.specs.Points.{IsNarrow, nought}
use Rattle.wm_tied.specs.Pointed.{In}
use Rattle.wm_tied.proofs.Gathering.{any_default, all_of}
use Rattle.wm_projected.proofs.Picked.{drawn_picked}
use Rattle.wm_projected.proofs.Turns.{drawn_narrow, drawn_each, lying_each}
use Rattle.wm_projected.proofs.lying.fitting_ranges.Goals as goal

pub loop-k-preserved : goal.loop-k-preserved
loop-k-preserved c = record {
  long = length-set c.loop-k.ranges.items c.loop-k.k c.drawn_range-range.result ∙ c.loop-k.invariant.long;
  narrow = drawn_narrow c.loop-k.ranges.items c.loop-k.k (length c.args.full.now) c.drawn_range-range.result c.loop-k.invariant.long c.loop-k-test.true c.drawn_range-range.ensures.narrow c.loop-k.invariant.narrow;
  each = drawn_each (In c.args.tied.now) c.args.picks.now c.args.first c.args.full.now c.loop-k.ranges.items c.loop-k.k _ c.index-full-k.result c.drawn_range-range.result c.loop-k.invariant.long c.loop-k-test.true refl (c.index-full-k.is ∙ any_default c.args.full.now c.loop-k.k c.index-full-k.result nought c.loop-k-test.true) c.drawn_range-range.ensures.drawn c.loop-k.invariant.each;
  lies = lying_each (In c.args.tied.now) c.args.picks.now c.args.first c.args.full.now c.loop-k.k c.index-full-k.result (c.index-full-k.is ∙ any_default c.args.full.now c.loop-k.k c.index-full-k.result nought c.loop-k-test.true)
      (drawn_picked (In c.args.tied.now) (slice_index_or c.args.picks.now (c.args.first + c.loop-k.k) None) c.index-full-k.result c.drawn_range-range.result c.drawn_range-range.ensures.drawn
      (λ z h. subst (λ (f : Interval). Holds f z)
      (c.index-full-k-in-loop-k.is ∙ any_default c.args.full.now c.loop-k.k c.index-full-k-in-loop-k.result nought c.loop-k-test.true ∙ sym (c.index-full-k.is ∙ any_default c.args.full.now c.loop-k.k c.index-full-k.result nought c.loop-k-test.true))
      (c.if-not-within.ensures.inclusion.0 refl z h))) c.loop-k.invariant.lies;
}

pub returns-clause-narrow : goal.returns-clause-narrow
returns-clause-narrow c = all_of IsNarrow c.loop-k.ranges.items (λ k hk. c.loop-k.invariant.narrow k (subst (λ (n : ℕ). k < n) c.loop-k.invariant.long hk))
