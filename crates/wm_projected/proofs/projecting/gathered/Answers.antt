use Rattle.std.proofs.Common.{◌≡◌, ℕ, List, Option, refl, length, sym, subst}
use Rattle.wm_domain.specs.Changes.{Projected}
use Rattle.wm_spans.specs.Spanned.{Spanned, cell_at}
use Rattle.wm_tied.specs.Pointed.{TiedView, In}
use Rattle.wm_tied.specs.Leaving.{IsLeft}
use Rattle.wm_tied.proofs.Drawing.{drawn_tied, drawn_leaves, kept_as}
use Rattle.wm_projected.proofs.Laying.{whole_of, whole_drawn, whole_within, drawn_inside}
use Rattle.wm_projected.proofs.Turns.{least_as, drawn_as}
use Rattle.wm_projected.proofs.projecting.gathered.Goals as goal

pub with_ranges-requires-clause-lies : goal.with_ranges-requires-clause-lies
with_ranges-requires-clause-lies c = drawn_inside (In c.args.tied.now) c.args.singles.now c.args.picks.now (length c.args.group.now) c.args.single_ranges.items c.requires.singles_each c.requires.singles_lie

pub of_parts-requires : goal.of_parts-requires
of_parts-requires c = let s = c.in_ok-spans.spans in record {
  tied = drawn_tied c.args.tied.now c.requires.some c.args.group.now c.args.singles.now c.args.arrays.now c.args.picks.now c.args.array_picks.now c.requires.long c.requires.arrays_long c.requires.picks c.requires.array_picks c.requires.group_lies c.requires.singles_lie
      c.in_ok-keep.keep.items c.args.ranges.items c.args.single_ranges.items c.in_ok-ties.ties (whole_of s) s
      c.in_ok-keep.ensures.long (kept_as c.in_ok-keep.keep.items c.args.picks.now (length c.args.group.now) _ (length c.args.tied.now.group) _ refl c.count.ensures.value c.in_ok-keep.ensures.each) (λ k hk none. c.requires.ranges_each k hk)
      c.requires.singles_long c.requires.singles_each
      (subst (λ (ks : List (Option ℕ)). c.in_ok-ties.ties.variables ≡ length ks) c.as_slice.ensures.value c.in_ok-ties.ensures.variables) (least_as c.in_ok-ties.ties c.ties.result.now c.args.tied.now.ties c.as_slice.result.now c.in_ok-keep.keep.items c.as_slice-2.result.now c.args.ranges.items c.ties.ensures.value c.as_slice.ensures.value c.as_slice-2.ensures.value c.in_ok-ties.ensures.least)
      c.in_ok-spans.ensures.full c.in_ok-spans.ensures.array_full refl refl
      (drawn_as (whole_of s) c.spans.result.now c.args.tied.now.spans c.args.array_picks.now (length c.args.arrays.now) c.spans.ensures.value (whole_drawn s c.args.arrays.now (cell_at c.spans.result.now.cells) c.args.array_picks.now c.in_ok-spans.ensures.kept c.in_ok-spans.ensures.array_full c.in_ok-spans.ensures.cells))
      (whole_within s c.args.single_ranges.items c.in_ok-spans.ensures.kept c.in_ok-spans.ensures.some c.in_ok-spans.ensures.ranges)
      c.requires.few c.requires.group;
}

pub returns-clause-left : goal.returns-clause-left
returns-clause-left c = let s = c.in_ok-spans.spans in subst (λ (u : TiedView). IsLeft u (Projected (In c.args.tied.now) c.args.picks.now c.args.array_picks.now)) (sym c.in_ok-drawn.ensures.value)
    (drawn_leaves c.args.tied.now c.requires.some c.args.group.now c.args.singles.now c.args.arrays.now c.args.picks.now c.args.array_picks.now c.requires.long c.requires.arrays_long c.requires.picks c.requires.array_picks c.requires.group_lies c.requires.singles_lie
    c.in_ok-keep.keep.items c.args.ranges.items c.args.single_ranges.items c.in_ok-ties.ties (whole_of s) s
    c.in_ok-keep.ensures.long (kept_as c.in_ok-keep.keep.items c.args.picks.now (length c.args.group.now) _ (length c.args.tied.now.group) _ refl c.count.ensures.value c.in_ok-keep.ensures.each) (λ k hk none. c.requires.ranges_each k hk)
    c.requires.singles_long c.requires.singles_each
    (subst (λ (ks : List (Option ℕ)). c.in_ok-ties.ties.variables ≡ length ks) c.as_slice.ensures.value c.in_ok-ties.ensures.variables) (least_as c.in_ok-ties.ties c.ties.result.now c.args.tied.now.ties c.as_slice.result.now c.in_ok-keep.keep.items c.as_slice-2.result.now c.args.ranges.items c.ties.ensures.value c.as_slice.ensures.value c.as_slice-2.ensures.value c.in_ok-ties.ensures.least)
    c.in_ok-spans.ensures.full c.in_ok-spans.ensures.array_full refl refl
    (drawn_as (whole_of s) c.spans.result.now c.args.tied.now.spans c.args.array_picks.now (length c.args.arrays.now) c.spans.ensures.value (whole_drawn s c.args.arrays.now (cell_at c.spans.result.now.cells) c.args.array_picks.now c.in_ok-spans.ensures.kept c.in_ok-spans.ensures.array_full c.in_ok-spans.ensures.cells))
    (whole_within s c.args.single_ranges.items c.in_ok-spans.ensures.kept c.in_ok-spans.ensures.some c.in_ok-spans.ensures.ranges)
    c.requires.few c.requires.group)
