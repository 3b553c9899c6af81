use Rattle.std.proofs.Common.{◌≡◌, ◌<◌, ℕ, List, [], Option, Some, None, refl, length, sym, subst, All}
use Rattle.std.specs.Prelude.{slice_index_or, IfSome}
use Rattle.wm_interval.specs.declared.Interval.{Interval}
use Rattle.wm_domain.specs.Changes.{Projected}
use Rattle.wm_domain.specs.Places.{placed, places_of, ArePaired}
use Rattle.wm_octagon.specs.View.{OctagonView}
use Rattle.wm_spans.specs.Spanned.{Spanned}
use Rattle.wm_spans.specs.Over.{parted}
use Rattle.wm_spans.specs.Over as laying
use Rattle.wm_tied.specs.Pointed.{TiedView, In}
use Rattle.wm_tied.specs.Leaving.{IsLeft}
use Rattle.wm_tied.specs.Projecting.{kept_pick}
use Rattle.wm_projected.proofs.Nexts.{next_named, spans_paired, next_tied, next_left, next_as}
use Rattle.wm_projected.proofs.Turns.{least_as}
use Rattle.wm_projected.proofs.following.next_of.Goals as goal

pub project-requires-clause-named : goal.project-requires-clause-named
project-requires-clause-named c =
    subst (λ (ks : List (Option ℕ)). All (λ (p : Option ℕ). IfSome p (λ v. v < c.ties.result.now.variables)) ks) (sym c.as_slice.ensures.value)
    (subst (λ (o : OctagonView). All (λ (p : Option ℕ). IfSome p (λ v. v < o.variables)) c.in_ok-keep.keep.items) (sym c.ties.ensures.value)
    (next_named c.args.tied.now c.args.group.now c.args.singles.now c.args.arrays.now c.requires.paired c.requires.some c.in_ok-keep.keep.items c.in_ok-keep.ensures.long
    (subst (λ (n : ℕ). (k : ℕ) → k < length c.args.group.now → slice_index_or c.in_ok-keep.keep.items k None ≡ kept_pick n (Some k)) c.count.ensures.value c.in_ok-keep.ensures.each)))

pub follow-requires-clause-paired : goal.follow-requires-clause-paired
follow-requires-clause-paired c = subst (λ (u : Spanned). ArePaired (parted 0 u) (laying.shape_of [] c.args.singles.now c.args.arrays.now)) (sym c.spans.ensures.value)
    (spans_paired c.args.tied.now c.args.group.now c.args.singles.now c.args.arrays.now c.requires.paired)

pub of_parts-requires : goal.of_parts-requires
of_parts-requires c =
    let s = c.in_ok-spans.spans in
    let n = next_as c.spans.result.now c.args.tied.now.spans s c.args.singles.now c.args.arrays.now c.spans.ensures.value (record { ranges = c.in_ok-spans.ensures.ranges; cells = c.in_ok-spans.ensures.cells; empty = c.in_ok-spans.ensures.empty }) in
    record {
      tied = next_tied c.args.tied.now c.args.group.now c.args.singles.now c.args.arrays.now c.requires.paired c.requires.some s n.ranges c.in_ok-keep.keep.items c.in_ok-ties.ties c.in_ok-keep.ensures.long
          (subst (λ (n : ℕ). (k : ℕ) → k < length c.args.group.now → slice_index_or c.in_ok-keep.keep.items k None ≡ kept_pick n (Some k)) c.count.ensures.value c.in_ok-keep.ensures.each)
          (subst (λ (ks : List (Option ℕ)). c.in_ok-ties.ties.variables ≡ length ks) c.as_slice.ensures.value c.in_ok-ties.ensures.variables)
          (least_as c.in_ok-ties.ties c.ties.result.now c.args.tied.now.ties c.as_slice.result.now c.in_ok-keep.keep.items c.args.group.now c.args.group.now c.ties.ensures.value c.as_slice.ensures.value refl c.in_ok-ties.ensures.least)
          c.in_ok-spans.ensures.full c.in_ok-spans.ensures.array_full c.in_ok-spans.ensures.kept n.empty n.cells c.requires.few c.requires.group;
    }

pub returns-clause-left : goal.returns-clause-left
returns-clause-left c =
    let s = c.in_ok-spans.spans in
    let n = next_as c.spans.result.now c.args.tied.now.spans s c.args.singles.now c.args.arrays.now c.spans.ensures.value (record { ranges = c.in_ok-spans.ensures.ranges; cells = c.in_ok-spans.ensures.cells; empty = c.in_ok-spans.ensures.empty }) in
    subst (λ (u : TiedView). IsLeft u (Projected (In c.args.tied.now) (places_of (length c.args.tied.now.group) (length c.args.tied.now.spans.full) (length c.args.group.now) (length c.args.singles.now)) (placed 0 (length c.args.tied.now.spans.array_full) (length c.args.arrays.now)))) (sym c.in_ok-next.ensures.value)
    (next_left c.args.tied.now c.args.group.now c.args.singles.now c.args.arrays.now c.requires.paired c.requires.some s n.ranges c.in_ok-keep.keep.items c.in_ok-ties.ties c.in_ok-keep.ensures.long
    (subst (λ (n : ℕ). (k : ℕ) → k < length c.args.group.now → slice_index_or c.in_ok-keep.keep.items k None ≡ kept_pick n (Some k)) c.count.ensures.value c.in_ok-keep.ensures.each)
    (subst (λ (ks : List (Option ℕ)). c.in_ok-ties.ties.variables ≡ length ks) c.as_slice.ensures.value c.in_ok-ties.ensures.variables)
    (least_as c.in_ok-ties.ties c.ties.result.now c.args.tied.now.ties c.as_slice.result.now c.in_ok-keep.keep.items c.args.group.now c.args.group.now c.ties.ensures.value c.as_slice.ensures.value refl c.in_ok-ties.ensures.least)
    c.in_ok-spans.ensures.full c.in_ok-spans.ensures.array_full c.in_ok-spans.ensures.kept n.empty n.cells c.requires.few c.requires.group)
