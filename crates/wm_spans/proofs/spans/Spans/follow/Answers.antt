use Rattle.std.proofs.Common.{◌≡◌, ◌∙◌, ◌++◌, ℕ, List, Bool, ap, sym, subst, take, drop, replicate, length}
use Rattle.wm_interval.specs.declared.Interval.{Interval}
use Rattle.wm_arrays.specs.declared.summary.Summary.{Summary}
use Rattle.wm_arrays.specs.declared.summary.Summary.TheVariants.{Empty}
use Rattle.wm_spans.specs.Spanned.{Spanned, IsKept, Kept}
use Rattle.wm_spans.specs.Over.{over}
use Rattle.wm_spans.proofs.Paired.{followed_kept, followed_drawn, followed_points}
use Rattle.wm_spans.proofs.spans.Spans.follow.Goals as goal
use Rattle.wm_spans.proofs.spans.Spans.follow.Goals.{In_ok-spans}

ranges_are : (count : ℕ) (first second items xs ys : List Interval) → xs ≡ ys → items ≡ over (take count xs) first ++ over (drop count xs) second → items ≡ over (take count ys) first ++ over (drop count ys) second
ranges_are count first second items xs ys e f = f ∙ ap (λ (zs : List Interval). over (take count zs) first ++ over (drop count zs) second) e

cells_are : (n : ℕ) (items xs ys : List Summary) → xs ≡ ys → items ≡ over xs (replicate n Empty) → items ≡ over ys (replicate n Empty)
cells_are n items xs ys e f = f ∙ ap (λ (zs : List Summary). over zs (replicate n Empty)) e

all_of : (s : Spanned) (first second arrays : List Interval) (ranges rs : List Interval) (cells cs : List Summary) (e f : Bool) → s ≡ record { full = first ++ second; array_full = arrays; ranges = ranges; cells = cells; empty = e } → ranges ≡ rs → cells ≡ cs → e ≡ f
    → s ≡ record { full = first ++ second; array_full = arrays; ranges = rs; cells = cs; empty = f }
all_of s first second arrays ranges rs cells cs e f h a b d = cc

spans_are : (c : In_ok-spans) → c.in_ok-spans.spans ≡ record { full = c.args.first.now ++ c.args.second.now; array_full = c.args.arrays.now; ranges = over (take c.args.count c.args.self.now.ranges) c.args.first.now ++ over (drop c.args.count c.args.self.now.ranges) c.args.second.now; cells = over c.args.self.now.cells (replicate (length c.args.arrays.now) Empty); empty = c.args.self.now.empty }
spans_are c = all_of c.in_ok-spans.spans c.args.first.now c.args.second.now c.args.arrays.now _ _ _ _ _ _ c.in_ok-spans.ensures.value (ranges_are c.args.count c.args.first.now c.args.second.now c.in_ok-ranges.ranges.items _ _ c.ranges-2.ensures.value c.in_ok-ranges.ensures.items) (cells_are (length c.args.arrays.now) c.in_ok-cells.cells.items _ _ c.cells.ensures.value c.in_ok-cells.ensures.items) c.is_empty-empty.ensures.value

pub of_lists-requires : goal.of_lists-requires
of_lists-requires c = record {
  kept =
      subst (λ (xs : List Interval). IsKept (c.args.first.now ++ c.args.second.now) c.args.arrays.now xs c.in_ok-cells.cells.items) (sym (ranges_are c.args.count c.args.first.now c.args.second.now c.in_ok-ranges.ranges.items _ _ c.ranges-2.ensures.value c.in_ok-ranges.ensures.items))
      (subst (λ (xs : List Summary). IsKept (c.args.first.now ++ c.args.second.now) c.args.arrays.now (over (take c.args.count c.args.self.now.ranges) c.args.first.now ++ over (drop c.args.count c.args.self.now.ranges) c.args.second.now) xs) (sym (cells_are (length c.args.arrays.now) c.in_ok-cells.cells.items _ _ c.cells.ensures.value c.in_ok-cells.ensures.items))
      (followed_kept c.args.self.now c.ranges-2.ensures.kept c.args.count c.args.first.now c.args.second.now c.args.arrays.now c.requires.paired c.requires.first c.requires.second));
}

spans_kept : (c : In_ok-spans) → Kept c.in_ok-spans.spans
spans_kept c = subst Kept (sym (spans_are c)) (followed_kept c.args.self.now c.ranges-2.ensures.kept c.args.count c.args.first.now c.args.second.now c.args.arrays.now c.requires.paired c.requires.first c.requires.second)

pub returns-clause-cells : goal.returns-clause-cells
returns-clause-cells c = followed_drawn c.args.self.now c.ranges-2.ensures.kept c.args.count c.args.first.now c.args.second.now c.args.arrays.now c.requires.paired c.in_ok-spans.spans (spans_kept c) (spans_are c)

pub returns-clause-points : goal.returns-clause-points
returns-clause-points c = followed_points c.args.self.now c.ranges-2.ensures.kept c.args.count c.args.first.now c.args.second.now c.args.arrays.now c.requires.paired c.in_ok-spans.spans (spans_kept c) (spans_are c)
