use Rattle.std.proofs.Common.{◌∙◌, ◌++◌, ap, subst, sym, List, length, take, drop}
use Rattle.wm_interval.specs.declared.Interval.{Interval}
use Rattle.wm_arrays.specs.declared.summary.Summary.{Summary}
use Rattle.wm_spans.specs.Spanned.{Spanned, IsKept}
use Rattle.wm_spans.specs.Exact.{IsRaised}
use Rattle.wm_spans.proofs.Raised.{written_back, joined_as, least_as, moved_kept, kept_raised, raised, state_of}
use Rattle.wm_spans.proofs.spans.Spans.raise.Goals as goal

pub invariant_of-self : goal.invariant_of-self
invariant_of-self c =
    let f = ap (λ (s : Spanned). s.full) c.self.view_is ∙ c.requires.full ∙ sym (ap (λ (s : Spanned). s.full) c.other.view_is) in
    let g = ap (λ (s : Spanned). s.array_full) c.self.view_is ∙ c.requires.array_full ∙ sym (ap (λ (s : Spanned). s.array_full) c.other.view_is) in
    let ns : List Interval = c.join_ranges.new.ranges in
    let es : List Summary = c.join_summaries.new.cells in
    let wr = written_back ns (drop (length ns) c.self.inside.ranges.items) c.self.inside.ranges.len (c.join_ranges.ensures.long ∙ c.as_mut_slice.ensures.len) in
    let wc = written_back es (drop (length es) c.self.inside.cells.items) c.self.inside.cells.len (c.join_summaries.ensures.long ∙ c.as_mut_slice-2.ensures.len) in
    subst (λ (xs : List Interval). IsKept c.self.inside.full.items c.self.inside.array_full.items xs (take c.self.inside.cells.len (es ++ drop (length es) c.self.inside.cells.items))) (sym wr)
    (subst (λ (xs : List Summary). IsKept c.self.inside.full.items c.self.inside.array_full.items ns xs) (sym wc)
    (kept_raised c.self.inside.full.items c.self.inside.array_full.items c.self.inside.ranges.items c.other.inside.ranges.items ns c.self.inside.cells.items c.other.inside.cells.items es c.self.invariant
    (moved_kept c.self.inside.full.items c.self.inside.array_full.items c.other.inside.full.items c.other.inside.array_full.items c.other.inside.ranges.items c.other.inside.cells.items f g c.other.invariant)
    (c.join_ranges.ensures.long ∙ ap (λ (xs : List Interval). length xs) c.as_mut_slice.ensures.value) (c.join_summaries.ensures.long ∙ ap (λ (xs : List Summary). length xs) c.as_mut_slice-2.ensures.value)
    (joined_as c.as_mut_slice.result.now c.as_slice.result.now ns c.self.inside.ranges.items c.other.inside.ranges.items c.as_mut_slice.ensures.value c.as_slice.ensures.value c.join_ranges.ensures.each)
    (least_as c.as_mut_slice-2.result.now c.as_slice-2.result.now es c.self.inside.cells.items c.other.inside.cells.items c.as_mut_slice-2.ensures.value c.as_slice-2.ensures.value c.join_summaries.ensures.each)))

pub returns-clause-raised : goal.returns-clause-raised
returns-clause-raised c =
    let f = ap (λ (s : Spanned). s.full) c.self.view_is ∙ c.requires.full ∙ sym (ap (λ (s : Spanned). s.full) c.other.view_is) in
    let g = ap (λ (s : Spanned). s.array_full) c.self.view_is ∙ c.requires.array_full ∙ sym (ap (λ (s : Spanned). s.array_full) c.other.view_is) in
    let ns : List Interval = c.join_ranges.new.ranges in
    let es : List Summary = c.join_summaries.new.cells in
    let wr = written_back ns (drop (length ns) c.self.inside.ranges.items) c.self.inside.ranges.len (c.join_ranges.ensures.long ∙ c.as_mut_slice.ensures.len) in
    let wc = written_back es (drop (length es) c.self.inside.cells.items) c.self.inside.cells.len (c.join_summaries.ensures.long ∙ c.as_mut_slice-2.ensures.len) in
    let back : List Interval = take c.self.inside.ranges.len (ns ++ drop (length ns) c.self.inside.ranges.items) in
    let cells_back : List Summary = take c.self.inside.cells.len (es ++ drop (length es) c.self.inside.cells.items) in
    let here : Spanned = state_of c.self.inside.full.items c.self.inside.array_full.items c.self.inside.ranges.items c.self.inside.cells.items c.self.inside.empty in
    let there : Spanned = state_of c.other.inside.full.items c.other.inside.array_full.items c.other.inside.ranges.items c.other.inside.cells.items c.other.inside.empty in
    subst (λ (s : Spanned). IsRaised s c.args.other.now (state_of c.self.inside.full.items c.self.inside.array_full.items back cells_back c.self.inside.empty)) c.self.view_is
    (subst (λ (t : Spanned). IsRaised here t (state_of c.self.inside.full.items c.self.inside.array_full.items back cells_back c.self.inside.empty)) c.other.view_is
    (subst (λ (xs : List Interval). IsRaised here there (state_of c.self.inside.full.items c.self.inside.array_full.items xs cells_back c.self.inside.empty)) (sym wr)
    (subst (λ (xs : List Summary). IsRaised here there (state_of c.self.inside.full.items c.self.inside.array_full.items ns xs c.self.inside.empty)) (sym wc)
    (raised c.self.inside.full.items c.self.inside.array_full.items c.self.inside.ranges.items c.other.inside.ranges.items ns c.self.inside.cells.items c.other.inside.cells.items es c.self.invariant
    (moved_kept c.self.inside.full.items c.self.inside.array_full.items c.other.inside.full.items c.other.inside.array_full.items c.other.inside.ranges.items c.other.inside.cells.items f g c.other.invariant)
    (c.join_ranges.ensures.long ∙ ap (λ (xs : List Interval). length xs) c.as_mut_slice.ensures.value) (c.join_summaries.ensures.long ∙ ap (λ (xs : List Summary). length xs) c.as_mut_slice-2.ensures.value)
    (joined_as c.as_mut_slice.result.now c.as_slice.result.now ns c.self.inside.ranges.items c.other.inside.ranges.items c.as_mut_slice.ensures.value c.as_slice.ensures.value c.join_ranges.ensures.each)
    (least_as c.as_mut_slice-2.result.now c.as_slice-2.result.now es c.self.inside.cells.items c.other.inside.cells.items c.as_mut_slice-2.ensures.value c.as_slice-2.ensures.value c.join_summaries.ensures.each)
    c.self.inside.empty c.other.inside.empty c.other.inside.full.items c.other.inside.array_full.items))))
