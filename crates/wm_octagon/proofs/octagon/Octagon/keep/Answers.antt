use Rattle.std.proofs.Common.{Some, None, Bool, cond, subst, sym, to_z, of_z, w64, not}
use Rattle.std.proofs.lemmas.Int.{to_z-of_z}
use Rattle.wm_octagon.specs.Layout.{opposite}
use Rattle.wm_octagon.specs.View.{OctagonView, LeastOf, IsKept, WithDifference}
use Rattle.wm_octagon.specs.Points.{WithBound}
use Rattle.wm_octagon.specs.declared.octagon.Octagon.TheInside.{Inside}
use Rattle.wm_octagon.proofs.Octagons.{opened, kept-close, least-close, difference_from, bound_from, mirrored_from, mirrored_to}
use Rattle.wm_octagon.proofs.octagon.Octagon.keep.Goals as goal
use Rattle.wm_octagon.proofs.octagon.Octagon.keep.Goals.{then-l-row_len, else-l-row_len}

pub invariant_of-self-2 : goal.invariant_of-self-2
invariant_of-self-2 c = elim c.if-l-row_len.branch [
  | then-l-row_len w ↦
      subst (λ (s : Inside). IsKept s.half.variables s.half.bounds (not c.if-l-row_len.open)) (sym w.self-inside-is)
      (subst (λ (b : Bool). IsKept w.close_one-open.new.self.variables w.close_one-open.new.self.bounds (not b)) (sym w.open-is)
      (kept-close c.self.inside.half w.close_one-open.new.self c.args.k c.args.l (to_z w64 (of_z w64 c.args.c)) _ w.close_one-open.result
      w.close_one-open.ensures.list w.close_one-open.ensures.tight w.close_one-open.ensures.points c.self.invariant.few (c.self.invariant.boxed c.if-self.false)))
  | else-l-row_len w ↦
      subst (λ (s : Inside). IsKept s.half.variables s.half.bounds (not c.if-l-row_len.open)) (sym w.self-inside-is)
      (subst (λ (b : Bool). IsKept w.close_one-open-else-l-row_len.new.self.variables w.close_one-open-else-l-row_len.new.self.bounds (not b)) (sym w.open-is)
      (kept-close c.self.inside.half w.close_one-open-else-l-row_len.new.self w.opposite.result w.opposite-else-l-row_len.result (to_z w64 (of_z w64 c.args.c)) _ w.close_one-open-else-l-row_len.result
      w.close_one-open-else-l-row_len.ensures.list w.close_one-open-else-l-row_len.ensures.tight w.close_one-open-else-l-row_len.ensures.points c.self.invariant.few (c.self.invariant.boxed c.if-self.false)))
]

-- the half table while the octagon is not empty, and the octagon seen so
inner : (c : goal.After-self-2-1) → OctagonView
inner c = record { variables = c.self.inside.half.variables; bounds = Some c.self.inside.half.bounds }

pub returns-clause-least : goal.returns-clause-least
unfolding inner
returns-clause-least c =
    let view = opened c.self.inside.half.variables c.self.inside.half.bounds c.self.inside.empty c.args.self.now c.if-self.false c.self.view_is in
    let here = to_z-of_z w64 c.args.c c.ranges.c in
    elim c.if-l-row_len.branch [
      | then-l-row_len w ↦
          subst (λ (s : Inside). LeastOf s.half.variables (cond (not c.if-l-row_len.open) None (Some s.half.bounds)) (WithDifference c.args.self.now c.args.k c.args.l c.args.c)) (sym w.self-inside-is)
          (subst (λ (b : Bool). LeastOf w.close_one-open.new.self.variables (cond (not b) None (Some w.close_one-open.new.self.bounds)) (WithDifference c.args.self.now c.args.k c.args.l c.args.c)) (sym w.open-is)
          (subst (λ (o : OctagonView). LeastOf w.close_one-open.new.self.variables (cond (not w.close_one-open.result) None (Some w.close_one-open.new.self.bounds)) (WithDifference o c.args.k c.args.l c.args.c)) view
          (subst (λ z. LeastOf w.close_one-open.new.self.variables (cond (not w.close_one-open.result) None (Some w.close_one-open.new.self.bounds)) (WithDifference (inner c) c.args.k c.args.l z)) here
          (least-close c.self.inside.half w.close_one-open.new.self c.args.k c.args.l (to_z w64 (of_z w64 c.args.c)) _ w.close_one-open.result (WithDifference (inner c) c.args.k c.args.l (to_z w64 (of_z w64 c.args.c)))
          w.close_one-open.ensures.list w.close_one-open.ensures.least
          (difference_from c.self.inside.half.variables c.self.inside.half.bounds c.args.k c.args.l (to_z w64 (of_z w64 c.args.c)))
          (bound_from c.self.inside.half.variables c.self.inside.half.bounds c.args.k c.args.l (to_z w64 (of_z w64 c.args.c)))))))
      | else-l-row_len w ↦
          subst (λ (s : Inside). LeastOf s.half.variables (cond (not c.if-l-row_len.open) None (Some s.half.bounds)) (WithDifference c.args.self.now c.args.k c.args.l c.args.c)) (sym w.self-inside-is)
          (subst (λ (b : Bool). LeastOf w.close_one-open-else-l-row_len.new.self.variables (cond (not b) None (Some w.close_one-open-else-l-row_len.new.self.bounds)) (WithDifference c.args.self.now c.args.k c.args.l c.args.c)) (sym w.open-is)
          (subst (λ (o : OctagonView). LeastOf w.close_one-open-else-l-row_len.new.self.variables (cond (not w.close_one-open-else-l-row_len.result) None (Some w.close_one-open-else-l-row_len.new.self.bounds)) (WithDifference o c.args.k c.args.l c.args.c)) view
          (subst (λ z. LeastOf w.close_one-open-else-l-row_len.new.self.variables (cond (not w.close_one-open-else-l-row_len.result) None (Some w.close_one-open-else-l-row_len.new.self.bounds)) (WithDifference (inner c) c.args.k c.args.l z)) here
          (least-close c.self.inside.half w.close_one-open-else-l-row_len.new.self w.opposite.result w.opposite-else-l-row_len.result (to_z w64 (of_z w64 c.args.c)) _ w.close_one-open-else-l-row_len.result (WithDifference (inner c) c.args.k c.args.l (to_z w64 (of_z w64 c.args.c)))
          w.close_one-open-else-l-row_len.ensures.list w.close_one-open-else-l-row_len.ensures.least
          (λ x q. mirrored_from c.self.inside.half.variables c.self.inside.half.bounds c.args.k c.args.l (to_z w64 (of_z w64 c.args.c)) x
          (subst (λ i. WithBound c.self.inside.half.variables c.self.inside.half.bounds i (opposite c.args.k) (to_z w64 (of_z w64 c.args.c)) x) w.opposite.ensures
          (subst (λ j. WithBound c.self.inside.half.variables c.self.inside.half.bounds w.opposite.result j (to_z w64 (of_z w64 c.args.c)) x) w.opposite-else-l-row_len.ensures q)))
          (λ x q.
          subst (λ j. WithBound c.self.inside.half.variables c.self.inside.half.bounds w.opposite.result j (to_z w64 (of_z w64 c.args.c)) x) (sym w.opposite-else-l-row_len.ensures)
          (subst (λ i. WithBound c.self.inside.half.variables c.self.inside.half.bounds i (opposite c.args.k) (to_z w64 (of_z w64 c.args.c)) x) (sym w.opposite.ensures)
          (mirrored_to c.self.inside.half.variables c.self.inside.half.bounds c.args.k c.args.l (to_z w64 (of_z w64 c.args.c)) x q)))))))
    ]
