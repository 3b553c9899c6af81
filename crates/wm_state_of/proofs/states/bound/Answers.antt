use Rattle.std.proofs.Common.{◌≡◌, ◌∙◌, sym, subst, List, length, arith}
use Rattle.wm_domain.specs.States.{InShape, array_count}
use Rattle.wm_domain.specs.declared.shape.Shape.{Shape}
use Rattle.wm_cert_text.specs.declared.told.Cells.{Cells}
use Rattle.wm_cert_text.specs.declared.told.Ends.{Ends}
use Rattle.wm_cert_text.specs.declared.told.Pair.{Pair}
use Rattle.wm_state_of.specs.Cuts.{Cut}
use Rattle.wm_state_of.specs.Meeting.{BoundsMet, PairsMet}
use Rattle.wm_state_of.specs.Setting.{ArraysSet}
use Rattle.wm_state_of.proofs.Setting.{is_state}
use Rattle.wm_state_of.proofs.states.bound.Goals as goal

pub returns-clause-state : goal.returns-clause-state
returns-clause-state g c =
    let count : length c.args.told.now.arrays ≡ array_count c.args.shape.now = grind arith in
    is_state (g.D.Domain.holds c.args.state.now) (g.D.Domain.holds c.set_arrays.new.state) (g.D.Domain.holds c.keep_bounds.new.state) (g.D.Domain.holds c.keep_pairs.new.state) c.args.shape.now c.args.told.now
    count
    c.requires.full
    (λ p h. subst (λ (xs : List Cells). ArraysSet (g.D.Domain.holds c.args.state.now) (length xs) xs p) c.items-5.ensures.items (c.set_arrays.ensures.made p h))
    (λ p i h. c.set_arrays.ensures.kept p (subst (λ (s : Shape). InShape s p) (sym c.requires.shape) i)
    (subst (λ (xs : List Cells). ArraysSet (g.D.Domain.holds c.args.state.now) (length xs) xs p) (sym c.items-5.ensures.items) h))
    (subst (λ (xs : List Ends). Cut (g.D.Domain.holds c.set_arrays.new.state) (g.D.Domain.holds c.keep_bounds.new.state) (BoundsMet 0 xs)) c.items-6.ensures.items c.in_ok-keep_bounds.ensures.cut)
    (subst (λ (xs : List Pair). Cut (g.D.Domain.holds c.keep_bounds.new.state) (g.D.Domain.holds c.keep_pairs.new.state) (PairsMet xs)) c.items-8.ensures.items c.in_ok-keep_pairs.ensures.cut)
    (λ p h. subst (λ (s : Shape). InShape s p) (c.in_ok-keep_pairs.ensures.shape ∙ c.in_ok-keep_bounds.ensures.shape ∙ c.set_arrays.ensures.shape ∙ c.requires.shape) (g.met.D.Domain.inside c.keep_pairs.new.state p h))
