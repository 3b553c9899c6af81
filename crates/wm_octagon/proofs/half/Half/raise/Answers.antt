use Rattle.std.proofs.Common.{◌≡◌, ◌∙◌, length, arith, subst, sym, ap}
use Rattle.wm_octagon.specs.HalfTable.{IsWhole}
use Rattle.wm_octagon.specs.Joining.{greater_of}
use Rattle.wm_octagon.proofs.Joins.{all_written, whole-greater_of, length-greater_of}
use Rattle.wm_octagon.proofs.half.Half.raise.Goals as goal

pub invariant_of-self : goal.invariant_of-self
invariant_of-self c =
    let new : c.raise_all.new.bounds ≡ greater_of c.self.inside.bounds.items c.other.inside.bounds.items =
    c.raise_all.ensures ∙ ap (λ xs. greater_of xs c.as_slice.result.now) c.as_mut_slice.ensures.value ∙ ap (greater_of c.self.inside.bounds.items) c.as_slice.ensures.value in
    let long : length c.raise_all.new.bounds ≡ length c.self.inside.bounds.items = ap length new ∙ length-greater_of c.self.inside.bounds.items c.other.inside.bounds.items in
    let e = c.as_mut_slice.ensures.len in
    let f = c.raise_all.auto.bounds in
    subst (IsWhole c.self.inside.variables) (sym (all_written c.self.inside.bounds.items c.raise_all.new.bounds c.self.inside.bounds.len long (omega arith) ∙ new))
    (whole-greater_of c.self.inside.variables c.self.inside.bounds.items c.other.inside.bounds.items c.self.invariant c.other.invariant.small)
