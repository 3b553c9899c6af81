use Rattle.std.proofs.Common.{◌≡◌, ◌∙◌, ℕ, ◌*◌, ◌<◌, pos, length, get_or, take, drop, ◌++◌, [], arith, subst, sym, ap}
use Rattle.std.proofs.lemmas.List.{drop_all, append-nil, take_all}
use Rattle.wm_octagon.specs.HalfTable.{HalfTable, IsSmall, IsWhole}
use Rattle.wm_octagon.specs.Layout.{row_len, entry}
use Rattle.wm_octagon.proofs.Rows.{length-table}
use Rattle.wm_octagon.proofs.Small.{small-table}
use Rattle.wm_octagon.proofs.half.Half.change.Goals as goal

pub invariant_of-self : goal.invariant_of-self
invariant_of-self g c =
    let n = ap (λ (h : HalfTable). h.variables) c.self.view_is in
    let was : c.as_mut_slice.result.now ≡ c.args.self.now.bounds = c.as_mut_slice.ensures.value ∙ ap (λ (h : HalfTable). h.bounds) c.self.view_is in
    let sized = λ (k l : ℕ) (hk : k < 2 * c.self.inside.variables) (hl : l < row_len k).
    subst (λ ys. IsSmall (g.C.Change.value c.args.change.now k l (entry ys k l))) (sym was) (c.requires.sized k l (subst (λ m. k < 2 * m) n hk) hl) in
    let whole : IsWhole c.self.inside.variables c.change_all.new.bounds = record {
      few = c.self.invariant.few;
      long = ap length c.change_all.ensures ∙ length-table _ _;
      small = λ i. subst (λ ys. IsSmall (get_or ys i (pos 0))) (sym c.change_all.ensures) (small-table _ _ sized i);
    } in
    let long : length c.change_all.new.bounds ≡ length c.self.inside.bounds.items = c.change_all.auto.bounds ∙ ap length c.as_mut_slice.ensures.value in
    let rest : drop (length c.change_all.new.bounds) c.self.inside.bounds.items ≡ [] = drop_all (length c.change_all.new.bounds) c.self.inside.bounds.items (omega arith) in
    let all : take c.self.inside.bounds.len (c.change_all.new.bounds ++ drop (length c.change_all.new.bounds) c.self.inside.bounds.items) ≡ c.change_all.new.bounds =
    ap (λ ys. take c.self.inside.bounds.len (c.change_all.new.bounds ++ ys)) rest
    ∙ ap (take c.self.inside.bounds.len) (append-nil _)
    ∙ take_all c.self.inside.bounds.len c.change_all.new.bounds (let e = c.as_mut_slice.ensures.len in let f = c.change_all.auto.bounds in omega arith) in
    subst (IsWhole c.self.inside.variables) (sym all) whole
