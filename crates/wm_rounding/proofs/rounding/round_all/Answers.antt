use Rattle.std.proofs.Common.{◌≡◌, ◌+◌, ◌∙◌, ℕ, sym, subst, length, length-append, rules}
use Rattle.std.specs.Prelude.{IsTrue}
use Rattle.wm_domain.specs.Points.{Point}
use Rattle.wm_domain.specs.States.{InShape, count_of, array_count}
use Rattle.wm_domain.specs.declared.shape.Shape.{Shape}
use Rattle.wm_rounding.specs.Cuts.{Cut, HasCells}
use Rattle.wm_rounding.specs.Rounding.{MeetsVariables, MeetsPairs, IsRounding}
use Rattle.wm_rounding.proofs.Cutting.{on_ok_map}
use Rattle.wm_rounding.proofs.Closing.{all_rounds}
use Rattle.wm_rounding.proofs.rounding.round_all.Goals as goal

pub returns-clause-rounded : goal.returns-clause-rounded
returns-clause-rounded g c =
    let shape = c.args.shape.now in
    let numbers = c.args.grid.now in
    let Old = g.D.Domain.holds c.args.held.now in
    let A = g.D.Domain.holds c.round_arrays.new.state in
    let B = g.D.Domain.holds c.round_variables.new.state in
    let New = g.D.Domain.holds c.round_pairs.new.state in
    let group_is : c.in_ok-group.group ≡ length shape.group = search rules in
    let sum_is : c.in_ok-variables.variables ≡ length shape.group + length shape.singles = search rules in
    let variables_are : c.in_ok-variables.variables ≡ count_of shape = sum_is ∙ sym (length-append shape.group shape.singles) in
    let arrays_are : c.in_ok-arrays.arrays ≡ array_count shape = search rules in
    let shape_is : g.D.Domain.shape_of c.round_arrays.new.state ≡ shape = c.in_ok-round_arrays.ensures.shape ∙ c.requires.shape in
    let inside : (p : Point) → A p → InShape shape p = λ p h. subst (λ (s : Shape). InShape s p) shape_is (g.met.D.Domain.inside c.round_arrays.new.state p h) in
    let cells : HasCells numbers Old A shape (array_count shape) (array_count shape) =
    subst (λ (n : ℕ). HasCells numbers Old A shape n n) arrays_are (subst (λ (s : Shape). HasCells numbers Old A s c.in_ok-arrays.arrays c.in_ok-arrays.arrays) c.requires.shape c.in_ok-round_arrays.ensures.cells) in
    let variables : Cut A B (MeetsVariables numbers Old (count_of shape)) = subst (λ (n : ℕ). Cut A B (MeetsVariables numbers Old n)) variables_are c.in_ok-round_variables.ensures.cut in
    on_ok_map c.round_pairs.result (Cut B New (λ p. IsTrue g.D.Domain.PAIRS → MeetsPairs numbers Old c.in_ok-group.group p)) (IsRounding numbers g.D.Domain.PAIRS shape Old New)
    (λ k. all_rounds numbers g.D.Domain.PAIRS shape Old A B New c.requires.point inside cells variables (subst (λ (n : ℕ). Cut B New (λ p. IsTrue g.D.Domain.PAIRS → MeetsPairs numbers Old n p)) group_is k)) c.round_pairs.ensures.cut
