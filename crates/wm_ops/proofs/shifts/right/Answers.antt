use Rattle.std.proofs.Common.{arith, ℕ, ◌∙◌, ap}
use Rattle.std.proofs.lemmas.Int.{ints, to_z-of_z}
use Rattle.wm_numbers.specs.Floor.{floor_shift}
use Rattle.wm_ops.proofs.ShiftLemmas.{right_cut}
use Rattle.wm_ops.proofs.shifts.right.Goals as goal

pub returns : goal.returns
returns c =
    let cut = ap (λ (k : ℕ). floor_shift c.args.a k) c.cut.ensures.cut ∙ right_cut c.args.a c.args.places c.requires in
    record { formula = grind (arith, ints, to_z-of_z, cut) }
