use Rattle.std.proofs.Common.{◌<◌, ℕ}
use Rattle.wm_middle.specs.Parting.{AreParts, IsArgument}
use Rattle.wm_middle.proofs.Shaping.{on_ok_map}
use Rattle.wm_middle.proofs.middle.add_parameter.Goals as goal

pub returns-clause-good : goal.returns-clause-good
returns-clause-good c =
    on_ok_map c.add.result
    ((n m : ℕ) → c.args.it.now.parameter < m → AreParts n m 32 c.args.parts.now.items → AreParts n m 32 c.add.new.parts.items)
    ((n m : ℕ) → IsArgument n m c.args.it.now → AreParts n m 32 c.args.parts.now.items → AreParts n m 32 c.add.new.parts.items)
    (λ f n m h a. f n m h.1 a) c.add.ensures.good
