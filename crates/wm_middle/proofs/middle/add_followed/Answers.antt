use Rattle.std.proofs.Common.{◌<◌, ℕ}
use Rattle.std.specs.Prelude.{MatchOption}
use Rattle.wm_middle.specs.Parting.{AreParts, IsArgument}
use Rattle.wm_middle.proofs.Shaping.{on_ok_map}
use Rattle.wm_middle.proofs.middle.add_followed.Goals as goal

pub returns-clause-good : goal.returns-clause-good
returns-clause-good c =
    on_ok_map c.add_pick.result
    ((n m : ℕ) → MatchOption c.followed.result (Unit {0}) (λ v. v < n) → AreParts n m 32 c.args.parts.now.items → AreParts n m 32 c.add_pick.new.parts.items)
    ((n m : ℕ) → IsArgument n m c.args.it.now → AreParts n m 32 c.args.parts.now.items → AreParts n m 32 c.add_pick.new.parts.items)
    (λ f n m h a. f n m (c.followed.ensures n h.0) a) c.add_pick.ensures.good
