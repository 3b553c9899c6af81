use Rattle.std.proofs.Common.{◌<◌, ℕ, Option, subst}
use Rattle.std.specs.Prelude.{MatchOption}
use Rattle.wm_middle.specs.Parting.{AreParts}
use Rattle.wm_middle.proofs.Shaping.{on_ok_map}
use Rattle.wm_middle.proofs.middle.add_pick.Goals as goal

pub returns-in-Some-clause-good : goal.returns-in-Some-clause-good
returns-in-Some-clause-good c =
    on_ok_map c.add.result
    ((n m : ℕ) → c.in-Some.v < n → AreParts n m c.args.most c.args.parts.now.items → AreParts n m c.args.most c.add.new.parts.items)
    ((n m : ℕ) → MatchOption c.args.pick (Unit {0}) (λ v. v < n) → AreParts n m c.args.most c.args.parts.now.items → AreParts n m c.args.most c.add.new.parts.items)
    (λ f n m h a. f n m (subst (λ (o : Option ℕ). MatchOption o (Unit {0}) (λ v. v < n)) c.in-Some.is h) a) c.add.ensures.good
