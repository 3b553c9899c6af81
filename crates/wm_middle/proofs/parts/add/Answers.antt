use Rattle.std.proofs.Common.{◌<◌, ℕ, length, List, None, subst, rules}
use Rattle.wm_middle.specs.declared.parts.Part.{Part}
use Rattle.wm_middle.specs.Parting.{IsFound, IsPartOf, AreParts}
use Rattle.wm_middle.proofs.Shaping.{on_ok_map}
use Rattle.wm_middle.proofs.parts.add.Goals as goal

pub returns-in-None-clause-good : goal.returns-in-None-clause-good
returns-in-None-clause-good c =
    let lt : length c.args.parts.now.items < c.args.most = search rules in
    on_ok_map c.push_part.result
    ((n m most : ℕ) → length c.args.parts.now.items < most → IsPartOf n m c.args.part → IsFound c.args.parts.now.items c.args.part None → AreParts n m most c.args.parts.now.items → AreParts n m most c.push_part.new.parts.items)
    ((n m : ℕ) → IsPartOf n m c.args.part → AreParts n m c.args.most c.args.parts.now.items → AreParts n m c.args.most c.push_part.new.parts.items)
    (λ f n m h a. f n m c.args.most lt h (subst (λ (xs : List Part). IsFound xs c.args.part None) c.deref.ensures.value c.in-None.ensures) a) c.push_part.ensures.good
