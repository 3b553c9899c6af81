use Rattle.std.proofs.Common.{◌≡◌, ◌<◌, ℕ, length, List, None, subst, rules}
use Rattle.wm_middle.specs.declared.parts.Part.{Part}
use Rattle.wm_middle.specs.Parting.{IsFound, IsFoundAmong, IsApart, IsPartOf, AreParts}
use Rattle.wm_middle.proofs.Shaping.{on_ok_map, found_none}
use Rattle.wm_middle.proofs.parts.add_single.Goals as goal

pub returns-in-None-clause-apart : goal.returns-in-None-clause-apart
returns-in-None-clause-apart c =
    on_ok_map c.push_part.result
    ((count : ℕ) (other : Part) → (c.args.part ≡ other → ⊥) → IsApart count c.args.parts.now.items other → IsApart count c.push_part.new.parts.items other)
    ((other : Part) → (c.args.part ≡ other → ⊥) → IsApart c.args.count c.args.parts.now.items other → IsApart c.args.count c.push_part.new.parts.items other)
    (λ f other d h. f c.args.count other d h) c.push_part.ensures.apart

pub returns-in-None-clause-good : goal.returns-in-None-clause-good
returns-in-None-clause-good c =
    let lt : length c.args.parts.now.items < c.args.most = search rules in
    on_ok_map c.push_part.result
    ((n m most : ℕ) → length c.args.parts.now.items < most → IsPartOf n m c.args.part → IsFound c.args.parts.now.items c.args.part None → AreParts n m most c.args.parts.now.items → AreParts n m most c.push_part.new.parts.items)
    ((n m : ℕ) → IsPartOf n m c.args.part → IsApart c.args.count c.args.parts.now.items c.args.part → AreParts n m c.args.most c.args.parts.now.items → AreParts n m c.args.most c.push_part.new.parts.items)
    (λ f n m h d a. f n m c.args.most lt h (found_none c.args.count c.args.parts.now.items c.args.part (subst (λ (xs : List Part). IsFoundAmong c.args.count xs c.args.part None) c.deref.ensures.value c.in-None.ensures) d) a) c.push_part.ensures.good
