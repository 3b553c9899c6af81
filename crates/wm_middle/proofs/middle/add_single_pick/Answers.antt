use Rattle.std.proofs.Common.{◌≡◌, ◌∙◌, ◌<◌, ℕ, Option, Some, ap, subst}
use Rattle.std.specs.Prelude.{MatchOption}
use Rattle.wm_middle.specs.declared.parts.Part.{Part}
use Rattle.wm_middle.specs.declared.parts.Part.TheVariants.{Caller}
use Rattle.wm_middle.specs.Parting.{AreParts, IsApart}
use Rattle.wm_middle.proofs.Shaping.{on_ok_map, caller_same}
use Rattle.wm_middle.proofs.middle.add_single_pick.Goals as goal

pub returns-in-Some-clause-apart : goal.returns-in-Some-clause-apart
returns-in-Some-clause-apart c =
    on_ok_map c.add_single.result
    ((other : Part) → (Caller c.in-Some.v ≡ other → ⊥) → IsApart c.args.count c.args.parts.now.items other → IsApart c.args.count c.add_single.new.parts.items other)
    ((w : ℕ) → (c.args.pick ≡ Some w → ⊥) → IsApart c.args.count c.args.parts.now.items (Caller w) → IsApart c.args.count c.add_single.new.parts.items (Caller w))
    (λ f w d h. f (Caller w) (λ e. d (c.in-Some.is ∙ ap Some (caller_same c.in-Some.v w e))) h) c.add_single.ensures.apart

pub returns-in-Some-clause-good : goal.returns-in-Some-clause-good
returns-in-Some-clause-good c =
    on_ok_map c.add_single.result
    ((n m : ℕ) → c.in-Some.v < n → IsApart c.args.count c.args.parts.now.items (Caller c.in-Some.v) → AreParts n m c.args.most c.args.parts.now.items → AreParts n m c.args.most c.add_single.new.parts.items)
    ((n m : ℕ) → MatchOption c.args.pick (Unit {0}) (λ v. (v < n) × IsApart c.args.count c.args.parts.now.items (Caller v)) → AreParts n m c.args.most c.args.parts.now.items → AreParts n m c.args.most c.add_single.new.parts.items)
    (λ f n m h a. let g = subst (λ (o : Option ℕ). MatchOption o (Unit {0}) (λ v. (v < n) × IsApart c.args.count c.args.parts.now.items (Caller v))) c.in-Some.is h in f n m g.0 g.1 a) c.add_single.ensures.good
