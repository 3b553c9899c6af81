-- Tests that say the same have the same first operands.
use Rattle.std.proofs.Common.{◌≡◌, refl, sym, ◌∙◌, ℤ, neg_ℤ, ◌+ℤ◌, ◌-ℤ◌, Bool, Some, None, Option, List}
use Rattle.wm_interval.specs.declared.Interval.{Interval}
use Rattle.wm_ops.specs.Arguments.{arg_at}
use Rattle.wm_ops.specs.Clamping.{leaves32}
use Rattle.wm_ops.specs.Outcomes.{fails_of, formula_of, in_domain}
use Rattle.wm_ops.specs.declared.operators.Op.TheVariants.{LAdd, LSub, LNegate}
use Rattle.wm_hull.specs.Failures.{IsWorst}
use Rattle.wm_ops.specs.declared.operators.Op.{Op}
use Rattle.wm_failing.specs.Trials.{IsFirstOf}

module _ (s t : ℤ → ℤ → ℤ → Bool) (same : (a b c : ℤ) → s a b c ≡ t a b c) (x y z : Interval) where
  pub first_same : (answer : Option (List ℤ)) → IsFirstOf s x y z answer → IsFirstOf t x y z answer
  first_same None h = λ a b c inside u. h a b c inside (same a b c ∙ u)
  first_same (Some args) h = record {
    inside = h.inside;
    holds = sym (same (arg_at args 0) (arg_at args 1) (arg_at args 2)) ∙ h.holds;
    before = λ d e f inside u. h.before d e f inside (same d e f ∙ u);
  }

pub adds : (a b c : ℤ) → fails_of LAdd a b c ≡ leaves32 (a +ℤ b)
unfolding formula_of in_domain
adds a b c = refl

pub subtracts : (a b c : ℤ) → fails_of LSub a b c ≡ leaves32 (a -ℤ b)
unfolding formula_of in_domain
subtracts a b c = refl

pub negates : (a b c : ℤ) → fails_of LNegate a b c ≡ leaves32 (neg_ℤ a)
unfolding formula_of in_domain
negates a b c = refl

-- the first failing arguments of an operator, as those of its test
pub worst_first : (op : Op) (x y z : Interval) (answer : Option (List ℤ)) → IsWorst op x y z answer → IsFirstOf (fails_of op) x y z answer
worst_first op x y z None h = h
worst_first op x y z (Some args) h = h
