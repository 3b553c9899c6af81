-- A recursion on a count of turns, beside a loop that counts up.
use Rattle.std.proofs.Common.{◌≡◌, ℕ, suc, ◌+◌, ◌-◌, ◌<◌, ◌≤◌, ap, ◌∙◌, arith}

pub one_more : {X : Type 0} {x : X} (f : ℕ → X) (bound turn : ℕ) → turn < bound → x ≡ f (bound - turn) → x ≡ f (suc (bound - (turn + 1)))
one_more f bound turn below so_far = let left : bound - turn ≡ suc (bound - (turn + 1)) = omega arith in so_far ∙ ap f left

pub no_more : {X : Type 0} {x : X} (f : ℕ → X) (bound turn : ℕ) → bound ≤ turn → x ≡ f (bound - turn) → x ≡ f 0
no_more f bound turn done so_far = let none : bound - turn ≡ 0 = omega arith in so_far ∙ ap f none

pub one_less : {X : Type 0} (f : ℕ → X) (n : ℕ) → 0 < n → f n ≡ f (suc (n - 1))
one_less f n some = let e : n ≡ suc (n - 1) = omega arith in ap f e
