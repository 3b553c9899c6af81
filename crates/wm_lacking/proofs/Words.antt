-- One word of those that are left.
use Rattle.std.proofs.Common.{◌≡◌, ℕ, suc, ◌+◌, ◌-◌, ◌<◌, ◌≤◌, List, Option, None, refl, arith}
use Rattle.std.specs.Prelude.{if◌then◌else◌}
use Rattle.wm_ops.specs.Words.{word_numbered}
use Rattle.wm_program.specs.declared.program.Program.{Program}
use Rattle.wm_lacking.specs.Lacking.{lacks_one, lacking_from, lacking}

one_of : (number : ℕ) → number < 48 → 48 - number ≡ suc (48 - (number + 1))
one_of number more = omega (arith, more)

pub next_word : (program : Program) (weights : List (Option ℕ)) (number : ℕ) → number < 48 → lacking_from program weights number (48 - number) ≡ (if lacks_one program weights (word_numbered number) then word_numbered number else lacking_from program weights (number + 1) (48 - (number + 1)))
next_word program weights number more = rw (one_of number more) refl

pub no_word : (program : Program) (weights : List (Option ℕ)) (number : ℕ) → 48 ≤ number → lacking_from program weights number (48 - number) ≡ lacking_from program weights 0 48 → None ≡ lacking program weights
unfolding lacking
no_word program weights number past all =
    let none_left : 48 - number ≡ 0 = omega (arith, past) in
    rw none_left at all
