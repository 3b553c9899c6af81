use Rattle.std.proofs.Common.{◌≡◌, ℕ, ◌<◌, length, get_or}
use Rattle.wm_findings.specs.declared.findings.Turns.TheVariants.{Never}
use Rattle.wm_turns.proofs.loops.never.Given as goal

abbrev pub invariant-loop-k : goal.invariant-loop-k
invariant-loop-k l = record {
  same : length l.found.items ≡ l.k;
  each : (n : ℕ) → n < l.k → get_or l.found.items n Never ≡ Never;
}
