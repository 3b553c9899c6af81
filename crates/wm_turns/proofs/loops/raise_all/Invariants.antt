use Rattle.std.proofs.Common.{◌≡◌, ℕ, ◌<◌, length, get_or, drop}
use Rattle.wm_findings.specs.declared.findings.Turns.TheVariants.{Never}
use Rattle.wm_turns.specs.Turning.{turns_from}
use Rattle.wm_turns.proofs.loops.raise_all.Given as goal

-- what is left
abbrev pub invariant-loop-number : goal.invariant-loop-number
invariant-loop-number l = record {
  same : length l.found.items ≡ length l.initial.found.items;
  each : (k : ℕ) → k < length l.initial.found.items → turns_from k l.turns l.live l.number (drop l.number l.heads) (get_or l.found.items k Never) ≡ turns_from k l.turns l.live 0 l.heads (get_or l.initial.found.items k Never);
}
