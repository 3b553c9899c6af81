use Rattle.std.proofs.Common.{◌≡◌, ℕ, ◌<◌, None, length, get_or, drop}
use Rattle.wm_incoming.specs.Standing.{head_from}
use Rattle.wm_incoming.proofs.heads.set_heads.Given as goal

-- what is left
abbrev pub invariant-loop-place : goal.invariant-loop-place
invariant-loop-place l = record {
  same : length l.found.items ≡ length l.initial.found.items;
  each : (n : ℕ) → n < length l.initial.found.items → head_from n l.place (drop l.place l.heads) (get_or l.found.items n None) ≡ head_from n 0 l.heads (get_or l.initial.found.items n None);
}
