use Rattle.std.proofs.Common.{◌≡◌, ℕ, ◌<◌, [], length, get_or, drop}
use Rattle.wm_incoming.specs.Into.{numbers_from}
use Rattle.wm_incoming.proofs.edges.push_edges.Given as goal

-- what is left
abbrev pub invariant-loop-place : goal.invariant-loop-place
invariant-loop-place l = record {
  same : length l.rows.items ≡ length l.initial.rows.items;
  each : (n : ℕ) → n < length l.initial.rows.items → numbers_from n l.place (drop l.place l.edges) (get_or l.rows.items n []) ≡ numbers_from n 0 l.edges (get_or l.initial.rows.items n []);
}
