use Rattle.std.proofs.Common.{◌≡◌, ℕ, List, drop}
use Rattle.std.specs.Borrow.{Bor}
use Rattle.std.specs.List.{list_any}
use Rattle.std.specs.Str.{bytes_eq}
use Rattle.wm_spec.proofs.read.is_among.Given as goal

-- the keys that are left decide
abbrev pub invariant-loop-known : goal.invariant-loop-known
invariant-loop-known l =
    list_any (λ (known : Bor (List ℕ)). bytes_eq known.now l.key) (drop l.known-index l.keys) ≡ list_any (λ (known : Bor (List ℕ)). bytes_eq known.now l.key) l.keys
