-- How many states are needed at once, where `last` has the last use of each node.
use Rattle.std.specs.Prelude.{ℕ, zero, suc, ◌+◌, max, Bool, not, nat_lt, List, take, count_by}

-- a node that is needed until `until` is needed by this node
abbrev pub is_needed : (node until : ℕ) → Bool
is_needed node until = not (nat_lt until node)

-- how many nodes up to this one are needed by it or by one behind it
unfoldable pub needed_at : List ℕ → ℕ → ℕ
needed_at last node = count_by (is_needed node) (take (node + 1) last)

-- the greatest such number over the first so many nodes
abbrev pub widest : List ℕ → ℕ → ℕ
widest last zero = 0
widest last (suc node) = max (needed_at last node) (widest last node)
