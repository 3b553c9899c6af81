-- The bounds of a table after one more bound is put on the difference of two sides.
-- Here m k l is the bound of side l less side k, for any two sides.
use Rattle.std.specs.Prelude.{ℕ, ◌*◌, ℤ, pos, ◌+ℤ◌, List, int_le, if◌then◌else◌}
use Rattle.std.specs.Int.{int_div_euclid, int_min}
use Rattle.wm_octagon.specs.Layout.{opposite, bound, table}

-- half of z, rounded down
unfoldable pub half_of : ℤ → ℤ
half_of z = int_div_euclid z (pos 2)

-- the greatest whole value of side k that its own bound leaves: the bound is that of k less -k, so of twice k
unfoldable pub top : (ℕ → ℕ → ℤ) → ℕ → ℤ
top m k = half_of (m (opposite k) k)

-- the bound of the one side less side k by way of the new bound c: once, from the row `near` of the side that it starts
-- from, or after a way round that begins from the row `far` and costs `around`
unfoldable pub through : (ℕ → ℤ) → (ℕ → ℤ) → ℤ → ℤ → ℕ → ℤ
through near far around c k = int_min (near (opposite k) +ℤ c) (far (opposite k) +ℤ around)

-- the bounds with 'side j less side i is at most c', which is also a bound of -i less -j: the old bound, or a way by the
-- new one that enters j, or -i, last
unfoldable pub with_bound : (ℕ → ℕ → ℤ) → ℕ → ℕ → ℤ → ℕ → ℕ → ℤ
with_bound m i j c k l =
    int_min (m k l)
    (int_min
    (through (m (opposite i)) (m j) (c +ℤ c +ℤ m (opposite i) i) c k +ℤ m j l)
    (through (m j) (m (opposite i)) (c +ℤ c +ℤ m j (opposite j)) c k +ℤ m (opposite i) l))

-- a bound of l less k, and the bounds of l and -k alone, made even and joined
unfoldable pub joined : (ℕ → ℕ → ℤ) → ℕ → ℕ → ℤ
joined m k l = int_min (m k l) (top m (opposite k) +ℤ top m l)

-- one more bound, brought up to date
unfoldable pub closed : (ℕ → ℕ → ℤ) → ℕ → ℕ → ℤ → ℕ → ℕ → ℤ
closed m i j c = joined (with_bound m i j c)

-- the list of n variables after one more bound of side j less side i that does not contradict it; a bound that is known
-- already changes nothing
abbrev pub list_with : ℕ → List ℤ → ℕ → ℕ → ℤ → List ℤ
list_with n xs i j c = if int_le (bound xs i j) c then xs else table (2 * n) (closed (bound xs) i j c)
