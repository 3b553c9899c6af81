-- The arrays of a closing give the table with one more bound, and its numbers stay small.
use Rattle.std.proofs.Common.{◌≡◌, ℕ, ◌*◌, ◌<◌, ℤ, pos, ◌+ℤ◌, ◌≤ℤ◌, List, sym, subst, ◌∙◌, ap, arith, to_z, of_z, w64}
use Rattle.std.proofs.lemmas.Int.{ints, to_z-of_z}
use mir.Val.{SFits}
use Rattle.std.specs.Int.{int_min}
use Rattle.wm_octagon.specs.Layout.{opposite, row_len, place, entry, bound, table}
use Rattle.wm_octagon.specs.Closing.{half_of, top, through, with_bound, joined, closed}
use Rattle.wm_octagon.specs.HalfTable.{IsSmall, IsWhole}
use Rattle.wm_octagon.specs.Medium.{IsMedium, Filled}
use Rattle.wm_octagon.specs.Ways.{at, AreRows, AreWays, least_way}
use Rattle.wm_octagon.specs.Points.{IsTight}
use Rattle.wm_octagon.proofs.Rows.{length-table, entry-table, table-all}
use Rattle.wm_octagon.proofs.Tables.{opposite-lt, closed-table, closed_le}
use Rattle.wm_octagon.proofs.Tight.{bound_here, column-lt, table_of}

-- equal functions fill a table, and a list, alike
pub table-ext : (n : ℕ) (f g : ℕ → ℕ → ℤ) → ((k l : ℕ) → k < n → l < row_len k → f k l ≡ g k l) → table n f ≡ table n g
table-ext n f g same = table-all n g (table n f) (length-table n f) (λ k l h j. entry-table n f k l h j ∙ same k l h j)

pub filled-ext : (P : ℤ → Type 0) (f g : ℕ → ℤ) (n : ℕ) (xs : List ℤ) → ((k : ℕ) → k < n → f k ≡ g k) → Filled P f n xs → Filled P g n xs
filled-ext P f g n xs same t = record { done = λ k h. t.done k h ∙ same k h; sized = t.sized }

pub least_way-is : (n : ℕ) (xs : List ℤ) (i j : ℕ) (c : ℤ) (to_j from_j to_i from_i : List ℤ) → AreRows n xs i j from_j from_i → AreWays n xs i j c to_j to_i → (k l : ℕ) → k < 2 * n → l < 2 * n → least_way to_j from_j to_i from_i (bound xs k l) k l ≡ with_bound (bound xs) i j c k l
unfolding with_bound
least_way-is n xs i j c to_j from_j to_i from_i r w k l hk hl =
    let a = w.j_ways.done k hk in
    let b = r.j_row.done l hl in
    let d = w.i_ways.done k hk in
    let e = r.i_row.done l hl in
    cc

pub tops-are : (n : ℕ) (xs : List ℤ) (i j : ℕ) (c : ℤ) (to_j from_j to_i from_i tops : List ℤ) → AreRows n xs i j from_j from_i → AreWays n xs i j c to_j to_i
    → Filled IsMedium (λ k. half_of (least_way to_j from_j to_i from_i (bound xs (opposite k) k) (opposite k) k)) (2 * n) tops
    → Filled IsMedium (top (with_bound (bound xs) i j c)) (2 * n) tops
unfolding top
tops-are n xs i j c to_j from_j to_i from_i tops r w t =
    filled-ext IsMedium _ _ (2 * n) tops (λ k h. ap half_of (least_way-is n xs i j c to_j from_j to_i from_i r w (opposite k) k (opposite-lt n k h) h)) t

-- the new number at an entry
pub closing-value : (n : ℕ) (xs : List ℤ) (i j : ℕ) (c : ℤ) (to_j from_j to_i from_i tops : List ℤ) → AreRows n xs i j from_j from_i → AreWays n xs i j c to_j to_i
    → Filled IsMedium (top (with_bound (bound xs) i j c)) (2 * n) tops → (k l : ℕ) → k < 2 * n → l < row_len k
    → int_min (least_way to_j from_j to_i from_i (entry xs k l) k l) (at tops (opposite k) +ℤ at tops l) ≡ closed (bound xs) i j c k l
unfolding closed joined
closing-value n xs i j c to_j from_j to_i from_i tops r w t k l hk here =
    let hl = column-lt n k l hk here in
    let a = least_way-is n xs i j c to_j from_j to_i from_i r w k l hk hl in
    let b = bound_here xs k l here in
    let d = t.done (opposite k) (opposite-lt n k hk) in
    let e = t.done l hl in
    ap (λ z. int_min (least_way to_j from_j to_i from_i z k l) (at tops (opposite k) +ℤ at tops l)) (sym b)
    ∙ ap (λ z. int_min z (at tops (opposite k) +ℤ at tops l)) a
    ∙ ap (λ z. int_min (with_bound (bound xs) i j c k l) (z +ℤ at tops l)) d
    ∙ ap (λ z. int_min (with_bound (bound xs) i j c k l) (top (with_bound (bound xs) i j c) (opposite k) +ℤ z)) e

-- a bound of a whole list is small
pub bound_small : (n : ℕ) (xs : List ℤ) → IsWhole n xs → (k l : ℕ) → IsSmall (bound xs k l)
unfolding bound
bound_small n xs w k l = w.small (place k l)

-- where one more bound does not contradict a tight list, the new numbers are small
pub closed_small : (n : ℕ) (xs : List ℤ) (i j : ℕ) (c : ℤ) → IsWhole n xs → IsTight n xs → i < 2 * n → j < 2 * n → pos 0 ≤ℤ (c +ℤ bound xs j i) → (k l : ℕ) → k < 2 * n → l < 2 * n → IsSmall (closed (bound xs) i j c k l)
closed_small n xs i j c whole t hi hj room k l hk hl =
    let m = closed-table n (bound xs) i j c (table_of n xs t) hi hj room in
    let up = closed_le (bound xs) i j c k l in
    let down = closed_le (bound xs) i j c l k in
    let same = m.same k hk in
    let round = m.triangle k l k hk hl hk in
    let a = bound_small n xs whole k l in
    let b = bound_small n xs whole l k in
    record { above = omega (arith, ints); below = omega (arith, ints) }

pub ways-are : (n : ℕ) (near far : List ℤ) (f g : ℕ → ℤ) (a c : ℤ) (xs : List ℤ) → ((k : ℕ) → k < 2 * n → at near k ≡ f k) → ((k : ℕ) → k < 2 * n → at far k ≡ g k)
    → Filled IsMedium (through (at near) (at far) a c) (2 * n) xs → Filled IsMedium (through f g a c) (2 * n) xs
unfolding through
ways-are n near far f g a c xs hf hg t =
    filled-ext IsMedium _ _ (2 * n) xs
    (λ k h. let p = hf (opposite k) (opposite-lt n k h) in let q = hg (opposite k) (opposite-lt n k h) in
    ap (λ z. int_min (z +ℤ c) (at far (opposite k) +ℤ a)) p ∙ ap (λ z. int_min (f (opposite k) +ℤ c) (z +ℤ a)) q) t

-- the same, with the numbers given by equations
pub ways-given : (n : ℕ) (near far : List ℤ) (f g : ℕ → ℤ) (a a' c c' : ℤ) (s : ℕ) (xs : List ℤ) → ((k : ℕ) → k < 2 * n → at near k ≡ f k) → ((k : ℕ) → k < 2 * n → at far k ≡ g k)
    → a ≡ a' → c ≡ c' → s ≡ 2 * n → Filled IsMedium (through (at near) (at far) a c) s xs → Filled IsMedium (through f g a' c') (2 * n) xs
ways-given n near far f g a a' c c' s xs hf hg ea ec es t =
    ways-are n near far f g a' c' xs hf hg
    (subst (λ z. Filled IsMedium (through (at near) (at far) a' z) (2 * n) xs) ec
    (subst (λ z. Filled IsMedium (through (at near) (at far) z c) (2 * n) xs) ea
    (subst (λ z. Filled IsMedium (through (at near) (at far) a c) z xs) es t)))

-- ---- the five arrays that are filled for one more bound

pub record Ready (n : ℕ) (xs : List ℤ) (i j : ℕ) (c : ℤ) (from_j from_i to_j to_i tops : List ℤ) : Type 0 where
  pub rows : AreRows n xs i j from_j from_i
  pub ways : AreWays n xs i j c to_j to_i
  pub greatest : Filled IsMedium (top (with_bound (bound xs) i j c)) (2 * n) tops

pub ready : (n : ℕ) (xs : List ℤ) (i j : ℕ) (c : ℤ) (from_j from_i to_j to_i tops : List ℤ) (o : ℕ) (round back c' : ℤ) (s : ℕ) → o ≡ opposite i
    → Filled IsSmall (bound xs j) (2 * n) from_j → Filled IsSmall (bound xs o) (2 * n) from_i
    → round ≡ c +ℤ c +ℤ bound xs (opposite i) i → back ≡ c +ℤ c +ℤ bound xs j (opposite j) → c' ≡ c → s ≡ 2 * n
    → Filled IsMedium (through (at from_i) (at from_j) round c') s to_j → Filled IsMedium (through (at from_j) (at from_i) back c') s to_i
    → Filled IsMedium (λ k. half_of (least_way to_j from_j to_i from_i (bound xs (opposite k) k) (opposite k) k)) (2 * n) tops
    → Ready n xs i j c from_j from_i to_j to_i tops
ready n xs i j c from_j from_i to_j to_i tops o round back c' s eo fj fi er eb ec es wj wi t =
    let i_row = subst (λ k. Filled IsSmall (bound xs k) (2 * n) from_i) eo fi in
    let r : AreRows n xs i j from_j from_i = record { j_row = fj; i_row = i_row } in
    let w : AreWays n xs i j c to_j to_i = record {
      j_ways = ways-given n from_i from_j (bound xs (opposite i)) (bound xs j) _ _ _ _ s to_j i_row.done fj.done er ec es wj;
      i_ways = ways-given n from_j from_i (bound xs j) (bound xs (opposite i)) _ _ _ _ s to_i fj.done i_row.done eb ec es wi;
    } in
    record { rows = r; ways = w; greatest = tops-are n xs i j c to_j from_j to_i from_i tops r w t }

pub round_is : (r c b x : ℤ) → SFits w64 c → SFits w64 b → SFits w64 r → r ≡ to_z w64 (of_z w64 c) +ℤ to_z w64 (of_z w64 c) +ℤ to_z w64 (of_z w64 b) → b ≡ x → to_z w64 (of_z w64 r) ≡ c +ℤ c +ℤ x
round_is r c b x fc fb fr e h =
    let plain : r ≡ c +ℤ c +ℤ b = simp to_z-of_z at e in
    to_z-of_z w64 r fr ∙ plain ∙ ap (λ z. c +ℤ c +ℤ z) h
