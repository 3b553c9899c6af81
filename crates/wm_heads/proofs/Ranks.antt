-- The loops of a function are ranked from 0 on, and so many are counted.
use Rattle.std.proofs.Common.{◌≡◌, ℕ, zero, suc, ◌+◌, ◌<◌, ◌≤◌, List, [], ◌∷◌, length, Bool, true, false, refl, ◌∙◌, arith}
use Rattle.std.proofs.lemmas.Bool.Decides.{nat_tests}
use Rattle.std.specs.Prelude.{if◌then◌else◌, ◌==◌, slice_index_or}
use Rattle.wm_program.specs.declared.program.LoopInfo.{LoopInfo}
use Rattle.wm_flow.specs.Seats.{loops_in, rank_after, ranks_from}
use Rattle.wm_heads.proofs.Runs.{OfFunction, OfOther}

pub equal_true : (a b : ℕ) → a ≡ b → (a == b) ≡ true
equal_true a b e = grind (arith, nat_tests)

pub equal_false : (a b : ℕ) → (a ≡ b → ⊥) → (a == b) ≡ false
equal_false a b e = grind (arith, nat_tests)

if_true : (b : Bool) (m n : ℕ) → b ≡ true → (if b then m else n) ≡ m
if_true true m n e = refl
if_true false m n e = cc

if_false : (b : Bool) (m n : ℕ) → b ≡ false → (if b then m else n) ≡ n
if_false true m n e = cc
if_false false m n e = refl

-- ---- ranks

-- behind a loop of the same function
run_ranks : (xs : List LoopInfo) (function before next n k : ℕ) → before ≡ function → ((j : ℕ) → j < n → OfFunction xs function j) → k < n → slice_index_or (ranks_from before next xs) k 0 ≡ next + k
run_ranks [] function before next n k e h less = absurd (h k less)
run_ranks (it ∷ rest) function before next n zero e h less =
    let at : it.function ≡ function = h 0 less in
    if_true (before == it.function) next 0 (equal_true before it.function (e ∙ sym_of at)) ∙ omega arith
  where
    sym_of : {a b : ℕ} → a ≡ b → b ≡ a
    sym_of e = cc
run_ranks (it ∷ rest) function before next zero (suc k) e h less = absurd (none k less)
  where
    none : (k : ℕ) → suc k < 0 → ⊥
    none k less = omega arith
run_ranks (it ∷ rest) function before next (suc n) (suc k) e h less =
    let at : it.function ≡ function = h 0 (omega arith) in
    let rank : rank_after before next it.function ≡ next = if_true (before == it.function) next 0 (equal_true before it.function (e ∙ sym_of at)) in
    run_ranks rest function it.function (suc (rank_after before next it.function)) n k at (λ j b. h (suc j) (omega arith)) (omega arith)
    ∙ omega (arith, rank)
  where
    sym_of : {a b : ℕ} → a ≡ b → b ≡ a
    sym_of e = cc

first_rank : (before next function : ℕ) → (before ≡ function → next ≡ 0) → rank_after before next function ≡ 0
first_rank before next function first = by (before == function) refl
  where
    equal : (a b : ℕ) → (a == b) ≡ true → a ≡ b
    equal a b e = grind (arith, nat_tests)

    by : (b : Bool) → (before == function) ≡ b → (if b then next else 0) ≡ 0
    by true e = first (equal before function e)
    by false e = refl

zero_left : (k : ℕ) → 0 + k ≡ k
zero_left k = omega arith

plain : (xs : List LoopInfo) (function n : ℕ) → ((j : ℕ) → j < n → OfFunction xs function (0 + j)) → (j : ℕ) → j < n → OfFunction xs function j
plain xs function n h j b = rw (zero_left j) at (h j b)

ranks_first : (xs : List LoopInfo) (function before next n k : ℕ) → (before ≡ function → next ≡ 0) → ((j : ℕ) → j < n → OfFunction xs function j) → k < n → slice_index_or (ranks_from before next xs) k 0 ≡ k
ranks_first [] function before next n k e h less = absurd (h k less)
ranks_first (it ∷ rest) function before next n zero e h less =
    first_rank before next it.function (λ s. e (s ∙ h 0 less))
ranks_first (it ∷ rest) function before next zero (suc k) e h less = absurd (none k less)
  where
    none : (k : ℕ) → suc k < 0 → ⊥
    none k less = omega arith
ranks_first (it ∷ rest) function before next (suc n) (suc k) e h less =
    let at : it.function ≡ function = h 0 (omega arith) in
    let rank : rank_after before next it.function ≡ 0 = first_rank before next it.function (λ s. e (s ∙ at)) in
    run_ranks rest function it.function (suc (rank_after before next it.function)) n k at (λ j b. h (suc j) (omega arith)) (omega arith)
    ∙ omega (arith, rank)

past : (a j : ℕ) → suc a + j ≡ suc (a + j)
past a j = omega arith

behind : (it : LoopInfo) (rest : List LoopInfo) (function first n : ℕ) → ((j : ℕ) → j < n → OfFunction (it ∷ rest) function (suc first + j)) → (j : ℕ) → j < n → OfFunction rest function (first + j)
behind it rest function first n h j b = rw (past first j) at (h j b)

-- behind loops of others
pub ranks_run : (xs : List LoopInfo) (function before next first n k : ℕ) → (before ≡ function → next ≡ 0) → ((j : ℕ) → j < first → OfOther xs function j) → ((j : ℕ) → j < n → OfFunction xs function (first + j)) → k < n → slice_index_or (ranks_from before next xs) (first + k) 0 ≡ k
ranks_run [] function before next first n k e o h less = absurd (h k less)
ranks_run (it ∷ rest) function before next zero n k e o h less =
    rw (zero_left k) (ranks_first (it ∷ rest) function before next n k e (plain (it ∷ rest) function n h) less)
ranks_run (it ∷ rest) function before next (suc first) n k e o h less =
    rw (past first k) (ranks_run rest function it.function (suc (rank_after before next it.function)) first n k (λ s. absurd (o 0 (omega arith) s)) (λ j b. o (suc j) (omega arith)) (behind it rest function first n h) less)

-- ---- counts

none_in : (xs : List LoopInfo) (function : ℕ) → ((j : ℕ) → j < length xs → OfOther xs function j) → loops_in xs function ≡ 0
none_in [] function o = refl
none_in (it ∷ rest) function o =
    if_false (it.function == function) (suc (loops_in rest function)) (loops_in rest function) (equal_false it.function function (o 0 (omega arith)))
    ∙ none_in rest function (λ j b. o (suc j) (omega arith))

run_in : (xs : List LoopInfo) (function n : ℕ) → n ≤ length xs → ((j : ℕ) → j < n → OfFunction xs function j) → ((j : ℕ) → n ≤ j → j < length xs → OfOther xs function j) → loops_in xs function ≡ n
run_in xs function zero small h o = none_in xs function (λ j b. o j (omega arith) b)
run_in [] function (suc n) small h o = absurd (h 0 (omega arith))
run_in (it ∷ rest) function (suc n) small h o =
    let more = run_in rest function n (omega (arith, small)) (λ j b. h (suc j) (omega arith)) (λ j a b. o (suc j) (omega arith) (omega arith)) in
    if_true (it.function == function) (suc (loops_in rest function)) (loops_in rest function) (equal_true it.function function (h 0 (omega arith)))
    ∙ omega (arith, more)

pub counts_run : (xs : List LoopInfo) (function first n : ℕ) → first + n ≤ length xs → ((j : ℕ) → j < first → OfOther xs function j) → ((j : ℕ) → j < n → OfFunction xs function (first + j)) → ((j : ℕ) → first + n ≤ j → j < length xs → OfOther xs function j) → loops_in xs function ≡ n
counts_run xs function zero n small b h o = run_in xs function n (omega arith) (plain xs function n h) (λ j a l. o j (omega arith) l)
counts_run [] function (suc first) n small b h o = absurd (b 0 (omega arith))
counts_run (it ∷ rest) function (suc first) n small b h o =
    if_false (it.function == function) (suc (loops_in rest function)) (loops_in rest function) (equal_false it.function function (b 0 (omega arith)))
    ∙ counts_run rest function first n (omega (arith, small)) (λ j l. b (suc j) (omega arith)) (behind it rest function first n h) (λ j a l. o (suc j) (omega arith) (omega arith))
