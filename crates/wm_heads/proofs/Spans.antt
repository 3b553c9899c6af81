-- The heads of an instance are a span of numbers, and those of all instances stand one behind another.
use Rattle.std.proofs.Common.{◌≡◌, ℕ, zero, suc, ◌+◌, ◌<◌, ◌≤◌, List, [], ◌∷◌, length, Option, Some, None, Bool, true, false, refl, ◌∙◌, arith, ⊎_elim}
use Rattle.std.specs.Prelude.{nat_lt, slice_get, slice_index_or}
use Rattle.std.proofs.lemmas.Bool.{cases_lt}
use Rattle.wm_program.specs.declared.program.InstanceInfo.{InstanceInfo}
use Rattle.wm_program.specs.declared.program.LoopInfo.{LoopInfo}
use Rattle.wm_program.specs.Code.{Routine}
use Rattle.wm_flow.specs.declared.seats.Tables.{Tables}
use Rattle.wm_flow.specs.Places.{head_of}
use Rattle.wm_flow.specs.Seats.{loops_in, heads_from, heads_behind, loop_counts}
use Rattle.wm_heads.specs.Bodies.{numbers_from}
use Rattle.wm_heads.specs.Tally.{same, own}
use Rattle.wm_heads.proofs.Ranks.{equal_true, equal_false}
use Rattle.wm_heads.proofs.Sums.{pick, unless, total, less_true, less_false}

-- 1 for a number of so many from a first one on, else 0
unfoldable pub inside : (first count n : ℕ) → ℕ
inside first count n = unless (nat_lt n first) (pick (nat_lt n (first + count)) 1)

pub inside_one : (first count n : ℕ) → first ≤ n → n < first + count → inside first count n ≡ 1
unfolding inside
inside_one first count n a b = rw (less_false n first a, less_true n (first + count) b) refl

pub inside_before : (first count n : ℕ) → n < first → inside first count n ≡ 0
unfolding inside
inside_before first count n a = rw (less_true n first a) refl

pub inside_past : (first count n : ℕ) → first + count ≤ n → inside first count n ≡ 0
unfolding inside
inside_past first count n a = rw (less_false n first (omega arith), less_false n (first + count) a) refl

pub same_one : (a n : ℕ) → a ≡ n → same a n ≡ 1
same_one a n e = rw (equal_true a n e) refl

pub same_none : (a n : ℕ) → (a ≡ n → ⊥) → same a n ≡ 0
same_none a n e = rw (equal_false a n e) refl

-- two spans, one behind another
pub inside_two : (first a b n : ℕ) → inside first a n + inside (first + a) b n ≡ inside first (a + b) n
inside_two first a b n =
    ⊎_elim
    (λ before. omega (arith, inside_before first a n before, inside_before (first + a) b n (omega (arith, before)), inside_before first (a + b) n before))
    (λ from. ⊎_elim
    (λ left. omega (arith, inside_one first a n from left, inside_before (first + a) b n left, inside_one first (a + b) n from (omega (arith, left))))
    (λ over. ⊎_elim
    (λ right. omega (arith, inside_past first a n over, inside_one (first + a) b n over right, inside_one first (a + b) n from (omega (arith, right))))
    (λ past. omega (arith, inside_past first a n over, inside_past (first + a) b n past, inside_past first (a + b) n (omega (arith, past))))
    (cases_lt n (first + a + b)))
    (cases_lt n (first + a)))
    (cases_lt n first)

pub inside_same : (first n : ℕ) → same first n ≡ inside first 1 n
inside_same first n =
    ⊎_elim
    (λ before. omega (arith, inside_before first 1 n before, same_none first n (λ e. omega (arith, e, before))))
    (λ from. ⊎_elim
    (λ less. omega (arith, inside_one first 1 n from less, same_one first n (omega (arith, from, less))))
    (λ past. omega (arith, inside_past first 1 n past, same_none first n (λ e. omega (arith, e, past))))
    (cases_lt n (first + 1)))
    (cases_lt n first)

same_for : (a b n : ℕ) → a ≡ b → same a n ≡ same b n
same_for a b n e = rw e refl

inside_for : (a b c n : ℕ) → a ≡ b → inside a c n ≡ inside b c n
inside_for a b c n e = rw e refl

pub inside_sized : (a b c n : ℕ) → b ≡ c → inside a b n ≡ inside a c n
inside_sized a b c n e = rw e refl

plus_none : (a : ℕ) → a + 0 ≡ a
plus_none a = omega arith

plus_one : (a k : ℕ) → a + suc k ≡ suc a + k
plus_one a k = omega arith

-- the heads of loops that are ranked one behind another
pub own_run : (n : ℕ) (tables : Tables) (instance loop count head : ℕ) → ((k : ℕ) → k < count → head_of tables instance (loop + k) ≡ head + k) → own n tables instance (numbers_from loop count) ≡ inside head count n
own_run n tables instance loop zero head at = sym_of (none (cases_lt n head))
  where
    sym_of : {a b : ℕ} → a ≡ b → b ≡ a
    sym_of e = cc

    none : Rattle.std.proofs.Common.◌⊎◌ (n < head) (head ≤ n) → inside head 0 n ≡ 0
    none h = ⊎_elim (λ less. inside_before head 0 n less) (λ more. inside_past head 0 n (omega (arith, more))) h
own_run n tables instance loop (suc count) head at =
    let first : head_of tables instance loop ≡ head = rw (plus_none loop) at (at 0 (omega arith)) ∙ plus_none head in
    let more = own_run n tables instance (suc loop) count (suc head) (λ k less. rw (plus_one loop k) at (at (suc k) (omega arith)) ∙ plus_one head k) in
    omega (arith, more, same_for (head_of tables instance loop) head n first, inside_same head n, inside_two head 1 count n, inside_for (head + 1) (suc head) count n (omega arith), inside_sized head (1 + count) (suc count) n (omega arith))

-- ---- all instances

abbrev pub span : List ℕ → List InstanceInfo → ℕ
span counts [] = 0
span counts (info ∷ rest) = slice_index_or counts info.function 0 + span counts rest

pub heads_span : (counts : List ℕ) (next : ℕ) (infos : List InstanceInfo) → heads_behind counts next infos ≡ next + span counts infos
heads_span counts next [] = omega arith
heads_span counts next (info ∷ rest) = heads_span counts (next + slice_index_or counts info.function 0) rest ∙ omega arith

pub spans_total : (n : ℕ) (w : ℕ → ℕ) (counts : List ℕ) (next from : ℕ) (infos : List InstanceInfo) → ((k : ℕ) (info : InstanceInfo) → slice_get infos k ≡ Some info → w (from + k) ≡ inside (slice_index_or (heads_from counts next infos) k 0) (slice_index_or counts info.function 0) n) → total w from (length infos) ≡ inside next (span counts infos) n
spans_total n w counts next from [] on = sym_of (none (cases_lt n next))
  where
    sym_of : {a b : ℕ} → a ≡ b → b ≡ a
    sym_of e = cc

    none : Rattle.std.proofs.Common.◌⊎◌ (n < next) (next ≤ n) → inside next 0 n ≡ 0
    none h = ⊎_elim (λ less. inside_before next 0 n less) (λ more. inside_past next 0 n (omega (arith, more))) h
spans_total n w counts next from (info ∷ rest) on =
    let count = slice_index_or counts info.function 0 in
    let first : w from ≡ inside next count n = rw (plus_none from) at (on 0 info refl) in
    let more = spans_total n w counts (next + count) (suc from) rest (λ k it e. rw (plus_one from k) at (on (suc k) it e)) in
    omega (arith, first, more, inside_two next count (span counts rest) n)

pub count_at : (routines : List Routine) (loops : List LoopInfo) (from function : ℕ) (routine : Routine) → slice_get routines function ≡ Some routine → slice_index_or (loop_counts routines loops from) function 0 ≡ loops_in loops (from + function)
count_at [] loops from function routine e = cc
count_at (it ∷ rest) loops from zero routine e = loops_for loops from (from + 0) (omega arith)
  where
    loops_for : (loops : List LoopInfo) (a b : ℕ) → a ≡ b → loops_in loops a ≡ loops_in loops b
    loops_for loops a b e = rw e refl
count_at (it ∷ rest) loops from (suc function) routine e =
    count_at rest loops (suc from) function routine e ∙ loops_for loops (suc from + function) (from + suc function) (omega arith)
  where
    loops_for : (loops : List LoopInfo) (a b : ℕ) → a ≡ b → loops_in loops a ≡ loops_in loops b
    loops_for loops a b e = rw e refl
