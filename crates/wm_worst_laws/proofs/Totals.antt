-- Sums of a function of the numbers below a number.
use Rattle.std.proofs.Common.{◌≡◌, ◌≢◌, ℕ, zero, suc, ◌+◌, ◌*◌, ◌<◌, ◌≤◌, ⊎_elim, refl, ap, sym, ◌∙◌, arith}
use Rattle.std.proofs.lemmas.Bool.{cases_eq}

pub total : (ℕ → ℕ) → ℕ → ℕ
total f zero = 0
total f (suc n) = total f n + f n

pub total_zero : (f : ℕ → ℕ) → total f 0 ≡ 0
unfolding total
total_zero f = refl

pub total_suc : (f : ℕ → ℕ) (n : ℕ) → total f (suc n) ≡ total f n + f n
unfolding total
total_suc f n = refl

pub total_same : (f g : ℕ → ℕ) (n : ℕ) → ((k : ℕ) → f k ≡ g k) → total f n ≡ total g n
total_same f g zero same = total_zero f ∙ sym (total_zero g)
total_same f g (suc n) same = omega (arith, total_suc f n, total_suc g n, same n, total_same f g n same)

pub total_none : (f : ℕ → ℕ) (n : ℕ) → ((k : ℕ) → f k ≡ 0) → total f n ≡ 0
total_none f zero none = total_zero f
total_none f (suc n) none = omega (arith, total_suc f n, none n, total_none f n none)

pub total_add : (f g h : ℕ → ℕ) (n : ℕ) → ((k : ℕ) → f k ≡ g k + h k) → total f n ≡ total g n + total h n
total_add f g h zero same = omega (arith, total_zero f, total_zero g, total_zero h)
total_add f g h (suc n) same = omega (arith, total_suc f n, total_suc g n, total_suc h n, same n, total_add f g h n same)

pub total_times : (f g : ℕ → ℕ) (m n : ℕ) → ((k : ℕ) → f k ≡ m * g k) → total f n ≡ m * total g n
total_times f g m zero same = omega (arith, total_zero f, ap (λ (x : ℕ). m * x) (total_zero g))
total_times f g m (suc n) same =
    let split : m * total g (suc n) ≡ m * (total g n + g n) = ap (λ (x : ℕ). m * x) (total_suc g n) in
    omega (arith, total_suc f n, same n, total_times f g m n same, split)

-- one of the numbers alone
none_below : (f : ℕ → ℕ) (at n : ℕ) → n ≤ at → ((k : ℕ) → k ≢ at → f k ≡ 0) → total f n ≡ 0
none_below f at zero h none = total_zero f
none_below f at (suc n) h none =
    let ne : n ≢ at = omega (arith, h) in
    omega (arith, total_suc f n, none n ne, none_below f at n (omega (arith, h)) none)

pub total_one : (f : ℕ → ℕ) (at n : ℕ) → at < n → ((k : ℕ) → k ≢ at → f k ≡ 0) → total f n ≡ f at
total_one f at zero h none = absurd (omega (arith, h))
total_one f at (suc n) h none =
    ⊎_elim
    (λ (e : n ≡ at). omega (arith, total_suc f n, none_below f at n (omega (arith, e)) none, ap f e))
    (λ (ne : n ≡ at → ⊥). omega (arith, total_suc f n, none n ne, total_one f at n (omega (arith, h, ne)) none))
    (cases_eq n at)

-- each part is at most the whole
pub part_least : (f : ℕ → ℕ) (at n : ℕ) → at < n → f at ≤ total f n
part_least f at zero h = absurd (omega (arith, h))
part_least f at (suc n) h =
    ⊎_elim
    (λ (e : n ≡ at). omega (arith, total_suc f n, ap f e))
    (λ (ne : n ≡ at → ⊥). omega (arith, total_suc f n, part_least f at n (omega (arith, h, ne))))
    (cases_eq n at)
