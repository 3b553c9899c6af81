-- A change of one variable, and of whole rows, changes nothing beside the columns that it names.
use Rattle.std.proofs.Common.{◌≡◌, ◌∙◌, inl, inr, ℕ, ◌+◌, ◌*◌, ◌/◌, ◌<◌, ◌≤◌, ◌≢◌, ℤ, pos, List, refl, sym, ap, arith, nat_eq, nat_lt, true, false}
use Rattle.std.proofs.lemmas.Int.{ints}
use Rattle.std.proofs.lemmas.Bool.{cases_lt, cases_eq}
use Rattle.wm_octagon.specs.Layout.{opposite, row_len, entry, bound, IsBeside}
use Rattle.wm_octagon.specs.Changes.{rise, loosened, begin_beside, columns_beside}
use Rattle.wm_octagon.specs.Assigning.{risen}
use Rattle.wm_octagon.specs.Points.{IsTight}
use Rattle.wm_octagon.proofs.Tight.{bound_here, table_of}
use Rattle.wm_octagon.proofs.Assigns.{read-other, risen-apart}

pub beside_all : (n : ℕ) (value : ℕ → ℕ → ℤ → ℤ) (xs : List ℤ) → IsBeside n value (λ _. 0) (λ k. row_len k) xs
beside_all n value xs = record {
  inside = λ k h. omega arith;
  before = λ k l h j. absurd (omega arith);
  after = λ k l h j a. absurd (omega arith);
}

-- the columns of row k that a change of variable v may change, in a later row, an earlier row and its own
begin_later : (v k : ℕ) → v < k / 2 → begin_beside v k ≡ 2 * v
begin_later v k h = let e : nat_lt v (k / 2) ≡ true = grind arith in rw e refl

begin-first : (v k : ℕ) → k / 2 ≤ v → begin_beside v k ≡ 0
begin-first v k h = let e : nat_lt v (k / 2) ≡ false = grind arith in rw e refl

columns_later : (v k : ℕ) → v < k / 2 → columns_beside v k ≡ 2
columns_later v k h = let e : nat_lt v (k / 2) ≡ true = grind arith in rw e refl

columns-earlier : (v k : ℕ) → k / 2 < v → columns_beside v k ≡ 0
columns-earlier v k h =
    let e : nat_lt v (k / 2) ≡ false = grind arith in
    let f : nat_lt (k / 2) v ≡ true = grind arith in
    rw (e, f) refl

columns_own : (v k : ℕ) → k / 2 ≡ v → columns_beside v k ≡ row_len k
columns_own v k h =
    let e : nat_lt v (k / 2) ≡ false = grind arith in
    let f : nat_lt (k / 2) v ≡ false = grind arith in
    rw (e, f) refl

pub beside_of : (n v : ℕ) (value : ℕ → ℕ → ℤ → ℤ) (xs : List ℤ) → ((k l : ℕ) → k < n → l < row_len k → k / 2 ≢ v → l / 2 ≢ v → value k l (entry xs k l) ≡ entry xs k l)
    → IsBeside n value (λ k. begin_beside v k) (λ k. columns_beside v k) xs
beside_of n v value xs same = record {
  inside = λ k h. elim (cases_lt v (k / 2)) [
    | inl later ↦ (let e = begin_later v k later in let f = columns_later v k later in omega arith)
    | inr not ↦ elim (cases_lt (k / 2) v) [
      | inl earlier ↦ (let e = begin-first v k not in let f = columns-earlier v k earlier in omega arith)
      | inr own ↦ (let h : k / 2 ≡ v = omega arith in let e = begin-first v k not in let f = columns_own v k h in omega arith)
    ]
  ];
  before = λ k l h j. elim (cases_lt v (k / 2)) [
    | inl later ↦ (
        let e = begin_later v k later in
        same k l h (omega arith) (λ a. omega arith) (λ a. omega arith))
    | inr not ↦ (let e = begin-first v k not in absurd (omega arith))
  ];
  after = λ k l h j a. elim (cases_lt v (k / 2)) [
    | inl later ↦ (
        let e = begin_later v k later in
        let f = columns_later v k later in
        same k l h a (λ z. omega arith) (λ z. omega arith))
    | inr not ↦ elim (cases_lt (k / 2) v) [
      | inl earlier ↦ same k l h a (λ z. omega arith) (λ z. omega arith)
      | inr own ↦ (let i : k / 2 ≡ v = omega arith in let e = begin-first v k not in let f = columns_own v k i in absurd (omega arith))
    ]
  ];
}

-- ---- one variable set free

pub forget-beside : (n v : ℕ) (tops : ℕ → ℤ) (xs : List ℤ) → IsBeside (2 * n) (λ k l b. loosened v tops (λ _ _. b) k l) (λ k. begin_beside v k) (λ k. columns_beside v k) xs
forget-beside n v tops xs = beside_of (2 * n) v (λ k l b. loosened v tops (λ _ _. b) k l) xs (λ k l hk hl p q.
    let e : nat_eq (k / 2) v ≡ false = grind arith in
    let f : nat_eq (l / 2) v ≡ false = grind arith in
    rw (e, f) refl)

-- ---- one variable that gets a value

rise-other : (v : ℕ) (low high : ℤ) (k : ℕ) → k / 2 ≢ v → rise v low high k ≡ pos 0
rise-other v low high k h =
    let e : nat_eq k (2 * v) ≡ false = grind arith in
    let f : nat_eq k (2 * v + 1) ≡ false = grind arith in
    rw (e, f) refl

risen-same : (v s : ℕ) (low high : ℤ) (row mirror : ℕ → ℤ) (b : ℤ) (k l : ℕ) → k ≡ l → risen v s low high row mirror b k l ≡ pos 0
risen-same v s low high row mirror b k l h = let e : nat_eq k l ≡ true = grind arith in rw e refl

pub assign-beside : (n v s : ℕ) (low high : ℤ) (row mirror : ℕ → ℤ) (xs : List ℤ) → IsTight n xs → IsBeside (2 * n) (λ k l b. risen v s low high row mirror b k l) (λ k. begin_beside v k) (λ k. columns_beside v k) xs
assign-beside n v s low high row mirror xs t = beside_of (2 * n) v (λ k l b. risen v s low high row mirror b k l) xs (λ k l hk here p q.
    elim (cases_eq k l) [
      | inl e ↦
          risen-same v s low high row mirror (entry xs k l) k l e
          ∙ sym ((table_of n xs t).same k hk) ∙ ap (bound xs k) e ∙ bound_here xs k l here
      | inr d ↦ (
          let po : opposite k / 2 ≢ v = λ a. omega arith in
          let r1 = rise-other v low high (opposite k) po in
          let r2 = rise-other v low high l q in
          let r = read-other v s row mirror (entry xs k l) k l p q in
          let a = risen-apart v s low high row mirror (entry xs k l) k l d in
          omega (arith, ints))
    ])
