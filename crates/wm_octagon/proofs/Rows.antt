-- The rows of a half table lie one after another in its list.
use Rattle.std.proofs.Common.{◌≡◌, ◌⊎◌, inl, inr, ℕ, zero, suc, ◌+◌, ◌-◌, ◌*◌, ◌/◌, ◌<◌, ◌≤◌, ℤ, pos, List, [], ◌∷◌, ◌++◌, length, get_or, take, drop, map, refl, sym, ◌∙◌, ap, subst, arith, rules, length-append, nat_lt, true, false}
use Rattle.std.specs.List.{range_with_len}
use borrow.Rule.Slice.PartMut.{put_mid}
use Rattle.std.proofs.lemmas.List.{take-append-drop, get_or_append_left, get_or-append-add, length-take-le, length-drop, places, get_or-take, get_or-drop}
use Rattle.std.proofs.lemmas.Bool.{cases_lt}
use Rattle.std.proofs.lemmas.List.FromFn.{length-map-range_with_len, get_or-map-range_with_len, fill_by_all}
use Rattle.wm_octagon.specs.Layout.{opposite, row_len, row_start, place, entry, table}

row_start-even : (q : ℕ) → row_start (2 * q) ≡ 2 * (q * q) + 2 * q
row_start-even q = omega arith

row_start-odd : (q : ℕ) → row_start (2 * q + 1) ≡ 2 * (q * q) + 4 * q + 2
row_start-odd q = omega arith

row_start-even_more : (q k : ℕ) → k ≡ 2 * q → row_start (k + 1) ≡ row_start k + row_len k
row_start-even_more q k e =
    let f : row_start (k + 1) ≡ 2 * (q * q) + 4 * q + 2 = ap (λ n. row_start (n + 1)) e ∙ row_start-odd q in
    let g : row_start k ≡ 2 * (q * q) + 2 * q = ap row_start e ∙ row_start-even q in
    let h : row_len k ≡ 2 * q + 2 = omega arith in
    f ∙ sym (ap (λ n. n + row_len k) g ∙ ap (λ n. 2 * (q * q) + 2 * q + n) h ∙ omega arith)

row_start-odd_more : (q k : ℕ) → k ≡ 2 * q + 1 → row_start (k + 1) ≡ row_start k + row_len k
row_start-odd_more q k e =
    let d : k + 1 ≡ 2 * (q + 1) = omega arith in
    let f : row_start (k + 1) ≡ 2 * ((q + 1) * (q + 1)) + 2 * (q + 1) = ap row_start d ∙ row_start-even (q + 1) in
    let g : row_start k ≡ 2 * (q * q) + 4 * q + 2 = ap row_start e ∙ row_start-odd q in
    let h : row_len k ≡ 2 * q + 2 = omega arith in
    f ∙ sym (ap (λ n. n + row_len k) g ∙ ap (λ n. 2 * (q * q) + 4 * q + 2 + n) h ∙ omega arith)

parity : (k : ℕ) → (k ≡ 2 * (k / 2)) ⊎ (k ≡ 2 * (k / 2) + 1)
parity k = grind arith

pub row_start-more : (k : ℕ) → row_start (k + 1) ≡ row_start k + row_len k
row_start-more k = elim (parity k) [ inl e ↦ row_start-even_more (k / 2) k e | inr e ↦ row_start-odd_more (k / 2) k e ]

length-zero : (xs : List ℤ) → length xs ≡ 0 → xs ≡ []
length-zero [] h = refl
length-zero (x ∷ xs) h = absurd (omega arith)

-- a row ends before a later one begins
pub row_end-le : (n k : ℕ) → k < n → row_start k + row_len k ≤ row_start n
row_end-le zero k h = absurd (omega arith)
row_end-le (suc n) k h =
    elim (cases_lt k n) [
      | inl below ↦ (let e = row_end-le n k below in let m = row_start-more n in omega arith)
      | inr at ↦ (let e : k ≡ n = omega arith in subst (λ j. row_start j + row_len j ≤ row_start (suc n)) (sym e) (let m = row_start-more n in omega arith))
    ]

pub length-table : (n : ℕ) (f : ℕ → ℕ → ℤ) → length (table n f) ≡ row_start n
length-table zero f = refl
length-table (suc n) f =
    length-append (table n f) (map (f n) (range_with_len 0 (row_len n)))
    ∙ (let a = length-table n f in let b = length-map-range_with_len (f n) 0 (row_len n) in let m = row_start-more n in omega arith)

-- what stands in the table
pub entry-table : (n : ℕ) (f : ℕ → ℕ → ℤ) (k l : ℕ) → k < n → l < row_len k → entry (table n f) k l ≡ f k l
entry-table zero f k l h j = absurd (omega arith)
entry-table (suc n) f k l h j =
    elim (cases_lt k n) [
      | inl below ↦
          (let e = row_end-le n k below in
          let m = length-table n f in
          get_or_append_left (table n f) (map (f n) (range_with_len 0 (row_len n))) (pos 0) (l + row_start k) (omega arith)
          ∙ entry-table n f k l below j)
      | inr at ↦
          (let e : k ≡ n = omega arith in
          let m = length-table n f in
          let p : l + row_start k ≡ length (table n f) + l = ap (λ i. l + row_start i) e ∙ omega arith in
          ap (λ i. get_or (table (suc n) f) i (pos 0)) p
          ∙ get_or-append-add (table n f) (map (f n) (range_with_len 0 (row_len n))) l (pos 0)
          ∙ get_or-map-range_with_len (f n) 0 (row_len n) l l (pos 0) (subst (λ i. l < row_len i) e j) (omega arith)
          ∙ ap (λ i. f i l) (sym e))
    ]

-- a list of the right length with these numbers is the table
pub table-all : (n : ℕ) (f : ℕ → ℕ → ℤ) (xs : List ℤ) → length xs ≡ row_start n → ((k l : ℕ) → k < n → l < row_len k → entry xs k l ≡ f k l) → xs ≡ table n f
table-all zero f xs h same = length-zero xs h
table-all (suc n) f xs h same =
    let m = row_start-more n in
    let front = table-all n f (take (row_start n) xs) (length-take-le (row_start n) xs (omega arith))
    (λ k l below j. let e = row_end-le n k below in get_or-take (row_start n) xs (l + row_start k) (pos 0) (omega arith) ∙ same k l (omega arith) j) in
    let back = fill_by_all (f n) (drop (row_start n) xs) (row_len n) (pos 0) (length-drop (row_start n) xs ∙ omega arith)
    (λ l j. get_or-drop (row_start n) xs l (pos 0) ∙ ap (λ i. get_or xs i (pos 0)) (omega arith) ∙ same n l (omega arith) j) in
    sym (take-append-drop (row_start n) xs) ∙ ap (λ ys. ys ++ drop (row_start n) xs) front ∙ ap (λ ys. table n f ++ ys) back

-- a part that is read, and what stands in a list after a part was written
pub part_entry : (start len : ℕ) (xs : List ℤ) (l : ℕ) → start + len ≤ length xs → l < len → get_or (take (start + len - start) (drop start xs)) l (pos 0) ≡ get_or xs (l + start) (pos 0)
part_entry start len xs l h j = search (rules, places)

pub written_before : (start len : ℕ) (xs ys : List ℤ) (i : ℕ) → start + len ≤ length xs → length ys ≡ len → i < start → get_or (put_mid start (start + len - start) xs ys) i (pos 0) ≡ get_or xs i (pos 0)
written_before start len xs ys i h e j = search (rules, places)

pub written_in : (start len : ℕ) (xs ys : List ℤ) (l : ℕ) → start + len ≤ length xs → length ys ≡ len → l < len → get_or (put_mid start (start + len - start) xs ys) (l + start) (pos 0) ≡ get_or ys l (pos 0)
written_in start len xs ys l h e j = search (rules, places)

pub written_after : (start len : ℕ) (xs ys : List ℤ) (i : ℕ) → start + len ≤ length xs → length ys ≡ len → start + len ≤ i → get_or (put_mid start (start + len - start) xs ys) i (pos 0) ≡ get_or xs i (pos 0)
written_after start len xs ys i h e j = search (rules, places)

pub length-part : (start len : ℕ) (xs : List ℤ) → start + len ≤ length xs → length (take (start + len - start) (drop start xs)) ≡ len
length-part start len xs h = search (rules, places)

-- each place lies in the list
pub place-lt : (n k l : ℕ) → k < n → l < row_len k → l + row_start k < row_start n
place-lt n k l h j = let e = row_end-le n k h in omega arith

-- so does that of any two sides
pub place_in : (n k l : ℕ) → k < 2 * n → l < 2 * n → place k l < row_start (2 * n)
unfolding place
place_in n k l h j = elim (cases_lt l (row_len k)) [
  | inl here ↦ (let e : nat_lt l (row_len k) ≡ true = grind arith in rw e (place-lt (2 * n) k l h here))
  | inr there ↦ (let e : nat_lt l (row_len k) ≡ false = grind arith in rw e (place-lt (2 * n) (opposite l) (opposite k) (omega arith) (omega arith)))
]

pub place_below : (k l : ℕ) → k < 64 → l < 64 → place k l < 2112
place_below k l h j = place_in 32 k l h j
