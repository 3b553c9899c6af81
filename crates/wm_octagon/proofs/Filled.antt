-- Lists that are filled number by number.
use Rattle.std.proofs.Common.{◌≡◌, inl, inr, ℕ, ◌+◌, ◌<◌, ◌≢◌, ℤ, pos, List, get_or, set, length, replicate, arith, ap, sym, subst, ◌∙◌, below_more}
use Rattle.std.proofs.lemmas.Bool.{cases_lt, cases_eq}
use Rattle.std.proofs.lemmas.List.{get_or_past, get_or-set_same, get_or-set_other, set_past, get_or-replicate, length-replicate}
use Rattle.wm_octagon.specs.Medium.{Filled}

-- a write of such a number
pub sized-set : (P : ℤ → Type 0) (xs : List ℤ) (j : ℕ) (v : ℤ) → ((i : ℕ) → P (get_or xs i (pos 0))) → P v → (i : ℕ) → P (get_or (set xs j v) i (pos 0))
sized-set P xs j v s h i = elim (cases_eq i j) [
  | inl same ↦ elim (cases_lt j (length xs)) [
    | inl inside ↦ subst P (sym (ap (λ k. get_or (set xs j v) k (pos 0)) same ∙ get_or-set_same xs j v (pos 0) inside)) h
    | inr past ↦ subst P (sym (ap (λ ys. get_or ys i (pos 0)) (set_past xs j v past))) (s i)
  ]
  | inr other ↦ subst P (sym (get_or-set_other xs j i v (pos 0) other)) (s i)
]

pub filled-none : (P : ℤ → Type 0) (f : ℕ → ℤ) (n : ℕ) → P (pos 0) → Filled P f 0 (replicate n (pos 0))
filled-none P f n z = record {
  done = λ k h. absurd (omega arith);
  sized = λ k. elim (cases_lt k n) [
    | inl inside ↦ subst P (sym (get_or-replicate n k (pos 0) (pos 0) inside)) z
    | inr past ↦ (let e = length-replicate n (pos 0) in subst P (sym (get_or_past (replicate n (pos 0)) k (pos 0) (omega arith))) z)
  ];
}

pub filled-clear : (P : ℤ → Type 0) (f : ℕ → ℤ) (xs : List ℤ) → xs ≡ replicate 64 (pos 0) → P (pos 0) → Filled P f 0 xs
filled-clear P f xs e z = subst (λ ys. Filled P f 0 ys) (sym e) (filled-none P f 64 z)

pub filled-more : (P : ℤ → Type 0) (f : ℕ → ℤ) (n : ℕ) (xs : List ℤ) (v : ℤ) → Filled P f n xs → n < length xs → v ≡ f n → P (f n) → Filled P f (n + 1) (set xs n v)
filled-more P f n xs v t h e p = record {
  done = below_more _ _
      (λ k below. let ne : k ≢ n = omega arith in get_or-set_other xs n k v (pos 0) ne ∙ t.done k below)
      (get_or-set_same xs n v (pos 0) h ∙ e);
  sized = sized-set P xs n v t.sized (subst P (sym e) p);
}
