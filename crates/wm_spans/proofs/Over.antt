-- Lists laid over others, place by place, and what variables and arrays that are paired by place leave of points.
use Rattle.std.proofs.Common.{◌≡◌, ◌⊎◌, inl, inr, ℕ, zero, suc, ◌+◌, ◌-◌, ◌<◌, ◌≤◌, ℤ, List, [], ◌∷◌, ◌++◌, length, take, drop, Bool, false, true, sym, ◌∙◌, ap, subst, refl, arith, Some, None, Option}
use Rattle.std.specs.Prelude.{slice_index_or, replicate, All, min}
use Rattle.std.proofs.lemmas.List.{length-append, get_or_append_left, get_or-append_right, get_or-take, get_or-drop, length-take, length-drop, take-append-drop, append_assoc, take_all}
use Rattle.wm_numbers.proofs.Order.{le_refl}
use Rattle.wm_interval.specs.declared.Interval.{Interval}
use Rattle.wm_interval.specs.Holds.{Holds}
use Rattle.wm_arrays.specs.declared.summary.Summary.{Summary}
use Rattle.wm_arrays.specs.declared.summary.Summary.TheVariants.{Empty, Range}
use Rattle.wm_spans.specs.Over.{over}

below_zero : {P : Type 0} (k n : ℕ) → n ≡ 0 → k < n → P
below_zero k n e h = absurd (omega (arith, e))

less_more : (k n : ℕ) → suc k < suc n → k < n
less_more k n h = omega arith

not_more : (k n : ℕ) → suc n ≤ suc k → n ≤ k
not_more k n h = omega arith

none_less : {P : Type 0} (n : ℕ) → suc n ≤ 0 → P
none_less n h = absurd (omega arith)

pub over_length : {A : Type 0} (xs ys : List A) → length (over xs ys) ≡ length ys
unfolding over
over_length [] ys = refl
over_length (x ∷ xs) [] = refl
over_length (x ∷ xs) (y ∷ ys) = ap suc (over_length xs ys)

pub over_here : {A : Type 0} (xs ys : List A) (k : ℕ) (d : A) → k < length xs → k < length ys → slice_index_or (over xs ys) k d ≡ slice_index_or xs k d
unfolding over
over_here [] ys k d h l = below_zero k 0 refl h
over_here (x ∷ xs) [] k d h l = below_zero k 0 refl l
over_here (x ∷ xs) (y ∷ ys) zero d h l = refl
over_here (x ∷ xs) (y ∷ ys) (suc k) d h l = over_here xs ys k d (less_more k (length xs) h) (less_more k (length ys) l)

pub over_past : {A : Type 0} (xs ys : List A) (k : ℕ) (d : A) → length xs ≤ k → slice_index_or (over xs ys) k d ≡ slice_index_or ys k d
unfolding over
over_past [] ys k d h = refl
over_past (x ∷ xs) [] k d h = refl
over_past (x ∷ xs) (y ∷ ys) zero d h = none_less (length xs) h
over_past (x ∷ xs) (y ∷ ys) (suc k) d h = over_past xs ys k d (not_more k (length xs) h)

-- nothing laid over a list leaves it
pub over_none : {A : Type 0} (ys : List A) → over [] ys ≡ ys
unfolding over
over_none ys = refl

-- as the code makes it: the first ones, then the rest
pub over_short : {A : Type 0} (xs ys : List A) → length xs < length ys → over xs ys ≡ xs ++ drop (length xs) ys
unfolding over
over_short [] ys h = refl
over_short (x ∷ xs) [] h = below_zero (length (x ∷ xs)) 0 refl h
over_short (x ∷ xs) (y ∷ ys) h = ap (λ zs. x ∷ zs) (over_short xs ys (less_more (length xs) (length ys) h))

pub over_long : {A : Type 0} (xs ys : List A) → length ys ≤ length xs → over xs ys ≡ take (length ys) xs
unfolding over
over_long [] [] h = refl
over_long [] (y ∷ ys) h = none_less (length ys) h
over_long (x ∷ xs) [] h = refl
over_long (x ∷ xs) (y ∷ ys) h = ap (λ zs. x ∷ zs) (over_long xs ys (not_more (length xs) (length ys) h))

rest_le : {A : Type 0} (ys : List A) (n : ℕ) → length (drop n ys) ≤ length ys - n
rest_le ys n = let e = length-drop n ys in omega (arith, e)

pub pushed_short : {A : Type 0} (list mid last xs ys : List A) → length xs < length ys → mid ≡ list ++ xs → last ≡ mid ++ take (length ys - length xs) (drop (length xs) ys) → last ≡ list ++ over xs ys
pushed_short list mid last xs ys h e f = f ∙ ap (λ zs. mid ++ zs) (take_all (length ys - length xs) (drop (length xs) ys) (rest_le ys (length xs))) ∙ ap (λ zs. zs ++ drop (length xs) ys) e ∙ append_assoc list xs (drop (length xs) ys) ∙ ap (λ zs. list ++ zs) (sym (over_short xs ys h))

pub pushed_long : {A : Type 0} (list last xs ys : List A) → length ys ≤ length xs → last ≡ list ++ take (length ys) xs → last ≡ list ++ over xs ys
pushed_long list last xs ys h e = e ∙ ap (λ zs. list ++ zs) (sym (over_long xs ys h))

-- nothing changes where both have the same
pub over_same : {A : Type 0} (xs ys : List A) (d : A) → ((k : ℕ) → k < length xs → k < length ys → slice_index_or ys k d ≡ slice_index_or xs k d) → over xs ys ≡ ys
unfolding over
over_same [] ys d h = refl
over_same (x ∷ xs) [] d h = refl
over_same (x ∷ xs) (y ∷ ys) d h = both (sym (h zero (omega arith) (omega arith))) (over_same xs ys d (λ k a b. h (suc k) (omega (arith, a)) (omega (arith, b))))
  where
    both : {A : Type 0} {x y : A} {xs ys : List A} → x ≡ y → xs ≡ ys → (x ∷ xs) ≡ (y ∷ ys)
    both e f = cc
