-- Locals as they stand in the program: of each it is told whether its address is taken.
use Rattle.std.proofs.Common.{◌≡◌, ℕ, zero, suc, ◌+◌, true, false, List, [], ◌∷◌, ◌++◌, length, drop, Some, refl, sym, ap, subst, ◌∙◌, append_assoc, append-nil, length-append, arith}
use Rattle.std.proofs.lemmas.List.Elements.{All-cons, All-head, All-tail}
use Rattle.std.specs.List.{All}
use Rattle.std.specs.Prelude.{slice_get}
use Rattle.wm_program.specs.declared.program.LocalInfo.{LocalInfo}
use Rattle.wm_marks.specs.Marking.{has}
use Rattle.wm_reading.specs.Finishing.{local, locals}
use Rattle.wm_fitting_functions.proofs.Likeness.{AreLike}

-- those of a list, from a number on
abbrev told_from : List ℕ → ℕ → List LocalInfo → List LocalInfo
told_from taken n [] = []
told_from taken n (x ∷ xs) = local taken n x ∷ told_from taken (suc n) xs

behind : (taken : List ℕ) (found xs : List LocalInfo) → locals taken found xs ≡ found ++ told_from taken (length found) xs
behind taken found [] = sym (append-nil found)
behind taken found (x ∷ xs) =
    let made = local taken (length found) x in
    behind taken (found ++ made ∷ []) xs
    ∙ (ap (λ n. (found ++ made ∷ []) ++ told_from taken n xs) (one_more found made)
    ∙ append_assoc found (made ∷ []) (told_from taken (suc (length found)) xs))
  where
    one_more : (ys : List LocalInfo) (y : LocalInfo) → length (ys ++ y ∷ []) ≡ suc (length ys)
    one_more ys y = omega (arith, length-append ys (y ∷ []))

is_told : (taken : List ℕ) (xs : List LocalInfo) → locals taken [] xs ≡ told_from taken 0 xs
is_told taken xs = behind taken [] xs

the_same : (x y : LocalInfo) → Some x ≡ Some y → x ≡ y
the_same x y e = cc

-- ---- addresses

addressed_from : (taken : List ℕ) (n : ℕ) (xs : List LocalInfo) (k : ℕ) (it : LocalInfo) → slice_get (told_from taken n xs) k ≡ Some it → it.addressed ≡ has (n + k) taken
addressed_from taken n [] k it e = cc
addressed_from taken n (x ∷ xs) zero it e = sym (ap (λ y. y.addressed) (the_same (local taken n x) it e)) ∙ ap (λ m. has m taken) (omega arith)
addressed_from taken n (x ∷ xs) (suc k) it e = addressed_from taken (suc n) xs k it e ∙ ap (λ m. has m taken) (omega arith)

nothing_more : (k : ℕ) → 0 + k ≡ k
nothing_more k = omega arith

pub addressed : (taken : List ℕ) (xs : List LocalInfo) (k : ℕ) → has k taken ≡ true → (it : LocalInfo) → slice_get (locals taken [] xs) k ≡ Some it → it.addressed ≡ true
addressed taken xs k h it e = addressed_from taken 0 xs k it (subst (λ ys. slice_get ys k ≡ Some it) (is_told taken xs) e) ∙ (ap (λ m. has m taken) (nothing_more k) ∙ h)

-- ---- likeness

like_from : (taken : List ℕ) (n : ℕ) (xs : List LocalInfo) → AreLike xs (told_from taken n xs)
like_from taken n [] k info e = cc
like_from taken n (x ∷ xs) zero info e =
    let s = the_same x info e in
    record { width = ap (λ y. y.width) s; array = ap (λ y. y.array) s; view = ap (λ y. y.view) s }
like_from taken n (x ∷ xs) (suc k) info e = like_from taken (suc n) xs k info e

pub finals_like : (taken : List ℕ) (xs : List LocalInfo) → AreLike xs (locals taken [] xs)
finals_like taken xs = subst (AreLike xs) (sym (is_told taken xs)) (like_from taken 0 xs)

length_from : (taken : List ℕ) (n : ℕ) (xs : List LocalInfo) → length (told_from taken n xs) ≡ length xs
length_from taken n [] = refl
length_from taken n (x ∷ xs) = ap suc (length_from taken (suc n) xs)

pub finals_length : (taken : List ℕ) (xs : List LocalInfo) → length (locals taken [] xs) ≡ length xs
finals_length taken xs = ap length (is_told taken xs) ∙ length_from taken 0 xs

-- ---- views

abbrev IsNoView : LocalInfo → Type 0
IsNoView it = it.view ≡ false

no_views_from : (taken : List ℕ) (n m : ℕ) (xs : List LocalInfo) → All IsNoView (drop m xs) → All IsNoView (drop m (told_from taken n xs))
no_views_from taken n zero [] a = a
no_views_from taken n (suc m) [] a = a
no_views_from taken n zero (x ∷ xs) a =
    All-cons IsNoView (local taken n x) (told_from taken (suc n) xs) (All-head IsNoView x xs a) (no_views_from taken (suc n) zero xs (All-tail IsNoView x xs a))
no_views_from taken n (suc m) (x ∷ xs) a = no_views_from taken (suc n) m xs a

pub finals_no_views : (taken : List ℕ) (m : ℕ) (xs : List LocalInfo) → All (λ it. it.view ≡ false) (drop m xs) → All (λ it. it.view ≡ false) (drop m (locals taken [] xs))
finals_no_views taken m xs a = subst (λ ys. All IsNoView (drop m ys)) (sym (is_told taken xs)) (no_views_from taken 0 m xs a)

pub drop_itself : (xs : List LocalInfo) → drop (length xs) xs ≡ []
drop_itself [] = refl
drop_itself (x ∷ xs) = drop_itself xs
