-- Objects as they stand in the program: of each it is told whether its address is taken.
use Rattle.std.proofs.Common.{◌≡◌, ℕ, zero, suc, ◌+◌, List, [], ◌∷◌, ◌++◌, length, Some, sym, ap, subst, ◌∙◌, append_assoc, append-nil, length-append, arith}
use Rattle.std.proofs.lemmas.List.Elements.{All-nil, All-cons, All-head, All-tail}
use Rattle.std.specs.List.{All}
use Rattle.std.specs.Prelude.{slice_get}
use Rattle.wm_program.specs.declared.program.ObjectInfo.{ObjectInfo}
use Rattle.wm_program.specs.WellFormed.{ObjectFits}
use Rattle.wm_reading.specs.Finishing.{object, objects}

-- those of a list, from a number on
abbrev told_from : List ℕ → ℕ → List ObjectInfo → List ObjectInfo
told_from taken n [] = []
told_from taken n (x ∷ xs) = object taken n x ∷ told_from taken (suc n) xs

behind : (taken : List ℕ) (found xs : List ObjectInfo) → objects taken found xs ≡ found ++ told_from taken (length found) xs
behind taken found [] = sym (append-nil found)
behind taken found (x ∷ xs) =
    let made = object taken (length found) x in
    behind taken (found ++ made ∷ []) xs
    ∙ (ap (λ n. (found ++ made ∷ []) ++ told_from taken n xs) (one_more found made)
    ∙ append_assoc found (made ∷ []) (told_from taken (suc (length found)) xs))
  where
    one_more : (ys : List ObjectInfo) (y : ObjectInfo) → length (ys ++ y ∷ []) ≡ suc (length ys)
    one_more ys y = omega (arith, length-append ys (y ∷ []))

is_told : (taken : List ℕ) (xs : List ObjectInfo) → objects taken [] xs ≡ told_from taken 0 xs
is_told taken xs = behind taken [] xs

the_same : (x y : ObjectInfo) → Some x ≡ Some y → x ≡ y
the_same x y e = cc

told_at : (taken : List ℕ) (n : ℕ) (xs : List ObjectInfo) (k : ℕ) (x : ObjectInfo) → slice_get xs k ≡ Some x → slice_get (told_from taken n xs) k ≡ Some (object taken (n + k) x)
told_at taken n [] k x e = cc
told_at taken n (y ∷ xs) zero x e = ap (λ z. Some (object taken n z)) (the_same y x e) ∙ ap (λ m. Some (object taken m x)) (omega arith)
told_at taken n (y ∷ xs) (suc k) x e = told_at taken (suc n) xs k x e ∙ ap (λ m. Some (object taken m x)) (omega arith)

nothing_more : (k : ℕ) → 0 + k ≡ k
nothing_more k = omega arith

pub final_at : (taken : List ℕ) (xs : List ObjectInfo) (k : ℕ) (x : ObjectInfo) → slice_get xs k ≡ Some x → slice_get (objects taken [] xs) k ≡ Some (object taken k x)
final_at taken xs k x e =
    ap (λ ys. slice_get ys k) (is_told taken xs) ∙ (told_at taken 0 xs k x e ∙ ap (λ m. Some (object taken m x)) (nothing_more k))

all_from : (taken : List ℕ) (n : ℕ) (xs : List ObjectInfo) → All ObjectFits xs → All ObjectFits (told_from taken n xs)
all_from taken n [] a = All-nil ObjectFits
all_from taken n (x ∷ xs) a =
    let f = All-head ObjectFits x xs a in
    All-cons ObjectFits (object taken n x) (told_from taken (suc n) xs)
    (record { not_empty = f.not_empty; scalar_length = f.scalar_length; initial_length = f.initial_length; initial_width = f.initial_width })
    (all_from taken (suc n) xs (All-tail ObjectFits x xs a))

pub finals_fit : (taken : List ℕ) (xs : List ObjectInfo) → All ObjectFits xs → All ObjectFits (objects taken [] xs)
finals_fit taken xs a = subst (All ObjectFits) (sym (is_told taken xs)) (all_from taken 0 xs a)
