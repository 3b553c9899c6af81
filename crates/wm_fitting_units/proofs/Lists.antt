-- Lists that grow by one at the end.
use Rattle.std.proofs.Common.{◌≡◌, ℕ, zero, suc, List, [], ◌∷◌, ◌++◌, length, Some, subst}
use Rattle.std.specs.Prelude.{slice_get}

same : {X : Type 0} (x y : X) → Some x ≡ Some y → x ≡ y
same x y e = cc

fewer : (m n : ℕ) → suc m ≡ suc n → m ≡ n
fewer m n e = cc

-- what holds at each number still does with one more at the end
pub push_get : {X : Type 0} (Q : ℕ → X → Type 0) (xs : List X) (x : X) → ((k : ℕ) (y : X) → slice_get xs k ≡ Some y → Q k y) → Q (length xs) x → (k : ℕ) (y : X) → slice_get (xs ++ x ∷ []) k ≡ Some y → Q k y
push_get Q [] x h q zero y e = subst (λ it. Q zero it) (same x y e) q
push_get Q [] x h q (suc k) y e = cc
push_get Q (z ∷ xs) x h q zero y e = h zero y e
push_get Q (z ∷ xs) x h q (suc k) y e = push_get (λ i it. Q (suc i) it) xs x (λ i it g. h (suc i) it g) q k y e

pub push_two : {X Y : Type 0} (R : X → Y → Type 0) (xs : List X) (ys : List Y) (x : X) (y : Y) → length xs ≡ length ys
    → ((k : ℕ) (a : X) (b : Y) → slice_get xs k ≡ Some a → slice_get ys k ≡ Some b → R a b) → R x y
    → (k : ℕ) (a : X) (b : Y) → slice_get (xs ++ x ∷ []) k ≡ Some a → slice_get (ys ++ y ∷ []) k ≡ Some b → R a b
push_two R [] [] x y l h r zero a b e f = subst (λ it. R it b) (same x a e) (subst (λ it. R x it) (same y b f) r)
push_two R [] [] x y l h r (suc k) a b e f = cc
push_two R [] (w ∷ ys) x y l h r k a b e f = cc
push_two R (z ∷ xs) [] x y l h r k a b e f = cc
push_two R (z ∷ xs) (w ∷ ys) x y l h r zero a b e f = h zero a b e f
push_two R (z ∷ xs) (w ∷ ys) x y l h r (suc k) a b e f = push_two R xs ys x y (fewer (length xs) (length ys) l) (λ i c d g j. h (suc i) c d g j) r k a b e f
