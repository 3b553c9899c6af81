-- Rounds: one more of them, and none that changes anything.
use mathlib.Core.Bool.{beq}
use Rattle.std.specs.Cmp.Lexicographic.{pointwise}
use Rattle.std.proofs.lemmas.Bool.{true≢false}
use Rattle.std.proofs.Common.{◌∷◌, Bool, true, false, ◌≡◌, ℕ, zero, suc, ◌+◌, ◌-◌, ◌<◌, ◌≤◌, sym, refl, ap, ◌∙◌, arith, List, []}
use Rattle.wm_calls.specs.Repeated.{repeated}

-- what stays the same in one round does in all
pub stays : {A : Type 0} (n : ℕ) (f : A → A) (x : A) → f x ≡ x → repeated n f x ≡ x
unfolding repeated
stays zero f x e = refl
stays (suc n) f x e = ap (λ y. repeated n f y) e ∙ stays n f x e

-- a round of those that are left
pub goes : {A : Type 0} (n k : ℕ) (f : A → A) (x : A) → k < n → repeated (n - k) f x ≡ repeated (n - (k + 1)) f (f x)
unfolding repeated
goes n k f x h = let e : n - k ≡ suc (n - (k + 1)) = omega arith in ap (λ m. repeated m f x) e

pub ends : {A : Type 0} (n : ℕ) (f : A → A) (x : A) → repeated (n - n) f x ≡ x
unfolding repeated
ends n f x = let e : n - n ≡ 0 = omega arith in ap (λ m. repeated m f x) e

-- no round is left
pub over : {A : Type 0} (n k : ℕ) (f : A → A) (x y : A) → n ≤ k → repeated (n - k) f x ≡ y → x ≡ y
unfolding repeated
over n k f x y h e = let z : n - k ≡ 0 = omega arith in sym (ap (λ m. repeated m f x) z) ∙ e

-- marks that `==` finds alike
pub same_marks : (xs ys : List Bool) → true ≡ pointwise beq xs ys → xs ≡ ys
same_marks [] [] e = refl
same_marks [] (y ∷ ys) e = absurd (true≢false e)
same_marks (x ∷ xs) [] e = absurd (true≢false e)
same_marks (true ∷ xs) (true ∷ ys) e = ap (λ l. true ∷ l) (same_marks xs ys e)
same_marks (true ∷ xs) (false ∷ ys) e = absurd (true≢false e)
same_marks (false ∷ xs) (true ∷ ys) e = absurd (true≢false e)
same_marks (false ∷ xs) (false ∷ ys) e = ap (λ l. false ∷ l) (same_marks xs ys e)
