-- Where no counter is left, and where the first is taken off.
use Rattle.std.proofs.Common.{◌≡◌, ℕ, suc, ◌<◌, List, [], ◌∷◌, length, All, refl, sym, ap, subst, arith}
use Rattle.wm_flow.specs.declared.action.Growth.{Growth}

pub no_items : {A : Type 0} (xs : List A) → length xs ≡ 0 → xs ≡ []
no_items [] h = refl
no_items (x ∷ xs) h = absurd (omega arith)

pub rest_inside : (n m : ℕ) (it : Growth) (rest gs : List Growth) → gs ≡ it ∷ rest → m ≡ n → All (λ (g : Growth). g.variable < n) gs → All (λ (g : Growth). g.variable < m) rest
rest_inside n m it rest gs e f h =
    let inside : All (λ (g : Growth). g.variable < n) (it ∷ rest) = subst (λ (xs : List Growth). All (λ (g : Growth). g.variable < n) xs) e h in
    subst (λ (x : ℕ). All (λ (g : Growth). g.variable < x) rest) (sym f) (λ k d l. inside (suc k) d (omega (arith, l)))

pub rest_shorter : (it : Growth) (rest gs : List Growth) → gs ≡ it ∷ rest → length rest < length gs
rest_shorter it rest gs e = subst (λ (xs : List Growth). length rest < length xs) (sym e) (omega arith)
