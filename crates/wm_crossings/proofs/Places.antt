-- One place more stands last.
use Rattle.std.proofs.Common.{◌≡◌, ◌∙◌, ℕ, zero, suc, ◌+◌, List, [], ◌∷◌, ◌++◌, Option, Some, None, refl, ap, sym, append_assoc, arith}
use Rattle.wm_flow.specs.Calls.{places_from, none_for}

places_more : (first count : ℕ) → places_from first (suc count) ≡ places_from first count ++ Some (first + count) ∷ []
places_more first zero = let e : first ≡ first + 0 = omega arith in ap (λ k. Some k ∷ []) e
places_more first (suc count) =
    let e : suc first + count ≡ first + suc count = omega arith in
    let h : places_from (suc first) (suc count) ≡ places_from (suc first) count ++ Some (suc first + count) ∷ [] = places_more (suc first) count in
    ap (λ rest. Some first ∷ rest) (h ∙ ap (λ k. places_from (suc first) count ++ Some k ∷ []) e)

none_more : (count : ℕ) → none_for (suc count) ≡ none_for count ++ None ∷ []
none_more zero = refl
none_more (suc count) = ap (λ rest. None ∷ rest) (none_more count)

-- a list behind which so many places stand, and one more
pub places_step : (xs ys zs : List (Option ℕ)) (first k place : ℕ) → zs ≡ ys ++ Some place ∷ [] → place ≡ first + k → ys ≡ xs ++ places_from first k → zs ≡ xs ++ places_from first (k + 1)
places_step xs ys zs first k place h hp hy =
    let e : suc k ≡ k + 1 = omega arith in
    let g : (xs ++ places_from first k) ++ Some place ∷ [] ≡ xs ++ (places_from first k ++ Some place ∷ []) = append_assoc xs (places_from first k) (Some place ∷ []) in
    let m : places_from first (suc k) ≡ places_from first k ++ Some (first + k) ∷ [] = places_more first k in
    let p : Some place ∷ [] ≡ Some (first + k) ∷ [] = ap (λ n. Some n ∷ []) hp in
    h ∙ (ap (λ list. list ++ Some place ∷ []) hy ∙ (g ∙ (ap (λ last. xs ++ (places_from first k ++ last)) p ∙ (ap (λ list. xs ++ list) (sym m) ∙ ap (λ n. xs ++ places_from first n) e))))

pub none_step : (xs ys zs : List (Option ℕ)) (k : ℕ) → zs ≡ ys ++ None ∷ [] → ys ≡ xs ++ none_for k → zs ≡ xs ++ none_for (k + 1)
none_step xs ys zs k h hy =
    let e : suc k ≡ k + 1 = omega arith in
    let g : (xs ++ none_for k) ++ None ∷ [] ≡ xs ++ (none_for k ++ None ∷ []) = append_assoc xs (none_for k) (None ∷ []) in
    h ∙ (ap (λ list. list ++ None ∷ []) hy ∙ (g ∙ (ap (λ list. xs ++ list) (sym (none_more k)) ∙ ap (λ n. xs ++ none_for n) e)))
