-- Parts of lists of ranges.
use Rattle.std.proofs.Common.{◌≡◌, ◌∙◌, ℕ, zero, suc, ◌+◌, List, [], ◌∷◌, ◌++◌, map, take, drop, length, refl, ap, sym, append_assoc, arith}
use Rattle.std.specs.Prelude.{min, replicate}
use Rattle.wm_interval.specs.declared.Interval.{Interval}
use Rattle.wm_domain.specs.declared.shape.Shape.{Shape}
use Rattle.wm_flow.specs.Plain.{Range}
use Rattle.wm_flow.specs.Views.{range_of, layout_of}
use Rattle.wm_layouts.specs.Ranges.{ranges_of, shape_layout}

pub ranges_joined : (xs ys : List Interval) → ranges_of (xs ++ ys) ≡ ranges_of xs ++ ranges_of ys
ranges_joined [] ys = refl
ranges_joined (x ∷ xs) ys = ap (λ rest. range_of x ∷ rest) (ranges_joined xs ys)

pub ranges_taken : (xs : List Interval) (count : ℕ) → ranges_of (take (min (length xs) count) xs) ≡ take count (ranges_of xs)
ranges_taken [] zero = refl
ranges_taken [] (suc count) = let e : min 0 (suc count) ≡ 0 = omega arith in rw e refl
ranges_taken (x ∷ xs) zero = let e : min (suc (length xs)) 0 ≡ 0 = omega arith in rw e refl
ranges_taken (x ∷ xs) (suc count) =
    let e : min (suc (length xs)) (suc count) ≡ suc (min (length xs) count) = omega arith in
    rw e (ap (λ rest. range_of x ∷ rest) (ranges_taken xs count))

pub ranges_dropped : (xs : List Interval) (count : ℕ) → ranges_of (drop (min (length xs) count) xs) ≡ drop count (ranges_of xs)
ranges_dropped [] zero = refl
ranges_dropped [] (suc count) = let e : min 0 (suc count) ≡ 0 = omega arith in rw e refl
ranges_dropped (x ∷ xs) zero = let e : min (suc (length xs)) 0 ≡ 0 = omega arith in rw e refl
ranges_dropped (x ∷ xs) (suc count) =
    let e : min (suc (length xs)) (suc count) ≡ suc (min (length xs) count) = omega arith in
    rw e (ranges_dropped xs count)

pub ranges_mapped : (xs : List Interval) → map range_of xs ≡ ranges_of xs
ranges_mapped [] = refl
ranges_mapped (x ∷ xs) = ap (λ rest. range_of x ∷ rest) (ranges_mapped xs)

pub layout_shown : (shape : Shape) → layout_of shape ≡ shape_layout shape
layout_shown shape = rw (ranges_mapped shape.group, ranges_mapped shape.singles, ranges_mapped shape.arrays) refl

same_more : (count : ℕ) (x : Range) → replicate (suc count) x ≡ replicate count x ++ x ∷ []
same_more zero x = refl
same_more (suc count) x = ap (λ rest. x ∷ rest) (same_more count x)

-- a list behind which a range stands so many times, and once more
pub same_step : (xs ys zs : List Range) (k : ℕ) (x : Range) → zs ≡ ys ++ x ∷ [] → ys ≡ xs ++ replicate k x → zs ≡ xs ++ replicate (k + 1) x
same_step xs ys zs k x h hy =
    let e : suc k ≡ k + 1 = omega arith in
    let g : (xs ++ replicate k x) ++ x ∷ [] ≡ xs ++ (replicate k x ++ x ∷ []) = append_assoc xs (replicate k x) (x ∷ []) in
    h ∙ (ap (λ list. list ++ x ∷ []) hy ∙ (g ∙ (ap (λ list. xs ++ list) (sym (same_more k x)) ∙ ap (λ n. xs ++ replicate n x) e)))
