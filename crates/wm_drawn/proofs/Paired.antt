-- Shapes whose ranges are the same by place.
use Rattle.std.proofs.Common.{◌≡◌, ℕ, zero, suc, ◌+◌, ◌-◌, ◌<◌, ◌^◌, List, ◌++◌, [], ◌∷◌, length, refl, sym, ◌∙◌, ap, subst, arith}
use Rattle.wm_interval.specs.declared.Interval.{Interval}
use Rattle.wm_domain.specs.declared.shape.Shape.{Shape}
use Rattle.wm_domain.specs.Points.{range_at}
use Rattle.wm_domain.specs.States.{IsShape, variables_of, count_of, array_count}
use Rattle.wm_carry.specs.Following.{IsWay}
use Rattle.wm_carry.proofs.Ranks.{Comes, Grouped, Single, comes_of, count_is}
use Rattle.wm_drawn.specs.Pairing.{ArePaired}

pub pair_at : (xs ys : List Interval) (k : ℕ) → ArePaired xs ys → k < length xs → k < length ys → range_at xs k ≡ range_at ys k
pair_at [] ys k p h l = absurd (omega (arith, h))
pair_at (x ∷ xs) [] k p h l = absurd (omega (arith, l))
pair_at (x ∷ xs) (y ∷ ys) zero p h l = p.0
pair_at (x ∷ xs) (y ∷ ys) (suc k) p h l = pair_at xs ys k p.1 (omega (arith, h)) (omega (arith, l))

left_at : (xs ys : List Interval) (v : ℕ) → v < length xs → range_at (xs ++ ys) v ≡ range_at xs v
left_at [] ys v h = absurd (omega (arith, h))
left_at (x ∷ xs) ys zero h = refl
left_at (x ∷ xs) ys (suc v) h = left_at xs ys v (omega (arith, h))

right_at : (xs ys : List Interval) (v k : ℕ) → v ≡ length xs + k → range_at (xs ++ ys) v ≡ range_at ys k
right_at [] ys v k e = ap (range_at ys) (let f : v ≡ k = omega (arith, e) in f)
right_at (x ∷ xs) ys zero k e = absurd (omega (arith, e))
right_at (x ∷ xs) ys (suc v) k e = right_at xs ys v k (omega (arith, e))

alike_at : (s t : Shape) (v w : ℕ) → ArePaired t.group s.group → ArePaired t.singles s.singles → v < count_of t → Comes s t v w → range_at (variables_of t) v ≡ range_at (variables_of s) w
alike_at s t v w g p h (Grouped l k e) =
    left_at t.group t.singles v l ∙ pair_at t.group s.group v g l (subst (λ (n : ℕ). n < length s.group) e k) ∙ ap (range_at s.group) (sym e) ∙ sym (left_at s.group s.singles w k)
alike_at s t v w g p h (Single l k m e) =
    let inside : v < length t.group + length t.singles = subst (λ (n : ℕ). v < n) (count_is t) h in
    let here : v ≡ length t.group + (v - length t.group) = omega (arith, l) in
    let there : w ≡ length s.group + (v - length t.group) = omega (arith, l, k, e) in
    right_at t.group t.singles v (v - length t.group) here
    ∙ pair_at t.singles s.singles (v - length t.group) p (omega (arith, l, inside)) (omega (arith, l, k, m, e))
    ∙ sym (right_at s.group s.singles w (v - length t.group) there)

-- two shapes of few variables and arrays
pub way_of : (s t : Shape) → IsShape s → IsShape t → length s.group + length s.singles < 2 ^ 32 → array_count s < 2 ^ 32 → length t.group + length t.singles < 2 ^ 32
    → ArePaired t.group s.group → ArePaired t.singles s.singles → ArePaired t.arrays s.arrays → IsWay s t
way_of s t is it few arrays long g p a = record {
  source_shape = is;
  target_shape = it;
  few = few;
  few_arrays = arrays;
  long = long;
  alike = λ v w h e. alike_at s t v w g p h (comes_of s t v w e);
  arrays_alike = λ k h l. pair_at t.arrays s.arrays k a h l;
}
