-- No path weighs more than what is known once the edges are taken.
use Rattle.std.proofs.Common.{◌≡◌, ℕ, ◌+◌, ◌-◌, ◌<◌, ◌≤◌, ◌⊎◌, inl, inr, ⊎_elim, Bool, true, false, cond, List, [], ◌∷◌, length, get_or, Option, Some, None, min, refl, ap, sym, ◌∙◌, subst, arith}
use Rattle.std.proofs.Math.ListN.{set, length-set}
use Rattle.std.proofs.lemmas.Bool.{cases_eq}
use Rattle.std.proofs.lemmas.Bool.Decides.{nat_tests}
use Rattle.std.proofs.lemmas.Grind.{get_or-set_at}
use Rattle.std.proofs.lemmas.List.{get_or-set_other}
use Rattle.wm_ways.specs.declared.ways.Way.{Way}
use Rattle.wm_ways.specs.Numbers.{cut, along, greater}
use Rattle.wm_ways.specs.Sweeps.{best_at, onward, relaxed, swept}
use Rattle.wm_ways.specs.Paths.{Leads, AreInside, IsAtLeast, NoPathWeighsMore}

-- ---- weights

cut_is : (n : ℕ) → cut n ≡ min n 1000000000000001
cut_is n = grind (arith, nat_tests)

least_moves : (x m v limit : ℕ) → min m limit ≤ v → min (x + m) limit ≤ min (x + v) limit
least_moves x m v limit h = omega arith

cut_moves : (x m v : ℕ) → cut m ≤ v → cut (x + m) ≤ cut (x + v)
cut_moves x m v h =
    let k : min m 1000000000000001 ≤ v = subst (λ (z : ℕ). z ≤ v) (cut_is m) h in
    subst (λ (z : ℕ). z ≤ cut (x + v)) (sym (cut_is (x + m))) (subst (λ (z : ℕ). min (x + m) 1000000000000001 ≤ z) (sym (cut_is (x + v))) (least_moves x m v 1000000000000001 k))

cut_below : (n : ℕ) → cut n ≤ n
cut_below n =
    let h : min n 1000000000000001 ≤ n = omega arith in subst (λ (z : ℕ). z ≤ n) (sym (cut_is n)) h

least_left : (n : ℕ) (a b : Option ℕ) → IsAtLeast n a → IsAtLeast n (greater a b)
least_left n None b h = absurd h
least_left n (Some a) None h = h
least_left n (Some a) (Some b) h = omega arith

least_right : (n : ℕ) (a b : Option ℕ) → IsAtLeast n b → IsAtLeast n (greater a b)
least_right n None b h = h
least_right n (Some a) None h = absurd h
least_right n (Some a) (Some b) h = omega arith

least_along : (w a m : ℕ) (b : Option ℕ) → IsAtLeast (cut m) b → IsAtLeast (cut (w + a + m)) (along w a b)
least_along w a m None h = absurd h
least_along w a m (Some v) h = cut_moves (w + a) m v h

-- ---- tables

length_kept : (b : Bool) (best : List (Option ℕ)) (i : ℕ) (x : Option ℕ) → length (cond b (set best i x) best) ≡ length best
length_kept true best i x = length-set best i x
length_kept false best i x = refl

kept : (b : Bool) (best : List (Option ℕ)) (i j n : ℕ) (x : Option ℕ) → i < length best → IsAtLeast n (get_or best j None) → IsAtLeast n (get_or (cond b (set best i (greater (get_or best i None) x)) best) j None)
kept false best i j n x inside h = h
kept true best i j n x inside h =
    ⊎_elim
    (λ (e : j ≡ i). subst (IsAtLeast n) (sym (get_or-set_at best i j (greater (get_or best i None) x) None e inside)) (least_left n (get_or best i None) x (subst (λ (k : ℕ). IsAtLeast n (get_or best k None)) e h)))
    (λ (ne : j ≡ i → ⊥). subst (IsAtLeast n) (sym (get_or-set_other best i j (greater (get_or best i None) x) None ne)) h)
    (cases_eq j i)

length_relaxed : (first : ℕ) (added : List ℕ) (way : Way) (best : List (Option ℕ)) → length (relaxed first added way best) ≡ length best
unfolding relaxed
length_relaxed first added way best = length_kept way.open best (way.source - first) (onward first added way best)

length_swept : (first : ℕ) (added : List ℕ) (ways : List Way) (best : List (Option ℕ)) → length (swept first added ways best) ≡ length best
length_swept first added [] best = refl
length_swept first added (way ∷ ways) best =
    length_relaxed first added way (swept first added ways best) ∙ length_swept first added ways best

-- an edge takes nothing away
relaxed_keeps : (first : ℕ) (added : List ℕ) (way : Way) (best : List (Option ℕ)) (node n : ℕ) → way.source - first < length best → IsAtLeast n (best_at first best node) → IsAtLeast n (best_at first (relaxed first added way best) node)
unfolding relaxed
relaxed_keeps first added way best node n inside h =
    kept way.open best (way.source - first) (node - first) n (along way.weight (get_or added way.target 0) (best_at first best way.target)) inside h

relaxed_open : (first : ℕ) (added : List ℕ) (way : Way) (best : List (Option ℕ)) → way.open ≡ true → relaxed first added way best ≡ set best (way.source - first) (onward first added way best)
unfolding relaxed
relaxed_open first added way best e = ap (λ (b : Bool). cond b (set best (way.source - first) (onward first added way best)) best) e

-- an open edge tells what is behind it
relaxed_tells : (first : ℕ) (added : List ℕ) (way : Way) (best : List (Option ℕ)) (m : ℕ) → way.source - first < length best → way.open ≡ true → IsAtLeast (cut m) (best_at first best way.target) → IsAtLeast (cut (way.weight + get_or added way.target 0 + m)) (best_at first (relaxed first added way best) way.source)
relaxed_tells first added way best m inside e h =
    let n = cut (way.weight + get_or added way.target 0 + m) in
    let there = along way.weight (get_or added way.target 0) (best_at first best way.target) in
    let told : IsAtLeast n (onward first added way best) = least_right n (best_at first best way.source) there (least_along way.weight (get_or added way.target 0) m (best_at first best way.target) h) in
    let at : get_or (set best (way.source - first) (onward first added way best)) (way.source - first) None ≡ onward first added way best = get_or-set_at best (way.source - first) (way.source - first) (onward first added way best) None refl inside in
    subst (λ (t : List (Option ℕ)). IsAtLeast n (best_at first t way.source)) (sym (relaxed_open first added way best e)) (subst (IsAtLeast n) (sym at) told)

-- ---- paths

nothing_more : (known : ℕ) → cut (0 + known) ≤ known
nothing_more known =
    let same : known ≡ 0 + known = omega arith in subst (λ (n : ℕ). cut n ≤ known) same (cut_below known)

weighs : (first : ℕ) (added : List ℕ) (ways : List Way) (best : List (Option ℕ)) (from to weight known : ℕ) → AreInside first (length best) ways → Leads added ways from to weight → best_at first best to ≡ Some known → IsAtLeast (cut (weight + known)) (best_at first (swept first added ways best) from)
weighs first added [] best from to weight known inside path at =
    subst (λ (o : Option ℕ). IsAtLeast (cut (weight + known)) o) (sym (ap (best_at first best) path.0 ∙ at)) (subst (λ (w : ℕ). cut (w + known) ≤ known) (sym path.1) (nothing_more known))
weighs first added (way ∷ ways) best from to weight known inside (inl path) at =
    relaxed_keeps first added way (swept first added ways best) from (cut (weight + known)) (subst (λ (n : ℕ). way.source - first < n) (sym (length_swept first added ways best)) inside.0) (weighs first added ways best from to weight known inside.1 path at)
weighs first added (way ∷ ways) best from to weight known inside (inr taken) at =
    let rest = taken.2.0 in
    let behind = weighs first added ways best way.target to rest known inside.1 taken.2.1 at in
    let there = relaxed_tells first added way (swept first added ways best) (rest + known) (subst (λ (n : ℕ). way.source - first < n) (sym (length_swept first added ways best)) inside.0) taken.0 behind in
    let total : way.weight + get_or added way.target 0 + (rest + known) ≡ weight + known = omega (arith, taken.2.2) in
    subst (λ (node : ℕ). IsAtLeast (cut (weight + known)) (best_at first (swept first added (way ∷ ways) best) node)) (sym taken.1) (subst (λ (n : ℕ). IsAtLeast (cut n) (best_at first (relaxed first added way (swept first added ways best)) way.source)) total there)

pub no_path_weighs_more : NoPathWeighsMore
no_path_weighs_more = weighs
