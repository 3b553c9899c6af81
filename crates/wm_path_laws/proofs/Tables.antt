-- What one edge changes in a table.
use Rattle.std.proofs.Common.{◌≡◌, ◌≢◌, ℕ, ◌+◌, ◌-◌, ◌<◌, ◌≤◌, Bool, true, false, cond, List, [], ◌∷◌, length, get_or, max, min, Option, Some, None, refl, ap, sym, ◌∙◌, subst, arith}
use Rattle.std.proofs.Math.ListN.{set, length-set}
use Rattle.std.proofs.lemmas.Bool.Decides.{nat_tests}
use Rattle.std.proofs.lemmas.Grind.{get_or-set_at}
use Rattle.std.proofs.lemmas.List.{get_or-set_other}
use Rattle.wm_ways.specs.declared.ways.Way.{Way}
use Rattle.wm_ways.specs.Numbers.{cut, along, greater}
use Rattle.wm_ways.specs.Sweeps.{best_at, onward, relaxed, swept}

-- ---- weights

cut_is : (n : ℕ) → cut n ≡ min n 1000000000000001
cut_is n = grind (arith, nat_tests)

-- below the limit nothing is cut
pub uncut : (n known : ℕ) → known ≤ 1000000000000000 → cut n ≡ known → n ≡ known
uncut n known small e =
    let h : min n 1000000000000001 ≡ known = sym (cut_is n) ∙ e in omega (arith, h, small)

pub cut_small : (n known : ℕ) → known ≤ 1000000000000000 → n ≡ known → cut n ≡ known
cut_small n known small e = cut_is n ∙ omega (arith, e, small)

-- what is at most a number below the limit once it is cut is so before
pub uncut_least : (n known : ℕ) → known ≤ 1000000000000000 → cut (n + 0) ≤ known → n ≤ known
uncut_least n known small h =
    let k : min (n + 0) 1000000000000001 ≤ known = subst (λ (m : ℕ). m ≤ known) (cut_is (n + 0)) h in omega (arith, k, small)

pub some_is : (a b : ℕ) → Some a ≡ Some b → a ≡ b
some_is a b e = cc

pub none_is_not : {P : Type 0} (a : ℕ) → None ≡ Some a → P
none_is_not a e = cc

-- ---- tables

length_kept : (b : Bool) (best : List (Option ℕ)) (i : ℕ) (x : Option ℕ) → length (cond b (set best i x) best) ≡ length best
length_kept true best i x = length-set best i x
length_kept false best i x = refl

pub length_swept : (first : ℕ) (added : List ℕ) (ways : List Way) (best : List (Option ℕ)) → length (swept first added ways best) ≡ length best
unfolding relaxed
length_swept first added [] best = refl
length_swept first added (way ∷ ways) best =
    length_kept way.open (swept first added ways best) (way.source - first) (onward first added way (swept first added ways best))
    ∙ length_swept first added ways best

other_kept : (b : Bool) (best : List (Option ℕ)) (i j : ℕ) (x : Option ℕ) → j ≢ i → get_or (cond b (set best i x) best) j None ≡ get_or best j None
other_kept true best i j x ne = get_or-set_other best i j x None ne
other_kept false best i j x ne = refl

-- an edge changes what is known at its source alone
pub unmoved : (first : ℕ) (added : List ℕ) (way : Way) (best : List (Option ℕ)) (node : ℕ) → node - first ≢ way.source - first → best_at first (relaxed first added way best) node ≡ best_at first best node
unfolding relaxed
unmoved first added way best node ne = other_kept way.open best (way.source - first) (node - first) (onward first added way best) ne

pub closed_at : (first : ℕ) (added : List ℕ) (way : Way) (best : List (Option ℕ)) (node : ℕ) → way.open ≡ false → best_at first (relaxed first added way best) node ≡ best_at first best node
unfolding relaxed
closed_at first added way best node e = ap (λ (b : Bool). get_or (cond b (set best (way.source - first) (onward first added way best)) best) (node - first) None) e

pub moved : (first : ℕ) (added : List ℕ) (way : Way) (best : List (Option ℕ)) → way.open ≡ true → way.source - first < length best → best_at first (relaxed first added way best) way.source ≡ onward first added way best
unfolding relaxed
moved first added way best e inside =
    ap (λ (b : Bool). get_or (cond b (set best (way.source - first) (onward first added way best)) best) (way.source - first) None) e
    ∙ get_or-set_at best (way.source - first) (way.source - first) (onward first added way best) None refl inside

-- ---- the greater of two

-- where it is not the second it is the first
pub greater_first : (a b : Option ℕ) (known : ℕ) → greater a b ≡ Some known → (b ≡ Some known → ⊥) → a ≡ Some known
greater_first None b known e ne = absurd (ne e)
greater_first (Some x) None known e ne = e
greater_first (Some x) (Some y) known e ne =
    let h : max x y ≡ known = some_is (max x y) known e in
    let k : y ≢ known = λ (i : y ≡ known). ne (ap Some i) in
    ap Some (omega (arith, h, k))

-- and no less than the second
pub greater_second : (a b : Option ℕ) (y known : ℕ) → greater a b ≡ Some known → b ≡ Some y → y ≤ known
greater_second None b y known e is = omega (arith, some_is y known (sym is ∙ e))
greater_second (Some x) b y known e is =
    let h : max x y ≡ known = some_is (max x y) known (ap (greater (Some x)) (sym is) ∙ e) in omega (arith, h)

-- what an edge gives, where something is known at its target
pub along_gives : (weight added : ℕ) (rest : Option ℕ) (known : ℕ) → along weight added rest ≡ Some known → ((k : ℕ) × (rest ≡ Some k) × (cut (weight + added + k) ≡ known))
along_gives weight added None known e = none_is_not known e
along_gives weight added (Some k) known e = (k, refl, some_is (cut (weight + added + k)) known e)
