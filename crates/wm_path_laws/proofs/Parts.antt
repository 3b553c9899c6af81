-- The edges from a node on, and those of the body of a loop.
use Rattle.std.proofs.Common.{◌≡◌, ◌≢◌, ℕ, zero, suc, ◌+◌, ◌-◌, ◌<◌, ◌≤◌, ◌⊎◌, inl, inr, ⊎_elim, List, [], ◌∷◌, length, get_or, take, drop, replicate, Some, refl, ap, sym, ◌∙◌, subst, arith}
use Rattle.std.specs.Prelude.{slice_get}
use Rattle.std.proofs.Math.ListN.{set, length-set}
use Rattle.std.proofs.lemmas.Bool.{cases_eq, cases_lt}
use Rattle.std.proofs.lemmas.Grind.{get_or-set_at}
use Rattle.std.proofs.lemmas.List.{get_or-set_other, get_or-replicate, length-replicate, take_all, drop_all}
use Rattle.std.proofs.lemmas.Option.{none-some}
use Rattle.wm_ways.specs.declared.ways.Way.{Way}
use Rattle.wm_ways.specs.Loops.{firsts_from}
use Rattle.wm_ways.specs.Sweeps.{stretch}
use Rattle.wm_ways.specs.Whole.{firsts_of}
use Rattle.wm_path_laws.specs.Paths.{Goes, AreOrdered}
use Rattle.wm_path_laws.proofs.Steps.{Each, each_at, each_more, take_ordered, from_ordered, lower_ordered, before_ordered, in_table, goes_past, goes_before, goes_within, goes_beyond}

-- ---- places in parts of a list

pub get_dropped : {X : Type 0} (xs : List X) (m n k : ℕ) (x : X) → slice_get xs m ≡ Some x → m ≡ n + k → slice_get (drop n xs) k ≡ Some x
get_dropped xs m zero k x e is =
    let same : m ≡ k = omega (arith, is) in ap (slice_get xs) (sym same) ∙ e
get_dropped [] m (suc n) k x e is = absurd (none-some x e)
get_dropped (y ∷ xs) zero (suc n) k x e is = absurd (omega (arith, is))
get_dropped (y ∷ xs) (suc m) (suc n) k x e is = get_dropped xs m n k x e (omega (arith, is))

pub get_taken : {X : Type 0} (xs : List X) (k n : ℕ) (x : X) → slice_get xs k ≡ Some x → k < n → slice_get (take n xs) k ≡ Some x
get_taken xs k zero x e h = absurd (omega (arith, h))
get_taken [] k (suc n) x e h = absurd (none-some x e)
get_taken (y ∷ xs) zero (suc n) x e h = e
get_taken (y ∷ xs) (suc k) (suc n) x e h = get_taken xs k n x e (omega (arith, h))

-- ---- the first edge from a node

length_firsts : (number : ℕ) (ways : List Way) (firsts : List ℕ) → length (firsts_from number ways firsts) ≡ length firsts
length_firsts number [] firsts = refl
length_firsts number (w ∷ ws) firsts = length-set (firsts_from (suc number) ws firsts) w.source number ∙ length_firsts (suc number) ws firsts

abbrev IsNone : (ways : List Way) → (firsts : List ℕ) → (node found : ℕ) → Type 0
IsNone ways firsts node found = (found ≡ get_or firsts node 0) × Each (λ w. w.source ≢ node) ways

abbrev IsFound : (number : ℕ) → (ways : List Way) → (node found : ℕ) → Type 0
IsFound number ways node found =
    (k : ℕ) × (way : Way) × (found ≡ number + k) × (slice_get ways k ≡ Some way) × (way.source ≡ node) × Each (λ w. w.source ≢ node) (take k ways)

find_more : (number : ℕ) (w : Way) (ws : List Way) (firsts : List ℕ) (node : ℕ) (table : List ℕ) → node < length table → (node ≡ w.source) ⊎ (node ≡ w.source → ⊥) → IsNone ws firsts node (get_or table node 0) ⊎ IsFound (suc number) ws node (get_or table node 0) → IsNone (w ∷ ws) firsts node (get_or (set table w.source number) node 0) ⊎ IsFound number (w ∷ ws) node (get_or (set table w.source number) node 0)
find_more number w ws firsts node table h (inl e) rest =
    let at : get_or (set table w.source number) node 0 ≡ number = get_or-set_at table w.source node number 0 e (omega (arith, h, e)) in
    let same : number ≡ number + 0 = omega arith in
    inr (0, w, at ∙ same, refl, sym e, tt)
find_more number w ws firsts node table h (inr ne) (inl none) = inl (get_or-set_other table w.source node number 0 ne ∙ none.0, (λ e. ne (sym e), none.1))
find_more number w ws firsts node table h (inr ne) (inr found) =
    let same : suc number + found.0 ≡ number + suc found.0 = omega arith in
    inr (suc found.0, found.1, get_or-set_other table w.source node number 0 ne ∙ found.2 ∙ same, found.3, found.4, (λ e. ne (sym e), found.5))

find : (number : ℕ) (ways : List Way) (firsts : List ℕ) (node : ℕ) → node < length firsts → IsNone ways firsts node (get_or (firsts_from number ways firsts) node 0) ⊎ IsFound number ways node (get_or (firsts_from number ways firsts) node 0)
find number [] firsts node h = inl (refl, tt)
find number (w ∷ ws) firsts node h =
    find_more number w ws firsts node (firsts_from (suc number) ws firsts) (omega (arith, h, length_firsts (suc number) ws firsts)) (cases_eq node w.source) (find (suc number) ws firsts node h)

-- what is known of the edges from a node on, the first of which has this number
pub record Parts (count : ℕ) (ways : List Way) (node first : ℕ) : Type 0 where
  pub before : Each (λ w. w.source ≢ node) (take first ways)
  pub behind : AreOrdered 0 count node (drop first ways)
  -- edges that stand before the first have sources that are not above the node, where there is one
  pub low : (k : ℕ) (way : Way) → slice_get ways k ≡ Some way → k < first → (drop first ways ≡ []) ⊎ (way.source ≤ node)

parts_by : (count : ℕ) (ways : List Way) (node first : ℕ) → AreOrdered 0 count 0 ways → (first ≡ length ways) × Each (λ w. w.source ≢ node) ways ⊎ IsFound 0 ways node first → Parts count ways node first
parts_by count ways node first o (inl none) =
    let nothing : drop first ways ≡ [] = drop_all first ways (omega (arith, none.0)) in
    record {
      before = subst (Each (λ w. w.source ≢ node)) (sym (take_all first ways (omega (arith, none.0)))) none.1;
      behind = subst (AreOrdered 0 count node) (sym nothing) tt;
      low = λ k way e h. inl nothing;
    }
parts_by count ways node first o (inr found) =
    let same : found.0 ≡ first = omega (arith, found.2) in
    record {
      before = subst (λ (n : ℕ). Each (λ w. w.source ≢ node) (take n ways)) same found.5;
      behind = subst (λ (n : ℕ). AreOrdered 0 count n (drop first ways)) found.4 (subst (λ (n : ℕ). AreOrdered 0 count found.1.source (drop n ways)) same (from_ordered 0 count 0 found.0 ways found.1 o found.3));
      low = λ k way e h.
          let under : way.source ≤ found.1.source =
          each_at (λ w. w.source ≤ found.1.source) (take found.0 ways) (before_ordered 0 count 0 found.0 ways found.1 o found.3) k way (get_taken ways k found.0 way e (omega (arith, h, same))) in
          inr (omega (arith, under, found.4));
    }

pub parts_of : (count : ℕ) (ways : List Way) (node : ℕ) → AreOrdered 0 count 0 ways → node < count → Parts count ways node (get_or (firsts_of ways count) node 0)
unfolding firsts_of
parts_of count ways node o h =
    parts_by count ways node (get_or (firsts_from 0 ways (replicate count (length ways))) node 0) o
    (⊎_elim (λ (none : IsNone ways (replicate count (length ways)) node (get_or (firsts_from 0 ways (replicate count (length ways))) node 0)). inl (none.0 ∙ get_or-replicate count node (length ways) 0 h, none.1))
    (λ (found : IsFound 0 ways node (get_or (firsts_from 0 ways (replicate count (length ways))) node 0)). inr found)
    (find 0 ways (replicate count (length ways)) node (omega (arith, h, length-replicate count (length ways)))))

-- ---- the body of a loop

module _ (count : ℕ) (ways : List Way) (node first back : ℕ) (o : AreOrdered 0 count 0 ways) (parts : Parts count ways node first) where
  pub stretch_ordered : AreOrdered 0 count node (stretch ways first back)
  unfolding stretch
  stretch_ordered = take_ordered 0 count node (back - first) (drop first ways) parts.behind

  module _ (last : ℕ) (way : Way) (at : slice_get ways back ≡ Some way) (is_last : way.source ≡ last) (above : node ≤ last) where
    all_low : (back < first) ⊎ (first ≤ back) → Each (λ w. w.source ≤ last) (take (back - first) (drop first ways))
    all_low (inl h) =
        let none : 0 ≡ back - first = omega (arith, h) in subst (λ (n : ℕ). Each (λ w. w.source ≤ last) (take n (drop first ways))) none tt
    all_low (inr h) =
        each_more (λ w. w.source ≤ way.source) (λ w. w.source ≤ last) (take (back - first) (drop first ways)) (λ w k. omega (arith, k, is_last))
        (before_ordered 0 count node (back - first) (drop first ways) way parts.behind (get_dropped ways back first (back - first) way at (omega (arith, h))))

    pub body_ordered : AreOrdered node (last - node + 1) node (stretch ways first back)
    unfolding stretch
    body_ordered =
        in_table 0 count node node (last - node + 1) (take (back - first) (drop first ways)) (take_ordered 0 count node (back - first) (drop first ways) parts.behind)
        (each_more (λ w. w.source ≤ last) (λ w. w.source - node < last - node + 1) (take (back - first) (drop first ways)) (λ w k. omega (arith, k))
        (all_low (cases_lt back first)))

    beyond : (back < first) ⊎ (first ≤ back) → AreOrdered 0 count last (drop (back - first) (drop first ways))
    beyond (inr h) =
        subst (λ (n : ℕ). AreOrdered 0 count n (drop (back - first) (drop first ways))) is_last
        (from_ordered 0 count node (back - first) (drop first ways) way parts.behind (get_dropped ways back first (back - first) way at (omega (arith, h))))
    beyond (inl h) =
        let none : 0 ≡ back - first = omega (arith, h) in
        subst (λ (n : ℕ). AreOrdered 0 count last (drop n (drop first ways))) none
        (⊎_elim (λ (e : drop first ways ≡ []). subst (AreOrdered 0 count last) (sym e) tt)
        (λ (k : way.source ≤ node). lower_ordered 0 count last node (drop first ways) (omega (arith, k, is_last)) parts.behind)
        (parts.low back way at h))

    pub narrow : (added : List ℕ) (numbers : List ℕ) (weight : ℕ) → Goes added 0 ways node numbers last weight → Goes added first (stretch ways first back) node numbers last weight
    unfolding stretch
    narrow added numbers weight g =
        let same : 0 + first ≡ first = omega arith in
        goes_within 0 count node added first (back - first) (drop first ways) node numbers last weight parts.behind (beyond (cases_lt back first))
        (subst (λ (n : ℕ). Goes added n (drop first ways) node numbers last weight) same (goes_past added 0 first ways node numbers last weight parts.before g))

    pub widen : (added : List ℕ) (numbers : List ℕ) (to weight : ℕ) → Goes added first (stretch ways first back) node numbers to weight → Goes added 0 ways node numbers to weight
    unfolding stretch
    widen added numbers to weight g =
        let same : first ≡ 0 + first = omega arith in
        goes_before added 0 first ways node numbers to weight
        (subst (λ (n : ℕ). Goes added n (drop first ways) node numbers to weight) same (goes_beyond added first (back - first) (drop first ways) node numbers to weight g))
