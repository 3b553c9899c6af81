-- Paths over a list of edges by their places in it.
use Rattle.std.proofs.Common.{◌≡◌, ◌≢◌, ℕ, zero, suc, ◌+◌, ◌-◌, ◌<◌, ◌≤◌, inl, inr, true, List, [], ◌∷◌, get_or, take, drop, Some, refl, ap, sym, ◌∙◌, subst, arith}
use Rattle.std.specs.Prelude.{slice_get}
use Rattle.std.proofs.lemmas.Option.{none-some, same_Some}
use Rattle.wm_ways.specs.declared.ways.Way.{Way}
use Rattle.wm_path_laws.specs.Paths.{Goes, AreOrdered}

-- the first edge of the list has the number `number`
abbrev pub Walks : (added : List ℕ) → (number : ℕ) → List Way → (from : ℕ) → (numbers : List ℕ) → (to weight : ℕ) → Type 0
Walks added number ways from [] to weight = (from ≡ to) × (weight ≡ 0)
Walks added number ways from (n ∷ numbers) to weight =
    (k : ℕ) × (way : Way) × (rest : ℕ) × (n ≡ number + k) × (slice_get ways k ≡ Some way) × (way.open ≡ true) × (from ≡ way.source)
    × Walks added number ways way.target numbers to rest × (weight ≡ way.weight + get_or added way.target 0 + rest)

-- ---- ordered edges

pub least_at : (first count least : ℕ) (ways : List Way) → AreOrdered first count least ways → (k : ℕ) (way : Way) → slice_get ways k ≡ Some way → least ≤ way.source
least_at first count least [] o k way e = absurd (none-some way e)
least_at first count least (w ∷ ws) o zero way e = omega (arith, o.0, ap (λ (x : Way). x.source) (same_Some w way e))
least_at first count least (w ∷ ws) o (suc k) way e = omega (arith, o.0, least_at first count w.source ws o.3 k way e)

pub rises_at : (first count least : ℕ) (ways : List Way) → AreOrdered first count least ways → (k : ℕ) (way : Way) → slice_get ways k ≡ Some way → way.open ≡ true → way.source < way.target
rises_at first count least [] o k way e is_open = absurd (none-some way e)
rises_at first count least (w ∷ ws) o zero way e is_open =
    let same : w ≡ way = same_Some w way e in
    subst (λ (x : Way). x.source < x.target) same (o.2 (ap (λ (x : Way). x.open) same ∙ is_open))
rises_at first count least (w ∷ ws) o (suc k) way e is_open = rises_at first count w.source ws o.3 k way e is_open

-- ---- walks

walks_past : (first count least : ℕ) (added : List ℕ) (number : ℕ) (w : Way) (ws : List Way) (from : ℕ) (numbers : List ℕ) (to weight : ℕ) → AreOrdered first count least (w ∷ ws) → w.source < from → Walks added number (w ∷ ws) from numbers to weight → Walks added (suc number) ws from numbers to weight
walks_past first count least added number w ws from [] to weight o h g = g
walks_past first count least added number w ws from (n ∷ numbers) to weight o h g =
    by_place g.0 g.3 g.4
    (walks_past first count least added number w ws g.1.target numbers to g.2 o
    (omega (arith, h, g.6, rises_at first count least (w ∷ ws) o g.0 g.1 g.4 g.5)) g.7)
  where
    by_place : (k : ℕ) → n ≡ number + k → slice_get (w ∷ ws) k ≡ Some g.1 → Walks added (suc number) ws g.1.target numbers to g.2 → Walks added (suc number) ws from (n ∷ numbers) to weight
    by_place zero e at behind = absurd (omega (arith, h, g.6, ap (λ (x : Way). x.source) (same_Some w g.1 at)))
    by_place (suc j) e at behind = (j, g.1, g.2, omega (arith, e), at, g.5, g.6, behind, g.8)

pub goes_of : (first count least : ℕ) (added : List ℕ) (number : ℕ) (ways : List Way) (from : ℕ) (numbers : List ℕ) (to weight : ℕ) → AreOrdered first count least ways → Walks added number ways from numbers to weight → Goes added number ways from numbers to weight
goes_of first count least added number [] from [] to weight o g = (g.0, refl, g.1)
goes_of first count least added number [] from (n ∷ numbers) to weight o g = absurd (none-some g.1 g.4)
goes_of first count least added number (w ∷ ws) from [] to weight o g =
    inl (goes_of first count w.source added (suc number) ws from [] to weight o.3 g)
goes_of first count least added number (w ∷ ws) from (n ∷ numbers) to weight o g =
    by_place g.0 g.3 g.4 (λ from' numbers' weight' g'. goes_of first count w.source added (suc number) ws from' numbers' to weight' o.3 g')
  where
    by_place : (k : ℕ) → n ≡ number + k → slice_get (w ∷ ws) k ≡ Some g.1 → ((from : ℕ) (numbers : List ℕ) (weight : ℕ) → Walks added (suc number) ws from numbers to weight → Goes added (suc number) ws from numbers to weight) → Goes added number (w ∷ ws) from (n ∷ numbers) to weight
    by_place zero e at behind =
        let same : g.1 ≡ w = sym (same_Some w g.1 at) in
        let is_open : w.open ≡ true = subst (λ (x : Way). x.open ≡ true) same g.5 in
        let is_here : from ≡ w.source = subst (λ (x : Way). from ≡ x.source) same g.6 in
        let weighs : weight ≡ w.weight + get_or added w.target 0 + g.2 = subst (λ (x : Way). weight ≡ x.weight + get_or added x.target 0 + g.2) same g.8 in
        let rest : Walks added number (w ∷ ws) w.target numbers to g.2 = subst (λ (x : Way). Walks added number (w ∷ ws) x.target numbers to g.2) same g.7 in
        let first_is : n ≡ number = omega (arith, e) in
        inr (is_open, is_here, (numbers, g.2, behind w.target numbers g.2 (walks_past first count least added number w ws w.target numbers to g.2 o (o.2 is_open) rest), ap (λ (m : ℕ). m ∷ numbers) first_is, weighs))
    by_place (suc j) e at behind =
        let least_here : w.source ≤ g.1.source = least_at first count w.source ws o.3 j g.1 at in
        let up : g.1.source < g.1.target = rises_at first count w.source ws o.3 j g.1 at g.5 in
        inl (behind from (n ∷ numbers) weight
        (j, g.1, g.2, omega (arith, e), at, g.5, g.6, walks_past first count least added number w ws g.1.target numbers to g.2 o (omega (arith, least_here, up)) g.7, g.8))

later : (added : List ℕ) (number : ℕ) (w : Way) (ws : List Way) (from : ℕ) (numbers : List ℕ) (to weight : ℕ) → Walks added (suc number) ws from numbers to weight → Walks added number (w ∷ ws) from numbers to weight
later added number w ws from [] to weight g = g
later added number w ws from (n ∷ numbers) to weight g =
    (suc g.0, g.1, g.2, omega (arith, g.3), g.4, g.5, g.6, later added number w ws g.1.target numbers to g.2 g.7, g.8)

pub walks_of : (added : List ℕ) (number : ℕ) (ways : List Way) (from : ℕ) (numbers : List ℕ) (to weight : ℕ) → Goes added number ways from numbers to weight → Walks added number ways from numbers to weight
walks_of added number [] from numbers to weight g = subst (λ (ns : List ℕ). Walks added number [] from ns to weight) (sym g.1) (g.0, g.2)
walks_of added number (w ∷ ws) from numbers to weight (inl g) = later added number w ws from numbers to weight (walks_of added (suc number) ws from numbers to weight g)
walks_of added number (w ∷ ws) from numbers to weight (inr g) =
    subst (λ (ns : List ℕ). Walks added number (w ∷ ws) from ns to weight) (sym g.2.3)
    (0, w, g.2.1, omega arith, refl, g.0, g.1, later added number w ws w.target g.2.0 to g.2.1 (walks_of added (suc number) ws w.target g.2.0 to g.2.1 g.2.2), g.2.4)

-- ---- parts of a list of edges

abbrev pub Each : (Way → Type 0) → List Way → Type 0
Each P [] = Unit {0}
Each P (way ∷ ways) = P way × Each P ways

pub each_at : (P : Way → Type 0) (ways : List Way) → Each P ways → (k : ℕ) (way : Way) → slice_get ways k ≡ Some way → P way
each_at P [] each k way e = absurd (none-some way e)
each_at P (w ∷ ws) each zero way e = subst P (same_Some w way e) each.0
each_at P (w ∷ ws) each (suc k) way e = each_at P ws each.1 k way e

pub each_more : (P Q : Way → Type 0) (ways : List Way) → ((way : Way) → P way → Q way) → Each P ways → Each Q ways
each_more P Q [] more each = tt
each_more P Q (w ∷ ws) more each = (more w each.0, each_more P Q ws more each.1)

pub take_ordered : (first count least k : ℕ) (ways : List Way) → AreOrdered first count least ways → AreOrdered first count least (take k ways)
take_ordered first count least zero ways o = tt
take_ordered first count least (suc k) [] o = tt
take_ordered first count least (suc k) (w ∷ ws) o = (o.0, o.1, o.2, take_ordered first count w.source k ws o.3)

pub lower_ordered : (first count least more : ℕ) (ways : List Way) → least ≤ more → AreOrdered first count more ways → AreOrdered first count least ways
lower_ordered first count least more [] h o = tt
lower_ordered first count least more (w ∷ ws) h o = (omega (arith, h, o.0), o.1, o.2, o.3)

-- from an edge on
pub from_ordered : (first count least k : ℕ) (ways : List Way) (way : Way) → AreOrdered first count least ways → slice_get ways k ≡ Some way → AreOrdered first count way.source (drop k ways)
from_ordered first count least k [] way o e = absurd (none-some way e)
from_ordered first count least zero (w ∷ ws) way o e =
    let same : w.source ≡ way.source = ap (λ (x : Way). x.source) (same_Some w way e) in (omega (arith, same), o.1, o.2, o.3)
from_ordered first count least (suc k) (w ∷ ws) way o e = from_ordered first count w.source k ws way o.3 e

-- those before an edge
pub before_ordered : (first count least k : ℕ) (ways : List Way) (way : Way) → AreOrdered first count least ways → slice_get ways k ≡ Some way → Each (λ w. w.source ≤ way.source) (take k ways)
before_ordered first count least zero ways way o e = tt
before_ordered first count least (suc k) [] way o e = tt
before_ordered first count least (suc k) (w ∷ ws) way o e =
    (least_at first count w.source ws o.3 k way e, before_ordered first count w.source k ws way o.3 e)

-- in a table of another first node
pub in_table : (first count least first' count' : ℕ) (ways : List Way) → AreOrdered first count least ways → Each (λ w. w.source - first' < count') ways → AreOrdered first' count' least ways
in_table first count least first' count' [] o each = tt
in_table first count least first' count' (w ∷ ws) o each = (o.0, each.0, o.2, in_table first count w.source first' count' ws o.3 each.1)

pub each_inside : (first count least : ℕ) (ways : List Way) → AreOrdered first count least ways → Each (λ w. w.source - first < count) ways
each_inside first count least [] o = tt
each_inside first count least (w ∷ ws) o = (o.1, each_inside first count w.source ws o.3)

-- ---- paths over parts

-- a path from a node leaves out the edges before the first from it
pub goes_past : (added : List ℕ) (number k : ℕ) (ways : List Way) (from : ℕ) (numbers : List ℕ) (to weight : ℕ) → Each (λ w. w.source ≢ from) (take k ways) → Goes added number ways from numbers to weight → Goes added (number + k) (drop k ways) from numbers to weight
goes_past added number zero ways from numbers to weight each g =
    let e : number ≡ number + 0 = omega arith in subst (λ (n : ℕ). Goes added n ways from numbers to weight) e g
goes_past added number (suc k) [] from numbers to weight each g = g
goes_past added number (suc k) (w ∷ ws) from numbers to weight each (inl g) =
    let e : suc number + k ≡ number + suc k = omega arith in
    subst (λ (n : ℕ). Goes added n (drop k ws) from numbers to weight) e (goes_past added (suc number) k ws from numbers to weight each.1 g)
goes_past added number (suc k) (w ∷ ws) from numbers to weight each (inr g) = absurd (each.0 (sym g.1))

pub goes_before : (added : List ℕ) (number k : ℕ) (ways : List Way) (from : ℕ) (numbers : List ℕ) (to weight : ℕ) → Goes added (number + k) (drop k ways) from numbers to weight → Goes added number ways from numbers to weight
goes_before added number zero ways from numbers to weight g =
    let e : number + 0 ≡ number = omega arith in subst (λ (n : ℕ). Goes added n ways from numbers to weight) e g
goes_before added number (suc k) [] from numbers to weight g = g
goes_before added number (suc k) (w ∷ ws) from numbers to weight g =
    let e : number + suc k ≡ suc number + k = omega arith in
    inl (goes_before added (suc number) k ws from numbers to weight (subst (λ (n : ℕ). Goes added n (drop k ws) from numbers to weight) e g))

-- a path leads upwards
pub goes_up : (first count least : ℕ) (added : List ℕ) (number : ℕ) (ways : List Way) (from : ℕ) (numbers : List ℕ) (to weight : ℕ) → AreOrdered first count least ways → Goes added number ways from numbers to weight → from ≤ to
goes_up first count least added number [] from numbers to weight o g = omega (arith, g.0)
goes_up first count least added number (w ∷ ws) from numbers to weight o (inl g) = goes_up first count w.source added (suc number) ws from numbers to weight o.3 g
goes_up first count least added number (w ∷ ws) from numbers to weight o (inr g) =
    let behind : w.target ≤ to = goes_up first count w.source added (suc number) ws w.target g.2.0 to g.2.1 o.3 g.2.2 in
    let up : w.source < w.target = o.2 g.0 in
    omega (arith, behind, up, g.1)

-- a path to a node takes no edge from it or from a higher one
ends_there : (first count least : ℕ) (added : List ℕ) (number : ℕ) (ways : List Way) (from : ℕ) (numbers : List ℕ) (to weight : ℕ) → AreOrdered first count least ways → to ≤ least → Goes added number ways from numbers to weight → (from ≡ to) × (numbers ≡ []) × (weight ≡ 0)
ends_there first count least added number [] from numbers to weight o h g = g
ends_there first count least added number (w ∷ ws) from numbers to weight o h (inl g) =
    ends_there first count w.source added (suc number) ws from numbers to weight o.3 (omega (arith, h, o.0)) g
ends_there first count least added number (w ∷ ws) from numbers to weight o h (inr g) =
    let behind : w.target ≤ to = goes_up first count w.source added (suc number) ws w.target g.2.0 to g.2.1 o.3 g.2.2 in
    let up : w.source < w.target = o.2 g.0 in
    absurd (omega (arith, h, o.0, behind, up))

pub goes_within : (first count least : ℕ) (added : List ℕ) (number k : ℕ) (ways : List Way) (from : ℕ) (numbers : List ℕ) (to weight : ℕ) → AreOrdered first count least ways → AreOrdered first count to (drop k ways) → Goes added number ways from numbers to weight → Goes added number (take k ways) from numbers to weight
goes_within first count least added number zero ways from numbers to weight o beyond g = ends_there first count to added number ways from numbers to weight beyond (omega arith) g
goes_within first count least added number (suc k) [] from numbers to weight o beyond g = g
goes_within first count least added number (suc k) (w ∷ ws) from numbers to weight o beyond (inl g) =
    inl (goes_within first count w.source added (suc number) k ws from numbers to weight o.3 beyond g)
goes_within first count least added number (suc k) (w ∷ ws) from numbers to weight o beyond (inr g) =
    inr (g.0, g.1, (g.2.0, g.2.1, goes_within first count w.source added (suc number) k ws w.target g.2.0 to g.2.1 o.3 beyond g.2.2, g.2.3, g.2.4))

stands : (added : List ℕ) (number : ℕ) (ways : List Way) (at : ℕ) → Goes added number ways at [] at 0
stands added number [] at = (refl, refl, refl)
stands added number (way ∷ ways) at = inl (stands added (suc number) ways at)

pub goes_beyond : (added : List ℕ) (number k : ℕ) (ways : List Way) (from : ℕ) (numbers : List ℕ) (to weight : ℕ) → Goes added number (take k ways) from numbers to weight → Goes added number ways from numbers to weight
goes_beyond added number zero ways from numbers to weight g =
    subst (λ (n : ℕ). Goes added number ways from numbers n weight) g.0
    (subst (λ (ns : List ℕ). Goes added number ways from ns from weight) (sym g.1)
    (subst (λ (n : ℕ). Goes added number ways from [] from n) (sym g.2) (stands added number ways from)))
goes_beyond added number (suc k) [] from numbers to weight g = g
goes_beyond added number (suc k) (w ∷ ws) from numbers to weight (inl g) = inl (goes_beyond added (suc number) k ws from numbers to weight g)
goes_beyond added number (suc k) (w ∷ ws) from numbers to weight (inr g) =
    inr (g.0, g.1, (g.2.0, g.2.1, goes_beyond added (suc number) k ws w.target g.2.0 to g.2.1 g.2.2, g.2.3, g.2.4))
