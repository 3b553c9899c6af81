-- Lists of live edges as paths over the edges of a graph.
use Rattle.std.proofs.Common.{◌≡◌, ℕ, zero, suc, ◌+◌, ◌<◌, ◌≤◌, Bool, true, false, List, [], ◌∷◌, length, get_or, Option, Some, None, refl, ap, sym, ◌∙◌, subst, arith}
use Rattle.std.specs.Prelude.{◌&&◌, nat_lt, slice_get}
use Rattle.std.proofs.lemmas.Bool.{and_from, and_parts, lt-ltb, ltb-true}
use Rattle.std.proofs.lemmas.Option.{none-some, same_Some}
use Rattle.wm_cost.specs.Edges.{word_of, word_weight, way_of, ways_from}
use Rattle.wm_flow.specs.declared.graph.Edge.{Edge}
use Rattle.wm_ways.specs.declared.ways.Way.{Way}
use Rattle.wm_path_laws.specs.Choices.{IsLaidOut, IsNoBack, IsLive, Setting, Leads, edge_weight, word_in}
use Rattle.wm_path_laws.specs.Paths.{Goes, AreOrdered}
use Rattle.wm_path_laws.proofs.Steps.{Walks, goes_of, walks_of}

-- ---- one edge

pub source_is : (weights : List (Option ℕ)) (live : Bool) (edge : Edge) → (way_of weights live edge).source ≡ edge.source
unfolding way_of
source_is weights live edge = refl

pub target_is : (weights : List (Option ℕ)) (live : Bool) (edge : Edge) → (way_of weights live edge).target ≡ edge.target
unfolding way_of
target_is weights live edge = refl

weight_is : (weights : List (Option ℕ)) (live : Bool) (edge : Edge) → (way_of weights live edge).weight ≡ word_weight weights (word_of edge.action)
unfolding way_of
weight_is weights live edge = refl

open_is : (weights : List (Option ℕ)) (live : Bool) (edge : Edge) → (way_of weights live edge).open ≡ (live && nat_lt edge.source edge.target)
unfolding way_of
open_is weights live edge = refl

opened : (weights : List (Option ℕ)) (live : Bool) (edge : Edge) → live ≡ true → edge.source < edge.target → (way_of weights live edge).open ≡ true
opened weights live edge e h = open_is weights live edge ∙ and_from live (nat_lt edge.source edge.target) e (lt-ltb edge.source edge.target h)

open_tells : (weights : List (Option ℕ)) (live : Bool) (edge : Edge) → (way_of weights live edge).open ≡ true → (live ≡ true) × (edge.source < edge.target)
open_tells weights live edge e =
    let parts = and_parts live (nat_lt edge.source edge.target) (sym (open_is weights live edge) ∙ e) in
    (parts.0, ltb-true edge.source edge.target parts.1)

-- ---- all edges

pub way_at : (weights : List (Option ℕ)) (live : List Bool) (number : ℕ) (edges : List Edge) (k : ℕ) (edge : Edge) → slice_get edges k ≡ Some edge → slice_get (ways_from weights live number edges) k ≡ Some (way_of weights (get_or live (number + k) false) edge)
way_at weights live number [] k edge e = absurd (none-some edge e)
way_at weights live number (x ∷ xs) zero edge e =
    let same : number ≡ number + zero = omega arith in
    ap (λ (y : Edge). Some (way_of weights (get_or live number false) y)) (same_Some x edge e)
    ∙ ap (λ (n : ℕ). Some (way_of weights (get_or live n false) edge)) same
way_at weights live number (x ∷ xs) (suc k) edge e =
    let same : suc number + k ≡ number + suc k = omega arith in
    way_at weights live (suc number) xs k edge e ∙ ap (λ (n : ℕ). Some (way_of weights (get_or live n false) edge)) same

pub edge_at : (weights : List (Option ℕ)) (live : List Bool) (number : ℕ) (edges : List Edge) (k : ℕ) (way : Way) → slice_get (ways_from weights live number edges) k ≡ Some way → ((edge : Edge) × (slice_get edges k ≡ Some edge) × (way_of weights (get_or live (number + k) false) edge ≡ way))
edge_at weights live number [] k way e = absurd (none-some way e)
edge_at weights live number (x ∷ xs) zero way e =
    let same : number + zero ≡ number = omega arith in
    (x, refl, ap (λ (n : ℕ). way_of weights (get_or live n false) x) same ∙ same_Some (way_of weights (get_or live number false) x) way e)
edge_at weights live number (x ∷ xs) (suc k) way e =
    let rest = edge_at weights live (suc number) xs k way e in
    let same : number + suc k ≡ suc number + k = omega arith in
    (rest.0, rest.1, ap (λ (n : ℕ). way_of weights (get_or live n false) rest.0) same ∙ rest.2)

pub count_is : (weights : List (Option ℕ)) (live : List Bool) (number : ℕ) (edges : List Edge) → length (ways_from weights live number edges) ≡ length edges
count_is weights live number [] = refl
count_is weights live number (edge ∷ rest) = ap suc (count_is weights live (suc number) rest)

ordered_from : (weights : List (Option ℕ)) (live : List Bool) (count least number : ℕ) (edges : List Edge) → ((i j : ℕ) (a b : Edge) → i < j → slice_get edges i ≡ Some a → slice_get edges j ≡ Some b → a.source ≤ b.source) → ((i : ℕ) (edge : Edge) → slice_get edges i ≡ Some edge → edge.source < count) → ((i : ℕ) (edge : Edge) → slice_get edges i ≡ Some edge → least ≤ edge.source) → AreOrdered 0 count least (ways_from weights live number edges)
ordered_from weights live count least number [] sorted inside low = tt
ordered_from weights live count least number (edge ∷ rest) sorted inside low =
    let here : (way_of weights (get_or live number false) edge).source ≡ edge.source = source_is weights (get_or live number false) edge in
    let there : (way_of weights (get_or live number false) edge).target ≡ edge.target = target_is weights (get_or live number false) edge in
    let low_here : least ≤ edge.source = low 0 edge refl in
    let inside_here : edge.source < count = inside 0 edge refl in (
      omega (arith, here, low_here),
      omega (arith, here, inside_here),
      (λ e. let up : edge.source < edge.target = (open_tells weights (get_or live number false) edge e).1 in omega (arith, here, there, up)),
      subst (λ (n : ℕ). AreOrdered 0 count n (ways_from weights live (suc number) rest)) (sym here)
          (ordered_from weights live count edge.source (suc number) rest
          (λ i j a b h p q. sorted (suc i) (suc j) a b (omega (arith, h)) p q) (λ i a p. inside (suc i) a p)
          (λ i a p. sorted 0 (suc i) edge a (omega arith) refl p)),
    )

abbrev pub ways_of : Setting → List Way
ways_of s = ways_from s.weights s.facts.live 0 s.graph.edges

pub ordered : (s : Setting) → IsLaidOut s.graph → AreOrdered 0 (length s.graph.node_shape) 0 (ways_of s)
ordered s laid = ordered_from s.weights s.facts.live (length s.graph.node_shape) 0 0 s.graph.edges laid.ordered (λ i edge e. (laid.among i edge e).0) (λ i edge e. omega arith)

-- ---- lists of edges

abbrev pub target_in : Option Edge → ℕ
target_in None = 0
target_in (Some edge) = edge.target

-- what a list of edges weighs, where at each node so much is added
abbrev pub way_weight : (added : List ℕ) → Setting → List ℕ → ℕ
way_weight added s [] = 0
way_weight added s (number ∷ numbers) =
    edge_weight s number + get_or added (target_in (slice_get s.graph.edges number)) 0 + way_weight added s numbers

walks : (added : List ℕ) (s : Setting) (from : ℕ) (numbers : List ℕ) (to : ℕ) → IsLaidOut s.graph → Leads s from numbers to → Walks added 0 (ways_of s) from numbers to (way_weight added s numbers)
walks added s from [] to laid l = (l, refl)
walks added s from (n ∷ numbers) to laid l =
    let live : Bool = get_or s.facts.live n false in
    let way : Way = way_of s.weights live l.0 in
    let same : 0 + n ≡ n = omega arith in
    let at : slice_get (ways_of s) n ≡ Some way = way_at s.weights s.facts.live 0 s.graph.edges n l.0 l.1 ∙ ap (λ (m : ℕ). Some (way_of s.weights (get_or s.facts.live m false) l.0)) same in
    let is_open : way.open ≡ true = opened s.weights live l.0 l.2 (laid.rises n l.0 l.1 l.3) in
    let here : from ≡ way.source = sym l.4 ∙ sym (source_is s.weights live l.0) in
    let there : l.0.target ≡ way.target = sym (target_is s.weights live l.0) in
    let rest : Walks added 0 (ways_of s) way.target numbers to (way_weight added s numbers) =
    subst (λ (m : ℕ). Walks added 0 (ways_of s) m numbers to (way_weight added s numbers)) there (walks added s l.0.target numbers to laid l.5) in
    let weighs : way_weight added s (n ∷ numbers) ≡ way.weight + get_or added way.target 0 + way_weight added s numbers =
    ap (λ (o : Option Edge). word_weight s.weights (word_in o) + get_or added (target_in o) 0 + way_weight added s numbers) l.1
    ∙ ap (λ (m : ℕ). word_weight s.weights (word_of l.0.action) + get_or added m 0 + way_weight added s numbers) there
    ∙ ap (λ (m : ℕ). m + get_or added way.target 0 + way_weight added s numbers) (sym (weight_is s.weights live l.0)) in
    (n, way, way_weight added s numbers, sym same, at, is_open, here, rest, weighs)

pub goes : (added : List ℕ) (s : Setting) (from : ℕ) (numbers : List ℕ) (to : ℕ) → IsLaidOut s.graph → Leads s from numbers to → Goes added 0 (ways_of s) from numbers to (way_weight added s numbers)
goes added s from numbers to laid l =
    goes_of 0 (length s.graph.node_shape) 0 added 0 (ways_of s) from numbers to (way_weight added s numbers) (ordered s laid) (walks added s from numbers to laid l)

no_back : (s : Setting) → IsLaidOut s.graph → (n : ℕ) (edge : Edge) → slice_get s.graph.edges n ≡ Some edge → edge.source < edge.target → IsNoBack s.graph n
no_back s laid n edge e up k head at is =
    let b = laid.backs k head at in
    let same : edge ≡ b.0 = same_Some edge b.0 (sym e ∙ ap (slice_get s.graph.edges) is ∙ b.1) in
    let sources : edge.source ≡ b.0.source = ap (λ (x : Edge). x.source) same in
    let targets : edge.target ≡ b.0.target = ap (λ (x : Edge). x.target) same in
    let node : b.0.target ≡ head.node = b.2 in
    let above : head.node ≤ b.0.source = b.3 in
    omega (arith, up, sources, targets, node, above)

led : (added : List ℕ) (s : Setting) (from : ℕ) (numbers : List ℕ) (to weight : ℕ) → IsLaidOut s.graph → Walks added 0 (ways_of s) from numbers to weight → Leads s from numbers to × (weight ≡ way_weight added s numbers)
led added s from [] to weight laid g = g
led added s from (n ∷ numbers) to weight laid g =
    let number : g.0 ≡ n = omega (arith, g.3) in
    let found = edge_at s.weights s.facts.live 0 s.graph.edges g.0 g.1 g.4 in
    let live : Bool = get_or s.facts.live (0 + g.0) false in
    let way : Way = way_of s.weights live found.0 in
    let same : way ≡ g.1 = found.2 in
    let tells = open_tells s.weights live found.0 (ap (λ (w : Way). w.open) same ∙ g.5) in
    let at : slice_get s.graph.edges n ≡ Some found.0 = ap (slice_get s.graph.edges) (sym number) ∙ found.1 in
    let here : found.0.source ≡ from = sym (source_is s.weights live found.0) ∙ ap (λ (w : Way). w.source) same ∙ sym g.6 in
    let there : g.1.target ≡ found.0.target = ap (λ (w : Way). w.target) (sym same) ∙ target_is s.weights live found.0 in
    let rest = led added s g.1.target numbers to g.2 laid g.7 in
    let place : 0 + g.0 ≡ n = omega (arith, number) in
    let is_live : IsLive s n = ap (λ (m : ℕ). get_or s.facts.live m false) (sym place) ∙ tells.0 in
    let weighed : g.1.weight ≡ word_weight s.weights (word_of found.0.action) = ap (λ (w : Way). w.weight) (sym same) ∙ weight_is s.weights live found.0 in
    let weighs : weight ≡ way_weight added s (n ∷ numbers) =
    g.8
    ∙ ap (λ (m : ℕ). m + get_or added g.1.target 0 + g.2) weighed
    ∙ ap (λ (m : ℕ). word_weight s.weights (word_of found.0.action) + get_or added m 0 + g.2) there
    ∙ ap (λ (m : ℕ). word_weight s.weights (word_of found.0.action) + get_or added found.0.target 0 + m) rest.1
    ∙ ap (λ (o : Option Edge). word_weight s.weights (word_in o) + get_or added (target_in o) 0 + way_weight added s numbers) (sym at) in (
      (
        found.0,
        at,
        is_live,
        no_back s laid n found.0 at tells.1,
        here,
        subst (λ (m : ℕ). Leads s m numbers to) there rest.0,
      ),
      weighs,
    )

pub led_by : (added : List ℕ) (s : Setting) (from : ℕ) (numbers : List ℕ) (to weight : ℕ) → IsLaidOut s.graph → Goes added 0 (ways_of s) from numbers to weight → Leads s from numbers to × (weight ≡ way_weight added s numbers)
led_by added s from numbers to weight laid g = led added s from numbers to weight laid (walks_of added 0 (ways_of s) from numbers to weight g)
