-- The numbers of edges fit 32 bits.
use Rattle.std.proofs.Common.{◌≡◌, ℕ, suc, ◌+◌, ◌-◌, ◌<◌, ◌≤◌, ◌^◌, Bool, List, [], ◌∷◌, length, take, drop, min, Option, refl, ap, sym, ◌∙◌, subst, arith}
use Rattle.std.proofs.lemmas.List.{length-drop, length-take}
use Rattle.wm_flow.specs.declared.graph.Edge.{Edge}
use Rattle.wm_flow.specs.declared.graph.Graph.{Graph}
use Rattle.wm_cost.specs.Edges.{ways_from}
use Rattle.wm_ways.specs.declared.ways.Way.{Way}
use Rattle.wm_ways.specs.Sweeps.{stretch}
use Rattle.wm_path.specs.Fields.{Field, field_of}

pub behind_within : (ways : List Way) (from k : ℕ) → length ways ≤ 4294967296 → k < length (drop from ways) → from + k < 4294967296
behind_within ways from k small h =
    let l : length (drop from ways) ≡ length ways - from = length-drop from ways in
    omega (arith, small, h, l)

pub inside_within : (ways : List Way) (from to k : ℕ) → length ways ≤ 4294967296 → k < length (stretch ways from to) → from + k < 4294967296
unfolding stretch
inside_within ways from to k small h =
    let l : length (take (to - from) (drop from ways)) ≡ min (to - from) (length (drop from ways)) = length-take (to - from) (drop from ways) in
    behind_within ways from k small (omega (arith, h, l))

length_ways : (weights : List (Option ℕ)) (live : List Bool) (number : ℕ) (edges : List Edge) → length (ways_from weights live number edges) ≡ length edges
length_ways weights live number [] = refl
length_ways weights live number (edge ∷ rest) = ap suc (length_ways weights live (suc number) rest)

field_ways : (graph : Graph) (weights turns : List (Option ℕ)) (live : List Bool) (nodes : ℕ) → (field_of graph weights turns live nodes).ways ≡ ways_from weights live 0 graph.edges
unfolding field_of
field_ways graph weights turns live nodes = refl

pub field_small : (field : Field) (graph : Graph) (weights turns : List (Option ℕ)) (live : List Bool) (nodes : ℕ) → field ≡ field_of graph weights turns live nodes → length graph.edges ≤ 4294967296 → length field.ways ≤ 4294967296
field_small field graph weights turns live nodes is small =
    let l : length field.ways ≡ length graph.edges = ap (λ (f : Field). length f.ways) is ∙ ap length (field_ways graph weights turns live nodes) ∙ length_ways weights live 0 graph.edges in
    omega (arith, small, l)
