-- Rows of known shapes, and lists of shapes and edges, that grow.
use Rattle.std.proofs.Common.{◌≡◌, ◌∙◌, ℕ, zero, suc, ◌+◌, ◌<◌, ◌≤◌, List, [], ◌∷◌, ◌++◌, length, refl, ap, sym, arith}
use Rattle.std.specs.Prelude.{map, replicate, slice_index_or, slice_set}
use Rattle.wm_domain.specs.declared.shape.Shape.{Shape}
use Rattle.wm_flow.specs.declared.graph.Edge.{Edge}
use Rattle.wm_flow.specs.declared.graph.Head.{Head}
use Rattle.wm_flow.specs.Views.{layout_of, arc_of}
use Rattle.wm_flow.specs.Graphs as graphs
use Rattle.wm_sketch.specs.declared.known.Known.{Known}
use Rattle.wm_sketch.specs.Seen.{known_of, row_of, rows_of, known_set, layouts_of, arcs_of}

row_joined : (xs ys : List Known) → row_of (xs ++ ys) ≡ row_of xs ++ row_of ys
row_joined [] ys = refl
row_joined (x ∷ xs) ys = ap (λ rest. known_of x ∷ rest) (row_joined xs ys)

pub row_inside : (rows : List (List Known)) (k : ℕ) (row : List Known) → k < length rows → row ≡ slice_index_or rows k row → slice_index_or (rows_of rows) k [] ≡ row_of row
row_inside [] k row h is = absurd (omega arith)
row_inside (r ∷ rs) zero row h is = ap row_of (sym is)
row_inside (r ∷ rs) (suc k) row h is = row_inside rs k row (omega arith) is

pub row_outside : (rows : List (List Known)) (k : ℕ) → length rows ≤ k → slice_index_or (rows_of rows) k [] ≡ []
row_outside [] k h = refl
row_outside (r ∷ rs) zero h = absurd (omega arith)
row_outside (r ∷ rs) (suc k) h = row_outside rs k (omega arith)

pub known_more : (rows : List (List Known)) (k : ℕ) (known : Known) → rows_of (known_set rows k known) ≡ slice_set (rows_of rows) k (slice_index_or (rows_of rows) k [] ++ known_of known ∷ [])
known_more [] k known = refl
known_more (r ∷ rs) zero known = ap (λ row. row ∷ rows_of rs) (row_joined r (known ∷ []))
known_more (r ∷ rs) (suc k) known = ap (λ rest. row_of r ∷ rest) (known_more rs k known)

rows_joined : (xs ys : List (List Known)) → rows_of (xs ++ ys) ≡ rows_of xs ++ rows_of ys
rows_joined [] ys = refl
rows_joined (x ∷ xs) ys = ap (λ rest. row_of x ∷ rest) (rows_joined xs ys)

replicate_more : {A : Type 0} (count : ℕ) (x : A) → replicate (suc count) x ≡ replicate count x ++ x ∷ []
replicate_more zero x = refl
replicate_more (suc count) x = ap (λ rest. x ∷ rest) (replicate_more count x)

pub rows_step : (xs ys : List (List Known)) (k : ℕ) → ys ≡ xs ++ [] ∷ [] → rows_of xs ≡ replicate k [] → rows_of ys ≡ replicate (k + 1) []
rows_step xs ys k hy h =
    let e : suc k ≡ k + 1 = omega arith in
    ap rows_of hy ∙ (rows_joined xs ([] ∷ []) ∙ (ap (λ rest. rest ++ [] ∷ []) h ∙ (sym (replicate_more k []) ∙ ap (λ n. replicate n []) e)))

pub heads_step : (xs ys : List Head) (k : ℕ) → ys ≡ xs ++ graphs.no_head ∷ [] → xs ≡ replicate k graphs.no_head → ys ≡ replicate (k + 1) graphs.no_head
heads_step xs ys k hy h =
    let e : suc k ≡ k + 1 = omega arith in
    hy ∙ (ap (λ rest. rest ++ graphs.no_head ∷ []) h ∙ (sym (replicate_more k graphs.no_head) ∙ ap (λ n. replicate n graphs.no_head) e))

pub layouts_joined : (xs : List Shape) (x : Shape) → layouts_of (xs ++ x ∷ []) ≡ layouts_of xs ++ layout_of x ∷ []
layouts_joined [] x = refl
layouts_joined (y ∷ ys) x = ap (λ rest. layout_of y ∷ rest) (layouts_joined ys x)

pub arcs_joined : (xs : List Edge) (x : Edge) → arcs_of (xs ++ x ∷ []) ≡ arcs_of xs ++ arc_of x ∷ []
arcs_joined [] x = refl
arcs_joined (y ∷ ys) x = ap (λ rest. arc_of y ∷ rest) (arcs_joined ys x)

pub length_layouts : (xs : List Shape) → length (layouts_of xs) ≡ length xs
length_layouts [] = refl
length_layouts (x ∷ xs) = ap suc (length_layouts xs)

pub length_arcs : (xs : List Edge) → length (arcs_of xs) ≡ length xs
length_arcs [] = refl
length_arcs (x ∷ xs) = ap suc (length_arcs xs)

pub layouts_mapped : (xs : List Shape) → map layout_of xs ≡ layouts_of xs
layouts_mapped [] = refl
layouts_mapped (x ∷ xs) = ap (λ rest. layout_of x ∷ rest) (layouts_mapped xs)

pub arcs_mapped : (xs : List Edge) → map arc_of xs ≡ arcs_of xs
arcs_mapped [] = refl
arcs_mapped (x ∷ xs) = ap (λ rest. arc_of x ∷ rest) (arcs_mapped xs)
