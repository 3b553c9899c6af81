-- The edges to a node lead to it, and are all that do.
use Rattle.std.proofs.Common.{◌≡◌, ℕ, ◌<◌, ◌+◌, suc, zero, List, [], ◌∷◌, ◌++◌, length, Bool, true, false, cond, Option, Some, None, refl, subst, sym, ap, ◌∙◌, arith, append_assoc, length-append}
use Rattle.std.proofs.lemmas.List.Elements.{All-nil, All-cons, All-head, All-tail, All-push, All-weaker}
use Rattle.std.proofs.lemmas.Bool.{eqb-true}
use Rattle.std.proofs.lemmas.Bool.Decides.{nat_tests}
use Rattle.std.specs.Prelude.{All, ◌==◌, slice_get, IfSome}
use Rattle.wm_flow.specs.declared.graph.Edge.{Edge}
use Rattle.wm_flow.specs.declared.graph.Graph.{Graph}
use Rattle.wm_incoming.specs.Into.{with_edge, numbers_from, numbers_into}
use Rattle.wm_labels.specs.Labels.{Leads}
use Rattle.wm_walk.specs.Graphs.{AreDrawn}

eq_true : (a b : ℕ) → a ≡ b → (a == b) ≡ true
eq_true a b e = grind (arith, nat_tests)

-- an edge with this number leads to the node
pub record IsInto (all : List Edge) (node number : ℕ) : Type 0 where
  pub edge : Edge
  pub is : slice_get all number ≡ Some edge
  pub target : edge.target ≡ node

seam : (front : List Edge) (e : Edge) (rest : List Edge) → slice_get (front ++ e ∷ rest) (length front) ≡ Some e
seam [] e rest = refl
seam (x ∷ front) e rest = seam front e rest

module _ (node : ℕ) where
  row_more : (all : List Edge) (number : ℕ) (e : Edge) (row : List ℕ) → slice_get all number ≡ Some e → (t : Bool) → (e.target == node) ≡ t → All (IsInto all node) row → All (IsInto all node) (cond t (row ++ number ∷ []) row)
  row_more all number e row is true k h = All-push (IsInto all node) row number h (record { edge = e; is = is; target = eqb-true e.target node k })
  row_more all number e row is false k h = h

  lead_from : (front rest : List Edge) (row : List ℕ) → All (IsInto (front ++ rest) node) row → All (IsInto (front ++ rest) node) (numbers_from node (length front) rest row)
  lead_from front [] row h = h
  lead_from front (e ∷ rest) row h =
      let more = row_more (front ++ e ∷ rest) (length front) e row (seam front e rest) (e.target == node) refl h in
      let one : length (front ++ e ∷ []) ≡ suc (length front) = length-append front (e ∷ []) ∙ omega arith in
      let same : (front ++ e ∷ []) ++ rest ≡ front ++ e ∷ rest = append_assoc front (e ∷ []) rest in
      subst (λ n. All (IsInto (front ++ e ∷ rest) node) (numbers_from node n rest (with_edge e.target (length front) node row))) one
      (subst (λ (all : List Edge). All (IsInto all node) (numbers_from node (length (front ++ e ∷ [])) rest (with_edge e.target (length front) node row))) same
      (lead_from (front ++ e ∷ []) rest (with_edge e.target (length front) node row)
      (subst (λ (all : List Edge). All (IsInto all node) (with_edge e.target (length front) node row)) (sym same) more)))

  pub all_into : (edges : List Edge) → All (IsInto edges node) (numbers_into node edges)
  all_into edges = lead_from [] edges [] (All-nil (IsInto edges node))

  -- ---- all edges to the node are among them

  module _ (P : ℕ → Type 0) where
    front_of : (front back : List ℕ) → All P (front ++ back) → All P front
    front_of [] back h = All-nil P
    front_of (x ∷ front) back h = All-cons P x front (All-head P x (front ++ back) h) (front_of front back (All-tail P x (front ++ back) h))

    last_in : (row : List ℕ) (number : ℕ) → All P (row ++ number ∷ []) → P number
    last_in [] number h = All-head P number [] h
    last_in (x ∷ row) number h = last_in row number (All-tail P x (row ++ number ∷ []) h)

    kept_row : (t : Bool) (row : List ℕ) (number : ℕ) → All P (cond t (row ++ number ∷ []) row) → All P row
    kept_row true row number h = front_of row (number ∷ []) h
    kept_row false row number h = h

    row_kept : (number : ℕ) (edges : List Edge) (row : List ℕ) → All P (numbers_from node number edges row) → All P row
    row_kept number [] row h = h
    row_kept number (e ∷ rest) row h =
        kept_row (e.target == node) row number (row_kept (suc number) rest (with_edge e.target number node row) h)

    last_of : (t : Bool) → t ≡ true → (row : List ℕ) (number : ℕ) → All P (cond t (row ++ number ∷ []) row) → P number
    last_of true is row number h = last_in row number h
    last_of false is row number h = absurd (differs is)
      where
        differs : false ≡ true → ⊥
        differs e = cc

    there_from : (number : ℕ) (edges : List Edge) (row : List ℕ) (j : ℕ) (edge : Edge) → slice_get edges j ≡ Some edge → edge.target ≡ node → All P (numbers_from node number edges row) → P (number + j)
    there_from number [] row j edge is t h = absurd (none j is)
      where
        none : (j : ℕ) → slice_get {X = Edge} [] j ≡ Some edge → ⊥
        none j is = cc
    there_from number (e ∷ rest) row zero edge is t h =
        subst P nought (last_of (e.target == node) here row number (row_kept (suc number) rest (with_edge e.target number node row) h))
      where
        same : e ≡ edge
        same = cc

        here : (e.target == node) ≡ true
        here = eq_true e.target node (ap (λ (x : Edge). x.target) same ∙ t)

        nought : number ≡ number + zero
        nought = omega arith
    there_from number (e ∷ rest) row (suc j) edge is t h =
        subst P step (there_from (suc number) rest (with_edge e.target number node row) j edge is t h)
      where
        step : suc number + j ≡ number + suc j
        step = omega arith

    pub there : (edges : List Edge) (j : ℕ) (edge : Edge) → slice_get edges j ≡ Some edge → edge.target ≡ node → All P (numbers_into node edges) → P j
    there edges j edge is t h = subst P nought (there_from 0 edges [] j edge is t h)
      where
        nought : 0 + j ≡ j
        nought = omega arith

-- the edges to a node are drawn and lead to it
pub leads : (Drawn : Graph → (number : ℕ) → Type 0) (graph : Graph) (node : ℕ) (numbers : List ℕ) → AreDrawn Drawn graph → numbers ≡ numbers_into node graph.edges → All (Leads Drawn graph node) numbers
leads Drawn graph node numbers d e =
    subst (λ (ns : List ℕ). All (Leads Drawn graph node) ns) (sym e)
    (All-weaker (IsInto graph.edges node) (Leads Drawn graph node) (λ k i. record { drawn = d.each k i.edge i.is; target = subst (λ (o : Option Edge). IfSome o (λ edge. edge.target ≡ node)) (sym i.is) i.target }) (numbers_into node graph.edges) (all_into node graph.edges))
