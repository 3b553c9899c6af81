-- What holds of loops, when one more edge or head is drawn.
use Rattle.std.proofs.Common.{◌≡◌, ℕ, zero, suc, ◌⊎◌, inl, inr, ⊎_elim, List, [], ◌∷◌, ◌++◌, length, Option, Some, None, refl, ap, sym, ◌∙◌, arith, length-set}
use Rattle.std.specs.Prelude.{slice_set}
use Rattle.std.proofs.lemmas.List.{get_or-set_other}
use Rattle.wm_flow.specs.declared.graph.Head.{Head}
use Rattle.wm_flow.specs.Plain.{Arc}
use Rattle.wm_flow.specs.Graphs.{no_head}
use Rattle.wm_graph_laws.specs.Each.{Each}
use Rattle.wm_graph_laws.specs.Following.{Open, Entered, Inside, Turned}
use Rattle.wm_graph_laws.specs.Loops.{At, Enters, Returns, IfReturns, Loop, Stored, IsOpen, IsClosed, node_of, Lacks, Differ, AreApart, HasNumber, IsNamed, IsNode, GoesBack}
use Rattle.wm_graph_laws.proofs.Lifted.{each_map}

-- ---- edges by their numbers

pub at_before : (arcs : List Arc) (arc it : Arc) (k : ℕ) → At arcs k it → At (arcs ++ arc ∷ []) k it
at_before [] arc it k h = absurd h
at_before (a ∷ arcs) arc it zero h = h
at_before (a ∷ arcs) arc it (suc k) h = at_before arcs arc it k h

pub at_last : (arcs : List Arc) (arc : Arc) → At (arcs ++ arc ∷ []) (length arcs) arc
at_last [] arc = refl
at_last (a ∷ arcs) arc = at_last arcs arc

pub at_cases : (arcs : List Arc) (arc it : Arc) (k : ℕ) → At (arcs ++ arc ∷ []) k it → At arcs k it ⊎ ((k ≡ length arcs) × (arc ≡ it))
at_cases [] arc it zero h = inr (refl, h)
at_cases [] arc it (suc k) h = absurd h
at_cases (a ∷ arcs) arc it zero h = inl h
at_cases (a ∷ arcs) arc it (suc k) h =
    ⊎_elim (λ l. inl l) (λ r. inr (ap suc r.0, r.1)) (at_cases arcs arc it k h)

-- what holds of each edge holds of the one of a number
pub at_each : (P : Arc → Type 0) (arcs : List Arc) (k : ℕ) (it : Arc) → At arcs k it → Each P arcs → P it
at_each P [] k it h p = absurd h
at_each P (a ∷ arcs) zero it h p = rw (sym h) p.0
at_each P (a ∷ arcs) (suc k) it h p = at_each P arcs k it h p.1

-- ---- one more edge, that does not lead to the head of a loop

module _ (arcs : List Arc) (arc : Arc) where
  abbrev more : List Arc
  more = arcs ++ arc ∷ []

  pub enters_on : (node number : ℕ) → Enters arcs node number → Enters more node number
  enters_on node number h = record { arc = h.arc; at = at_before arcs arc h.arc number h.at; target = h.target; source = h.source }

  pub returns_on : (node number : ℕ) → Returns arcs node number → Returns more node number
  returns_on node number h = record { arc = h.arc; at = at_before arcs arc h.arc number h.at; target = h.target; source = h.source }

  if_returns_on : (node : ℕ) (back : Option ℕ) → IfReturns arcs node back → IfReturns more node back
  if_returns_on node None h = tt
  if_returns_on node (Some back) h = returns_on node back h

  pub loop_on : (node entry : ℕ) (back : Option ℕ) → (arc.target ≡ node → ⊥) → Loop arcs node entry back → Loop more node entry back
  loop_on node entry back apart h =
      record {
        enters = enters_on node entry h.enters;
        returns = if_returns_on node back h.returns;
        only = λ k it at same. ⊎_elim (λ l. h.only k it l same) (λ r. absurd (apart (ap (λ (a : Arc). a.target) r.1 ∙ same))) (at_cases arcs arc it k at);
      }

  pub open_on : (heads : List Head) (loop : Open) → (arc.target ≡ node_of loop → ⊥) → IsOpen arcs heads loop → IsOpen more heads loop
  open_on heads (Entered node) apart h = (h.0, loop_on node h.0 None apart h.1)
  open_on heads (Inside node number) apart h = (h.0, h.1, loop_on node h.0.entry None apart h.2)
  open_on heads (Turned node number) apart h = (h.0, h.1, h.2, loop_on node h.0.entry (Some h.1) apart h.3)

  pub closed_on : (heads : List Head) (loop : Open) → (arc.target ≡ node_of loop → ⊥) → IsClosed arcs heads loop → IsClosed more heads loop
  closed_on heads (Entered node) apart h = absurd h
  closed_on heads (Inside node number) apart h = absurd h
  closed_on heads (Turned node number) apart h = (h.0, h.1, loop_on node h.0.entry (Some h.0.back) apart h.2)

-- ---- another head

module _ (heads : List Head) (number : ℕ) (new : Head) where
  abbrev set_heads : List Head
  set_heads = slice_set heads number new

  pub stored_on : (node other : ℕ) (head : Head) → (number ≡ other → ⊥) → Stored heads node other head → Stored set_heads node other head
  stored_on node other head apart h =
      record {
        there = omega (arith, h.there, length-set heads number new);
        is = get_or-set_other heads number other new no_head (λ e. apart (sym e)) ∙ h.is;
        at = h.at;
      }

  pub open_set : (arcs : List Arc) (loop : Open) → Lacks number loop → IsOpen arcs heads loop → IsOpen arcs set_heads loop
  open_set arcs (Entered node) apart h = h
  open_set arcs (Inside node other) apart h = (h.0, stored_on node other h.0 apart h.1, h.2)
  open_set arcs (Turned node other) apart h = (h.0, h.1, stored_on node other h.0 apart h.2, h.3)

  pub closed_set : (arcs : List Arc) (loop : Open) → Lacks number loop → IsClosed arcs heads loop → IsClosed arcs set_heads loop
  closed_set arcs (Entered node) apart h = absurd h
  closed_set arcs (Inside node other) apart h = absurd h
  closed_set arcs (Turned node other) apart h = (h.0, stored_on node other h.0 apart h.1, h.2)

-- ---- lists of loops

pub each_left : (P : Open → Type 0) (xs ys : List Open) → Each P (xs ++ ys) → Each P xs
each_left P [] ys h = tt
each_left P (x ∷ xs) ys h = (h.0, each_left P xs ys h.1)

pub each_right : (P : Open → Type 0) (xs ys : List Open) → Each P (xs ++ ys) → Each P ys
each_right P [] ys h = h
each_right P (x ∷ xs) ys h = each_right P xs ys h.1

-- with one in between
pub each_between : (P : Open → Type 0) (xs ys : List Open) (x : Open) → Each P (xs ++ ys) → P x → Each P (xs ++ x ∷ ys)
each_between P [] ys x h p = (p, h)
each_between P (y ∷ xs) ys x h p = (h.0, each_between P xs ys x h.1 p)

pub differ_sym : (a b : Open) → Differ a b → Differ b a
differ_sym (Entered x) (Entered y) h = λ e. h (sym e)
differ_sym (Entered x) (Inside y n) h = λ e. h.0 (sym e)
differ_sym (Entered x) (Turned y n) h = λ e. h.0 (sym e)
differ_sym (Inside x m) (Entered y) h = (λ e. h (sym e), tt)
differ_sym (Inside x m) (Inside y n) h = (λ e. h.0 (sym e), λ e. h.1 (sym e))
differ_sym (Inside x m) (Turned y n) h = (λ e. h.0 (sym e), λ e. h.1 (sym e))
differ_sym (Turned x m) (Entered y) h = (λ e. h (sym e), tt)
differ_sym (Turned x m) (Inside y n) h = (λ e. h.0 (sym e), λ e. h.1 (sym e))
differ_sym (Turned x m) (Turned y n) h = (λ e. h.0 (sym e), λ e. h.1 (sym e))

pub apart_between : (xs ys : List Open) (x : Open) → Each (Differ x) (xs ++ ys) → AreApart (xs ++ ys) → AreApart (xs ++ x ∷ ys)
apart_between [] ys x h a = (h, a)
apart_between (y ∷ xs) ys x h a = (each_between (Differ y) xs ys x a.0 (differ_sym x y h.0), apart_between xs ys x h.1 a.1)

pub named_between : (n : ℕ) (xs ys : List Open) (x : Open) → HasNumber n x ⊎ IsNamed n (xs ++ ys) → IsNamed n (xs ++ x ∷ ys)
named_between n [] ys x h = h
named_between n (y ∷ xs) ys x (inl h) = inr (named_between n xs ys x (inl h))
named_between n (y ∷ xs) ys x (inr (inl h)) = inl h
named_between n (y ∷ xs) ys x (inr (inr h)) = inr (named_between n xs ys x (inr h))

pub node_between : (n : ℕ) (xs ys : List Open) (x : Open) → (n ≡ node_of x) ⊎ IsNode n (xs ++ ys) → IsNode n (xs ++ x ∷ ys)
node_between n [] ys x h = h
node_between n (y ∷ xs) ys x (inl h) = inr (node_between n xs ys x (inl h))
node_between n (y ∷ xs) ys x (inr (inl h)) = inl h
node_between n (y ∷ xs) ys x (inr (inr h)) = inr (node_between n xs ys x (inr h))

pub backs_on : (before after : List Open) (arcs : List Arc) → ((n : ℕ) → IsNode n before → IsNode n after) → Each (GoesBack before) arcs → Each (GoesBack after) arcs
backs_on before after arcs on h = each_map (GoesBack before) (GoesBack after) arcs (λ arc it less. on arc.target (it less)) h
