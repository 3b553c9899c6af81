-- The loops and the numbers of heads by their nodes, and that each loop to which a run comes has a bound on its turns.
use Rattle.std.proofs.Common.{◌≡◌, ◌≢◌, ℕ, zero, suc, ◌+◌, ◌<◌, ◌⊎◌, inl, inr, Bool, true, false, List, [], ◌∷◌, ◌++◌, length, get_or, min, Option, Some, None, refl, ap, sym, ◌∙◌, subst, arith}
use Rattle.std.specs.Prelude.{nat_lt, slice_get, if◌then◌else◌}
use Rattle.std.proofs.Math.ListN.{set, length-set}
use Rattle.std.proofs.lemmas.Bool.{cases_eq, and_from, lt-ltb}
use Rattle.std.proofs.lemmas.Grind.{get_or-set_at}
use Rattle.std.proofs.lemmas.List.{get_or-set_other}
use Rattle.std.proofs.lemmas.Option.{none-some, same_Some}
use Rattle.wm_cost.specs.Endless.{lesser, without_turns, endless_at, endless_from}
use Rattle.wm_cost.specs.Turnings.{source_at, loop_at, turning_of, turnings_from}
use Rattle.wm_flow.specs.declared.graph.Edge.{Edge}
use Rattle.wm_flow.specs.declared.graph.Head.{Head}
use Rattle.wm_ways.specs.declared.ways.Turning.{Turning}
use Rattle.wm_ways.specs.Loops.{marked}
use Rattle.wm_path.specs.Fields.{head_numbers}

abbrev pub turning_for : List Edge → Head → ℕ → Turning
turning_for edges head turns = record { node = head.node; last = source_at edges head.back; back = head.back; turns = turns }

-- ---- loops

marked_append : (a b : List Turning) (marks : List (Option Turning)) → marked (a ++ b) marks ≡ marked b (marked a marks)
marked_append [] b marks = refl
marked_append (t ∷ a) b marks = marked_append a b (set marks t.node (Some t))

length_marked : (a : List Turning) (marks : List (Option Turning)) → length (marked a marks) ≡ length marks
length_marked [] marks = refl
length_marked (t ∷ a) marks = length_marked a (set marks t.node (Some t)) ∙ length-set marks t.node (Some t)

abbrev pub IsMarked : List Edge → List (Option ℕ) → (number : ℕ) → List Head → (node : ℕ) → Option Turning → Type 0
IsMarked edges turns number heads node mark =
    (k : ℕ) × (head : Head) × (n : ℕ) × (slice_get heads k ≡ Some head) × (head.loop_id ≢ None) × (get_or turns (number + k) None ≡ Some n)
    × (head.node ≡ node) × (mark ≡ Some (turning_for edges head n))

abbrev pub IsPlain : List (Option ℕ) → (number : ℕ) → List Head → (node : ℕ) → Type 0
IsPlain turns number heads node =
    (k : ℕ) (head : Head) (n : ℕ) → slice_get heads k ≡ Some head → head.loop_id ≢ None → get_or turns (number + k) None ≡ Some n → head.node ≡ node → ⊥

abbrev IsHere : List Edge → (turns : Option ℕ) → Head → (node : ℕ) → (mark : Option Turning) → Type 0
IsHere edges turns head node mark =
    (n : ℕ) × (head.loop_id ≢ None) × (turns ≡ Some n) × (head.node ≡ node) × (mark ≡ Some (turning_for edges head n))

abbrev IsNotHere : (turns : Option ℕ) → Head → (node : ℕ) → (mark before : Option Turning) → Type 0
IsNotHere turns head node mark before =
    (mark ≡ before) × (head.loop_id ≢ None → (n : ℕ) → turns ≡ Some n → head.node ≡ node → ⊥)

one_by : (edges : List Edge) (turns : Option ℕ) (head : Head) (marks : List (Option Turning)) (node : ℕ) (l t : Option ℕ) → head.loop_id ≡ l → turns ≡ t → node < length marks → (node ≡ head.node) ⊎ (node ≡ head.node → ⊥) → IsHere edges turns head node (get_or (marked (loop_at (source_at edges head.back) head l t) marks) node None) ⊎ IsNotHere turns head node (get_or (marked (loop_at (source_at edges head.back) head l t) marks) node None) (get_or marks node None)
one_by edges turns head marks node None t is_l is_t h place = inr (refl, λ ne. absurd (ne is_l))
one_by edges turns head marks node (Some l) None is_l is_t h place = inr (refl, λ ne n e at. none-some n (sym is_t ∙ e))
one_by edges turns head marks node (Some l) (Some n) is_l is_t h (inl here) =
    inl (
      n,
      (λ e. none-some l (sym e ∙ is_l)),
      is_t,
      sym here,
      get_or-set_at marks head.node node (Some (turning_for edges head n)) None here (omega (arith, h, here)),
    )
one_by edges turns head marks node (Some l) (Some n) is_l is_t h (inr ne) =
    inr (get_or-set_other marks head.node node (Some (turning_for edges head n)) None ne, λ is m e at. ne (sym at))

one : (edges : List Edge) (turns : Option ℕ) (head : Head) (marks : List (Option Turning)) (node : ℕ) → node < length marks → IsHere edges turns head node (get_or (marked (turning_of edges turns head) marks) node None) ⊎ IsNotHere turns head node (get_or (marked (turning_of edges turns head) marks) node None) (get_or marks node None)
unfolding turning_of
one edges turns head marks node h = one_by edges turns head marks node head.loop_id turns refl refl h (cases_eq node head.node)

pub find_mark : (edges : List Edge) (turns : List (Option ℕ)) (number : ℕ) (heads : List Head) (marks : List (Option Turning)) (node : ℕ) → node < length marks → IsMarked edges turns number heads node (get_or (marked (turnings_from edges turns number heads) marks) node None) ⊎ ((get_or (marked (turnings_from edges turns number heads) marks) node None ≡ get_or marks node None) × IsPlain turns number heads node)
find_mark edges turns number [] marks node h = inr (refl, λ k head n e. absurd (none-some head e))
find_mark edges turns number (head ∷ heads) marks node h =
    join (one edges (get_or turns number None) head marks node h)
    (find_mark edges turns (suc number) heads (marked (turning_of edges (get_or turns number None) head) marks) node (omega (arith, h, length_marked (turning_of edges (get_or turns number None) head) marks)))
  where
    now : (m : Option Turning) → Type 0
    now m = IsMarked edges turns number (head ∷ heads) node m ⊎ ((m ≡ get_or marks node None) × IsPlain turns number (head ∷ heads) node)

    whole : get_or (marked (turnings_from edges turns (suc number) heads) (marked (turning_of edges (get_or turns number None) head) marks)) node None ≡ get_or (marked (turnings_from edges turns number (head ∷ heads)) marks) node None
    whole = ap (λ (ms : List (Option Turning)). get_or ms node None) (sym (marked_append (turning_of edges (get_or turns number None) head) (turnings_from edges turns (suc number) heads) marks))

    same : number + 0 ≡ number
    same = omega arith

    shifted : (k : ℕ) → suc number + k ≡ number + suc k
    shifted k = omega arith

    join : IsHere edges (get_or turns number None) head node (get_or (marked (turning_of edges (get_or turns number None) head) marks) node None) ⊎ IsNotHere (get_or turns number None) head node (get_or (marked (turning_of edges (get_or turns number None) head) marks) node None) (get_or marks node None)
        → IsMarked edges turns (suc number) heads node (get_or (marked (turnings_from edges turns (suc number) heads) (marked (turning_of edges (get_or turns number None) head) marks)) node None)
        ⊎ ((get_or (marked (turnings_from edges turns (suc number) heads) (marked (turning_of edges (get_or turns number None) head) marks)) node None ≡ get_or (marked (turning_of edges (get_or turns number None) head) marks) node None) × IsPlain turns (suc number) heads node)
        → now (get_or (marked (turnings_from edges turns number (head ∷ heads)) marks) node None)
    join first (inl m) =
        inl (suc m.0, m.1, m.2, m.3, m.4, ap (λ (j : ℕ). get_or turns j None) (sym (shifted m.0)) ∙ m.5, m.6, sym whole ∙ m.7)
    join (inl f) (inr rest) =
        inl (0, head, f.0, refl, f.1, ap (λ (j : ℕ). get_or turns j None) same ∙ f.2, f.3, sym whole ∙ rest.0 ∙ f.4)
    join (inr f) (inr rest) = inr (sym whole ∙ rest.0 ∙ f.0, plain)
      where
        plain : IsPlain turns number (head ∷ heads) node
        plain zero x n e loop_is t at =
            let is : head ≡ x = same_Some head x e in
            f.1 (subst (λ (y : Head). y.loop_id ≢ None) (sym is) loop_is) n (ap (λ (j : ℕ). get_or turns j None) (sym same) ∙ t) (ap (λ (y : Head). y.node) is ∙ at)
        plain (suc k) x n e loop_is t at = rest.1 k x n e loop_is (ap (λ (j : ℕ). get_or turns j None) (shifted k) ∙ t) at

-- ---- numbers of heads

pub find_number : (number : ℕ) (heads : List Head) (numbers : List ℕ) (node : ℕ) → node < length numbers → ((k : ℕ) × (head : Head) × (slice_get heads k ≡ Some head) × (head.node ≡ node) × (get_or (head_numbers number heads numbers) node 0 ≡ number + k)) ⊎ ((get_or (head_numbers number heads numbers) node 0 ≡ get_or numbers node 0) × ((k : ℕ) (head : Head) → slice_get heads k ≡ Some head → head.node ≡ node → ⊥))
find_number number [] numbers node h = inr (refl, λ k head e. absurd (none-some head e))
find_number number (head ∷ heads) numbers node h =
    join (cases_eq node head.node) (find_number (suc number) heads (set numbers head.node number) node (omega (arith, h, length-set numbers head.node number)))
  where
    join : (node ≡ head.node) ⊎ (node ≡ head.node → ⊥)
        → ((k : ℕ) × (x : Head) × (slice_get heads k ≡ Some x) × (x.node ≡ node) × (get_or (head_numbers (suc number) heads (set numbers head.node number)) node 0 ≡ suc number + k)) ⊎ ((get_or (head_numbers (suc number) heads (set numbers head.node number)) node 0 ≡ get_or (set numbers head.node number) node 0) × ((k : ℕ) (x : Head) → slice_get heads k ≡ Some x → x.node ≡ node → ⊥))
        → ((k : ℕ) × (x : Head) × (slice_get (head ∷ heads) k ≡ Some x) × (x.node ≡ node) × (get_or (head_numbers number (head ∷ heads) numbers) node 0 ≡ number + k)) ⊎ ((get_or (head_numbers number (head ∷ heads) numbers) node 0 ≡ get_or numbers node 0) × ((k : ℕ) (x : Head) → slice_get (head ∷ heads) k ≡ Some x → x.node ≡ node → ⊥))
    join place (inl f) =
        let e : suc number + f.0 ≡ number + suc f.0 = omega arith in
        inl (suc f.0, f.1, f.2, f.3, f.4 ∙ e)
    join (inl here) (inr f) =
        let e : number ≡ number + 0 = omega arith in
        inl (0, head, refl, sym here, f.0 ∙ get_or-set_at numbers head.node node number 0 here (omega (arith, h, here)) ∙ e)
    join (inr ne) (inr f) = inr (f.0 ∙ get_or-set_other numbers head.node node number 0 ne, none)
      where
        none : (k : ℕ) (x : Head) → slice_get (head ∷ heads) k ≡ Some x → x.node ≡ node → ⊥
        none zero x e at = ne (sym at ∙ ap (λ (y : Head). y.node) (sym (same_Some head x e)))
        none (suc k) x e at = f.1 k x e at

-- ---- loops without a bound on their turns

no_lesser : (a b : Option ℕ) → lesser a b ≡ None → (a ≡ None) × (b ≡ None)
no_lesser None b e = (refl, e)
no_lesser (Some a) None e = absurd (none-some a (sym e))
no_lesser (Some a) (Some b) e = absurd (none-some (min a b) (sym e))

abbrev NoneEndless : (start : ℕ) → List (Option ℕ) → List Bool → (number : ℕ) → List Head → Type 0
NoneEndless start turns live number heads =
    (k : ℕ) (head : Head) → slice_get heads k ≡ Some head → endless_at start live (get_or turns (number + k) None) head ≡ None

one_more : (start : ℕ) (turns : List (Option ℕ)) (live : List Bool) (number : ℕ) (head : Head) (heads : List Head) → endless_at start live (get_or turns number None) head ≡ None → NoneEndless start turns live (suc number) heads → NoneEndless start turns live number (head ∷ heads)
one_more start turns live number head heads here rest zero x at =
    let same : number + 0 ≡ number = omega arith in
    ap (λ (j : ℕ). endless_at start live (get_or turns j None) x) same ∙ ap (endless_at start live (get_or turns number None)) (sym (same_Some head x at)) ∙ here
one_more start turns live number head heads here rest (suc k) x at =
    let shifted : number + suc k ≡ suc number + k = omega arith in
    ap (λ (j : ℕ). endless_at start live (get_or turns j None) x) shifted ∙ rest k x at

none_endless : (start : ℕ) (turns : List (Option ℕ)) (live : List Bool) (number : ℕ) (heads : List Head) (found : Option ℕ) → endless_from start turns live number heads found ≡ None → (found ≡ None) × NoneEndless start turns live number heads
none_endless start turns live number [] found e = (e, λ k head at. absurd (none-some head at))
none_endless start turns live number (head ∷ heads) found e =
    let rest = none_endless start turns live (suc number) heads (lesser found (endless_at start live (get_or turns number None) head)) e in
    let here = no_lesser found (endless_at start live (get_or turns number None) head) rest.0 in
    (here.0, one_more start turns live number head heads here.1 rest.1)

has_turns : (loop_id turns : Option ℕ) → loop_id ≢ None → without_turns loop_id turns ≡ None → ((n : ℕ) × (turns ≡ Some n))
has_turns loop_id None ne e = absurd (ne e)
has_turns loop_id (Some n) ne e = (n, refl)

turns_by : (start : ℕ) (live : List Bool) (turns : Option ℕ) (head : Head) → start < head.node → get_or live head.entry false ≡ true → head.loop_id ≢ None → endless_at start live turns head ≡ None → ((n : ℕ) × (turns ≡ Some n))
unfolding endless_at
turns_by start live turns head h is_live ne e =
    has_turns head.loop_id turns ne
    (sym (ap (λ (b : Bool). if b then without_turns head.loop_id turns else None) (and_from (nat_lt start head.node) (get_or live head.entry false) (lt-ltb start head.node h) is_live)) ∙ e)

pub turns_bounded : (start : ℕ) (turns : List (Option ℕ)) (live : List Bool) (heads : List Head) → endless_from start turns live 0 heads None ≡ None → (k : ℕ) (head : Head) → slice_get heads k ≡ Some head → start < head.node → get_or live head.entry false ≡ true → head.loop_id ≢ None → ((n : ℕ) × (get_or turns k None ≡ Some n))
turns_bounded start turns live heads e k head at h is_live ne =
    let same : 0 + k ≡ k = omega arith in
    turns_by start live (get_or turns k None) head h is_live ne
    (ap (λ (j : ℕ). endless_at start live (get_or turns j None) head) (sym same) ∙ (none_endless start turns live 0 heads None e).1 k head at)
