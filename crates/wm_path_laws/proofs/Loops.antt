-- What is known of a graph while its paths are picked: loops, and what is added at their heads.
use Rattle.std.proofs.Common.{◌≡◌, ℕ, ◌+◌, ◌-◌, ◌*◌, ◌<◌, ◌≤◌, ⊎_elim, false, List, [], ◌∷◌, length, get_or, replicate, Option, Some, None, refl, ap, sym, ◌∙◌, subst, arith}
use Rattle.std.specs.Prelude.{slice_get}
use Rattle.std.proofs.Math.ListN.{set, length-set}
use Rattle.std.proofs.lemmas.Bool.{cases_eq, cases_lt}
use Rattle.std.proofs.lemmas.Grind.{get_or-set_at}
use Rattle.std.proofs.lemmas.List.{get_or-set_other, get_or-replicate, length-replicate, get_or_past}
use Rattle.std.proofs.lemmas.Option.{none-some, same_Some}
use Rattle.wm_cost.specs.Edges.{way_of}
use Rattle.wm_cost.specs.Turnings.{source_of, turnings_from}
use Rattle.wm_flow.specs.declared.graph.Head.{Head}
use Rattle.wm_ways.specs.declared.ways.Turning.{Turning}
use Rattle.wm_ways.specs.declared.ways.Way.{Way}
use Rattle.wm_ways.specs.Loops.{body, marked, filled}
use Rattle.wm_ways.specs.Numbers.{cut, or_nought}
use Rattle.wm_ways.specs.Sweeps.{best_at, ending_at, stretch}
use Rattle.wm_ways.specs.Whole.{firsts_of, marks_of, added_of}
use Rattle.wm_path.specs.Bodies.{inside, table_of}
use Rattle.wm_path.specs.Fields.{Field, field_of, head_numbers}
use Rattle.wm_path_laws.specs.Choices.{IsLaidOut, IsLoop, Setting, last_of}
use Rattle.wm_path_laws.specs.Paths.{AreOrdered, Goes}
use Rattle.wm_path_laws.proofs.Added.{nothing_at, turns_at}
use Rattle.wm_path_laws.proofs.Leading.{ordered, source_is, way_at, ways_of}
use Rattle.wm_path_laws.proofs.Marks.{IsMarked, find_mark, find_number, turning_for}
use Rattle.wm_path_laws.proofs.Parts.{Parts, parts_of, stretch_ordered, body_ordered, narrow, widen}
use Rattle.wm_path_laws.proofs.Routes.{Route}
use Rattle.wm_path_laws.proofs.Steps.{goes_up}

-- ---- a table with one end

pub count_of_ending : (first last : ℕ) → length (ending_at first last) ≡ last - first + 1
unfolding ending_at
count_of_ending first last = length-set (replicate (last - first + 1) None) (last - first) (Some 0) ∙ length-replicate (last - first + 1) None

none_in : (n i : ℕ) → get_or {A = Option ℕ} (replicate n None) i None ≡ None
none_in n i =
    ⊎_elim (λ (h : i < n). get_or-replicate n i None None h)
    (λ (h : n ≤ i). get_or_past (replicate n None) i None (omega (arith, h, length-replicate {A = Option ℕ} n None)))
    (cases_lt i n)

pub end_at : (first last : ℕ) → best_at first (ending_at first last) last ≡ Some 0
unfolding ending_at
end_at first last =
    get_or-set_at (replicate (last - first + 1) None) (last - first) (last - first) (Some 0) None refl (omega (arith, length-replicate {A = Option ℕ} (last - first + 1) None))

pub end_tells : (first last node known : ℕ) → first ≤ last → first ≤ node → best_at first (ending_at first last) node ≡ Some known → (node ≡ last) × (known ≡ 0)
unfolding ending_at
end_tells first last node known fl fn e =
    ⊎_elim
    (λ (i : node - first ≡ last - first).
    (omega (arith, i, fl, fn), same_Some known 0 (sym e ∙ get_or-set_at (replicate (last - first + 1) None) (last - first) (node - first) (Some 0) None i (omega (arith, length-replicate {A = Option ℕ} (last - first + 1) None)))))
    (λ (ne : node - first ≡ last - first → ⊥).
    absurd (none-some known (sym (get_or-set_other (replicate (last - first + 1) None) (last - first) (node - first) (Some 0) None ne ∙ none_in (last - first + 1) (node - first)) ∙ e)))
    (cases_eq (node - first) (last - first))

nought_ends : (first last node known : ℕ) → best_at first (ending_at first last) node ≡ Some known → known ≡ 0
unfolding ending_at
nought_ends first last node known e =
    ⊎_elim
    (λ (i : node - first ≡ last - first).
    same_Some known 0 (sym e ∙ get_or-set_at (replicate (last - first + 1) None) (last - first) (node - first) (Some 0) None i (omega (arith, length-replicate {A = Option ℕ} (last - first + 1) None))))
    (λ (ne : node - first ≡ last - first → ⊥).
    absurd (none-some known (sym (get_or-set_other (replicate (last - first + 1) None) (last - first) (node - first) (Some 0) None ne ∙ none_in (last - first + 1) (node - first)) ∙ e)))
    (cases_eq (node - first) (last - first))

-- ---- what is known of a graph

unfoldable pub firsts : Setting → (count : ℕ) → List ℕ
firsts s count = firsts_of (ways_of s) count

unfoldable pub marks : Setting → (count : ℕ) → List (Option Turning)
marks s count = marked (turnings_from s.graph.edges s.facts.turns 0 s.graph.heads) (replicate count None)

unfoldable pub added : Setting → (count : ℕ) → List ℕ
added s count = filled (ways_of s) (firsts s count) (marks s count) (replicate count 0)

unfoldable pub numbers : Setting → (count : ℕ) → List ℕ
numbers s count = head_numbers 0 s.graph.heads (replicate count 0)

abbrev pub field : Setting → (count : ℕ) → Field
field s count =
    record {
      ways = ways_of s;
      firsts = firsts s count;
      added = added s count;
      marks = marks s count;
      heads = numbers s count;
    }

pub field_is : (s : Setting) (count : ℕ) → field_of s.graph s.weights s.facts.turns s.facts.live count ≡ field s count
unfolding field_of marks_of added_of firsts marks added numbers
field_is s count = refl

module _ (s : Setting) (count : ℕ) (laid : IsLaidOut s.graph) (counted : count ≡ length s.graph.node_shape) where
  pub all_ordered : AreOrdered 0 count 0 (ways_of s)
  all_ordered = subst (λ (n : ℕ). AreOrdered 0 n 0 (ways_of s)) (sym counted) (ordered s laid)

  pub parts_at : (node : ℕ) → node < count → Parts count (ways_of s) node (get_or (firsts s count) node 0)
  unfolding firsts
  parts_at node h = parts_of count (ways_of s) node all_ordered h

  pub head_inside : (k : ℕ) (head : Head) → slice_get s.graph.heads k ≡ Some head → head.node < count
  head_inside k head at =
      let b = laid.backs k head at in
      let t : b.0.target < length s.graph.node_shape = (laid.among head.back b.0 b.1).1 in
      omega (arith, t, counted, b.2)

  -- ---- the loop at a node

  length_marks : length (marks s count) ≡ count
  unfolding marks
  length_marks = length_all (turnings_from s.graph.edges s.facts.turns 0 s.graph.heads) (replicate count None) ∙ length-replicate count None
    where
      length_all : (a : List Turning) (ms : List (Option Turning)) → length (marked a ms) ≡ length ms
      length_all [] ms = refl
      length_all (t ∷ a) ms = length_all a (set ms t.node (Some t)) ∙ length-set ms t.node (Some t)

  pub mark_of : (k : ℕ) (head : Head) (n : ℕ) → IsLoop s k head → get_or s.facts.turns k None ≡ Some n → get_or (marks s count) head.node None ≡ Some (turning_for s.graph.edges head n)
  unfolding marks
  mark_of k head n loop turns =
      ⊎_elim
      (λ (m : IsMarked s.graph.edges s.facts.turns 0 s.graph.heads head.node (get_or (marked (turnings_from s.graph.edges s.facts.turns 0 s.graph.heads) (replicate count None)) head.node None)).
      let same : m.0 ≡ k = laid.apart m.0 k m.1 head m.3 loop.0 m.6 in
      let heads_same : m.1 ≡ head = same_Some m.1 head (sym m.3 ∙ ap (slice_get s.graph.heads) same ∙ loop.0) in
      let place : 0 + m.0 ≡ k = omega (arith, same) in
      let turns_same : m.2 ≡ n = same_Some m.2 n (sym m.5 ∙ ap (λ (j : ℕ). get_or s.facts.turns j None) place ∙ turns) in
      m.7 ∙ ap (λ (h : Head). Some (turning_for s.graph.edges h m.2)) heads_same ∙ ap (λ (j : ℕ). Some (turning_for s.graph.edges head j)) turns_same)
      (λ f.
      let place : k ≡ 0 + k = omega arith in
      absurd (f.1 k head n loop.0 loop.1 (ap (λ (j : ℕ). get_or s.facts.turns j None) (sym place) ∙ turns) refl))
      (find_mark s.graph.edges s.facts.turns 0 s.graph.heads (replicate count None) head.node (omega (arith, head_inside k head loop.0, length-replicate {A = Option Turning} count None)))

  pub mark_tells : (node : ℕ) (t : Turning) → get_or (marks s count) node None ≡ Some t → ((k : ℕ) × (head : Head) × (n : ℕ) × IsLoop s k head × (get_or s.facts.turns k None ≡ Some n) × (head.node ≡ node) × (t ≡ turning_for s.graph.edges head n))
  unfolding marks
  mark_tells node t e =
      ⊎_elim
      (λ (h : node < count).
      ⊎_elim
      (λ (m : IsMarked s.graph.edges s.facts.turns 0 s.graph.heads node (get_or (marked (turnings_from s.graph.edges s.facts.turns 0 s.graph.heads) (replicate count None)) node None)).
      let place : m.0 ≡ 0 + m.0 = omega arith in
      (m.0, m.1, m.2, (m.3, m.4), ap (λ (j : ℕ). get_or s.facts.turns j None) place ∙ m.5, m.6, same_Some t (turning_for s.graph.edges m.1 m.2) (sym e ∙ m.7)))
      (λ f. absurd (none-some t (sym (f.0 ∙ get_or-replicate count node None None h) ∙ e)))
      (find_mark s.graph.edges s.facts.turns 0 s.graph.heads (replicate count None) node (omega (arith, h, length-replicate {A = Option Turning} count None))))
      (λ (h : count ≤ node). absurd (none-some t (sym (get_or_past (marked (turnings_from s.graph.edges s.facts.turns 0 s.graph.heads) (replicate count None)) node None (omega (arith, h, length_marks))) ∙ e)))
      (cases_lt node count)

  pub number_of : (k : ℕ) (head : Head) → slice_get s.graph.heads k ≡ Some head → get_or (numbers s count) head.node 0 ≡ k
  unfolding numbers
  number_of k head at =
      ⊎_elim
      (λ (f : (j : ℕ) × (x : Head) × (slice_get s.graph.heads j ≡ Some x) × (x.node ≡ head.node) × (get_or (head_numbers 0 s.graph.heads (replicate count 0)) head.node 0 ≡ 0 + j)).
      let same : f.0 ≡ k = laid.apart f.0 k f.1 head f.2 at f.3 in omega (arith, f.4, same))
      (λ f. absurd (f.1 k head at refl))
      (find_number 0 s.graph.heads (replicate count 0) head.node (omega (arith, head_inside k head at, length-replicate {A = ℕ} count 0)))

  -- ---- what is added

  are_marks : (i : ℕ) (t : Turning) → get_or (marks s count) i None ≡ Some t → t.node ≡ 0 + i
  are_marks i t e =
      let m = mark_tells i t e in
      let node : t.node ≡ m.1.node = ap (λ (x : Turning). x.node) m.6 in
      omega (arith, node, m.5)

  behind : (node back : ℕ) → node < count → AreOrdered 0 count node (stretch (ways_of s) (get_or (firsts s count) node 0) back)
  behind node back h = stretch_ordered count (ways_of s) node (get_or (firsts s count) node 0) back all_ordered (parts_at node h)

  pub added_none : (node : ℕ) → get_or (marks s count) node None ≡ None → get_or (added s count) node 0 ≡ 0
  unfolding added
  added_none node e =
      let place : node ≡ 0 + node = omega arith in
      ap (λ (j : ℕ). get_or (filled (ways_of s) (firsts s count) (marks s count) (replicate count 0)) j 0) place
      ∙ nothing_at (ways_of s) (firsts s count) count behind 0 (marks s count) (replicate count 0) node are_marks e
      ∙ nought_in count (0 + node)
    where
      nought_in : (n i : ℕ) → get_or {A = ℕ} (replicate n 0) i 0 ≡ 0
      nought_in n i =
          ⊎_elim (λ (h : i < n). get_or-replicate n i 0 0 h)
          (λ (h : n ≤ i). get_or_past (replicate n 0) i 0 (omega (arith, h, length-replicate {A = ℕ} n 0)))
          (cases_lt i n)

  pub added_some : (k : ℕ) (head : Head) (n : ℕ) → IsLoop s k head → get_or s.facts.turns k None ≡ Some n → get_or (added s count) head.node 0 ≡ cut (n * or_nought (best_at head.node (table_of (field s count) (turning_for s.graph.edges head n)) head.node))
  unfolding added body
  added_some k head n loop turns =
      let place : head.node ≡ 0 + head.node = omega arith in
      ap (λ (j : ℕ). get_or (filled (ways_of s) (firsts s count) (marks s count) (replicate count 0)) j 0) place
      ∙ turns_at (ways_of s) (firsts s count) count behind 0 (marks s count) (replicate count 0) head.node (turning_for s.graph.edges head n) are_marks
      (omega (arith, length_marks)) (omega (arith, length-replicate {A = ℕ} count 0)) (mark_of k head n loop turns)

  -- ---- the paths through a loop

  pub through : (k : ℕ) (head : Head) (n : ℕ) → slice_get s.graph.heads k ≡ Some head → Route s (added s count) head.node (λ node. node ≡ last_of s head) (get_or (firsts s count) head.node 0) (inside (field s count) (turning_for s.graph.edges head n)) (ending_at head.node (last_of s head))
  through k head n at =
      let b = laid.backs k head at in
      let way : Way = way_of s.weights (get_or s.facts.live (0 + head.back) false) b.0 in
      let is_way : slice_get (ways_of s) head.back ≡ Some way = way_at s.weights s.facts.live 0 s.graph.edges head.back b.0 b.1 in
      let last_is : b.0.source ≡ last_of s head = ap source_of (sym b.1) in
      let is_last : way.source ≡ last_of s head = source_is s.weights (get_or s.facts.live (0 + head.back) false) b.0 ∙ last_is in
      let above : head.node ≤ last_of s head = omega (arith, b.3, last_is) in
      let first : ℕ = get_or (firsts s count) head.node 0 in
      let parts : Parts count (ways_of s) head.node first = parts_at head.node (head_inside k head at) in
      let body_is : AreOrdered head.node (last_of s head - head.node + 1) head.node (stretch (ways_of s) first head.back) = body_ordered count (ways_of s) head.node first head.back all_ordered parts (last_of s head) way is_way is_last above in
      record {
        ordered = subst (λ (m : ℕ). AreOrdered head.node m head.node (stretch (ways_of s) first head.back)) (sym (count_of_ending head.node (last_of s head))) body_is;
        ends = nought_ends head.node (last_of s head);
        into = λ numbers to weight end g. (
          subst (λ (m : ℕ). Goes (added s count) first (stretch (ways_of s) first head.back) head.node numbers m weight) (sym end)
              (narrow count (ways_of s) head.node first head.back all_ordered parts (last_of s head) way is_way is_last above (added s count) numbers weight
              (subst (λ (m : ℕ). Goes (added s count) 0 (ways_of s) head.node numbers m weight) end g)),
          ap (best_at head.node (ending_at head.node (last_of s head))) end ∙ end_at head.node (last_of s head),
        );
        out = λ numbers to weight known g e.
            let whole = widen count (ways_of s) head.node first head.back all_ordered parts (last_of s head) way is_way is_last above (added s count) numbers to weight g in
            ((end_tells head.node (last_of s head) to known above (goes_up 0 count 0 (added s count) 0 (ways_of s) head.node numbers to weight all_ordered whole) e).0, whole);
      }
