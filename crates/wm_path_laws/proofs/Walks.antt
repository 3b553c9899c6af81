-- The walk that picks the edges.
use Rattle.std.proofs.Common.{◌≡◌, ◌≢◌, ℕ, suc, ◌+◌, ◌-◌, ◌<◌, ◌≤◌, inl, inr, ⊎_elim, Bool, true, false, List, [], ◌∷◌, length, get_or, Option, Some, None, refl, ap, sym, ◌∙◌, subst, arith}
use Rattle.std.specs.Prelude.{◌&&◌, if◌then◌else◌, ◌==◌}
use Rattle.std.proofs.lemmas.Bool.{cases_eq, cases_lt}
use Rattle.std.proofs.lemmas.Bool.Decides.{nat_tests}
use Rattle.wm_ways.proofs.Paths.{no_path_weighs_more}
use Rattle.wm_ways.specs.declared.ways.Way.{Way}
use Rattle.wm_ways.specs.Numbers.{cut, along, greater}
use Rattle.wm_ways.specs.Paths.{Leads, AreInside, IsAtLeast}
use Rattle.wm_ways.specs.Sweeps.{best_at, swept}
use Rattle.wm_path.specs.Picks.{are_both, beyond, unless_nought, sought, attains, takes, picked}
use Rattle.wm_path_laws.specs.Paths.{Goes, AreOrdered, AreEnds, IsNotAfter, IsFirst, IsGreatest, PicksTheFirst}
use Rattle.wm_path_laws.proofs.Tables.{uncut, uncut_least, some_is, none_is_not, length_swept, unmoved, closed_at, moved, greater_first, greater_second, along_gives}

-- ---- paths

-- a path over edges is one whose numbers are left out
pub leads : (added : List ℕ) (number : ℕ) (ways : List Way) (from : ℕ) (numbers : List ℕ) (to weight : ℕ) → Goes added number ways from numbers to weight → Leads added ways from to weight
leads added number [] from numbers to weight h = (h.0, h.2)
leads added number (way ∷ ways) from numbers to weight (inl h) = inl (leads added (suc number) ways from numbers to weight h)
leads added number (way ∷ ways) from numbers to weight (inr h) =
    inr (h.0, h.1, (h.2.1, leads added (suc number) ways way.target h.2.0 to h.2.1 h.2.2, h.2.4))

-- the path without an edge
stays : (added : List ℕ) (number : ℕ) (ways : List Way) (at : ℕ) → Goes added number ways at [] at 0
stays added number [] at = (refl, refl, refl)
stays added number (way ∷ ways) at = inl (stays added (suc number) ways at)

-- a path without edges goes nowhere
goes_nowhere : (added : List ℕ) (number : ℕ) (ways : List Way) (from to weight : ℕ) → Goes added number ways from [] to weight → (from ≡ to) × (weight ≡ 0)
goes_nowhere added number [] from to weight h = (h.0, h.2)
goes_nowhere added number (way ∷ ways) from to weight (inl h) = goes_nowhere added (suc number) ways from to weight h
goes_nowhere added number (way ∷ ways) from to weight (inr h) = not_empty number h.2.0 h.2.3
  where
    not_empty : {P : Type 0} (n : ℕ) (ns : List ℕ) → [] ≡ n ∷ ns → P
    not_empty n ns e = cc

-- its numbers are those of the list
first_number : (added : List ℕ) (number : ℕ) (ways : List Way) (from m : ℕ) (q : List ℕ) (to weight : ℕ) → Goes added number ways from (m ∷ q) to weight → number ≤ m
first_number added number [] from m q to weight h = empty_is_not m q h.1
  where
    empty_is_not : {P : Type 0} (n : ℕ) (ns : List ℕ) → n ∷ ns ≡ [] → P
    empty_is_not n ns e = cc
first_number added number (way ∷ ways) from m q to weight (inl h) = omega (arith, first_number added (suc number) ways from m q to weight h)
first_number added number (way ∷ ways) from m q to weight (inr h) =
    let e : m ≡ number = head_is m number q h.2.0 h.2.3 in omega (arith, e)
  where
    head_is : (a b : ℕ) (xs ys : List ℕ) → a ∷ xs ≡ b ∷ ys → a ≡ b
    head_is a b xs ys e = cc

-- ---- what is not picked

abbrev Nothing : Option ℕ → Type 0
Nothing o = o ≡ None

both_none : (b : Option ℕ) → are_both None b ≡ false
both_none b = refl

and_false : (a b : Bool) → (a && (b && false)) ≡ false
and_false true true = refl
and_false true false = refl
and_false false b = refl

idle_here : (first : ℕ) (added : List ℕ) (best ending : List (Option ℕ)) (at : ℕ) (way : Way) → sought first best ending at ≡ None → takes first added best ending at way ≡ false
idle_here first added best ending at way e =
    ap (λ (o : Option ℕ). way.open && (way.source == at && are_both o (along way.weight (get_or added way.target 0) (best_at first best way.target)))) e
    ∙ and_false way.open (way.source == at)

pass : (first : ℕ) (added : List ℕ) (best ending : List (Option ℕ)) (number at : ℕ) (way : Way) (ways : List Way) (b : Bool) → takes first added best ending at way ≡ b → picked first added best ending number at (way ∷ ways) ≡ (if b then number ∷ picked first added best ending (suc number) way.target ways else picked first added best ending (suc number) at ways)
pass first added best ending number at way ways b e =
    ap (λ (t : Bool). if t then number ∷ picked first added best ending (suc number) way.target ways else picked first added best ending (suc number) at ways) e

-- nothing is picked where nothing is sought
pub idle : (first : ℕ) (added : List ℕ) (best ending : List (Option ℕ)) (number at : ℕ) (ways : List Way) → sought first best ending at ≡ None → picked first added best ending number at ways ≡ []
idle first added best ending number at [] e = refl
idle first added best ending number at (way ∷ ways) e =
    pass first added best ending number at way ways false (idle_here first added best ending at way e) ∙ idle first added best ending (suc number) at ways e

different : (a apart rest : Bool) → apart ≡ false → (a && (apart && rest)) ≡ false
different true apart rest e = ap (λ (b : Bool). b && rest) e
different false apart rest e = refl

apart_is : (a b : ℕ) → a ≢ b → (a == b) ≡ false
apart_is a b ne = grind (arith, nat_tests)

elsewhere : (first : ℕ) (added : List ℕ) (best ending : List (Option ℕ)) (at : ℕ) (way : Way) → way.source ≢ at → takes first added best ending at way ≡ false
elsewhere first added best ending at way ne = different way.open (way.source == at) (attains first added best ending at way) (apart_is way.source at ne)

-- nothing is picked, and nothing known changes, where all edges lead from higher nodes
past : (first count : ℕ) (added : List ℕ) (best ending : List (Option ℕ)) (number at least : ℕ) (ways : List Way) → AreOrdered first count least ways → at < least → picked first added best ending number at ways ≡ []
past first count added best ending number at least [] o h = refl
past first count added best ending number at least (way ∷ ways) o h =
    let ne : way.source ≢ at = omega (arith, o.0, h) in
    pass first added best ending number at way ways false (elsewhere first added best ending at way ne)
    ∙ past first count added best ending (suc number) at way.source ways o.3 (omega (arith, o.0, h))

past_known : (first count : ℕ) (added : List ℕ) (ending : List (Option ℕ)) (at least : ℕ) (ways : List Way) → AreOrdered first count least ways → first ≤ at → at < least → best_at first (swept first added ways ending) at ≡ best_at first ending at
past_known first count added ending at least [] o f h = refl
past_known first count added ending at least (way ∷ ways) o f h =
    let ne : at - first ≢ way.source - first = omega (arith, o.0, h, f) in
    unmoved first added way (swept first added ways ending) at ne
    ∙ past_known first count added ending at way.source ways o.3 f (omega (arith, o.0, h))

-- no path leads on from below them
past_goes : (first count : ℕ) (added : List ℕ) (number at least : ℕ) (ways : List Way) (numbers : List ℕ) (to weight : ℕ) → AreOrdered first count least ways → at < least → Goes added number ways at numbers to weight → (at ≡ to) × (weight ≡ 0)
past_goes first count added number at least [] numbers to weight o h g = (g.0, g.2)
past_goes first count added number at least (way ∷ ways) numbers to weight o h (inl g) =
    past_goes first count added (suc number) at way.source ways numbers to weight o.3 (omega (arith, o.0, h)) g
past_goes first count added number at least (way ∷ ways) numbers to weight o h (inr g) = absurd (omega (arith, o.0, h, g.1))

pub inside_of : (first count least : ℕ) (ways : List Way) → AreOrdered first count least ways → AreInside first count ways
inside_of first count least [] o = tt
inside_of first count least (way ∷ ways) o = (o.1, inside_of first count way.source ways o.3)

-- ---- what is sought

unless_is : (n : ℕ) → unless_nought (Some n) ≡ None → n ≡ 0
unless_is n e =
    ⊎_elim (λ (z : n ≡ 0). z)
    (λ (ne : n ≡ 0 → ⊥). none_is_not n (sym e ∙ ap (λ (b : Bool). if b then None else Some n) (apart_is n 0 ne)))
    (cases_eq n 0)

unless_gives : (n s : ℕ) → unless_nought (Some n) ≡ Some s → n ≡ s
unless_gives n s e =
    ⊎_elim
    (λ (z : n ≡ 0). none_is_not s (sym (ap (λ (k : ℕ). unless_nought (Some k)) z) ∙ e))
    (λ (ne : n ≡ 0 → ⊥). some_is n s (sym (ap (λ (b : Bool). if b then None else Some n) (apart_is n 0 ne)) ∙ e))
    (cases_eq n 0)

stopped : (ending known : Option ℕ) (n : ℕ) → beyond ending known ≡ None → known ≡ Some n → ((z : ℕ) × (ending ≡ Some z) × (n ≡ 0))
stopped None known n e k = none_is_not n (sym e ∙ k)
stopped (Some z) known n e k = (z, refl, unless_is n (ap unless_nought (sym k) ∙ e))

sought_is : (ending known : Option ℕ) (n s : ℕ) → beyond ending known ≡ Some s → known ≡ Some n → s ≡ n
sought_is None known n s e k = some_is s n (sym e ∙ k)
sought_is (Some z) known n s e k = sym (unless_gives n s (ap unless_nought (sym k) ∙ e))

-- at an end where nothing more is weighed nothing is sought
at_end : {P : Type 0} (ending known : Option ℕ) (s : ℕ) → beyond ending known ≡ Some s → ending ≡ Some 0 → known ≡ Some 0 → P
at_end ending known s e z k = none_is_not s (sym (ap (λ (o : Option ℕ). beyond o known) z ∙ ap unless_nought k) ∙ e)

-- ---- tests

first_part : (a b : Bool) → (a && b) ≡ true → a ≡ true
first_part true b e = refl
first_part false b e = e

second_part : (a b : Bool) → (a && b) ≡ true → b ≡ true
second_part true b e = e
second_part false b e = absurd (false_is_not e)
  where
    false_is_not : false ≡ true → ⊥
    false_is_not e = cc

same_is : (a b : ℕ) → (a == b) ≡ true → a ≡ b
same_is a b e = grind (arith, nat_tests)

is_same : (a b : ℕ) → a ≡ b → (a == b) ≡ true
is_same a b e = grind (arith, nat_tests)

both_is : (s : ℕ) (b : Option ℕ) → are_both (Some s) b ≡ true → b ≡ Some s
both_is s None e = absurd (false_is_not e)
  where
    false_is_not : false ≡ true → ⊥
    false_is_not e = cc
both_is s (Some y) e = ap Some (sym (same_is s y e))

all_true : (a b c : Bool) → a ≡ true → b ≡ true → c ≡ true → (a && (b && c)) ≡ true
all_true a b c p q r = rw (p, q, r) refl

true_is_not_false : {P : Type 0} → true ≡ false → P
true_is_not_false e = cc

-- ---- the walk

nowhere_else : (first : ℕ) (added : List ℕ) (ending : List (Option ℕ)) (number : ℕ) (ways : List Way) (at known : ℕ) (numbers : List ℕ) → AreEnds first ending → numbers ≡ [] → best_at first ending at ≡ Some known → IsFirst first added ending number ways at known numbers
nowhere_else first added ending number ways at known numbers ends none is =
    let nought : known ≡ 0 = ends at known is in
    record {
      to = at;
      goes = subst (λ (n : ℕ). Goes added number ways at numbers at n) (sym nought) (subst (λ (ns : List ℕ). Goes added number ways at ns at 0) (sym none) (stays added number ways at));
      ends = is ∙ ap Some nought;
      before = λ other end g e. subst (λ (ns : List ℕ). IsNotAfter ns other) (sym none) tt;
    }

abbrev Agrees : (first : ℕ) → (best table : List (Option ℕ)) → (at : ℕ) → Type 0
Agrees first best table at = (node : ℕ) → at ≤ node → best_at first best node ≡ best_at first table node

module _ (first : ℕ) (added : List ℕ) (best ending : List (Option ℕ)) (ends : AreEnds first ending) where
  -- an edge from another node
  pub passed : (number at known : ℕ) (way : Way) (ways : List Way) → way.source ≢ at → IsFirst first added ending (suc number) ways at known (picked first added best ending (suc number) at ways) → IsFirst first added ending number (way ∷ ways) at known (picked first added best ending number at (way ∷ ways))
  passed number at known way ways ne f =
      let same : picked first added best ending number at (way ∷ ways) ≡ picked first added best ending (suc number) at ways =
      pass first added best ending number at way ways false (elsewhere first added best ending at way ne) in
      subst (IsFirst first added ending number (way ∷ ways) at known) (sym same) (record {
        to = f.to;
        goes = inl f.goes;
        ends = f.ends;
        before = λ other end g e. ⊎_elim (λ h. f.before other end h e) (λ h. absurd (ne (sym h.1))) g;
      })

  -- an edge that does not attain what is sought
  pub left_out : (number at known : ℕ) (way : Way) (ways : List Way) → takes first added best ending at way ≡ false
      → ((other : List ℕ) (end : ℕ) → best_at first ending end ≡ Some 0 → (way.open ≡ true) × (at ≡ way.source) × ((behind : List ℕ) × (rest : ℕ) × Goes added (suc number) ways way.target behind end rest × (other ≡ number ∷ behind) × (known ≡ way.weight + get_or added way.target 0 + rest)) → ⊥)
      → IsFirst first added ending (suc number) ways at known (picked first added best ending (suc number) at ways) → IsFirst first added ending number (way ∷ ways) at known (picked first added best ending number at (way ∷ ways))
  left_out number at known way ways not none f =
      let same : picked first added best ending number at (way ∷ ways) ≡ picked first added best ending (suc number) at ways =
      pass first added best ending number at way ways false not in
      subst (IsFirst first added ending number (way ∷ ways) at known) (sym same) (record {
        to = f.to;
        goes = inl f.goes;
        ends = f.ends;
        before = λ other end g e. ⊎_elim (λ h. f.before other end h e) (λ h. absurd (none other end e h)) g;
      })

  -- an edge that does
  pub taken : (number at known k : ℕ) (way : Way) (ways : List Way) → takes first added best ending at way ≡ true → way.open ≡ true → at ≡ way.source → known ≡ way.weight + get_or added way.target 0 + k
      → (best_at first ending at ≡ Some 0 → known ≡ 0 → ⊥)
      → IsFirst first added ending (suc number) ways way.target k (picked first added best ending (suc number) way.target ways) → IsFirst first added ending number (way ∷ ways) at known (picked first added best ending number at (way ∷ ways))
  taken number at known k way ways does is_open here weighs not_end f =
      let behind : List ℕ = picked first added best ending (suc number) way.target ways in
      let same : picked first added best ending number at (way ∷ ways) ≡ number ∷ behind =
      pass first added best ending number at way ways true does in
      subst (IsFirst first added ending number (way ∷ ways) at known) (sym same) (record {
        to = f.to;
        goes = inr (is_open, here, (behind, k, f.goes, refl, weighs));
        ends = f.ends;
        before = λ other end g e. ⊎_elim (λ h. later other end h e) (λ h. first_too other end h e) g;
      })
    where
      later : (other : List ℕ) (end : ℕ) → Goes added (suc number) ways at other end known → best_at first ending end ≡ Some 0 → IsNotAfter (number ∷ picked first added best ending (suc number) way.target ways) other
      later [] end g e =
          let nowhere = goes_nowhere added (suc number) ways at end known g in
          absurd (not_end (ap (best_at first ending) nowhere.0 ∙ e) nowhere.1)
      later (m ∷ q) end g e = inl (omega (arith, first_number added (suc number) ways at m q end known g))

      first_too : (other : List ℕ) (end : ℕ) → (way.open ≡ true) × (at ≡ way.source) × ((behind : List ℕ) × (rest : ℕ) × Goes added (suc number) ways way.target behind end rest × (other ≡ number ∷ behind) × (known ≡ way.weight + get_or added way.target 0 + rest)) → best_at first ending end ≡ Some 0 → IsNotAfter (number ∷ picked first added best ending (suc number) way.target ways) other
      first_too other end h e =
          let rest_is : h.2.1 ≡ k = omega (arith, weighs, h.2.4) in
          subst (IsNotAfter (number ∷ picked first added best ending (suc number) way.target ways)) (sym h.2.3)
          (inr (refl, f.before h.2.0 end (subst (λ (r : ℕ). Goes added (suc number) ways way.target h.2.0 end r) rest_is h.2.2) e))

  -- ---- one edge from the node at which the path has come

  module _ (number at known : ℕ) (way : Way) (ways : List Way) (here : way.source ≡ at) (from_first : first ≤ at) (inside : way.source - first < length ending) (rises : way.open ≡ true → way.source < way.target) (ordered : AreOrdered first (length ending) way.source ways) (agrees : Agrees first best (swept first added (way ∷ ways) ending) at) (knows : best_at first best at ≡ Some known) (small : known ≤ 1000000000000000) (seeks : sought first best ending at ≡ Some known) where
    -- what is known behind the node is known of the edges that are left
    pub agrees_behind : (least : ℕ) → at < least → Agrees first best (swept first added ways ending) least
    agrees_behind least h node k =
        let ne : node - first ≢ way.source - first = omega (arith, h, k, here, from_first) in
        agrees node (omega (arith, h, k)) ∙ unmoved first added way (swept first added ways ending) node ne

    -- the edge leads to what is known
    known_here : way.open ≡ true → greater (best_at first (swept first added ways ending) way.source) (along way.weight (get_or added way.target 0) (best_at first (swept first added ways ending) way.target)) ≡ Some known
    known_here is_open =
        sym (moved first added way (swept first added ways ending) is_open (subst (λ (n : ℕ). way.source - first < n) (sym (length_swept first added ways ending)) inside))
        ∙ ap (best_at first (swept first added (way ∷ ways) ending)) here ∙ sym (agrees at (omega arith)) ∙ knows

    target_same : way.open ≡ true → best_at first best way.target ≡ best_at first (swept first added ways ending) way.target
    target_same is_open = agrees_behind way.target (omega (arith, rises is_open, here)) way.target (omega arith)

    -- where it is not taken it does not attain the weight
    not_attained : takes first added best ending at way ≡ false → way.open ≡ true → along way.weight (get_or added way.target 0) (best_at first (swept first added ways ending) way.target) ≡ Some known → ⊥
    not_attained not is_open e =
        let reached : along way.weight (get_or added way.target 0) (best_at first best way.target) ≡ Some known = ap (along way.weight (get_or added way.target 0)) (target_same is_open) ∙ e in
        let both : are_both (sought first best ending at) (along way.weight (get_or added way.target 0) (best_at first best way.target)) ≡ true =
        ap (λ (o : Option ℕ). are_both o (along way.weight (get_or added way.target 0) (best_at first best way.target))) seeks ∙ ap (are_both (Some known)) reached ∙ is_same known known refl in
        true_is_not_false (sym (all_true way.open (way.source == at) (attains first added best ending at way) is_open (is_same way.source at here) both) ∙ not)

    left_known : takes first added best ending at way ≡ false → (b : Bool) → way.open ≡ b → best_at first (swept first added ways ending) way.source ≡ Some known
    left_known not true is_open =
        greater_first (best_at first (swept first added ways ending) way.source) (along way.weight (get_or added way.target 0) (best_at first (swept first added ways ending) way.target)) known
        (known_here is_open) (not_attained not is_open)
    left_known not false closed =
        sym (closed_at first added way (swept first added ways ending) way.source closed)
        ∙ ap (best_at first (swept first added (way ∷ ways) ending)) here ∙ sym (agrees at (omega arith)) ∙ knows

    pub agrees_left : takes first added best ending at way ≡ false → Agrees first best (swept first added ways ending) at
    agrees_left not node h =
        ⊎_elim
        (λ (e : node ≡ at). ap (best_at first best) e ∙ knows ∙ sym (left_known not way.open refl) ∙ ap (best_at first (swept first added ways ending)) (here ∙ sym e))
        (λ (ne : node ≡ at → ⊥).
        let apart : node - first ≢ way.source - first = omega (arith, h, ne, here, from_first) in
        agrees node h ∙ unmoved first added way (swept first added ways ending) node apart)
        (cases_eq node at)

    -- a path that begins with an edge which is not taken weighs less
    pub none_begins : takes first added best ending at way ≡ false → (other : List ℕ) (end : ℕ) → best_at first ending end ≡ Some 0 → (way.open ≡ true) × (at ≡ way.source) × ((behind : List ℕ) × (rest : ℕ) × Goes added (suc number) ways way.target behind end rest × (other ≡ number ∷ behind) × (known ≡ way.weight + get_or added way.target 0 + rest)) → ⊥
    none_begins not other end e h =
        none_so (best_at first (swept first added ways ending) way.target) refl
        (no_path_weighs_more first added ways ending way.target end h.2.1 0 (inside_of first (length ending) way.source ways ordered) (leads added (suc number) ways way.target h.2.0 end h.2.1 h.2.2) e)
      where
        none_so : (o : Option ℕ) → best_at first (swept first added ways ending) way.target ≡ o → IsAtLeast (cut (h.2.1 + 0)) o → ⊥
        none_so None is at_least = at_least
        none_so (Some k) is at_least =
            let total : ℕ = way.weight + get_or added way.target 0 + k in
            let along_is : along way.weight (get_or added way.target 0) (best_at first (swept first added ways ending) way.target) ≡ Some (cut total) = ap (along way.weight (get_or added way.target 0)) is in
            let bound : cut total ≤ known =
            greater_second (best_at first (swept first added ways ending) way.source) (along way.weight (get_or added way.target 0) (best_at first (swept first added ways ending) way.target)) (cut total) known (known_here h.0) along_is in
            let whole : total ≡ cut total = uncut total (cut total) (omega (arith, bound, small)) refl in
            let k_small : k ≤ 1000000000000000 = omega (arith, whole, bound, small) in
            let rest_least : h.2.1 ≤ k = uncut_least h.2.1 k k_small at_least in
            let same : cut total ≡ known = omega (arith, whole, bound, rest_least, h.2.4) in
            not_attained not h.0 (along_is ∙ ap Some same)

    pub attained : takes first added best ending at way ≡ true → ((k : ℕ) × (best_at first best way.target ≡ Some k) × (known ≡ way.weight + get_or added way.target 0 + k))
    attained does =
        let both : are_both (Some known) (along way.weight (get_or added way.target 0) (best_at first best way.target)) ≡ true =
        ap (λ (o : Option ℕ). are_both o (along way.weight (get_or added way.target 0) (best_at first best way.target))) (sym seeks)
        ∙ second_part (way.source == at) (attains first added best ending at way) (second_part way.open (way.source == at && attains first added best ending at way) does) in
        let gives = along_gives way.weight (get_or added way.target 0) (best_at first best way.target) known (both_is known (along way.weight (get_or added way.target 0) (best_at first best way.target)) both) in
        (gives.0, gives.1, sym (uncut (way.weight + get_or added way.target 0 + gives.0) known small gives.2))

  -- ---- all edges, by what is known of those behind the first

  module _ (number at known least : ℕ) (way : Way) (ways : List Way) (o : AreOrdered first (length ending) least (way ∷ ways)) (fl : first ≤ least) (fa : first ≤ at) (agrees : Agrees first best (swept first added (way ∷ ways) ending) at) (knows : best_at first best at ≡ Some known) (small : known ≤ 1000000000000000) (behind : (at known : ℕ) → first ≤ at → Agrees first best (swept first added ways ending) at → best_at first best at ≡ Some known → known ≤ 1000000000000000 → IsFirst first added ending (suc number) ways at known (picked first added best ending (suc number) at ways)) where
    nothing : sought first best ending at ≡ None → IsFirst first added ending number (way ∷ ways) at known (picked first added best ending number at (way ∷ ways))
    nothing none =
        let stop = stopped (best_at first ending at) (best_at first best at) known none knows in
        let is : best_at first ending at ≡ Some known = stop.1 ∙ ap Some (ends at stop.0 stop.1 ∙ sym stop.2) in
        nowhere_else first added ending number (way ∷ ways) at known (picked first added best ending number at (way ∷ ways)) ends (idle first added best ending number at (way ∷ ways) none) is

    beyond_all : at < way.source → IsFirst first added ending number (way ∷ ways) at known (picked first added best ending number at (way ∷ ways))
    beyond_all h =
        let ordered : AreOrdered first (length ending) way.source (way ∷ ways) = (omega arith, o.1, o.2, o.3) in
        let is : best_at first ending at ≡ Some known = sym (past_known first (length ending) added ending at way.source (way ∷ ways) ordered fa h) ∙ sym (agrees at (omega arith)) ∙ knows in
        nowhere_else first added ending number (way ∷ ways) at known (picked first added best ending number at (way ∷ ways)) ends (past first (length ending) added best ending number at way.source (way ∷ ways) ordered h) is

    agrees_past : way.source < at → Agrees first best (swept first added ways ending) at
    agrees_past h node k =
        let apart : node - first ≢ way.source - first = omega (arith, h, k, o.0, fl) in
        agrees node k ∙ unmoved first added way (swept first added ways ending) node apart

    elsewhere_from : way.source ≤ at → (way.source ≡ at → ⊥) → IsFirst first added ending number (way ∷ ways) at known (picked first added best ending number at (way ∷ ways))
    elsewhere_from h ne = passed number at known way ways ne (behind at known fa (agrees_past (omega (arith, h, ne))) knows small)

    from_here : sought first best ending at ≡ Some known → way.source ≡ at → (b : Bool) → takes first added best ending at way ≡ b → IsFirst first added ending number (way ∷ ways) at known (picked first added best ending number at (way ∷ ways))
    from_here seeks here false not =
        left_out number at known way ways not
        (none_begins number at known way ways here fa o.1 o.2 o.3 agrees knows small seeks not)
        (behind at known fa (agrees_left number at known way ways here fa o.1 o.2 o.3 agrees knows small seeks not) knows small)
    from_here seeks here true does =
        let gives = attained number at known way ways here fa o.1 o.2 o.3 agrees knows small seeks does in
        let is_open : way.open ≡ true = first_part way.open (way.source == at && attains first added best ending at way) does in
        let rises : way.source < way.target = o.2 is_open in
        taken number at known gives.0 way ways does is_open (sym here) gives.2
        (λ e z. at_end (best_at first ending at) (best_at first best at) known seeks e (knows ∙ ap Some z))
        (behind way.target gives.0 (omega (arith, fl, o.0, rises))
        (agrees_behind number at known way ways here fa o.1 o.2 o.3 agrees knows small seeks way.target (omega (arith, rises, here))) gives.1 (omega (arith, gives.2, small)))

    here_or_not : sought first best ending at ≡ Some known → IsFirst first added ending number (way ∷ ways) at known (picked first added best ending number at (way ∷ ways))
    here_or_not seeks =
        ⊎_elim beyond_all
        (λ (h : way.source ≤ at).
        ⊎_elim (λ (e : way.source ≡ at). from_here seeks e (takes first added best ending at way) refl)
        (λ (ne : way.source ≡ at → ⊥). elsewhere_from h ne) (cases_eq way.source at))
        (cases_lt at way.source)

    seek : (s : Option ℕ) → sought first best ending at ≡ s → IsFirst first added ending number (way ∷ ways) at known (picked first added best ending number at (way ∷ ways))
    seek None none = nothing none
    seek (Some s) some = here_or_not (some ∙ ap Some (sought_is (best_at first ending at) (best_at first best at) known s some knows))

    pub one_edge : IsFirst first added ending number (way ∷ ways) at known (picked first added best ending number at (way ∷ ways))
    one_edge = seek (sought first best ending at) refl

  pub walk : (number at known least : ℕ) (ways : List Way) → AreOrdered first (length ending) least ways → first ≤ least → first ≤ at → Agrees first best (swept first added ways ending) at → best_at first best at ≡ Some known → known ≤ 1000000000000000 → IsFirst first added ending number ways at known (picked first added best ending number at ways)
  walk number at known least [] o fl fa agrees knows small = nowhere_else first added ending number [] at known [] ends refl (sym (agrees at (omega arith)) ∙ knows)
  walk number at known least (way ∷ ways) o fl fa agrees knows small =
      one_edge number at known least way ways o fl fa agrees knows small
      (λ at' known' fa' agrees' knows' small'. walk (suc number) at' known' way.source ways o.3 (omega (arith, fl, o.0)) fa' agrees' knows' small')

greatest : (first : ℕ) (added : List ℕ) (ways : List Way) (ending : List (Option ℕ)) (number from known : ℕ) → AreOrdered first (length ending) first ways → best_at first (swept first added ways ending) from ≡ Some known → known ≤ 1000000000000000 → IsGreatest first added ending number ways from known
greatest first added ways ending number from known o knows small other end weight g e =
    let told : IsAtLeast (cut (weight + 0)) (best_at first (swept first added ways ending) from) =
    no_path_weighs_more first added ways ending from end weight 0 (inside_of first (length ending) first ways o) (leads added number ways from other end weight g) e in
    uncut_least weight known small (subst (λ (o : Option ℕ). IsAtLeast (cut (weight + 0)) o) knows told)

pub picks_the_first : PicksTheFirst
picks_the_first first added ways ending number from known o ends f knows small =
    (greatest first added ways ending number from known o knows small, walk first added (swept first added ways ending) ending ends number from known first ways o (omega arith) f (λ node h. refl) knows small)
