-- Sums over the instances of a program: what the roots count with all that they call is what all instances count.
use Rattle.std.proofs.Common.{◌≡◌, ℕ, zero, suc, ◌+◌, ◌<◌, ◌≤◌, List, [], ◌∷◌, map, length, Option, Some, None, Bool, true, false, refl, ◌∙◌, arith, ⊎_elim}
use Rattle.std.proofs.lemmas.Bool.{cases_lt}
use Rattle.std.proofs.lemmas.Bool.Decides.{nat_tests}
use Rattle.std.specs.Prelude.{if◌then◌else◌, ◌==◌, nat_lt}
use Rattle.std.specs.Option.{option_map_or}
use Rattle.wm_program.specs.declared.program.InstanceInfo.{InstanceInfo}
use Rattle.wm_program.specs.WellFormed.{Has, Calling, is_caller, called_from, roots_among}
use Rattle.wm_heads.specs.Tally.{called}
use Rattle.wm_heads.proofs.Ranks.{equal_true, equal_false}

-- a number of each instance, by its caller
abbrev pub weigh : (ℕ → Option ℕ → ℕ) → ℕ → List InstanceInfo → ℕ
weigh g from [] = 0
weigh g from (info ∷ rest) = g from info.caller + weigh g (suc from) rest

-- the caller stands before
abbrev pub CallerBelow : ℕ → Option ℕ → Type 0
CallerBelow instance None = Unit {0}
CallerBelow instance (Some caller) = caller < instance

abbrev pub AreBelow : ℕ → List InstanceInfo → Type 0
AreBelow from [] = Unit {0}
AreBelow from (info ∷ rest) = CallerBelow from info.caller × AreBelow (suc from) rest

abbrev pub pick : Bool → ℕ → ℕ
pick true m = m
pick false m = 0

abbrev pub unless : Bool → ℕ → ℕ
unless true m = 0
unless false m = m

-- ---- what an instance calls

abbrev sum_of : (ℕ → ℕ) → List ℕ → ℕ
sum_of f [] = 0
sum_of f (x ∷ xs) = f x + sum_of f xs

called_sum : (f : ℕ → ℕ) (instance : ℕ) (calls : List Calling) → called f instance calls ≡ sum_of f (map (λ calling. instance + calling.offset) calls)
called_sum f instance [] = refl
called_sum f instance (calling ∷ rest) = omega (arith, called_sum f instance rest)

abbrev pub if_called : (ℕ → ℕ) → ℕ → ℕ → Option ℕ → ℕ
if_called f instance j caller = pick (is_caller instance caller) (f j)

called_weighs : (f : ℕ → ℕ) (instance from : ℕ) (infos : List InstanceInfo) → sum_of f (called_from instance from infos) ≡ weigh (if_called f instance) from infos
called_weighs f instance from [] = refl
called_weighs f instance from (info ∷ rest) = by (is_caller instance info.caller) (called_weighs f instance (suc from) rest)
  where
    by : (b : Bool) → sum_of f (called_from instance (suc from) rest) ≡ weigh (if_called f instance) (suc from) rest → sum_of f (if b then from ∷ called_from instance (suc from) rest else called_from instance (suc from) rest) ≡ pick b (f from) + weigh (if_called f instance) (suc from) rest
    by true e = omega (arith, e)
    by false e = omega (arith, e)

pub calls_weigh : (f : ℕ → ℕ) (instance : ℕ) (calls : List Calling) (infos : List InstanceInfo) → map (λ calling. instance + calling.offset) calls ≡ called_from instance 0 infos → called f instance calls ≡ weigh (if_called f instance) 0 infos
calls_weigh f instance calls infos e = called_sum f instance calls ∙ (rw e (called_weighs f instance 0 infos))

-- ---- sums that are the same, member by member

pub weigh_same : (g h : ℕ → Option ℕ → ℕ) (from : ℕ) (infos : List InstanceInfo) → AreBelow from infos → ((j : ℕ) (caller : Option ℕ) → CallerBelow j caller → j < from + length infos → g j caller ≡ h j caller) → weigh g from infos ≡ weigh h from infos
weigh_same g h from [] below same = refl
weigh_same g h from (info ∷ rest) below same =
    omega (arith, same from info.caller below.0 (omega arith), weigh_same g h (suc from) rest below.1 (λ j caller b less. same j caller b (omega arith)))

weigh_two : (g h k l : ℕ → Option ℕ → ℕ) (from : ℕ) (infos : List InstanceInfo) → AreBelow from infos → ((j : ℕ) (caller : Option ℕ) → CallerBelow j caller → g j caller + h j caller ≡ k j caller + l j caller) → weigh g from infos + weigh h from infos ≡ weigh k from infos + weigh l from infos
weigh_two g h k l from [] below same = refl
weigh_two g h k l from (info ∷ rest) below same =
    omega (arith, same from info.caller below.0, weigh_two g h k l (suc from) rest below.1 same)

-- ---- the instances from a number on whose callers stand before it

abbrev is_over : ℕ → Option ℕ → Bool
is_over k None = true
is_over k (Some caller) = nat_lt caller k

abbrev front : (ℕ → ℕ) → ℕ → ℕ → Option ℕ → ℕ
front f k j caller = unless (nat_lt j k) (pick (is_over k caller) (f j))

abbrev only : (ℕ → ℕ) → ℕ → ℕ → Option ℕ → ℕ
only f k j caller = pick (j == k) (f j)

pub less_true : (a b : ℕ) → a < b → nat_lt a b ≡ true
less_true a b e = grind (arith, nat_tests)

pub less_false : (a b : ℕ) → b ≤ a → nat_lt a b ≡ false
less_false a b e = grind (arith, nat_tests)

-- one more instance is passed
passed : (f : ℕ → ℕ) (k j : ℕ) (caller : Option ℕ) → CallerBelow j caller → front f (suc k) j caller + only f k j caller ≡ front f k j caller + if_called f k j caller
passed f k j None below =
    ⊎_elim
    (λ less. rw (less_true j (suc k) (omega (arith, less)), less_true j k less, equal_false j k (λ e. omega (arith, e, less))) refl)
    (λ more. ⊎_elim
    (λ up. rw (less_false j (suc k) (omega (arith, up)), less_false j k more, equal_false j k (λ e. omega (arith, e, up))) refl)
    (λ at. rw (less_true j (suc k) (omega (arith, at)), less_false j k more, equal_true j k (omega (arith, at, more))) (omega arith))
    (cases_lt k j))
    (cases_lt j k)
passed f k j (Some c) below =
    ⊎_elim
    (λ less. rw (less_true j (suc k) (omega (arith, less)), less_true j k less, equal_false j k (λ e. omega (arith, e, less)), equal_false c k (λ e. omega (arith, e, less, below))) refl)
    (λ more. ⊎_elim
    (λ up. rw (less_false j (suc k) (omega (arith, up)), less_false j k more, equal_false j k (λ e. omega (arith, e, up)))
    (⊎_elim
    (λ low. rw (less_true c (suc k) (omega (arith, low)), less_true c k low, equal_false c k (λ e. omega (arith, e, low))) refl)
    (λ high. ⊎_elim
    (λ over. rw (less_false c (suc k) (omega (arith, over)), less_false c k high, equal_false c k (λ e. omega (arith, e, over))) refl)
    (λ same. rw (less_true c (suc k) (omega (arith, same)), less_false c k high, equal_true c k (omega (arith, same, high))) (omega arith))
    (cases_lt k c))
    (cases_lt c k)))
    (λ at. rw (less_true j (suc k) (omega (arith, at)), less_false j k more, equal_true j k (omega (arith, at, more)), less_true c k (omega (arith, below, at)), equal_false c k (λ e. omega (arith, e, below, at))) (omega arith))
    (cases_lt k j))
    (cases_lt j k)

only_none : (f : ℕ → ℕ) (k from : ℕ) (infos : List InstanceInfo) → k < from → weigh (only f k) from infos ≡ 0
only_none f k from [] less = refl
only_none f k from (info ∷ rest) less = rw (equal_false from k (λ e. omega (arith, e, less))) (omega (arith, only_none f k (suc from) rest (omega arith)))

only_one : (f : ℕ → ℕ) (k from : ℕ) (infos : List InstanceInfo) → from ≤ k → k < from + length infos → weigh (only f k) from infos ≡ f k
only_one f k from [] a b = absurd (none k from a b)
  where
    none : (k from : ℕ) → from ≤ k → k < from + 0 → ⊥
    none k from a b = omega arith
only_one f k from (info ∷ rest) a b =
    ⊎_elim
    (λ less. rw (equal_false from k (λ e. omega (arith, e, less))) (omega (arith, only_one f k (suc from) rest less (omega arith))))
    (λ at. at_first (at_same from k a at))
    (cases_lt from k)
  where
    at_same : (from k : ℕ) → from ≤ k → k ≤ from → from ≡ k
    at_same from k a b = omega arith

    at_first : from ≡ k → weigh (only f k) from (info ∷ rest) ≡ f k
    at_first e = rw (equal_true from k e) (omega (arith, only_none f k (suc from) rest (omega arith), same f from k e))
      where
        same : (f : ℕ → ℕ) (a b : ℕ) → a ≡ b → f a ≡ f b
        same f a b e = cc

front_past : (f : ℕ → ℕ) (k from : ℕ) (infos : List InstanceInfo) → from + length infos ≤ k → weigh (front f k) from infos ≡ 0
front_past f k from [] past = refl
front_past f k from (info ∷ rest) past = rw (less_true from k (omega arith)) (omega (arith, front_past f k (suc from) rest (omega arith)))

-- so many from a number on
abbrev pub total : (ℕ → ℕ) → (from count : ℕ) → ℕ
total w from zero = 0
total w from (suc count) = w from + total w (suc from) count

module _ (f w : ℕ → ℕ) (infos : List InstanceInfo) (below : AreBelow 0 infos) (each : (k : ℕ) → k < length infos → f k ≡ w k + weigh (if_called f k) 0 infos) where
  front_total : (count k : ℕ) → k + count ≡ length infos → weigh (front f k) 0 infos ≡ total w k count
  front_total zero k e = front_past f k 0 infos (omega (arith, e))
  front_total (suc count) k e =
      omega (arith, front_total count (suc k) (omega (arith, e)), weigh_two (front f (suc k)) (only f k) (front f k) (if_called f k) 0 infos below (passed f k), only_one f k 0 infos (omega arith) (omega (arith, e)), each k (omega (arith, e)))

  abbrev pub if_root : ℕ → Option ℕ → ℕ
  if_root j None = f j
  if_root j (Some caller) = 0

  root_front : (j : ℕ) (caller : Option ℕ) → if_root j caller ≡ front f 0 j caller
  root_front j None = rw (less_false j 0 (omega arith)) refl
  root_front j (Some c) = rw (less_false j 0 (omega arith), less_false c 0 (omega arith)) refl

  pub roots_total : weigh if_root 0 infos ≡ total w 0 (length infos)
  roots_total = weigh_same if_root (front f 0) 0 infos below (λ j caller b less. root_front j caller) ∙ front_total (length infos) 0 (omega arith)

-- ---- the roots

abbrev pub root_part : (ℕ → ℕ) → ℕ → Option ℕ → ℕ
root_part f j None = f j
root_part f j (Some caller) = 0

-- with one caller more or less
no_root_by : (f : ℕ → ℕ) (from : ℕ) (caller : Option ℕ) (count rest : ℕ) → option_map_or (λ it. count) caller (suc count) ≡ 0 → (count ≡ 0 → rest ≡ 0) → root_part f from caller + rest ≡ 0
no_root_by f from None count rest e go = absurd (never count e)
  where
    never : (n : ℕ) → suc n ≡ 0 → ⊥
    never n e = omega arith
no_root_by f from (Some caller) count rest e go = omega (arith, go e)

no_roots : (f : ℕ → ℕ) (from : ℕ) (infos : List InstanceInfo) → roots_among infos ≡ 0 → weigh (root_part f) from infos ≡ 0
no_roots f from [] e = refl
no_roots f from (info ∷ rest) e = no_root_by f from info.caller (roots_among rest) _ e (no_roots f (suc from) rest)

no_has : (infos : List InstanceInfo) (k : ℕ) → roots_among infos ≡ 0 → Has infos k (λ it. it.caller ≡ None) → ⊥
no_has [] k e h = h
no_has (info ∷ rest) zero e h = never (roots_among rest) (rw h at e)
  where
    never : (n : ℕ) → suc n ≡ 0 → ⊥
    never n e = omega arith
no_has (info ∷ rest) (suc k) e h = no_has rest k (left info.caller (roots_among rest) e) h
  where
    left : (caller : Option ℕ) (count : ℕ) → option_map_or (λ it. count) caller (suc count) ≡ 0 → count ≡ 0
    left None count e = omega (arith, e)
    left (Some caller) count e = e

equal_at : (f : ℕ → ℕ) (a b : ℕ) → a ≡ b → f a ≡ f b
equal_at f a b e = cc

-- the one root
one_root_by : (f : ℕ → ℕ) (from at : ℕ) (caller : Option ℕ) (count rest : ℕ) → option_map_or (λ it. count) caller (suc count) ≡ 1 → (count ≡ 0 → ⊥) → (count ≡ 1 → rest ≡ f at) → root_part f from caller + rest ≡ f at
one_root_by f from at None count rest e deny go = absurd (deny (omega arith))
one_root_by f from at (Some caller) count rest e deny go = omega (arith, go e)

pub one_root : (f : ℕ → ℕ) (from : ℕ) (infos : List InstanceInfo) (k at : ℕ) → at ≡ from + k → roots_among infos ≡ 1 → Has infos k (λ it. it.caller ≡ None) → weigh (root_part f) from infos ≡ f at
one_root f from [] k at s e h = absurd h
one_root f from (info ∷ rest) zero at s e h =
    first info.caller h (omega (arith, s)) e (no_roots f (suc from) rest)
  where
    first : (caller : Option ℕ) → caller ≡ None → from ≡ at → option_map_or (λ it. roots_among rest) caller (suc (roots_among rest)) ≡ 1 → (roots_among rest ≡ 0 → weigh (root_part f) (suc from) rest ≡ 0) → root_part f from caller + weigh (root_part f) (suc from) rest ≡ f at
    first None h s e go = omega (arith, go (omega (arith, e)), equal_at f from at s)
    first (Some caller) h s e go = cc
one_root f from (info ∷ rest) (suc k) at s e h =
    one_root_by f from at info.caller (roots_among rest) _ e (λ none. no_has rest k none h) (λ one. one_root f (suc from) rest k at (omega (arith, s)) one h)

-- the first instance and one more
pub two_roots : (f : ℕ → ℕ) (infos : List InstanceInfo) (k : ℕ) → 0 < k → roots_among infos ≡ 2 → Has infos 0 (λ it. it.caller ≡ None) → Has infos k (λ it. it.caller ≡ None) → weigh (root_part f) 0 infos ≡ f 0 + f k
two_roots f [] k past e h i = absurd h
two_roots f (info ∷ rest) zero past e h i = absurd (never past)
  where
    never : 0 < 0 → ⊥
    never p = omega arith
two_roots f (info ∷ rest) (suc k) past e h i = first info.caller h e (λ one. one_root f 1 rest k (suc k) (omega arith) one i)
  where
    first : (caller : Option ℕ) → caller ≡ None → option_map_or (λ it. roots_among rest) caller (suc (roots_among rest)) ≡ 2 → (roots_among rest ≡ 1 → weigh (root_part f) 1 rest ≡ f (suc k)) → root_part f 0 caller + weigh (root_part f) 1 rest ≡ f 0 + f (suc k)
    first None h e go = omega (arith, go (omega (arith, e)))
    first (Some caller) h e go = cc
