-- Which instances are called by none, and of which functions instances are.
use Rattle.std.proofs.Common.{◌≡◌, ℕ, zero, suc, ◌<◌, List, [], ◌∷◌, ◌++◌, length, Option, Some, None, refl, ap, subst, ◌∙◌, arith}
use Rattle.std.proofs.lemmas.List.Elements.{All-push}
use Rattle.std.specs.List.{All}
use Rattle.std.specs.Option.{option_map_or}
use Rattle.std.specs.Prelude.{slice_get}
use Rattle.wm_program.specs.declared.program.InstanceInfo.{InstanceInfo}
use Rattle.wm_program.specs.WellFormed.{roots_among}
use Rattle.wm_scope.specs.declared.reading.CallPlace.{CallPlace}
use Rattle.wm_calls.specs.Sizes.{size_at, size_in}
use Rattle.wm_instances.specs.Instances.{root_instance, called, grown_each, grown}
use Rattle.wm_laying.specs.Laws.{sizes_after}
use Rattle.wm_laying.proofs.Laying.{size_after, no_size}

-- ---- instances that are called by none

counts_alike : (o : Option ℕ) (m n : ℕ) → m ≡ n → option_map_or (λ caller. m) o (suc m) ≡ option_map_or (λ caller. n) o (suc n)
counts_alike None m n e = ap suc e
counts_alike (Some caller) m n e = e

counts_more : (o : Option ℕ) (m n : ℕ) → m ≡ suc n → option_map_or (λ caller. m) o (suc m) ≡ suc (option_map_or (λ caller. n) o (suc n))
counts_more None m n e = ap suc e
counts_more (Some caller) m n e = e

called_last : (xs : List InstanceInfo) (x : InstanceInfo) (caller : ℕ) → x.caller ≡ Some caller → roots_among (xs ++ x ∷ []) ≡ roots_among xs
called_last [] x caller e = ap (λ o. option_map_or (λ caller. 0) o 1) e
called_last (y ∷ xs) x caller e = counts_alike y.caller (roots_among (xs ++ x ∷ [])) (roots_among xs) (called_last xs x caller e)

root_last : (xs : List InstanceInfo) (x : InstanceInfo) → x.caller ≡ None → roots_among (xs ++ x ∷ []) ≡ suc (roots_among xs)
root_last [] x e = ap (λ o. option_map_or (λ caller. 0) o 1) e
root_last (y ∷ xs) x e = counts_more y.caller (roots_among (xs ++ x ∷ [])) (roots_among xs) (root_last xs x e)

each_keeps : (step : CallPlace → List InstanceInfo → List InstanceInfo) → ((place : CallPlace) (made : List InstanceInfo) → roots_among (step place made) ≡ roots_among made) → (places : List CallPlace) (made : List InstanceInfo) → roots_among (grown_each step places made) ≡ roots_among made
each_keeps step h [] made = refl
each_keeps step h (place ∷ rest) made = each_keeps step h rest (step place made) ∙ h place made

abbrev Keep : ℕ → List (List CallPlace) → Type 0
Keep depth calls = (info : InstanceInfo) (caller : ℕ) → info.caller ≡ Some caller → (made : List InstanceInfo) → roots_among (grown depth calls info made) ≡ roots_among made

keeps_by : (depth : ℕ) (calls : List (List CallPlace)) → Keep depth calls → (info : InstanceInfo) (made last : List InstanceInfo) (m : ℕ) → roots_among last ≡ m → (places : List CallPlace)
    → roots_among (grown_each (λ place. grown depth calls (called (length made) info.roots place)) places last) ≡ m
keeps_by depth calls h info made last m e places =
    each_keeps (λ place. grown depth calls (called (length made) info.roots place)) (λ place more. h (called (length made) info.roots place) (length made) refl more) places last ∙ e

called_by : (depth : ℕ) (calls : List (List CallPlace)) → Keep depth calls → (info : InstanceInfo) (caller : ℕ) → info.caller ≡ Some caller → (made : List InstanceInfo) (o : Option (List CallPlace))
    → roots_among (option_map_or (λ places. grown_each (λ place. grown depth calls (called (length made) info.roots place)) places (made ++ info ∷ [])) o made) ≡ roots_among made
called_by depth calls h info caller e made None = refl
called_by depth calls h info caller e made (Some places) = keeps_by depth calls h info made (made ++ info ∷ []) (roots_among made) (called_last made info caller e) places

-- an instance that is called brings no other that is not
pub roots_stay : (depth : ℕ) (calls : List (List CallPlace)) (info : InstanceInfo) (caller : ℕ) → info.caller ≡ Some caller → (made : List InstanceInfo) → roots_among (grown depth calls info made) ≡ roots_among made
unfolding grown
roots_stay zero calls info caller e made = refl
roots_stay (suc depth) calls info caller e made = called_by depth calls (λ i c d m. roots_stay depth calls i c d m) info caller e made (slice_get calls info.function)

root_by : (depth : ℕ) (calls : List (List CallPlace)) (function : ℕ) (made : List InstanceInfo) (o : Option (List CallPlace)) → 0 < option_map_or (size_in (sizes_after depth calls)) o 0
    → roots_among (option_map_or (λ places. grown_each (λ place. grown depth calls (called (length made) [] place)) places (made ++ root_instance function ∷ [])) o made) ≡ suc (roots_among made)
root_by depth calls function made None l = absurd (none l)
  where
    none : 0 < 0 → ⊥
    none l = omega (arith, l)
root_by depth calls function made (Some places) l =
    keeps_by depth calls (λ i c d m. roots_stay depth calls i c d m) (root_instance function) made (made ++ root_instance function ∷ []) (suc (roots_among made))
    (root_last made (root_instance function) refl) places

-- that of a function that nobody calls is one more
pub root_begins : (depth : ℕ) (calls : List (List CallPlace)) (function : ℕ) (made : List InstanceInfo) → 0 < size_at (sizes_after depth calls) function → roots_among (grown depth calls (root_instance function) made) ≡ suc (roots_among made)
unfolding grown
root_begins zero calls function made l = absurd (none (size_at (sizes_after zero calls) function) (no_size calls function) l)
  where
    none : (z : ℕ) → z ≡ 0 → 0 < z → ⊥
    none z e l = omega (arith, e, l)
root_begins (suc depth) calls function made l = root_by depth calls function made (slice_get calls function) (subst (λ n. 0 < n) (size_after depth calls function) l)

-- ---- instances are of functions that are there

abbrev IsOf : List (List CallPlace) → InstanceInfo → Type 0
IsOf calls it = it.function < length calls

is_there : (calls : List (List CallPlace)) (k : ℕ) (places : List CallPlace) → slice_get calls k ≡ Some places → k < length calls
is_there [] k places e = cc
is_there (y ∷ calls) zero places e = omega arith
is_there (y ∷ calls) (suc k) places e = omega (arith, is_there calls k places e)

each_of : (calls : List (List CallPlace)) (step : CallPlace → List InstanceInfo → List InstanceInfo) → ((place : CallPlace) (made : List InstanceInfo) → All (IsOf calls) made → All (IsOf calls) (step place made)) → (places : List CallPlace) (made : List InstanceInfo) → All (IsOf calls) made → All (IsOf calls) (grown_each step places made)
each_of calls step h [] made a = a
each_of calls step h (place ∷ rest) made a = each_of calls step h rest (step place made) (h place made a)

abbrev AreOf : ℕ → List (List CallPlace) → Type 0
AreOf depth calls = (info : InstanceInfo) (made : List InstanceInfo) → All (IsOf calls) made → All (IsOf calls) (grown depth calls info made)

of_by : (depth : ℕ) (calls : List (List CallPlace)) → AreOf depth calls → (info : InstanceInfo) (made : List InstanceInfo) → All (IsOf calls) made → (o : Option (List CallPlace)) → slice_get calls info.function ≡ o
    → All (IsOf calls) (option_map_or (λ places. grown_each (λ place. grown depth calls (called (length made) info.roots place)) places (made ++ info ∷ [])) o made)
of_by depth calls h info made a None e = a
of_by depth calls h info made a (Some places) e =
    each_of calls (λ place. grown depth calls (called (length made) info.roots place)) (λ place more b. h (called (length made) info.roots place) more b) places (made ++ info ∷ [])
    (All-push (IsOf calls) made info a (is_there calls info.function places e))

pub instances_of : (depth : ℕ) (calls : List (List CallPlace)) (info : InstanceInfo) (made : List InstanceInfo) → All (λ it. it.function < length calls) made → All (λ it. it.function < length calls) (grown depth calls info made)
unfolding grown
instances_of zero calls info made a = a
instances_of (suc depth) calls info made a = of_by depth calls (λ i m b. instances_of depth calls i m b) info made a (slice_get calls info.function) refl
