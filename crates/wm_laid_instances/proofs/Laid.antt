-- The instances of init and of the frame function.
use Rattle.std.proofs.Common.{◌≡◌, ℕ, zero, suc, ◌<◌, ◌≤◌, List, [], ◌∷◌, length, Option, Some, None, refl, sym, ap, subst, ◌∙◌, arith}
use Rattle.std.proofs.lemmas.List.Elements.{All-nil}
use Rattle.std.specs.List.{All}
use Rattle.std.specs.Option.{option_map_or}
use Rattle.std.specs.Prelude.{slice_get}
use Rattle.wm_program.specs.declared.program.InstanceInfo.{InstanceInfo}
use Rattle.wm_program.specs.WellFormed.{roots_among, root_count}
use Rattle.wm_scope.specs.declared.reading.CallPlace.{CallPlace}
use Rattle.wm_calls.specs.Sizes.{size_at, size_in, sizes_of}
use Rattle.wm_instances.specs.Instances.{root_instance}
use Rattle.wm_assemble.specs.Plans.{with_instance, first_number}
use Rattle.wm_laying.specs.Laws.{sizes_after}
use Rattle.wm_laying.proofs.Adding.{stays}
use Rattle.wm_laying.proofs.Laying.{size_after, begins}
use Rattle.wm_laying.proofs.Roots.{instances_of, root_begins}
use Rattle.wm_laying.proofs.Sums.{size_more}
use Rattle.wm_laid_instances.specs.Laws.{laid, frame_at, IsLaid, IsLaidInit, StandsFirst}

after_rounds : (calls : List (List CallPlace)) (function : ℕ) → IsLaid calls function → 0 < size_at (sizes_after (length calls) calls) function
unfolding sizes_of
after_rounds calls function h = h

pub roots_count : (calls : List (List CallPlace)) (init : Option ℕ) (root : ℕ) → IsLaidInit calls init → IsLaid calls root → roots_among (laid calls init root) ≡ root_count (first_number init)
roots_count calls None root i h = root_begins (length calls) calls root [] (after_rounds calls root h)
roots_count calls (Some init) root i h =
    root_begins (length calls) calls root (with_instance calls (Some init) []) (after_rounds calls root h)
    ∙ ap suc (root_begins (length calls) calls init [] (after_rounds calls init i))

pub frame_stands : (calls : List (List CallPlace)) (init : Option ℕ) (root : ℕ) → IsLaid calls root → slice_get (laid calls init root) (frame_at calls init) ≡ Some (root_instance root)
frame_stands calls init root h = begins (length calls) calls (root_instance root) (with_instance calls init []) (after_rounds calls root h)

is_some : (xs : List InstanceInfo) (x : InstanceInfo) → slice_get xs 0 ≡ Some x → 0 < length xs
is_some [] x e = cc
is_some (y ∷ xs) x e = omega arith

pub init_stands : (calls : List (List CallPlace)) (init : Option ℕ) (root : ℕ) → IsLaidInit calls init → StandsFirst calls init root
init_stands calls None root i = refl
init_stands calls (Some init) root i =
    let first : slice_get (with_instance calls (Some init) []) 0 ≡ Some (root_instance init) = begins (length calls) calls (root_instance init) [] (after_rounds calls init i) in (
      is_some (with_instance calls (Some init) []) (root_instance init) first,
      stays (length calls) calls (root_instance root) (with_instance calls (Some init) []) 0 (root_instance init) first,
    )

none_of : (calls : List (List CallPlace)) (init : Option ℕ) → All (λ it. it.function < length calls) (with_instance calls init [])
none_of calls None = All-nil (λ (it : InstanceInfo). it.function < length calls)
none_of calls (Some init) = instances_of (length calls) calls (root_instance init) [] (All-nil (λ (it : InstanceInfo). it.function < length calls))

pub functions_there : (calls : List (List CallPlace)) (init : Option ℕ) (root : ℕ) → All (λ it. it.function < length calls) (laid calls init root)
functions_there calls init root = instances_of (length calls) calls (root_instance root) (with_instance calls init []) (none_of calls init)

-- ---- each function that is there has an instance

one_at_least : (sizes : List ℕ) (places : List CallPlace) → 0 < size_in sizes places
one_at_least sizes places = more (size_in sizes places) (size_more sizes 1 places (omega arith))
  where
    more : (n : ℕ) → 1 ≤ n → 0 < n
    more n l = omega (arith, l)

size_there : (sizes : List ℕ) (calls : List (List CallPlace)) (function : ℕ) → function < length calls → 0 < option_map_or (size_in sizes) (slice_get calls function) 0
size_there sizes [] function l = absurd (none function l)
  where
    none : (k : ℕ) → k < 0 → ⊥
    none k l = omega (arith, l)
size_there sizes (places ∷ calls) zero l = one_at_least sizes places
size_there sizes (places ∷ calls) (suc function) l = size_there sizes calls function (omega (arith, l))

pub laid_where_there : (calls : List (List CallPlace)) (function : ℕ) → function < length calls → IsLaid calls function
unfolding sizes_of
laid_where_there [] function l = absurd (none function l)
  where
    none : (k : ℕ) → k < 0 → ⊥
    none k l = omega (arith, l)
laid_where_there (places ∷ calls) function l =
    subst (λ n. 0 < n) (sym (size_after (length calls) (places ∷ calls) function)) (size_there (sizes_after (length calls) (places ∷ calls)) (places ∷ calls) function l)
