-- How many instances a function has, and where those of its calls stand.
use Rattle.std.proofs.Common.{◌≡◌, ℕ, zero, suc, ◌+◌, ◌<◌, ◌≤◌, List, [], ◌∷◌, ◌++◌, length, map, get_or, Option, Some, None, refl, sym, ap, subst, ◌∙◌, length-append, arith}
use Rattle.std.specs.Option.{option_map_or}
use Rattle.std.specs.Prelude.{slice_get}
use Rattle.wm_program.specs.declared.program.InstanceInfo.{InstanceInfo}
use Rattle.wm_scope.specs.declared.reading.CallPlace.{CallPlace}
use Rattle.wm_calls.specs.Repeated.{repeated}
use Rattle.wm_calls.specs.Sizes.{size_at, plus, size_from, size_in, size_round, offsets_from, offsets_in}
use Rattle.wm_instances.specs.Instances.{called, grown_each, grown}
use Rattle.wm_laying.specs.Laws.{sizes_after}
use Rattle.wm_laying.proofs.Adding.{Stays, each_stays, stays}
use Rattle.wm_laying.proofs.Sums.{top, plus_exact, plus_top, size_more, repeated_suc}

-- ---- sizes

-- the size that a round tells of a function
round_by : (calls : List (List CallPlace)) (sizes : List ℕ) (function : ℕ) → get_or (map (size_in sizes) calls) function 0 ≡ option_map_or (size_in sizes) (slice_get calls function) 0
round_by [] sizes function = refl
round_by (places ∷ calls) sizes zero = refl
round_by (places ∷ calls) sizes (suc function) = round_by calls sizes function

pub size_after : (depth : ℕ) (calls : List (List CallPlace)) (function : ℕ) → size_at (sizes_after (suc depth) calls) function ≡ option_map_or (size_in (sizes_after depth calls)) (slice_get calls function) 0
unfolding size_round
size_after depth calls function =
    ap (λ sizes. get_or sizes function 0) (repeated_suc depth (size_round calls) []) ∙ round_by calls (sizes_after depth calls) function

-- each call adds as many instances as its size tells
abbrev Adds : (CallPlace → List InstanceInfo → List InstanceInfo) → List ℕ → Type 0
Adds step sizes = (place : CallPlace) (made : List InstanceInfo) → size_at sizes place.function < top → length (step place made) ≡ length made + size_at sizes place.function

small : (sizes : List ℕ) (s x : ℕ) (rest : List CallPlace) → size_from sizes (plus s x) rest < top → plus s x < top
small sizes s x rest l = less (plus s x) (size_from sizes (plus s x) rest) top (size_more sizes (plus s x) rest (plus_top s x)) l
  where
    less : (a b c : ℕ) → a ≤ b → b < c → a < c
    less a b c h k = omega (arith, h, k)

part : (s x p t : ℕ) → p ≡ s + x → p < t → x < t
part s x p t e l = omega (arith, e, l)

each_adds : (step : CallPlace → List InstanceInfo → List InstanceInfo) (sizes : List ℕ) → Adds step sizes → (s : ℕ) (places : List CallPlace) (made : List InstanceInfo) → size_from sizes s places < top
    → length (grown_each step places made) + s ≡ length made + size_from sizes s places
each_adds step sizes h s [] made l = refl
each_adds step sizes h s (place ∷ rest) made l =
    let x = size_at sizes place.function in
    let p : plus s x < top = small sizes s x rest l in
    let e : plus s x ≡ s + x = plus_exact s x p in
    let one : length (step place made) ≡ length made + x = h place made (part s x (plus s x) top e p) in
    let more = each_adds step sizes h (plus s x) rest (step place made) l in
    joined (length (grown_each step rest (step place made))) s x (plus s x) (length (step place made)) (length made) (size_from sizes (plus s x) rest) e one more
  where
    joined : (g s x p m n z : ℕ) → p ≡ s + x → m ≡ n + x → g + p ≡ m + z → g + s ≡ n + z
    joined g s x p m n z e f h = omega (arith, e, f, h)

ended : (g m n z : ℕ) → m ≡ n + 1 → g + 1 ≡ m + z → g ≡ n + z
ended g m n z e h = omega (arith, e, h)

nothing : (m z : ℕ) → z ≡ 0 → m ≡ m + z
nothing m z e = omega (arith, e)

pub no_size : (calls : List (List CallPlace)) (function : ℕ) → size_at (sizes_after zero calls) function ≡ 0
unfolding repeated
no_size calls function = refl

-- a function at this depth has as many instances as its size tells
abbrev AreTold : ℕ → List (List CallPlace) → Type 0
AreTold depth calls =
    (info : InstanceInfo) (made : List InstanceInfo) → size_at (sizes_after depth calls) info.function < top
    → length (grown depth calls info made) ≡ length made + size_at (sizes_after depth calls) info.function

told_by : (depth : ℕ) (calls : List (List CallPlace)) → AreTold depth calls → (info : InstanceInfo) (made : List InstanceInfo) (o : Option (List CallPlace)) → option_map_or (size_in (sizes_after depth calls)) o 0 < top
    → length (option_map_or (λ places. grown_each (λ place. grown depth calls (called (length made) info.roots place)) places (made ++ info ∷ [])) o made) ≡ length made + option_map_or (size_in (sizes_after depth calls)) o 0
told_by depth calls t info made None l = omega arith
told_by depth calls t info made (Some places) l =
    let step = λ (place : CallPlace). grown depth calls (called (length made) info.roots place) in
    let h = each_adds step (sizes_after depth calls) (λ place more k. t (called (length made) info.roots place) more k) 1 places (made ++ info ∷ []) l in
    ended (length (grown_each step places (made ++ info ∷ []))) (length (made ++ info ∷ [])) (length made) (size_in (sizes_after depth calls) places) (length-append made (info ∷ [])) h

pub sizes_told : (depth : ℕ) (calls : List (List CallPlace)) (info : InstanceInfo) (made : List InstanceInfo) → size_at (sizes_after depth calls) info.function < top
    → length (grown depth calls info made) ≡ length made + size_at (sizes_after depth calls) info.function
unfolding grown
sizes_told zero calls info made l = nothing (length made) (size_at (sizes_after zero calls) info.function) (no_size calls info.function)
sizes_told (suc depth) calls info made l =
    let e = size_after depth calls info.function in
    told_by depth calls (λ i m k. sizes_told depth calls i m k) info made (slice_get calls info.function) (subst (λ n. n < top) e l) ∙ ap (λ n. length made + n) (sym e)

-- ---- where the instance of each call stands

-- the instance of the first call stands where the others end
abbrev Begins : (CallPlace → List InstanceInfo → List InstanceInfo) → (CallPlace → InstanceInfo) → List ℕ → Type 0
Begins step first sizes = (place : CallPlace) (made : List InstanceInfo) → 0 < size_at sizes place.function → slice_get (step place made) (length made) ≡ Some (first place)

same : {X : Type 0} (x y : X) → Some x ≡ Some y → x ≡ y
same x y e = cc

each_stands : (step : CallPlace → List InstanceInfo → List InstanceInfo) (first : CallPlace → InstanceInfo) (sizes : List ℕ) → Adds step sizes → Begins step first sizes → ((place : CallPlace) (made : List InstanceInfo) → Stays made (step place made))
    → (n s : ℕ) (places : List CallPlace) (made : List InstanceInfo) → size_from sizes s places < top → length made ≡ n + s
    → (j : ℕ) (place : CallPlace) (offset : ℕ) → slice_get places j ≡ Some place → slice_get (offsets_from sizes s places) j ≡ Some offset → 0 < size_at sizes place.function
    → slice_get (grown_each step places made) (n + offset) ≡ Some (first place)
each_stands step first sizes a b c n s [] made l e j place offset g h z = cc
each_stands step first sizes a b c n s (one ∷ rest) made l e zero place offset g h z =
    let p : one ≡ place = same one place g in
    let o : s ≡ offset = same s offset h in
    each_stays step c rest (step one made) (n + offset) (first place)
    (subst (λ k. slice_get (step one made) k ≡ Some (first place)) (e ∙ ap (λ k. n + k) o)
    (subst (λ q. slice_get (step one made) (length made) ≡ Some (first q)) p (b one made (subst (λ q. 0 < size_at sizes q.function) (sym p) z))))
each_stands step first sizes a b c n s (one ∷ rest) made l e (suc j) place offset g h z =
    let x = size_at sizes one.function in
    let p : plus s x < top = small sizes s x rest l in
    let f : plus s x ≡ s + x = plus_exact s x p in
    let more : length (step one made) ≡ length made + x = a one made (part s x (plus s x) top f p) in
    each_stands step first sizes a b c n (plus s x) rest (step one made) l (joined (length (step one made)) (length made) n s x (plus s x) more e f) j place offset g h z
  where
    joined : (m k n s x p : ℕ) → m ≡ k + x → k ≡ n + s → p ≡ s + x → m ≡ n + p
    joined m k n s x p f e g = omega (arith, f, e, g)

get_seam : (xs ys : List InstanceInfo) (x : InstanceInfo) → slice_get (xs ++ x ∷ ys) (length xs) ≡ Some x
get_seam [] ys x = refl
get_seam (y ∷ xs) ys x = get_seam xs ys x

begins_by : (depth : ℕ) (calls : List (List CallPlace)) (info : InstanceInfo) (made : List InstanceInfo) (o : Option (List CallPlace)) → 0 < option_map_or (size_in (sizes_after depth calls)) o 0
    → slice_get (option_map_or (λ places. grown_each (λ place. grown depth calls (called (length made) info.roots place)) places (made ++ info ∷ [])) o made) (length made) ≡ Some info
begins_by depth calls info made None l = absurd (none l)
  where
    none : 0 < 0 → ⊥
    none l = omega (arith, l)
begins_by depth calls info made (Some places) l =
    each_stays (λ place. grown depth calls (called (length made) info.roots place)) (λ place more. stays depth calls (called (length made) info.roots place) more) places (made ++ info ∷ []) (length made) info
    (get_seam made [] info)

-- a function that has an instance has its own first
pub begins : (depth : ℕ) (calls : List (List CallPlace)) (info : InstanceInfo) (made : List InstanceInfo) → 0 < size_at (sizes_after depth calls) info.function → slice_get (grown depth calls info made) (length made) ≡ Some info
unfolding grown
begins zero calls info made l = absurd (none (size_at (sizes_after zero calls) info.function) (no_size calls info.function) l)
  where
    none : (z : ℕ) → z ≡ 0 → 0 < z → ⊥
    none z e l = omega (arith, e, l)
begins (suc depth) calls info made l = begins_by depth calls info made (slice_get calls info.function) (subst (λ n. 0 < n) (size_after depth calls info.function) l)

pub offsets_told : (depth : ℕ) (calls : List (List CallPlace)) (info : InstanceInfo) (made : List InstanceInfo) (places : List CallPlace)
    → slice_get calls info.function ≡ Some places → size_in (sizes_after depth calls) places < top
    → (j : ℕ) (place : CallPlace) (offset : ℕ) → slice_get places j ≡ Some place → slice_get (offsets_in (sizes_after depth calls) places) j ≡ Some offset
    → 0 < size_at (sizes_after depth calls) place.function
    → slice_get (grown (suc depth) calls info made) (length made + offset) ≡ Some (called (length made) info.roots place)
unfolding grown
offsets_told depth calls info made places e l j place offset g h z =
    let step = λ (it : CallPlace). grown depth calls (called (length made) info.roots it) in
    subst (λ o. slice_get (option_map_or (λ its. grown_each (λ it. grown depth calls (called (length made) info.roots it)) its (made ++ info ∷ [])) o made) (length made + offset) ≡ Some (called (length made) info.roots place)) (sym e)
    (each_stands step (called (length made) info.roots) (sizes_after depth calls)
    (λ it more k. sizes_told depth calls (called (length made) info.roots it) more k)
    (λ it more k. begins depth calls (called (length made) info.roots it) more k)
    (λ it more. stays depth calls (called (length made) info.roots it) more)
    (length made) 1 places (made ++ info ∷ []) l (length-append made (info ∷ [])) j place offset g h z)
