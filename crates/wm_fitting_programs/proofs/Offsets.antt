-- The offsets of calls.
use Rattle.std.proofs.Common.{◌≡◌, ℕ, zero, suc, ◌<◌, List, [], ◌∷◌, ◌++◌, length, map, Some, sym, ap, subst, arith}
use Rattle.std.specs.Option.{option_map_or}
use Rattle.std.specs.Prelude.{slice_get}
use Rattle.wm_scope.specs.declared.reading.CallPlace.{CallPlace}
use Rattle.wm_calls.specs.Sizes.{size_at, plus, offsets_from, offsets_in, offsets_of}
use Rattle.wm_reading.specs.Reading.{offsets_at}
use Rattle.wm_fitting.proofs.Collecting.{get_front}
use Rattle.wm_fitting_functions.specs.Units.{AreOffsets}
use Rattle.wm_fitting_programs.specs.Laws.{HasOffsets}

pub map_get : {X Y : Type 0} (f : X → Y) (xs : List X) (k : ℕ) (x : X) → slice_get xs k ≡ Some x → slice_get (map f xs) k ≡ Some (f x)
map_get f [] k x e = cc
map_get f (y ∷ xs) zero x e = ap (λ z. Some (f z)) (same y x e)
  where
    same : {X : Type 0} (a b : X) → Some a ≡ Some b → a ≡ b
    same a b e = cc
map_get f (y ∷ xs) (suc k) x e = map_get f xs k x e

pub plus_positive : (a b : ℕ) → 0 < a → 0 < plus a b
plus_positive a b h = omega (arith, h)

from_positive : (sizes : List ℕ) (offset : ℕ) (places : List CallPlace) → 0 < offset → AreOffsets (offsets_from sizes offset places) (length places)
from_positive sizes offset [] h k l = absurd (none k l)
  where
    none : (k : ℕ) → k < 0 → ⊥
    none k l = omega (arith, l)
from_positive sizes offset (place ∷ rest) h zero l = h
from_positive sizes offset (place ∷ rest) h (suc k) l =
    from_positive sizes (plus offset (size_at sizes place.function)) rest (plus_positive offset (size_at sizes place.function) h) k (omega (arith, l))

pub offsets_count : (sizes : List ℕ) (calls more : List (List CallPlace)) → HasOffsets (offsets_of sizes (calls ++ more)) calls
unfolding offsets_of
offsets_count sizes calls more k places e =
    let there = map_get (offsets_in sizes) (calls ++ more) k places (get_front calls more k places e) in
    let its : offsets_at k (map (offsets_in sizes) (calls ++ more)) ≡ offsets_in sizes places = ap (λ o. option_map_or (λ (xs : List ℕ). xs) o []) there in
    subst (λ xs. AreOffsets xs (length places)) (sym its) (from_positive sizes 1 places (omega arith))
