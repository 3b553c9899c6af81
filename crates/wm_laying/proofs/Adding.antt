-- Instances are only added.
use Rattle.std.proofs.Common.{◌≡◌, ℕ, zero, suc, List, [], ◌∷◌, ◌++◌, length, Option, Some, None}
use Rattle.std.specs.Option.{option_map_or}
use Rattle.std.specs.Prelude.{slice_get}
use Rattle.wm_program.specs.declared.program.InstanceInfo.{InstanceInfo}
use Rattle.wm_scope.specs.declared.reading.CallPlace.{CallPlace}
use Rattle.wm_instances.specs.Instances.{called, grown_each, grown}

-- the instances stay where they are
abbrev pub Stays : List InstanceInfo → List InstanceInfo → Type 0
Stays made more = (k : ℕ) (it : InstanceInfo) → slice_get made k ≡ Some it → slice_get more k ≡ Some it

get_front : (xs ys : List InstanceInfo) → Stays xs (xs ++ ys)
get_front [] ys k x e = cc
get_front (y ∷ xs) ys zero x e = e
get_front (y ∷ xs) ys (suc k) x e = get_front xs ys k x e

pub each_stays : (step : CallPlace → List InstanceInfo → List InstanceInfo) → ((place : CallPlace) (made : List InstanceInfo) → Stays made (step place made)) → (places : List CallPlace) (made : List InstanceInfo) → Stays made (grown_each step places made)
each_stays step h [] made k it e = e
each_stays step h (place ∷ rest) made k it e = each_stays step h rest (step place made) k it (h place made k it e)

stays_by : (depth : ℕ) (calls : List (List CallPlace)) → ((info : InstanceInfo) (made : List InstanceInfo) → Stays made (grown depth calls info made)) → (info : InstanceInfo) (made : List InstanceInfo) (o : Option (List CallPlace))
    → Stays made (option_map_or (λ places. grown_each (λ place. grown depth calls (called (length made) info.roots place)) places (made ++ info ∷ [])) o made)
stays_by depth calls h info made None k it e = e
stays_by depth calls h info made (Some places) k it e =
    each_stays (λ place. grown depth calls (called (length made) info.roots place)) (λ place more. h (called (length made) info.roots place) more) places (made ++ info ∷ []) k it
    (get_front made (info ∷ []) k it e)

pub stays : (depth : ℕ) (calls : List (List CallPlace)) (info : InstanceInfo) (made : List InstanceInfo) → Stays made (grown depth calls info made)
unfolding grown
stays zero calls info made k it e = e
stays (suc depth) calls info made k it e = stays_by depth calls (λ i m. stays depth calls i m) info made (slice_get calls info.function) k it e
