-- An instance and all that it leads to, one call after the other.
use Rattle.std.proofs.Common.{◌≡◌, ◌∙◌, ap, refl, sym, ℕ, zero, suc, ◌+◌, ◌-◌, ◌<◌, drop, get_or, List, [], ◌∷◌, ◌++◌, length, Some, None, arith}
use Rattle.std.proofs.Math.Seq.{drop-cons}
use Rattle.std.specs.Prelude.{slice_get}
use Rattle.std.specs.Option.{option_map_or}
use Rattle.wm_program.specs.declared.program.InstanceInfo.{InstanceInfo}
use Rattle.wm_program.specs.declared.program.Root.{Root}
use Rattle.wm_scope.specs.declared.reading.CallPlace.{CallPlace}
use Rattle.wm_instances.specs.Instances.{grown, grown_each, grown_by, called}

pub nothing : (depth : ℕ) (calls : List (List CallPlace)) (info : InstanceInfo) (made : List InstanceInfo) → depth ≡ 0 → made ≡ grown depth calls info made
unfolding grown
nothing zero calls info made e = refl
nothing (suc depth) calls info made e = absurd (omega arith)

pub nowhere : (depth : ℕ) (calls : List (List CallPlace)) (info : InstanceInfo) (made : List InstanceInfo) → None ≡ slice_get calls info.function → made ≡ grown depth calls info made
unfolding grown
nowhere zero calls info made e = refl
nowhere (suc depth) calls info made e =
    ap (λ o. option_map_or (λ places. grown_each (λ place. grown depth calls (called (length made) info.roots place)) places (made ++ info ∷ [])) o made) e

-- as its calls begin
pub begun : (depth : ℕ) (calls : List (List CallPlace)) (info : InstanceInfo) (made : List InstanceInfo) (places : List CallPlace) (number : ℕ) (roots : List Root) → (depth ≡ 0 → ⊥) → Some places ≡ slice_get calls info.function → number ≡ length made → roots ≡ info.roots → grown_each (grown_by (depth - 1) calls number roots) places (made ++ info ∷ []) ≡ grown depth calls info made
unfolding grown grown_by
begun zero calls info made places number roots h e n r = absurd (h refl)
begun (suc depth) calls info made places number roots h e n r =
    let same : suc depth - 1 ≡ depth = omega arith in
    ap (λ d. grown_each (grown_by d calls number roots) places (made ++ info ∷ [])) same
    ∙ ap (λ k. grown_each (grown_by depth calls k roots) places (made ++ info ∷ [])) n
    ∙ ap (λ r. grown_each (grown_by depth calls (length made) r) places (made ++ info ∷ [])) r
    ∙ ap (λ o. option_map_or (λ places. grown_each (λ place. grown depth calls (called (length made) info.roots place)) places (made ++ info ∷ [])) o made) e

pub one : (depth : ℕ) (calls : List (List CallPlace)) (number : ℕ) (roots : List Root) (place : CallPlace) (made : List InstanceInfo) → grown_by depth calls number roots place made ≡ grown depth calls (called number roots place) made
unfolding grown_by
one depth calls number roots place made = refl

-- one call on
pub on : (depth : ℕ) (calls : List (List CallPlace)) (number : ℕ) (roots : List Root) (places : List CallPlace) (k : ℕ) (place : CallPlace) (next : InstanceInfo) (made grew all : List InstanceInfo) → k < length places → place ≡ get_or places k place → next ≡ called number roots place → grew ≡ grown depth calls next made → grown_each (grown_by depth calls number roots) (drop k places) made ≡ all → grown_each (grown_by depth calls number roots) (drop (k + 1) places) grew ≡ all
unfolding grown_by
on depth calls number roots places k place next made grew all within is n g h =
    let e : drop k places ≡ get_or places k place ∷ drop (suc k) places = drop-cons places k place within in
    let s : k + 1 ≡ suc k = omega arith in
    let f : CallPlace → List InstanceInfo → List InstanceInfo = grown_by depth calls number roots in
    ap (λ j. grown_each f (drop j places) grew) s
    ∙ ap (grown_each f (drop (suc k) places)) (g ∙ ap (λ i. grown depth calls i made) n ∙ ap (λ p. f p made) is)
    ∙ sym (ap (λ ps. grown_each f ps made) e)
    ∙ h
