-- The caller of an instance stands before it, since the instances are numbered depth first.
use Rattle.std.proofs.Common.{◌≡◌, ℕ, zero, suc, ◌+◌, ◌<◌, ◌≤◌, List, [], ◌∷◌, length, Option, Some, None, Bool, true, false, refl, arith, ⊎_elim, ◌⊎◌, inl, inr}
use Rattle.std.specs.Prelude.{IsTrue, IsSomeAnd, ◌||◌, ◌==◌, slice_get}
use Rattle.std.specs.Option.{option_map_or}
use Rattle.std.proofs.lemmas.Bool.{cases_lt}
use Rattle.std.proofs.lemmas.Bool.Decides.{nat_tests}
use Rattle.std.proofs.lemmas.Option.{slice_get_past, slice_get-get_or}
use Rattle.wm_program.specs.declared.program.InstanceInfo.{InstanceInfo}
use Rattle.wm_program.specs.Code.{Code}
use Rattle.wm_program.specs.WellFormed.{Has, is_above, InitFits, RootFits, WellFormedCode}
use Rattle.wm_heads.proofs.Runs.{has_map}
use Rattle.wm_heads.proofs.Sums.{CallerBelow, AreBelow}

pub equal : (a b : ℕ) → (a == b) ≡ true → a ≡ b
equal a b e = grind (arith, nat_tests)

below_none : (j : ℕ) (caller : Option ℕ) → caller ≡ None → CallerBelow j caller
below_none j None e = tt
below_none j (Some caller) e = cc

module _ (code : Code) where
  abbrev Below : ℕ → Type 0
  Below j = (info : InstanceInfo) → slice_get code.instances j ≡ Some info → CallerBelow j info.caller

  above_by : (b : Bool) (rest : Bool) (instance above : ℕ) → (b ≡ true → instance ≡ above) → (rest ≡ true → above ≤ instance) → IsTrue (b || rest) → above ≤ instance
  above_by true rest instance above e go h = omega (arith, e refl)
  above_by false rest instance above e go h = go h

  through_caller : (instance above fuel : ℕ) (caller : Option ℕ) → CallerBelow instance caller → ((it : ℕ) → it < instance → is_above code fuel it above ≡ true → above ≤ it) → option_map_or (λ caller. is_above code fuel caller above) caller false ≡ true → above ≤ instance
  through_caller instance above fuel None below go e = cc
  through_caller instance above fuel (Some caller) below go e = omega (arith, below, go caller below e)

  through_instance : (instance above fuel : ℕ) (found : Option InstanceInfo) → ((info : InstanceInfo) → found ≡ Some info → CallerBelow instance info.caller) → ((it : ℕ) → it < instance → is_above code fuel it above ≡ true → above ≤ it) → option_map_or (λ it. option_map_or (λ caller. is_above code fuel caller above) it.caller false) found false ≡ true → above ≤ instance
  through_instance instance above fuel None below go e = cc
  through_instance instance above fuel (Some info) below go e =
      through_caller instance above fuel info.caller (below info refl) go e

  above_low : (m : ℕ) → ((j : ℕ) → j < m → Below j) → (fuel instance above : ℕ) → instance < m → is_above code fuel instance above ≡ true → above ≤ instance
  above_low m below zero instance above less e = cc
  above_low m below (suc fuel) instance above less e =
      above_by (instance == above) _ instance above (equal instance above)
      (through_instance instance above fuel (slice_get code.instances instance) (below instance less) (λ it under h. above_low m below fuel it above (omega arith) h))
      e

  module _ (formed : WellFormedCode code) where
    root_at : (k : ℕ) → Has code.instances k (RootFits code k) → Has code.instances k (λ it. it.caller ≡ None)
    root_at k h = has_map (RootFits code k) (λ it. it.caller ≡ None) code.instances k (λ it r. r.caller) h

    pub frame_root : Has code.instances code.frame (λ it. it.caller ≡ None)
    frame_root = root_at code.frame formed.frame

    first_by : (init : Option ℕ) → InitFits code init → Has code.instances 0 (λ it. it.caller ≡ None)
    first_by None h = rw h at frame_root
    first_by (Some init) h = rw h.0 at (root_at init h.2)

    pub first_root : Has code.instances 0 (λ it. it.caller ≡ None)
    first_root = first_by code.init formed.init

    has_some : (P : InstanceInfo → Type 0) (found : Option InstanceInfo) (info : InstanceInfo) → found ≡ Some info → IsSomeAnd found P → P info
    has_some P None info e h = absurd h
    has_some P (Some it) info e h = rw (same it info e) at h
      where
        same : (a b : InstanceInfo) → Some a ≡ Some b → a ≡ b
        same a b e = cc

    next_below : (k : ℕ) (caller : Option ℕ) → ((above : ℕ) → is_above code (length code.instances) k above ≡ true → above ≤ k) → IsSomeAnd caller (λ caller. IsTrue (is_above code (length code.instances) k caller)) ⊎ (caller ≡ None) → CallerBelow (suc k) caller
    next_below k None low h = tt
    next_below k (Some caller) low (inl h) = omega (arith, low caller h)
    next_below k (Some caller) low (inr e) = cc

    below_at : (j : ℕ) → ((i : ℕ) → i < j → Below i) → Below j
    below_at zero go info e = below_none 0 info.caller (has_some (λ it. it.caller ≡ None) (slice_get code.instances 0) info e first_root)
    below_at (suc k) go info e =
        let within : k < length code.instances = omega (arith, within_of (suc k) info e) in
        let fits = formed.instances k _ (slice_get-get_or code.instances k info within) in
        ⊎_elim
        (λ h. next_below k info.caller (λ above t. above_low (suc k) go (length code.instances) k above (omega arith) t) (has_some (λ it. IsSomeAnd it.caller (λ caller. IsTrue (is_above code (length code.instances) k caller)) ⊎ (it.caller ≡ None)) (slice_get code.instances (suc k)) info e h))
        (λ past. absurd (none k past (within_of (suc k) info e)))
        fits.next
      where
        within_of : (k : ℕ) (info : InstanceInfo) → slice_get code.instances k ≡ Some info → k < length code.instances
        within_of k info e = ⊎_elim (λ less. less) (λ past. absurd (never info (rw (slice_get_past code.instances k past) at e))) (cases_lt k (length code.instances))
          where
            never : (info : InstanceInfo) → None ≡ Some info → ⊥
            never info e = cc

        none : (k : ℕ) → length code.instances ≤ suc k → suc k < length code.instances → ⊥
        none k a b = omega arith

    all_below : (m j : ℕ) → j < m → Below j
    all_below zero j less = absurd (never j less)
      where
        never : (j : ℕ) → j < 0 → ⊥
        never j less = omega arith
    all_below (suc m) j less = below_at j (λ i under. all_below m i (omega arith))

    listed : (infos : List InstanceInfo) (from : ℕ) → ((k : ℕ) (info : InstanceInfo) → slice_get infos k ≡ Some info → CallerBelow (from + k) info.caller) → AreBelow from infos
    listed [] from on = tt
    listed (info ∷ rest) from on =
        (rw (plus_none from) at (on 0 info refl), listed rest (suc from) (λ k it e. rw (plus_one from k) at (on (suc k) it e)))
      where
        plus_none : (a : ℕ) → a + 0 ≡ a
        plus_none a = omega arith

        plus_one : (a k : ℕ) → a + suc k ≡ suc a + k
        plus_one a k = omega arith

    pub callers_below : AreBelow 0 code.instances
    callers_below = listed code.instances 0 (λ k info e. rw (left k) at (all_below (suc k) k (omega arith) info e))
      where
        left : (k : ℕ) → k ≡ 0 + k
        left k = omega arith
