-- One call of a chain: the calls before it, and its own place.
use Rattle.std.proofs.Common.{◌≡◌, ◌∙◌, ℕ, zero, suc, ◌-◌, List, [], ◌∷◌, ◌++◌, Option, Some, None, refl, ap, sym, subst, append_assoc, arith}
use Rattle.std.specs.Prelude.{slice_get}
use Rattle.wm_lang.specs.declared.place.Place.{Place}
use Rattle.wm_program.specs.declared.program.InstanceInfo.{InstanceInfo}
use Rattle.wm_findings_text.specs.Places.{calls_to, caller_in, call_in, call_text}

pub one_call : (sources : List (List ℕ)) (instances : List InstanceInfo) (levels instance : ℕ) (old mid new : List ℕ) → (levels ≡ 0 → ⊥) → mid ≡ old ++ calls_to sources instances (levels - 1) (caller_in (slice_get instances instance)) → new ≡ mid ++ call_text sources (call_in (slice_get instances instance)) → new ≡ old ++ calls_to sources instances levels (Some instance)
unfolding calls_to
one_call sources instances zero instance old mid new h m g = absurd (h refl)
one_call sources instances (suc levels) instance old mid new h m g =
    let e : suc levels - 1 ≡ levels = omega arith in
    let caller = caller_in (slice_get instances instance) in
    let call = call_text sources (call_in (slice_get instances instance)) in
    g
    ∙ (ap (λ list. list ++ call) (m ∙ ap (λ n. old ++ calls_to sources instances n caller) e)
    ∙ append_assoc old (calls_to sources instances levels caller) call)

pub call_behind : (sources : List (List ℕ)) (instances : List InstanceInfo) (levels instance : ℕ) (which above : Option ℕ) (call : Option Place) (old mid new : List ℕ) → which ≡ Some instance → (levels ≡ 0 → ⊥) → above ≡ caller_in (slice_get instances instance) → call ≡ call_in (slice_get instances instance) → mid ≡ old ++ calls_to sources instances (levels - 1) above → new ≡ mid ++ call_text sources call → new ≡ old ++ calls_to sources instances levels which
call_behind sources instances levels instance which above call old mid new w h a c m g =
    one_call sources instances levels instance old mid new h
    (m ∙ ap (λ it. old ++ calls_to sources instances (levels - 1) it) a)
    (g ∙ ap (λ it. mid ++ call_text sources it) c)
    ∙ ap (λ it. old ++ calls_to sources instances levels it) (sym w)
