-- The shifts of all sites.
use Rattle.std.proofs.Common.{◌≡◌, ℕ, ◌+◌, ◌<◌, ◌≤◌, ◌⊎◌, inl, inr, ⊎_elim, List, [], ◌∷◌, ◌++◌, length, get_or, Option, None, subst, sym, ap, ◌∙◌, arith}
use Rattle.std.specs.Prelude.{slice_get}
use Rattle.std.proofs.Math.ListN.{get_or-append}
use Rattle.std.proofs.Math.Seq.{get_or-append_seam}
use Rattle.std.proofs.lemmas.Bool.{cases_eq, cases_lt}
use Rattle.std.proofs.lemmas.List.{length-append}
use Rattle.std.proofs.lemmas.Option.{slice_get_past}
use Rattle.wm_program.specs.declared.program.SiteInfo.{SiteInfo}
use Rattle.wm_findings.specs.declared.findings.Verdict.{Verdict}
use Rattle.wm_headroom_text.specs.Open.{open_at, AreShifts, IsShift}

abbrev pub Each : List SiteInfo → List Verdict → List (Option ℕ) → ℕ → Type 0
Each sites verdicts shifts k = (n : ℕ) → n < k → IsShift (open_at (slice_get sites n) (slice_get verdicts n)) (get_or shifts n None)

pub one_more : (sites : List SiteInfo) (verdicts : List Verdict) (shifts new : List (Option ℕ)) (k : ℕ) (shift : Option ℕ) → length shifts ≡ k → new ≡ shifts ++ shift ∷ [] → Each sites verdicts shifts k → IsShift (open_at (slice_get sites k) (slice_get verdicts k)) shift → Each sites verdicts new (k + 1)
one_more sites verdicts shifts new k shift count grown each this n within =
    ⊎_elim
    (λ (e : n ≡ k).
    let here : get_or new n None ≡ shift = ap (λ (xs : List (Option ℕ)). get_or xs n None) grown ∙ ap (λ (i : ℕ). get_or (shifts ++ shift ∷ []) i None) (e ∙ sym count) ∙ get_or-append_seam shifts shift [] None in
    subst (λ (s : Option ℕ). IsShift (open_at (slice_get sites n) (slice_get verdicts n)) s) (sym here) (subst (λ (i : ℕ). IsShift (open_at (slice_get sites i) (slice_get verdicts i)) shift) (sym e) this))
    (λ (ne : n ≡ k → ⊥).
    let before : n < k = omega (arith, within, ne) in
    let inside : n < length shifts = subst (λ (m : ℕ). n < m) (sym count) before in
    let there : get_or new n None ≡ get_or shifts n None = ap (λ (xs : List (Option ℕ)). get_or xs n None) grown ∙ get_or-append shifts (shift ∷ []) None n inside in
    subst (λ (s : Option ℕ). IsShift (open_at (slice_get sites n) (slice_get verdicts n)) s) (sym there) (each n before))
    (cases_eq n k)

pub all_sites : (sites : List SiteInfo) (verdicts : List Verdict) (shifts : List (Option ℕ)) (k : ℕ) → length sites ≤ k → Each sites verdicts shifts k → AreShifts sites verdicts shifts
all_sites sites verdicts shifts k past each n =
    ⊎_elim
    (λ (before : n < k). each n before)
    (λ (behind : k ≤ n).
    let none : slice_get sites n ≡ None = slice_get_past sites n (omega (arith, past, behind)) in
    subst (λ site. IsShift (open_at site (slice_get verdicts n)) (get_or shifts n None)) (sym none) tt)
    (cases_lt n k)

pub length_more : (shifts new : List (Option ℕ)) (k : ℕ) (shift : Option ℕ) → length shifts ≡ k → new ≡ shifts ++ shift ∷ [] → length new ≡ k + 1
length_more shifts new k shift count grown = ap length grown ∙ omega (arith, count, length-append shifts (shift ∷ []))
