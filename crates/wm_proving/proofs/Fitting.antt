-- The boxes at all sites.
use Rattle.std.proofs.Common.{◌≡◌, ℕ, ◌+◌, ◌<◌, ◌≤◌, ⊎_elim, List, length, None, sym, subst, below_more, arith}
use Rattle.std.specs.Prelude.{slice_get}
use Rattle.std.proofs.lemmas.Bool.{cases_lt}
use Rattle.std.proofs.lemmas.Option.{slice_get_past}
use Rattle.wm_program.specs.declared.program.SiteInfo.{SiteInfo}
use Rattle.wm_findings.specs.declared.findings.Verdict.{Verdict}
use Rattle.wm_headroom_text.specs.Open.{open_at, Fits, FitEach}

abbrev pub FitsAt : List SiteInfo → List Verdict → ℕ → Type 0
FitsAt sites verdicts n = Fits (open_at (slice_get sites n) (slice_get verdicts n))

-- the first so many fit
abbrev pub FitTo : List SiteInfo → List Verdict → ℕ → Type 0
FitTo sites verdicts k = (n : ℕ) → n < k → FitsAt sites verdicts n

pub one_more : (sites : List SiteInfo) (verdicts : List Verdict) (k : ℕ) → FitTo sites verdicts k → FitsAt sites verdicts k → FitTo sites verdicts (k + 1)
one_more sites verdicts k each this = below_more (FitsAt sites verdicts) k each this

pub all_sites : (sites : List SiteInfo) (verdicts : List Verdict) (k : ℕ) → length sites ≤ k → FitTo sites verdicts k → FitEach sites verdicts
all_sites sites verdicts k past each n =
    ⊎_elim
    (λ (before : n < k). each n before)
    (λ (behind : k ≤ n).
    let none : slice_get sites n ≡ None = slice_get_past sites n (omega (arith, past, behind)) in
    subst (λ site. Fits (open_at site (slice_get verdicts n))) (sym none) tt)
    (cases_lt n k)
