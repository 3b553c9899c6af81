-- The boxes of one site lie in the types of its operator.
use Rattle.std.proofs.Common.{◌≡◌, ◌∙◌, sym, subst, ap, ℕ, zero, suc, List, [], ◌∷◌, ◌++◌, Some}
use Rattle.wm_program.specs.declared.program.SiteInfo.{SiteInfo}
use Rattle.wm_findings.specs.declared.findings.Verdict.{Verdict}
use Rattle.wm_headroom_text.specs.Open.{Fits, FitEach, open_in}

one_fits : (site : SiteInfo) (verdict : Verdict) → Fits (open_in site.kind (Some verdict)) → FitEach (site ∷ []) (verdict ∷ [])
one_fits site verdict h zero = h
one_fits site verdict h (suc k) = tt

pub fit_pushed : (sites old_sites : List SiteInfo) (verdicts old_verdicts : List Verdict) (site : SiteInfo) (verdict : Verdict) → sites ≡ old_sites ++ site ∷ [] → old_sites ≡ [] → verdicts ≡ old_verdicts ++ verdict ∷ [] → old_verdicts ≡ [] → Fits (open_in site.kind (Some verdict)) → FitEach sites verdicts
fit_pushed sites old_sites verdicts old_verdicts site verdict e e_none f f_none h =
    let one : sites ≡ site ∷ [] = e ∙ ap (λ (xs : List SiteInfo). xs ++ site ∷ []) e_none in
    let only : verdicts ≡ verdict ∷ [] = f ∙ ap (λ (xs : List Verdict). xs ++ verdict ∷ []) f_none in
    subst (λ (xs : List SiteInfo). FitEach xs verdicts) (sym one) (subst (λ (ys : List Verdict). FitEach (site ∷ []) ys) (sym only) (one_fits site verdict h))
