-- One source of those that are left.
use Rattle.std.proofs.Common.{◌≡◌, ℕ, suc, ◌+◌, ◌-◌, ◌<◌, ◌≤◌, List, [], ◌∷◌, ◌++◌, length, drop, get_or, Option, Result, Ok, Err, ◌⊎◌, inl, inr, refl, sym, ap, ◌∙◌, subst, arith}
use Rattle.std.proofs.Math.Seq.{drop-cons}
use Rattle.std.proofs.lemmas.List.{drop_all}
use Rattle.std.specs.Prelude.{Vec, vec_len}
use Rattle.std.specs.declared.alloc.Global.{Global}
use Rattle.wm_files.specs.Outside.{Held}
use Rattle.wm_report.specs.declared.fault.RunFault.{RunFault}
use Rattle.wm_report.specs.declared.fault.RunFault.TheVariants.{Memory}
use Rattle.wm_read.specs.Asking.{Asking, Leads}
use Rattle.wm_read.specs.Files.{source_asked, sources_asked, sources_behind}
use Rattle.wm_read.specs.Given.{IsText}
use Rattle.wm_read.proofs.Asked.{leads_on, leads_off}

-- what an asking leads to from here on, all leads to
abbrev pub GoesOn : Option Held → ℕ → ℕ → Asking (Result (List (List ℕ)) RunFault) → Asking (Result (List (List ℕ)) RunFault) → Type 0
GoesOn held a b left all = (end : ℕ) (r : Result (List (List ℕ)) RunFault) → b ≤ end → Leads held b end left r → Leads held a end all r

module _ (held : Option Held) (a b c : ℕ) (all : Asking (Result (List (List ℕ)) RunFault)) (room : ℕ) (texts : List (List ℕ)) (name : List ℕ) (names left : List (List ℕ)) (is : names ≡ name ∷ left) where
  pub next_source : (text : List ℕ) (more : List (List ℕ)) (room' : ℕ) → b ≤ c → more ≡ texts ++ text ∷ [] → room' ≡ room - length text → GoesOn held a b (sources_behind room texts names) all
      → Leads held b c (source_asked room name) (Ok text) → GoesOn held a c (sources_behind room' more left) all
  next_source text more room' high pushed rest before first end r le leads =
      let low : b ≤ end = omega arith in
      let behind : Leads held c end (sources_behind (room - length text) (texts ++ text ∷ []) left) r =
      subst (λ (m : List (List ℕ)). Leads held c end (sources_behind (room - length text) m left) r) pushed (subst (λ (n : ℕ). Leads held c end (sources_behind n more left) r) rest leads) in
      let whole : Leads held b end (sources_behind room texts (name ∷ left)) r =
      leads_on held b c end high le (λ text. sources_behind (room - length text) (texts ++ text ∷ []) left) (source_asked room name) text r first behind in
      before end r low (rw is whole)

  pub bad_source : (fault : RunFault) → b ≤ c → GoesOn held a b (sources_behind room texts names) all
      → (fault ≡ Memory) ⊎ Leads held b c (source_asked room name) (Err fault) → (fault ≡ Memory) ⊎ Leads held a c all (Err fault)
  bad_source fault high before (inl memory) = inl memory
  bad_source fault high before (inr first) =
      let whole : Leads held b c (sources_behind room texts (name ∷ left)) (Err fault) =
      leads_off held b c (λ text. sources_behind (room - length text) (texts ++ text ∷ []) left) (source_asked room name) fault first in
      inr (before c (Err fault) high (rw is whole))

-- ---- the ends of the list

pub one_left : (names : List (List ℕ)) (k : ℕ) (name item : List ℕ) → k < length names → item ≡ get_or names k item → name ≡ item → drop k names ≡ name ∷ drop (k + 1) names
one_left names k name item within is same =
    let next : suc k ≡ k + 1 = omega arith in
    drop-cons names k item within ∙ ap (λ (n : List ℕ). n ∷ drop (suc k) names) (sym is ∙ sym same) ∙ ap (λ (n : ℕ). name ∷ drop n names) next

pub none_left : (names : List (List ℕ)) (k : ℕ) → length names ≤ k → drop k names ≡ []
none_left names k past = drop_all k names past

pub first_sources : (held : Option Held) (a : ℕ) (texts names : List (List ℕ)) → texts ≡ [] → GoesOn held a a (sources_behind 4194304 texts names) (sources_asked names)
unfolding sources_asked
first_sources held a texts names none end r le leads = subst (λ (t : List (List ℕ)). Leads held a end (sources_behind 4194304 t names) r) none leads

pub all_sources : (held : Option Held) (a b room : ℕ) (texts names left : List (List ℕ)) → left ≡ [] → GoesOn held a b (sources_behind room texts left) (sources_asked names) → Leads held a b (sources_asked names) (Ok texts)
unfolding Leads
all_sources held a b room texts names left none before =
    let le : b ≤ b = omega arith in
    let done : Leads held b b (sources_behind room texts []) (Ok texts) = refl in
    before b (Ok texts) le (rw none done)

pub items_counted : (text : Vec ℕ Global) → vec_len text ≡ length text.items
items_counted text = search (arith, text.ok)

pub is_text : (text : Vec ℕ Global) (room : ℕ) → vec_len text ≤ room → room ≤ 4194304 → IsText text
is_text text room short low = omega (arith, short, low)
