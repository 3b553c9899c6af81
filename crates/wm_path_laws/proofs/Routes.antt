-- Paths from a node to ends, by the part of the edges over which they lead.
use Rattle.std.proofs.Common.{◌≡◌, ◌≢◌, ℕ, suc, ◌+◌, ◌-◌, ◌<◌, ◌≤◌, ◌⊎◌, inl, inr, ⊎_elim, Bool, true, false, List, [], ◌∷◌, length, get_or, max, Option, Some, None, refl, ap, sym, ◌∙◌, subst, arith}
use Rattle.std.proofs.lemmas.Bool.{cases_eq, cases_lt}
use Rattle.std.proofs.lemmas.Option.{none-some, same_Some}
use Rattle.wm_ways.proofs.Paths.{no_path_weighs_more}
use Rattle.wm_ways.specs.declared.ways.Way.{Way}
use Rattle.wm_ways.specs.Numbers.{cut, along, greater}
use Rattle.wm_ways.specs.Paths.{IsAtLeast}
use Rattle.wm_ways.specs.Sweeps.{best_at, swept}
use Rattle.wm_path.specs.Picks.{picked}
use Rattle.wm_path_laws.specs.Choices.{IsLaidOut, Setting, Leads}
use Rattle.wm_path_laws.specs.Paths.{Goes, AreOrdered, AreEnds, IsNotAfter}
use Rattle.wm_path_laws.proofs.Cuts.{cut_right}
use Rattle.wm_path_laws.proofs.Leading.{ways_of, way_weight, goes, led_by}
use Rattle.wm_path_laws.proofs.Tables.{length_swept, unmoved, closed_at, moved}
use Rattle.wm_path_laws.proofs.Walks.{leads, inside_of, picks_the_first}

-- ---- where something is known a path of this weight leads to an end

abbrev pub Reaches : (added : List ℕ) → (number : ℕ) → List Way → (first : ℕ) → (ending : List (Option ℕ)) → (from v : ℕ) → Type 0
Reaches added number ways first ending from v =
    (numbers : List ℕ) × (to : ℕ) × (weight : ℕ) × Goes added number ways from numbers to weight × (best_at first ending to ≡ Some 0) × (cut weight ≡ v)

left_out : (added : List ℕ) (number : ℕ) (way : Way) (ways : List Way) (first : ℕ) (ending : List (Option ℕ)) (from v : ℕ) → Reaches added (suc number) ways first ending from v → Reaches added number (way ∷ ways) first ending from v
left_out added number way ways first ending from v r = (r.0, r.1, r.2, inl r.3, r.4, r.5)

taken : (added : List ℕ) (number : ℕ) (way : Way) (ways : List Way) (first : ℕ) (ending : List (Option ℕ)) (from v v' : ℕ) → way.open ≡ true → from ≡ way.source → v ≡ cut (way.weight + get_or added way.target 0 + v') → Reaches added (suc number) ways first ending way.target v' → Reaches added number (way ∷ ways) first ending from v
taken added number way ways first ending from v v' is_open here is r = (
  number ∷ r.0,
  r.1,
  way.weight + get_or added way.target 0 + r.2,
  inr (is_open, here, (r.0, r.2, r.3, refl, refl)),
  r.4,
  sym (cut_right (way.weight + get_or added way.target 0) r.2) ∙ ap (λ (n : ℕ). cut (way.weight + get_or added way.target 0 + n)) r.5 ∙ sym is,
)

one_of : {P : Type 0} (a : Option ℕ) (weight added : ℕ) (rest : Option ℕ) (v : ℕ) → greater a (along weight added rest) ≡ Some v → (a ≡ Some v → P) → ((r : ℕ) → rest ≡ Some r → v ≡ cut (weight + added + r) → P) → P
one_of None weight added None v e here there = absurd (none-some v e)
one_of None weight added (Some r) v e here there = there r refl (sym (same_Some (cut (weight + added + r)) v e))
one_of (Some a) weight added None v e here there = here e
one_of {P} (Some a) weight added (Some r) v e here there =
    let is : max a (cut (weight + added + r)) ≡ v = same_Some (max a (cut (weight + added + r))) v e in
    ⊎_elim (λ (h : a < cut (weight + added + r)). there r refl (omega (arith, h, is)))
    (λ (h : cut (weight + added + r) ≤ a). let same : a ≡ v = omega (arith, h, is) in here (ap Some same))
    (cases_lt a (cut (weight + added + r)))

pub reaches : (first least : ℕ) (added : List ℕ) (number : ℕ) (ways : List Way) (ending : List (Option ℕ)) (from v : ℕ) → AreOrdered first (length ending) least ways → AreEnds first ending → first ≤ least → first ≤ from → best_at first (swept first added ways ending) from ≡ Some v → Reaches added number ways first ending from v
reaches first least added number [] ending from v o ends fl ff e =
    let nought : v ≡ 0 = ends from v e in
    ([], from, 0, (refl, refl, refl), e ∙ ap Some nought, sym nought)
reaches first least added number (w ∷ ws) ending from v o ends fl ff e =
    by_source (cases_eq from w.source) w.open refl
    (λ from' v' ff' e'. reaches first w.source added (suc number) ws ending from' v' o.3 ends (omega (arith, fl, o.0)) ff' e')
  where
    by_source : (from ≡ w.source) ⊎ (from ≡ w.source → ⊥) → (b : Bool) → w.open ≡ b → ((from' v' : ℕ) → first ≤ from' → best_at first (swept first added ws ending) from' ≡ Some v' → Reaches added (suc number) ws first ending from' v') → Reaches added number (w ∷ ws) first ending from v
    by_source (inr ne) b is behind =
        let apart : from - first ≢ w.source - first = omega (arith, ne, ff, fl, o.0) in
        left_out added number w ws first ending from v (behind from v ff (sym (unmoved first added w (swept first added ws ending) from apart) ∙ e))
    by_source (inl here) false is behind =
        left_out added number w ws first ending from v (behind from v ff (sym (closed_at first added w (swept first added ws ending) from is) ∙ e))
    by_source (inl here) true is behind =
        let up : w.source < w.target = o.2 is in
        let known : greater (best_at first (swept first added ws ending) w.source) (along w.weight (get_or added w.target 0) (best_at first (swept first added ws ending) w.target)) ≡ Some v =
        sym (moved first added w (swept first added ws ending) is (subst (λ (n : ℕ). w.source - first < n) (sym (length_swept first added ws ending)) o.1))
        ∙ ap (best_at first (swept first added (w ∷ ws) ending)) (sym here) ∙ e in
        one_of (best_at first (swept first added ws ending) w.source) w.weight (get_or added w.target 0) (best_at first (swept first added ws ending) w.target) v known
        (λ e'. left_out added number w ws first ending from v (behind from v ff (ap (best_at first (swept first added ws ending)) here ∙ e')))
        (λ v' e' weighs. taken added number w ws first ending from v v' is here weighs (behind w.target v' (omega (arith, up, here, ff)) e'))

-- ---- paths from a node to ends lead over a part of the edges

pub record Route (s : Setting) (added : List ℕ) (from : ℕ) (IsEnd : ℕ → Type 0) (number : ℕ) (part : List Way) (ending : List (Option ℕ)) : Type 0 where
  pub ordered : AreOrdered from (length ending) from part
  pub ends : AreEnds from ending
  pub into : (numbers : List ℕ) (to weight : ℕ) → IsEnd to → Goes added 0 (ways_of s) from numbers to weight → Goes added number part from numbers to weight × (best_at from ending to ≡ Some 0)
  pub out : (numbers : List ℕ) (to weight known : ℕ) → Goes added number part from numbers to weight → best_at from ending to ≡ Some known → IsEnd to × Goes added 0 (ways_of s) from numbers to weight

-- the list of edges that is picked
pub record IsPicked (s : Setting) (added : List ℕ) (from : ℕ) (IsEnd : ℕ → Type 0) (known : ℕ) (numbers : List ℕ) : Type 0 where
  pub to : ℕ
  pub ends : IsEnd to
  pub leads : Leads s from numbers to
  pub weighs : way_weight added s numbers ≡ known
  pub greatest : (other : List ℕ) (end : ℕ) → IsEnd end → Leads s from other end → way_weight added s other ≤ known
  pub before : (other : List ℕ) (end : ℕ) → IsEnd end → Leads s from other end → way_weight added s other ≡ known → IsNotAfter numbers other

module _ (s : Setting) (laid : IsLaidOut s.graph) (added : List ℕ) (from : ℕ) (IsEnd : ℕ → Type 0) (number : ℕ) (part : List Way) (ending : List (Option ℕ)) (route : Route s added from IsEnd number part ending) where
  pub at_least : (numbers : List ℕ) (to : ℕ) → IsEnd to → Leads s from numbers to → IsAtLeast (cut (way_weight added s numbers)) (best_at from (swept from added part ending) from)
  at_least numbers to end l =
      let g = route.into numbers to (way_weight added s numbers) end (goes added s from numbers to laid l) in
      let same : way_weight added s numbers + 0 ≡ way_weight added s numbers = omega arith in
      subst (λ (n : ℕ). IsAtLeast (cut n) (best_at from (swept from added part ending) from)) same
      (no_path_weighs_more from added part ending from to (way_weight added s numbers) 0 (inside_of from (length ending) from part route.ordered)
      (leads added number part from numbers to (way_weight added s numbers) g.0) g.1)

  pub leads_on : (v : ℕ) → best_at from (swept from added part ending) from ≡ Some v → ((numbers : List ℕ) × (to : ℕ) × IsEnd to × Leads s from numbers to × (cut (way_weight added s numbers) ≡ v))
  leads_on v e =
      let r = reaches from from added number part ending from v route.ordered route.ends (omega arith) (omega arith) e in
      let g = route.out r.0 r.1 r.2 0 r.3 r.4 in
      let l = led_by added s from r.0 r.1 r.2 laid g.1 in
      (r.0, r.1, g.0, l.0, ap cut (sym l.1) ∙ r.5)

  pub picks : (known : ℕ) → best_at from (swept from added part ending) from ≡ Some known → known ≤ 1000000000000000 → IsPicked s added from IsEnd known (picked from added (swept from added part ending) ending number from part)
  picks known e small =
      let p = picks_the_first from added part ending number from known route.ordered route.ends (omega arith) e small in
      let g = route.out (picked from added (swept from added part ending) ending number from part) p.1.to known 0 p.1.goes p.1.ends in
      let l = led_by added s from (picked from added (swept from added part ending) ending number from part) p.1.to known laid g.1 in
      record {
        to = p.1.to;
        ends = g.0;
        leads = l.0;
        weighs = sym l.1;
        greatest = λ other end is l'.
            let h = route.into other end (way_weight added s other) is (goes added s from other end laid l') in
            p.0 other end (way_weight added s other) h.0 h.1;
        before = λ other end is l' w.
            let h = route.into other end (way_weight added s other) is (goes added s from other end laid l') in
            p.1.before other end (subst (λ (n : ℕ). Goes added number part from other end n) w h.0) h.1;
      }
