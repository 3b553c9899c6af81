-- What edges show, by more and more labels.
use Rattle.std.proofs.Common.{◌≡◌, ℕ, zero, suc, ◌+◌, ◌<◌, List, [], ◌∷◌, ◌++◌, length, take, drop, Option, Some, None, refl, subst, sym, ap, ◌∙◌, arith, get_or}
use Rattle.std.proofs.Math.Seq.{take-suc}
use Rattle.std.specs.Prelude.{slice_get}
use Rattle.wm_program.specs.declared.program.Program.{Program}
use Rattle.wm_program.specs.declared.program.SiteInfo.{SiteInfo}
use Rattle.wm_domain.specs.Points.{Point}
use Rattle.wm_flow.specs.declared.action.Action.{Action}
use Rattle.wm_flow.specs.declared.graph.Edge.{Edge}
use Rattle.wm_flow.specs.declared.graph.Graph.{Graph}
use Rattle.wm_tally.specs.declared.entry.Entry.{Entry}
use Rattle.wm_tally.specs.declared.seen.Seen.{Seen}
use Rattle.wm_verdict.specs.declared.found.Found.{Found}
use Rattle.wm_verdict.specs.Sites.{noted, noted_all, IsSeenOf, IsSeenAt, IsFound, AreFound}

-- ---- lists that grow

got_before : {X : Type 0} (xs more : List X) (k : ℕ) (x : X) → slice_get xs k ≡ Some x → slice_get (xs ++ more) k ≡ Some x
got_before {X} [] more k x e = absurd (none e)
  where
    none : ◌≡◌ {A = Option X} None (Some x) → ⊥
    none e = cc
got_before (y ∷ xs) more zero x e = e
got_before (y ∷ xs) more (suc k) x e = got_before xs more k x e

pub got_last : {X : Type 0} (xs : List X) (x : X) → slice_get (xs ++ x ∷ []) (length xs) ≡ Some x
got_last [] x = refl
got_last (y ∷ xs) x = got_last xs x

none_taken : {X : Type 0} (n : ℕ) → ◌≡◌ {A = List X} (take n []) []
none_taken zero = refl
none_taken (suc n) = refl

pub none_first : {X : Type 0} (xs : List X) → take 0 xs ≡ []
none_first [] = refl
none_first (x ∷ xs) = refl

pub taken_more : {X : Type 0} (m n : ℕ) (xs : List X) → take (m + n) xs ≡ take m xs ++ take n (drop m xs)
taken_more zero n xs = let e : 0 + n ≡ n = omega arith in ap (λ k. take k xs) e
taken_more (suc m) n [] = let e : suc m + n ≡ suc (m + n) = omega arith in ap (λ k. take k []) e ∙ sym (none_taken n)
taken_more (suc m) n (x ∷ xs) =
    let e : suc m + n ≡ suc (m + n) = omega arith in
    ap (λ k. take k (x ∷ xs)) e ∙ ap (λ ys. x ∷ ys) (taken_more m n xs)

pub noted_more : (first second : List Found) (entries : List Entry) → noted_all (first ++ second) entries ≡ noted_all second (noted_all first entries)
noted_more [] second entries = refl
noted_more (one ∷ rest) second entries = noted_more rest second (noted entries one.site one.instance one.seen)

-- ---- edges

module _ {S : Type 0} (Has : S → Point → Type 0) (program : Program) (graph : Graph) where
  seen_of_more : (info : Option SiteInfo) (a b : Option S) (action : Action) (seen : Seen) → ((x : S) → a ≡ Some x → b ≡ Some x) → IsSeenOf Has info a action seen → IsSeenOf Has info b action seen
  seen_of_more None a b action seen f h = absurd h
  seen_of_more (Some info) None b action seen f h = absurd h
  seen_of_more (Some info) (Some x) b action seen f h = subst (λ u. IsSeenOf Has (Some info) u action seen) (sym (f x refl)) h

  seen_more : (a b : Option S) (action : Action) (site : Option ℕ) (seen : Seen) → ((x : S) → a ≡ Some x → b ≡ Some x) → IsSeenAt Has program a action site seen → IsSeenAt Has program b action site seen
  seen_more a b action None seen f h = h
  seen_more a b action (Some site) seen f h = seen_of_more (slice_get program.sites site) a b action seen f h

  found_for : (a b : Option S) (edge : Edge) (found : Found) → ((x : S) → a ≡ Some x → b ≡ Some x) → IsFound Has program graph a edge found → IsFound Has program graph b edge found
  found_for a b edge found f h = record { site = h.site; instance = h.instance; seen = seen_more a b edge.action edge.site found.seen f h.seen }

  -- what was found stands whatever labels come behind
  pub found_more : (labels more : List S) (edges : List Edge) (found : List Found) → AreFound Has program graph labels edges found → AreFound Has program graph (labels ++ more) edges found
  found_more labels more [] [] h = tt
  found_more labels more [] (one ∷ others) h = absurd h
  found_more labels more (edge ∷ rest) [] h = absurd h
  found_more labels more (edge ∷ rest) (one ∷ others) h = (
    found_for (slice_get labels edge.source) (slice_get (labels ++ more) edge.source) edge one (λ x e. got_before labels more edge.source x e) h.0,
    found_more labels more rest others h.1,
  )

  pub found_both : (labels : List S) (edges others : List Edge) (found more : List Found) → AreFound Has program graph labels edges found → AreFound Has program graph labels others more
      → AreFound Has program graph labels (edges ++ others) (found ++ more)
  found_both labels [] others [] more h k = k
  found_both labels [] others (one ∷ found) more h k = absurd h
  found_both labels (edge ∷ edges) others [] more h k = absurd h
  found_both labels (edge ∷ edges) others (one ∷ found) more h k = (h.0, found_both labels edges others found more h.1 k)

  -- one edge more
  pub found_push : (labels : List S) (edges : List Edge) (found next : List Found) (n : ℕ) (edge : Edge) (one : Found) (label : S) → n < length edges → edge ≡ get_or edges n edge → next ≡ found ++ one ∷ []
      → AreFound Has program graph labels (take n edges) found → slice_get labels edge.source ≡ Some label → IsFound Has program graph (Some label) edge one
      → AreFound Has program graph labels (take (n + 1) edges) next
  found_push labels edges found next n edge one label h at pushed k e f =
      let m : n + 1 ≡ suc n = omega arith in
      let t : take (n + 1) edges ≡ take n edges ++ edge ∷ [] = ap (λ k. take k edges) m ∙ take-suc edges n edge h ∙ ap (λ u. take n edges ++ u ∷ []) (sym at) in
      subst (λ fs. AreFound Has program graph labels (take (n + 1) edges) fs) (sym pushed)
      (subst (λ es. AreFound Has program graph labels es (found ++ one ∷ [])) (sym t)
      (found_both labels (take n edges) (edge ∷ []) found (one ∷ []) k
      (subst (λ u. IsFound Has program graph u edge one) (sym e) f, tt)))
