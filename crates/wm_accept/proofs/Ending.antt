-- The beginning of a walk and its end.
use Rattle.std.proofs.Common.{◌≡◌, ◌⊎◌, inl, inr, ℕ, zero, suc, ◌+◌, ◌<◌, List, [], ◌++◌, length, replicate, take, drop, Option, Some, None, Result, Ok, Err, true, false, refl, ap, subst, sym, ◌∙◌, arith}
use Rattle.std.proofs.Math.Nat.{eq-or-lt_of_le}
use Rattle.std.proofs.Math.Seq.{take-length}
use Rattle.std.proofs.Math.ListN.{drop_of_length-le}
use Rattle.std.proofs.lemmas.List.{append-nil, length-replicate}
use Rattle.std.proofs.lemmas.List.Elements.{All-nil}
use Rattle.std.proofs.lemmas.Option.{slice_get_within}
use Rattle.std.specs.Prelude.{slice_get, IfNone, IfOk}
use Rattle.std.specs.Option.{is_some}
use Rattle.wm_program.specs.declared.program.Program.{Program}
use Rattle.wm_cert.specs.declared.gap.Gap.{Gap}
use Rattle.wm_domain.specs.declared.shape.Shape.{Shape}
use Rattle.wm_domain.specs.Points.{Point}
use Rattle.wm_flow.specs.declared.graph.Graph.{Graph}
use Rattle.wm_images.specs.Nodes.{node_shape}
use Rattle.wm_images.specs.Labels.{HoldsAlong}
use Rattle.wm_labels.specs.Labels.{IsLabel}
use Rattle.wm_labels.specs.Accepted.{IsAccepted}
use Rattle.wm_accept.specs.declared.entries.Entry.{Entry}
use Rattle.wm_accept.specs.declared.entries.Entry.TheVariants.{Unseen, Held}
use Rattle.wm_accept.specs.Entries.{IsClosed}
use Rattle.wm_accept.specs.Standing.{Standing}
use Rattle.wm_accept.specs.Watched.{Watched, IsWatched}

none_held : (n k : ℕ) → slice_get (replicate n Unseen) k ≡ Some Held → ⊥
none_held zero k e = no_some e
  where
    no_some : ◌≡◌ {A = Option Entry} None (Some Held) → ⊥
    no_some e = cc
none_held (suc n) zero e = differs e
  where
    differs : Some Unseen ≡ Some Held → ⊥
    differs e = cc
none_held (suc n) (suc k) e = none_held n k e

module _ (Allowed : Graph → (number : ℕ) → (Point → Type 0) → (Point → Type 0) → Point → Type 0) (Started : Program → Graph → Point → Type 0) {S : Type 0} (Has : S → Point → Type 0) (shape_of : S → Shape) (program : Program) (graph : Graph) (states : List S) where
  pub standing_first : (n : ℕ) → Standing Allowed Started Has shape_of program graph states [] (replicate n Unseen) 0
  standing_first n = record {
    labels = [];
    count = refl;
    are_of = All-nil (λ (e : ℕ × S). slice_get [] e.0 ≡ Some e.1);
    shaped = All-nil (λ (e : ℕ × S). shape_of e.1 ≡ node_shape graph e.0);
    made = λ k s is more. absurd (no_label k s is);
    held = λ k head state h i a more. absurd (none_held n k a);
  }
    where
      no_label : (k : ℕ) (s : S) → slice_get [] k ≡ Some s → ⊥
      no_label k s is = cc

  pub accepted_last : (pairs : List (ℕ × S)) (entries : List Entry) (node : ℕ) → Standing Allowed Started Has shape_of program graph states pairs entries node → node ≡ length graph.node_shape → length entries ≡ length graph.heads → ((k : ℕ) → k < length entries → slice_get entries k ≡ Some Held) → ((k : ℕ) → k < length entries → IsClosed Allowed Has shape_of graph states pairs k) → IsAccepted Allowed Started Has shape_of program graph states
  accepted_last pairs entries node st n l e c = record {
    labels = st.labels;
    all = st.count ∙ n;
    made = record { each = λ k s is. subst (λ (ls : List S). IsLabel Allowed Started Has shape_of program graph states ls k s) (append-nil st.labels) (st.made k s is []) };
    held = λ k head state h i.
        let inside : k < length entries = subst (λ m. k < m) (sym l) (slice_get_within graph.heads k head h) in
        record {
          entry = subst (λ (ls : List S). HoldsAlong Allowed Has shape_of graph ls head.entry state) (append-nil st.labels) (st.held k head state h i (e k inside) []);
          back = ((c k inside).back head state h i).each st.labels st.are_of;
        };
  }

  watched_last : (Saw : List S → Type 0) (pairs : List (ℕ × S)) (entries : List Entry) (node : ℕ) → Watched Allowed Started Has shape_of Saw program graph states pairs entries node → node ≡ length graph.node_shape → length entries ≡ length graph.heads → ((k : ℕ) → k < length entries → slice_get entries k ≡ Some Held) → ((k : ℕ) → k < length entries → IsClosed Allowed Has shape_of graph states pairs k) → IsWatched Allowed Started Has shape_of Saw program graph states
  unfolding accepted_last
  watched_last Saw pairs entries node w n l e c = record { accepted = accepted_last pairs entries node w.standing n l e c; saw = w.saw }

  module _ (Saw : List S → Type 0) (pairs : List (ℕ × S)) (entries : List Entry) (node : ℕ) (w : Watched Allowed Started Has shape_of Saw program graph states pairs entries node) (n : node ≡ length graph.node_shape) (l : length entries ≡ length graph.heads) where
    by_gap : (gap : Option Gap) → IfNone gap ((k : ℕ) → k < length entries → slice_get entries k ≡ Some Held) → IfNone gap ((k : ℕ) → k < length entries → IsClosed Allowed Has shape_of graph states pairs k) → IfNone gap (IsWatched Allowed Started Has shape_of Saw program graph states)
    by_gap None e c = watched_last Saw pairs entries node w n l e c
    by_gap (Some gap) e c = tt

    watched_by : {E : Type 0} (r : Result (Option Gap) E) → IfOk r (λ gap. IfNone gap ((k : ℕ) → k < length entries → slice_get entries k ≡ Some Held)) → IfOk r (λ gap. IfNone gap ((k : ℕ) → k < length entries → IsClosed Allowed Has shape_of graph states pairs k)) → IfOk r (λ gap. IfNone gap (IsWatched Allowed Started Has shape_of Saw program graph states))
    watched_by (Err x) e c = tt
    watched_by (Ok gap) e c = by_gap gap e c

    pub watched_seen : {E : Type 0} (seen : List Entry) → seen ≡ entries → (r : Result (Option Gap) E) → IfOk r (λ gap. IfNone gap ((k : ℕ) → k < length seen → slice_get seen k ≡ Some Held)) → IfOk r (λ gap. IfNone gap ((k : ℕ) → k < length seen → IsClosed Allowed Has shape_of graph states pairs k)) → IfOk r (λ gap. IfNone gap (IsWatched Allowed Started Has shape_of Saw program graph states))
    watched_seen seen e r a b =
        watched_by r
        (subst (λ (es : List Entry). IfOk r (λ gap. IfNone gap ((k : ℕ) → k < length es → slice_get es k ≡ Some Held))) e a)
        (subst (λ (es : List Entry). IfOk r (λ gap. IfNone gap ((k : ℕ) → k < length es → IsClosed Allowed Has shape_of graph states pairs k))) e b)

  -- states that are accepted by labels that were shown are accepted
  pub accepted_watched : (Saw : List S → Type 0) {E : Type 0} (r : Result (Option Gap) E) → IfOk r (λ gap. IfNone gap (IsWatched Allowed Started Has shape_of Saw program graph states)) → IfOk r (λ gap. IfNone gap (IsAccepted Allowed Started Has shape_of program graph states))
  accepted_watched Saw (Err x) h = tt
  accepted_watched Saw (Ok None) h = h.accepted
  accepted_watched Saw (Ok (Some gap)) h = tt

  watched_first : (Saw : List S → Type 0) (n : ℕ) → Saw [] → Watched Allowed Started Has shape_of Saw program graph states [] (replicate n Unseen) 0
  unfolding standing_first
  watched_first Saw n saw = record { standing = standing_first n; saw = saw }

  pub watched_init : (Saw : List S → Type 0) (pairs : List (ℕ × S)) (entries : List Entry) (n : ℕ) → pairs ≡ [] → entries ≡ replicate n Unseen → Saw [] → Watched Allowed Started Has shape_of Saw program graph states pairs entries 0
  watched_init Saw pairs entries n p e saw =
      subst (λ (es : List Entry). Watched Allowed Started Has shape_of Saw program graph states pairs es 0) (sym e)
      (subst (λ (ps : List (ℕ × S)). Watched Allowed Started Has shape_of Saw program graph states ps (replicate n Unseen) 0) (sym p) (watched_first Saw n saw))

-- a table of which all was lent
pub whole_again : {X : Type 0} (n : ℕ) (xs ys zs : List X) → length xs ≡ length zs → zs ≡ ys → length zs ≡ n → take n (xs ++ drop (length xs) ys) ≡ xs
whole_again n xs ys zs a b c =
    let d : drop (length xs) ys ≡ [] = drop_of_length-le ys (omega (arith, a, ap length b)) in
    ap (λ (ws : List _). take n (xs ++ ws)) d ∙ ap (take n) (append-nil xs) ∙ ap (λ m. take m xs) (sym (a ∙ c)) ∙ take-length xs

pub entry_count : (entries : List Entry) (n m : ℕ) → entries ≡ replicate n Unseen → n ≡ m → length entries ≡ m
entry_count entries n m e s = ap length e ∙ length-replicate n Unseen ∙ s

-- one more than before
pub up_to : (P : ℕ → Type 0) (n : ℕ) → ((k : ℕ) → k < n → P k) → P n → (k : ℕ) → k < n + 1 → P k
up_to P n h p k inside = by (eq-or-lt_of_le {n = k} {m = n} (omega arith))
  where
    by : (k ≡ n) ⊎ (k < n) → P k
    by (inl e) = subst P (sym e) p
    by (inr l) = h k l

pub none_of : (gap : Option Gap) (P : Type 0) → is_some gap ≡ false → IfNone gap P → P
none_of None P e h = h
none_of (Some gap) P e h = absurd (differs e)
  where
    differs : true ≡ false → ⊥
    differs e = cc
