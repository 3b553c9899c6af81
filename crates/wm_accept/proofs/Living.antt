-- Marks of edges while labels are made.
use Rattle.std.proofs.Common.{◌≡◌, ◌<◌, ◌⊎◌, inl, inr, ℕ, List, [], ◌∷◌, ◌++◌, length, Bool, false, Option, Some, None, Result, Ok, Err, subst, sym, append_assoc}
use Rattle.std.proofs.lemmas.List.Elements.{All-push}
use Rattle.std.specs.Prelude.{slice_get, IfOk, IfNone, OnOk}
use Rattle.wm_program.specs.declared.program.Program.{Program}
use Rattle.wm_cert.specs.declared.gap.Gap.{Gap}
use Rattle.wm_domain.specs.declared.shape.Shape.{Shape}
use Rattle.wm_domain.specs.Points.{Point}
use Rattle.wm_flow.specs.declared.graph.Graph.{Graph}
use Rattle.wm_images.specs.Labels.{AreOf}
use Rattle.wm_labels.specs.Live.{IsDead, AreNoted}
use Rattle.wm_accept.specs.declared.entries.Entry.{Entry}
use Rattle.wm_accept.specs.declared.entries.Entry.TheVariants.{Held}
use Rattle.wm_accept.specs.Entries.{IsClosed}
use Rattle.wm_accept.specs.Live.{AreLive}
use Rattle.wm_accept.specs.Watched.{Watched, IsWatched}
use Rattle.wm_accept.proofs.Going.{got_last, of_more}
use Rattle.wm_accept.proofs.Ending.{watched_seen}

module _ (Allowed : Graph → (number : ℕ) → (Point → Type 0) → (Point → Type 0) → Point → Type 0) {S : Type 0} (Has : S → Point → Type 0) (shape_of : S → Shape) (graph : Graph) where
  pub live_first : (live : List Bool) → ((k : ℕ) → slice_get live k ≡ Some false → ⊥) → AreLive Allowed Has shape_of graph live []
  live_first live h = record { dead = λ k off more. absurd (h k off) }

  -- marks that were noted by some of the labels
  pub live_noted : (labels : List S) (pairs : List (ℕ × S)) (before after : List Bool) → AreOf labels pairs → AreLive Allowed Has shape_of graph before labels → AreNoted Allowed Has shape_of graph pairs before after → AreLive Allowed Has shape_of graph after labels
  live_noted labels pairs before after of live noted = record { dead = λ k off more. by k more (noted.each k off) }
    where
      by : (k : ℕ) (more : List S) → (slice_get before k ≡ Some false) ⊎ ((labels : List S) → AreOf labels pairs → IsDead Allowed Has shape_of graph labels k) → IsDead Allowed Has shape_of graph (labels ++ more) k
      by k more (inl h) = live.dead k h more
      by k more (inr h) = h (labels ++ more) (of_more labels more pairs of)

  -- one label more
  live_longer : (labels : List S) (s : S) (live : List Bool) → AreLive Allowed Has shape_of graph live labels → AreLive Allowed Has shape_of graph live (labels ++ s ∷ [])
  live_longer labels s live h = record { dead = λ k off more. subst (λ (ls : List S). IsDead Allowed Has shape_of graph ls k) (sym (append_assoc labels (s ∷ []) more)) (h.dead k off (s ∷ [] ++ more)) }

  pub live_more : (labels : List S) (pairs kept : List (ℕ × S)) (node : ℕ) (s : S) (first made last : List Bool) → length labels ≡ node → AreOf labels pairs → AreLive Allowed Has shape_of graph first labels → AreNoted Allowed Has shape_of graph pairs first made
      → kept ≡ pairs ++ (node, s) ∷ [] → AreNoted Allowed Has shape_of graph kept made last → AreLive Allowed Has shape_of graph last (labels ++ s ∷ [])
  live_more labels pairs kept node s first made last count of live a e b =
      let now : AreOf (labels ++ s ∷ []) (pairs ++ (node, s) ∷ []) = All-push (λ (e : ℕ × S). slice_get (labels ++ s ∷ []) e.0 ≡ Some e.1) pairs (node, s) (of_more labels (s ∷ []) pairs of) (subst (λ n. slice_get (labels ++ s ∷ []) n ≡ Some s) count (got_last labels s)) in
      live_noted (labels ++ s ∷ []) kept made last (subst (λ (ps : List (ℕ × S)). AreOf (labels ++ s ∷ []) ps) (sym e) now)
      (live_longer labels s made (live_noted labels pairs first made of live a)) b

module _ (Allowed : Graph → (number : ℕ) → (Point → Type 0) → (Point → Type 0) → Point → Type 0) (Started : Program → Graph → Point → Type 0) {S : Type 0} (Has : S → Point → Type 0) (shape_of : S → Shape) (program : Program) (graph : Graph) (states : List S) (Saw : List S → Type 0) where
  abbrev pub WithLive : List Bool → List S → Type 0
  WithLive live labels = Saw labels × AreLive Allowed Has shape_of graph live labels

  watched_live : (pairs : List (ℕ × S)) (entries : List Entry) (node : ℕ) (before after : List Bool) → Watched Allowed Started Has shape_of (WithLive before) program graph states pairs entries node → AreNoted Allowed Has shape_of graph pairs before after
      → Watched Allowed Started Has shape_of (WithLive after) program graph states pairs entries node
  watched_live pairs entries node before after w noted = record {
    standing = w.standing;
    saw = (w.saw.0, live_noted Allowed Has shape_of graph w.standing.labels pairs before after w.standing.are_of w.saw.1 noted);
  }

  pub live_seen : {E : Type 0} (pairs : List (ℕ × S)) (entries : List Entry) (node : ℕ) (before after : List Bool) → Watched Allowed Started Has shape_of (WithLive before) program graph states pairs entries node → node ≡ length graph.node_shape → length entries ≡ length graph.heads
      → (seen : List Entry) → seen ≡ entries → (r : Result (Option Gap) E) → OnOk r (AreNoted Allowed Has shape_of graph pairs before after)
      → IfOk r (λ gap. IfNone gap ((k : ℕ) → k < length seen → slice_get seen k ≡ Some Held)) → IfOk r (λ gap. IfNone gap ((k : ℕ) → k < length seen → IsClosed Allowed Has shape_of graph states pairs k))
      → IfOk r (λ gap. IfNone gap (IsWatched Allowed Started Has shape_of (WithLive after) program graph states))
  live_seen {E} pairs entries node before after w n l seen e (Err x) noted a b = tt
  live_seen {E} pairs entries node before after w n l seen e (Ok gap) noted a b =
      watched_seen Allowed Started Has shape_of program graph states (WithLive after) pairs entries node (watched_live pairs entries node before after w noted) n l {E = E} seen e (Ok gap) a b

  -- without the marks
  pub seen_watched : {E : Type 0} (live : List Bool) (r : Result (Option Gap) E) → IfOk r (λ gap. IfNone gap (IsWatched Allowed Started Has shape_of (WithLive live) program graph states)) → IfOk r (λ gap. IfNone gap (IsWatched Allowed Started Has shape_of Saw program graph states))
  seen_watched live (Err x) h = tt
  seen_watched live (Ok None) h = record { accepted = h.accepted; saw = h.saw.0 }
  seen_watched live (Ok (Some gap)) h = tt
