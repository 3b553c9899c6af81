-- One label more.
use Rattle.std.proofs.Common.{◌≡◌, ◌⊎◌, inl, inr, ℕ, zero, suc, ◌+◌, ◌<◌, List, [], ◌∷◌, ◌++◌, length, Option, Some, None, refl, subst, sym, ap, ◌∙◌, append_assoc, length-append}
use Rattle.std.proofs.lemmas.List.Elements.{All-weaker, All-push}
use Rattle.std.proofs.lemmas.Option.{slice_get_within}
use Rattle.std.specs.Prelude.{All, slice_get}
use Rattle.wm_program.specs.declared.program.Program.{Program}
use Rattle.wm_domain.specs.declared.shape.Shape.{Shape}
use Rattle.wm_domain.specs.Points.{Point}
use Rattle.wm_flow.specs.declared.graph.Head.{Head}
use Rattle.wm_flow.specs.declared.graph.Graph.{Graph}
use Rattle.wm_images.specs.Nodes.{node_shape}
use Rattle.wm_images.specs.Labels.{AreOf, AreShaped, Receives, HoldsAlong}
use Rattle.wm_incoming.specs.Standing.{head_at}
use Rattle.wm_labels.specs.Labels.{IsLabel, IsLabelBy, IsMade, IsMadeBy}
use Rattle.wm_walk.specs.Keeping.{without_all}
use Rattle.wm_walk.proofs.Into.{there}
use Rattle.wm_walk.proofs.Pairs.{all_out}
use Rattle.wm_accept.specs.declared.entries.Entry.{Entry}
use Rattle.wm_accept.specs.declared.entries.Entry.TheVariants.{Held}
use Rattle.wm_accept.specs.Entries.{AreTried}
use Rattle.wm_accept.specs.Standing.{Standing}
use Rattle.wm_accept.specs.Watched.{Watched}

-- ---- lists that grow

got_before : {X : Type 0} (xs more : List X) (k : ℕ) (x : X) → slice_get xs k ≡ Some x → slice_get (xs ++ more) k ≡ Some x
got_before {X} [] more k x e = absurd (none e)
  where
    none : ◌≡◌ {A = Option X} None (Some x) → ⊥
    none e = cc
got_before (y ∷ xs) more zero x e = e
got_before (y ∷ xs) more (suc k) x e = got_before xs more k x e

pub got_last : {X : Type 0} (xs : List X) (x : X) → slice_get (xs ++ x ∷ []) (length xs) ≡ Some x
got_last [] x = refl
got_last (y ∷ xs) x = got_last xs x

some_there : {X : Type 0} (x y : X) → Some x ≡ Some y → x ≡ y
some_there x y e = cc

got_cases : {X : Type 0} (xs : List X) (x y : X) (k : ℕ) → slice_get (xs ++ x ∷ []) k ≡ Some y → (slice_get xs k ≡ Some y) ⊎ ((k ≡ length xs) × (x ≡ y))
got_cases [] x y zero e = inr (refl, some_there x y e)
got_cases [] x y (suc k) e = inl e
got_cases (z ∷ xs) x y zero e = inl e
got_cases (z ∷ xs) x y (suc k) e = later (got_cases xs x y k e)
  where
    later : (slice_get xs k ≡ Some y) ⊎ ((k ≡ length xs) × (x ≡ y)) → (slice_get xs k ≡ Some y) ⊎ ((suc k ≡ suc (length xs)) × (x ≡ y))
    later (inl h) = inl h
    later (inr h) = inr (ap suc h.0, h.1)

pub of_more : {S : Type 0} (labels more : List S) (pairs : List (ℕ × S)) → AreOf labels pairs → AreOf (labels ++ more) pairs
of_more {S} labels more pairs h = All-weaker (λ (e : ℕ × S). slice_get labels e.0 ≡ Some e.1) (λ (e : ℕ × S). slice_get (labels ++ more) e.0 ≡ Some e.1) (λ e k. got_before labels more e.0 e.1 k) pairs h

-- each node that is kept is one of the first so many
pub below : {S : Type 0} (labels : List S) (node : ℕ) (pairs : List (ℕ × S)) → length labels ≡ node → AreOf labels pairs → All (λ (e : ℕ × S). e.0 < node) pairs
below {S} labels node pairs c h = All-weaker (λ (e : ℕ × S). slice_get labels e.0 ≡ Some e.1) (λ (e : ℕ × S). e.0 < node) (λ e k. subst (λ n. e.0 < n) c (slice_get_within labels e.0 e.1 k)) pairs h

module _ (Allowed : Graph → (number : ℕ) → (Point → Type 0) → (Point → Type 0) → Point → Type 0) (Started : Program → Graph → Point → Type 0) {S : Type 0} (Has : S → Point → Type 0) (shape_of : S → Shape) (program : Program) (graph : Graph) (states : List S) where
  -- a label that was made of those that are kept is one of all labels of which these are some
  by_head : (pairs : List (ℕ × S)) (labels : List S) (node : ℕ) (s : S) → AreOf labels pairs → (o : Option ℕ) → IsMadeBy Allowed Started Has shape_of program graph states pairs node o s → IsLabelBy Allowed Started Has shape_of program graph states labels node o s
  by_head pairs labels node s h None m = record {
    start = m.0;
    edges = λ number edge is t. ((there node (λ n. Receives Allowed Has shape_of graph pairs n s) graph.edges number edge is t m.1).each labels h).holds edge is;
  }
  by_head pairs labels node s h (Some head) m = m

  label_made : (pairs : List (ℕ × S)) (labels : List S) (node : ℕ) (s : S) → AreOf labels pairs → IsMade Allowed Started Has shape_of program graph states pairs node s → IsLabel Allowed Started Has shape_of program graph states labels node s
  label_made pairs labels node s h m = record { shape = m.shape; holds = by_head pairs labels node s h (head_at node graph.heads) m.by }

  module _ (pairs : List (ℕ × S)) (node : ℕ) (s : S) where
    pub shaped_more : AreShaped shape_of graph pairs → shape_of s ≡ node_shape graph node → AreShaped shape_of graph (pairs ++ (node, s) ∷ [])
    shaped_more h e = All-push (λ (e : ℕ × S). shape_of e.1 ≡ node_shape graph e.0) pairs (node, s) h e

    module _ (before after : List Entry) (ended : List ℕ) (st : Standing Allowed Started Has shape_of program graph states pairs before node) (m : IsMade Allowed Started Has shape_of program graph states pairs node s) (t : AreTried Allowed Has shape_of graph states (pairs ++ (node, s) ∷ []) before after) where
      now : List S
      now = st.labels ++ s ∷ []

      of_now : AreOf now (pairs ++ (node, s) ∷ [])
      unfolding now
      of_now = All-push (λ (e : ℕ × S). slice_get (st.labels ++ s ∷ []) e.0 ≡ Some e.1) pairs (node, s) (of_more st.labels (s ∷ []) pairs st.are_of) (subst (λ n. slice_get (st.labels ++ s ∷ []) n ≡ Some s) st.count (got_last st.labels s))

      one_label : (k : ℕ) (x : S) → (slice_get st.labels k ≡ Some x) ⊎ ((k ≡ length st.labels) × (s ≡ x)) → (more : List S) → IsLabel Allowed Started Has shape_of program graph states ((st.labels ++ s ∷ []) ++ more) k x
      one_label k x (inl h) more = subst (λ (ls : List S). IsLabel Allowed Started Has shape_of program graph states ls k x) (sym (append_assoc st.labels (s ∷ []) more)) (st.made k x h (s ∷ [] ++ more))
      one_label k x (inr h) more =
          subst (λ n. IsLabel Allowed Started Has shape_of program graph states ((st.labels ++ s ∷ []) ++ more) n x) (sym (h.0 ∙ st.count))
          (subst (λ (y : S). IsLabel Allowed Started Has shape_of program graph states ((st.labels ++ s ∷ []) ++ more) node y) h.1
          (label_made pairs ((st.labels ++ s ∷ []) ++ more) node s (of_more (st.labels ++ s ∷ []) more pairs (of_more st.labels (s ∷ []) pairs st.are_of)) m))

      one_head : (k : ℕ) (head : Head) (state : S) → slice_get graph.heads k ≡ Some head → slice_get states k ≡ Some state → (slice_get before k ≡ Some Held) ⊎ Receives Allowed Has shape_of graph (pairs ++ (node, s) ∷ []) head.entry state → (more : List S) → HoldsAlong Allowed Has shape_of graph ((st.labels ++ s ∷ []) ++ more) head.entry state
      unfolding now
      one_head k head state h i (inl b) more = subst (λ (ls : List S). HoldsAlong Allowed Has shape_of graph ls head.entry state) (sym (append_assoc st.labels (s ∷ []) more)) (st.held k head state h i b (s ∷ [] ++ more))
      one_head k head state h i (inr r) more = r.each ((st.labels ++ s ∷ []) ++ more) (of_more (st.labels ++ s ∷ []) more (pairs ++ (node, s) ∷ []) of_now)

      pub standing_more : Standing Allowed Started Has shape_of program graph states (without_all ended (pairs ++ (node, s) ∷ [])) after (node + 1)
      unfolding now
      standing_more = record {
        labels = st.labels ++ s ∷ [];
        count = length-append st.labels (s ∷ []) ∙ ap (λ n. n + 1) st.count;
        are_of = all_out (λ (e : ℕ × S). slice_get (st.labels ++ s ∷ []) e.0 ≡ Some e.1) ended (pairs ++ (node, s) ∷ []) of_now;
        shaped = all_out (λ (e : ℕ × S). shape_of e.1 ≡ node_shape graph e.0) ended (pairs ++ (node, s) ∷ []) (shaped_more st.shaped m.shape);
        made = λ k x is more. one_label k x (got_cases st.labels s x k is) more;
        held = λ k head state h i a more. one_head k head state h i (t.each k head state h i a) more;
      }

      watched_more : (Saw : List S → Type 0) → Saw (st.labels ++ s ∷ []) → Watched Allowed Started Has shape_of Saw program graph states (without_all ended (pairs ++ (node, s) ∷ [])) after (node + 1)
      unfolding standing_more
      watched_more Saw saw = record { standing = standing_more; saw = saw }

      pub watched_next : (Saw : List S → Type 0) (kept left : List (ℕ × S)) → kept ≡ pairs ++ (node, s) ∷ [] → left ≡ without_all ended kept → Saw (st.labels ++ s ∷ []) → Watched Allowed Started Has shape_of Saw program graph states left after (node + 1)
      watched_next Saw kept left k l saw =
          subst (λ (ps : List (ℕ × S)). Watched Allowed Started Has shape_of Saw program graph states ps after (node + 1)) (sym (l ∙ ap (without_all ended) k)) (watched_more Saw saw)
