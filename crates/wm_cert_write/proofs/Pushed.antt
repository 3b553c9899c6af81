-- One more head of a text.
use Rattle.std.proofs.Common.{◌≡◌, ℕ, ◌+◌, ◌<◌, Bool, List, [], ◌∷◌, ◌++◌, length, get_or, sym, ap, ◌∙◌, subst, below_more}
use Rattle.std.proofs.lemmas.List.{length_push, get_or_append_left, get_or_push}
use Rattle.wm_domain.specs.Points.{Point}
use Rattle.wm_domain.specs.declared.shape.Shape.{Shape}
use Rattle.wm_flow.specs.declared.graph.Graph.{Graph}
use Rattle.wm_cert_text.specs.declared.told.Head as texts
use Rattle.wm_cert_write.specs.Heads.{IsNumbered, AreHeads, no_head}

pub heads_pushed : {S : Type 0} (shape_of : S → Shape) (holds : S → Point → Type 0) (kept : Bool) (graph : Graph) (states : List S) (n : ℕ) (xs : List texts.Head) (x : texts.Head)
    → AreHeads shape_of holds kept graph states n xs → IsNumbered shape_of holds kept graph n states x → AreHeads shape_of holds kept graph states (n + 1) (xs ++ x ∷ [])
heads_pushed shape_of holds kept graph states n xs x h e = record {
  long = length_push xs x ∙ ap (λ m. m + 1) h.long;
  each = below_more (λ k. IsNumbered shape_of holds kept graph k states (get_or (xs ++ x ∷ []) k no_head)) n
      (λ k hk. subst (IsNumbered shape_of holds kept graph k states) (sym (get_or_append_left xs (x ∷ []) no_head k (subst (λ m. k < m) (sym h.long) hk))) (h.each k hk))
      (subst (IsNumbered shape_of holds kept graph n states) (sym (get_or_push xs x no_head n h.long)) e);
}
