-- The first head that is not matched decides.
use Rattle.std.proofs.Common.{◌≡◌, ℕ, ◌+◌, ◌<◌, Bool, false, cond, List, length, drop, get_or, slice_get, sym, ap, ◌∙◌}
use Rattle.std.proofs.lemmas.List.{at_drop_more}
use Rattle.wm_flow.specs.declared.graph.Graph.{Graph}
use Rattle.wm_flow.specs.declared.graph.Head.{Head}
use Rattle.wm_cert_text.specs.declared.told.Head as texts
use Rattle.wm_cert_heads.specs.Matching.{is_matched, all_match}

pub stopped : (graph : Graph) (told : List texts.Head) (heads : List Head) (number : ℕ) (none : Head) (found whole : Bool) →
    number < length heads → found ≡ is_matched graph number (get_or heads number none) (slice_get told number) → found ≡ false →
    all_match graph told number (drop number heads) ≡ whole → false ≡ whole
stopped graph told heads number none found whole within is not left =
    let rest = all_match graph told (number + 1) (drop (number + 1) heads) in
    let first : all_match graph told number (drop number heads) ≡ cond (is_matched graph number (get_or heads number none) (slice_get told number)) rest false =
    at_drop_more (all_match graph told number) heads number none within in
    sym (first ∙ ap (λ (matched : Bool). cond matched rest false) (sym is ∙ not)) ∙ left
