-- One label more for the judge, and its verdicts after all labels.
use Rattle.std.proofs.Common.{◌≡◌, ◌+◌, List, [], ◌∷◌, ◌++◌, length, take, drop, Some, subst, sym, ap, ◌∙◌, arith, length-append}
use Rattle.std.proofs.lemmas.List.{length-drop}
use Rattle.std.proofs.Math.Seq.{take-length}
use Rattle.std.specs.Prelude.{slice_get}
use Rattle.wm_program.specs.declared.program.Program.{Program}
use Rattle.wm_domain.specs.Points.{Point}
use Rattle.wm_flow.specs.declared.graph.Edge.{Edge}
use Rattle.wm_flow.specs.declared.graph.Graph.{Graph}
use Rattle.wm_findings.specs.declared.findings.Verdict.{Verdict}
use Rattle.wm_verdict.specs.declared.found.Found.{Found}
use Rattle.wm_verdict.specs.declared.judge.Judge.{Judge}
use Rattle.wm_verdict.specs.Sites.{noted_all, no_entries, verdicts_of, AreFound, AreLeading, IsJudged, AreVerdicts}
use Rattle.wm_verdict.proofs.Showing.{none_first, got_last, taken_more, noted_more, found_more, found_both}

module _ {S : Type 0} (Has : S → Point → Type 0) (program : Program) (graph : Graph) where
  pub judged_next : (labels : List S) (label : S) (before after : Judge) (edges : List Edge) (found : List Found) → edges ≡ graph.edges
      → after.nodes ≡ before.nodes + 1 → after.edge ≡ before.edge + length found → after.entries.items ≡ noted_all found before.entries.items
      → AreLeading Has program graph before.nodes label (drop before.edge edges) found
      → IsJudged Has program graph labels before → IsJudged Has program graph (labels ++ label ∷ []) after
  judged_next labels label before after edges found all e f g leading h =
      let own = subst (λ es. AreLeading Has program graph before.nodes label (drop before.edge es) found) all leading in
      let one : slice_get (labels ++ label ∷ []) before.nodes ≡ Some label = ap (slice_get (labels ++ label ∷ [])) h.nodes ∙ got_last labels label in
      let both = found_both Has program graph (labels ++ label ∷ []) (take before.edge graph.edges) (take (length found) (drop before.edge graph.edges)) h.found found
      (found_more Has program graph labels (label ∷ []) (take before.edge graph.edges) h.found h.are) (own.are (labels ++ label ∷ []) one) in
      let n : take after.edge graph.edges ≡ take before.edge graph.edges ++ take (length found) (drop before.edge graph.edges) =
      ap (λ k. take k graph.edges) f ∙ taken_more before.edge (length found) graph.edges in
      record {
        nodes = e ∙ ap (λ k. k + 1) h.nodes ∙ sym (length-append labels (label ∷ []));
        inside = omega (arith, f, own.inside, h.inside, length-drop before.edge graph.edges);
        found = h.found ++ found;
        are = subst (λ es. AreFound Has program graph (labels ++ label ∷ []) es (h.found ++ found)) (sym n) both;
        entries = g ∙ ap (noted_all found) h.entries ∙ sym (noted_more h.found found (no_entries (length program.sites)));
      }

  -- nothing has been seen
  pub judged_first : (judge : Judge) → judge.nodes ≡ 0 → judge.edge ≡ 0 → judge.entries.items ≡ no_entries (length program.sites) → IsJudged Has program graph [] judge
  judged_first judge e f g = record {
    nodes = e;
    inside = omega (arith, f);
    found = [];
    are = subst (λ n. AreFound Has program graph [] (take n graph.edges) []) (sym f) (subst (λ es. AreFound Has program graph [] es []) (sym (none_first graph.edges)) tt);
    entries = g;
  }

  -- all has been seen
  pub judged_all : (labels : List S) (judge : Judge) (verdicts : List Verdict) → judge.edge ≡ length graph.edges → verdicts ≡ verdicts_of judge.entries.items
      → IsJudged Has program graph labels judge → AreVerdicts Has program graph labels verdicts
  judged_all labels judge verdicts e f h = record {
    found = h.found;
    are = subst (λ es. AreFound Has program graph labels es h.found) (ap (λ n. take n graph.edges) e ∙ take-length graph.edges) h.are;
    verdicts_are = f ∙ ap verdicts_of h.entries;
  }
