-- What is told of labels that were shown.
use Rattle.std.proofs.Common.{◌≡◌, ℕ, List, [], length, Bool, false, Option, Some, None, subst, sym}
use Rattle.std.proofs.lemmas.List.{append-nil}
use Rattle.std.specs.Prelude.{IfNone, slice_get}
use Rattle.wm_program.specs.declared.program.Program.{Program}
use Rattle.wm_cert.specs.declared.gap.Gap.{Gap}
use Rattle.wm_domain.specs.declared.shape.Shape.{Shape}
use Rattle.wm_domain.specs.Points.{Point}
use Rattle.wm_flow.specs.declared.graph.Graph.{Graph}
use Rattle.wm_findings.specs.declared.findings.Findings.{Findings}
use Rattle.wm_flow.specs.declared.graph.Facts.{Facts}
use Rattle.wm_flow.specs.declared.seats.Seat.{Seat}
use Rattle.wm_flow.specs.Seats.{tables_of}
use Rattle.wm_program.specs.Code.{code_of}
use Rattle.wm_labels.specs.Live.{IsDead}
use Rattle.wm_accept.specs.Live.{AreLive}
use Rattle.wm_accept.specs.Watched.{IsWatched}
use Rattle.wm_verdict.specs.declared.judge.Judge.{Judge}
use Rattle.wm_verdict.specs.Sites.{IsJudged, AreVerdicts, verdicts_of}
use Rattle.wm_verdict.proofs.Judging.{judged_all}
use Rattle.wm_check.specs.declared.watching.Outcome.{Outcome}
use Rattle.wm_check.specs.declared.watching.Outcome.TheVariants.{Accepted}
use Rattle.wm_check.specs.declared.watching.Told.{Told}
use Rattle.wm_check.specs.Counters.{AreTurns}
use Rattle.wm_check.specs.Outcomes.{IfTold, IsTold, AreDead}
use Rattle.wm_check.specs.Found.{AreCounted, AreStateLines, AreFindings, AreFacts}

module _ (Allowed : Graph → (number : ℕ) → (Point → Type 0) → (Point → Type 0) → Point → Type 0) (Started : Program → Graph → Point → Type 0) {S : Type 0} (Has : S → Point → Type 0) (shape_of : S → Shape) (program : Program) (graph : Graph) (heads : List S) where
  dead_in : (labels : List S) (live marks : List Bool) → marks ≡ live → AreLive Allowed Has shape_of graph live labels → AreDead Allowed Has shape_of graph labels marks
  dead_in labels live marks e h = record { each = λ k off. subst (λ (ls : List S). IsDead Allowed Has shape_of graph ls k) (append-nil labels) (h.dead k (subst (λ ms. slice_get ms k ≡ Some false) e off) []) }

  pub told_watched : (judge : Judge) (told : Told) (live : List Bool) (gap : Option Gap) → gap ≡ None → IfNone gap (IsWatched Allowed Started Has shape_of (λ labels. IsJudged Has program graph labels judge × AreLive Allowed Has shape_of graph live labels) program graph heads)
      → judge.edge ≡ length graph.edges → told.verdicts ≡ verdicts_of judge.entries.items → told.live.items ≡ live → IsTold Allowed Started Has shape_of program graph heads told
  told_watched judge told live None none h e f l = record {
    accepted = h.accepted;
    verdicts_are = judged_all Has program graph h.accepted.labels judge told.verdicts e f h.saw.0;
    dead = dead_in h.accepted.labels live told.live.items l h.saw.1;
  }
  told_watched judge told live (Some gap) none h e f l = absurd (differs none)
    where
      differs : Some gap ≡ None → ⊥
      differs e = cc

  pub told_by : {outcome : Outcome} (told : Told) → outcome ≡ Accepted told → IfTold outcome (IsTold Allowed Started Has shape_of program graph heads) → IsTold Allowed Started Has shape_of program graph heads told
  told_by told e h = subst (λ (o : Outcome). IfTold o (IsTold Allowed Started Has shape_of program graph heads)) e h

  pub findings_told : (weights : List (Option ℕ)) (turns : List (Option ℕ)) (told : Told) (findings : Findings) → IsTold Allowed Started Has shape_of program graph heads told → findings.sites ≡ told.verdicts
      → (seats : List Seat) → seats ≡ (tables_of (code_of program)).objects → AreStateLines Has program.objects seats heads findings.states → AreTurns Has graph heads turns
      → AreCounted program graph weights turns told.live.items told.stops.items findings → AreFindings Allowed Started Has shape_of program graph weights heads findings
  findings_told weights turns told findings h e seats s lines t c = record {
    accepted = h.accepted;
    verdicts_are = subst (λ vs. AreVerdicts Has program graph h.accepted.labels vs) (sym e) h.verdicts_are;
    states_are = subst (λ ss. AreStateLines Has program.objects ss heads findings.states) s lines;
    turns = turns;
    turns_are = t;
    live = told.live.items;
    dead = h.dead;
    stops = told.stops.items;
    counted = c;
  }

  pub facts_told : (told : Told) (facts : Facts) → IsTold Allowed Started Has shape_of program graph heads told → AreTurns Has graph heads facts.turns → facts.live ≡ told.live.items → AreFacts Allowed Started Has shape_of program graph heads facts
  facts_told told facts h t e = record {
    accepted = h.accepted;
    turns_are = t;
    dead = subst (λ ms. AreDead Allowed Has shape_of graph h.accepted.labels ms) (sym e) h.dead;
  }
