-- The texts of what was loaded, told of what its specification says.
use Rattle.std.proofs.Common.{◌≡◌, Bool, true, List, ℕ, Option, Some, None, Result, Ok, Err, sym, ap, subst, ◌∙◌}
use Rattle.std.specs.Prelude.{IfOk}
use Rattle.wm_cert_write.specs.Heads.{IsTextOf}
use Rattle.wm_findings.specs.declared.findings.Findings.{Findings}
use Rattle.wm_findings.specs.declared.findings.Seen.{Seen}
use Rattle.wm_findings_text.specs.Observed.{observe_text}
use Rattle.wm_findings_text.specs.Report.{is_safe, report_text}
use Rattle.wm_flow.specs.declared.graph.Graph.{Graph}
use Rattle.wm_groups.specs.declared.groups.Groups.{Groups}
use Rattle.wm_headroom_text.specs.Text.{IsHeadroomText}
use Rattle.wm_load.specs.declared.loaded.Loaded.{Loaded as Given}
use Rattle.wm_load.specs.declared.replay.Replay.{Replay as GivenReplay}
use Rattle.wm_load.specs.Loaded.{loaded_of}
use Rattle.wm_load.specs.Replay.{replay_of}
use Rattle.wm_load.specs.Specification.{spec_of}
use Rattle.wm_load.proofs.Backwards.{same_spec}
use Rattle.wm_observe.specs.Observation.{observation, observation_in}
use Rattle.wm_path.specs.declared.choice.Choice.{Choice}
use Rattle.wm_program.specs.declared.inputs.Inputs.{Inputs}
use Rattle.wm_program.specs.declared.program.Program.{Program}
use Rattle.wm_program.specs.declared.spec.Spec.{Spec}
use Rattle.wm_program.specs.Settings.{settings_of}
use Rattle.wm_proving.specs.Proofs.{IsProved}
use Rattle.wm_proving.specs.Worst.{AreOfParts, AreWorst}
use Rattle.wm_replay.specs.Replay.{numbers_of}
use Rattle.wm_weights.specs.Table.{weight_of}
use Rattle.wm_worst_text.specs.Text.{worst_text}
use Rattle.wm_run.specs.declared.outcome.Outcome.{Outcome}
use Rattle.wm_run.specs.Outcome.{Decided, Judged, Told, decided}
use Rattle.wm_run.specs.World.{World}
use Rattle.wm_run.specs.States.{holds, shape_of}
use Rattle.wm_run.specs.Proved.{HeadroomAs, Proof, ProvedAs, WorstAs, Written, WrittenAs, WrittenBytes, report_of}
use Rattle.wm_run.specs.Sampled.{ObservedAs}

module _ (program : Program) (spec : Spec) (findings : Findings) (text : List ℕ) where
  same_text : (of : Spec → List ℕ) → text ≡ of spec → text ≡ of (spec_of (settings_of spec))
  same_text of e = e ∙ ap of (sym (same_spec spec))

  pub report_shown : (safe : Bool) → safe ≡ is_safe findings → text ≡ report_text program spec findings → Judged safe text ≡ report_of program (settings_of spec) findings
  report_shown safe same e = ap (λ (b : Bool). Judged b text) same ∙ ap (Judged (is_safe findings)) (same_text (λ s. report_text program s findings) e)

  headroom_shown : IsHeadroomText program spec findings text → IsHeadroomText program (spec_of (settings_of spec)) findings text
  headroom_shown is = subst (λ (s : Spec). IsHeadroomText program s findings text) (sym (same_spec spec)) is

module _ (loaded : Given) (graph : Graph) (heads : List Groups) (proved : IsProved holds shape_of loaded.program graph heads) (findings : Findings) where
  abbrev proof : Proof loaded.program
  proof = record { graph = graph; heads = heads; proved = proved }

  -- ---- prove

  module _ (world : World) (wanted : Decided) (told : wanted ≡ report_of loaded.program (settings_of loaded.spec) findings) where
    pub prove_told : loaded.spec.certificate ≡ None → world.after ≡ world.before → ProvedAs world (loaded_of loaded) wanted
    prove_told none kept = record {
      proof = proof;
      findings = findings;
      written = subst (λ (certificate : Option (List ℕ)). Written proof world certificate (report_of loaded.program (settings_of loaded.spec) findings) wanted) (sym none) (kept, told);
    }

    prove_bytes : (name bytes : List ℕ) → loaded.spec.certificate ≡ Some name → IsTextOf shape_of holds true graph heads bytes
        → (d : Decided) → WrittenBytes world name bytes (report_of loaded.program (settings_of loaded.spec) findings) d → ProvedAs world (loaded_of loaded) d
    prove_bytes name bytes some text d ends =
        let here : WrittenAs proof world name (report_of loaded.program (settings_of loaded.spec) findings) d = record { bytes = bytes; text = text; ends = ends } in
        record {
          proof = proof;
          findings = findings;
          written = subst (λ (certificate : Option (List ℕ)). Written proof world certificate (report_of loaded.program (settings_of loaded.spec) findings) d) (sym some) here;
        }

    pub prove_written : {E : Type 0} (name bytes shown : List ℕ) (r : Result Outcome E) → loaded.spec.certificate ≡ Some name → shown ≡ bytes → IsTextOf shape_of holds true graph heads bytes
        → IfOk r (λ o. WrittenBytes world name shown wanted (decided o)) → IfOk r (λ o. ProvedAs world (loaded_of loaded) (decided o))
    prove_written name bytes shown (Ok o) some same text ends =
        prove_bytes name shown some (subst (IsTextOf shape_of holds true graph heads) (sym same) text) (decided o)
        (subst (λ (d : Decided). WrittenBytes world name shown d (decided o)) told ends)
    prove_written name bytes shown (Err e) some same text ends = tt

  -- ---- worst and headroom

  module _ (safe : Bool) (text : List ℕ) (same : safe ≡ is_safe findings) where
    judged : Judged safe text ≡ Judged (is_safe findings) text
    judged = ap (λ (b : Bool). Judged b text) same

    pub worst_shown : (chosen choices : List (Option Choice)) → choices ≡ chosen → AreWorst graph loaded.weights chosen → AreOfParts loaded.program graph loaded.weights chosen
        → text ≡ worst_text graph loaded.weights loaded.spec findings choices → WorstAs (loaded_of loaded) (Judged safe text)
    worst_shown chosen choices shown worst parts e = record {
      proof = proof;
      findings = findings;
      choices = choices;
      worst = subst (AreWorst graph loaded.weights) (sym shown) worst;
      parts = subst (AreOfParts loaded.program graph loaded.weights) (sym shown) parts;
      is = judged ∙ ap (Judged (is_safe findings)) (same_text loaded.program loaded.spec findings text (λ s. worst_text graph loaded.weights s findings choices) e);
    }

    pub headroom_told : IsHeadroomText loaded.program loaded.spec findings text → HeadroomAs (loaded_of loaded) (Judged safe text)
    headroom_told shifts =
        record { proof = proof; findings = findings; text = text; shifts = headroom_shown loaded.program loaded.spec findings text shifts; is = judged }

module _ (given : GivenReplay) (graph : Graph) (heads : List Groups) (proved : IsProved holds shape_of given.program graph heads) (findings : Findings) where
  pub observe_shown : (inputs ran : List Inputs) (seen : Seen) (text : List ℕ) → numbers_of inputs ≡ (replay_of given).frames → ran ≡ inputs
      → observation_in seen ≡ observation given.program (weight_of given.weights) ran given.spec.steps
      → text ≡ observe_text given.program given.spec findings seen → ObservedAs (replay_of given) (Told text)
  observe_shown inputs ran seen text numbers same observed e = record {
    proof = record { graph = graph; heads = heads; proved = proved };
    findings = findings;
    inputs = inputs;
    frames = numbers;
    seen = seen;
    observed = observed ∙ ap (λ (list : List Inputs). observation given.program (weight_of given.weights) list given.spec.steps) same;
    is = ap Told (same_text given.program given.spec findings text (λ s. observe_text given.program s findings seen) e);
  }
