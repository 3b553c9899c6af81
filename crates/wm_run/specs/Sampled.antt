-- What replay and observe come to.
use Rattle.std.specs.Prelude.{◌≡◌, List}
use Rattle.wm_findings.specs.declared.findings.Findings.{Findings}
use Rattle.wm_findings.specs.declared.findings.Seen.{Seen}
use Rattle.wm_findings_text.specs.Observed.{observe_text}
use Rattle.wm_load.specs.Replay.{Replay}
use Rattle.wm_load.specs.Specification.{spec_of}
use Rattle.wm_observe.specs.Observation.{observation, observation_in}
use Rattle.wm_program.specs.declared.inputs.Inputs.{Inputs}
use Rattle.wm_replay.specs.Replay.{numbers_of}
use Rattle.wm_weights.specs.Table.{weight_of}
use Rattle.wm_run.specs.Outcome.{Decided, Told}
use Rattle.wm_run.specs.Proved.{Proof}
use Rattle.wm_run.specs.Replay.{whole_replay}

abbrev pub ReplayedAs : Replay → Decided → Type 0
ReplayedAs given d = d ≡ Told (whole_replay given)

-- the samples are run, and what is seen of them is told beside what is proved
pub record ObservedAs (given : Replay) (d : Decided) : Type 0 where
  pub proof : Proof given.program
  pub findings : Findings
  pub inputs : List Inputs
  pub frames : numbers_of inputs ≡ given.frames
  pub seen : Seen
  pub observed : observation_in seen ≡ observation given.program (weight_of given.weights) inputs given.settings.steps
  pub is : d ≡ Told (observe_text given.program (spec_of given.settings) findings seen)
