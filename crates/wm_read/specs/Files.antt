-- The files of a call, each as what it asks for: the specification, the weights, the sources, the samples.
use Rattle.std.specs.Prelude.{ℕ, ◌-◌, ℤ, List, [], ◌∷◌, ◌++◌, length, Option, Some, None, Result, Ok, Err, slice_get}
use Rattle.wm_program.specs.declared.program.InputInfo.{InputInfo}
use Rattle.wm_program.specs.declared.program.ObjectInfo.{ObjectInfo}
use Rattle.wm_program.specs.declared.program.Program.{Program}
use Rattle.wm_program.specs.Settings.{Settings}
use Rattle.wm_report.specs.declared.fault.RunFault.{RunFault}
use Rattle.wm_report.specs.declared.fault.RunFault.TheVariants as run
use Rattle.wm_samples.specs.declared.fault.SampleFault.{SampleFault}
use Rattle.wm_samples.specs.declared.fault.SampleFault.TheVariants as sample
use Rattle.wm_samples.specs.Form.{forms_of}
use Rattle.wm_samples.specs.Samples.{frames_of}
use Rattle.wm_spec.specs.declared.fault.SpecFault.{SpecFault}
use Rattle.wm_spec.specs.declared.fault.SpecFault.TheVariants as spec
use Rattle.wm_spec.specs.Read.{read_of as settings_of_bytes}
use Rattle.wm_weights.specs.declared.fault.WeightFault.{WeightFault}
use Rattle.wm_weights.specs.declared.fault.WeightFault.TheVariants as weight
use Rattle.wm_weights.specs.Given.{read_of as weights_of_bytes}
use Rattle.wm_weights.specs.Table.{ones}
use Rattle.wm_read.specs.Asking.{Read, Bytes, TooLong, Failed, Asking, Done, Ask, ◌>>=◌}

-- a fault by another name
abbrev pub by_fault : {A E : Type 0} → (E → RunFault) → Result A E → Result A RunFault
by_fault name (Ok x) = Ok x
by_fault name (Err fault) = Err (name fault)

-- ---- the specification

abbrev pub spec_fault : List ℕ → SpecFault → RunFault
spec_fault name spec.NotToml = run.NotToml name
spec_fault name (spec.MissingKey key) = run.MissingKey key
spec_fault name (spec.UnknownKey key) = run.UnknownKey key
spec_fault name (spec.BadValue key) = run.BadValue key
spec_fault name spec.NoMemory = run.Memory

abbrev pub settings_from : List ℕ → Read → Result Settings RunFault
settings_from name (Bytes bytes) = by_fault (spec_fault name) (settings_of_bytes bytes)
settings_from name TooLong = Err (run.FileTooLong name)
settings_from name Failed = Err (run.ReadFailed name)

-- at most 1 MiB
unfoldable pub specification_asked : List ℕ → Asking (Result Settings RunFault)
specification_asked name = Ask name 1048576 (λ read. Done (settings_from name read))

-- ---- the weights

abbrev pub weight_fault : List ℕ → WeightFault → RunFault
weight_fault name weight.NotToml = run.NotToml name
weight_fault name (weight.BadKey key) = run.BadKey key
weight_fault name (weight.BadNumber key) = run.BadNumber key
weight_fault name weight.NoMemory = run.Memory

abbrev pub weights_from : List ℕ → Read → Result (List (Option ℕ)) RunFault
weights_from name (Bytes bytes) = by_fault (weight_fault name) (weights_of_bytes bytes)
weights_from name TooLong = Err (run.FileTooLong name)
weights_from name Failed = Err (run.ReadFailed name)

-- those of a file of at most 1 MiB, or 1 for each word
unfoldable pub weights_asked : Option (List ℕ) → Asking (Result (List (Option ℕ)) RunFault)
weights_asked None = Done (Ok ones)
weights_asked (Some name) = Ask name 1048576 (λ read. Done (weights_from name read))

-- ---- the sources

abbrev pub source_from : List ℕ → Read → Result (List ℕ) RunFault
source_from name (Bytes bytes) = Ok bytes
source_from name TooLong = Err run.SourcesTooLong
source_from name Failed = Err (run.ReadFailed name)

unfoldable pub source_asked : ℕ → List ℕ → Asking (Result (List ℕ) RunFault)
source_asked room name = Ask name room (λ read. Done (source_from name read))

-- the sources of these names behind those that were read, for which this room is left
abbrev pub sources_behind : ℕ → List (List ℕ) → List (List ℕ) → Asking (Result (List (List ℕ)) RunFault)
sources_behind room texts [] = Done (Ok texts)
sources_behind room texts (name ∷ names) =
    source_asked room name >>= λ text. sources_behind (room - length text) (texts ++ text ∷ []) names

-- all together at most 4 MiB: each has the room that those before it left
unfoldable pub sources_asked : List (List ℕ) → Asking (Result (List (List ℕ)) RunFault)
sources_asked names = sources_behind 4194304 [] names

-- ---- all of them, in their order

pub record Texts : Type 0 where
  pub settings : Settings
  pub weights : List (Option ℕ)
  pub sources : List (List ℕ)

unfoldable pub texts_behind : Settings → List (Option ℕ) → Asking (Result Texts RunFault)
texts_behind settings weights =
    sources_asked settings.sources >>= λ sources. Done (Ok (record { settings = settings; weights = weights; sources = sources }))

unfoldable pub texts_with : Settings → Asking (Result Texts RunFault)
texts_with settings = weights_asked settings.weights >>= texts_behind settings

unfoldable pub texts_asked : List ℕ → Asking (Result Texts RunFault)
texts_asked name = specification_asked name >>= texts_with

-- ---- the samples

-- the name of an object, and of an input by its object; none where there is no such object
abbrev pub object_name : Option ObjectInfo → List ℕ
object_name None = []
object_name (Some object) = object.name

abbrev pub name_of : List ObjectInfo → Option InputInfo → List ℕ
name_of objects None = []
name_of objects (Some input) = object_name (slice_get objects input.object)

abbrev pub input_name : Program → ℕ → List ℕ
input_name program input = name_of program.objects (slice_get program.inputs input)

abbrev pub sample_fault : Program → SampleFault → RunFault
sample_fault program (sample.Rest bytes) = run.Rest bytes
sample_fault program (sample.OutOfRange frame input cell value) = run.OutOfRange frame (input_name program input) cell value
sample_fault program sample.NoMemory = run.Memory

abbrev pub samples_from : Program → List ℕ → Read → Result (List (List ℤ)) RunFault
samples_from program name (Bytes bytes) = by_fault (sample_fault program) (frames_of (forms_of program) bytes)
samples_from program name TooLong = Err (run.FileTooLong name)
samples_from program name Failed = Err (run.ReadFailed name)

-- at most 16 MiB
unfoldable pub samples_asked : Program → List ℕ → Asking (Result (List (List ℤ)) RunFault)
samples_asked program name = Ask name 16777216 (λ read. Done (samples_from program name read))
