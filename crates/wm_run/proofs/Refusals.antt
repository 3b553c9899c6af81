-- The refusals of the files of each command are fair.
use Rattle.std.proofs.Common.{ℕ, ◌-◌, List, [], ◌∷◌, ◌++◌, length, Option, Some, None, Result, Ok, Err, refl}
use Rattle.wm_lacking.specs.Lacking.{lacking}
use Rattle.wm_lang.specs.declared.token.Token.{Token}
use Rattle.wm_lang.specs.declared.unit.Unit.{Unit as Source}
use Rattle.wm_lex.specs.declared.fault.LexFault.{LexFault}
use Rattle.wm_lex.specs.declared.fault.LexFault.TheVariants as lexical
use Rattle.wm_lex.specs.Lines.{tokens_of}
use Rattle.wm_link.specs.Linked.{linked}
use Rattle.wm_load.specs.Checking.{check_asked, check_behind, check_load_asked, with_bytes}
use Rattle.wm_load.specs.Linking.{linked_in, program_of_tokens, program_of_texts}
use Rattle.wm_load.specs.Loaded.{Loaded}
use Rattle.wm_load.specs.Loading.{load_asked, load_behind, loaded_from, unless_lacking, weighed}
use Rattle.wm_load.specs.Replaying.{replay_asked, replay_behind, with_frames}
use Rattle.wm_load.specs.Specification.{spec_of}
use Rattle.wm_members.specs.declared.fault.StructFault.{StructFault}
use Rattle.wm_members.specs.declared.fault.StructFault.TheVariants as struct
use Rattle.wm_ops.specs.declared.words.Counted.{Counted}
use Rattle.wm_parse.specs.Units.{unit_of}
use Rattle.wm_program.specs.declared.faults.LinkFault.{LinkFault}
use Rattle.wm_program.specs.declared.faults.LinkFault.TheVariants as link
use Rattle.wm_program.specs.declared.program.Program.{Program}
use Rattle.wm_program.specs.declared.spec.Spec.{Spec}
use Rattle.wm_program.specs.Settings.{Settings}
use Rattle.wm_read.specs.Asking.{Bytes}
use Rattle.wm_read.specs.Certificate.{certificate_asked, certified, certified_asked, certified_behind, certified_by, check_texts_asked}
use Rattle.wm_read.specs.Files.{Texts, settings_from, spec_fault, specification_asked, weight_fault, weights_asked, source_asked, sources_behind, sources_asked, texts_behind, texts_with, texts_asked, sample_fault, samples_asked}
use Rattle.wm_samples.specs.declared.fault.SampleFault.{SampleFault}
use Rattle.wm_samples.specs.declared.fault.SampleFault.TheVariants as sample
use Rattle.wm_samples.specs.Form.{forms_of}
use Rattle.wm_samples.specs.Samples.{frames_of}
use Rattle.wm_spec.specs.declared.fault.SpecFault.{SpecFault}
use Rattle.wm_spec.specs.declared.fault.SpecFault.TheVariants as spec
use Rattle.wm_spec.specs.Read.{read_of as settings_of_bytes}
use Rattle.wm_struct.specs.Items.{expansion_of}
use Rattle.wm_tokens.specs.Tokens.{link_fault, tokens_in, tokens_or_fault}
use Rattle.wm_unit.specs.Trees.{struct_fault, syntax_fault, written_in, plain_in, unit_in}
use Rattle.wm_weights.specs.declared.fault.WeightFault.{WeightFault}
use Rattle.wm_weights.specs.declared.fault.WeightFault.TheVariants as weight
use Rattle.wm_weights.specs.Given.{read_of as weights_of_bytes}
use Rattle.wm_gen.specs.Example.{spec_text}
use Rattle.wm_run.specs.Demo.{demo_name, example_behind, example_loaded, example_texts}
use Rattle.wm_run.proofs.Fair.{IsPlain, Plain, Fair, fair_on, plain_by, plain_then}

-- ---- the files

spec_plain : (name : List ℕ) (e : SpecFault) → IsPlain (spec_fault name e)
spec_plain name spec.NotToml = tt
spec_plain name (spec.MissingKey key) = tt
spec_plain name (spec.UnknownKey key) = tt
spec_plain name (spec.BadValue key) = tt
spec_plain name spec.NoMemory = tt

specification_fair : (name : List ℕ) → Fair (specification_asked name)
unfolding specification_asked
specification_fair name = (λ bytes. plain_by (spec_fault name) (spec_plain name) (settings_of_bytes bytes), tt, refl)

weight_plain : (name : List ℕ) (e : WeightFault) → IsPlain (weight_fault name e)
weight_plain name weight.NotToml = tt
weight_plain name (weight.BadKey key) = tt
weight_plain name (weight.BadNumber key) = tt
weight_plain name weight.NoMemory = tt

weights_fair : (name : Option (List ℕ)) → Fair (weights_asked name)
unfolding weights_asked
weights_fair None = tt
weights_fair (Some name) = (λ bytes. plain_by (weight_fault name) (weight_plain name) (weights_of_bytes bytes), tt, refl)

source_fair : (room : ℕ) (name : List ℕ) → Fair (source_asked room name)
unfolding source_asked
source_fair room name = (λ bytes. tt, tt, refl)

sources_fair : (room : ℕ) (texts names : List (List ℕ)) → Fair (sources_behind room texts names)
sources_fair room texts [] = tt
sources_fair room texts (name ∷ names) =
    fair_on (source_asked room name) (λ text. sources_behind (room - length text) (texts ++ text ∷ []) names) (source_fair room name)
    (λ text. sources_fair (room - length text) (texts ++ text ∷ []) names)

all_sources_fair : (names : List (List ℕ)) → Fair (sources_asked names)
unfolding sources_asked
all_sources_fair names = sources_fair 4194304 [] names

behind_fair : (settings : Settings) (weights : List (Option ℕ)) → Fair (texts_behind settings weights)
unfolding texts_behind
behind_fair settings weights = fair_on (sources_asked settings.sources) _ (all_sources_fair settings.sources) (λ sources. tt)

with_fair : (settings : Settings) → Fair (texts_with settings)
unfolding texts_with
with_fair settings = fair_on (weights_asked settings.weights) (texts_behind settings) (weights_fair settings.weights) (behind_fair settings)

texts_fair : (name : List ℕ) → Fair (texts_asked name)
unfolding texts_asked
texts_fair name = fair_on (specification_asked name) texts_with (specification_fair name) with_fair

-- ---- the sources

lexical_plain : (names : List (List ℕ)) (r : Result (List Token) LexFault) → Plain (tokens_or_fault names r)
lexical_plain names (Ok tokens) = tt
lexical_plain names (Err (lexical.BadByte place)) = tt
lexical_plain names (Err (lexical.OpenComment place)) = tt
lexical_plain names (Err (lexical.BadNumber place)) = tt
lexical_plain names (Err (lexical.BadDirective place)) = tt
lexical_plain names (Err (lexical.MacroLoop place)) = tt
lexical_plain names (Err (lexical.TooManyTokens place)) = tt
lexical_plain names (Err lexical.NoMemory) = tt

tokens_plain : (names texts : List (List ℕ)) → Plain (tokens_in names texts)
unfolding tokens_in
tokens_plain names texts = lexical_plain names (tokens_of texts)

written_plain : (names : List (List ℕ)) (tokens : List Token) → Plain (written_in names tokens)
unfolding written_in
written_plain names tokens = plain_by (syntax_fault names tokens) (λ token. tt) (unit_of tokens)

struct_plain : (names : List (List ℕ)) (tokens : List Token) (e : StructFault) → IsPlain (struct_fault names tokens e)
struct_plain names tokens (struct.NoStruct token) = tt
struct_plain names tokens (struct.StructTwice token) = tt
struct_plain names tokens (struct.StructSize token) = tt
struct_plain names tokens (struct.NoMember token) = tt
struct_plain names tokens (struct.StructKind token) = tt
struct_plain names tokens struct.NoMemory = tt

expanded_plain : (names : List (List ℕ)) (tokens : List Token) (unit : Source) → Plain (plain_in names tokens unit)
unfolding plain_in
expanded_plain names tokens unit = plain_by (struct_fault names tokens) (struct_plain names tokens) (expansion_of unit)

unit_plain : (names : List (List ℕ)) (tokens : List Token) → Plain (unit_in names tokens)
unfolding unit_in
unit_plain names tokens = plain_then (written_in names tokens) (plain_in names tokens) (written_plain names tokens) (expanded_plain names tokens)

link_plain : (names : List (List ℕ)) (tokens : List Token) (e : LinkFault) → IsPlain (link_fault names tokens e)
link_plain names tokens (link.UnknownName token) = tt
link_plain names tokens (link.Redefined token) = tt
link_plain names tokens (link.WrongKind token) = tt
link_plain names tokens (link.WrongCount token) = tt
link_plain names tokens (link.NotConstant token) = tt
link_plain names tokens (link.BadLength token) = tt
link_plain names tokens (link.AssignToConst token) = tt
link_plain names tokens (link.BreakOutside token) = tt
link_plain names tokens (link.MissingReturn token) = tt
link_plain names tokens (link.Recursion token) = tt
link_plain names tokens (link.TooManyAt what token) = tt
link_plain names tokens (link.NoFrame name) = tt
link_plain names tokens (link.NoInit name) = tt
link_plain names tokens (link.BadInput name) = tt
link_plain names tokens (link.TooMany what) = tt
link_plain names tokens link.NoMemory = tt

linked_plain : (spec : Spec) (tokens : List Token) (unit : Source) → Plain (linked_in spec tokens unit)
unfolding linked_in
linked_plain spec tokens unit = plain_by (link_fault spec.sources tokens) (link_plain spec.sources tokens) (linked unit spec)

of_tokens_plain : (spec : Spec) (tokens : List Token) → Plain (program_of_tokens spec tokens)
unfolding program_of_tokens
of_tokens_plain spec tokens = plain_then (unit_in spec.sources tokens) (linked_in spec tokens) (unit_plain spec.sources tokens) (linked_plain spec tokens)

of_texts_plain : (spec : Spec) (texts : List (List ℕ)) → Plain (program_of_texts spec texts)
unfolding program_of_texts
of_texts_plain spec texts = plain_then (tokens_in spec.sources texts) (program_of_tokens spec) (tokens_plain spec.sources texts) (of_tokens_plain spec)

lacking_plain : (word : Option Counted) (loaded : Loaded) → Plain (unless_lacking word loaded)
lacking_plain None loaded = tt
lacking_plain (Some word) loaded = tt

weighed_plain : (settings : Settings) (weights : List (Option ℕ)) (program : Program) → Plain (weighed settings weights program)
unfolding weighed
weighed_plain settings weights program = lacking_plain (lacking program weights) (record { settings = settings; weights = weights; program = program })

loaded_plain : (texts : Texts) → Plain (loaded_from texts)
unfolding loaded_from
loaded_plain texts =
    plain_then (program_of_texts (spec_of texts.settings) texts.sources) (weighed texts.settings texts.weights)
    (of_texts_plain (spec_of texts.settings) texts.sources) (weighed_plain texts.settings texts.weights)

pub load_fair : (name : List ℕ) → Fair (load_asked name)
unfolding load_asked
load_fair name = fair_on (texts_asked name) load_behind (texts_fair name) loaded_plain

-- ---- the samples

sample_plain : (program : Program) (e : SampleFault) → IsPlain (sample_fault program e)
sample_plain program (sample.Rest bytes) = tt
sample_plain program (sample.OutOfRange frame input cell value) = tt
sample_plain program sample.NoMemory = tt

samples_fair : (program : Program) (name : List ℕ) → Fair (samples_asked program name)
unfolding samples_asked
samples_fair program name = (λ bytes. plain_by (sample_fault program) (sample_plain program) (frames_of (forms_of program) bytes), tt, refl)

replay_behind_fair : (samples : List ℕ) (loaded : Loaded) → Fair (replay_behind samples loaded)
unfolding replay_behind
replay_behind_fair samples loaded = fair_on (samples_asked loaded.program samples) (with_frames loaded) (samples_fair loaded.program samples) (λ frames. tt)

pub replay_fair : (spec samples : List ℕ) → Fair (replay_asked spec samples)
unfolding replay_asked
replay_fair spec samples = fair_on (load_asked spec) (replay_behind samples) (load_fair spec) (replay_behind_fair samples)

-- ---- the certificate

certified_plain : (name : Option (List ℕ)) (settings : Settings) → Plain (certified_by name settings)
certified_plain None settings = tt
certified_plain (Some name) settings = tt

settings_certified : (settings : Settings) → Fair (certified_behind settings)
unfolding certified
settings_certified settings = certified_plain settings.certificate settings

certified_fair : (name : List ℕ) → Fair (certified_asked name)
unfolding certified_asked
certified_fair name = fair_on (specification_asked name) certified_behind (specification_fair name) settings_certified

check_texts_fair : (name : List ℕ) → Fair (check_texts_asked name)
unfolding check_texts_asked
check_texts_fair name = fair_on (certified_asked name) texts_with (certified_fair name) with_fair

check_load_fair : (name : List ℕ) → Fair (check_load_asked name)
unfolding check_load_asked
check_load_fair name = fair_on (check_texts_asked name) load_behind (check_texts_fair name) loaded_plain

certificate_fair : (name : Option (List ℕ)) → Fair (certificate_asked name)
unfolding certificate_asked
certificate_fair None = tt
certificate_fair (Some name) = (λ bytes. tt, tt, refl)

check_behind_fair : (loaded : Loaded) → Fair (check_behind loaded)
unfolding check_behind
check_behind_fair loaded = fair_on (certificate_asked loaded.settings.certificate) (with_bytes loaded) (certificate_fair loaded.settings.certificate) (λ bytes. tt)

pub check_fair : (name : List ℕ) → Fair (check_asked name)
unfolding check_asked
check_fair name = fair_on (check_load_asked name) check_behind (check_load_fair name) check_behind_fair

-- ---- the example

pub example_plain : (stages : ℕ) → Plain (example_loaded stages)
unfolding example_loaded
example_plain stages =
    plain_then (settings_from demo_name (Bytes spec_text)) (example_behind stages) (plain_by (spec_fault demo_name) (spec_plain demo_name) (settings_of_bytes spec_text))
    (λ settings. loaded_plain (example_texts stages settings))
