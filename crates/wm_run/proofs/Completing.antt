-- Where nothing refuses, a call comes to its whole text.
use Rattle.std.proofs.Common.{◌≡◌, ◌⊎◌, inl, inr, ◌∙◌, sym, ap, subst, ℕ, true, List, Option, Some, None, Result, Ok, Err, refl}
use Rattle.std.specs.Prelude.{IfSome}
use Rattle.wm_cert_states.specs.Answers.{heads_in}
use Rattle.wm_files.specs.Outside.{Held, Rose}
use Rattle.wm_load.specs.Check.{Check as GivenCheck}
use Rattle.wm_load.specs.Checking.{check_asked}
use Rattle.wm_load.specs.Loaded.{Loaded}
use Rattle.wm_load.specs.Loading.{load_asked}
use Rattle.wm_load.specs.Replay.{Replay as Given}
use Rattle.wm_load.specs.Replaying.{replay_asked}
use Rattle.wm_program.specs.declared.program.Program.{Program}
use Rattle.wm_proving.specs.Refusals.{IsText, Refuses}
use Rattle.wm_read.specs.Asking.{Asking, told}
use Rattle.wm_report.specs.declared.fault.RunFault.{RunFault}
use Rattle.wm_report.specs.declared.fault.RunFault.TheVariants.{SourcesTooLong, Source, TooMany, NoFrame, NoInit, BadInput, FileTooLong, NotToml, MissingKey, UnknownKey, BadValue, BadKey, BadNumber, MissingWeight, Rest, OutOfRange, CertificateTooLong, BadText, WrongHeads, NotInductive, ReadFailed, WriteFailed, Memory, Words}
use Rattle.wm_words.specs.Words.{Form, Prove, Check, Replay, Demo, Worst, Headroom, Observe, BadWords, form_of}
use Rattle.wm_run.specs.Completeness.{AnswersText, IsGap, CheckCompletes, CheckRefuses, Comes, Completes, DemoCompletes, EndsIn, HeadroomCompletes, IsReport, ObserveCompletes, ProveCompletes, ReplayCompletes, Stands, TellsRefusal, WorstCompletes, first_refusal, refusal_in}
use Rattle.wm_run.specs.Demo.{ByExample, example_loaded}
use Rattle.wm_run.specs.Ends.{Call, Ends, EndsAsTold, EndsByTold, Put}
use Rattle.wm_run.specs.Leads.{By, FromForm, Reading, ToldForm}
use Rattle.wm_run.specs.Outcome.{Decided, Fault, IsOwn, Told}
use Rattle.wm_run.specs.Proved.{CheckedAs, IsCertificate, Proof, ProvedAs, Written, WrittenBytes, HeadroomAs, WorstAs, report_of}
use Rattle.wm_run.specs.Replay.{whole_replay}
use Rattle.wm_run.specs.Sampled.{ObservedAs, ReplayedAs}
use Rattle.wm_run.specs.World.{World}

ok_or_err : {A E : Type 0} (r : Result A E) (x : A) (e : E) → r ≡ Ok x → r ≡ Err e → ⊥
ok_or_err {A} {E} r x e is other = cc

same_line : {A : Type 0} (r : Result A ℕ) (k n : ℕ) → r ≡ Err k → r ≡ Err n → k ≡ n
same_line {A} r k n is other = cc

-- ---- what the answer of the files says of a decision

module _ (world : World) where
  -- where they give what is asked, the decision comes of it
  of_given : {A : Type 0} (As : A → Decided → Type 0) (given : A) (answer : Result A RunFault) (d : Decided) → answer ≡ Ok given → By world As answer d → As given d
  of_given {A} As given answer d is by = subst (λ (r : Result A RunFault). By world As r d) is by

  -- where they refuse, it is the refusal
  of_refusal : {A : Type 0} (As : A → Decided → Type 0) (fault : RunFault) (answer : Result A RunFault) (d : Decided) → refusal_in answer ≡ Some fault → By world As answer d → d ≡ Fault fault
  of_refusal {A} As fault (Ok given) d is by = absurd cc
  of_refusal {A} As fault (Err other) d is by = cc

  of_example : (stages : ℕ) (fault : RunFault) (r : Result Loaded RunFault) (d : Decided) → refusal_in r ≡ Some fault → ByExample stages r d → d ≡ Fault fault
  of_example stages fault (Ok loaded) d is by = absurd cc
  of_example stages fault (Err other) d is by = cc

  of_first : (pairs : Held) (fault : RunFault) (form : Form) (d : Decided) → first_refusal pairs form ≡ Some fault → ToldForm world pairs form d → d ≡ Fault fault
  of_first pairs fault (Prove spec) d is by = of_refusal (ProvedAs world) fault (told pairs (load_asked spec)) d is by
  of_first pairs fault (Check spec) d is by = of_refusal (Reading world CheckedAs) fault (told pairs (check_asked spec)) d is by
  of_first pairs fault (Replay spec samples) d is by = of_refusal (Reading world ReplayedAs) fault (told pairs (replay_asked spec samples)) d is by
  of_first pairs fault (Demo stages) d is by = of_example stages fault (example_loaded stages) d is by.1
  of_first pairs fault (Worst spec) d is by = of_refusal (Reading world WorstAs) fault (told pairs (load_asked spec)) d is by
  of_first pairs fault (Headroom spec) d is by = of_refusal (Reading world HeadroomAs) fault (told pairs (load_asked spec)) d is by
  of_first pairs fault (Observe spec samples) d is by = of_refusal (Reading world ObservedAs) fault (told pairs (replay_asked spec samples)) d is by
  of_first pairs fault BadWords d is by = cc

  -- ---- prove: a certificate that could not be written is a fault of the files

  bytes_stand : {program : Program} (proof : Proof program) (name bytes : List ℕ) (wanted d : Decided) → IsCertificate proof bytes → WrittenBytes world name bytes wanted d
      → Rose world.old world.new ⊎ (Stands proof world (Some name) × (d ≡ wanted))
  bytes_stand {program} proof name bytes wanted d text (inl is) = inr (record { bytes = bytes; text = text; holds_all = is.holds_all }, is.is)
  bytes_stand {program} proof name bytes wanted d text (inr cannot) = inl cannot.rose

  written_stands : {program : Program} (proof : Proof program) (wanted d : Decided) (certificate : Option (List ℕ)) → Written proof world certificate wanted d
      → Rose world.old world.new ⊎ (Stands proof world certificate × (d ≡ wanted))
  written_stands {program} proof wanted d None is = inr is
  written_stands {program} proof wanted d (Some name) is = bytes_stand proof name is.bytes wanted d is.text is.ends

  of_proof : (loaded : Loaded) (d : Decided) → ProvedAs world loaded d → Rose world.old world.new ⊎ IsReport world loaded d
  of_proof loaded d is =
      elim (written_stands is.proof (report_of loaded.program loaded.settings is.findings) d loaded.settings.certificate is.written) [
        | inl rose ↦ inl rose
        | inr stands ↦ inr (record { proof = is.proof; findings = is.findings; stands = stands.0; is = stands.1 })
      ]

-- ---- check: a refusal of the bytes

-- they are no text from this line on
record IsLine (bytes : List ℕ) (fault : RunFault) : Type 0 where
  pub line : ℕ
  pub is : fault ≡ BadText line
  pub read_as : heads_in true bytes ≡ Err line

-- they are a text, of other heads or with a gap
record IsOther (bytes : List ℕ) (fault : RunFault) : Type 0 where
  pub text : IsText true bytes
  pub other : (Fault fault ≡ Fault WrongHeads) ⊎ IsGap (Fault fault)

one_text : (bytes : List ℕ) → IsText true bytes ⊎ IsText true bytes → IsText true bytes
one_text bytes (inl text) = text
one_text bytes (inr text) = text

one_line : (bytes : List ℕ) (line : ℕ) → (heads_in true bytes ≡ Err line) ⊎ (heads_in true bytes ≡ Err line) → heads_in true bytes ≡ Err line
one_line bytes line (inl read_as) = read_as
one_line bytes line (inr read_as) = read_as

kind_of : (bytes : List ℕ) (fault : RunFault) → IsOwn (Fault fault) → Refuses true bytes fault → IsLine bytes fault ⊎ IsOther bytes fault
kind_of bytes SourcesTooLong own refused = absurd refused
kind_of bytes (Source fault at) own refused = absurd refused
kind_of bytes (TooMany what at) own refused = absurd refused
kind_of bytes (NoFrame name) own refused = absurd refused
kind_of bytes (NoInit name) own refused = absurd refused
kind_of bytes (BadInput name) own refused = absurd refused
kind_of bytes (FileTooLong name) own refused = absurd refused
kind_of bytes (NotToml name) own refused = absurd refused
kind_of bytes (MissingKey key) own refused = absurd refused
kind_of bytes (UnknownKey key) own refused = absurd refused
kind_of bytes (BadValue key) own refused = absurd refused
kind_of bytes (BadKey key) own refused = absurd refused
kind_of bytes (BadNumber key) own refused = absurd refused
kind_of bytes (MissingWeight word) own refused = absurd refused
kind_of bytes (Rest count) own refused = absurd refused
kind_of bytes (OutOfRange frame name cell value) own refused = absurd refused
kind_of bytes CertificateTooLong own refused = absurd refused
kind_of bytes (BadText line) own refused = inl (record { line = line; is = refl; read_as = one_line bytes line refused })
kind_of bytes WrongHeads own refused = inr (record { text = one_text bytes refused; other = inl refl })
kind_of bytes (NotInductive gap) own refused = inr (record { text = refused; other = inr (record { gap = gap; is = refl }) })
kind_of bytes (ReadFailed name) own refused = absurd refused
kind_of bytes (WriteFailed name) own refused = absurd refused
kind_of bytes Memory own refused = absurd (own refl)
kind_of bytes Words own refused = absurd refused

other_of_text : (bytes : List ℕ) (fault : RunFault) → IsText true bytes → IsLine bytes fault ⊎ IsOther bytes fault → (Fault fault ≡ Fault WrongHeads) ⊎ IsGap (Fault fault)
other_of_text bytes fault text (inl line) = absurd (ok_or_err (heads_in true bytes) text.heads line.line text.read_as line.read_as)
other_of_text bytes fault text (inr other) = other.other

line_of_none : (bytes : List ℕ) (line : ℕ) (fault : RunFault) → heads_in true bytes ≡ Err line → IsLine bytes fault ⊎ IsOther bytes fault → Fault fault ≡ Fault (BadText line)
line_of_none bytes line fault none (inl here) = ap Fault here.is ∙ ap (λ (k : ℕ). Fault (BadText k)) (same_line (heads_in true bytes) here.line line here.read_as none)
line_of_none bytes line fault none (inr other) = absurd (ok_or_err (heads_in true bytes) other.text.heads line other.text.read_as none)

of_text : (given : GivenCheck) (d : Decided) → IsText true given.certificate → IsOwn d → CheckedAs given d → AnswersText given d
of_text given d text own (inl accepted) = inl accepted
of_text given d text own (inr refused) =
    let here : IsOwn (Fault refused.fault) = subst IsOwn refused.is own in
    inr (subst (λ (e : Decided). (e ≡ Fault WrongHeads) ⊎ IsGap e) (sym refused.is) (other_of_text given.certificate refused.fault text (kind_of given.certificate refused.fault here refused.refused)))

of_none : (given : GivenCheck) (line : ℕ) (d : Decided) → heads_in true given.certificate ≡ Err line → IsOwn d → CheckedAs given d → d ≡ Fault (BadText line)
of_none given line d none own (inl accepted) = absurd (ok_or_err (heads_in true given.certificate) accepted.checked.told.heads line accepted.checked.told.read_as none)
of_none given line d none own (inr refused) =
    let here : IsOwn (Fault refused.fault) = subst IsOwn refused.is own in
    refused.is ∙ line_of_none given.certificate line refused.fault none (kind_of given.certificate refused.fault here refused.refused)

-- ---- the ends of a call

module _ (call : Call) (status : ℕ) where
  -- each decision to which the files lead is of this kind, unless they failed
  ends_each : (pairs : Held) (form : Form) (Is : Decided → Type 0) → form_of call.words ≡ form
      → ((d : Decided) → ToldForm call.files pairs form d → IsOwn d → Rose call.files.old call.files.new ⊎ Is d) → EndsByTold call pairs status → EndsIn call status Is
  ends_each pairs form Is same each (inl rose) = record { ends = inl rose }
  ends_each pairs form Is same each (inr (inl by)) =
      elim (each by.decision (subst (λ (f : Form). ToldForm call.files pairs f by.decision) same by.decides) by.own) [
        | inl rose ↦ record { ends = inl rose }
        | inr is ↦ record { ends = inr (inl (record { decision = by.decision; is = is; put = by.put })) }
      ]
  ends_each pairs form Is same each (inr (inr memory)) = record { ends = inr (inr memory.memory) }

  -- the same over files that give what is asked
  module _ {A : Type 0} (asked : Asking (Result A RunFault)) (given : A) (form : Form) (As Is : A → Decided → Type 0) where
    ends_where : ((pairs : Held) (d : Decided) → ToldForm call.files pairs form d → By call.files As (told pairs asked) d) → ((d : Decided) → As given d → IsOwn d → Rose call.files.old call.files.new ⊎ Is given d)
        → form_of call.words ≡ form → (held : Option Held) → IfSome held (λ pairs. EndsByTold call pairs status)
        → IfSome held (λ pairs. told pairs asked ≡ Ok given → EndsIn call status (Is given))
    ends_where by each same None ends = tt
    ends_where by each same (Some pairs) ends =
        λ is. ends_each pairs form (Is given) same (λ d leads own. each d (of_given call.files As given (told pairs asked) d is (by pairs d leads)) own) ends

  module _ (ends : EndsAsTold call status) where
    pub prove_completes : ProveCompletes call status
    prove_completes spec loaded form =
        ends_where (load_asked spec) loaded (Prove spec) (ProvedAs call.files) (IsReport call.files) (λ pairs d leads. leads) (λ d is own. of_proof call.files loaded d is) form call.files.before ends

    pub worst_completes : WorstCompletes call status
    worst_completes spec loaded form =
        ends_where (load_asked spec) loaded (Worst spec) (Reading call.files WorstAs) WorstAs (λ pairs d leads. leads) (λ d is own. inr is.1) form call.files.before ends

    pub headroom_completes : HeadroomCompletes call status
    headroom_completes spec loaded form =
        ends_where (load_asked spec) loaded (Headroom spec) (Reading call.files HeadroomAs) HeadroomAs (λ pairs d leads. leads) (λ d is own. inr is.1) form call.files.before ends

    pub observe_completes : ObserveCompletes call status
    observe_completes spec samples given form =
        ends_where (replay_asked spec samples) given (Observe spec samples) (Reading call.files ObservedAs) ObservedAs (λ pairs d leads. leads) (λ d is own. inr is.1) form call.files.before ends

    pub check_completes : CheckCompletes call status
    check_completes spec given form text =
        ends_where (check_asked spec) given (Check spec) (Reading call.files CheckedAs) AnswersText (λ pairs d leads. leads) (λ d is own. inr (of_text given d text own is.1)) form call.files.before ends

    pub check_refuses : CheckRefuses call status
    check_refuses spec given line form none =
        ends_where (check_asked spec) given (Check spec) (Reading call.files CheckedAs) (λ given d. d ≡ Fault (BadText line)) (λ pairs d leads. leads) (λ d is own. inr (of_none given line d none own is.1)) form call.files.before ends

    -- ---- replay

    replay_put : (given : Given) (d : Decided) → d ≡ Told (whole_replay given) → Put call d status → Put call (Told (whole_replay given)) status
    replay_put given d is put = subst (λ (e : Decided). Put call e status) is put

    replay_ends : (given : Given) → EndsIn call status (ReplayedAs given) → Completes call status given
    replay_ends given is =
        elim is.ends [
          | inl rose ↦ record { ends = inl rose }
          | inr (inl come) ↦ record { ends = inr (replay_put given come.decision come.is come.put) }
          | inr (inr memory) ↦ record { ends = inr (inr (inr memory)) }
        ]

    replay_where : (asked : Asking (Result Given RunFault)) (given : Given) (held : Option Held) → IfSome held (λ pairs. told pairs asked ≡ Ok given → EndsIn call status (ReplayedAs given))
        → IfSome held (λ pairs. told pairs asked ≡ Ok given → Completes call status given)
    replay_where asked given None is = tt
    replay_where asked given (Some pairs) is = λ e. replay_ends given (is e)

    pub replay_completes : ReplayCompletes call status
    replay_completes spec samples given form =
        replay_where (replay_asked spec samples) given call.files.before
        (ends_where (replay_asked spec samples) given (Replay spec samples) (Reading call.files ReplayedAs) ReplayedAs (λ pairs d leads. leads) (λ d is own. inr is.1) form call.files.before ends)

    -- ---- a refusal

    refusal_where : (fault : RunFault) (held : Option Held) → IfSome held (λ pairs. EndsByTold call pairs status)
        → IfSome held (λ pairs. first_refusal pairs (form_of call.words) ≡ Some fault → EndsIn call status (λ d. d ≡ Fault fault))
    refusal_where fault None told = tt
    refusal_where fault (Some pairs) told =
        λ first. ends_each pairs (form_of call.words) (λ d. d ≡ Fault fault) refl (λ d leads own. inr (of_first call.files pairs fault (form_of call.words) d first leads)) told

    pub tells_refusal : TellsRefusal call status
    tells_refusal fault = refusal_where fault call.files.before ends

  -- ---- demo, which no file is asked for

  demo_form : (stages : ℕ) (d : Decided) → form_of call.words ≡ Demo stages → FromForm call.files (form_of call.words) d → ByExample stages (example_loaded stages) d
  demo_form stages d form from =
      let here : FromForm call.files (Demo stages) d = subst (λ (f : Form). FromForm call.files f d) form from in
      here.1

  demo_ends : (stages : ℕ) → form_of call.words ≡ Demo stages → Ends call status → Comes call status (ByExample stages (example_loaded stages))
  demo_ends stages form (inl by) = inl (record { decision = by.decision; is = demo_form stages by.decision form by.decides; put = by.put })
  demo_ends stages form (inr memory) = inr memory.memory

  pub demo_completes : Ends call status → DemoCompletes call status
  demo_completes ends stages form = demo_ends stages form ends
