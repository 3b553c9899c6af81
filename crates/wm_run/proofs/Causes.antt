-- Why each status comes.
use Rattle.std.proofs.Common.{◌≡◌, ◌⊎◌, inl, inr, ℕ, ◌≤◌, Bool, true, false, List, Option, Some, None, Result, Ok, Err, refl, sym, ap, subst, ◌∙◌, arith}
use Rattle.std.specs.Prelude.{if◌then◌else◌}
use Rattle.wm_load.specs.Loaded.{Loaded}
use Rattle.wm_load.specs.Loading.{load_asked}
use Rattle.wm_read.specs.Asking.{Leads}
use Rattle.wm_report.specs.declared.fault.RunFault.{RunFault}
use Rattle.wm_report.specs.Fault.{fault_text, status_of as fault_status}
use Rattle.wm_words.specs.Words.{Form, Prove, Check, Replay, Demo, Worst, Headroom, Observe, BadWords, form_of}
use Rattle.wm_run.specs.Outcome.{Decided, Judged, Told, Fault, IsOwn, status_of, text_of}
use Rattle.wm_run.specs.Proved.{IsCertificate, Proof, ProvedAs, Written, WrittenBytes}
use Rattle.wm_run.specs.Leads.{By, FromForm, IsKept, Reading}
use Rattle.wm_run.specs.Ends.{Call, Answered, Decides, Grew, HeldBy, HoldsCertificate, OnlyMemory, Put, ReadFails, SinkFails, UnknownWords, WriteFails}
use Rattle.wm_run.proofs.FaultStatus.{above_one, plain_low}
use Rattle.wm_run.proofs.Why.{FailedReading, FailedWrite, Unknown, Why, why}

judged_low : (safe : Bool) → (if safe then 0 else 1) ≤ 1
judged_low true = omega arith
judged_low false = omega arith

module _ (call : Call) where
  -- why this refusal is told
  why_told : (fault : RunFault) → Decides call (Fault fault) → Why call.files (form_of call.words) fault
  why_told fault decides = why call.files fault (form_of call.words) decides

  five_of : (fault : RunFault) → FailedReading call.files fault → fault_status fault ≡ 5
  five_of fault failed = ap fault_status failed.failed.is

  six_of : (fault : RunFault) → FailedWrite call.files fault → fault_status fault ≡ 6
  six_of fault failed = ap fault_status failed.is

  eight_of : (form : Form) (fault : RunFault) → Unknown call.files form fault → fault_status fault ≡ 8
  eight_of form fault unknown = ap fault_status unknown.is

  -- ---- a text that was put whole

  whole_answer : (d : Decided) (status : ℕ) → Decides call d → status ≡ status_of d → status ≤ 1 → Grew call (text_of d) → Answered call status
  whole_answer (Judged safe text) status decides is low grew = record { decision = Judged safe text; decides = decides; answer = tt; status_is = is; text = grew }
  whole_answer (Told text) status decides is low grew = record { decision = Told text; decides = decides; answer = tt; status_is = is; text = grew }
  whole_answer (Fault fault) status decides is low grew = absurd (omega (arith, above_one fault))

  read_by : (fault : RunFault) → Why call.files (form_of call.words) fault → Decides call (Fault fault) → IsOwn (Fault fault) → fault_status fault ≡ 5 → Grew call (fault_text fault) → ReadFails call
  read_by fault (inl plain) decides own five grew =
      let low : fault_status fault ≤ 4 = plain_low fault plain own in
      absurd (omega arith)
  read_by fault (inr (inl failed)) decides own five grew = record {
    name = failed.failed.name;
    decides = subst (λ (f : RunFault). Decides call (Fault f)) failed.failed.is decides;
    text = subst (λ (f : RunFault). Grew call (fault_text f)) failed.failed.is grew;
    kept = failed.kept;
    cause = failed.failed.fails;
  }
  read_by fault (inr (inr (inl failed))) decides own five grew =
      let six : fault_status fault ≡ 6 = six_of fault failed in
      absurd (omega arith)
  read_by fault (inr (inr (inr unknown))) decides own five grew =
      let eight : fault_status fault ≡ 8 = eight_of (form_of call.words) fault unknown in
      absurd (omega arith)

  whole_read : (d : Decided) → Decides call d → IsOwn d → status_of d ≡ 5 → Grew call (text_of d) → ReadFails call
  whole_read (Judged safe text) decides own five grew = absurd (omega (arith, judged_low safe))
  whole_read (Told text) decides own five grew = absurd (omega arith)
  whole_read (Fault fault) decides own five grew = read_by fault (why_told fault decides) decides own five grew

  write_by : (fault : RunFault) → Why call.files (form_of call.words) fault → Decides call (Fault fault) → IsOwn (Fault fault) → fault_status fault ≡ 6 → Grew call (fault_text fault) → WriteFails call
  write_by fault (inl plain) decides own six grew =
      let low : fault_status fault ≤ 4 = plain_low fault plain own in
      absurd (omega arith)
  write_by fault (inr (inl failed)) decides own six grew =
      let five : fault_status fault ≡ 5 = five_of fault failed in
      absurd (omega arith)
  write_by fault (inr (inr (inl failed))) decides own six grew = record {
    name = failed.name;
    decides = subst (λ (f : RunFault). Decides call (Fault f)) failed.is decides;
    rose = failed.rose;
    text = subst (λ (f : RunFault). Grew call (fault_text f)) failed.is grew;
  }
  write_by fault (inr (inr (inr unknown))) decides own six grew =
      let eight : fault_status fault ≡ 8 = eight_of (form_of call.words) fault unknown in
      absurd (omega arith)

  whole_write : (d : Decided) → Decides call d → IsOwn d → status_of d ≡ 6 → Grew call (text_of d) → WriteFails call
  whole_write (Judged safe text) decides own six grew = absurd (omega (arith, judged_low safe))
  whole_write (Told text) decides own six grew = absurd (omega arith)
  whole_write (Fault fault) decides own six grew = write_by fault (why_told fault decides) decides own six grew

  words_by : (fault : RunFault) → Why call.files (form_of call.words) fault → IsOwn (Fault fault) → fault_status fault ≡ 8 → Grew call (fault_text fault) → UnknownWords call
  words_by fault (inl plain) own eight grew =
      let low : fault_status fault ≤ 4 = plain_low fault plain own in
      absurd (omega arith)
  words_by fault (inr (inl failed)) own eight grew =
      let five : fault_status fault ≡ 5 = five_of fault failed in
      absurd (omega arith)
  words_by fault (inr (inr (inl failed))) own eight grew =
      let six : fault_status fault ≡ 6 = six_of fault failed in
      absurd (omega arith)
  words_by fault (inr (inr (inr unknown))) own eight grew = record {
    unknown = unknown.unknown;
    kept = unknown.kept;
    text = subst (λ (f : RunFault). Grew call (fault_text f)) unknown.is grew;
  }

  whole_words : (d : Decided) → Decides call d → IsOwn d → status_of d ≡ 8 → Grew call (text_of d) → UnknownWords call
  whole_words (Judged safe text) decides own eight grew = absurd (omega (arith, judged_low safe))
  whole_words (Told text) decides own eight grew = absurd (omega arith)
  whole_words (Fault fault) decides own eight grew = words_by fault (why_told fault decides) own eight grew

  -- no decision has the status of want of memory
  fault_number : (fault : RunFault) → Why call.files (form_of call.words) fault → IsOwn (Fault fault) → fault_status fault ≡ 7 → ⊥
  fault_number fault (inl plain) own seven =
      let low : fault_status fault ≤ 4 = plain_low fault plain own in
      absurd (omega arith)
  fault_number fault (inr (inl failed)) own seven =
      let five : fault_status fault ≡ 5 = five_of fault failed in
      absurd (omega arith)
  fault_number fault (inr (inr (inl failed))) own seven =
      let six : fault_status fault ≡ 6 = six_of fault failed in
      absurd (omega arith)
  fault_number fault (inr (inr (inr unknown))) own seven =
      let eight : fault_status fault ≡ 8 = eight_of (form_of call.words) fault unknown in
      absurd (omega arith)

  whole_number : (d : Decided) → Decides call d → IsOwn d → status_of d ≡ 7 → ⊥
  whole_number (Judged safe text) decides own seven = absurd (omega (arith, judged_low safe))
  whole_number (Told text) decides own seven = absurd (omega arith)
  whole_number (Fault fault) decides own seven = fault_number fault (why_told fault decides) own seven

  -- ---- the status of a call

  low_status : (status : ℕ) → (status ≡ 0) ⊎ (status ≡ 1) → status ≤ 1
  low_status status (inl zero) = omega arith
  low_status status (inr one) = omega arith

  pub answered : (d : Decided) (status : ℕ) → Decides call d → Put call d status → (status ≡ 0) ⊎ (status ≡ 1) → Answered call status
  answered d status decides (inl whole) is = whole_answer d status decides whole.status_is (low_status status is) whole.grew
  answered d status decides (inr (inl cut)) is = absurd (omega (arith, cut.status_is, low_status status is))
  answered d status decides (inr (inr memory)) is = absurd (omega (arith, memory.status_is, low_status status is))

  pub read_fails : (d : Decided) (status : ℕ) → Decides call d → IsOwn d → Put call d status → status ≡ 5 → ReadFails call
  read_fails d status decides own (inl whole) is = whole_read d decides own (sym whole.status_is ∙ is) whole.grew
  read_fails d status decides own (inr (inl cut)) is = absurd (omega (arith, cut.status_is))
  read_fails d status decides own (inr (inr memory)) is = absurd (omega (arith, memory.status_is))

  pub sink_fails : (d : Decided) (status : ℕ) → Decides call d → IsOwn d → Put call d status → status ≡ 6 → SinkFails call ⊎ WriteFails call
  sink_fails d status decides own (inl whole) is = inr (whole_write d decides own (sym whole.status_is ∙ is) whole.grew)
  sink_fails d status decides own (inr (inl cut)) is = inl (record { decision = d; decides = decides; rose = cut.rose; size = cut.size; text = cut.grew })
  sink_fails d status decides own (inr (inr memory)) is = absurd (omega (arith, memory.status_is))

  pub only_memory : (d : Decided) (status : ℕ) → Decides call d → IsOwn d → Put call d status → status ≡ 7 → OnlyMemory call.written_before call.written_after status
  only_memory d status decides own (inl whole) is = absurd (whole_number d decides own (sym whole.status_is ∙ is))
  only_memory d status decides own (inr (inl cut)) is = absurd (omega (arith, cut.status_is))
  only_memory d status decides own (inr (inr memory)) is = memory

  pub unknown : (d : Decided) (status : ℕ) → Decides call d → IsOwn d → Put call d status → status ≡ 8 → UnknownWords call
  unknown d status decides own (inl whole) is = whole_words d decides own (sym whole.status_is ∙ is) whole.grew
  unknown d status decides own (inr (inl cut)) is = absurd (omega (arith, cut.status_is))
  unknown d status decides own (inr (inr memory)) is = absurd (omega (arith, memory.status_is))

  -- ---- what the files hold

  held_bytes : (spec : List ℕ) (loaded : Loaded) → Leads call.files.before call.files.old call.files.new (load_asked spec) (Ok loaded) → (proof : Proof loaded.program) (name bytes : List ℕ) (wanted d : Decided)
      → loaded.settings.certificate ≡ Some name → IsCertificate proof bytes → WrittenBytes call.files name bytes wanted d → HoldsCertificate call spec
  held_bytes spec loaded leads proof name bytes wanted d named text (inl is) =
      record { loaded = loaded; read = leads; proof = proof; name = name; named = named; bytes = bytes; text = text; hold = inl is.holds_all }
  held_bytes spec loaded leads proof name bytes wanted d named text (inr cannot) =
      record { loaded = loaded; read = leads; proof = proof; name = name; named = named; bytes = bytes; text = text; hold = inr (cannot.rose, cannot.cut) }

  held_written : (spec : List ℕ) (loaded : Loaded) → Leads call.files.before call.files.old call.files.new (load_asked spec) (Ok loaded) → (proof : Proof loaded.program) (wanted d : Decided)
      → (certificate : Option (List ℕ)) → loaded.settings.certificate ≡ certificate → Written proof call.files certificate wanted d → IsKept call.files ⊎ HoldsCertificate call spec
  held_written spec loaded leads proof wanted d None named is = inl is.0
  held_written spec loaded leads proof wanted d (Some name) named is = inr (held_bytes spec loaded leads proof name is.bytes wanted d named is.text is.ends)

  held_proved : (spec : List ℕ) (d : Decided) (answer : Result Loaded RunFault) → Leads call.files.before call.files.old call.files.new (load_asked spec) answer → By call.files (ProvedAs call.files) answer d
      → IsKept call.files ⊎ HoldsCertificate call spec
  held_proved spec d (Ok loaded) leads by = held_written spec loaded leads by.proof _ d loaded.settings.certificate refl by.written
  held_proved spec d (Err fault) leads by = inl by.0

  kept_by : {A : Type 0} (As : A → Decided → Type 0) (d : Decided) (answer : Result A RunFault) → By call.files (Reading call.files As) answer d → IsKept call.files
  kept_by {A} As d (Ok given) by = by.0
  kept_by {A} As d (Err fault) by = by.0

  held_form : (d : Decided) (form : Form) → FromForm call.files form d → HeldBy call form
  held_form d (Prove spec) from = held_proved spec d from.answer from.leads from.by
  held_form d (Check spec) from = kept_by _ d from.answer from.by
  held_form d (Replay spec samples) from = kept_by _ d from.answer from.by
  held_form d (Demo stages) from = from.0
  held_form d (Worst spec) from = kept_by _ d from.answer from.by
  held_form d (Headroom spec) from = kept_by _ d from.answer from.by
  held_form d (Observe spec samples) from = kept_by _ d from.answer from.by
  held_form d BadWords from = from.0

  pub holds_after : (d : Decided) → Decides call d → HeldBy call (form_of call.words)
  holds_after d decides = held_form d (form_of call.words) decides

  kept_form : IsKept call.files → (form : Form) → HeldBy call form
  kept_form kept (Prove spec) = inl kept
  kept_form kept (Check spec) = kept
  kept_form kept (Replay spec samples) = kept
  kept_form kept (Demo stages) = kept
  kept_form kept (Worst spec) = kept
  kept_form kept (Headroom spec) = kept
  kept_form kept (Observe spec samples) = kept
  kept_form kept BadWords = kept

  -- memory ran out before there was a decision
  pub kept_after : IsKept call.files → HeldBy call (form_of call.words)
  kept_after kept = kept_form kept (form_of call.words)
