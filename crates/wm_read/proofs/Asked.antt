-- One asking after another, and what is known of the count of faults around it.
use Rattle.std.proofs.Common.{◌≡◌, ℕ, ◌<◌, ◌≤◌, List, length, Option, Some, None, Result, Ok, Err, ◌⊎◌, inl, inr, refl, sym, ap, subst, ◌∙◌, arith}
use Rattle.std.specs.Prelude.{IsSomeAnd}
use Rattle.std.specs.FinMap.{get}
use Rattle.std.proofs.lemmas.Bool.{cases_lt, le-ltb, lt-ltb}
use Rattle.wm_files.specs.Outside.{Held, Rose}
use Rattle.wm_report.specs.declared.fault.RunFault.{RunFault}
use Rattle.wm_report.specs.declared.fault.RunFault.TheVariants.{Memory}
use Rattle.wm_read.specs.Asking.{Read, Bytes, TooLong, Failed, Asking, Done, Ask, ◌>>=◌, ReadGives, Leads, told_read, read_in, told, Finds, IsFault, Reads}

-- ---- what is said of the count of faults over a part of a call holds over the whole call

rose_wider : (a b c d : ℕ) → a ≤ b → b ≤ c → c ≤ d → Rose b c → Rose a d
rose_wider a b c d low between high (inl lt) = inl (omega arith)
rose_wider a b c d low between high (inr most) =
    elim (cases_lt c d) [
      | inl lt ↦ inl (omega arith)
      | inr le ↦ inr (omega arith)
    ]

read_wider : (held : Option Held) (a b c d : ℕ) (name : List ℕ) (limit : ℕ) (read : Read) → a ≤ b → b ≤ c → c ≤ d → ReadGives held b c name limit read → ReadGives held a d name limit read
read_wider held a b c d name limit (Bytes bytes) low between high given = given
read_wider held a b c d name limit TooLong low between high given = given
read_wider held a b c d name limit Failed low between high (inl rose) = inl (rose_wider a b c d low between high rose)
read_wider held a b c d name limit Failed low between high (inr missing) = inr missing

pub leads_wider : {A : Type 0} (held : Option Held) (a b c d : ℕ) (p : Asking A) (r : A) → a ≤ b → b ≤ c → c ≤ d → Leads held b c p r → Leads held a d p r
unfolding Leads
leads_wider held a b c d (Done x) r low between high leads = leads
leads_wider held a b c d (Ask name limit next) r low between high leads =
    (leads.0, read_wider held a b c d name limit leads.0 low between high leads.1, leads_wider held a b c d (next leads.0) r low between high leads.2)

-- ---- one thing, and then another

module _ {A B : Type 0} (held : Option Held) (a b c : ℕ) (low : a ≤ b) (high : b ≤ c) (go : A → Asking (Result B RunFault)) where
  pub leads_on : (p : Asking (Result A RunFault)) (x : A) (r : Result B RunFault) → Leads held a b p (Ok x) → Leads held b c (go x) r → Leads held a c (p >>= go) r
  unfolding Leads
  leads_on (Done (Ok y)) x r first second =
      let same : x ≡ y = cc in
      let le : c ≤ c = omega arith in
      let all : Leads held a c (go x) r = leads_wider held a b c c (go x) r low high le second in
      subst (λ (z : A). Leads held a c (go z) r) same all
  leads_on (Done (Err fault)) x r first second = absurd cc
  leads_on (Ask name limit next) x r first second =
      let le : a ≤ a = omega arith in
      (first.0, read_wider held a a b c name limit first.0 le low high first.1, leads_on (next first.0) x r first.2 second)

-- a refusal ends the whole
pub leads_off : {A B : Type 0} (held : Option Held) (a b : ℕ) (go : A → Asking (Result B RunFault)) (p : Asking (Result A RunFault)) (e : RunFault) → Leads held a b p (Err e) → Leads held a b (p >>= go) (Err e)
unfolding Leads
leads_off held a b go (Done (Ok y)) e first = absurd cc
leads_off held a b go (Done (Err fault)) e first =
    let same : e ≡ fault = cc in
    ap Err same
leads_off held a b go (Ask name limit next) e first = (first.0, first.1, leads_off held a b go (next first.0) e first.2)

-- ---- the same of what calls answer

pub reads_on : {A Y B : Type 0} (view : Y → B) (held : Option Held) (a b c : ℕ) (p : Asking (Result A RunFault)) (go : A → Asking (Result B RunFault)) (x : A) (r : Result Y RunFault) → a ≤ b → b ≤ c → Leads held a b p (Ok x) → Reads view held b c (go x) r → Reads view held a c (p >>= go) r
reads_on view held a b c p go x (Ok y) low high first second = leads_on held a b c low high go p x (Ok (view y)) first second
reads_on view held a b c p go x (Err fault) low high first (inl memory) = inl memory
reads_on view held a b c p go x (Err fault) low high first (inr second) = inr (leads_on held a b c low high go p x (Err fault) first second)

pub reads_off : {A B : Type 0} (held : Option Held) (a b : ℕ) (p : Asking (Result A RunFault)) (go : A → Asking (Result B RunFault)) (e : RunFault) → (e ≡ Memory) ⊎ Leads held a b p (Err e) → (e ≡ Memory) ⊎ Leads held a b (p >>= go) (Err e)
reads_off held a b p go e (inl memory) = inl memory
reads_off held a b p go e (inr first) = inr (leads_off held a b go p e first)

-- one file, and what it is read as
pub reads_one : {X A : Type 0} (view : X → A) (held : Option Held) (a b : ℕ) (name : List ℕ) (limit : ℕ) (from : Read → Result A RunFault) (read : Read) (r : Result X RunFault) → ReadGives held a b name limit read → Finds view r (from read) → Reads view held a b (Ask name limit (λ read. Done (from read))) r
unfolding Leads
reads_one view held a b name limit from read (Ok x) given found = (read, given, sym found)
reads_one view held a b name limit from read (Err fault) given (inl memory) = inl memory
reads_one view held a b name limit from read (Err fault) given (inr found) = inr (read, given, sym found)

-- an answer that takes no reading
pub reads_done : {X A : Type 0} (view : X → A) (held : Option Held) (a b : ℕ) (x : Result A RunFault) (r : Result X RunFault) → Finds view r x → Reads view held a b (Done x) r
unfolding Leads
reads_done view held a b x (Ok y) found = sym found
reads_done view held a b x (Err fault) (inl memory) = inl memory
reads_done view held a b x (Err fault) (inr found) = inr (sym found)

-- a refusal that takes no reading
pub refuses : {X A : Type 0} (held : Option Held) (a b : ℕ) (view : X → A) (fault found : RunFault) → IsFault found fault → Reads view held a b (Done (Err fault)) (Err found)
unfolding Leads
refuses held a b view fault found (inl memory) = inl memory
refuses held a b view fault found (inr is) = inr (ap Err is)

-- ---- files that tell what they hold, and do not fail, leave one result

too_long : (limit : ℕ) (held : Option (List ℕ)) → IsSomeAnd held (λ bytes. limit < length bytes) → TooLong ≡ told_read limit held
too_long limit None above = absurd above
too_long limit (Some bytes) above = rw (lt-ltb _ _ above) refl

read_told : (pairs : Held) (old new : ℕ) (name : List ℕ) (limit : ℕ) (read : Read) → ReadGives (Some pairs) old new name limit read → Rose old new ⊎ (read ≡ read_in pairs name limit)
read_told pairs old new name limit (Bytes bytes) given =
    let short : told_read limit (Some bytes) ≡ Bytes bytes = rw (le-ltb _ _ given.0) refl in
    inr (rw given.1 (sym short))
read_told pairs old new name limit TooLong given = inr (too_long limit (get pairs name) given)
read_told pairs old new name limit Failed (inl rose) = inl rose
read_told pairs old new name limit Failed (inr missing) = inr (rw missing refl)

pub leads_told : {A : Type 0} (pairs : Held) (old new : ℕ) (p : Asking A) (r : A) → Leads (Some pairs) old new p r → Rose old new ⊎ (r ≡ told pairs p)
unfolding Leads told
leads_told pairs old new (Done x) r leads = inr leads
leads_told pairs old new (Ask name limit next) r leads =
    elim (read_told pairs old new name limit leads.0 leads.1) [
      | inl rose ↦ inl rose
      | inr same ↦
          elim (leads_told pairs old new (next leads.0) r leads.2) [
            | inl rose ↦ inl rose
            | inr is ↦ inr (is ∙ ap (λ read. told pairs (next read)) same)
          ]
    ]
