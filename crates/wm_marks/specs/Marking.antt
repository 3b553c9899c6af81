-- What is collected while a unit is read, and the steps by which it grows.
use Rattle.std.specs.Prelude.{◌≡◌, ℕ, ◌+◌, Bool, true, false, if◌then◌else◌, ◌==◌, List, [], ◌∷◌, ◌++◌, length, Option, Some, None, Result, Ok, Err}
use Rattle.wm_lang.specs.declared.place.Position.{Position}
use Rattle.wm_ops.specs.declared.memory.NoMemory.{NoMemory}
use Rattle.wm_program.specs.declared.program.LoopInfo.{LoopInfo}
use Rattle.wm_program.specs.declared.program.SiteKind.{SiteKind}
use Rattle.wm_program.specs.declared.program.SiteKind.TheVariants.{Narrowing}
use Rattle.wm_scope.specs.declared.fault.TokenFault.{TokenFault}
use Rattle.wm_scope.specs.declared.reading.CallPlace.{CallPlace}
use Rattle.wm_scope.specs.Faults.{with_fault}
use Rattle.wm_marks.specs.declared.marks.Marks.{Marks}

-- a step of the reading: a value, and what stands behind it
abbrev pub Step : Type 0 → Type 0 → Type 0
Step S A = S → A × S

abbrev pub Marking : Type 0 → Type 0
Marking A = Step Marks A

abbrev pub and_then : {S A B : Type 0} → A × S → (A → S → B × S) → B × S
and_then (a, s) f = f a s

infixl 10 ◌>>=◌
abbrev pub ◌>>=◌ : {S A B : Type 0} → Step S A → (A → Step S B) → Step S B
p >>= f = λ s. and_then (p s) f

infixl 10 ◌>>◌
abbrev pub ◌>>◌ : {S A B : Type 0} → Step S A → Step S B → Step S B
p >> q = p >>= (λ _. q)

abbrev pub pure : {S A : Type 0} → A → Step S A
pure a = λ s. (a, s)

infixr 11 ◌<$>◌
abbrev pub ◌<$>◌ : {S A B : Type 0} → (A → B) → Step S A → Step S B
f <$> p = p >>= (λ x. pure (f x))

-- what a call ensures that takes the step: its value and what stands behind it, but for want of memory
abbrev pub Gives : {S A : Type 0} → A × S → Result A NoMemory → S → Type 0
Gives given (Ok a) new = given ≡ (a, new)
Gives given (Err refused) new = Unit {0}

-- ---- the steps

abbrev pub nothing : Marks
nothing = record { sites = []; waiting = None; calls = []; loops = []; objects = []; locals = []; least = None }

abbrev pub noted : TokenFault → Position → Marks → Marks
noted fault at m = record m { least = Some (with_fault (record { fault = fault; token = at.token }) m.least) }

-- notes a fault
abbrev pub note : TokenFault → Position → Marking (Unit {0})
note fault at = λ m. (tt, noted fault at m)

-- notes a fault where it is one
abbrev pub note_where : Bool → TokenFault → Position → Marks → Marks
note_where true fault at m = noted fault at m
note_where false fault at m = m

abbrev pub with_site : SiteKind → Position → Marks → Marks
with_site kind at m = record m { sites = m.sites ++ (record { kind = kind; token = at.token; place = at.place }) ∷ [] }

abbrev pub put : SiteKind → Position → Marking ℕ
put kind at = λ m. (length m.sites, with_site kind at m)

abbrev pub put_waiting : Option Position → Marking (Unit {0})
put_waiting None = pure tt
put_waiting (Some at) = λ m. (tt, with_site Narrowing at (record m { waiting = None }))

-- a site's number; a narrowing site that waits has the next one
unfoldable pub site : SiteKind → Position → Marking ℕ
site kind at = λ m. and_then (put kind at m) (λ number made. and_then (put_waiting m.waiting made) (λ _. pure number))

-- the number of a narrowing site that waits for the next site
unfoldable pub site_behind : Position → Marking ℕ
site_behind at = λ m. (length m.sites + 1, record m { waiting = Some at })

abbrev pub called : CallPlace → Marking (Unit {0})
called place = λ m. (tt, record m { calls = m.calls ++ place ∷ [] })

abbrev pub looped : LoopInfo → Marking ℕ
looped info = λ m. (length m.loops, record m { loops = m.loops ++ info ∷ [] })

abbrev pub has : ℕ → List ℕ → Bool
has number [] = false
has number (other ∷ rest) = if other == number then true else has number rest

abbrev pub with_number : ℕ → List ℕ → List ℕ
with_number number numbers = if has number numbers then numbers else numbers ++ number ∷ []

abbrev pub took_object : ℕ → Marking (Unit {0})
took_object object = λ m. (tt, record m { objects = with_number object m.objects })

abbrev pub took_local : ℕ → Marking (Unit {0})
took_local local = λ m. (tt, record m { locals = with_number local m.locals })

abbrev pub begun : Marks → Marks
begun m = record m { calls = []; locals = [] }

abbrev pub without_calls : Marks → Marks
without_calls m = record m { calls = [] }
