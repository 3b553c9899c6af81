-- Answers that may be a fault, and what a call answers that may also want memory.
use Rattle.std.specs.Prelude.{◌≡◌, Result, Ok, Err}
use Rattle.wm_lex.specs.declared.fault.LexFault.{LexFault}
use Rattle.wm_lex.specs.declared.fault.LexFault.TheVariants.{BadByte, OpenComment, BadNumber, BadDirective, MacroLoop, TooManyTokens, NoMemory}

infixl 10 ◌>>=◌
abbrev pub ◌>>=◌ : {A B : Type 0} → Result A LexFault → (A → Result B LexFault) → Result B LexFault
(Ok x) >>= f = f x
(Err fault) >>= f = Err fault

-- A call that fails has met this fault of the reading, or was refused memory.
abbrev pub Fails : {Y : Type 0} → LexFault → Result Y LexFault → Type 0
Fails (BadByte place) reading = reading ≡ Err (BadByte place)
Fails (OpenComment place) reading = reading ≡ Err (OpenComment place)
Fails (BadNumber place) reading = reading ≡ Err (BadNumber place)
Fails (BadDirective place) reading = reading ≡ Err (BadDirective place)
Fails (MacroLoop place) reading = reading ≡ Err (MacroLoop place)
Fails (TooManyTokens place) reading = reading ≡ Err (TooManyTokens place)
Fails NoMemory reading = Unit {0}

-- What a call answers, seen by view, is what the reading gives, but for want of memory.
abbrev pub Gives : {X Y : Type 0} → (X → Y) → Result X LexFault → Result Y LexFault → Type 0
Gives view (Ok x) reading = reading ≡ Ok (view x)
Gives view (Err fault) reading = Fails fault reading
