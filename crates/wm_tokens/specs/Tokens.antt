-- The tokens of texts, and the faults of texts and names as refusals of the call.
use Rattle.std.specs.Prelude.{ℕ, List, Option, Some, None, Result, Ok, Err, Vec}
use Rattle.std.specs.declared.alloc.Global.{Global}
use Rattle.wm_lang.specs.declared.place.Place.{Place}
use Rattle.wm_lang.specs.declared.token.Token.{Token}
use Rattle.wm_lex.specs.declared.fault.LexFault.{LexFault}
use Rattle.wm_lex.specs.declared.fault.LexFault.TheVariants as lexical
use Rattle.wm_lex.specs.Lines.{tokens_of}
use Rattle.wm_program.specs.declared.faults.LinkFault.{LinkFault}
use Rattle.wm_program.specs.declared.faults.LinkFault.TheVariants as link
use Rattle.wm_report.specs.declared.fault.RunFault.{RunFault}
use Rattle.wm_report.specs.declared.fault.RunFault.TheVariants as run
use Rattle.wm_report.specs.declared.fault.SourceName.{SourceName}
use Rattle.wm_report.specs.declared.fault.SourceName.TheVariants as source
use Rattle.wm_tokens.specs.Places.{at_place, at_token}

-- a fault at a place of the texts
abbrev pub placed : List (List ℕ) → SourceName → Place → RunFault
placed names fault place = run.Source fault (Some (at_place names place))

-- a fault at a token, or behind the last one
abbrev pub at_a_token : List (List ℕ) → List Token → SourceName → ℕ → RunFault
at_a_token names tokens fault token = run.Source fault (at_token names tokens token)

abbrev pub lex_fault : List (List ℕ) → LexFault → RunFault
lex_fault names (lexical.BadByte place) = placed names source.BadByte place
lex_fault names (lexical.OpenComment place) = placed names source.OpenComment place
lex_fault names (lexical.BadNumber place) = placed names source.BadNumber place
lex_fault names (lexical.BadDirective place) = placed names source.BadDirective place
lex_fault names (lexical.MacroLoop place) = placed names source.MacroLoop place
lex_fault names (lexical.TooManyTokens place) = placed names source.TooManyTokens place
lex_fault names lexical.NoMemory = run.Memory

abbrev pub tokens_or_fault : List (List ℕ) → Result (List Token) LexFault → Result (List Token) RunFault
tokens_or_fault names (Ok tokens) = Ok tokens
tokens_or_fault names (Err fault) = Err (lex_fault names fault)

-- the tokens of the sources of these names, or their first fault
unfoldable pub tokens_in : List (List ℕ) → List (List ℕ) → Result (List Token) RunFault
tokens_in names texts = tokens_or_fault names (tokens_of texts)

abbrev pub items_of : Vec Token Global → List Token
items_of tokens = tokens.items

-- what is wrong with the names of a unit, its limits and its specification
abbrev pub link_fault : List (List ℕ) → List Token → LinkFault → RunFault
link_fault names tokens (link.UnknownName token) = at_a_token names tokens source.UnknownName token
link_fault names tokens (link.Redefined token) = at_a_token names tokens source.Redefined token
link_fault names tokens (link.WrongKind token) = at_a_token names tokens source.WrongKind token
link_fault names tokens (link.WrongCount token) = at_a_token names tokens source.WrongCount token
link_fault names tokens (link.NotConstant token) = at_a_token names tokens source.NotConstant token
link_fault names tokens (link.BadLength token) = at_a_token names tokens source.BadLength token
link_fault names tokens (link.AssignToConst token) = at_a_token names tokens source.AssignToConst token
link_fault names tokens (link.BreakOutside token) = at_a_token names tokens source.BreakOutside token
link_fault names tokens (link.MissingReturn token) = at_a_token names tokens source.MissingReturn token
link_fault names tokens (link.Recursion token) = at_a_token names tokens source.Recursion token
link_fault names tokens (link.TooManyAt what token) = run.TooMany what (at_token names tokens token)
link_fault names tokens (link.NoFrame name) = run.NoFrame name
link_fault names tokens (link.NoInit name) = run.NoInit name
link_fault names tokens (link.BadInput name) = run.BadInput name
link_fault names tokens (link.TooMany what) = run.TooMany what None
link_fault names tokens link.NoMemory = run.Memory
