-- The unit of tokens without the forms of structs, or the refusal of the call for what is wrong with them.
use Rattle.std.specs.Prelude.{ℕ, List, Result, Ok, Err}
use Rattle.wm_lang.specs.declared.token.Token.{Token}
use Rattle.wm_lang.specs.declared.unit.Unit.{Unit as Source}
use Rattle.wm_members.specs.declared.fault.StructFault.{StructFault}
use Rattle.wm_members.specs.declared.fault.StructFault.TheVariants as struct
use Rattle.wm_parse.specs.Units.{unit_of}
use Rattle.wm_read.specs.Files.{by_fault}
use Rattle.wm_report.specs.declared.fault.RunFault.{RunFault}
use Rattle.wm_report.specs.declared.fault.RunFault.TheVariants as run
use Rattle.wm_report.specs.declared.fault.SourceName.TheVariants as source
use Rattle.wm_struct.specs.Items.{expansion_of}
use Rattle.wm_tokens.specs.Tokens.{at_a_token}
use Rattle.wm_unit.specs.Steps.{chained}

-- tokens that are no unit are refused at the first through which they begin none
abbrev pub syntax_fault : List (List ℕ) → List Token → ℕ → RunFault
syntax_fault names tokens token = at_a_token names tokens source.Syntax token

abbrev pub struct_fault : List (List ℕ) → List Token → StructFault → RunFault
struct_fault names tokens (struct.NoStruct token) = at_a_token names tokens source.NoStruct token
struct_fault names tokens (struct.StructTwice token) = at_a_token names tokens source.StructTwice token
struct_fault names tokens (struct.StructSize token) = at_a_token names tokens source.StructSize token
struct_fault names tokens (struct.NoMember token) = at_a_token names tokens source.NoMember token
struct_fault names tokens (struct.StructKind token) = at_a_token names tokens source.StructKind token
struct_fault names tokens struct.NoMemory = run.Memory

-- the unit as it is written
unfoldable pub written_in : List (List ℕ) → List Token → Result Source RunFault
written_in names tokens = by_fault (syntax_fault names tokens) (unit_of tokens)

-- a unit without its structs
unfoldable pub plain_in : List (List ℕ) → List Token → Source → Result Source RunFault
plain_in names tokens unit = by_fault (struct_fault names tokens) (expansion_of unit)

unfoldable pub unit_in : List (List ℕ) → List Token → Result Source RunFault
unit_in names tokens = chained (written_in names tokens) (plain_in names tokens)
