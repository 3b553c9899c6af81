-- The words of the texts.
use Rattle.std.specs.Prelude.{ℕ, List, Bool, true, false, codes}
use Rattle.wm_cert.specs.declared.gap.End2.{End2}
use Rattle.wm_cert.specs.declared.gap.End2.TheVariants.{Low, High}
use Rattle.wm_program.specs.declared.faults.What.{What}
use Rattle.wm_program.specs.declared.faults.What.TheVariants.{Functions, Objects, Locals, LoopNest, Instances, Heads, Size, Constants, Steps}
use Rattle.wm_program.specs.declared.results.Cause.{Cause}
use Rattle.wm_program.specs.declared.results.Cause.TheVariants.{Saturates, Domain, Index, Arithmetic, Narrowing, Unset}
use Rattle.wm_report.specs.declared.fault.SourceName.{SourceName}
use Rattle.wm_report.specs.declared.fault.SourceName.TheVariants.{BadByte, OpenComment, BadNumber, BadDirective, MacroLoop, TooManyTokens, Syntax, NoStruct, StructTwice, StructSize, NoMember, StructKind, UnknownName, Redefined, WrongKind, WrongCount, NotConstant, BadLength, AssignToConst, BreakOutside, MissingReturn, Recursion}

abbrev pub source_word : SourceName → List ℕ
source_word BadByte = codes "BadByte"
source_word OpenComment = codes "OpenComment"
source_word BadNumber = codes "BadNumber"
source_word BadDirective = codes "BadDirective"
source_word MacroLoop = codes "MacroLoop"
source_word TooManyTokens = codes "TooManyTokens"
source_word Syntax = codes "Syntax"
source_word NoStruct = codes "NoStruct"
source_word StructTwice = codes "StructTwice"
source_word StructSize = codes "StructSize"
source_word NoMember = codes "NoMember"
source_word StructKind = codes "StructKind"
source_word UnknownName = codes "UnknownName"
source_word Redefined = codes "Redefined"
source_word WrongKind = codes "WrongKind"
source_word WrongCount = codes "WrongCount"
source_word NotConstant = codes "NotConstant"
source_word BadLength = codes "BadLength"
source_word AssignToConst = codes "AssignToConst"
source_word BreakOutside = codes "BreakOutside"
source_word MissingReturn = codes "MissingReturn"
source_word Recursion = codes "Recursion"

abbrev pub what_word : What → List ℕ
what_word Functions = codes "Functions"
what_word Objects = codes "Objects"
what_word Locals = codes "Locals"
what_word LoopNest = codes "LoopNest"
what_word Instances = codes "Instances"
what_word Heads = codes "Heads"
what_word Size = codes "Size"
what_word Constants = codes "Constants"
what_word Steps = codes "Steps"

abbrev pub cause_word : Cause → List ℕ
cause_word Saturates = codes "saturates"
cause_word Domain = codes "domain"
cause_word Index = codes "index"
cause_word Arithmetic = codes "arithmetic"
cause_word Narrowing = codes "narrowing"
cause_word Unset = codes "unset"

-- the back edge of a head, or its entry
abbrev pub edge_word : Bool → List ℕ
edge_word true = codes "back"
edge_word false = codes "entry"

abbrev pub end_word : End2 → List ℕ
end_word Low = codes "low"
end_word High = codes "high"
