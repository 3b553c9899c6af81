-- Keys by their spelling: the keywords of C99, the types of the basic operators, and the control words in capitals.
use Rattle.std.specs.Prelude.{ℕ, if◌then◌else◌, List, [], ◌∷◌, Option, Some, None, codes, bytes_eq}
use Rattle.wm_lang.specs.declared.token.Key.{Key}
use Rattle.wm_lang.specs.declared.token.Key.TheVariants.{Word16, Word32, Flag, Int, Void, Static, Const, Extern, Struct, If, Else, For, While, Do, Break, Continue, Return, CountedIf, CountedElse, CountedFor, CountedWhile, CountedDo, CountedBreak, CountedContinue, Auto, Case, Char, Default, Double, Enum, Float, Goto, Inline, Long, Register, Restrict, Short, Signed, Sizeof, Switch, Typedef, Union, Unsigned, Volatile, Bool, Complex, Imaginary}

abbrev pub spelling_of : Key → List ℕ
spelling_of Word16 = codes "Word16"
spelling_of Word32 = codes "Word32"
spelling_of Flag = codes "Flag"
spelling_of Int = codes "int"
spelling_of Void = codes "void"
spelling_of Static = codes "static"
spelling_of Const = codes "const"
spelling_of Extern = codes "extern"
spelling_of Struct = codes "struct"
spelling_of If = codes "if"
spelling_of Else = codes "else"
spelling_of For = codes "for"
spelling_of While = codes "while"
spelling_of Do = codes "do"
spelling_of Break = codes "break"
spelling_of Continue = codes "continue"
spelling_of Return = codes "return"
spelling_of CountedIf = codes "IF"
spelling_of CountedElse = codes "ELSE"
spelling_of CountedFor = codes "FOR"
spelling_of CountedWhile = codes "WHILE"
spelling_of CountedDo = codes "DO"
spelling_of CountedBreak = codes "BREAK"
spelling_of CountedContinue = codes "CONTINUE"
spelling_of Auto = codes "auto"
spelling_of Case = codes "case"
spelling_of Char = codes "char"
spelling_of Default = codes "default"
spelling_of Double = codes "double"
spelling_of Enum = codes "enum"
spelling_of Float = codes "float"
spelling_of Goto = codes "goto"
spelling_of Inline = codes "inline"
spelling_of Long = codes "long"
spelling_of Register = codes "register"
spelling_of Restrict = codes "restrict"
spelling_of Short = codes "short"
spelling_of Signed = codes "signed"
spelling_of Sizeof = codes "sizeof"
spelling_of Switch = codes "switch"
spelling_of Typedef = codes "typedef"
spelling_of Union = codes "union"
spelling_of Unsigned = codes "unsigned"
spelling_of Volatile = codes "volatile"
spelling_of Bool = codes "_Bool"
spelling_of Complex = codes "_Complex"
spelling_of Imaginary = codes "_Imaginary"

abbrev pub keys : List Key
keys =
    Word16 ∷ Word32 ∷ Flag ∷ Int ∷ Void ∷ Static ∷ Const ∷ Extern ∷
    Struct ∷ If ∷ Else ∷ For ∷ While ∷ Do ∷ Break ∷ Continue ∷
    Return ∷ CountedIf ∷ CountedElse ∷ CountedFor ∷ CountedWhile ∷ CountedDo ∷ CountedBreak ∷ CountedContinue ∷
    Auto ∷ Case ∷ Char ∷ Default ∷ Double ∷ Enum ∷ Float ∷ Goto ∷
    Inline ∷ Long ∷ Register ∷ Restrict ∷ Short ∷ Signed ∷ Sizeof ∷ Switch ∷
    Typedef ∷ Union ∷ Unsigned ∷ Volatile ∷ Bool ∷ Complex ∷ Imaginary ∷
    []

-- the first of these keys that is spelled so
abbrev pub key_in : List Key → List ℕ → Option Key
key_in [] word = None
key_in (key ∷ others) word = if bytes_eq (spelling_of key) word then Some key else key_in others word

-- the key that is spelled so, none where the word is a name
unfoldable pub key_of : List ℕ → Option Key
key_of word = key_in keys word
