-- The counted words: their numbers and names.
use Rattle.std.specs.Prelude.{ℕ, ◌+◌, ◌-◌, List, [], ◌∷◌, Option, if◌then◌else◌, nat_lt, slice_get, codes}
use Rattle.std.specs.Option.{option_map}
use Rattle.wm_ops.specs.declared.words.CountCall.{CountCall}
use Rattle.wm_ops.specs.declared.words.CountCall.TheVariants.{Move16, Move32, Logic16, Logic32, Test}
use Rattle.wm_ops.specs.declared.words.ControlWord.{ControlWord}
use Rattle.wm_ops.specs.declared.words.ControlWord.TheVariants.{If, Else, For, While, Do, Break, Continue}
use Rattle.wm_ops.specs.declared.words.Counted.{Counted}
use Rattle.wm_ops.specs.declared.words.Counted.TheVariants.{Operator, Call, Word}
use Rattle.wm_ops.specs.Operators.{number_of, name_of, op_numbered}

-- the counted words that are no operators, in order
abbrev pub other_words : List Counted
other_words =
    Call Move16 ∷ Call Move32 ∷ Call Logic16 ∷ Call Logic32 ∷ Call Test ∷
    Word If ∷ Word Else ∷ Word For ∷ Word While ∷ Word Do ∷ Word Break ∷ Word Continue ∷ []

-- the place of a call among the calls
abbrev pub call_number_of : CountCall → ℕ
call_number_of Move16 = 0
call_number_of Move32 = 1
call_number_of Logic16 = 2
call_number_of Logic32 = 3
call_number_of Test = 4

-- the place of a control word among the control words
abbrev pub control_number_of : ControlWord → ℕ
control_number_of If = 0
control_number_of Else = 1
control_number_of For = 2
control_number_of While = 3
control_number_of Do = 4
control_number_of Break = 5
control_number_of Continue = 6

-- the place of a word among all 48: the operators, the calls, the control words
abbrev pub word_number_of : Counted → ℕ
word_number_of (Operator op) = number_of op
word_number_of (Call call) = 36 + call_number_of call
word_number_of (Word control) = 41 + control_number_of control

-- the word at a place; none from 48 on
abbrev pub word_numbered : ℕ → Option Counted
word_numbered k =
    if nat_lt k 36 then option_map (λ op. Operator op) (op_numbered k) else slice_get other_words (k - 36)

-- the names of the calls
abbrev pub call_name_of : CountCall → List ℕ
call_name_of Move16 = codes "move16"
call_name_of Move32 = codes "move32"
call_name_of Logic16 = codes "logic16"
call_name_of Logic32 = codes "logic32"
call_name_of Test = codes "test"

-- the names of the control words
abbrev pub control_name_of : ControlWord → List ℕ
control_name_of If = codes "IF"
control_name_of Else = codes "ELSE"
control_name_of For = codes "FOR"
control_name_of While = codes "WHILE"
control_name_of Do = codes "DO"
control_name_of Break = codes "BREAK"
control_name_of Continue = codes "CONTINUE"

-- the name of a counted word
abbrev pub word_name_of : Counted → List ℕ
word_name_of (Operator op) = name_of op
word_name_of (Call call) = call_name_of call
word_name_of (Word control) = control_name_of control
