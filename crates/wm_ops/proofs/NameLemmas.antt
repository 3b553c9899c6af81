-- Names and numbers are exact both ways: each operator and counted word is found by its own, and nothing else is found.
use Rattle.std.proofs.Common.{◌≡◌, ⊎_elim, inl, inr, ℕ, List, [], ◌∷◌, Option, Some, None, Bool, true, false, cond, refl, sym, ◌∙◌, ap, unwrap_or, codes}
use Rattle.std.specs.Str.{bytes_eq}
use Rattle.std.specs.Option.{option_map_or}
use Rattle.std.specs.Cmp.Lexicographic.{same_text}
use Rattle.wm_ops.specs.declared.operators.Op.{Op}
use Rattle.wm_ops.specs.declared.operators.Op.TheVariants.{Add, Sub, AbsS, Negate, Mult, MultR, Shl, Shr, ShrR, LAdd, LSub, LAbs, LNegate, LMult, LMac, LMsu, LShl, LShr, LShrR, ExtractH, ExtractL, LDepositH, LDepositL, Round, MacR, MsuR, NormS, NormL, DivS, SMax, SMin, LMax, LMin, LMult0, LMac0, LMsu0}
use Rattle.wm_ops.specs.declared.words.CountCall.TheVariants.{Move16, Move32, Logic16, Logic32, Test}
use Rattle.wm_ops.specs.declared.words.ControlWord.TheVariants.{If, Else, For, While, Do, Break, Continue}
use Rattle.wm_ops.specs.declared.words.Counted.{Counted}
use Rattle.wm_ops.specs.declared.words.Counted.TheVariants.{Operator, Call, Word}
use Rattle.wm_ops.specs.Operators.{all_ops, number_of, op_numbered, name_of}
use Rattle.wm_ops.specs.Words.{other_words, word_name_of}
use Rattle.wm_ops.specs.Names.{first_named, first_word, op_named, word_named, Names, NamesWord}

some_same : {A : Type 0} (a b : A) → Some a ≡ Some b → a ≡ b
some_same {A} a b same = ap (λ (o : Option A). unwrap_or o a) same

-- an operator is found by its own name
op_named-name_of : (op : Op) → op_named (name_of op) ≡ Some op
op_named-name_of Add = refl
op_named-name_of Sub = refl
op_named-name_of AbsS = refl
op_named-name_of Negate = refl
op_named-name_of Mult = refl
op_named-name_of MultR = refl
op_named-name_of Shl = refl
op_named-name_of Shr = refl
op_named-name_of ShrR = refl
op_named-name_of LAdd = refl
op_named-name_of LSub = refl
op_named-name_of LAbs = refl
op_named-name_of LNegate = refl
op_named-name_of LMult = refl
op_named-name_of LMac = refl
op_named-name_of LMsu = refl
op_named-name_of LShl = refl
op_named-name_of LShr = refl
op_named-name_of LShrR = refl
op_named-name_of ExtractH = refl
op_named-name_of ExtractL = refl
op_named-name_of LDepositH = refl
op_named-name_of LDepositL = refl
op_named-name_of Round = refl
op_named-name_of MacR = refl
op_named-name_of MsuR = refl
op_named-name_of NormS = refl
op_named-name_of NormL = refl
op_named-name_of DivS = refl
op_named-name_of SMax = refl
op_named-name_of SMin = refl
op_named-name_of LMax = refl
op_named-name_of LMin = refl
op_named-name_of LMult0 = refl
op_named-name_of LMac0 = refl
op_named-name_of LMsu0 = refl

-- and by its own number
op_numbered-number_of : (op : Op) → op_numbered (number_of op) ≡ Some op
op_numbered-number_of Add = refl
op_numbered-number_of Sub = refl
op_numbered-number_of AbsS = refl
op_numbered-number_of Negate = refl
op_numbered-number_of Mult = refl
op_numbered-number_of MultR = refl
op_numbered-number_of Shl = refl
op_numbered-number_of Shr = refl
op_numbered-number_of ShrR = refl
op_numbered-number_of LAdd = refl
op_numbered-number_of LSub = refl
op_numbered-number_of LAbs = refl
op_numbered-number_of LNegate = refl
op_numbered-number_of LMult = refl
op_numbered-number_of LMac = refl
op_numbered-number_of LMsu = refl
op_numbered-number_of LShl = refl
op_numbered-number_of LShr = refl
op_numbered-number_of LShrR = refl
op_numbered-number_of ExtractH = refl
op_numbered-number_of ExtractL = refl
op_numbered-number_of LDepositH = refl
op_numbered-number_of LDepositL = refl
op_numbered-number_of Round = refl
op_numbered-number_of MacR = refl
op_numbered-number_of MsuR = refl
op_numbered-number_of NormS = refl
op_numbered-number_of NormL = refl
op_numbered-number_of DivS = refl
op_numbered-number_of SMax = refl
op_numbered-number_of SMin = refl
op_numbered-number_of LMax = refl
op_numbered-number_of LMin = refl
op_numbered-number_of LMult0 = refl
op_numbered-number_of LMac0 = refl
op_numbered-number_of LMsu0 = refl

-- what is found first has the name that was looked for
found_step :
    (first op : Op) (bytes : List ℕ) (rest : Option Op) (test : Bool) → test ≡ bytes_eq (name_of first) bytes →
    (rest ≡ Some op → bytes ≡ name_of op) → cond test (Some first) rest ≡ Some op → bytes ≡ name_of op
found_step first op bytes rest true same more found =
    sym (same_text (name_of first) bytes same) ∙ ap name_of (some_same first op found)
found_step first op bytes rest false other more found = more found

first_named-has : (ops : List Op) (op : Op) (bytes : List ℕ) → first_named ops bytes ≡ Some op → bytes ≡ name_of op
first_named-has [] op bytes found = cc
first_named-has (first ∷ ops) op bytes found =
    found_step first op bytes (first_named ops bytes) (bytes_eq (name_of first) bytes) refl (first_named-has ops op bytes) found

other_step :
    (op : Op) (bytes : List ℕ) (test : Bool) → test ≡ bytes_eq bytes (codes "round_fx") →
    cond test (Some Round) (first_named all_ops bytes) ≡ Some op → Names op bytes
other_step op bytes true same found = inr (sym (some_same Round op found), same_text bytes (codes "round_fx") same)
other_step op bytes false other found = inl (first_named-has all_ops op bytes found)

-- an operator is found exactly by the bytes that name it
pub op_named-exact : (op : Op) (bytes : List ℕ) → (op_named bytes ≡ Some op → Names op bytes) × (Names op bytes → op_named bytes ≡ Some op)
op_named-exact op bytes = (
  other_step op bytes (bytes_eq bytes (codes "round_fx")) refl,
  λ named. ⊎_elim (λ own. ap op_named own ∙ op_named-name_of op) (λ other. ap op_named other.1 ∙ ap (λ (o : Op). Some o) (sym other.0)) named,
)

-- so of whatever is what is found
pub op_found :
    (bytes : List ℕ) (found : Option Op) → found ≡ op_named bytes → (op : Op) →
    (found ≡ Some op → Names op bytes) × (Names op bytes → found ≡ Some op)
op_found bytes found is op =
    (λ some. (op_named-exact op bytes).0 (sym is ∙ some), λ named. is ∙ (op_named-exact op bytes).1 named)

-- the same of counted words
word_step :
    (first word : Counted) (bytes : List ℕ) (rest : Option Counted) (test : Bool) → test ≡ bytes_eq (word_name_of first) bytes →
    (rest ≡ Some word → bytes ≡ word_name_of word) → cond test (Some first) rest ≡ Some word → bytes ≡ word_name_of word
word_step first word bytes rest true same more found =
    sym (same_text (word_name_of first) bytes same) ∙ ap word_name_of (some_same first word found)
word_step first word bytes rest false other more found = more found

first_word-has : (words : List Counted) (word : Counted) (bytes : List ℕ) → first_word words bytes ≡ Some word → bytes ≡ word_name_of word
first_word-has [] word bytes found = cc
first_word-has (first ∷ words) word bytes found =
    word_step first word bytes (first_word words bytes) (bytes_eq (word_name_of first) bytes) refl (first_word-has words word bytes) found

named_step :
    (word : Counted) (bytes : List ℕ) (found : Option Op) → op_named bytes ≡ found →
    option_map_or (λ op. Some (Operator op)) found (first_word other_words bytes) ≡ Some word → NamesWord word bytes
named_step word bytes None none said = inl (first_word-has other_words word bytes said)
named_step word bytes (Some op) some said =
    let same : Operator op ≡ word = some_same (Operator op) word said in
    ⊎_elim (λ own. inl (own ∙ ap word_name_of same)) (λ other. inr (sym same ∙ ap (λ (o : Op). Operator o) other.0, other.1))
    ((op_named-exact op bytes).0 some)

word_named-name_of : (word : Counted) → word_named (word_name_of word) ≡ Some word
word_named-name_of (Operator op) =
    ap (λ (found : Option Op). option_map_or (λ op. Some (Operator op)) found (first_word other_words (name_of op))) (op_named-name_of op)
word_named-name_of (Call Move16) = refl
word_named-name_of (Call Move32) = refl
word_named-name_of (Call Logic16) = refl
word_named-name_of (Call Logic32) = refl
word_named-name_of (Call Test) = refl
word_named-name_of (Word If) = refl
word_named-name_of (Word Else) = refl
word_named-name_of (Word For) = refl
word_named-name_of (Word While) = refl
word_named-name_of (Word Do) = refl
word_named-name_of (Word Break) = refl
word_named-name_of (Word Continue) = refl

-- a counted word is found exactly by the bytes that name it
pub word_named-exact :
    (word : Counted) (bytes : List ℕ) →
    (word_named bytes ≡ Some word → NamesWord word bytes) × (NamesWord word bytes → word_named bytes ≡ Some word)
word_named-exact word bytes = (
  named_step word bytes (op_named bytes) refl,
  λ named. ⊎_elim (λ own. ap word_named own ∙ word_named-name_of word) (λ other. ap word_named other.1 ∙ ap (λ (w : Counted). Some w) (sym other.0)) named,
)

pub word_found :
    (bytes : List ℕ) (found : Option Counted) → found ≡ word_named bytes → (word : Counted) →
    (found ≡ Some word → NamesWord word bytes) × (NamesWord word bytes → found ≡ Some word)
word_found bytes found is word =
    (λ some. (word_named-exact word bytes).0 (sym is ∙ some), λ named. is ∙ (word_named-exact word bytes).1 named)
