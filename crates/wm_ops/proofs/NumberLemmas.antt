-- The places of operators and counted words are exact both ways: each place holds the one thing of that number.
use Rattle.std.proofs.Common.{◌≡◌, ℕ, zero, suc, ◌+◌, ◌-◌, ◌<◌, ◌≤◌, List, [], ◌∷◌, Option, Some, None, Bool, true, false, cond, refl, sym, ◌∙◌, ap, arith, slice_get, unwrap_or, nat_lt}
use Rattle.std.specs.Option.{option_map}
use Rattle.wm_ops.specs.declared.operators.Op.{Op}
use Rattle.wm_ops.specs.declared.operators.Op.TheVariants.{Add, Sub, AbsS, Negate, Mult, MultR, Shl, Shr, ShrR, LAdd, LSub, LAbs, LNegate, LMult, LMac, LMsu, LShl, LShr, LShrR, ExtractH, ExtractL, LDepositH, LDepositL, Round, MacR, MsuR, NormS, NormL, DivS, SMax, SMin, LMax, LMin, LMult0, LMac0, LMsu0}
use Rattle.wm_ops.specs.declared.words.CountCall.TheVariants.{Move16, Move32, Logic16, Logic32, Test}
use Rattle.wm_ops.specs.declared.words.ControlWord.TheVariants.{If, Else, For, While, Do, Break, Continue}
use Rattle.wm_ops.specs.declared.words.Counted.{Counted}
use Rattle.wm_ops.specs.declared.words.Counted.TheVariants.{Operator, Call, Word}
use Rattle.wm_ops.specs.Operators.{all_ops, number_of, op_numbered}
use Rattle.wm_ops.specs.Words.{other_words, word_number_of, word_numbered}

same_some : {A : Type 0} (a b : A) → Some a ≡ Some b → a ≡ b
same_some {A} a b same = ap (λ (o : Option A). unwrap_or o a) same

-- each thing of the list has the number of its place, where the list begins at this one
abbrev IsNumbered : {A : Type 0} → (A → ℕ) → ℕ → List A → Type 0
IsNumbered number place [] = Unit {0}
IsNumbered number place (x ∷ xs) = (number x ≡ place) × IsNumbered number (suc place) xs

numbered_at :
    {A : Type 0} (number : A → ℕ) (place : ℕ) (xs : List A) (k : ℕ) (x : A) →
    IsNumbered number place xs → slice_get xs k ≡ Some x → number x ≡ place + k
numbered_at number place [] k x numbered found = cc
numbered_at number place (y ∷ ys) zero x numbered found =
    ap number (sym (same_some y x found)) ∙ numbered.0 ∙ omega arith
numbered_at number place (y ∷ ys) (suc k) x numbered found = numbered_at number (suc place) ys k x numbered.1 found ∙ omega arith

all_numbered : IsNumbered number_of 0 all_ops
all_numbered = (refl, (refl, (refl, (refl, (refl, (refl, (refl, (refl, (refl, (refl, (refl, (refl, (refl, (refl, (refl, (refl, (refl, (refl, (refl, (refl, (refl, (refl, (refl, (refl, (refl, (refl, (refl, (refl, (refl, (refl, (refl, (refl, (refl, (refl, (refl, (refl, tt))))))))))))))))))))))))))))))))))))

others_numbered : IsNumbered word_number_of 36 other_words
others_numbered = (refl, (refl, (refl, (refl, (refl, (refl, (refl, (refl, (refl, (refl, (refl, (refl, tt))))))))))))

-- an operator stands at its own number
op_numbered-number_of : (op : Op) → op_numbered (number_of op) ≡ Some op
op_numbered-number_of Add = refl
op_numbered-number_of Sub = refl
op_numbered-number_of AbsS = refl
op_numbered-number_of Negate = refl
op_numbered-number_of Mult = refl
op_numbered-number_of MultR = refl
op_numbered-number_of Shl = refl
op_numbered-number_of Shr = refl
op_numbered-number_of ShrR = refl
op_numbered-number_of LAdd = refl
op_numbered-number_of LSub = refl
op_numbered-number_of LAbs = refl
op_numbered-number_of LNegate = refl
op_numbered-number_of LMult = refl
op_numbered-number_of LMac = refl
op_numbered-number_of LMsu = refl
op_numbered-number_of LShl = refl
op_numbered-number_of LShr = refl
op_numbered-number_of LShrR = refl
op_numbered-number_of ExtractH = refl
op_numbered-number_of ExtractL = refl
op_numbered-number_of LDepositH = refl
op_numbered-number_of LDepositL = refl
op_numbered-number_of Round = refl
op_numbered-number_of MacR = refl
op_numbered-number_of MsuR = refl
op_numbered-number_of NormS = refl
op_numbered-number_of NormL = refl
op_numbered-number_of DivS = refl
op_numbered-number_of SMax = refl
op_numbered-number_of SMin = refl
op_numbered-number_of LMax = refl
op_numbered-number_of LMin = refl
op_numbered-number_of LMult0 = refl
op_numbered-number_of LMac0 = refl
op_numbered-number_of LMsu0 = refl

number_small : (op : Op) → number_of op < 36
number_small Add = omega arith
number_small Sub = omega arith
number_small AbsS = omega arith
number_small Negate = omega arith
number_small Mult = omega arith
number_small MultR = omega arith
number_small Shl = omega arith
number_small Shr = omega arith
number_small ShrR = omega arith
number_small LAdd = omega arith
number_small LSub = omega arith
number_small LAbs = omega arith
number_small LNegate = omega arith
number_small LMult = omega arith
number_small LMac = omega arith
number_small LMsu = omega arith
number_small LShl = omega arith
number_small LShr = omega arith
number_small LShrR = omega arith
number_small ExtractH = omega arith
number_small ExtractL = omega arith
number_small LDepositH = omega arith
number_small LDepositL = omega arith
number_small Round = omega arith
number_small MacR = omega arith
number_small MsuR = omega arith
number_small NormS = omega arith
number_small NormL = omega arith
number_small DivS = omega arith
number_small SMax = omega arith
number_small SMin = omega arith
number_small LMax = omega arith
number_small LMin = omega arith
number_small LMult0 = omega arith
number_small LMac0 = omega arith
number_small LMsu0 = omega arith

-- so of whatever stands at a place
pub op_placed :
    (k : ℕ) (found : Option Op) → found ≡ op_numbered k → (op : Op) →
    (found ≡ Some op → number_of op ≡ k) × (number_of op ≡ k → found ≡ Some op)
op_placed k found is op = (
  λ some. numbered_at number_of 0 all_ops k op all_numbered (sym is ∙ some) ∙ omega arith,
  λ number. is ∙ ap op_numbered (sym number) ∙ op_numbered-number_of op,
)

word_numbered-number_of : (word : Counted) → word_numbered (word_number_of word) ≡ Some word
word_numbered-number_of (Operator op) =
    let small : nat_lt (number_of op) 36 ≡ true = grind (arith, number_small op) in
    ap (λ b. cond b (option_map (λ (o : Op). Operator o) (op_numbered (number_of op))) (slice_get other_words (number_of op - 36))) small ∙
    ap (λ (found : Option Op). option_map (λ (o : Op). Operator o) found) (op_numbered-number_of op)
word_numbered-number_of (Call Move16) = refl
word_numbered-number_of (Call Move32) = refl
word_numbered-number_of (Call Logic16) = refl
word_numbered-number_of (Call Logic32) = refl
word_numbered-number_of (Call Test) = refl
word_numbered-number_of (Word If) = refl
word_numbered-number_of (Word Else) = refl
word_numbered-number_of (Word For) = refl
word_numbered-number_of (Word While) = refl
word_numbered-number_of (Word Do) = refl
word_numbered-number_of (Word Break) = refl
word_numbered-number_of (Word Continue) = refl

operator_placed :
    (k : ℕ) (word : Counted) (found : Option Op) → op_numbered k ≡ found →
    option_map (λ (o : Op). Operator o) found ≡ Some word → word_number_of word ≡ k
operator_placed k word None is some = cc
operator_placed k word (Some op) is some =
    ap word_number_of (sym (same_some (Operator op) word some)) ∙ (op_placed k (Some op) (sym is) op).0 refl

word_tested :
    (k : ℕ) (word : Counted) (test : Bool) → test ≡ nat_lt k 36 →
    cond test (option_map (λ (o : Op). Operator o) (op_numbered k)) (slice_get other_words (k - 36)) ≡ Some word → word_number_of word ≡ k
word_tested k word true small some = operator_placed k word (op_numbered k) refl some
word_tested k word false large some =
    let above : 36 ≤ k = grind (arith, large) in
    numbered_at word_number_of 36 other_words (k - 36) word others_numbered some ∙ omega (arith, above)

pub word_placed :
    (k : ℕ) (found : Option Counted) → found ≡ word_numbered k → (word : Counted) →
    (found ≡ Some word → word_number_of word ≡ k) × (word_number_of word ≡ k → found ≡ Some word)
word_placed k found is word = (
  λ some. word_tested k word (nat_lt k 36) refl (sym is ∙ some),
  λ number. is ∙ ap word_numbered (sym number) ∙ word_numbered-number_of word,
)
