-- What a weights file gives: each key is a counted word, and each value a whole number from 0 to 10,000.
use Rattle.std.specs.Prelude.{◌≡◌, ℕ, ℤ, pos, negsuc, Bool, true, false, ◌&&◌, if◌then◌else◌, nat_le, List, Option, Some, None, is_some, Result, Ok, Err, codes}
use Rattle.std.specs.Str.{bytes_eq}
use Rattle.toml.specs.Data.{Data, integer, Members, no_members, member, get_member}
use Rattle.wm_ops.specs.declared.words.Counted.{Counted}
use Rattle.wm_ops.specs.Names.{word_named}
use Rattle.wm_toml.specs.Document.{document}
use Rattle.wm_weights.specs.Table.{none_given, with_weight}
use Rattle.wm_weights.specs.declared.fault.WeightFault.{WeightFault}
use Rattle.wm_weights.specs.declared.fault.WeightFault.TheVariants.{NotToml, BadKey, BadNumber, NoMemory}

-- the counted word of a key; `round_fx` names none beside a key `round`
abbrev pub word_of : Bool → List ℕ → Option Counted
word_of has_round key = if has_round && bytes_eq key (codes "round_fx") then None else word_named key

-- a whole number from 0 to 10,000
abbrev pub small : ℤ → Option ℕ
small (pos n) = if nat_le n 10000 then Some n else None
small (negsuc n) = None

-- the weight that a value gives
abbrev pub weight_in : Data → Option ℕ
weight_in (integer number) = small number
weight_in _ = None

-- the weights with that of one key, or what is wrong with it: the key first, then the number
abbrev pub with_number : List (Option ℕ) → List ℕ → Counted → Option ℕ → Result (List (Option ℕ)) WeightFault
with_number weights key word None = Err (BadNumber key)
with_number weights key word (Some weight) = Ok (with_weight weights word weight)

abbrev pub with_word : List (Option ℕ) → List ℕ → Data → Option Counted → Result (List (Option ℕ)) WeightFault
with_word weights key value None = Err (BadKey key)
with_word weights key value (Some word) = with_number weights key word (weight_in value)

abbrev pub with_key : Bool → List (Option ℕ) → List ℕ → Data → Result (List (Option ℕ)) WeightFault
with_key has_round weights key value = with_word weights key value (word_of has_round key)

infixl 10 ◌>>=◌
abbrev pub ◌>>=◌ : {A B : Type 0} → Result A WeightFault → (A → Result B WeightFault) → Result B WeightFault
(Ok x) >>= f = f x
(Err e) >>= f = Err e

-- the weights with those of the members, in the order of their keys
abbrev pub with_members : Bool → List (Option ℕ) → Members → Result (List (Option ℕ)) WeightFault
with_members has_round weights no_members = Ok weights
with_members has_round weights (member key value rest) = with_key has_round weights key value >>= λ more. with_members has_round more rest

-- whether `round` is a key
abbrev pub names_round : Members → Bool
names_round found = is_some (get_member (codes "round") found)

-- the weights of the members of a document
abbrev pub weights_of : Members → Result (List (Option ℕ)) WeightFault
weights_of found = with_members (names_round found) none_given found

abbrev pub weights_in : Option Members → Result (List (Option ℕ)) WeightFault
weights_in None = Err NotToml
weights_in (Some found) = weights_of found

-- the weights of a file, or its first fault
abbrev pub read_of : List ℕ → Result (List (Option ℕ)) WeightFault
read_of bytes = weights_in (document bytes)

-- the answer is this one, but memory may run out
abbrev pub Gives : Result (List (Option ℕ)) WeightFault → Result (List (Option ℕ)) WeightFault → Type 0
Gives (Ok weights) answer = answer ≡ Ok weights
Gives (Err NotToml) answer = answer ≡ Err NotToml
Gives (Err (BadKey key)) answer = answer ≡ Err (BadKey key)
Gives (Err (BadNumber key)) answer = answer ≡ Err (BadNumber key)
Gives (Err NoMemory) answer = Unit {0}

-- the word of a key and the weight of its value, or what is wrong, or want of memory
abbrev pub ReadsKey : Result (Counted × ℕ) WeightFault → Option Counted → List ℕ → Option ℕ → Type 0
ReadsKey (Ok read) word key weight = (word ≡ Some read.0) × (weight ≡ Some read.1)
ReadsKey (Err NotToml) word key weight = ⊥
ReadsKey (Err (BadKey named)) word key weight = (word ≡ None) × (named ≡ key)
ReadsKey (Err (BadNumber named)) word key weight = (is_some word ≡ true) × (weight ≡ None) × (named ≡ key)
ReadsKey (Err NoMemory) word key weight = Unit {0}
