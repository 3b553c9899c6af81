-- What is wrong with a key is what is wrong with the members from there on.
use Rattle.std.proofs.Common.{◌≡◌, refl, sym, ap, ◌∙◌, ℕ, Bool, true, false, List, Option, Some, None, option_map, is_some, Result, Ok, Err}
use Rattle.toml.specs.Data.{Data, Members, member}
use Rattle.wm_ops.specs.declared.words.Counted.{Counted}
use Rattle.wm_weights.specs.declared.fault.WeightFault.{WeightFault}
use Rattle.wm_weights.specs.declared.fault.WeightFault.TheVariants.{NotToml, BadKey, BadNumber, NoMemory}
use Rattle.wm_weights.specs.Given.{with_members, word_of, weight_in, with_word, with_number, Gives, ReadsKey}

pub is_some-option_map : {A B : Type 0} (f : A → B) (o : Option A) → is_some (option_map f o) ≡ is_some o
is_some-option_map f None = refl
is_some-option_map f (Some x) = refl

bad_number : (weights : List (Option ℕ)) (key : List ℕ) (value : Data) (word : Option Counted) → is_some word ≡ true → weight_in value ≡ None → with_word weights key value word ≡ Err (BadNumber key)
bad_number weights key value None counted none = absurd (cc counted)
bad_number weights key value (Some word) counted none = ap (with_number weights key word) none

pub first_fault : (has_round : Bool) (weights : List (Option ℕ)) (key : List ℕ) (value : Data) (rest : Members) (fault : WeightFault) → ReadsKey (Err fault) (word_of has_round key) key (weight_in value) → Gives (Err fault) (with_members has_round weights (member key value rest))
first_fault has_round weights key value rest NotToml reads = absurd reads
first_fault has_round weights key value rest (BadKey named) reads = rw (reads.0, reads.1) refl
first_fault has_round weights key value rest (BadNumber named) reads = rw (bad_number weights key value (word_of has_round key) reads.0 reads.1, reads.2) refl
first_fault has_round weights key value rest NoMemory reads = tt
