-- What an answer of a reader says, where memory may run out.
use Rattle.std.specs.Prelude.{◌≡◌, ℕ, ℤ, true, false, List, [], map, Option, Some, None, Result, Ok, Err, String}
use Rattle.std.specs.Borrow.{Bor}
use Rattle.std.specs.BTreeMap.{BTreeMap}
use Rattle.std.specs.BTreeSet.{BTreeSet, contains_by}
use Rattle.std.specs.Cmp.Lexicographic.{slice_cmp}
use Rattle.std.specs.List.{list_any}
use Rattle.std.specs.Ordering.{nat_cmp}
use Rattle.std.specs.declared.alloc.Global.{Global}
use Rattle.std.specs.Option.{option_map}
use Rattle.toml.specs.Data.{Members, same_key}
use Rattle.toml.specs.View.{table_view}
use Rattle.toml.specs.declared.value.Value.{Value}
use Rattle.wm_interval.specs.declared.Interval.{Interval}
use Rattle.wm_program.specs.Settings.{Range, range_of}
use Rattle.wm_program.specs.declared.spec.RangeOf.{RangeOf}
use Rattle.wm_spec.specs.Inputs.{members_or_none}
use Rattle.wm_spec.specs.Lists.{all_new}
use Rattle.wm_spec.specs.declared.fault.SpecFault.{SpecFault}
use Rattle.wm_spec.specs.declared.fault.SpecFault.TheVariants.{NotToml, MissingKey, UnknownKey, BadValue, NoMemory}

abbrev pub Fails : {A : Type 0} → SpecFault → Result A SpecFault → Type 0
Fails NotToml read = read ≡ Err NotToml
Fails (MissingKey key) read = read ≡ Err (MissingKey key)
Fails (UnknownKey key) read = read ≡ Err (UnknownKey key)
Fails (BadValue key) read = read ≡ Err (BadValue key)
Fails NoMemory read = Unit {0}

-- the answer, seen by view, is this one, but memory may run out
abbrev pub Gives : {X A : Type 0} → (X → A) → Result X SpecFault → Result A SpecFault → Type 0
Gives view (Ok x) read = read ≡ Ok (view x)
Gives view (Err fault) read = Fails fault read

-- as it is
abbrev pub same : {A : Type 0} → A → A
same x = x

abbrev pub ranges_of : List RangeOf → List Range
ranges_of ranges = map range_of ranges

-- what was found, seen by view, is this, but memory may run out
abbrev pub Finds : {X A E : Type 0} → (X → A) → Result (Option X) E → Option A → Type 0
Finds view (Ok None) found = found ≡ None
Finds view (Ok (Some x)) found = found ≡ Some (view x)
Finds view (Err _) found = Unit {0}

-- a bad value of this key, or want of memory
abbrev pub IsBad : SpecFault → List ℕ → Type 0
IsBad NotToml key = ⊥
IsBad (MissingKey named) key = ⊥
IsBad (UnknownKey named) key = ⊥
IsBad (BadValue named) key = named ≡ key
IsBad NoMemory key = Unit {0}

-- the set has these texts and no others
abbrev pub HasTexts : BTreeSet (Bor (List ℕ)) → List (List ℕ) → Type 0
HasTexts set texts = (text : List ℕ) → contains_by (λ (other : Bor (List ℕ)). slice_cmp nat_cmp text other.now) set ≡ list_any (same_key text) texts

-- a set of the names; none where a name stands twice
abbrev pub IsSetOf : List (List ℕ) → Option (BTreeSet (Bor (List ℕ))) → Type 0
IsSetOf names None = all_new [] names ≡ false
IsSetOf names (Some set) = (all_new [] names ≡ true) × HasTexts set names

-- the ends of an interval
abbrev pub bounds_of : Interval → ℤ × ℤ
bounds_of range = (range.low, range.high)

-- the members of a table that may be absent
abbrev pub option_members : Option (Bor (BTreeMap (String Global) Value)) → Members
option_members found = members_or_none (option_map (λ (t : Bor (BTreeMap (String Global) Value)). table_view t.now) found)

-- a key of this name is missing, or want of memory
abbrev pub IsMissing : SpecFault → List ℕ → Type 0
IsMissing NotToml key = ⊥
IsMissing (MissingKey named) key = named ≡ key
IsMissing (UnknownKey named) key = ⊥
IsMissing (BadValue named) key = ⊥
IsMissing NoMemory key = Unit {0}
