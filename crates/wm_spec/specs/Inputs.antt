-- The ranges of the inputs, and the order of the inputs in a sample file.
use Rattle.std.specs.Prelude.{ℕ, ◌+◌, ℤ, pos, negsuc, int_le, Bool, true, false, ◌&&◌, if◌then◌else◌, ◌==◌, List, [], ◌∷◌, ◌++◌, length, Option, Some, None}
use Rattle.std.specs.List.{list_any}
use Rattle.std.specs.Option.{option_and_then}
use Rattle.toml.specs.Data.{Data, array, table, as_table, Items, no_items, item, Members, no_members, member, same_key}
use Rattle.wm_program.specs.Settings.{Range}
use Rattle.wm_spec.specs.Values.{is_name, number_in}
use Rattle.wm_spec.specs.Lists.{more_texts, all_new}

-- a number of 32 bits
abbrev pub word_in : Data → Option ℤ
word_in value = number_in (negsuc 2147483647) (pos 2147483647) value

-- a low and a high number, the low at most the high
abbrev pub ordered : ℤ → ℤ → Option (ℤ × ℤ)
ordered low high = if int_le low high then Some (low, high) else None

abbrev pub pair_in : Option ℤ → Option ℤ → Option (ℤ × ℤ)
pair_in None high = None
pair_in (Some low) None = None
pair_in (Some low) (Some high) = ordered low high

-- a range: a list of two numbers of 32 bits
abbrev pub bounds_in : Data → Option (ℤ × ℤ)
bounds_in (array (item low (item high no_items))) = pair_in (word_in low) (word_in high)
bounds_in _ = None

-- the range of a key
abbrev pub range_in : List ℕ → Data → Option Range
range_in key value =
    if is_name key then option_and_then (λ (bounds : ℤ × ℤ). Some (record { name = key; low = bounds.0; high = bounds.1 })) (bounds_in value) else None

-- the ranges so far and those of the members, in the byte order of their keys
abbrev pub more_ranges : List Range → Members → Option (List Range)
more_ranges done no_members = Some done
more_ranges done (member key value rest) = option_and_then (λ range. more_ranges (done ++ range ∷ []) rest) (range_in key value)

abbrev pub ranges_in : Data → Option (List Range)
ranges_in (table found) = more_ranges [] found
ranges_in _ = None

-- the members of a table that may be absent
abbrev pub members_or_none : Option Members → Members
members_or_none None = no_members
members_or_none (Some found) = found

-- the members of a value that may be absent, or no table
abbrev pub members_in : Option Data → Members
members_in found = members_or_none (option_and_then as_table found)

-- how many members there are
abbrev pub count_of : Members → ℕ
count_of no_members = 0
count_of (member key value rest) = 1 + count_of rest

-- whether each key is among the names
abbrev pub keys_among : Members → List (List ℕ) → Bool
keys_among no_members names = true
keys_among (member key value rest) names = list_any (same_key key) names && keys_among rest names

-- whether the names are the keys, each once: no two names are the same, there are as many as keys, and each key is among them
abbrev pub are_the_keys : Members → List (List ℕ) → Bool
are_the_keys found names = all_new [] names && ((length names == count_of found) && keys_among found names)

abbrev pub packed : Members → List (List ℕ) → Option (List (List ℕ))
packed found names = if are_the_keys found names then Some names else None

-- the order of the inputs: a list of the keys of the ranges
abbrev pub pack_in : Members → Data → Option (List (List ℕ))
pack_in found (array items) = option_and_then (packed found) (more_texts is_name [] items)
pack_in found _ = None
