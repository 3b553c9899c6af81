-- What a list of texts may be.
use Rattle.std.specs.Prelude.{ℕ, Bool, true, false, ◌&&◌, not, if◌then◌else◌, nat_le, List, [], ◌∷◌, ◌++◌, length, Option, Some, None}
use Rattle.std.specs.List.{list_any}
use Rattle.std.specs.Option.{option_map, option_and_then}
use Rattle.toml.specs.Data.{Data, string, array, Items, no_items, item, same_key}
use Rattle.wm_spec.specs.Values.{text_in, is_file_name, is_name}

-- the texts so far and those of the items, where each passes the test
abbrev pub more_texts : (List ℕ → Bool) → List (List ℕ) → Items → Option (List (List ℕ))
more_texts passes done no_items = Some done
more_texts passes done (item value items) = option_and_then (λ text. more_texts passes (done ++ text ∷ []) items) (text_in passes value)

-- whether no text stands twice, nor among those that were seen
abbrev pub all_new : List (List ℕ) → List (List ℕ) → Bool
all_new seen [] = true
all_new seen (text ∷ texts) = not (list_any (same_key text) seen) && all_new (seen ++ text ∷ []) texts

-- the texts, where there are from `least` to `most` of them
abbrev pub counted : ℕ → ℕ → List (List ℕ) → Option (List (List ℕ))
counted least most texts = if nat_le least (length texts) && nat_le (length texts) most then Some texts else None

-- the texts, where no two are the same
abbrev pub different : List (List ℕ) → Option (List (List ℕ))
different texts = if all_new [] texts then Some texts else None

-- the names of the sources: a text, or a list of 1 to 64 texts
abbrev pub sources_in : Data → Option (List (List ℕ))
sources_in (array items) = option_and_then (counted 1 64) (more_texts is_file_name [] items)
sources_in value = option_map (λ text. text ∷ []) (text_in is_file_name value)

-- the frame functions: a name, or a list of 2 to 16 different names
abbrev pub frames_in : Data → Option (List (List ℕ))
frames_in (array items) = option_and_then different (option_and_then (counted 2 16) (more_texts is_name [] items))
frames_in value = option_map (λ name. name ∷ []) (text_in is_name value)
