-- What a specification says, or its first fault.
use Rattle.std.specs.Prelude.{ℕ, ℤ, pos, unsigned_abs, Bool, ◌||◌, if◌then◌else◌, List, [], ◌∷◌, Option, Some, None, unwrap_or, Result, Ok, Err, codes}
use Rattle.std.specs.List.{list_any}
use Rattle.std.specs.Str.{bytes_eq}
use Rattle.std.specs.Option.{option_map}
use Rattle.toml.specs.Data.{Data, Members, no_members, member, get_member}
use Rattle.wm_program.specs.Settings.{Range, Settings}
use Rattle.wm_toml.specs.Document.{document}
use Rattle.wm_spec.specs.Values.{is_file_name, is_name, text_in, number_in}
use Rattle.wm_spec.specs.Lists.{sources_in, frames_in}
use Rattle.wm_spec.specs.Inputs.{ranges_in, members_in, pack_in}
use Rattle.wm_spec.specs.declared.fault.SpecFault.{SpecFault}
use Rattle.wm_spec.specs.declared.fault.SpecFault.TheVariants.{NotToml, MissingKey, UnknownKey, BadValue, NoMemory}

infixl 10 ◌>>=◌
abbrev pub ◌>>=◌ : {A B : Type 0} → Result A SpecFault → (A → Result B SpecFault) → Result B SpecFault
(Ok x) >>= f = f x
(Err e) >>= f = Err e

-- the keys that a specification may have
abbrev pub keys : List (List ℕ)
keys =
    codes "source" ∷ codes "weights" ∷ codes "certificate" ∷ codes "init" ∷ codes "frame" ∷ codes "frame_us" ∷ codes "steps" ∷ codes "pack" ∷ codes "range" ∷ []

abbrev pub is_known : List ℕ → Bool
is_known key = list_any (λ known. bytes_eq known key) keys

-- all keys are known, or the first that is not
abbrev pub known_keys : Members → Result (Unit {0}) SpecFault
known_keys no_members = Ok tt
known_keys (member key value rest) = if is_known key then known_keys rest else Err (UnknownKey key)

-- what a value reads as, or the key whose value is bad
abbrev pub good : {A : Type 0} → List ℕ → Option A → Result A SpecFault
good key None = Err (BadValue key)
good key (Some x) = Ok x

-- a key that may be absent
abbrev pub optional : {A : Type 0} → List ℕ → (Data → Option A) → Option Data → Result (Option A) SpecFault
optional key reads None = Ok None
optional key reads (Some value) = good key (option_map (λ x. Some x) (reads value))

-- a key that has another value where it is absent
abbrev pub defaulted : {A : Type 0} → List ℕ → (Data → Option A) → A → Option Data → Result A SpecFault
defaulted key reads absent None = Ok absent
defaulted key reads absent (Some value) = good key (reads value)

-- a key that has to be there
abbrev pub needed : {A : Type 0} → List ℕ → (Data → Option A) → Option Data → Result A SpecFault
needed key reads None = Err (MissingKey key)
needed key reads (Some value) = good key (reads value)

-- a count from 1 to a greatest one
abbrev pub count_in : ℤ → Data → Option ℕ
count_in most value = option_map unsigned_abs (number_in (pos 1) most value)

abbrev pub sources_at : Members → Result (List (List ℕ)) SpecFault
sources_at found = needed (codes "source") sources_in (get_member (codes "source") found)

abbrev pub file_at : List ℕ → Members → Result (Option (List ℕ)) SpecFault
file_at key found = optional key (text_in is_file_name) (get_member key found)

abbrev pub name_at : List ℕ → Members → Result (Option (List ℕ)) SpecFault
name_at key found = optional key (text_in is_name) (get_member key found)

abbrev pub frames_at : Members → Result (List (List ℕ)) SpecFault
frames_at found = defaulted (codes "frame") frames_in (codes "frame" ∷ []) (get_member (codes "frame") found)

abbrev pub frame_us_at : Members → Result (Option ℕ) SpecFault
frame_us_at found = optional (codes "frame_us") (count_in (pos 1000000)) (get_member (codes "frame_us") found)

abbrev pub steps_at : Members → Result ℕ SpecFault
steps_at found = defaulted (codes "steps") (count_in (pos 1000000000)) 1000000 (get_member (codes "steps") found)

abbrev pub pack_at : Members → Result (Option (List (List ℕ))) SpecFault
pack_at found = optional (codes "pack") (pack_in (members_in (get_member (codes "range") found))) (get_member (codes "pack") found)

abbrev pub ranges_at : Members → Result (List Range) SpecFault
ranges_at found = defaulted (codes "range") ranges_in [] (get_member (codes "range") found)

-- `source` is there
abbrev pub has_source : Members → Result (Unit {0}) SpecFault
has_source found = needed (codes "source") (λ _. Some tt) (get_member (codes "source") found)

-- the values in their order
unfoldable pub values_of : Members → Result Settings SpecFault
values_of found = do
  sources ← sources_at found
  weights ← file_at (codes "weights") found
  certificate ← file_at (codes "certificate") found
  init ← name_at (codes "init") found
  frames ← frames_at found
  frame_us ← frame_us_at found
  steps ← steps_at found
  pack ← pack_at found
  ranges ← ranges_at found
  Ok (record { sources = sources; weights = weights; certificate = certificate; init = init; frames = frames; frame_us = frame_us; pack = pack; steps = steps; ranges = ranges })

-- the faults in their order: no `source`, an unknown key, a bad value
unfoldable pub settings_in : Members → Result Settings SpecFault
settings_in found = do
  present ← has_source found
  known ← known_keys found
  values_of found

abbrev pub settings_of_table : Option Members → Result Settings SpecFault
settings_of_table None = Err NotToml
settings_of_table (Some found) = settings_in found

-- the specification of a file
abbrev pub read_of : List ℕ → Result Settings SpecFault
read_of bytes = settings_of_table (document bytes)
