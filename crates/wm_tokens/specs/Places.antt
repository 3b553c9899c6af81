-- Where a fault of the sources stands: the name of its file, and the line and column.
use Rattle.std.specs.Prelude.{ℕ, List, [], Option, Some, None, slice_get}
use Rattle.std.specs.Option.{unwrap_or}
use Rattle.wm_lang.specs.declared.place.Place.{Place}
use Rattle.wm_lang.specs.declared.token.Token.{Token}
use Rattle.wm_report.specs.declared.fault.At.{At}

-- the name of a source; none where there is no source of this number
abbrev pub name_in : Option (List ℕ) → List ℕ
name_in None = []
name_in (Some name) = name

abbrev pub at_place : List (List ℕ) → Place → At
at_place names place = record { file = name_in (slice_get names place.file); line = place.line; column = place.column }

-- behind the last token there is no place
abbrev pub at_one : List (List ℕ) → Option Token → Option At
at_one names None = None
at_one names (Some token) = Some (at_place names token.place)

abbrev pub at_token : List (List ℕ) → List Token → ℕ → Option At
at_token names tokens number = at_one names (slice_get tokens number)
