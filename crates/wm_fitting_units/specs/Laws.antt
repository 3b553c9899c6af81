-- The laws.
use Rattle.std.specs.Prelude.{◌≡◌, ℕ, List, None}
use Rattle.std.specs.List.{All}
use Rattle.wm_lang.specs.declared.unit.Unit.{Unit as Source}
use Rattle.wm_program.specs.Code.{Code}
use Rattle.wm_reading.specs.Reading.{read_unit}
use Rattle.wm_fitting_units.specs.Passes.{IsPlainItem, Contains, ReadingFits}

-- a unit without fault, in each program that has what was read
abbrev pub UnitsFit : Type 0
UnitsFit =
    (code : Code) (unit : Source) → All IsPlainItem unit.items → (offsets : List (List ℕ))
    → (read_unit unit offsets).least ≡ None → Contains code offsets (read_unit unit offsets) → ReadingFits code (read_unit unit offsets)
