-- Locals and objects with what is known of their addresses at the end.
use Rattle.std.specs.Prelude.{ℕ, List, [], ◌∷◌, ◌++◌, length}
use Rattle.wm_program.specs.declared.program.LocalInfo.{LocalInfo}
use Rattle.wm_program.specs.declared.program.ObjectInfo.{ObjectInfo}
use Rattle.wm_marks.specs.Marking.{has}

abbrev pub local : List ℕ → ℕ → LocalInfo → LocalInfo
local taken number info =
    record { name = info.name; width = info.width; array = info.array; view = info.view; addressed = has number taken }

abbrev pub locals : List ℕ → List LocalInfo → List LocalInfo → List LocalInfo
locals taken found [] = found
locals taken found (info ∷ rest) = locals taken (found ++ local taken (length found) info ∷ []) rest

abbrev pub object : List ℕ → ℕ → ObjectInfo → ObjectInfo
object taken number info =
    record {
      name = info.name;
      width = info.width;
      length = info.length;
      scalar = info.scalar;
      constant = info.constant;
      addressed = has number taken;
      initial = info.initial;
      input = info.input;
    }

abbrev pub objects : List ℕ → List ObjectInfo → List ObjectInfo → List ObjectInfo
objects taken found [] = found
objects taken found (info ∷ rest) = objects taken (found ++ object taken (length found) info ∷ []) rest
