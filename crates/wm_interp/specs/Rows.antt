-- The cells of variables that are kept one by one.
use Rattle.std.specs.Prelude.{ℤ, List, Option, map, Vec}
use Rattle.std.specs.declared.alloc.Global.{Global}

abbrev pub rows_of : List (Vec (Option ℤ) Global) → List (List (Option ℤ))
rows_of rows = map (λ (row : Vec (Option ℤ) Global). row.items) rows
