-- What a sorted map of names and bytes holds.
use Rattle.std.specs.Prelude.{ℕ, List, map, Vec}
use Rattle.std.specs.FinMap.{from_entries}
use Rattle.std.specs.BTreeMap.{BTreeMap}
use Rattle.std.specs.declared.alloc.Global.{Global}
use Rattle.wm_files.specs.Outside.{Held}

-- an entry as the bytes of its name and the bytes under it
abbrev pub pair_of : Vec ℕ Global × Vec ℕ Global → List ℕ × List ℕ
pair_of entry = (entry.0.items, entry.1.items)

abbrev pub held_of : BTreeMap (Vec ℕ Global) (Vec ℕ Global) → Held
held_of pairs = from_entries (map pair_of pairs.entries)
