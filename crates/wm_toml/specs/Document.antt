-- A TOML document as its members, in the byte order of their keys.
use Rattle.std.specs.Prelude.{◌≡◌, ℕ, List, Option, Some, None, if◌then◌else◌, Result, Ok, Err}
use Rattle.std.specs.Str.{is_utf8}
use Rattle.toml.specs.Data.{Members}
use Rattle.toml.specs.Parse.{parse_document}
use Rattle.toml.specs.View.{table_view}
use Rattle.std.specs.BTreeMap.{BTreeMap}
use Rattle.std.specs.Prelude.{String}
use Rattle.std.specs.declared.alloc.Global.{Global}
use Rattle.toml.specs.declared.value.Value.{Value}
use Rattle.wm_toml.specs.declared.table.TableFault.{TableFault}
use Rattle.wm_toml.specs.declared.table.TableFault.TheVariants.{NotToml, NoMemory}

-- the members of a document; none where the bytes are no TOML text
abbrev pub document : List ℕ → Option Members
document bytes = if is_utf8 bytes then parse_document bytes else None

-- the answer is that of the document, but memory may run out
abbrev pub GivesTable : Result (BTreeMap (String Global) Value) TableFault → Option Members → Type 0
GivesTable (Ok table) read = read ≡ Some (table_view table)
GivesTable (Err NotToml) read = read ≡ None
GivesTable (Err NoMemory) read = Unit {0}
