-- The different numbers of the number tokens of all function bodies, in growing order.
use Rattle.std.specs.Prelude.{ℤ, List, [], ◌∷◌, Option, Some, None}
use Rattle.std.specs.BTreeSet.{insert_key}
use Rattle.std.specs.Ordering.{int_cmp}
use Rattle.wm_lang.specs.declared.statement.Block.{Block}
use Rattle.wm_lang.specs.declared.statement.Statement.{Statement}
use Rattle.wm_lang.specs.declared.unit.Item.{Item}
use Rattle.wm_lang.specs.declared.unit.Item.TheVariants as item
use Rattle.wm_source.specs.Numbers.{numbers_of_items}

abbrev pub numbers_of_body : Option (Block Statement) → List ℤ → List ℤ
numbers_of_body None seen = seen
numbers_of_body (Some block) seen = numbers_of_items block.items seen

-- behind those that were seen
abbrev pub numbers_of_item : Item → List ℤ → List ℤ
numbers_of_item (item.Function function) seen = numbers_of_body function.body seen
numbers_of_item (item.Objects declaration) seen = seen
numbers_of_item (item.Struct structure) seen = seen
numbers_of_item (item.StructObjects objects) seen = seen

abbrev pub numbers_from : List Item → List ℤ → List ℤ
numbers_from [] seen = seen
numbers_from (item ∷ rest) seen = numbers_from rest (numbers_of_item item seen)

-- with those that are there, each once and in growing order
abbrev pub sorted_from : List ℤ → List ℤ → List ℤ
sorted_from [] sorted = sorted
sorted_from (number ∷ rest) sorted = sorted_from rest (insert_key int_cmp sorted number)

unfoldable pub constants_of : List Item → List ℤ
constants_of items = sorted_from (numbers_from items []) []
