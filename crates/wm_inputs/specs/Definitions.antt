-- Where functions are defined: the names of those that have a block.
use Rattle.std.specs.Prelude.{List, [], ◌∷◌, ◌++◌, Option, Some, None}
use Rattle.wm_lang.specs.declared.place.Position.{Position}
use Rattle.wm_lang.specs.declared.statement.Block.{Block}
use Rattle.wm_lang.specs.declared.statement.Statement.{Statement}
use Rattle.wm_lang.specs.declared.unit.Item.{Item}
use Rattle.wm_lang.specs.declared.unit.Item.TheVariants as item

abbrev pub where_body : Option (Block Statement) → Position → Option Position
where_body None at = None
where_body (Some block) at = Some at

abbrev pub definition_of : Item → Option Position
definition_of (item.Function function) = where_body function.body function.name.at
definition_of (item.Objects declaration) = None
definition_of (item.Struct structure) = None
definition_of (item.StructObjects objects) = None

abbrev pub with_definition : Option Position → List Position → List Position
with_definition None places = places
with_definition (Some at) places = places ++ at ∷ []

abbrev pub definitions_from : List Item → List Position → List Position
definitions_from [] places = places
definitions_from (item ∷ rest) places = definitions_from rest (with_definition (definition_of item) places)

unfoldable pub definitions_in : List Item → List Position
definitions_in items = definitions_from items []
