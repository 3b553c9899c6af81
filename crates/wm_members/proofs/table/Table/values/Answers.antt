-- The values of the map are those of the list of its pairs.
use Rattle.std.proofs.Common.{ap, ◌∙◌}
use Rattle.wm_members.specs.Tables.{all_of}
use Rattle.wm_members.proofs.Tables.{values-named}
use Rattle.wm_members.proofs.table.Table.values.Goals as goal

pub returns : goal.returns
returns g c = record { values = c.as_slice.ensures ∙ c.values.ensures.rest ∙ values-named c.self.inside.entries.entries ∙ ap all_of c.self.view_is }
