-- What the map finds is what the list of its pairs has.
use Rattle.std.proofs.Common.{ap, ◌∙◌}
use Rattle.wm_members.specs.Tables.{found}
use Rattle.wm_members.proofs.Tables.{lookup-named}
use Rattle.wm_members.proofs.table.Table.get.Goals as goal

pub returns : goal.returns
returns g c = record { found = c.get.ensures.value ∙ lookup-named c.args.name c.self.inside.entries.entries ∙ ap (found c.args.name.now) c.self.view_is }
