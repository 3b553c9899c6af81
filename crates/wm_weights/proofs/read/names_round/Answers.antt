use Rattle.std.proofs.Common.{sym, ap, ◌∙◌, is_some, codes}
use Rattle.toml.proofs.Views.{table_get}
use Rattle.wm_weights.proofs.Faults.{is_some-option_map}
use Rattle.wm_weights.proofs.read.names_round.Goals as goal

pub returns : goal.returns
returns c =
    c.is_some.ensures ∙ sym (is_some-option_map _ c.get.result) ∙ ap is_some (table_get c.get.result (codes "round") c.args.table.now.entries c.get.ensures.value)
