use Rattle.std.proofs.Common.{rules, ◌≡◌}
use Rattle.wm_ops.specs.Names.{word_named}
use Rattle.wm_ops.proofs.NameLemmas.{word_found}
use Rattle.wm_ops.proofs.names.counted_by_name.Goals as goal

pub returns-in-None-clause-exact : goal.returns-in-None-clause-exact
returns-in-None-clause-exact c =
    let found : c.word_in.result ≡ word_named c.args.name.now = search rules in
    word_found _ _ found
