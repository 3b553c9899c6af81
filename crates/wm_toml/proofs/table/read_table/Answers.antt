use Rattle.std.proofs.Common.{rules}
use Rattle.toml.specs.Errors.{IsMemory}
use Rattle.wm_toml.proofs.Texts.{document-text, document-refused}
use Rattle.wm_toml.proofs.table.read_table.Goals as goal

pub returns-in-Ok : goal.returns-in-Ok
returns-in-Ok c = record { table = document-text c.args.bytes.now _ c.in-Ok.ensures.ok.0 c.in-Ok.ensures.ok.1 }

pub returns-in-Err-2 : goal.returns-in-Err-2
returns-in-Err-2 c =
    let other : IsMemory c.in-Err-2.field-0 → ⊥ = search rules in
    record { table = document-refused c.args.bytes.now (c.in-Err-2.ensures.refused other) }
