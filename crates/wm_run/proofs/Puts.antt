-- What a put of the line on memory leaves.
use Rattle.std.proofs.Common.{◌≡◌, ℕ, List, [], Option, Some, None, Result, Ok, Err, refl, sym, ap, ◌∙◌}
use Rattle.std.proofs.lemmas.List.{append-nil}
use Rattle.std.specs.Prelude.{codes}
use Rattle.wm_files.specs.declared.outside.WriteFault.{WriteFault}
use Rattle.wm_files.specs.declared.outside.WriteFault.TheVariants as writing
use Rattle.wm_files.specs.Outside.{Puts, grown}
use Rattle.wm_run.specs.Ends.{OnlyMemory}

grown_by_nothing : (before : Option (List ℕ)) → grown before [] ≡ before
grown_by_nothing None = refl
grown_by_nothing (Some bytes) = ap Some (append-nil bytes)

pub memory_put : {T : Type 0} (before after : Option (List ℕ)) (old new : ℕ) (r : Result T WriteFault)
    → Puts before after (codes "fault 7 memory\n") old new r → OnlyMemory before after 7
memory_put before after old new (Ok _) given = record { status_is = refl; size = 15; text = given }
memory_put before after old new (Err writing.Failed) given = record { status_is = refl; size = given.1.0; text = given.1.1 }
memory_put before after old new (Err writing.NoMemory) given = record { status_is = refl; size = 0; text = given ∙ sym (grown_by_nothing before) }
