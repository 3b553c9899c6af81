use Rattle.std.specs.Prelude.{map, string_bytes}
use Rattle.wm_words.specs.Seen.{seen}
use Rattle.wm_run.specs.World.{world_of}
use Rattle.wm_run.proofs.Leading.{form_leads}
use Rattle.wm_run.proofs.command.outcome_of.Goals as goal

pub returns-clause-leads : goal.returns-clause-leads
returns-clause-leads g c =
    form_leads (map string_bytes c.args.words.now) (world_of (g.F.Files.held c.args.files.now) (g.F.Files.held c.commanded.new.files) (g.F.Files.faults c.args.files.now) (g.F.Files.faults c.commanded.new.files))
    (seen c.read_words.result) c.commanded.result c.read_words.ensures.form c.commanded.ensures.leads
