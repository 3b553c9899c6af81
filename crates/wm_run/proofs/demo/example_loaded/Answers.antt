use Rattle.std.proofs.Common.{◌∙◌}
use Rattle.wm_program.specs.Settings.{settings_of}
use Rattle.wm_run.proofs.Examples.{example_found, example_refused}
use Rattle.wm_run.proofs.demo.example_loaded.Goals as goal

pub returns-in-Ok-spec_in : goal.returns-in-Ok-spec_in
returns-in-Ok-spec_in c =
    example_found c.args.stages c.items.result.now (c.items.ensures.items ∙ c.in-Ok.ensures.spec) (settings_of c.in-Ok-spec_in.spec) c.items-in-Ok-spec_in.result.now
    c.loaded_with.result (c.items-in-Ok-spec_in.ensures.items ∙ c.in-Ok.ensures.source) c.in-Ok-spec_in.ensures c.loaded_with.ensures

pub returns-in-Ok : goal.returns-in-Ok
returns-in-Ok c =
    example_refused c.args.stages c.items.result.now (c.items.ensures.items ∙ c.in-Ok.ensures.spec) c.in-Err-spec_in.fault c.in-Err-spec_in.ensures
