-- What a plan shows.
use Rattle.wm_program.specs.Code.{code_of}
use Rattle.wm_flow.specs.Places as places
use Rattle.wm_places.specs.declared.plan.Plan.{Plan}

unfoldable pub plan_of : Plan → places.Plan
plan_of plan =
    record {
      code = code_of plan.program.now;
      tables = plan.tables.now;
      sums = plan.sums.now;
      sizes = plan.sizes.now;
    }
