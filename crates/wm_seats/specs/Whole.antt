-- The tables of a program, from its declared type.
use Rattle.std.specs.Prelude.{ℕ, List, []}
use Rattle.wm_program.specs.declared.program.Program.{Program}
use Rattle.wm_flow.specs.declared.seats.LocalSeat.{LocalSeat}
use Rattle.wm_flow.specs.declared.seats.LocalCounts.{LocalCounts}
use Rattle.wm_flow.specs.declared.seats.Tables.{Tables}
use Rattle.wm_flow.specs.Seats.{counts_from, no_counts, seats_from, above_from, heads_from, heads_behind, ranks_from}
use Rattle.wm_seats.specs.Locals.{all_seats_in, all_counts_in, all_loops_in}

abbrev pub tables_with : Program → List (List LocalSeat) → List LocalCounts → (loops : List ℕ) → Tables
tables_with program locals local_counts loops =
    record {
      objects = seats_from no_counts program.objects;
      counts = counts_from no_counts program.objects;
      locals = locals;
      local_counts = local_counts;
      above = above_from (counts_from no_counts program.objects).arrays local_counts program.instances [] program.instances;
      first_heads = heads_from loops 1 program.instances;
      ranks = ranks_from 0 0 program.loops;
      heads = heads_behind loops 1 program.instances;
    }

unfoldable pub tables_in : Program → Tables
tables_in program =
    tables_with program (all_seats_in program.functions) (all_counts_in program.functions) (all_loops_in program.functions program.loops 0)
