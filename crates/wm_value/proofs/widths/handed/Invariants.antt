-- The arguments that are left go on from what was found.
use Rattle.std.proofs.Common.{◌≡◌, drop, []}
use Rattle.wm_source.specs.Written.{written_sources}
use Rattle.wm_value.specs.Widths.{handed_in}
use Rattle.wm_value.proofs.widths.handed.Given as goal

abbrev pub invariant-loop-place : goal.invariant-loop-place
invariant-loop-place l =
    handed_in l.scope l.slots l.place l.found (written_sources (drop l.place l.arguments)) ≡ handed_in l.scope l.slots 0 [] (written_sources l.arguments)
