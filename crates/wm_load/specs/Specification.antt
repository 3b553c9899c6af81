-- A specification of what it says: it is the one that said it.
use Rattle.std.specs.Prelude.{ℤ, pos, ◌≤ℤ◌, Bool, true, false, T, List, map}
use Rattle.std.specs.Int.Signed.{le_z, le_z_yes}
use Rattle.wm_interval.specs.declared.Interval.{Interval}
use Rattle.wm_program.specs.declared.spec.RangeOf.{RangeOf}
use Rattle.wm_program.specs.declared.spec.Spec.{Spec}
use Rattle.wm_program.specs.Settings.{Range, Settings}

-- the numbers from one to another, where these are in order, and else the number 0
abbrev pub interval_where : (low high : ℤ) (ordered : Bool) → (T ordered → low ≤ℤ high) → Interval
interval_where low high true holds = record { low = low; high = high; ordered = holds tt }
interval_where low high false holds = record { low = pos 0; high = pos 0; ordered = le_z_yes tt }

abbrev pub interval_of : ℤ → ℤ → Interval
interval_of low high = interval_where low high (le_z low high) le_z_yes

abbrev pub range_from : Range → RangeOf
range_from given = record { name = given.name; range = interval_of given.low given.high }

unfoldable pub spec_of : Settings → Spec
spec_of settings =
    record {
      sources = settings.sources;
      weights = settings.weights;
      certificate = settings.certificate;
      init = settings.init;
      frames = settings.frames;
      frame_us = settings.frame_us;
      pack = settings.pack;
      steps = settings.steps;
      ranges = map range_from settings.ranges;
    }
