-- What is seen of the files before and after a part of a call.
use Rattle.std.specs.Prelude.{ℕ, Option}
use Rattle.wm_files.specs.Outside.{Held}

pub record World : Type 0 where
  pub before : Option Held
  pub after : Option Held
  -- the count of their faults
  pub old : ℕ
  pub new : ℕ

abbrev pub world_of : Option Held → Option Held → ℕ → ℕ → World
world_of before after old new = record { before = before; after = after; old = old; new = new }
