-- What a specification says, as plain data.
use Rattle.std.specs.Prelude.{ℕ, ℤ, List, map, Option}
use Rattle.wm_program.specs.declared.spec.RangeOf.{RangeOf}
use Rattle.wm_program.specs.declared.spec.Spec.{Spec}

-- the range of an input: its name, and its least and greatest number
pub record Range : Type 0 where
  pub name : List ℕ
  pub low : ℤ
  pub high : ℤ

pub record Settings : Type 0 where
  pub sources : List (List ℕ)
  pub weights : Option (List ℕ)
  pub certificate : Option (List ℕ)
  pub init : Option (List ℕ)
  pub frames : List (List ℕ)
  pub frame_us : Option ℕ
  pub pack : Option (List (List ℕ))
  pub steps : ℕ
  pub ranges : List Range

abbrev pub range_of : RangeOf → Range
range_of given = record { name = given.name; low = given.range.low; high = given.range.high }

abbrev pub settings_of : Spec → Settings
settings_of spec =
    record {
      sources = spec.sources;
      weights = spec.weights;
      certificate = spec.certificate;
      init = spec.init;
      frames = spec.frames;
      frame_us = spec.frame_us;
      pack = spec.pack;
      steps = spec.steps;
      ranges = map range_of spec.ranges;
    }
