-- What is added to a first argument, by the operator.
use Rattle.std.specs.Prelude.{◌≡◌, ◌⊎◌, List, Option, Some, None, pos}
use Rattle.std.specs.Int.{int_min, int_max}
use Rattle.wm_interval.specs.declared.Interval.{Interval}
use Rattle.wm_ops.specs.declared.operators.Op.{Op}
use Rattle.wm_ops.specs.declared.operators.Op.TheVariants.{LMult, LMult0}
use Rattle.wm_hull.specs.Ranges.{IsBox16, IsBox32}
use Rattle.wm_step.specs.Operating.{Change, Second, Product, FailsNowhere, FailsSomewhere, box_at, change_of}
use Rattle.wm_differing.specs.declared.changes.Summand.{Summand}
use Rattle.wm_differing.specs.declared.changes.Summand.TheVariants as summand

abbrev pub told : Summand → Change
told (summand.Second away) = Second away
told (summand.Doubled away) = Product LMult away
told (summand.Plain away) = Product LMult0 away

abbrev pub IsToldBy : Option Summand → Op → Type 0
IsToldBy None op = change_of op ≡ None
IsToldBy (Some what) op = change_of op ≡ Some (told what)

-- a second argument has 32 bits, and the factors of a product have 16
abbrev pub FactorsFit : Summand → List Interval → Type 0
FactorsFit (summand.Second away) boxes = IsBox32 (box_at boxes 1)
FactorsFit (summand.Doubled away) boxes = IsBox16 (box_at boxes 1) × IsBox16 (box_at boxes 2)
FactorsFit (summand.Plain away) boxes = IsBox16 (box_at boxes 1) × IsBox16 (box_at boxes 2)

-- joined with 0, where the operator fails somewhere in the boxes
abbrev pub Joins : Op → List Interval → Interval → Interval → Type 0
Joins op boxes added d =
    (FailsNowhere op boxes × (d.low ≡ added.low) × (d.high ≡ added.high))
    ⊎ (FailsSomewhere op boxes × (d.low ≡ int_min added.low (pos 0)) × (d.high ≡ int_max added.high (pos 0)))
