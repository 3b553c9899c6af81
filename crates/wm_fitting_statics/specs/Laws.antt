-- The laws.
use Rattle.std.specs.Prelude.{◌≡◌, ℕ, List, length}
use Rattle.wm_lang.specs.declared.statement.Block.{Block}
use Rattle.wm_lang.specs.declared.statement.Statement.{Statement}
use Rattle.wm_lang.specs.declared.unit.Function.{Function}
use Rattle.wm_program.specs.declared.tree.Statement.{Statement as Made}
use Rattle.wm_source.specs.Pieces.{Pieces, written_items}
use Rattle.wm_body.specs.declared.work.Work.{Work}
use Rattle.wm_body.specs.Statements.{pieces_in}
use Rattle.wm_reading.specs.Functions.{function}
use Rattle.wm_reading.specs.Statics.{statics_of}

-- what stands in a block makes as many objects as were counted
abbrev pub BlocksCount : Type 0
BlocksCount = (depth : ℕ) (found : List Made) (pieces : Pieces) (v : Work) → length (pieces_in depth found pieces v).1.objects ≡ statics_of pieces (length v.objects)

-- so does a function
abbrev pub FunctionsCount : Type 0
FunctionsCount =
    (number : ℕ) (offsets : List ℕ) (it : Function) (block : Block Statement) (v : Work)
    → length (function number offsets it block v).1.objects ≡ statics_of (written_items block.items) (length v.objects)
