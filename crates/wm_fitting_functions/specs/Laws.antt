-- The laws.
use Rattle.std.specs.Prelude.{ℕ, List}
use Rattle.wm_lang.specs.declared.statement.Statement.{Statement}
use Rattle.wm_lang.specs.declared.statement.Block.{Block}
use Rattle.wm_lang.specs.declared.unit.Function.{Function}
use Rattle.wm_program.specs.Code.{Code}
use Rattle.wm_body.specs.declared.work.Work.{Work}
use Rattle.wm_reading.specs.Functions.{function}
use Rattle.wm_fitting_functions.specs.Units.{IsPlainFunction, FunctionReads}

-- a function with a block
abbrev pub FunctionsFit : Type 0
FunctionsFit =
    (code : Code) (own number : ℕ) (offsets : List ℕ) (it : Function) (block : Block Statement) → IsPlainFunction it block → (v : Work)
    → FunctionReads code own number offsets it v (function number offsets it block v)
