-- What the machine's own types show.
use Rattle.std.specs.Prelude.{ℕ, ℤ, replicate, Vec, List, [], ◌∷◌, Option, Some, None}
use Rattle.wm_ops.specs.declared.words.Counted.{Counted}
use Rattle.wm_program.specs.declared.program.LocalInfo.{LocalInfo}
use Rattle.wm_program.specs.Code.{code_of, cells_in}
use Rattle.wm_program.specs.State.{Here}
use Rattle.wm_weights.specs.Table.{weight_of}
use Rattle.std.specs.declared.alloc.Global.{Global}
use Rattle.wm_program.specs.declared.tree.Call.{Call}
use Rattle.wm_program.specs.declared.tree.Expr.{Expr}
use Rattle.wm_program.specs.Execution.{there}
use Rattle.wm_interp.specs.Parts.{passed_in}
use Rattle.wm_interp.specs.Held.{Held, Gets, then_on}
use Rattle.wm_interp.specs.Going.{Setting, gather_on}
use Rattle.wm_interp.specs.Doing.{call_on}
use Rattle.wm_interp.specs.declared.scene.Scene.{Scene}
use Rattle.wm_interp.specs.declared.operations.Operands.{Operands}
use Rattle.wm_interp.specs.declared.memory.Memory.{Memory}

abbrev pub held_of : Memory → Held
held_of memory =
    record {
      state =
          record {
            objects = memory.objects;
            locals = memory.locals.items;
            overflow = memory.overflow;
            fill = memory.fill;
            steps = memory.steps;
            log = [];
          };
      count = memory.count;
      events = memory.events.items;
    }

abbrev pub here_of : Scene → Here
here_of scene = record { instance = scene.instance; roots = scene.roots.now }

unfoldable pub setting_of : Scene → Setting
setting_of scene =
    record {
      code = code_of scene.program.now;
      weights = weight_of scene.weights.now;
      calls = call_on (code_of scene.program.now) (weight_of scene.weights.now) scene.levels;
      here = here_of scene;
    }

abbrev pub numbers_in : Operands → List ℤ
numbers_in with = with.a ∷ with.b ∷ with.c ∷ []

-- the cells of a local as a call begins
abbrev pub first_cells : LocalInfo → Option ℤ → List (Option ℤ)
first_cells local None = replicate (cells_in local) None
first_cells local (Some z) = Some z ∷ []

abbrev pub vec_items : Vec ℤ Global → List ℤ
vec_items numbers = numbers.items

-- the call of a function, as it stands in an expression
abbrev pub call_meant : Setting → Call Expr → Held → Gets ℤ
call_meant at call q =
    then_on (gather_on at (passed_in call.arguments) [] q) (at.calls call.function (there at.here call.offset (passed_in call.arguments)))

-- a function, in the instance of a scene
abbrev pub invoked : Scene → ℕ → List ℤ → Held → Gets ℤ
invoked scene function = call_on (code_of scene.program.now) (weight_of scene.weights.now) scene.levels function (here_of scene)
