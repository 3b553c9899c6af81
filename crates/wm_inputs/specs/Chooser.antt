-- The function that chooses between several frame functions, and the object by whose number it does.
use Rattle.std.specs.Prelude.{ℕ, ◌+◌, pos, true, false, List, [], ◌∷◌, map, codes, Some, None, slice_index_or}
use Rattle.wm_lang.specs.declared.place.Position.{Position}
use Rattle.wm_ops.specs.declared.operators.Width.TheVariants.{W16}
use Rattle.wm_program.specs.declared.program.FunctionInfo.{FunctionInfo}
use Rattle.wm_program.specs.declared.program.ObjectInfo.{ObjectInfo}
use Rattle.wm_program.specs.declared.tree.Comparison.TheVariants.{Equal}
use Rattle.wm_program.specs.declared.tree.Condition.{Condition}
use Rattle.wm_program.specs.declared.tree.Condition.TheVariants.{Compare}
use Rattle.wm_program.specs.declared.tree.Expr.TheVariants as expr
use Rattle.wm_program.specs.declared.tree.Scalar.TheVariants as scalar
use Rattle.wm_program.specs.declared.tree.Simple.TheVariants.{Evaluate}
use Rattle.wm_program.specs.declared.tree.Statement.{Statement}
use Rattle.wm_program.specs.declared.tree.Statement.TheVariants.{Empty, If, Simple}
use Rattle.wm_scope.specs.declared.reading.CallPlace.{CallPlace}
use Rattle.wm_calls.specs.Sizes.{plus, size_at}

-- the object `call`, an input of 16 bits
abbrev pub call_object : ObjectInfo
call_object =
    record {
      name = codes "call";
      width = W16;
      length = 1;
      scalar = true;
      constant = false;
      addressed = false;
      initial = [];
      input = true;
    }

-- `f();`
abbrev pub call_of : ℕ → ℕ → Statement
call_of function offset = Simple (Evaluate (expr.Call (record { function = function; offset = offset; arguments = [] })))

-- `call == k`
abbrev pub choice : ℕ → ℕ → Condition
choice object number = Compare (expr.Scalar (scalar.Object object)) Equal (expr.Constant (pos number))

abbrev pub either : Condition → Statement → Statement → Statement
either condition call other = If false condition call (Some (record { is_counted = false; body = other }))

-- `if (call == k) f(); else ..`, the last function behind the last else
abbrev pub chosen : ℕ → List ℕ → ℕ → ℕ → List ℕ → Statement
chosen object sizes number offset [] = Empty
chosen object sizes number offset (function ∷ []) = call_of function offset
chosen object sizes number offset (function ∷ next ∷ rest) =
    either (choice object number) (call_of function offset)
    (chosen object sizes (number + 1) (plus offset (size_at sizes function)) (next ∷ rest))

-- the function has no name and no tokens
abbrev pub chooser : ℕ → List ℕ → List ℕ → FunctionInfo
chooser object sizes frames =
    record {
      name = [];
      result = None;
      locals = [];
      parameters = 0;
      body = record { statements = chosen object sizes 1 1 frames ∷ [] };
      tokens = 0;
    }

-- ---- its calls, each at the called function's name at its definition

abbrev pub start : Position
start = record { token = 0; place = record { file = 0; line = 1; column = 1 } }

abbrev pub place_at : List Position → ℕ → Position
place_at definitions function = slice_index_or definitions function start

abbrev pub call_place : List Position → ℕ → CallPlace
call_place definitions function = record { function = function; at = place_at definitions function; views = [] }

unfoldable pub call_places : List Position → List ℕ → List CallPlace
call_places definitions frames = map (call_place definitions) frames
