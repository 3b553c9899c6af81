-- The reading of a function with a block.
use Rattle.std.specs.Prelude.{ℕ, ◌+◌, ◌-◌, false, if◌then◌else◌, List, [], ◌∷◌, length, Option, Some, None, is_some}
use Rattle.wm_lang.specs.declared.expression.Expr.{Expr}
use Rattle.wm_lang.specs.declared.expression.Identifier.{Identifier}
use Rattle.wm_lang.specs.declared.place.Position.{Position}
use Rattle.wm_lang.specs.declared.statement.Block.{Block}
use Rattle.wm_lang.specs.declared.statement.Statement.{Statement}
use Rattle.wm_lang.specs.declared.unit.Function.{Function}
use Rattle.wm_lang.specs.declared.unit.Parameter.{Parameter}
use Rattle.wm_lang.specs.declared.unit.ParameterKind.{ParameterKind}
use Rattle.wm_lang.specs.declared.unit.ParameterKind.TheVariants as kinds
use Rattle.wm_ops.specs.declared.operators.Width.{Width}
use Rattle.wm_program.specs.declared.program.FunctionInfo.{FunctionInfo}
use Rattle.wm_program.specs.declared.tree.Array.TheVariants as array
use Rattle.wm_program.specs.declared.tree.Scalar.TheVariants as scalar
use Rattle.wm_program.specs.declared.tree.Statement.{Statement as Tree}
use Rattle.wm_scope.specs.declared.fault.TokenFault.TheVariants.{MissingReturn}
use Rattle.wm_scope.specs.declared.meaning.Meaning.{Meaning}
use Rattle.wm_scope.specs.declared.meaning.Meaning.TheVariants as meaning
use Rattle.wm_scope.specs.declared.scope.Scope.{Scope}
use Rattle.wm_scope.specs.declared.scope.Slot.{Slot}
use Rattle.wm_source.specs.Endings.{end_so}
use Rattle.wm_source.specs.Pieces.{Pieces, written_items}
use Rattle.wm_marks.specs.declared.marks.Marks.{Marks}
use Rattle.wm_marks.specs.Marking.{Step, Marking, ◌>>=◌, ◌>>◌, pure, noted, begun}
use Rattle.wm_body.specs.declared.work.Work.{Work}
use Rattle.wm_body.specs.Lengths.{array_length}
use Rattle.wm_body.specs.Statements.{pieces_in}
use Rattle.wm_body.specs.Works.{within, change, checked, declare, make_local}
use Rattle.wm_reading.specs.Finishing.{locals}
use Rattle.wm_reading.specs.Outlines.{maybe_width, slot_of}

abbrev pub length_in_brackets : Option Expr → Position → Scope → Marking (Unit {0})
length_in_brackets None at scope = pure tt
length_in_brackets (Some expression) at scope = array_length scope (Some expression) 0 at >>= λ dropped. pure tt

-- the brackets of a parameter are looked at; the length of a view is not kept
unfoldable pub brackets : ParameterKind → Position → Scope → Marking (Unit {0})
brackets (kinds.Scalar base) at scope = pure tt
brackets (kinds.Array element bracket length) at scope = length_in_brackets length at scope
brackets (kinds.Pointer base) at scope = pure tt
brackets (kinds.Struct structure) at scope = pure tt

abbrev pub parameter_meaning : Slot → ℕ → ℕ → Meaning
parameter_meaning slot local number =
    if slot.is_view
    then meaning.Array (array.View local number) slot.width slot.is_const
    else meaning.Scalar (scalar.Local local) slot.width slot.is_const

abbrev pub views_after : Slot → ℕ → ℕ
views_after slot views = if slot.is_view then views + 1 else views

abbrev pub parameter_by : ℕ → Parameter → Option Identifier → Step Work ℕ
parameter_by views it None = pure views
parameter_by views it (Some name) =
    within (brackets it.kind name.at) >> (change (checked name) >> (make_local name (slot_of it).width None (slot_of it).is_view >>= λ local.
    declare name (parameter_meaning (slot_of it) local views) >> pure (views_after (slot_of it) views)))

-- a parameter behind so many view parameters, and how many there are then
unfoldable pub parameter : ℕ → Parameter → Step Work ℕ
parameter views it = parameter_by views it it.name

abbrev pub parameters : ℕ → List Parameter → Step Work ℕ
parameters views [] = pure views
parameters views (it ∷ rest) = parameter views it >>= λ after. parameters after rest

abbrev pub begun_scope : List ℕ → Scope → Scope
begun_scope offsets scope = record scope { offsets = offsets; locals = []; outer = 0 }

abbrev pub begun_work : ℕ → List ℕ → Function → Work → Work
begun_work number offsets it w =
    record w {
      scope = begun_scope offsets w.scope;
      marks = begun w.marks;
      locals = [];
      function = number;
      name = it.name.name;
      result = maybe_width it.result;
    }

unfoldable pub begin : ℕ → List ℕ → Function → Step Work (Unit {0})
begin number offsets it = λ w. (tt, begun_work number offsets it w)

-- a function with a result is to end in a return
unfoldable pub ended : Position → Option Width → Pieces → Marks → Marks
ended at width items m = if is_some width then (if end_so false items then m else noted MissingReturn at m) else m

abbrev pub token_count : Position → Position → ℕ
token_count first last = (last.token - first.token) + 1

abbrev pub no_locals : Scope → Scope
no_locals scope = record scope { locals = []; outer = 0 }

abbrev pub ended_work : Function → Block Statement → Work → Work
ended_work it block w =
    record w {
      scope = no_locals w.scope;
      marks = ended it.name.at (maybe_width it.result) (written_items block.items) w.marks;
    }

unfoldable pub finish : ℕ → List Tree → Function → Block Statement → Step Work FunctionInfo
finish count statements it block =
    λ w. (
      record {
        name = it.name.name;
        result = maybe_width it.result;
        locals = locals w.marks.locals [] w.locals;
        parameters = count;
        body = record { statements = statements };
        tokens = token_count block.first block.last;
      },
      ended_work it block w,
    )

abbrev pub local_count : Step Work ℕ
local_count = λ w. (length w.locals, w)

unfoldable pub function : ℕ → List ℕ → Function → Block Statement → Step Work FunctionInfo
function number offsets it block =
    begin number offsets it >> (parameters 0 it.parameters >>= λ views. local_count >>= λ count.
    pieces_in 0 [] (written_items block.items) >>= λ statements. finish count statements it block)
