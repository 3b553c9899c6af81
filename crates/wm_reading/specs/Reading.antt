-- One way through a unit.
use Rattle.std.specs.Prelude.{ℕ, Bool, true, false, List, [], ◌∷◌, ◌++◌, length, Option, Some, None, slice_get}
use Rattle.std.specs.Option.{option_map_or}
use Rattle.wm_lang.specs.declared.statement.Block.{Block}
use Rattle.wm_lang.specs.declared.statement.Declaration.{Declaration}
use Rattle.wm_lang.specs.declared.statement.Declarator.{Declarator}
use Rattle.wm_lang.specs.declared.statement.Statement.{Statement}
use Rattle.wm_lang.specs.declared.unit.Function.{Function}
use Rattle.wm_lang.specs.declared.unit.Item.{Item}
use Rattle.wm_lang.specs.declared.unit.Item.TheVariants as forms
use Rattle.wm_lang.specs.declared.unit.Unit.{Unit as Written}
use Rattle.wm_ops.specs.declared.operators.Width.{Width}
use Rattle.wm_program.specs.declared.program.FunctionInfo.{FunctionInfo}
use Rattle.wm_scope.specs.declared.reading.Reading.{Reading}
use Rattle.wm_source.specs.Constants.{width_of}
use Rattle.wm_marks.specs.Marking.{Step, ◌>>=◌, ◌>>◌, pure, nothing, without_calls}
use Rattle.wm_body.specs.declared.work.Work.{Work}
use Rattle.wm_body.specs.Declarations.{object}
use Rattle.wm_reading.specs.declared.outline.Outline.{Outline}
use Rattle.wm_reading.specs.declared.unit.Pass.{Pass}
use Rattle.wm_reading.specs.Finishing.{objects}
use Rattle.wm_reading.specs.Functions.{function as function_in}
use Rattle.wm_reading.specs.Outlines.{makes, items as outlined}

abbrev pub offsets_at : ℕ → List (List ℕ) → List ℕ
offsets_at number offsets = option_map_or (λ its. its) (slice_get offsets number) []

abbrev pub declared_where : Bool → Width → Bool → Declarator → Step Work (Unit {0})
declared_where true width is_const it = object width is_const it >>= λ number. pure tt
declared_where false width is_const it = pure tt

unfoldable pub declared : Bool → Width → Bool → Declarator → Step Work (Unit {0})
declared is_extern width is_const it = declared_where (makes is_extern it) width is_const it

abbrev pub all_declared : Bool → Width → Bool → List Declarator → Step Work (Unit {0})
all_declared is_extern width is_const [] = pure tt
all_declared is_extern width is_const (it ∷ rest) =
    declared is_extern width is_const it >> all_declared is_extern width is_const rest

unfoldable pub declaration : Declaration → Step Work (Unit {0})
declaration it = all_declared it.words.is_extern (width_of it.base) it.words.is_const it.declarators

abbrev pub without_its_calls : Work → Work
without_its_calls w = record w { marks = without_calls w.marks }

abbrev pub with_function : Pass → FunctionInfo × Work → Unit {0} × Pass
with_function p (info, w) =
    (tt, record { work = without_its_calls w; functions = p.functions ++ info ∷ []; calls = p.calls ++ w.marks.calls ∷ [] })

abbrev pub function_by : List (List ℕ) → Function → Option (Block Statement) → Step Pass (Unit {0})
function_by offsets it None = pure tt
function_by offsets it (Some block) =
    λ p. with_function p (function_in (length p.functions) (offsets_at (length p.functions) offsets) it block p.work)

unfoldable pub function : List (List ℕ) → Function → Step Pass (Unit {0})
function offsets it = function_by offsets it it.body

abbrev pub with_work : Pass → Unit {0} × Work → Unit {0} × Pass
with_work p (done, w) = (done, record p { work = w })

unfoldable pub item : List (List ℕ) → Item → Step Pass (Unit {0})
item offsets (forms.Objects it) = λ p. with_work p (declaration it p.work)
item offsets (forms.Function it) = function offsets it
item offsets (forms.Struct it) = pure tt
item offsets (forms.StructObjects it) = pure tt

abbrev pub items : List (List ℕ) → List Item → Step Pass (Unit {0})
items offsets [] = pure tt
items offsets (it ∷ rest) = item offsets it >> items offsets rest

abbrev pub start : Work
start =
    record {
      scope = record { file = []; signatures = []; offsets = []; locals = []; outer = 0 };
      marks = nothing;
      objects = [];
      locals = [];
      function = 0;
      name = [];
      result = None;
    }

unfoldable pub reading_of : Pass → Reading
reading_of p =
    record {
      functions = p.functions;
      objects = objects p.work.marks.objects [] p.work.objects;
      sites = p.work.marks.sites;
      loops = p.work.marks.loops;
      calls = p.calls;
      least = p.work.marks.least;
    }

abbrev pub second : Unit {0} × Outline → Outline
second (done, o) = o

abbrev pub last : Unit {0} × Pass → Pass
last (done, p) = p

-- the names of file scope, then the items in their order
unfoldable pub read_unit : Written → List (List ℕ) → Reading
read_unit unit offsets =
    reading_of (last (items offsets unit.items (record { work = (second (outlined unit.items (record { work = start; objects = 0 }))).work; functions = []; calls = [] })))
