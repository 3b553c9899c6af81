-- How many objects statements and functions make.
use Rattle.std.proofs.Common.{◌≡◌, ℕ, ◌+◌, Bool, true, false, cond, List, [], ◌∷◌, ◌++◌, length, refl, ap, ◌∙◌, arith}
use Rattle.wm_lang.specs.declared.statement.Block.{Block as BlockNode}
use Rattle.wm_lang.specs.declared.statement.Declaration.{Declaration}
use Rattle.wm_lang.specs.declared.statement.Declarator.{Declarator}
use Rattle.wm_lang.specs.declared.statement.Statement.{Statement}
use Rattle.wm_lang.specs.declared.unit.Function.{Function}
use Rattle.wm_ops.specs.declared.operators.Width.{Width}
use Rattle.wm_program.specs.declared.program.ObjectInfo.{ObjectInfo}
use Rattle.wm_program.specs.declared.tree.Declared.{Declared}
use Rattle.wm_program.specs.declared.tree.Statement.{Statement as Made}
use Rattle.wm_source.specs.Constants.{width_of}
use Rattle.wm_source.specs.Pieces.{Piece, Block, Empty, Act, If, IfElse, For, While, Do, Break, Continue, Return, Pieces, Done, Declare, Then, written_items}
use Rattle.wm_source.specs.Steps.{step_of}
use Rattle.wm_value.specs.Needs.{condition_in}
use Rattle.wm_body.specs.declared.work.Work.{Work}
use Rattle.wm_body.specs.Declarations.{declared as declared_by, kept, all_declared, declaration}
use Rattle.wm_body.specs.Simples.{all_simple}
use Rattle.wm_body.specs.Statements.{tested, statement_in, pieces_in}
use Rattle.wm_body.specs.Works.{within, make_loop, deeper, entered}
use Rattle.wm_reading.specs.Functions.{parameters, begun_work, begin, finish, function}
use Rattle.wm_reading.specs.Statics.{grown, declared, statics_in, statics_of}
use Rattle.wm_fitting_statics.proofs.Keeping.{loop_keeps, leap_keeps, enter_keeps, quit_keeps, automatic_keeps, static_counts, parameters_keep}

-- ---- declarations

static_count : (width : Width) (is_const : Bool) (it : Declarator) (v : Work) → length (declared_by true width is_const it v).1.objects ≡ length v.objects + 1
unfolding declared_by
static_count width is_const it v = static_counts width is_const it v

automatic_count : (width : Width) (is_const : Bool) (it : Declarator) (v : Work) → length (declared_by false width is_const it v).1.objects ≡ length v.objects
unfolding declared_by
automatic_count width is_const it v = ap length (automatic_keeps width is_const it v)

static_all : (width : Width) (is_const : Bool) (found : List Declared) (its : List Declarator) (v : Work) → length (all_declared true width is_const found its v).1.objects ≡ length v.objects + length its
static_all width is_const found [] v = omega arith
static_all width is_const found (it ∷ rest) v =
    let x = declared_by true width is_const it v in
    omega (arith, static_all width is_const (kept found x.0) rest x.1, static_count width is_const it v)

automatic_all : (width : Width) (is_const : Bool) (found : List Declared) (its : List Declarator) (v : Work) → length (all_declared false width is_const found its v).1.objects ≡ length v.objects
automatic_all width is_const found [] v = refl
automatic_all width is_const found (it ∷ rest) v =
    let x = declared_by false width is_const it v in
    automatic_all width is_const (kept found x.0) rest x.1 ∙ automatic_count width is_const it v

by_storage : (is_static : Bool) (width : Width) (is_const : Bool) (its : List Declarator) (v : Work) → length (all_declared is_static width is_const [] its v).1.objects ≡ cond is_static (grown (length its) (length v.objects)) (length v.objects)
by_storage true width is_const its v = static_all width is_const [] its v
by_storage false width is_const its v = automatic_all width is_const [] its v

declaration_count : (it : Declaration) (v : Work) → length (declaration it v).1.objects ≡ declared it (length v.objects)
unfolding declaration
declaration_count it v = by_storage it.words.is_static (width_of it.base) it.words.is_const it.declarators v

-- ---- statements

mutual
  statement_count : (depth : ℕ) (piece : Piece) (v : Work) → length (statement_in depth piece v).1.objects ≡ statics_in piece (length v.objects)
  statement_count depth (Block first pieces last) v =
      let r = pieces_in depth [] pieces (entered v) in
      ap length (quit_keeps v.scope.outer r.1)
      ∙ (blocks_count depth [] pieces (entered v) ∙ ap (λ (xs : List ObjectInfo). statics_of pieces (length xs)) (enter_keeps v))
  statement_count depth Empty v = refl
  statement_count depth (Act act) v = refl
  statement_count depth (If word condition body) v = statement_count depth body (within (λ scope. condition_in scope condition) v).1
  statement_count depth (IfElse word condition body other otherwise) v =
      let test = (within (λ scope. condition_in scope condition) v).1 in
      statement_count depth otherwise (statement_in depth body test).1 ∙ ap (statics_in otherwise) (statement_count depth body test)
  statement_count depth (For word begin condition step body) v =
      let number = make_loop word.at (step_of step) depth v in
      let first = within (λ scope. all_simple scope [] begin) number.1 in
      let test = within (tested condition) first.1 in
      let last = within (λ scope. all_simple scope [] step) test.1 in
      statement_count (deeper depth) body last.1
      ∙ ap (λ (xs : List ObjectInfo). statics_in body (length xs)) (loop_keeps word.at (step_of step) depth v)
  statement_count depth (While word condition body) v =
      let number = make_loop word.at 1 depth v in
      let test = within (λ scope. condition_in scope condition) number.1 in
      statement_count (deeper depth) body test.1 ∙ ap (λ (xs : List ObjectInfo). statics_in body (length xs)) (loop_keeps word.at 1 depth v)
  statement_count depth (Do word body tail condition) v =
      let number = make_loop word.at 1 depth v in
      statement_count (deeper depth) body number.1 ∙ ap (λ (xs : List ObjectInfo). statics_in body (length xs)) (loop_keeps word.at 1 depth v)
  statement_count depth (Break word) v = ap length (leap_keeps word.at depth v)
  statement_count depth (Continue word) v = ap length (leap_keeps word.at depth v)
  statement_count depth (Return at value) v = refl

  pub blocks_count : (depth : ℕ) (found : List Made) (pieces : Pieces) (v : Work) → length (pieces_in depth found pieces v).1.objects ≡ statics_of pieces (length v.objects)
  blocks_count depth found Done v = refl
  blocks_count depth found (Declare it rest) v =
      let x = declaration it v in
      blocks_count depth (found ++ x.0 ∷ []) rest x.1 ∙ ap (statics_of rest) (declaration_count it v)
  blocks_count depth found (Then piece rest) v =
      let x = statement_in depth piece v in
      blocks_count depth (found ++ x.0 ∷ []) rest x.1 ∙ ap (statics_of rest) (statement_count depth piece v)

-- ---- functions

pub functions_count : (number : ℕ) (offsets : List ℕ) (it : Function) (block : BlockNode Statement) (v : Work)
    → length (function number offsets it block v).1.objects ≡ statics_of (written_items block.items) (length v.objects)
unfolding function begin finish
functions_count number offsets it block v =
    let w = begun_work number offsets it v in
    let p = parameters 0 it.parameters w in
    blocks_count 0 [] (written_items block.items) p.1
    ∙ ap (λ (xs : List ObjectInfo). statics_of (written_items block.items) (length xs)) (parameters_keep 0 it.parameters w)
