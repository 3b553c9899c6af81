-- One way through a unit.
use Rattle.std.proofs.Common.{◌≡◌, ℕ, ◌≤◌, Bool, true, false, List, [], ◌∷◌, length, Option, Some, None, refl, sym, ap, subst, ◌∙◌, length-append, arith}
use Rattle.std.proofs.lemmas.List.Elements.{All-head, All-tail}
use Rattle.std.specs.List.{All}
use Rattle.std.specs.Prelude.{slice_get}
use Rattle.wm_lang.specs.declared.statement.Block.{Block}
use Rattle.wm_lang.specs.declared.statement.Declarator.{Declarator}
use Rattle.wm_lang.specs.declared.statement.Statement.{Statement}
use Rattle.wm_lang.specs.declared.unit.Function.{Function}
use Rattle.wm_lang.specs.declared.unit.Item.{Item}
use Rattle.wm_lang.specs.declared.unit.Item.TheVariants as forms
use Rattle.wm_ops.specs.declared.operators.Width.{Width}
use Rattle.wm_program.specs.declared.program.FunctionInfo.{FunctionInfo}
use Rattle.wm_program.specs.Code.{Code, routine_of}
use Rattle.wm_program.specs.WellFormed.{RoutineFits}
use Rattle.wm_scope.specs.declared.reading.CallPlace.{CallPlace}
use Rattle.wm_scope.specs.declared.scope.Scope.{Scope}
use Rattle.wm_source.specs.Constants.{width_of}
use Rattle.wm_body.specs.declared.work.Work.{Work}
use Rattle.wm_reading.specs.declared.unit.Pass.{Pass}
use Rattle.wm_reading.specs.Functions.{begun_scope, function as function_in}
use Rattle.wm_reading.specs.Outlines.{makes}
use Rattle.wm_reading.specs.Reading as pass
use Rattle.wm_fitting.specs.Fitting.{ScopeFits}
use Rattle.wm_fitting.proofs.Collecting.{get_front, get_seam}
use Rattle.wm_fitting_declarations.specs.Works.{LoopFits}
use Rattle.wm_fitting_declarations.specs.PlainDeclarations.{IsPlainDeclarator}
use Rattle.wm_fitting_functions.specs.Units.{UnitStands, UnitGrows, UnitFits, FileFits, AreOffsets}
use Rattle.wm_fitting_functions.proofs.Functions.{functions_fit}
use Rattle.wm_fitting_units.specs.Passes.{IsPlainBody, IsPlainItem}
use Rattle.wm_fitting_units.proofs.FileObjects.{FileReads, file_none, file_then, object_read}
use Rattle.wm_fitting_units.proofs.Lists.{push_get}

-- ---- what grows

pub record PassGrows (p q : Pass) : Type 0 where
  pub work : UnitGrows p.work q.work
  pub functions : (k : ℕ) (info : FunctionInfo) → slice_get p.functions k ≡ Some info → slice_get q.functions k ≡ Some info
  pub function_count : length p.functions ≤ length q.functions
  pub calls : (k : ℕ) (places : List CallPlace) → slice_get p.calls k ≡ Some places → slice_get q.calls k ≡ Some places

-- what was made so far stands in the program
pub record PassStands (code : Code) (own : ℕ) (offsets : List (List ℕ)) (p : Pass) : Type 0 where
  pub work : UnitStands code own p.work
  pub count : length p.functions ≤ length code.routines
  pub calls : (k : ℕ) (places : List CallPlace) → slice_get p.calls k ≡ Some places → AreOffsets (pass.offsets_at k offsets) (length places)

-- and is well formed
pub record PassFits (code : Code) (p : Pass) : Type 0 where
  pub work : UnitFits code p.work
  pub functions : (k : ℕ) (info : FunctionInfo) → slice_get p.functions k ≡ Some info → RoutineFits code k (routine_of info)
  pub same : length p.calls ≡ length p.functions

pub record PassReads (code : Code) (own : ℕ) (offsets : List (List ℕ)) (p q : Pass) : Type 0 where
  pub grows : PassGrows p q
  pub fits : q.work.marks.least ≡ None → PassStands code own offsets q → FileFits code own p.work.scope → PassFits code p → PassFits code q

unit_stays : (v : Work) → UnitGrows v v
unit_stays v = record {
  sites = λ k it e. e;
  loops = λ k it e. e;
  addresses = λ k e. e;
  objects = λ k it e. e;
  object_count = omega arith;
  least = λ e. e;
  file = refl;
  signatures = refl;
}

unit_then : {u v w : Work} → UnitGrows u v → UnitGrows v w → UnitGrows u w
unit_then h k = record {
  sites = λ i it e. k.sites i it (h.sites i it e);
  loops = λ i it e. k.loops i it (h.loops i it e);
  addresses = λ i e. k.addresses i (h.addresses i e);
  objects = λ i it e. k.objects i it (h.objects i it e);
  object_count = omega (arith, h.object_count, k.object_count);
  least = λ e. h.least (k.least e);
  file = k.file ∙ h.file;
  signatures = k.signatures ∙ h.signatures;
}

unit_back : {code : Code} {own : ℕ} {v w : Work} → UnitGrows v w → UnitStands code own w → UnitStands code own v
unit_back h t = record {
  sites = λ i it e. t.sites i it (h.sites i it e);
  loops = λ i it e. t.loops i it (h.loops i it e);
  addresses = λ i e. t.addresses i (h.addresses i e);
  objects = λ i it e. t.objects i it (h.objects i it e);
  count = omega (arith, h.object_count, t.count);
}

pass_back : {code : Code} {own : ℕ} {offsets : List (List ℕ)} {p q : Pass} → PassGrows p q → PassStands code own offsets q → PassStands code own offsets p
pass_back h t = record {
  work = unit_back h.work t.work;
  count = omega (arith, h.function_count, t.count);
  calls = λ k places e. t.calls k places (h.calls k places e);
}

-- names are looked for in those of the file alone
file_moves : (code : Code) (own : ℕ) (s t : Scope) → t.file ≡ s.file → t.signatures ≡ s.signatures → FileFits code own s → FileFits code own t
file_moves code own s t f g h routine offsets = subst (λ x. ScopeFits (record { code = code; routine = routine; scope = x; own = own })) (sym alike) (h routine offsets)
  where
    alike : begun_scope offsets t ≡ begun_scope offsets s
    alike = ap (λ names. record (begun_scope offsets t) { file = names }) f ∙ ap (λ signs. record (begun_scope offsets s) { signatures = signs }) g

pass_none : {code : Code} {own : ℕ} {offsets : List (List ℕ)} (p : Pass) → PassReads code own offsets p p
pass_none p = record {
  grows = record { work = unit_stays p.work; functions = λ k info e. e; function_count = omega arith; calls = λ k places e. e };
  fits = λ l t f a. a;
}

pass_then : {code : Code} {own : ℕ} {offsets : List (List ℕ)} {p q r : Pass} → PassReads code own offsets p q → PassReads code own offsets q r → PassReads code own offsets p r
pass_then {code = code} {own = own} {p = p} {q = q} h k = record {
  grows = record {
    work = unit_then (h.grows).work (k.grows).work;
    functions = λ i info e. (k.grows).functions i info ((h.grows).functions i info e);
    function_count = omega (arith, (h.grows).function_count, (k.grows).function_count);
    calls = λ i places e. (k.grows).calls i places ((h.grows).calls i places e);
  };
  fits = λ l t f a.
      let lq = ((k.grows).work).least l in
      let g = (h.grows).work in
      k.fits l t (file_moves code own p.work.scope q.work.scope g.file g.signatures f) (h.fits lq (pass_back k.grows t) f a);
}

-- ---- objects

where_read : (b : Bool) (width : Width) (is_const : Bool) (it : Declarator) → IsPlainDeclarator it → (v : Work) → FileReads v (pass.declared_where b width is_const it v).1
where_read true width is_const it q v = object_read width is_const it q v
where_read false width is_const it q v = file_none v

all_read : (is_extern : Bool) (width : Width) (is_const : Bool) (its : List Declarator) → All IsPlainDeclarator its → (v : Work) → FileReads v (pass.all_declared is_extern width is_const its v).1
unfolding pass.declared
all_read is_extern width is_const [] q v = file_none v
all_read is_extern width is_const (it ∷ rest) q v =
    file_then (where_read (makes is_extern it) width is_const it (All-head IsPlainDeclarator it rest q) v)
    (all_read is_extern width is_const rest (All-tail IsPlainDeclarator it rest q) (pass.declared_where (makes is_extern it) width is_const it v).1)

objects_read : {code : Code} {own : ℕ} {offsets : List (List ℕ)} (p : Pass) (w : Work) → FileReads p.work w → PassReads code own offsets p (record p { work = w })
objects_read {code = code} p w h =
    let g = h.grows in
    record {
      grows = record {
        work = record {
          sites = g.sites;
          loops = g.loops;
          addresses = g.object_addresses;
          objects = g.objects;
          object_count = g.object_count;
          least = g.least;
          file = ap (λ (s : Scope). s.file) h.scope;
          signatures = ap (λ (s : Scope). s.signatures) h.scope;
        };
        functions = λ k info e. e;
        function_count = omega arith;
        calls = λ k places e. e;
      };
      fits = λ l t f a. record {
        work = record { objects = h.fits l (a.work).objects; loops = subst (λ xs. All (LoopFits code) xs) (sym h.loops) (a.work).loops };
        functions = a.functions;
        same = a.same;
      };
    }

-- ---- functions

function_read : {code : Code} {own : ℕ} (offsets : List (List ℕ)) (it : Function) (body : Option (Block Statement)) → IsPlainBody it body → (p : Pass) → PassReads code own offsets p (pass.function_by offsets it body p).1
function_read offsets it None q p = pass_none p
function_read {code = code} {own = own} offsets it (Some block) q p =
    let n = length p.functions in
    let its = pass.offsets_at n offsets in
    let r = function_in n its it block p.work in
    let f = functions_fit code own n its it block q p.work in
    let g = f.grows in
    let longer = length-append p.functions (r.0 ∷ []) in
    let calls = (r.1).marks.calls in
    record {
      grows = record {
        work = record {
          sites = g.sites;
          loops = g.loops;
          addresses = g.addresses;
          objects = g.objects;
          object_count = g.object_count;
          least = g.least;
          file = g.file;
          signatures = g.signatures;
        };
        functions = λ k info e. get_front p.functions (r.0 ∷ []) k info e;
        function_count = omega (arith, longer);
        calls = λ k places e. get_front p.calls (calls ∷ []) k places e;
      };
      fits = λ l t files a.
          let s = t.work in
          let stands : UnitStands code own r.1 = record { sites = s.sites; loops = s.loops; addresses = s.addresses; objects = s.objects; count = s.count } in
          let own_offsets : AreOffsets its (length calls) = subst (λ k. AreOffsets (pass.offsets_at k offsets) (length calls)) a.same (t.calls (length p.calls) calls (get_seam p.calls calls [])) in
          let w = f.fits l stands own_offsets files (omega (arith, longer, t.count)) a.work in
          record {
            work = record { objects = (w.1).objects; loops = (w.1).loops };
            functions = push_get (λ k info. RoutineFits code k (routine_of info)) p.functions r.0 a.functions w.0;
            same = omega (arith, length-append p.calls (calls ∷ []), longer, a.same);
          };
    }

-- ---- items

item_read : {code : Code} {own : ℕ} (offsets : List (List ℕ)) (it : Item) → IsPlainItem it → (p : Pass) → PassReads code own offsets p (pass.item offsets it p).1
unfolding pass.item pass.declaration pass.function
item_read offsets (forms.Objects it) q p =
    objects_read p (pass.all_declared it.words.is_extern (width_of it.base) it.words.is_const it.declarators p.work).1
    (all_read it.words.is_extern (width_of it.base) it.words.is_const it.declarators q p.work)
item_read offsets (forms.Function it) q p = function_read offsets it it.body q p
item_read offsets (forms.Struct it) q p = pass_none p
item_read offsets (forms.StructObjects it) q p = pass_none p

pub items_read : {code : Code} {own : ℕ} (offsets : List (List ℕ)) (its : List Item) → All IsPlainItem its → (p : Pass) → PassReads code own offsets p (pass.items offsets its p).1
items_read offsets [] q p = pass_none p
items_read offsets (it ∷ rest) q p =
    pass_then (item_read offsets it (All-head IsPlainItem it rest q) p)
    (items_read offsets rest (All-tail IsPlainItem it rest q) (pass.item offsets it p).1)
