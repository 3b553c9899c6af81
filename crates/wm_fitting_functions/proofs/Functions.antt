-- Functions with a block.
use Rattle.std.proofs.Common.{◌≡◌, ℕ, ◌<◌, ◌≤◌, Bool, true, false, cond, List, [], length, map, take, drop, Option, Some, None, refl, sym, ap, subst, ◌∙◌, arith}
use Rattle.std.proofs.lemmas.List.Elements.{All-nil}
use Rattle.std.specs.List.{All}
use Rattle.std.specs.Option.{option_map_or}
use Rattle.std.specs.Prelude.{IsSomeAnd, is_some, slice_get}
use Rattle.wm_lang.specs.declared.place.Position.{Position}
use Rattle.wm_lang.specs.declared.statement.Block.{Block}
use Rattle.wm_lang.specs.declared.statement.Statement.{Statement}
use Rattle.wm_lang.specs.declared.unit.Function.{Function}
use Rattle.wm_ops.specs.declared.operators.Width.{Width}
use Rattle.wm_program.specs.Code.{Code, Routine, routine_of}
use Rattle.wm_program.specs.Tree.{Tree}
use Rattle.wm_program.specs.WellFormed.{EndsInReturn, ends_in_return, slot_of_local}
use Rattle.wm_scope.specs.declared.fault.TokenFault.TheVariants.{MissingReturn}
use Rattle.wm_source.specs.Endings.{end_so}
use Rattle.wm_source.specs.Pieces.{Pieces, written_items}
use Rattle.wm_marks.specs.declared.marks.Marks.{Marks}
use Rattle.wm_marks.specs.Marking.{has, noted}
use Rattle.wm_body.specs.declared.work.Work.{Work}
use Rattle.wm_body.specs.Statements.{pieces_in}
use Rattle.wm_reading.specs.Finishing.{locals}
use Rattle.wm_reading.specs.Functions.{parameters, begun_work, begin, ended, finish, function}
use Rattle.wm_reading.specs.Outlines.{maybe_width}
use Rattle.wm_fitting.specs.Fitting.{Grows}
use Rattle.wm_fitting.proofs.Collecting.{grows_none, some_none}
use Rattle.wm_fitting_growth.proofs.Adding.{noted_grows}
use Rattle.wm_fitting_declarations.specs.Works.{Home, LikeLocal, LoopFits, WorkStands, Proceeds, Inside, Reads}
use Rattle.wm_fitting_declarations.proofs.Stepping.{stands_back}
use Rattle.wm_fitting_statements.proofs.Stating.{blocks_fit}
use Rattle.wm_fitting_functions.specs.Units.{UnitStands, UnitGrows, UnitFits, FileFits, AreOffsets, IsPlainFunction, FunctionReads}
use Rattle.wm_fitting_functions.proofs.Ending.{body_ends}
use Rattle.wm_fitting_functions.proofs.Finals.{addressed, finals_like, finals_length, finals_no_views, drop_itself}
use Rattle.wm_fitting_functions.proofs.Likeness.{slots_like}
use Rattle.wm_fitting_functions.proofs.Parameters.{slots_made, parameters_read}

-- ---- the end of a function

missing_grows : (b : Bool) (at : Position) (m : Marks) → Grows m (cond b m (noted MissingReturn at m))
missing_grows true at m = grows_none m
missing_grows false at m = noted_grows MissingReturn at m

ended_grows : (at : Position) (width : Option Width) (items : Pieces) (m : Marks) → Grows m (ended at width items m)
unfolding ended
ended_grows at None items m = grows_none m
ended_grows at (Some width) items m = missing_grows (end_so false items) at m

ends_by : (at : Position) (m : Marks) (b : Bool) → (cond b m (noted MissingReturn at m)).least ≡ None → b ≡ true
ends_by at m true l = refl
ends_by at m false l = absurd (some_none _ l)

ends_so_where : (at : Position) (width : Option Width) (items : Pieces) (m : Marks) (tree : Tree) → (ended at width items m).least ≡ None → (is_some width ≡ true → end_so false items ≡ true → ends_in_return tree ≡ true) → EndsInReturn width tree
unfolding ended
ends_so_where at None items m tree l f = tt
ends_so_where at (Some width) items m tree l f = f refl (ends_by at m (end_so false items) l)

-- ---- what stands behind the last statement

-- the home of the body, and that of the parameters before it
abbrev body_home : Code → ℕ → Routine → ℕ → Home
body_home code own routine number = record { own = own; code = code; routine = routine; function = number; least = routine.parameters; has_views = false }

abbrev head_home : Code → ℕ → Routine → ℕ → Home
head_home code own routine number = record { own = own; code = code; routine = routine; function = number; least = 0; has_views = true }

-- what stands in the program stands where the body ends
stood : (code : Code) (own number : ℕ) (routine : Routine) (e : Work) (m : Marks) (offsets : List ℕ)
    → routine.locals ≡ locals e.marks.locals [] e.locals → Grows e.marks m → e.scope.offsets ≡ offsets
    → ((w : Work) → w.marks ≡ m → w.objects ≡ e.objects → UnitStands code own w → AreOffsets offsets (length w.marks.calls) → WorkStands (body_home code own routine number) e)
stood code own number routine e m offsets r g o w wm wo t a = record {
  marks = record {
    sites = λ k it h. t.sites k it (subst (λ n. slice_get n.sites k ≡ Some it) (sym wm) (g.sites k it h));
    loops = λ k it h. t.loops k it (subst (λ n. slice_get n.loops k ≡ Some it) (sym wm) (subst (λ xs. slice_get xs k ≡ Some it) (sym g.loops) h));
    objects = λ k h. t.addresses k (subst (λ n. has k n.objects ≡ true) (sym wm) (g.objects k h));
    locals = λ k h it i. addressed e.marks.locals e.locals k h it (subst (λ xs. slice_get xs k ≡ Some it) r i);
    calls = λ k l.
        let few : k < length w.marks.calls = subst (λ n. k < length n.calls) (sym wm) (omega (arith, l, g.calls)) in
        subst (λ its. 0 < option_map_or (λ offset. offset) (slice_get its k) 0) (sym o) (a k few);
  };
  locals = λ k info h. subst (λ xs. IsSomeAnd (slice_get xs k) (LikeLocal info)) (sym r) (finals_like e.marks.locals e.locals k info h);
  objects = λ k info h. t.objects k info (subst (λ xs. slice_get xs k ≡ Some info) (sym wo) h);
  own = subst (λ xs. length xs ≤ own) wo t.count;
}

rehomed : (code : Code) (own number : ℕ) (routine : Routine) (w : Work) → WorkStands (body_home code own routine number) w → WorkStands (head_home code own routine number) w
rehomed code own number routine w t =
    let m = t.marks in
    record {
      marks = record { sites = m.sites; loops = m.loops; objects = m.objects; locals = m.locals; calls = m.calls };
      locals = t.locals;
      objects = t.objects;
      own = t.own;
    }

-- ---- functions

grown : (v w e : Work) (m : Marks) (r : Work) → Proceeds v w → Proceeds w e → Grows e.marks m → r.marks ≡ m → r.objects ≡ e.objects → r.scope.file ≡ e.scope.file → r.scope.signatures ≡ e.scope.signatures → UnitGrows v r
grown v w e m r h k g rm ro rf rs = record {
  sites = λ i it x. subst (λ n. slice_get n.sites i ≡ Some it) (sym rm) (g.sites i it (k.sites i it (h.sites i it x)));
  loops = λ i it x. subst (λ n. slice_get n.loops i ≡ Some it) (sym rm) (subst (λ xs. slice_get xs i ≡ Some it) (sym g.loops) (k.loops i it (h.loops i it x)));
  addresses = λ i x. subst (λ n. has i n.objects ≡ true) (sym rm) (g.objects i (k.object_addresses i (h.object_addresses i x)));
  objects = λ i it x. subst (λ xs. slice_get xs i ≡ Some it) (sym ro) (k.objects i it (h.objects i it x));
  object_count = subst (λ xs. length v.objects ≤ length xs) (sym ro) (omega (arith, h.object_count, k.object_count));
  least = λ l. h.least (k.least (g.least (subst (λ n. n.least ≡ None) rm l)));
  file = rf ∙ (ap (λ s. s.file) k.scope.same ∙ ap (λ s. s.file) h.scope.same);
  signatures = rs ∙ (ap (λ s. s.signatures) k.scope.same ∙ ap (λ s. s.signatures) h.scope.same);
}

begun_grows : (number : ℕ) (offsets : List ℕ) (it : Function) (v r : Work) → UnitGrows (begun_work number offsets it v) r → UnitGrows v r
begun_grows number offsets it v r g = record {
  sites = g.sites;
  loops = g.loops;
  addresses = g.addresses;
  objects = g.objects;
  object_count = g.object_count;
  least = g.least;
  file = g.file;
  signatures = g.signatures;
}

-- what holds where the parameters begin
begun_inside : (code : Code) (own number : ℕ) (offsets : List ℕ) (it : Function) (v : Work) (routine : Routine) → routine.result ≡ maybe_width it.result → FileFits code own v.scope → number < length code.routines → UnitFits code v
    → Inside (head_home code own routine number) (begun_work number offsets it v)
begun_inside code own number offsets it v routine e f n u = record {
  names = f routine offsets;
  behind = omega arith;
  no_views = λ h. cc;
  there = n;
  function = refl;
  result = sym e;
  objects = u.objects;
  loops = u.loops;
}

-- and where the body begins
body_inside : (code : Code) (own number : ℕ) (routine : Routine) (w : Work) → routine.parameters ≡ length w.locals → Inside (head_home code own routine number) w → Inside (body_home code own routine number) w
body_inside code own number routine w e i = record {
  names = i.names;
  behind = omega (arith, e);
  no_views = λ h. subst (λ n. All (λ it. it.view ≡ false) (drop n w.locals)) (sym e) (subst (λ xs. All (λ it. it.view ≡ false) xs) (sym (drop_itself w.locals)) (All-nil (λ it. it.view ≡ false)));
  there = i.there;
  function = i.function;
  result = i.result;
  objects = i.objects;
  loops = i.loops;
}

function_fits : (code : Code) (own number : ℕ) (offsets : List ℕ) (it : Function) (block : Block Statement) → IsPlainFunction it block → (v : Work)
    → FunctionReads code own number offsets it v (function number offsets it block v)
unfolding function begin finish
function_fits code own number offsets it block q v =
    let items = written_items block.items in
    let w0 = begun_work number offsets it v in
    let p = parameters 0 it.parameters w0 in
    let b = pieces_in 0 [] items p.1 in
    let e = b.1 in
    let r = finish (length p.1.locals) b.0 it block e in
    let R = routine_of r.0 in
    let m = ended it.name.at (maybe_width it.result) items e.marks in
    let g = ended_grows it.name.at (maybe_width it.result) items e.marks in
    let k0 : Reads {A = ℕ} (head_home code own R number) (Unit {0}) (λ n. Unit {0}) w0 p = parameters_read refl 0 it.parameters q.parameters w0 refl in
    let k1 = blocks_fit (body_home code own R number) (omega arith) (Unit {0}) 0 items q.body p.1 in
    let k2 = body_ends {H = body_home code own R number} {P = Unit {0}} (omega arith) items q.body p.1 in
    record {
      grows = begun_grows number offsets it v r.1 (grown w0 p.1 e m r.1 k0.grows k1.grows g refl refl refl refl);
      result = refl;
      slots =
          ap (λ xs. map slot_of_local (take (length p.1.locals) xs)) refl
          ∙ (slots_like p.1.locals (locals e.marks.locals [] e.locals) (λ k info h. finals_like e.marks.locals e.locals k info (k1.grows.locals k info h))
          ∙ slots_made 0 it.parameters q.parameters w0);
      fits = λ l t o f n u.
          let offsets_are : e.scope.offsets ≡ offsets = ap (λ s. s.offsets) k1.grows.scope.same ∙ ap (λ s. s.offsets) k0.grows.scope.same in
          let te = stood code own number R e m offsets refl g offsets_are r.1 refl refl t o in
          let le = g.least l in
          let tp = rehomed code own number R p.1 (stands_back k1.grows te) in
          let a0 = k0.fits tt (k1.grows.least le) tp (begun_inside code own number offsets it v R refl f n u) in
          let i1 = body_inside code own number R p.1 refl a0.1 in
          let a1 = k1.fits tt le te i1 in
          let a2 = k2.fits tt le te i1 in
          let i2 = a1.1 in (
            record {
              parameters = subst (λ n. length p.1.locals ≤ n) (sym (finals_length e.marks.locals e.locals)) i2.behind;
              views = finals_no_views e.marks.locals (length p.1.locals) e.locals (i2.no_views refl);
              body = a1.0;
              ends = ends_so_where it.name.at (maybe_width it.result) items e.marks _ l a2.0;
            },
            record { objects = i2.objects; loops = subst (λ xs. All (LoopFits code) xs) (sym g.loops) i2.loops },
          );
    }

pub functions_fit : (code : Code) (own number : ℕ) (offsets : List ℕ) (it : Function) (block : Block Statement) → IsPlainFunction it block → (v : Work)
    → FunctionReads code own number offsets it v (function number offsets it block v)
functions_fit = function_fits
