-- Whole units.
use Rattle.std.proofs.Common.{◌≡◌, ℕ, zero, suc, ◌<◌, ◌≤◌, true, List, [], ◌∷◌, length, Option, Some, None, refl, sym, ap, subst, ◌∙◌, arith}
use Rattle.std.proofs.lemmas.List.Elements.{All-nil}
use Rattle.std.proofs.lemmas.Option.{slice_get-get_or}
use Rattle.std.specs.List.{All}
use Rattle.std.specs.Prelude.{IsSomeAnd, get_or, slice_get}
use Rattle.wm_lang.specs.declared.unit.Unit.{Unit as Source}
use Rattle.wm_ops.specs.declared.operators.Width.TheVariants.{W32}
use Rattle.wm_program.specs.declared.program.ObjectInfo.{ObjectInfo}
use Rattle.wm_program.specs.Code.{Code, routine_of}
use Rattle.wm_program.specs.WellFormed.{Has, ObjectFits}
use Rattle.wm_scope.specs.declared.meaning.Named.{Named}
use Rattle.wm_marks.specs.Marking.{has}
use Rattle.wm_reading.specs.declared.outline.Outline.{Outline}
use Rattle.wm_reading.specs.declared.unit.Pass.{Pass}
use Rattle.wm_reading.specs.Finishing as finals
use Rattle.wm_reading.specs.Outlines as outlines
use Rattle.wm_reading.specs.Reading as pass
use Rattle.wm_fitting_declarations.specs.Works.{LikeObject, LoopFits}
use Rattle.wm_fitting_units.specs.Passes.{IsPlainItem, IsMeant, Agrees, SameObject, Contains, ReadingFits}
use Rattle.wm_fitting_units.proofs.Agreeing.{items_agree}
use Rattle.wm_fitting_units.proofs.Finals.{final_at, finals_fit}
use Rattle.wm_fitting_units.proofs.Meanings.{Known, file_fits}
use Rattle.wm_fitting_units.proofs.Outlining.{items_keep}
use Rattle.wm_fitting_units.proofs.Passing.{PassStands, PassFits, items_read}

-- ---- lists

no_longer : {X Y : Type 0} (xs : List X) (ys : List Y) (f : X → Y) → ((k : ℕ) (x : X) → slice_get xs k ≡ Some x → slice_get ys k ≡ Some (f x)) → length xs ≤ length ys
no_longer [] ys f h = omega arith
no_longer (x ∷ xs) [] f h = let e = h zero x refl in cc
no_longer (x ∷ xs) (y ∷ ys) f h = omega (arith, no_longer xs ys f (λ k z e. h (suc k) z e))

also : {X : Type 0} {P Q : X → Type 0} (o : Option X) → ((x : X) → P x → Q x) → IsSomeAnd o P → IsSomeAnd o Q
also None f h = h
also (Some x) f h = f x h

of_some : {X : Type 0} (P : X → Type 0) (o : Option X) (x : X) → o ≡ Some x → IsSomeAnd o P → P x
of_some P o x e h = subst (λ p. IsSomeAnd p P) e h

-- ---- what the program has of a unit

no_object : ObjectInfo
no_object = record { name = []; width = W32; length = 0; scalar = true; constant = true; addressed = true; initial = []; input = true }

addressed : (code : Code) (taken : List ℕ) (xs : List ObjectInfo) → ((k : ℕ) (info : ObjectInfo) → slice_get (finals.objects taken [] xs) k ≡ Some info → Has code.objects k (SameObject info))
    → (k : ℕ) → has k taken ≡ true → k < length xs → (it : ObjectInfo) → slice_get code.objects k ≡ Some it → it.addressed ≡ true
addressed code taken xs c k h l it e =
    let x = get_or xs k no_object in
    let info = finals.object taken k x in
    let s : SameObject info it = of_some (SameObject info) (slice_get code.objects k) it e (c k info (final_at taken xs k x (slice_get-get_or xs k no_object l))) in
    s.addressed ∙ h

liked : (code : Code) (taken : List ℕ) (xs : List ObjectInfo) → ((k : ℕ) (info : ObjectInfo) → slice_get (finals.objects taken [] xs) k ≡ Some info → Has code.objects k (SameObject info))
    → (k : ℕ) (x : ObjectInfo) → slice_get xs k ≡ Some x → Has code.objects k (LikeObject x)
liked code taken xs c k x e =
    also (slice_get code.objects k) (λ it s. record { width = (s.like).width; scalar = (s.like).scalar; constant = (s.like).constant })
    (c k (finals.object taken k x) (final_at taken xs k x e))

pub units_fit : (code : Code) (unit : Source) → All IsPlainItem unit.items → (offsets : List (List ℕ))
    → (pass.read_unit unit offsets).least ≡ None → Contains code offsets (pass.read_unit unit offsets) → ReadingFits code (pass.read_unit unit offsets)
unfolding pass.read_unit pass.reading_of
units_fit code unit q offsets l c =
    let o0 : Outline = record { work = pass.start; objects = 0 } in
    let o = (outlines.items unit.items o0).1 in
    let p0 : Pass = record { work = o.work; functions = []; calls = [] } in
    let p = (pass.items offsets unit.items p0).1 in
    let kept = items_keep unit.items o0 in
    let a0 : Agrees o0 p0 = record {
      objects = sym (ap length kept.made);
      functions = refl;
      signatures = λ k s i e f. cc;
      names = All-nil (λ (named : Named). IsMeant o.work.objects 0 named.meaning);
    } in
    let a = items_agree offsets unit.items q o0 p0 a0 in
    let taken = p.work.marks.objects in
    let own = length p.work.objects in
    let known : Known code own p.work.objects p.functions o.work.scope = record {
      has_objects = liked code taken p.work.objects c.objects;
      count = omega arith;
      has_functions = c.functions;
      signed = a.functions;
      signatures = a.signatures;
    } in
    let stands : PassStands code own offsets p = record {
      work = record {
        sites = λ k it e. subst (λ xs. slice_get xs k ≡ Some it) (sym c.sites) e;
        loops = λ k it e. subst (λ xs. slice_get xs k ≡ Some it) (sym c.loops) e;
        addresses = addressed code taken p.work.objects c.objects;
        objects = liked code taken p.work.objects c.objects;
        count = omega arith;
      };
      count = no_longer p.functions code.routines routine_of c.functions;
      calls = c.calls;
    } in
    let first : PassFits code p0 = record {
      work = record {
        objects = subst (All ObjectFits) (sym kept.made) (All-nil ObjectFits);
        loops = subst (All (LoopFits code)) (sym kept.loops) (All-nil (LoopFits code));
      };
      functions = λ k i e. cc;
      same = refl;
    } in
    let z = (items_read {code = code} {own = own} offsets unit.items q p0).fits l stands (file_fits code own p.work.objects p.functions o.work.scope known a.names) first in
    record { functions = z.functions; objects = finals_fit taken p.work.objects (z.work).objects; loops = (z.work).loops }
