-- Names, locals and objects that are made.
use Rattle.std.proofs.Common.{◌≡◌, ℕ, ◌<◌, ◌≤◌, Bool, false, Option, List, [], ◌∷◌, ◌++◌, length, drop, length-append, refl, sym, subst, arith}
use Rattle.std.proofs.lemmas.List.{drop-append-le}
use Rattle.std.proofs.lemmas.List.Elements.{All-push}
use Rattle.std.specs.List.{All}
use Rattle.std.specs.Prelude.{nat_lt}
use Rattle.wm_lang.specs.declared.expression.Identifier.{Identifier}
use Rattle.wm_lang.specs.declared.place.Position.{Position}
use Rattle.wm_ops.specs.declared.operators.Width.{Width}
use Rattle.wm_program.specs.declared.faults.What.TheVariants.{Objects, Locals}
use Rattle.wm_program.specs.declared.program.LocalInfo.{LocalInfo}
use Rattle.wm_program.specs.declared.program.ObjectInfo.{ObjectInfo}
use Rattle.wm_program.specs.WellFormed.{Has, ObjectFits}
use Rattle.wm_scope.specs.declared.fault.TokenFault.TheVariants.{Redefined, TooMany}
use Rattle.wm_scope.specs.declared.meaning.Meaning.{Meaning}
use Rattle.wm_scope.specs.Scopes.{is_here, with_name}
use Rattle.wm_body.specs.declared.work.Work.{Work}
use Rattle.wm_body.specs.Works.{change, checked, declare, noted_local, with_local, make_local, noted_object, with_object, make_object}
use Rattle.wm_fitting.specs.Fitting.{MeaningFits}
use Rattle.wm_fitting.proofs.Collecting.{get_front, get_seam}
use Rattle.wm_fitting_scopes.proofs.Scopes.{declared_fit}
use Rattle.wm_fitting_declarations.specs.Works.{Home, seen, LikeLocal, LikeObject, Proceeds, Reads}
use Rattle.wm_fitting_declarations.proofs.Stepping.{no_wider, then_reads, reads_also, tells_where, tells_unless}

-- ---- names

pub check_reads : {H : Home} {P : Type 0} (name : Identifier) (v : Work) → Reads {A = Unit {0}} H P (λ u. Unit {0}) v (change (checked name) v)
unfolding checked
check_reads name v = reads_also (tells_where (is_here name.name v.scope) Redefined name.at v) (λ u p e. tt)

named : (name : Identifier) (g : Meaning) (v : Work) → Proceeds v (record v { scope = with_name name.name g v.scope })
named name g v = record {
  sites = λ k it e. e;
  loops = λ k it e. e;
  object_addresses = λ k e. e;
  local_addresses = λ k e. e;
  calls = omega arith;
  least = λ e. e;
  locals = λ k it e. e;
  objects = λ k it e. e;
  object_count = omega arith;
  scope = record { more = (record { name = name.name; meaning = g }) ∷ []; same = refl };
}

pub declare_reads : {H : Home} {P : Type 0} (name : Identifier) (g : Meaning) (v : Work) → (P → MeaningFits (seen H v.scope) g) → Reads {A = Unit {0}} H P (λ u. Unit {0}) v (declare name g v)
unfolding declare
declare_reads {H = H} name g v f = record {
  grows = named name g v;
  fits = λ p l t i. (
    tt,
    record {
      names = declared_fit (seen H v.scope) i.names name.name g (f p);
      behind = i.behind;
      no_views = i.no_views;
      there = i.there;
      function = i.function;
      result = i.result;
      objects = i.objects;
      loops = i.loops;
    },
  );
}

-- ---- locals

-- a local as it is made
abbrev pub made_local : Identifier → Width → Option ℕ → Bool → LocalInfo
made_local name width array view = record { name = name.name; width = width; array = array; view = view; addressed = false }

abbrev pub IsMade : Home → LocalInfo → ℕ → Type 0
IsMade H info local = (H.least ≤ local) × Has H.routine.locals local (LikeLocal info)

pushed : (n : ℕ) (xs : List LocalInfo) (x : LocalInfo) → n ≤ length xs → All (λ it. it.view ≡ false) (drop n xs) → x.view ≡ false → All (λ it. it.view ≡ false) (drop n (xs ++ x ∷ []))
pushed n xs x l a e = subst (All (λ it. it.view ≡ false)) (sym (drop-append-le n xs (x ∷ []) l)) (All-push (λ it. it.view ≡ false) (drop n xs) x a e)

with_local_reads : {H : Home} {P : Type 0} (name : Identifier) (width : Width) (array : Option ℕ) (view : Bool) (v : Work) → (H.has_views ≡ false → view ≡ false) → Reads H P (IsMade H (made_local name width array view)) v (with_local name width array view v)
with_local_reads {H = H} name width array view v f =
    let info = made_local name width array view in
    record {
      grows = record {
        sites = λ k it e. e;
        loops = λ k it e. e;
        object_addresses = λ k e. e;
        local_addresses = λ k e. e;
        calls = omega arith;
        least = λ e. e;
        locals = λ k it e. get_front v.locals (info ∷ []) k it e;
        objects = λ k it e. e;
        object_count = omega arith;
        scope = no_wider v.scope;
      };
      fits = λ p l t i. (
        (i.behind, t.locals (length v.locals) info (get_seam v.locals info [])),
        record {
          names = i.names;
          behind = omega (arith, i.behind, length-append v.locals (info ∷ []));
          no_views = λ e. pushed H.least v.locals info i.behind (i.no_views e) (f e);
          there = i.there;
          function = i.function;
          result = i.result;
          objects = i.objects;
          loops = i.loops;
        },
      );
    }

pub make_local_reads : {H : Home} {P : Type 0} (name : Identifier) (width : Width) (array : Option ℕ) (view : Bool) (v : Work) → (H.has_views ≡ false → view ≡ false) → Reads H P (IsMade H (made_local name width array view)) v (make_local name width array view v)
unfolding make_local
make_local_reads name width array view v f =
    then_reads (tells_unless (nat_lt (length v.locals) 256) (TooMany Locals) name.at v)
    (with_local_reads name width array view (noted_local name.at v) f)

-- ---- objects

abbrev pub IsObject : Home → ObjectInfo → ℕ → Type 0
IsObject H info object = (object < H.own) × Has H.code.objects object (LikeObject info)

with_object_reads : {H : Home} {P : Type 0} (info : ObjectInfo) (v : Work) → (P → ObjectFits info) → Reads H P (IsObject H info) v (with_object info v)
with_object_reads {H = H} info v f = record {
  grows = record {
    sites = λ k it e. e;
    loops = λ k it e. e;
    object_addresses = λ k e. e;
    local_addresses = λ k e. e;
    calls = omega arith;
    least = λ e. e;
    locals = λ k it e. e;
    objects = λ k it e. get_front v.objects (info ∷ []) k it e;
    object_count = omega (arith, length-append v.objects (info ∷ []));
    scope = no_wider v.scope;
  };
  fits = λ p l t i. (
    (omega (arith, t.own, length-append v.objects (info ∷ [])), t.objects (length v.objects) info (get_seam v.objects info [])),
    record {
      names = i.names;
      behind = i.behind;
      no_views = i.no_views;
      there = i.there;
      function = i.function;
      result = i.result;
      objects = All-push ObjectFits v.objects info i.objects (f p);
      loops = i.loops;
    },
  );
}

pub make_object_reads : {H : Home} {P : Type 0} (at : Position) (info : ObjectInfo) (v : Work) → (P → ObjectFits info) → Reads H P (IsObject H info) v (make_object at info v)
unfolding make_object
make_object_reads at info v f =
    then_reads (tells_unless (nat_lt (length v.objects) 512) (TooMany Objects) at v) (with_object_reads info (noted_object at v) (λ p. f p.0))
