-- What joins steps of what stands.
use Rattle.std.proofs.Common.{◌≡◌, ℕ, ◌<◌, Bool, true, false, cond, [], ◌++◌, Some, refl, sym, ap, subst, ◌∙◌, append_assoc, append-nil, arith}
use Rattle.std.specs.List.{All}
use Rattle.std.specs.Prelude.{slice_get}
use Rattle.wm_lang.specs.declared.place.Position.{Position}
use Rattle.wm_scope.specs.declared.fault.TokenFault.{TokenFault}
use Rattle.wm_scope.specs.declared.scope.Scope.{Scope}
use Rattle.wm_scope.specs.Scopes.{offset_of}
use Rattle.wm_marks.specs.declared.marks.Marks.{Marks}
use Rattle.wm_marks.specs.Marking.{Marking}
use Rattle.wm_body.specs.declared.work.Work.{Work}
use Rattle.wm_body.specs.Works.{within, tell}
use Rattle.wm_fitting.specs.Fitting.{Grows, Good}
use Rattle.wm_fitting.proofs.Collecting.{some_none}
use Rattle.wm_fitting_growth.proofs.Adding.{noted_grows}
use Rattle.wm_fitting_declarations.specs.Works.{Home, seen, WorkStands, Widens, Proceeds, LoopFits, Inside, Reads}

-- ---- what grows

pub no_wider : (s : Scope) → Widens s s
no_wider s = record { more = []; same = ap (λ names. record s { locals = names }) (sym (append-nil s.locals)) }

pub wider_then : {r s t : Scope} → Widens r s → Widens s t → Widens r t
wider_then {r = r} h k = record {
  more = h.more ++ k.more;
  same =
      k.same ∙ (ap (λ (x : Scope). record x { locals = x.locals ++ k.more }) h.same
      ∙ ap (λ names. record r { locals = names }) (append_assoc r.locals h.more k.more));
}

pub stays : (v : Work) → Proceeds v v
stays v = record {
  sites = λ k it e. e;
  loops = λ k it e. e;
  object_addresses = λ k e. e;
  local_addresses = λ k e. e;
  calls = omega arith;
  least = λ e. e;
  locals = λ k it e. e;
  objects = λ k it e. e;
  object_count = omega arith;
  scope = no_wider v.scope;
}

pub proceeds_then : {u v w : Work} → Proceeds u v → Proceeds v w → Proceeds u w
proceeds_then h k = record {
  sites = λ i it e. k.sites i it (h.sites i it e);
  loops = λ i it e. k.loops i it (h.loops i it e);
  object_addresses = λ i e. k.object_addresses i (h.object_addresses i e);
  local_addresses = λ i e. k.local_addresses i (h.local_addresses i e);
  calls = omega (arith, h.calls, k.calls);
  least = λ e. h.least (k.least e);
  locals = λ i it e. k.locals i it (h.locals i it e);
  objects = λ i it e. k.objects i it (h.objects i it e);
  object_count = omega (arith, h.object_count, k.object_count);
  scope = wider_then h.scope k.scope;
}

offset_back : (H : Home) (k : ℕ) (s t : Scope) → Widens s t → 0 < offset_of k t → 0 < offset_of k s
offset_back H k s t h l = subst (λ x. 0 < offset_of k x) h.same l

pub stands_back : {H : Home} {v w : Work} → Proceeds v w → WorkStands H w → WorkStands H v
stands_back {H = H} {v = v} {w = w} h t =
    let m = t.marks in
    record {
      marks = record {
        sites = λ i it e. m.sites i it (h.sites i it e);
        loops = λ i it e. m.loops i it (h.loops i it e);
        objects = λ i e. m.objects i (h.object_addresses i e);
        locals = λ i e. m.locals i (h.local_addresses i e);
        calls = λ i l. offset_back H i v.scope w.scope h.scope (m.calls i (omega (arith, l, h.calls)));
      };
      locals = λ i it e. t.locals i it (h.locals i it e);
      objects = λ i it e. t.objects i it (h.objects i it e);
      own = omega (arith, t.own, h.object_count);
    }

pub marked : (v : Work) (m : Marks) → Grows v.marks m → Proceeds v (record v { marks = m })
marked v m g = record {
  sites = g.sites;
  loops = λ k it e. subst (λ xs. slice_get xs k ≡ Some it) (sym g.loops) e;
  object_addresses = g.objects;
  local_addresses = g.locals;
  calls = g.calls;
  least = g.least;
  locals = λ k it e. e;
  objects = λ k it e. e;
  object_count = omega arith;
  scope = no_wider v.scope;
}

pub inside_marked : (H : Home) (v : Work) (m : Marks) → Grows v.marks m → Inside H v → Inside H (record v { marks = m })
inside_marked H v m g i = record {
  names = i.names;
  behind = i.behind;
  no_views = i.no_views;
  there = i.there;
  function = i.function;
  result = i.result;
  objects = i.objects;
  loops = subst (λ xs. All (LoopFits H.code) xs) (sym g.loops) i.loops;
}

-- ---- what joins steps

-- a step, and what goes on behind it
pub then_reads : {A B : Type 0} {H : Home} {P : Type 0} {Q : A → Type 0} {R : B → Type 0} {v : Work} {r : A × Work} {s : B × Work} → Reads H P Q v r → Reads H (P × Q r.0) R r.1 s → Reads H P R v s
then_reads h k = record {
  grows = proceeds_then h.grows k.grows;
  fits = λ p l t i. let a = h.fits p (k.grows.least l) (stands_back k.grows t) i in k.fits (p, a.0) l t a.1;
}

-- a value alone
pub gives : {A : Type 0} {H : Home} {P : Type 0} {Q : A → Type 0} {v : Work} {a : A} → (P → Q a) → Reads H P Q v (a, v)
gives {v = v} f = record { grows = stays v; fits = λ p l t i. (f p, i) }

pub reads_also : {A : Type 0} {H : Home} {P : Type 0} {Q R : A → Type 0} {v : Work} {r : A × Work} → Reads H P Q v r → ((a : A) → P → Q a → R a) → Reads H P R v r
reads_also h f = record { grows = h.grows; fits = λ p l t i. let a = h.fits p l t i in (f _ p a.0, a.1) }

-- a value with a fault has any property
pub tells : {A : Type 0} {H : Home} {P : Type 0} {Q : A → Type 0} {a : A} (fault : TokenFault) (at : Position) (v : Work) → Reads H P Q v (a, tell fault at v)
tells fault at v = record { grows = marked v _ (noted_grows fault at v.marks); fits = λ p l t i. absurd (some_none _ l) }

pub tells_where : {H : Home} {P : Type 0} (b : Bool) (fault : TokenFault) (at : Position) (v : Work) → Reads {A = Unit {0}} H P (λ u. b ≡ false) v (tt, cond b (tell fault at v) v)
tells_where true fault at v = tells fault at v
tells_where false fault at v = gives (λ p. refl)

pub tells_unless : {H : Home} {P : Type 0} (b : Bool) (fault : TokenFault) (at : Position) (v : Work) → Reads {A = Unit {0}} H P (λ u. b ≡ true) v (tt, cond b v (tell fault at v))
tells_unless true fault at v = gives (λ p. refl)
tells_unless false fault at v = tells fault at v

-- a step of what is collected
pub within_reads : {A : Type 0} {H : Home} {P : Type 0} {Q : A → Type 0} {v : Work} (step : Scope → Marking A) → Grows v.marks (step v.scope v.marks).1 → (P → Inside H v → Good (seen H v.scope) Q v.marks (step v.scope v.marks)) → Reads H P Q v (within step v)
within_reads {H = H} {v = v} step g f = record {
  grows = marked v (step v.scope v.marks).1 g;
  fits = λ p l t i. ((f p i).fits l t.marks, inside_marked H v (step v.scope v.marks).1 g i);
}
