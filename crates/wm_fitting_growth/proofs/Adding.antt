-- The steps that collect.
use Rattle.std.proofs.Common.{ℕ, Bool, true, false, cond, Option, Some, None, [], ◌∷◌, length, length-append, ℤ, pos, refl, arith}
use Rattle.std.specs.Ordering.{int_eq}
use Rattle.std.specs.Prelude.{◌==◌}
use Rattle.wm_lang.specs.declared.place.Position.{Position}
use Rattle.wm_program.specs.declared.program.SiteKind.{SiteKind}
use Rattle.wm_program.specs.declared.program.SiteKind.TheVariants as kind
use Rattle.wm_scope.specs.declared.fault.TokenFault.{TokenFault}
use Rattle.wm_scope.specs.declared.fault.TokenFault.TheVariants.{WrongKind, WrongCount, NotConstant}
use Rattle.wm_scope.specs.declared.reading.CallPlace.{CallPlace}
use Rattle.wm_source.specs.Source.{Mark, Either, Both, Equal, NotEqual, Less, LessEqual, Greater, GreaterEqual, Plus, Minus, Times, Divide}
use Rattle.wm_marks.specs.declared.marks.Marks.{Marks}
use Rattle.wm_marks.specs.Marking.{Marking, and_then, pure, noted, with_site, put_waiting, site, site_behind, called, took_object, took_local}
use Rattle.wm_value.specs.Values.{divided_by, divided, link_site, again, miscounted}
use Rattle.wm_value.specs.Widths.{site_where}
use Rattle.wm_fitting.specs.Fitting.{Grows}
use Rattle.wm_fitting.proofs.Collecting.{has_stays, grows_none, grows_then, grows_site, grows_waiting}

-- ---- faults

pub noted_grows : (fault : TokenFault) (at : Position) (m : Marks) → Grows m (noted fault at m)
noted_grows fault at m = record {
  sites = λ k it e. e;
  loops = refl;
  objects = λ k e. e;
  locals = λ k e. e;
  calls = omega arith;
  least = λ e. cc;
}

pub unless_grows : (b : Bool) (fault : TokenFault) (at : Position) (m : Marks) → Grows m (cond b m (noted fault at m))
unless_grows true fault at m = grows_none m
unless_grows false fault at m = noted_grows fault at m

pub where_grows : (b : Bool) (fault : TokenFault) (at : Position) (m : Marks) → Grows m (cond b (noted fault at m) m)
where_grows true fault at m = noted_grows fault at m
where_grows false fault at m = grows_none m

pub again_grows : (seen : Bool) (at : Position) (m : Marks) → Grows m (again seen at m)
again_grows true at m = noted_grows WrongKind at m
again_grows false at m = grows_none m

pub miscounted_grows : (found wanted : ℕ) (at : Position) (m : Marks) → Grows m (miscounted found wanted at m)
miscounted_grows found wanted at m = unless_grows (found == wanted) WrongCount at m

divided_by_grows : (z : Option ℤ) (at : Position) (m : Marks) → Grows m (divided_by z at m)
divided_by_grows None at m = noted_grows NotConstant at m
divided_by_grows (Some z) at m = where_grows (int_eq z (pos 0)) NotConstant at m

divided_grows : (mark : Mark) (z : Option ℤ) (at : Position) (m : Marks) → Grows m (divided mark z at m)
divided_grows Divide z at m = divided_by_grows z at m
divided_grows Plus z at m = grows_none m
divided_grows Minus z at m = grows_none m
divided_grows Times z at m = grows_none m
divided_grows Either z at m = grows_none m
divided_grows Both z at m = grows_none m
divided_grows Equal z at m = grows_none m
divided_grows NotEqual z at m = grows_none m
divided_grows Less z at m = grows_none m
divided_grows LessEqual z at m = grows_none m
divided_grows Greater z at m = grows_none m
divided_grows GreaterEqual z at m = grows_none m

-- ---- sites

site_by_grows : (sort : SiteKind) (at : Position) (m : Marks) (waiting : Option Position) → Grows m (and_then (put_waiting waiting (with_site sort at m)) (λ _. pure (length m.sites))).1
site_by_grows sort at m None = grows_site sort at m
site_by_grows sort at m (Some behind) =
    let n = with_site sort at m in
    grows_then (grows_site sort at m) (grows_then (grows_waiting None n) (grows_site kind.Narrowing behind (record n { waiting = None })))

pub site_grows : (sort : SiteKind) (at : Position) (m : Marks) → Grows m (site sort at m).1
unfolding site
site_grows sort at m = site_by_grows sort at m m.waiting

pub site_behind_grows : (at : Position) (m : Marks) → Grows m (site_behind at m).1
unfolding site_behind
site_behind_grows at m = grows_waiting (Some at) m

pub site_where_grows : (b : Bool) (p : Marking ℕ) → ((m : Marks) → Grows m (p m).1) → (m : Marks) → Grows m (site_where b p m).1
site_where_grows true p h m = h m
site_where_grows false p h m = grows_none m

pub link_site_grows : (mark : Mark) (z : Option ℤ) (at : Position) (m : Marks) → Grows m (link_site mark z at m).1
unfolding link_site
link_site_grows mark z at m = grows_then (divided_grows mark z at m) (site_grows kind.Arithmetic at (divided mark z at m))

-- ---- calls and addresses

pub called_grows : (place : CallPlace) (m : Marks) → Grows m (called place m).1
called_grows place m = record {
  sites = λ k it e. e;
  loops = refl;
  objects = λ k e. e;
  locals = λ k e. e;
  calls = omega (arith, length-append m.calls (place ∷ []));
  least = λ e. e;
}

pub took_object_grows : (object : ℕ) (m : Marks) → Grows m (took_object object m).1
took_object_grows object m = record {
  sites = λ k it e. e;
  loops = refl;
  objects = λ k e. has_stays k object m.objects e;
  locals = λ k e. e;
  calls = omega arith;
  least = λ e. e;
}

pub took_local_grows : (local : ℕ) (m : Marks) → Grows m (took_local local m).1
took_local_grows local m = record {
  sites = λ k it e. e;
  loops = refl;
  objects = λ k e. e;
  locals = λ k e. has_stays k local m.locals e;
  calls = omega arith;
  least = λ e. e;
}
