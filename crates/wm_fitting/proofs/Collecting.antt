-- Steps that collect: what they give grows, and what joins two of them.
use Rattle.std.proofs.Common.{◌≡◌, ℕ, zero, suc, Bool, true, false, cond, Option, Some, None, List, [], ◌∷◌, ◌++◌, length, refl, sym, ap, subst, ◌∙◌, arith}
use Rattle.std.proofs.lemmas.Bool.Decides.{nat_tests}
use Rattle.std.specs.Prelude.{slice_get, ◌==◌, IsSomeAnd}
use Rattle.wm_lang.specs.declared.place.Position.{Position}
use Rattle.wm_program.specs.declared.program.SiteInfo.{SiteInfo}
use Rattle.wm_program.specs.declared.program.SiteKind.{SiteKind}
use Rattle.wm_program.specs.declared.program.SiteKind.TheVariants.{Narrowing}
use Rattle.wm_program.specs.WellFormed.{IsSite}
use Rattle.wm_scope.specs.declared.fault.TokenFault.{TokenFault}
use Rattle.wm_marks.specs.declared.marks.Marks.{Marks}
use Rattle.wm_marks.specs.Marking.{and_then, pure, noted, has, with_number, with_site, put_waiting, site}
use Rattle.wm_fitting.specs.Fitting.{Setting, Stands, Grows, Good}

-- ---- lists

pub some_none : {X : Type 0} (x : X) → ◌≡◌ {A = Option X} (Some x) None → ⊥
some_none x e = cc

pub get_front : {X : Type 0} (xs ys : List X) (k : ℕ) (x : X) → slice_get xs k ≡ Some x → slice_get (xs ++ ys) k ≡ Some x
get_front [] ys k x e = cc
get_front (y ∷ xs) ys zero x e = e
get_front (y ∷ xs) ys (suc k) x e = get_front xs ys k x e

pub get_seam : {X : Type 0} (xs : List X) (x : X) (ys : List X) → slice_get (xs ++ x ∷ ys) (length xs) ≡ Some x
get_seam [] x ys = refl
get_seam (y ∷ xs) x ys = get_seam xs x ys

cond_on : (b p q : Bool) → (p ≡ true → q ≡ true) → cond b true p ≡ true → cond b true q ≡ true
cond_on true p q f e = refl
cond_on false p q f e = f e

pub has_front : (k : ℕ) (xs ys : List ℕ) → has k xs ≡ true → has k (xs ++ ys) ≡ true
has_front k [] ys e = cc
has_front k (x ∷ xs) ys e = cond_on (x == k) (has k xs) (has k (xs ++ ys)) (has_front k xs ys) e

same : (k : ℕ) → (k == k) ≡ true
same k = grind (arith, nat_tests)

cond_true : (b p : Bool) → p ≡ true → cond b true p ≡ true
cond_true true p e = refl
cond_true false p e = e

pub has_last : (k : ℕ) (xs : List ℕ) → has k (xs ++ k ∷ []) ≡ true
has_last k [] = ap (λ b. cond b true false) (same k)
has_last k (x ∷ xs) = cond_true (x == k) (has k (xs ++ k ∷ [])) (has_last k xs)

has_with_by : (k : ℕ) (xs : List ℕ) (b : Bool) → has k xs ≡ b → has k (cond b xs (xs ++ k ∷ [])) ≡ true
has_with_by k xs true e = e
has_with_by k xs false e = has_last k xs

pub has_with : (k : ℕ) (xs : List ℕ) → has k (with_number k xs) ≡ true
has_with k xs = has_with_by k xs (has k xs) refl

has_stays_by : (k n : ℕ) (xs : List ℕ) (b : Bool) → has k xs ≡ true → has k (cond b xs (xs ++ n ∷ [])) ≡ true
has_stays_by k n xs true e = e
has_stays_by k n xs false e = has_front k xs (n ∷ []) e

pub has_stays : (k n : ℕ) (xs : List ℕ) → has k xs ≡ true → has k (with_number n xs) ≡ true
has_stays k n xs e = has_stays_by k n xs (has n xs) e

-- ---- what grows

pub grows_none : (m : Marks) → Grows m m
grows_none m = record {
  sites = λ k it e. e;
  loops = refl;
  objects = λ k e. e;
  locals = λ k e. e;
  calls = omega arith;
  least = λ e. e;
}

pub grows_then : {l m n : Marks} → Grows l m → Grows m n → Grows l n
grows_then h k = record {
  sites = λ i it e. k.sites i it (h.sites i it e);
  loops = k.loops ∙ h.loops;
  objects = λ i e. k.objects i (h.objects i e);
  locals = λ i e. k.locals i (h.locals i e);
  calls = omega arith;
  least = λ e. h.least (k.least e);
}

pub stands_back : {S : Setting} {m n : Marks} → Grows m n → Stands S n → Stands S m
stands_back h t = record {
  sites = λ i it e. t.sites i it (h.sites i it e);
  loops = λ i it e. t.loops i it (subst (λ xs. slice_get xs i ≡ Some it) (sym h.loops) e);
  objects = λ i e. t.objects i (h.objects i e);
  locals = λ i e. t.locals i (h.locals i e);
  calls = λ i l. t.calls i (omega arith);
}

-- ---- what joins steps

-- a step, and what goes on behind it
pub chain : {A B : Type 0} {S : Setting} {P : A → Type 0} {Q : B → Type 0} {m : Marks} {r : A × Marks} {s : B × Marks} → Good S P m r → Good S (λ b. P r.0 → Q b) r.1 s → Good S Q m s
chain h k = record {
  grows = grows_then h.grows k.grows;
  fits = λ l t. k.fits l t (h.fits (k.grows.least l) (stands_back k.grows t));
}

-- a value alone
pub done : {A : Type 0} {S : Setting} {Q : A → Type 0} {m : Marks} {a : A} → Q a → Good S Q m (a, m)
done {m = m} q = record { grows = grows_none m; fits = λ l t. q }

grows_noted : (fault : TokenFault) (at : Position) (m : Marks) → Grows m (noted fault at m)
grows_noted fault at m = record {
  sites = λ k it e. e;
  loops = refl;
  objects = λ k e. e;
  locals = λ k e. e;
  calls = omega arith;
  least = λ e. cc;
}

-- a value with a fault has any property
pub faulty : {A : Type 0} {S : Setting} {Q : A → Type 0} {a : A} (fault : TokenFault) (at : Position) (m : Marks) → Good S Q m (a, noted fault at m)
faulty fault at m = record { grows = grows_noted fault at m; fits = λ l t. cc }

-- ---- sites

abbrev pub site_told : SiteKind → Position → SiteInfo
site_told kind at = record { kind = kind; token = at.token; place = at.place }

pub grows_site : (kind : SiteKind) (at : Position) (m : Marks) → Grows m (with_site kind at m)
grows_site kind at m = record {
  sites = λ k it e. get_front m.sites (site_told kind at ∷ []) k it e;
  loops = refl;
  objects = λ k e. e;
  locals = λ k e. e;
  calls = omega arith;
  least = λ e. e;
}

pub grows_waiting : (waiting : Option Position) (m : Marks) → Grows m (record m { waiting = waiting })
grows_waiting waiting m = record {
  sites = λ k it e. e;
  loops = refl;
  objects = λ k e. e;
  locals = λ k e. e;
  calls = omega arith;
  least = λ e. e;
}

pub is_site : (S : Setting) (kind : SiteKind) (at : Position) (k : ℕ) (m : Marks) → slice_get m.sites k ≡ Some (site_told kind at) → Stands S m → IsSite S.code k kind
is_site S kind at k m e t = subst (λ o. IsSomeAnd o (λ it. it.kind ≡ kind)) (sym (t.sites k (site_told kind at) e)) refl

site_by : (S : Setting) (kind : SiteKind) (at : Position) (m : Marks) (waiting : Option Position) → Good S (λ k. IsSite S.code k kind) m (and_then (put_waiting waiting (with_site kind at m)) (λ _. pure (length m.sites)))
site_by S kind at m None = record {
  grows = grows_site kind at m;
  fits = λ l t. is_site S kind at (length m.sites) (with_site kind at m) (get_seam m.sites (site_told kind at) []) t;
}
site_by S kind at m (Some behind) =
    let n = with_site kind at m in
    let k = record n { waiting = None } in
    let two = grows_then (grows_waiting None n) (grows_site Narrowing behind k) in
    record {
      grows = grows_then (grows_site kind at m) two;
      fits = λ l t. is_site S kind at (length m.sites) n (get_seam m.sites (site_told kind at) []) (stands_back two t);
    }

pub site_fits : (S : Setting) (kind : SiteKind) (at : Position) (m : Marks) → Good S (λ k. IsSite S.code k kind) m (site kind at m)
unfolding site
site_fits S kind at m = site_by S kind at m m.waiting
