-- An expression where it stands: a constant one stands for its value, and a conversion is a site where it is needed.
use Rattle.std.proofs.Common.{◌≡◌, ℕ, suc, ◌+◌, Bool, true, false, cond, Option, Some, None, List, [], ◌∷◌, ◌++◌, length, ℤ, pos, refl, sym, ap, subst, ◌∙◌, arith}
use Rattle.std.specs.Prelude.{negsuc, slice_get, int_lt, ◌||◌, IsSomeAnd}
use Rattle.wm_lang.specs.declared.place.Position.{Position}
use Rattle.wm_ops.specs.Clamping.{leaves16}
use Rattle.wm_ops.specs.declared.operators.Width.{Width}
use Rattle.wm_ops.specs.declared.operators.Width.TheVariants.{W16, W32}
use Rattle.wm_program.specs.declared.program.SiteInfo.{SiteInfo}
use Rattle.wm_program.specs.declared.program.SiteKind.{SiteKind}
use Rattle.wm_program.specs.declared.program.SiteKind.TheVariants as kind
use Rattle.wm_program.specs.declared.tree.Expr.TheVariants as e
use Rattle.wm_program.specs.Tree.{Constant}
use Rattle.wm_program.specs.WellFormed.{needs_site, FitsNarrowing}
use Rattle.wm_source.specs.Constants.{value_of}
use Rattle.wm_source.specs.Firsts.{beginning_of}
use Rattle.wm_source.specs.Source.{Source}
use Rattle.wm_marks.specs.declared.marks.Marks.{Marks}
use Rattle.wm_marks.specs.Marking.{Marking, and_then, pure, with_site, put_waiting, site, site_behind}
use Rattle.wm_value.specs.declared.form.Value.{Value}
use Rattle.wm_value.specs.declared.form.Value.TheVariants.{Number, Truth, View as Seen, LostView, Function, Effect, Nothing}
use Rattle.wm_value.specs.Values.{settle, settled}
use Rattle.wm_value.specs.Widths.{width_in, leaves, narrows, carries, site_where, argument_site, argument_narrowing_in}
use Rattle.wm_fitting.specs.Fitting.{Setting, Grows, Good, FitsAs}
use Rattle.wm_fitting.proofs.Collecting.{done, site_told, grows_then, stands_back, grows_waiting, site_fits}
use Rattle.wm_fitting.proofs.Forms.{falls, number_constant}
use Rattle.wm_fitting.proofs.Ranges.{value_range}

-- ---- the types to which a number goes by a site

falls_from : (S : Setting) (w : Width) → leaves None w ≡ falls S w W16
falls_from S W16 = refl
falls_from S W32 = refl

stays_from : (S : Setting) (w : Width) → false ≡ falls S w W32
stays_from S W16 = refl
stays_from S W32 = refl

narrows_none : (S : Setting) (source : Source) → value_of source ≡ None → (to : Width) → falls S (width_in S.scope source) to ≡ narrows S.scope source to
narrows_none S source h W16 = sym (ap (λ o. leaves o (width_in S.scope source)) h ∙ falls_from S (width_in S.scope source))
narrows_none S source h W32 = sym (stays_from S (width_in S.scope source))

told : (b : Bool) → b ≡ cond b true false
told true = refl
told false = refl

narrows_some : (S : Setting) (source : Source) (z : ℤ) → value_of source ≡ Some z → (to : Width) → needs_site S.code S.routine (Constant z) to ≡ narrows S.scope source to
unfolding leaves16
narrows_some S source z h W16 = told (int_lt z (negsuc 32767) || int_lt (pos 32767) z) ∙ sym (ap (λ o. leaves o (width_in S.scope source)) h)
narrows_some S source z h W32 = refl

as_also : (S : Setting) (narrow other : Width → Bool) → ((to : Width) → narrow to ≡ other to) → (v : Value) → FitsAs S narrow v → FitsAs S other v
as_also S narrow other h (Number x) f = record { fits = f.fits; needs = λ to. f.needs to ∙ h to }
as_also S narrow other h (Truth condition) f = f
as_also S narrow other h (Seen view sight) f = f
as_also S narrow other h LostView f = f
as_also S narrow other h Function f = f
as_also S narrow other h (Effect effect) f = f
as_also S narrow other h Nothing f = f

-- ---- where it stands

-- what an expression is by its form, where it is no constant
abbrev pub FitsForm : Setting → Source → Value → Type 0
FitsForm S source v = FitsAs S (falls S (width_in S.scope source)) v

-- what an expression is where it stands
pub record FitsSettled (S : Setting) (source : Source) (v : Value) : Type 0 where
  pub fits : FitsAs S (narrows S.scope source) v
  pub constant : (z : ℤ) → value_of source ≡ Some z → v ≡ Number (e.Constant z)

no_constant : (source : Source) (v : Value) → value_of source ≡ None → (z : ℤ) → value_of source ≡ Some z → v ≡ Number (e.Constant z)
no_constant source v h z k = cc

this_constant : (source : Source) (z y : ℤ) → value_of source ≡ Some z → value_of source ≡ Some y → ◌≡◌ {A = Value} (Number (e.Constant z)) (Number (e.Constant y))
this_constant source z y h k = let s : z ≡ y = cc in ap (λ z. Number (e.Constant z)) s

settle_by : (S : Setting) (source : Source) (form : Marking Value) (m : Marks) (o : Option ℤ) → value_of source ≡ o → (value_of source ≡ None → Good S (FitsForm S source) m (form m)) → Good S (FitsSettled S source) m (settle o form m)
settle_by S source form m None h k =
    let g = k h in
    record {
      grows = g.grows;
      fits = λ l t. record { fits = as_also S (falls S (width_in S.scope source)) (narrows S.scope source) (narrows_none S source h) (form m).0 (g.fits l t); constant = no_constant source (form m).0 h };
    }
settle_by S source form m (Some z) h k = done (record { fits = number_constant S (narrows S.scope source) z (value_range source z h) (narrows_some S source z h); constant = λ y i. this_constant source z y h i })

pub settle_fits : (S : Setting) (source : Source) (form : Marking Value) (m : Marks) → (value_of source ≡ None → Good S (FitsForm S source) m (form m)) → Good S (FitsSettled S source) m (settled source form m)
settle_fits S source form m k = settle_by S source form m (value_of source) refl k

-- ---- a narrowing site that waits for the next one

-- the site behind the next one is a narrowing
pub record NarrowsNext (m n : Marks) : Type 0 where
  pub it : SiteInfo
  pub there : slice_get n.sites (length m.sites + 1) ≡ Some it
  pub is_narrowing : it.kind ≡ kind.Narrowing

pub narrows_then : {m n k : Marks} → NarrowsNext m n → Grows n k → NarrowsNext m k
narrows_then {m = m} h g = record { it = h.it; there = g.sites (length m.sites + 1) h.it h.there; is_narrowing = h.is_narrowing }

two_seams : {X : Type 0} (xs : List X) (x y : X) → slice_get ((xs ++ x ∷ []) ++ y ∷ []) (length xs + 1) ≡ Some y
two_seams [] x y = refl
two_seams (z ∷ xs) x y = subst (λ k. slice_get (z ∷ ((xs ++ x ∷ []) ++ y ∷ [])) k ≡ Some y) step (two_seams xs x y)
  where
    step : suc (length xs + 1) ≡ length (z ∷ xs) + 1
    step = omega arith

site_next_by : (kind : SiteKind) (at behind : Position) (m : Marks) (waiting : Option Position) → waiting ≡ Some behind → NarrowsNext m (and_then (put_waiting waiting (with_site kind at m)) (λ _. pure (length m.sites))).1
site_next_by it at behind m None h = cc
site_next_by it at behind m (Some here) h = record { it = site_told kind.Narrowing here; there = two_seams m.sites (site_told it at) (site_told kind.Narrowing here); is_narrowing = refl }

pub site_next : (kind : SiteKind) (at behind : Position) (m : Marks) → m.waiting ≡ Some behind → NarrowsNext m (site kind at m).1
unfolding site
site_next it at behind m h = site_next_by it at behind m m.waiting h

-- ---- arguments

-- what is known of an argument: what it is, and whether it goes to its type by a site
pub record ArgumentFits (S : Setting) (source : Source) (to : Width) (site : Option ℕ) (v : Value) : Type 0 where
  pub value : FitsSettled S source v
  pub narrowing : FitsNarrowing S.code S.routine (narrows S.scope source to) site

narrowed : (S : Setting) (b c : Bool) (narrowing : Option ℕ) → b ≡ c → FitsNarrowing S.code S.routine c narrowing → FitsNarrowing S.code S.routine b narrowing
narrowed S b c narrowing h f = subst (λ b. FitsNarrowing S.code S.routine b narrowing) (sym h) f

argument_by : (S : Setting) (source : Source) (to : Width) (form : Marking Value) (m : Marks) (b c : Bool) → narrows S.scope source to ≡ b → carries S.scope source ≡ c → (carries S.scope source ≡ true → value_of source ≡ None) → ((n : Marks) → value_of source ≡ None → Good S (FitsForm S source) n (form n)) → ((n : Marks) (at : Position) → n.waiting ≡ Some at → carries S.scope source ≡ true → NarrowsNext n (form n).1) → Good S (ArgumentFits S source to (site_where b (argument_site c (beginning_of source)) m).0) m (settled source form (site_where b (argument_site c (beginning_of source)) m).1)
unfolding site_behind
argument_by S source to form m false c h i none good next =
    let g = settle_fits S source form m (good m) in
    record { grows = g.grows; fits = λ l t. record { value = g.fits l t; narrowing = narrowed S (narrows S.scope source to) false None h tt } }
argument_by S source to form m true false h i none good next =
    let s = site_fits S kind.Narrowing (beginning_of source) m in
    let n = (site kind.Narrowing (beginning_of source) m).1 in
    let g = settle_fits S source form n (good n) in
    record {
      grows = grows_then s.grows g.grows;
      fits = λ l t. record { value = g.fits l t; narrowing = narrowed S (narrows S.scope source to) true (Some (site kind.Narrowing (beginning_of source) m).0) h (s.fits (g.grows.least l) (stands_back g.grows t)) };
    }
argument_by S source to form m true true h i none good next =
    let at = beginning_of source in
    let n = record m { waiting = Some at } in
    let g = settle_fits S source form n (good n) in
    let k : NarrowsNext n (settled source form n).1 = subst (λ o. NarrowsNext n (settle o form n).1) (sym (none i)) (next n at refl i) in
    record {
      grows = grows_then (grows_waiting (Some at) m) g.grows;
      fits = λ l t. record {
        value = g.fits l t;
        narrowing = narrowed S (narrows S.scope source to) true (Some (length m.sites + 1)) h (subst (λ o. IsSomeAnd o (λ it. it.kind ≡ kind.Narrowing)) (sym (t.sites (length m.sites + 1) k.it k.there)) k.is_narrowing);
      };
    }

pub argument_fits : (S : Setting) (source : Source) (to : Width) (form : Marking Value) (m : Marks) → (carries S.scope source ≡ true → value_of source ≡ None) → ((n : Marks) → value_of source ≡ None → Good S (FitsForm S source) n (form n)) → ((n : Marks) (at : Position) → n.waiting ≡ Some at → carries S.scope source ≡ true → NarrowsNext n (form n).1) → Good S (ArgumentFits S source to (argument_narrowing_in S.scope source to m).0) m (settled source form (argument_narrowing_in S.scope source to m).1)
unfolding argument_narrowing_in
argument_fits S source to form m none good next = argument_by S source to form m (narrows S.scope source to) (carries S.scope source) refl refl none good next
