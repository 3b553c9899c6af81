-- Blocks: behind one stand the names that stood before it.
use Rattle.std.proofs.Common.{◌≡◌, Bool, List, [], ◌∷◌, None, refl, sym, ap, subst, ◌∙◌, append-nil}
use Rattle.std.proofs.lemmas.List.Elements.{All-head, All-tail}
use Rattle.std.specs.List.{All}
use Rattle.std.specs.Prelude.{map}
use Rattle.wm_program.specs.declared.tree.Statement.{Statement}
use Rattle.wm_program.specs.declared.tree.Statement.TheVariants.{Block}
use Rattle.wm_program.specs.Trees.{all_of, tree_of}
use Rattle.wm_program.specs.WellFormed.{FitsTree}
use Rattle.wm_scope.specs.Scopes.{closed}
use Rattle.wm_body.specs.declared.work.Work.{Work}
use Rattle.wm_body.specs.Statements.{blocked}
use Rattle.wm_body.specs.Works.{entered, quit}
use Rattle.wm_fitting.specs.Fitting.{ScopeFits}
use Rattle.wm_fitting_scopes.proofs.Scopes.{opened_fit, left_as_entered}
use Rattle.wm_fitting_declarations.specs.Works.{Home, seen, WorkStands, Proceeds, Inside, Reads}
use Rattle.wm_fitting_statements.proofs.Forms.{of_block}

abbrev pub Fits : Home → Bool → Statement → Type 0
Fits H inside it = FitsTree H.code H.routine H.function (tree_of it) inside

pub all_fit : (H : Home) (inside : Bool) (its : List Statement) → All (Fits H inside) its → FitsTree H.code H.routine H.function (all_of (map tree_of its)) inside
all_fit H inside [] a = tt
all_fit H inside (it ∷ rest) a = (All-head (Fits H inside) it rest a, all_fit H inside rest (All-tail (Fits H inside) it rest a))

back : (v w : Work) → Proceeds (entered v) w → (quit v.scope.outer w).scope ≡ v.scope
unfolding entered quit
back v w g = ap (λ s. closed v.scope.outer s) g.scope.same ∙ left_as_entered v.scope g.scope.more

left_proceeds : (v w : Work) → Proceeds (entered v) w → Proceeds v (quit v.scope.outer w)
unfolding entered quit
left_proceeds v w g = record {
  sites = g.sites;
  loops = g.loops;
  object_addresses = g.object_addresses;
  local_addresses = g.local_addresses;
  calls = g.calls;
  least = g.least;
  locals = g.locals;
  objects = g.objects;
  object_count = g.object_count;
  scope = record { more = []; same = back v w g ∙ ap (λ names. record (v.scope) { locals = names }) (sym (append-nil (v.scope).locals)) };
}

stood : (H : Home) (v w : Work) → WorkStands H (quit v.scope.outer w) → WorkStands H w
unfolding quit
stood H v w t =
    let m = t.marks in
    record {
      marks = record { sites = m.sites; loops = m.loops; objects = m.objects; locals = m.locals; calls = m.calls };
      locals = t.locals;
      objects = t.objects;
      own = t.own;
    }

within_it : (H : Home) (v : Work) → Inside H v → Inside H (entered v)
unfolding entered
within_it H v i = record {
  names = opened_fit (seen H v.scope) i.names;
  behind = i.behind;
  no_views = i.no_views;
  there = i.there;
  function = i.function;
  result = i.result;
  objects = i.objects;
  loops = i.loops;
}

outside : (H : Home) (v w : Work) → Proceeds (entered v) w → Inside H v → Inside H w → Inside H (quit v.scope.outer w)
unfolding quit
outside H v w g i j = record {
  names = subst (λ s. ScopeFits (seen H s)) (sym (back v w g)) i.names;
  behind = j.behind;
  no_views = j.no_views;
  there = j.there;
  function = j.function;
  result = j.result;
  objects = j.objects;
  loops = j.loops;
}

no_fault : (v w : Work) → (quit v.scope.outer w).marks ≡ w.marks
unfolding quit
no_fault v w = refl

pub block_reads : {H : Home} {P : Type 0} {Q : List Statement → Type 0} {R : Statement → Type 0} (v : Work) (r : List Statement × Work) → ((its : List Statement) → Q its → R (Block its)) → Reads H P Q (entered v) r
    → Reads H P R v (blocked v.scope.outer r)
block_reads {H = H} v r f k = record {
  grows = left_proceeds v r.1 k.grows;
  fits = λ p l t i.
      let a = k.fits p (subst (λ m. m.least ≡ None) (no_fault v r.1) l) (stood H v r.1 t) (within_it H v i) in
      (f r.0 a.0, outside H v r.1 k.grows i a.1);
}

pub block_fits : (H : Home) (inside : Bool) (its : List Statement) → FitsTree H.code H.routine H.function (all_of (map tree_of its)) inside → Fits H inside (Block its)
block_fits H inside its f = subst (λ t. FitsTree H.code H.routine H.function t inside) (sym (of_block its)) f
