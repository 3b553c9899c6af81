-- What an assignment writes, and the sites of conversions.
use Rattle.std.proofs.Common.{◌≡◌, ℕ, Bool, true, false, Option, refl, subst}
use Rattle.wm_lang.specs.declared.expression.Expr.{Expr as Source}
use Rattle.wm_lang.specs.declared.expression.Identifier.{Identifier}
use Rattle.wm_lang.specs.declared.expression.SpotKind.{SpotKind}
use Rattle.wm_lang.specs.declared.expression.SpotKind.TheVariants as spots
use Rattle.wm_lang.specs.declared.place.Position.{Position}
use Rattle.wm_ops.specs.declared.operators.Width.{Width}
use Rattle.wm_ops.specs.declared.operators.Width.TheVariants.{W16, W32}
use Rattle.wm_program.specs.declared.program.SiteKind.TheVariants as kind
use Rattle.wm_program.specs.declared.tree.Array.{Array}
use Rattle.wm_program.specs.declared.tree.Spot.{Spot}
use Rattle.wm_program.specs.Trees.{target_of}
use Rattle.wm_program.specs.WellFormed.{IsSite, goes_down, FitsNarrowing, FitsTarget, target_width, IsWrittenArray}
use Rattle.wm_source.specs.Source.{Source as Plain}
use Rattle.wm_scope.specs.declared.fault.TokenFault.TheVariants.{UnknownName, WrongKind, AssignToConst}
use Rattle.wm_scope.specs.declared.meaning.Meaning.{Meaning}
use Rattle.wm_scope.specs.declared.meaning.Meaning.TheVariants as meaning
use Rattle.wm_scope.specs.Scopes.{meaning_of}
use Rattle.wm_marks.specs.declared.marks.Marks.{Marks}
use Rattle.wm_marks.specs.Marking.{site as site_at}
use Rattle.wm_value.specs.Kinds.{is_narrow, array_by, array_at, pointed_at}
use Rattle.wm_value.specs.Widths.{scalar_width, element_width, spot_width, narrows, narrowing_in, site_where}
use Rattle.wm_body.specs.Simples.{protected, target_by, named_target, is_const_array, is_const_element, element_target, pointed_target, bare_target, target, update_sites}
use Rattle.wm_fitting.specs.Fitting.{Setting, MeaningFits, ScopeFits, Good}
use Rattle.wm_fitting.proofs.Collecting.{chain, done, faulty, site_fits}
use Rattle.wm_fitting.proofs.Forms.{no_number_fits}
use Rattle.wm_fitting.proofs.Naming.{also, ArrayFound}
use Rattle.wm_fitting_acts.specs.PlainActs.{IsPlainSpot}
use Rattle.wm_fitting_acts.proofs.Dropping.{number_in_fits}

-- ---- sites of conversions

site_where_fits : (S : Setting) (b : Bool) (at : Position) (m : Marks) → Good S (FitsNarrowing S.code S.routine b) m (site_where b (site_at kind.Narrowing at) m)
site_where_fits S true at m = chain (site_fits S kind.Narrowing at m) (done (λ s. s))
site_where_fits S false at m = done tt

pub narrowing_fits : (S : Setting) (source : Plain) (to : Width) (at : Position) (m : Marks) → Good S (FitsNarrowing S.code S.routine (narrows S.scope source to)) m (narrowing_in S.scope source to at m)
unfolding narrowing_in
narrowing_fits S source to at m = site_where_fits S (narrows S.scope source to) at m

narrow_falls : (S : Setting) (w : Width) → is_narrow w ≡ goes_down S.code S.routine W32 w
narrow_falls S W16 = refl
narrow_falls S W32 = refl

pub record SitesFit (S : Setting) (width : Width) (sites : ℕ × Option ℕ) : Type 0 where
  pub arithmetic : IsSite S.code sites.0 kind.Arithmetic
  pub narrowing : FitsNarrowing S.code S.routine (goes_down S.code S.routine W32 width) sites.1

pub update_sites_fit : (S : Setting) (width : Width) (at : Position) (m : Marks) → Good S (SitesFit S width) m (update_sites width at m)
unfolding update_sites
update_sites_fit S width at m =
    let k = site_at kind.Arithmetic at m in
    let n = site_where (is_narrow width) (site_at kind.Narrowing at) k.1 in
    chain (site_fits S kind.Arithmetic at m) (chain (site_where_fits S (is_narrow width) at k.1)
    (done (λ n_fits s. record { arithmetic = s; narrowing = subst (λ b. FitsNarrowing S.code S.routine b n.0) (narrow_falls S width) n_fits })))

-- ---- what an assignment writes

pub record TargetFits (S : Setting) (width : Width) (spot : Spot) : Type 0 where
  pub fits : FitsTarget S.code S.routine (target_of spot)
  pub width_told : target_width S.code S.routine (target_of spot) ≡ width

pub protect_fits : (S : Setting) (b : Bool) (at : Position) (m : Marks) → Good {A = Unit {0}} S (λ u. b ≡ false) m (tt, protected b at m)
protect_fits S true at m = faulty AssignToConst at m
protect_fits S false at m = done refl

target_by_fits : (S : Setting) (at name_at : Position) (g : Meaning) (m : Marks) → MeaningFits S g → Good S (TargetFits S (scalar_width g)) m (target_by at name_at g m)
target_by_fits S at name_at (meaning.Operator op) m f = faulty WrongKind at m
target_by_fits S at name_at (meaning.Counting call) m f = faulty WrongKind at m
target_by_fits S at name_at (meaning.Function number) m f = faulty WrongKind at m
target_by_fits S at name_at (meaning.Scalar scalar width is_const) m f = chain (protect_fits S is_const at m) (done (λ h. record { fits = (f.fits, f.written h); width_told = f.width_told }))
target_by_fits S at name_at (meaning.Array array width is_const) m f = faulty WrongKind at m
target_by_fits S at name_at meaning.Nothing m f = faulty UnknownName name_at m

named_target_fits : (S : Setting) (names : ScopeFits S) (at : Position) (name : Identifier) (m : Marks) → Good S (TargetFits S (scalar_width (meaning_of name.name S.scope))) m (named_target S.scope at name m)
unfolding named_target
named_target_fits S names at name m = target_by_fits S at name.at (meaning_of name.name S.scope) m (names.names name.name)

-- an array, which may be written where it is not const
record ArrayWritten (S : Setting) (g : Meaning) (array : Array) : Type 0 where
  found : ArrayFound S (element_width g) array
  written : is_const_array g ≡ false → IsWrittenArray S.code S.routine array

array_by_written : (S : Setting) (at wrong_at : Position) (g : Meaning) (m : Marks) → MeaningFits S g → Good S (ArrayWritten S g) m (array_by at wrong_at g m)
array_by_written S at wrong_at (meaning.Operator op) m f = faulty WrongKind wrong_at m
array_by_written S at wrong_at (meaning.Counting call) m f = faulty WrongKind wrong_at m
array_by_written S at wrong_at (meaning.Function number) m f = faulty WrongKind wrong_at m
array_by_written S at wrong_at (meaning.Scalar scalar width is_const) m f = faulty WrongKind wrong_at m
array_by_written S at wrong_at (meaning.Array array width is_const) m f = done (record { found = record { fits = f.fits; width_told = f.width_told }; written = f.written })
array_by_written S at wrong_at meaning.Nothing m f = faulty UnknownName at m

array_written : (S : Setting) (names : ScopeFits S) (name : Identifier) (wrong_at : Position) (m : Marks) → Good S (ArrayWritten S (meaning_of name.name S.scope)) m (array_at S.scope name wrong_at m)
unfolding array_at
array_written S names name wrong_at m = array_by_written S name.at wrong_at (meaning_of name.name S.scope) m (names.names name.name)

element_target_fits : (S : Setting) (names : ScopeFits S) (name : Identifier) (bracket : Position) (index : Source) → IsPlainSpot (spots.Element name bracket index) → (m : Marks) → Good S (λ spot. is_const_array (meaning_of name.name S.scope) ≡ false → TargetFits S (element_width (meaning_of name.name S.scope)) spot) m (element_target S.scope name bracket index m)
unfolding element_target
element_target_fits S names name bracket index p m =
    let a = array_at S.scope name name.at m in
    let k = site_at kind.Index bracket a.1 in
    chain (array_written S names name name.at m) (chain (site_fits S kind.Index bracket a.1) (chain (number_in_fits S names index p k.1)
    (done (λ x s f h. record { fits = ((f.found).fits, f.written h, x.fits, s); width_told = (f.found).width_told }))))

pointed_target_fits : (S : Setting) (names : ScopeFits S) (star : Position) (name : Identifier) (m : Marks) → Good S (λ spot. is_const_array (meaning_of name.name S.scope) ≡ false → TargetFits S (element_width (meaning_of name.name S.scope)) spot) m (pointed_target S.scope star name m)
unfolding pointed_target pointed_at
pointed_target_fits S names star name m =
    let a = array_at S.scope name star m in
    chain (array_written S names name star m) (chain (site_fits S kind.Index star a.1)
    (done (λ s f h. record { fits = ((f.found).fits, f.written h, no_number_fits S, s); width_told = (f.found).width_told })))

bare_target_fits : (S : Setting) (names : ScopeFits S) (at : Position) (it : SpotKind Source) → IsPlainSpot it → (m : Marks) → Good S (λ spot. is_const_element S.scope it ≡ false → TargetFits S (spot_width S.scope it) spot) m (bare_target S.scope at it m)
unfolding bare_target
bare_target_fits S names at (spots.Scalar name) p m = also (named_target_fits S names at name m) (λ spot f h. f)
bare_target_fits S names at (spots.Element name bracket index) p m = element_target_fits S names name bracket index p m
bare_target_fits S names at (spots.Pointed star name) p m = pointed_target_fits S names star name m
bare_target_fits S names at (spots.Member object mark mark_at member) p m = absurd p
bare_target_fits S names at (spots.MemberElement object mark mark_at member bracket index) p m = absurd p

pub target_fits : (S : Setting) (names : ScopeFits S) (at : Position) (it : SpotKind Source) → IsPlainSpot it → (m : Marks) → Good S (TargetFits S (spot_width S.scope it)) m (target S.scope at it m)
unfolding target
target_fits S names at it p m =
    chain (protect_fits S (is_const_element S.scope it) at m)
    (also (bare_target_fits S names at it p (protected (is_const_element S.scope it) at m)) (λ spot f h. f h))
