-- Assignments, steps and calls.
use Rattle.std.proofs.Common.{◌≡◌, ℕ, Bool, Option, pos, sym, subst, arith}
use Rattle.std.proofs.lemmas.Int.{ints}
use Rattle.wm_lang.specs.declared.expression.Expr.{Expr as Source}
use Rattle.wm_lang.specs.declared.expression.SpotKind.{SpotKind}
use Rattle.wm_lang.specs.declared.place.Position.{Position}
use Rattle.wm_lang.specs.declared.statement.AssignMark.{AssignMark}
use Rattle.wm_lang.specs.declared.statement.AssignMark.TheVariants as assigns
use Rattle.wm_lang.specs.declared.statement.Simple.{Simple}
use Rattle.wm_lang.specs.declared.statement.Simple.TheVariants as simples
use Rattle.wm_lang.specs.declared.statement.StepMark.{StepMark}
use Rattle.wm_numbers.specs.Within.{IsWord32}
use Rattle.wm_ops.specs.declared.operators.Width.{Width}
use Rattle.wm_ops.specs.declared.operators.Width.TheVariants.{W32}
use Rattle.wm_program.specs.declared.tree.Expr.{Expr}
use Rattle.wm_program.specs.declared.tree.Expr.TheVariants as e
use Rattle.wm_program.specs.declared.tree.PlainMark.{PlainMark}
use Rattle.wm_program.specs.declared.tree.PlainMark.TheVariants as plain
use Rattle.wm_program.specs.declared.tree.Simple.{Simple as Act}
use Rattle.wm_program.specs.declared.tree.Simple.TheVariants as act
use Rattle.wm_program.specs.declared.tree.Spot.{Spot}
use Rattle.wm_program.specs.Trees.{expression_of, effect_of, target_of}
use Rattle.wm_program.specs.WellFormed.{goes_down, needs_site, FitsNarrowing, FitsExpression, FitsConversion, FitsEffect, target_width}
use Rattle.wm_source.specs.Reading.{source_of}
use Rattle.wm_marks.specs.declared.marks.Marks.{Marks}
use Rattle.wm_value.specs.Needs.{number_in}
use Rattle.wm_value.specs.Widths.{spot_width, narrows, narrowing_in}
use Rattle.wm_body.specs.Simples.{target, update_sites, update, assign, step_of, step_after, step_before, simple}
use Rattle.wm_fitting.specs.Plain.{IsPlain}
use Rattle.wm_fitting.specs.Fitting.{Setting, ScopeFits, Good, FitsNumber}
use Rattle.wm_fitting.proofs.Collecting.{chain, done}
use Rattle.wm_fitting.proofs.Folds.{of_constant}
use Rattle.wm_fitting.proofs.Forms.{Fits}
use Rattle.wm_fitting_acts.specs.PlainActs.{IsPlainSpot, IsPlainSimple}
use Rattle.wm_fitting_acts.proofs.Dropping.{number_in_fits, dropped_fits}
use Rattle.wm_fitting_acts.proofs.Targets.{narrowing_fits, SitesFit, update_sites_fit, TargetFits, target_fits}

abbrev pub Acts : Setting → Act → Type 0
Acts S it = FitsEffect S.code S.routine (effect_of it)

-- a number that goes to what is written
conversion : (S : Setting) (narrow : Width → Bool) (x : Expr) (site : Option ℕ) (to other : Width) → other ≡ to → FitsNumber S narrow x → FitsNarrowing S.code S.routine (narrow to) site → FitsConversion S.code S.routine (expression_of x) site other
conversion S narrow x site to other h f n =
    (f.fits, subst (λ w. FitsNarrowing S.code S.routine (needs_site S.code S.routine (expression_of x) w) site) (sym h) (subst (λ b. FitsNarrowing S.code S.routine b site) (sym (f.needs to)) n))

updated : (S : Setting) (width : Width) (spot : Spot) (mark : PlainMark) (x : Expr) (sites : ℕ × Option ℕ) → TargetFits S width spot → SitesFit S width sites → Fits S x → Acts S (act.Update spot mark x sites.0 sites.1)
updated S width spot mark x sites f s h =
    (f.fits, h, s.arithmetic, subst (λ w. FitsNarrowing S.code S.routine (goes_down S.code S.routine W32 w) sites.1) (sym f.width_told) s.narrowing)

update_fits : (S : Setting) (names : ScopeFits S) (spot_at : Position) (it : SpotKind Source) (mark : PlainMark) (at : Position) (value : Source) → IsPlainSpot it → IsPlain (source_of value) → (m : Marks) → Good S (Acts S) m (update S.scope spot_at it mark at value m)
unfolding update
update_fits S names spot_at it mark at value p q m =
    let w = spot_width S.scope it in
    let spot = target S.scope spot_at it m in
    let sites = update_sites w at spot.1 in
    let x = number_in S.scope value sites.1 in
    chain (target_fits S names spot_at it p m) (chain (update_sites_fit S w at spot.1) (chain (number_in_fits S names value q sites.1)
    (done (λ f s t. updated S w spot.0 mark x.0 sites.0 t s f.fits))))

assign_fits : (S : Setting) (names : ScopeFits S) (spot_at : Position) (it : SpotKind Source) (mark : AssignMark) (at : Position) (value : Source) → IsPlainSpot it → IsPlain (source_of value) → (m : Marks) → Good S (Acts S) m (assign S.scope spot_at it mark at value m)
unfolding assign
assign_fits S names spot_at it assigns.Plain at value p q m =
    let w = spot_width S.scope it in
    let spot = target S.scope spot_at it m in
    let n = narrowing_in S.scope (source_of value) w at spot.1 in
    let x = number_in S.scope value n.1 in
    chain (target_fits S names spot_at it p m) (chain (narrowing_fits S (source_of value) w at spot.1) (chain (number_in_fits S names value q n.1)
    (done (λ f s t. (t.fits, conversion S (narrows S.scope (source_of value)) x.0 n.0 w (target_width S.code S.routine (target_of spot.0)) t.width_told f s)))))
assign_fits S names spot_at it assigns.Plus at value p q m = update_fits S names spot_at it plain.Plus at value p q m
assign_fits S names spot_at it assigns.Minus at value p q m = update_fits S names spot_at it plain.Minus at value p q m
assign_fits S names spot_at it assigns.Times at value p q m = update_fits S names spot_at it plain.Times at value p q m

one_word : IsWord32 (pos 1)
one_word = record { above = omega (arith, ints); below = omega (arith, ints) }

one_fits : (S : Setting) → Fits S (e.Constant (pos 1))
one_fits S = subst (λ y. FitsExpression S.code S.routine y) (sym (of_constant (pos 1))) one_word

step_after_fits : (S : Setting) (names : ScopeFits S) (spot_at : Position) (it : SpotKind Source) (mark : StepMark) (at : Position) → IsPlainSpot it → (m : Marks) → Good S (Acts S) m (step_after S.scope spot_at it mark at m)
unfolding step_after
step_after_fits S names spot_at it mark at p m =
    let w = spot_width S.scope it in
    let spot = target S.scope spot_at it m in
    let sites = update_sites w at spot.1 in
    chain (target_fits S names spot_at it p m) (chain (update_sites_fit S w at spot.1)
    (done (λ s t. updated S w spot.0 (step_of mark) (e.Constant (pos 1)) sites.0 t s (one_fits S))))

step_before_fits : (S : Setting) (names : ScopeFits S) (spot_at : Position) (it : SpotKind Source) (mark : StepMark) (at : Position) → IsPlainSpot it → (m : Marks) → Good S (Acts S) m (step_before S.scope spot_at it mark at m)
unfolding step_before
step_before_fits S names spot_at it mark at p m =
    let w = spot_width S.scope it in
    let sites = update_sites w at m in
    let spot = target S.scope spot_at it sites.1 in
    chain (update_sites_fit S w at m) (chain (target_fits S names spot_at it p sites.1)
    (done (λ t s. updated S w spot.0 (step_of mark) (e.Constant (pos 1)) sites.0 t s (one_fits S))))

pub simple_fits : (S : Setting) (names : ScopeFits S) (it : Simple) → IsPlainSimple it → (m : Marks) → Good S (Acts S) m (simple S.scope it m)
unfolding simple
simple_fits S names (simples.Assign spot mark at value) p m = assign_fits S names spot.at spot.kind mark at value p.0 p.1 m
simple_fits S names (simples.StepAfter spot mark at) p m = step_after_fits S names spot.at spot.kind mark at p m
simple_fits S names (simples.StepBefore mark at spot) p m = step_before_fits S names spot.at spot.kind mark at p m
simple_fits S names (simples.Call call) p m = chain (dropped_fits S names call p m) (done (λ f. f))
