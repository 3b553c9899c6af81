-- The acts in the head of a loop, and its condition.
use Rattle.std.proofs.Common.{Option, Some, None, List, [], ◌∷◌, ◌++◌}
use Rattle.std.proofs.lemmas.List.Elements.{All-nil, All-head, All-tail, All-push, All-map}
use Rattle.std.specs.List.{All}
use Rattle.std.specs.Option.{option_map_or}
use Rattle.std.specs.Prelude.{map}
use Rattle.wm_lang.specs.declared.expression.Expr.{Expr}
use Rattle.wm_lang.specs.declared.statement.Simple.{Simple}
use Rattle.wm_program.specs.declared.tree.Simple.{Simple as Act}
use Rattle.wm_program.specs.Tree.{Always}
use Rattle.wm_program.specs.Trees.{effect_of, test_of}
use Rattle.wm_program.specs.WellFormed.{FitsEffect, FitsTest}
use Rattle.wm_marks.specs.declared.marks.Marks.{Marks}
use Rattle.wm_body.specs.Simples.{simple, all_simple}
use Rattle.wm_body.specs.Statements.{tested}
use Rattle.wm_fitting.specs.Fitting.{Setting, ScopeFits, Good}
use Rattle.wm_fitting.proofs.Collecting.{chain, done}
use Rattle.wm_fitting.proofs.Naming.{also}
use Rattle.wm_fitting_acts.specs.PlainActs.{IsPlainSimple}
use Rattle.wm_fitting_acts.proofs.Acting.{Acts, simple_fits}
use Rattle.wm_fitting_acts.proofs.Dropping.{condition_in_fits}
use Rattle.wm_fitting_parts.specs.PlainParts.{IsPlainOption}

acts_behind : (S : Setting) (names : ScopeFits S) (found : List Act) (simples : List Simple) → All IsPlainSimple simples → (m : Marks) → Good S (λ acts. All (Acts S) found → All (Acts S) acts) m (all_simple S.scope found simples m)
acts_behind S names found [] p m = done (λ h. h)
acts_behind S names found (one ∷ rest) p m =
    let x = simple S.scope one m in
    chain (simple_fits S names one (All-head IsPlainSimple one rest p) m)
    (also (acts_behind S names (found ++ x.0 ∷ []) rest (All-tail IsPlainSimple one rest p) x.1) (λ acts k f h. k (All-push (Acts S) found x.0 h f)))

pub acts_fit : (S : Setting) → ScopeFits S → (simples : List Simple) → All IsPlainSimple simples → (m : Marks) → Good S (λ acts. All (FitsEffect S.code S.routine) (map effect_of acts)) m (all_simple S.scope [] simples m)
acts_fit S names simples p m =
    also (acts_behind S names [] simples p m) (λ acts k. All-map (FitsEffect S.code S.routine) effect_of acts (k (All-nil (Acts S))))

pub tests_fit : (S : Setting) → ScopeFits S → (condition : Option Expr) → IsPlainOption condition → (m : Marks) → Good S (λ test. FitsTest S.code S.routine (option_map_or test_of test Always)) m (tested condition S.scope m)
unfolding tested
tests_fit S names None p m = done tt
tests_fit S names (Some condition) p m = chain (condition_in_fits S names condition p m) (done (λ f. f))
