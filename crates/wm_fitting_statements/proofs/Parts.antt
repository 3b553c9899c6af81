-- What stands in statements: acts, conditions, returns, loops.
use Rattle.std.proofs.Common.{◌≡◌, ℕ, ◌<◌, Bool, true, false, not, cond, Option, List, [], ◌∷◌, length, refl, sym, subst, arith}
use Rattle.std.proofs.lemmas.Bool.Decides.{nat_tests}
use Rattle.std.proofs.lemmas.List.Elements.{All-push}
use Rattle.std.specs.List.{All}
use Rattle.std.specs.Option.{option_map_or}
use Rattle.std.specs.Prelude.{map, nat_lt, ◌==◌, ◌+◌, IsSomeAnd}
use Rattle.wm_lang.specs.declared.expression.Expr.{Expr}
use Rattle.wm_lang.specs.declared.place.Position.{Position}
use Rattle.wm_lang.specs.declared.statement.Simple.{Simple}
use Rattle.wm_program.specs.declared.faults.What.TheVariants.{LoopNest}
use Rattle.wm_program.specs.declared.program.LoopInfo.{LoopInfo}
use Rattle.wm_program.specs.Tree.{Always}
use Rattle.wm_program.specs.Trees.{test_of, effect_of, tree_of}
use Rattle.wm_program.specs.WellFormed.{FitsTest, FitsEffect, FitsTree, FitsLoop}
use Rattle.wm_scope.specs.declared.fault.TokenFault.TheVariants.{TooMany}
use Rattle.wm_value.specs.Needs.{condition_in}
use Rattle.wm_body.specs.declared.work.Work.{Work}
use Rattle.wm_body.specs.Simples.{simple, all_simple}
use Rattle.wm_body.specs.Statements.{tested, returned}
use Rattle.wm_body.specs.Works.{within, noted_loop, with_loop, make_loop, deeper}
use Rattle.wm_fitting.specs.Fitting.{Good}
use Rattle.wm_fitting.proofs.Collecting.{get_front, get_seam}
use Rattle.wm_fitting_acts.specs.PlainActs.{IsPlainSimple}
use Rattle.wm_fitting_acts.proofs.Acting.{simple_fits}
use Rattle.wm_fitting_acts.proofs.Dropping.{condition_in_fits}
use Rattle.wm_fitting_parts.specs.PlainParts.{IsPlainOption}
use Rattle.wm_fitting_parts.proofs.Behind.{acts_fit, tests_fit}
use Rattle.wm_fitting_parts.proofs.Returns.{returns_fit}
use Rattle.wm_fitting_growth.proofs.Forms.{conditions_grow}
use Rattle.wm_fitting_growth_acts.proofs.Acting.{acts_grow}
use Rattle.wm_fitting_growth_acts.proofs.Parts.{tests_grow, returns_grow}
use Rattle.wm_fitting_declarations.specs.PlainDeclarations.{IsPlainValue}
use Rattle.wm_fitting_declarations.specs.Works.{Home, seen, LoopFits, Reads}
use Rattle.wm_fitting_declarations.proofs.Stepping.{no_wider, then_reads, within_reads, tells_unless}
use Rattle.wm_fitting_statements.specs.Laws.{is_inside}
use Rattle.wm_fitting_statements.proofs.Steps.{IsStep}

pub simple_reads : {H : Home} {P : Type 0} (it : Simple) → IsPlainSimple it → (v : Work) → Reads H P (λ act. FitsEffect H.code H.routine (effect_of act)) v (within (λ scope. simple scope it) v)
simple_reads {H = H} it q v =
    within_reads (λ scope. simple scope it) (acts_grow v.scope [] (it ∷ []) v.marks) (λ p i. simple_fits (seen H v.scope) i.names it q v.marks)

pub acts_read : {H : Home} {P : Type 0} (its : List Simple) → All IsPlainSimple its → (v : Work) → Reads H P (λ acts. All (FitsEffect H.code H.routine) (map effect_of acts)) v (within (λ scope. all_simple scope [] its) v)
acts_read {H = H} its q v =
    within_reads (λ scope. all_simple scope [] its) (acts_grow v.scope [] its v.marks) (λ p i. acts_fit (seen H v.scope) i.names its q v.marks)

pub condition_reads : {H : Home} {P : Type 0} (condition : Expr) → IsPlainValue condition → (v : Work) → Reads H P (λ test. FitsTest H.code H.routine (test_of test)) v (within (λ scope. condition_in scope condition) v)
condition_reads {H = H} condition q v =
    within_reads (λ scope. condition_in scope condition) (conditions_grow v.scope condition v.marks) (λ p i. condition_in_fits (seen H v.scope) i.names condition q v.marks)

pub test_reads : {H : Home} {P : Type 0} (condition : Option Expr) → IsPlainOption condition → (v : Work) → Reads H P (λ test. FitsTest H.code H.routine (option_map_or test_of test Always)) v (within (tested condition) v)
test_reads {H = H} condition q v =
    within_reads (tested condition) (tests_grow v.scope condition v.marks) (λ p i. tests_fit (seen H v.scope) i.names condition q v.marks)

pub return_reads : {H : Home} {P : Type 0} (value : Option Expr) → IsPlainOption value → (at : Position) (inside : Bool) (v : Work) → Reads H P (λ it. FitsTree H.code H.routine H.function (tree_of it) inside) v (within (returned value at v.result) v)
return_reads {H = H} value q at inside v =
    within_reads (returned value at v.result) (returns_grow v.scope value at v.result v.marks)
    (λ p i. subst (λ r. Good (seen H v.scope) (λ it. FitsTree H.code H.routine H.function (tree_of it) inside) v.marks (returned value at r v.scope v.marks)) (sym i.result)
    (returns_fit (seen H v.scope) i.names value q at H.function inside v.marks))

-- ---- loops

with_loop_reads : {H : Home} {P : Type 0} (at : Position) (step depth : ℕ) (v : Work) → IsStep step → Reads H P (FitsLoop H.code H.routine H.function) v (with_loop at step depth v)
with_loop_reads {H = H} at step depth v s =
    let info : LoopInfo = record { function = v.function; token = at.token; place = at.place; step = step; depth = depth } in
    record {
      grows = record {
        sites = λ k it e. e;
        loops = λ k it e. get_front v.marks.loops (info ∷ []) k it e;
        object_addresses = λ k e. e;
        local_addresses = λ k e. e;
        calls = omega arith;
        least = λ e. e;
        locals = λ k it e. e;
        objects = λ k it e. e;
        object_count = omega arith;
        scope = no_wider v.scope;
      };
      fits = λ p l t i. (
        subst (λ o. IsSomeAnd o (λ it. it.function ≡ H.function)) (sym (t.marks.loops (length v.marks.loops) info (get_seam v.marks.loops info []))) i.function,
        record {
          names = i.names;
          behind = i.behind;
          no_views = i.no_views;
          there = i.there;
          function = i.function;
          result = i.result;
          objects = i.objects;
          loops =
              All-push (LoopFits H.code) v.marks.loops info i.loops
              (record { function = subst (λ n. n < length H.code.routines) (sym i.function) i.there; least = s.0; greatest = s.1 });
        },
      );
    }

pub loop_reads : {H : Home} {P : Type 0} (at : Position) (step depth : ℕ) (v : Work) → IsStep step → Reads H P (FitsLoop H.code H.routine H.function) v (make_loop at step depth v)
unfolding make_loop
loop_reads at step depth v s =
    then_reads (tells_unless (nat_lt depth 8) (TooMany LoopNest) at v) (with_loop_reads at step depth (noted_loop at depth v) s)

deep_by : (depth : ℕ) (b : Bool) → nat_lt depth 8 ≡ b → (cond b (depth + 1) depth == 0) ≡ false
deep_by depth true e = grind (arith, nat_tests)
deep_by depth false e = grind (arith, nat_tests, e)

-- what stands in a loop is inside of one
pub deep : (depth : ℕ) → is_inside (deeper depth) ≡ true
deep depth = subst (λ b. not b ≡ true) (sym (deep_by depth (nat_lt depth 8) refl)) refl
