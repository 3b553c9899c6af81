-- The strokes of expressions begin no head; they have the calls of the expression as parts.
use Rattle.std.proofs.Common.{◌≡◌, ℕ, suc, ◌+◌, List, [], ◌∷◌, Option, Some, None, ℤ, ◌∙◌, arith}
use Rattle.wm_ops.specs.declared.operators.Op.{Op}
use Rattle.wm_program.specs.declared.tree.Array.{Array}
use Rattle.wm_program.specs.declared.tree.PlainMark.{PlainMark}
use Rattle.wm_program.specs.Tree.{Expression, Arguments, Constant, Named, Element, Operator, Invoke, Plain, Negate, Plus, Cast, Done, Value, Whole, From}
use Rattle.wm_program.specs.WellFormed.{calls_in, calls_in_arguments}
use Rattle.wm_flow.specs.declared.kept.Kept.{Kept}
use Rattle.wm_flow.specs.declared.scene.Scene.{Scene}
use Rattle.wm_flow.specs.declared.scene.Held.{Held}
use Rattle.wm_flow.specs.declared.scene.Coming.{Coming}
use Rattle.wm_flow.specs.declared.scene.Source.{Source}
use Rattle.wm_flow.specs.declared.scene.Source.TheVariants.{Variable, Cells, Fixed}
use Rattle.wm_flow.specs.Places.{Plan, bases_of, scalar_source, offset_of}
use Rattle.wm_flow.specs.Strokes.{point}
use Rattle.wm_flow.specs.Yields.{own_operator, yield_strokes, must_yield, to_temporary}
use Rattle.wm_flow.specs.Expressions.{moves, place_strokes, plain_strokes, narrow_strokes, operate_strokes, call_strokes, strokes, all_strokes, no_values, named_strokes, element_strokes}
use Rattle.wm_heads.specs.Tally.{begins, called}
use Rattle.wm_heads.proofs.Counted.{join2, join3, join4, quiet_none, quiet_if, quiet_step, called_join}

module _ (n : ℕ) (part : ℕ → ℕ) (plan : Plan) (scene : Scene) where
  pub quiet_temporary : (node temporaries : ℕ) (kept : Kept) → begins n part (to_temporary plan scene node temporaries kept) ≡ 0
  unfolding to_temporary
  quiet_temporary node temporaries kept = quiet_step n part plan scene node _ _ _

  pub quiet_yields : (it : Coming) (values : List Kept) (node temporaries : ℕ) → begins n part (yield_strokes plan scene it values node temporaries) ≡ 0
  unfolding yield_strokes
  quiet_yields it [] node temporaries = quiet_none n part
  quiet_yields it (kept ∷ rest) node temporaries =
      quiet_if n part (must_yield (bases_of plan scene) it kept) _ _
      (join2 n part _ _ 0 0 (quiet_temporary node temporaries kept) (quiet_yields it rest (suc node) (suc temporaries)))
      (quiet_yields it rest node temporaries)

  pub quiet_place : (offset index : Kept) (least most : ℤ) (site node temporaries left : ℕ) → begins n part (place_strokes plan scene offset index least most site node temporaries left) ≡ 0
  unfolding place_strokes
  quiet_place offset index least most site node temporaries left =
      quiet_if n part (moves offset index) _ _
      (join2 n part _ _ 0 0 (quiet_temporary node temporaries index) (quiet_step n part plan scene (suc node) _ _ _))
      (quiet_step n part plan scene node _ _ _)

  pub quiet_plain : (mark : PlainMark) (a b : Kept) (site node target : ℕ) → begins n part (plain_strokes plan scene mark a b site node target) ≡ 0
  unfolding plain_strokes
  quiet_plain mark a b site node target = quiet_step n part plan scene node _ _ _

  pub quiet_narrow : (narrowing : Option ℕ) (kept : Kept) (node temporaries : ℕ) → begins n part (narrow_strokes plan scene narrowing kept node temporaries) ≡ 0
  unfolding narrow_strokes
  quiet_narrow None kept node temporaries = quiet_none n part
  quiet_narrow (Some site) kept node temporaries = quiet_step n part plan scene node _ _ _

  pub quiet_operate : (op : Op) (site : ℕ) (held : Held) (node target temporaries : ℕ) → begins n part (operate_strokes plan scene op site held node target temporaries) ≡ 0
  unfolding operate_strokes
  quiet_operate op site held node target temporaries =
      join3 n part _ _ _ 0 0 0 (quiet_yields own_operator held.values node held.temporaries) (quiet_step n part plan scene _ _ _ _) (quiet_step n part plan scene _ _ _ _)

  call_counts : (function instance : ℕ) (values : List Kept) (node temporaries : ℕ) → begins n part (call_strokes plan scene function instance values node temporaries) ≡ part instance
  unfolding call_strokes point begins
  call_counts function instance values node temporaries = omega arith

  quiet_named : (source : Source) (node temporaries : ℕ) → begins n part (named_strokes plan scene source node temporaries) ≡ 0
  quiet_named (Variable v) node temporaries = quiet_none n part
  quiet_named (Cells a) node temporaries = quiet_step n part plan scene node _ _ _
  quiet_named (Fixed least most) node temporaries = quiet_step n part plan scene node _ _ _

  quiet_element : (array : Array) (site : ℕ) (at : Kept) (node temporaries : ℕ) → begins n part (element_strokes plan scene array site at node temporaries) ≡ 0
  quiet_element array site at node temporaries =
      join2 n part _ _ 0 0 (quiet_place (offset_of plan scene array) at _ _ site node _ _) (quiet_step n part plan scene _ _ _ _)

  mutual
    unfolding strokes all_strokes

    pub strokes_count : (x : Expression) (node temporaries : ℕ) → begins n part (strokes plan scene x node temporaries) ≡ called part scene.instance (calls_in x)
    strokes_count (Constant z) node temporaries = quiet_none n part
    strokes_count (Named scalar) node temporaries = quiet_named (scalar_source plan scene scalar) node temporaries
    strokes_count (Element array index site) node temporaries =
        join2 n part _ _ _ 0 (strokes_count index node temporaries) (quiet_element array site _ _ temporaries) ∙ omega arith
    strokes_count (Operator op args site) node temporaries =
        join2 n part _ _ _ 0 (all_count args node (no_values plan scene temporaries)) (quiet_operate op site _ _ _ _) ∙ omega arith
    strokes_count (Invoke function offset args) node temporaries =
        join2 n part _ _ _ (part (scene.instance + offset)) (all_count args node (no_values plan scene temporaries)) (call_counts _ (scene.instance + offset) _ _ temporaries) ∙ omega arith
    strokes_count (Plain mark x y site) node temporaries =
        join4 n part _ _ _ _ _ 0 _ 0 (strokes_count x node temporaries) (quiet_yields _ _ _ _) (strokes_count y _ _) (quiet_plain mark _ _ site _ temporaries)
        ∙ omega (arith, called_join part scene.instance (calls_in x) (calls_in y))
    strokes_count (Negate x site) node temporaries =
        join2 n part _ _ _ 0 (strokes_count x node temporaries) (quiet_step n part plan scene _ _ _ _) ∙ omega arith
    strokes_count (Plus x) node temporaries = strokes_count x node temporaries
    strokes_count (Cast width x) node temporaries =
        join2 n part _ _ _ 0 (strokes_count x node temporaries) (quiet_step n part plan scene _ _ _ _) ∙ omega arith

    pub all_count : (args : Arguments) (node : ℕ) (held : Held) → begins n part (all_strokes plan scene args node held) ≡ called part scene.instance (calls_in_arguments args)
    all_count Done node held = quiet_none n part
    all_count (Value x narrowing rest) node held =
        join4 n part _ _ _ _ 0 _ 0 _ (quiet_yields _ _ _ _) (strokes_count x _ _) (quiet_narrow narrowing _ _ _) (all_count rest _ _)
        ∙ omega (arith, called_join part scene.instance (calls_in x) (calls_in_arguments rest))
    all_count (Whole array rest) node held = all_count rest node _
    all_count (From array index site rest) node held =
        join4 n part _ _ _ _ 0 _ 0 _ (quiet_yields _ _ _ _) (strokes_count index _ _) (quiet_place _ _ _ _ site _ _ _) (all_count rest _ _)
        ∙ omega (arith, called_join part scene.instance (calls_in index) (calls_in_arguments rest))
