-- The points of expressions fit their contexts.
use Rattle.std.proofs.Common.{ℕ, suc, ◌+◌, List, [], ◌∷◌, Option, Some, None, ℤ}
use Rattle.wm_ops.specs.declared.operators.Op.{Op}
use Rattle.wm_program.specs.declared.tree.Array.{Array}
use Rattle.wm_program.specs.declared.tree.PlainMark.{PlainMark}
use Rattle.wm_program.specs.Tree.{Expression, Arguments, Constant, Named, Element, Operator, Invoke, Plain, Negate, Plus, Cast, Done, Value, Whole, From}
use Rattle.wm_flow.specs.declared.kept.Kept.{Kept}
use Rattle.wm_flow.specs.declared.scene.Scene.{Scene}
use Rattle.wm_flow.specs.declared.scene.Held.{Held}
use Rattle.wm_flow.specs.declared.scene.Coming.{Coming}
use Rattle.wm_flow.specs.declared.scene.Source.{Source}
use Rattle.wm_flow.specs.declared.scene.Source.TheVariants.{Variable, Cells, Fixed}
use Rattle.wm_flow.specs.Places.{Plan, bases_of, scalar_source, offset_of}
use Rattle.wm_flow.specs.Strokes.{point}
use Rattle.wm_flow.specs.Yields.{own_operator, yield_strokes, must_yield, to_temporary}
use Rattle.wm_flow.specs.Expressions.{moves, place_strokes, plain_strokes, narrow_strokes, operate_strokes, call_strokes, strokes, all_strokes, no_values, named_strokes, element_strokes}
use Rattle.wm_graph_laws.specs.Invoked.{Invokes, InvokesAmong}
use Rattle.wm_shaped.specs.Fitting.{AreFitting}
use Rattle.wm_shaped.proofs.Pieces.{Seated, join2, join3, join4, none_fit, if_fit, step_fits}

module _ (owner : ℕ → Option ℕ) (counted : ℕ → ℕ) (May : ℕ → Type 0) (plan : Plan) (scene : Scene) (seat : Seated owner counted May plan scene) where
  one : (node : ℕ) (doing : Rattle.wm_flow.specs.Plain.Doing) (site : Option ℕ) (temporaries : ℕ) → AreFitting owner counted May (Rattle.wm_flow.specs.Strokes.step plan scene node doing site temporaries)
  one = step_fits owner counted May plan scene seat

  pub temporary_fits : (node temporaries : ℕ) (kept : Kept) → AreFitting owner counted May (to_temporary plan scene node temporaries kept)
  unfolding to_temporary
  temporary_fits node temporaries kept = one node _ _ _

  pub yields_fit : (it : Coming) (values : List Kept) (node temporaries : ℕ) → AreFitting owner counted May (yield_strokes plan scene it values node temporaries)
  unfolding yield_strokes
  yields_fit it [] node temporaries = none_fit owner counted May
  yields_fit it (kept ∷ rest) node temporaries =
      if_fit owner counted May (must_yield (bases_of plan scene) it kept) _ _
      (join2 owner counted May _ _ (temporary_fits node temporaries kept) (yields_fit it rest (suc node) (suc temporaries)))
      (yields_fit it rest node temporaries)

  pub place_fits : (offset index : Kept) (least most : ℤ) (site node temporaries left : ℕ) → AreFitting owner counted May (place_strokes plan scene offset index least most site node temporaries left)
  unfolding place_strokes
  place_fits offset index least most site node temporaries left =
      if_fit owner counted May (moves offset index) _ _
      (join2 owner counted May _ _ (temporary_fits node temporaries index) (one (suc node) _ _ _))
      (one node _ _ _)

  pub plain_fits : (mark : PlainMark) (a b : Kept) (site node target : ℕ) → AreFitting owner counted May (plain_strokes plan scene mark a b site node target)
  unfolding plain_strokes
  plain_fits mark a b site node target = one node _ _ _

  pub narrow_fits : (narrowing : Option ℕ) (kept : Kept) (node temporaries : ℕ) → AreFitting owner counted May (narrow_strokes plan scene narrowing kept node temporaries)
  unfolding narrow_strokes
  narrow_fits None kept node temporaries = none_fit owner counted May
  narrow_fits (Some site) kept node temporaries = one node _ _ _

  pub operate_fits : (op : Op) (site : ℕ) (held : Held) (node target temporaries : ℕ) → AreFitting owner counted May (operate_strokes plan scene op site held node target temporaries)
  unfolding operate_strokes
  operate_fits op site held node target temporaries =
      join3 owner counted May _ _ _ (yields_fit own_operator held.values node held.temporaries) (one _ _ _ _) (one _ _ _ _)

  call_fits : (function instance : ℕ) (values : List Kept) (node temporaries : ℕ) → May instance → AreFitting owner counted May (call_strokes plan scene function instance values node temporaries)
  unfolding call_strokes point AreFitting
  call_fits function instance values node temporaries may = (may, (seat.owned, seat.sized, tt))

  named_fits : (source : Source) (node temporaries : ℕ) → AreFitting owner counted May (named_strokes plan scene source node temporaries)
  named_fits (Variable v) node temporaries = none_fit owner counted May
  named_fits (Cells a) node temporaries = one node _ _ _
  named_fits (Fixed least most) node temporaries = one node _ _ _

  element_fits : (array : Array) (site : ℕ) (at : Kept) (node temporaries : ℕ) → AreFitting owner counted May (element_strokes plan scene array site at node temporaries)
  element_fits array site at node temporaries =
      join2 owner counted May _ _ (place_fits (offset_of plan scene array) at _ _ site node _ _) (one _ _ _ _)

  mutual
    unfolding strokes all_strokes

    pub strokes_fit : (x : Expression) (node temporaries : ℕ) → Invokes (λ offset. May (scene.instance + offset)) x → AreFitting owner counted May (strokes plan scene x node temporaries)
    strokes_fit (Constant z) node temporaries i = none_fit owner counted May
    strokes_fit (Named scalar) node temporaries i = named_fits (scalar_source plan scene scalar) node temporaries
    strokes_fit (Element array index site) node temporaries i =
        join2 owner counted May _ _ (strokes_fit index node temporaries i) (element_fits array site _ _ temporaries)
    strokes_fit (Operator op args site) node temporaries i =
        join2 owner counted May _ _ (all_fit args node (no_values plan scene temporaries) i) (operate_fits op site _ _ _ _)
    strokes_fit (Invoke function offset args) node temporaries i =
        join2 owner counted May _ _ (all_fit args node (no_values plan scene temporaries) i.1) (call_fits _ (scene.instance + offset) _ _ temporaries i.0)
    strokes_fit (Plain mark x y site) node temporaries i =
        join4 owner counted May _ _ _ _ (strokes_fit x node temporaries i.0) (yields_fit _ _ _ _) (strokes_fit y _ _ i.1) (plain_fits mark _ _ site _ temporaries)
    strokes_fit (Negate x site) node temporaries i =
        join2 owner counted May _ _ (strokes_fit x node temporaries i) (one _ _ _ _)
    strokes_fit (Plus x) node temporaries i = strokes_fit x node temporaries i
    strokes_fit (Cast width x) node temporaries i =
        join2 owner counted May _ _ (strokes_fit x node temporaries i) (one _ _ _ _)

    pub all_fit : (args : Arguments) (node : ℕ) (held : Held) → InvokesAmong (λ offset. May (scene.instance + offset)) args → AreFitting owner counted May (all_strokes plan scene args node held)
    all_fit Done node held i = none_fit owner counted May
    all_fit (Value x narrowing rest) node held i =
        join4 owner counted May _ _ _ _ (yields_fit _ _ _ _) (strokes_fit x _ _ i.0) (narrow_fits narrowing _ _ _) (all_fit rest _ _ i.1)
    all_fit (Whole array rest) node held i = all_fit rest node _ i
    all_fit (From array index site rest) node held i =
        join4 owner counted May _ _ _ _ (yields_fit _ _ _ _) (strokes_fit index _ _ i.0) (place_fits _ _ _ _ site _ _ _) (all_fit rest _ _ i.1)
