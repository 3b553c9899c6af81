-- The points of conditions fit their contexts.
use Rattle.std.proofs.Common.{ℕ, ◌+◌, Bool, Option, None}
use Rattle.std.specs.Prelude.{nat_lt}
use Rattle.wm_program.specs.declared.tree.Comparison.{Comparison}
use Rattle.wm_program.specs.Tree.{Test, Always, Either, Both, Not, Compare, Truth}
use Rattle.wm_flow.specs.declared.kept.Kept.{Kept}
use Rattle.wm_flow.specs.declared.scene.Scene.{Scene}
use Rattle.wm_flow.specs.declared.scene.Sides.{Sides}
use Rattle.wm_flow.specs.Plain.{Doing}
use Rattle.wm_flow.specs.Places.{Plan}
use Rattle.wm_flow.specs.Strokes.{nothing}
use Rattle.wm_flow.specs.Expressions.{no_values}
use Rattle.wm_flow.specs.Tests.{fork, goes, side_strokes, sides_strokes, is_apart, Compared, Plainly, Number, Applied, compared, compared_number, evaluation_strokes, compared_strokes, sides_of, mark_of, test_strokes}
use Rattle.wm_graph_laws.specs.Invoked.{TestInvokes}
use Rattle.wm_graph_laws.proofs.Tests.{ComparedInvokes, compared_invokes, number_invokes}
use Rattle.wm_shaped.specs.Fitting.{AreFitting}
use Rattle.wm_shaped.proofs.Pieces.{Seated, join2, join3, none_fit, if_fit, line_fits, point_fits}
use Rattle.wm_shaped.proofs.Values.{temporary_fits, yields_fit, operate_fits, strokes_fit, all_fit}

module _ (owner : ℕ → Option ℕ) (counted : ℕ → ℕ) (May : ℕ → Type 0) (plan : Plan) (scene : Scene) (seat : Seated owner counted May plan scene) where
  abbrev On : ℕ → Type 0
  On offset = May (scene.instance + offset)

  fork_fits : (node hit miss : ℕ) (holds fails : Doing) → AreFitting owner counted May (fork node hit holds miss fails)
  unfolding fork AreFitting
  fork_fits node hit miss holds fails = if_fit owner counted May (nat_lt hit miss) _ _ tt tt

  side_fits : (apart : Bool) (kept : Kept) (node temporaries : ℕ) → AreFitting owner counted May (side_strokes plan scene apart kept node temporaries)
  side_fits apart kept node temporaries =
      if_fit owner counted May (goes apart kept) _ _ (temporary_fits owner counted May plan scene seat node temporaries kept) (none_fit owner counted May)

  sides_fit : (mark : Comparison) (sides : Sides) (node hit miss : ℕ) → AreFitting owner counted May (sides_strokes plan scene mark sides node hit miss)
  unfolding sides_strokes
  sides_fit mark sides node hit miss =
      let apart = is_apart sides in
      join3 owner counted May _ _ _ (side_fits apart sides.left node _) (side_fits apart sides.right _ _) (fork_fits _ hit miss _ _)

  evaluation_fits : (it : Compared) (node : ℕ) → ComparedInvokes On it → AreFitting owner counted May (evaluation_strokes plan scene it node)
  evaluation_fits (Plainly x mark y) node i =
      join3 owner counted May _ _ _ (strokes_fit owner counted May plan scene seat x node 0 i.0) (yields_fit owner counted May plan scene seat _ _ _ _) (strokes_fit owner counted May plan scene seat y _ _ i.1)
  evaluation_fits (Number x) node i = strokes_fit owner counted May plan scene seat x node 0 i
  evaluation_fits (Applied op args site mark) node i =
      join2 owner counted May _ _ (all_fit owner counted May plan scene seat args node (no_values plan scene 0) i) (operate_fits owner counted May plan scene seat op site _ _ _ _)

  compared_fits : (it : Compared) (node hit miss : ℕ) → ComparedInvokes On it → AreFitting owner counted May (compared_strokes plan scene it node hit miss)
  compared_fits it node hit miss i =
      join2 owner counted May _ _ (evaluation_fits it node i) (sides_fit (mark_of plan scene it) (sides_of plan scene it) _ hit miss)

  pub test_fits : (test : Test) (node hit miss : ℕ) → TestInvokes On test → AreFitting owner counted May (test_strokes plan scene test node hit miss)
  unfolding test_strokes
  test_fits Always node hit miss i = line_fits owner counted May node hit nothing None
  test_fits (Either c d) node hit miss i =
      join2 owner counted May _ _ (test_fits c node hit _ i.0) (point_fits owner counted May plan scene seat 0 _ (test_fits d _ hit miss i.1))
  test_fits (Both c d) node hit miss i =
      join2 owner counted May _ _ (test_fits c node _ miss i.0) (point_fits owner counted May plan scene seat 0 _ (test_fits d _ hit miss i.1))
  test_fits (Not c) node hit miss i = test_fits c node miss hit i
  test_fits (Compare x mark y) node hit miss i = compared_fits (compared x mark y) node hit miss (compared_invokes On x mark y i.0 i.1)
  test_fits (Truth x) node hit miss i = compared_fits (compared_number x) node hit miss (number_invokes On x i)
