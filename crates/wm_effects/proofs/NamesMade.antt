-- Each kind of name that a declaration makes, and several.
use Rattle.std.proofs.Common.{◌≡◌, ℕ, ℤ, List, [], ◌∷◌, Option, Some, None, refl, sym, ◌∙◌}
use Rattle.wm_ops.specs.declared.operators.Width.{Width}
use Rattle.wm_program.specs.declared.tree.Scalar.TheVariants as scalar
use Rattle.wm_program.specs.Tree.{Expression, Fresh, Given, Filled, Blank, Listed}
use Rattle.wm_flow.specs.declared.scene.Scene.{Scene}
use Rattle.wm_flow.specs.Layouts.{range}
use Rattle.wm_flow.specs.Places.{Plan, scalar_source}
use Rattle.wm_flow.specs.Seats.{low_of, high_of}
use Rattle.wm_flow.specs.Effects.{own_source, filling, setting, fresh_size, fresh_strokes, declared_size, declared_strokes}
use Rattle.wm_pen.specs.Ink.{Ink}
use Rattle.wm_pen.proofs.Joins.{put_none, put_after}
use Rattle.wm_steps.specs.Moves.{stepped}
use Rattle.wm_effects.specs.Draws.{making, declaring, making_each}
use Rattle.wm_effects.specs.Stores.{storing}

pub given_drawn : (plan : Plan) (scene : Scene) (local : ℕ) (x : Expression) (site : Option ℕ) (ink : Ink) → making plan scene (Given local x site) ink ≡ storing plan scene (scalar_source plan scene (scalar.Local local)) 1 x site ink
unfolding making fresh_size fresh_strokes storing
given_drawn plan scene local x site ink = refl

pub filled_drawn : (plan : Plan) (scene : Scene) (local : ℕ) (width : Width) (ink : Ink) → making plan scene (Filled local width) ink ≡ stepped plan scene (filling plan scene (own_source plan scene local) width) None 0 ink
unfolding making fresh_size fresh_strokes stepped
filled_drawn plan scene local width ink = refl

pub blank_drawn : (plan : Plan) (scene : Scene) (local length : ℕ) (ink : Ink) → making plan scene (Blank local length) ink ≡ stepped plan scene (setting plan scene (own_source plan scene local) None) None 0 ink
unfolding making fresh_size fresh_strokes stepped
blank_drawn plan scene local length ink = refl

pub listed_drawn : (plan : Plan) (scene : Scene) (local length : ℕ) (values : List ℤ) (ink : Ink) → making plan scene (Listed local length values) ink ≡ stepped plan scene (setting plan scene (own_source plan scene local) (Some (range (low_of length values) (high_of length values)))) None 0 ink
unfolding making fresh_size fresh_strokes stepped
listed_drawn plan scene local length values ink = refl

-- ---- several

all_none : (plan : Plan) (scene : Scene) (ink : Ink) → declaring plan scene [] ink ≡ ink
unfolding declaring declared_size declared_strokes
all_none plan scene ink = put_none ink

all_next : (plan : Plan) (scene : Scene) (fresh : Fresh) (rest : List Fresh) (ink : Ink) → declaring plan scene (fresh ∷ rest) ink ≡ declaring plan scene rest (making plan scene fresh ink)
unfolding declaring declared_size declared_strokes making
all_next plan scene fresh rest ink =
    sym (put_after (fresh_size plan scene fresh) (declared_size plan scene rest) (fresh_strokes plan scene fresh ink.node) (λ node. declared_strokes plan scene rest node) ink)

pub each_all : (plan : Plan) (scene : Scene) (list : List Fresh) (ink : Ink) → making_each plan scene list ink ≡ declaring plan scene list ink
each_all plan scene [] ink = sym (all_none plan scene ink)
each_all plan scene (fresh ∷ rest) ink = each_all plan scene rest (making plan scene fresh ink) ∙ sym (all_next plan scene fresh rest ink)
