-- The number of a spot, by what the spot is, and a value that is dropped, by whether it stands in a temporary.
use Rattle.std.proofs.Common.{◌≡◌, ℕ, Bool, true, false, if◌then◌else◌, ℤ, [], Option, None, refl}
use Rattle.std.specs.Prelude.{◌==◌}
use Rattle.wm_flow.specs.declared.kept.Kept.{Kept}
use Rattle.wm_flow.specs.declared.scene.Scene.{Scene}
use Rattle.wm_flow.specs.declared.scene.Source.TheVariants.{Variable, Cells, Fixed}
use Rattle.wm_flow.specs.Places.{Plan, bases_of, temporary}
use Rattle.wm_flow.specs.Strokes.{step, nothing}
use Rattle.wm_flow.specs.Yields.{after}
use Rattle.wm_flow.specs.Expressions.{reading, reading_site}
use Rattle.wm_pen.specs.Ink.{Ink, put}
use Rattle.wm_pen.proofs.Joins.{put_none}
use Rattle.wm_steps.specs.Moves.{stepped}
use Rattle.wm_stores.specs.Draws.{looking, dropping}

pub looking_variable : (plan : Plan) (scene : Scene) (v : ℕ) (site : Option ℕ) (ink : Ink) → looking plan scene (Variable v) site ink ≡ ink
unfolding looking
looking_variable plan scene v site ink = put_none ink

pub looking_cells : (plan : Plan) (scene : Scene) (a : ℕ) (site : Option ℕ) (ink : Ink) → looking plan scene (Cells a) site ink ≡ stepped plan scene (reading (Cells a) (temporary (bases_of plan scene) 0)) (reading_site (Cells a) site) 1 ink
unfolding looking stepped
looking_cells plan scene a site ink = refl

pub looking_fixed : (plan : Plan) (scene : Scene) (low high : ℤ) (site : Option ℕ) (ink : Ink) → looking plan scene (Fixed low high) site ink ≡ stepped plan scene (reading (Fixed low high) (temporary (bases_of plan scene) 0)) (reading_site (Fixed low high) site) 1 ink
unfolding looking stepped
looking_fixed plan scene low high site ink = refl

drop_as : (none : Bool) (plan : Plan) (scene : Scene) (ink : Ink) → put (if none then 0 else 1) (if none then [] else step plan scene ink.node nothing None 0) ink ≡ (if none then ink else stepped plan scene nothing None 0 ink)
unfolding stepped
drop_as true plan scene ink = put_none ink
drop_as false plan scene ink = refl

pub dropping_as : (plan : Plan) (scene : Scene) (kept : Kept) (ink : Ink) → dropping plan scene kept ink ≡ (if after (bases_of plan scene) kept 0 == 0 then ink else stepped plan scene nothing None 0 ink)
unfolding dropping
dropping_as plan scene kept ink = drop_as (after (bases_of plan scene) kept 0 == 0) plan scene ink
