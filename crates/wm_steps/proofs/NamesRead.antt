-- Names, by what they stand for.
use Rattle.std.proofs.Common.{◌≡◌, ℕ, suc, ℤ, None, refl}
use Rattle.wm_flow.specs.declared.scene.Scene.{Scene}
use Rattle.wm_flow.specs.declared.scene.Source.TheVariants.{Variable, Cells, Fixed}
use Rattle.wm_flow.specs.Places.{Plan, bases_of, temporary}
use Rattle.wm_flow.specs.Expressions.{reading, reading_site}
use Rattle.wm_pen.specs.Ink.{Ink}
use Rattle.wm_pen.proofs.Joins.{put_none}
use Rattle.wm_steps.specs.Moves.{stepped, naming}

pub naming_variable : (plan : Plan) (scene : Scene) (v temporaries : ℕ) (ink : Ink) → naming plan scene (Variable v) temporaries ink ≡ ink
unfolding naming
naming_variable plan scene v temporaries ink = put_none ink

pub naming_cells : (plan : Plan) (scene : Scene) (a temporaries : ℕ) (ink : Ink) → naming plan scene (Cells a) temporaries ink ≡ stepped plan scene (reading (Cells a) (temporary (bases_of plan scene) temporaries)) (reading_site (Cells a) None) (suc temporaries) ink
unfolding naming stepped
naming_cells plan scene a temporaries ink = refl

pub naming_fixed : (plan : Plan) (scene : Scene) (low high : ℤ) (temporaries : ℕ) (ink : Ink) → naming plan scene (Fixed low high) temporaries ink ≡ stepped plan scene (reading (Fixed low high) (temporary (bases_of plan scene) temporaries)) (reading_site (Fixed low high) None) (suc temporaries) ink
unfolding naming stepped
naming_fixed plan scene low high temporaries ink = refl
