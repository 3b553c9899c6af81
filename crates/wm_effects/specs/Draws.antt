-- What a pen draws of statements without words of their own, and of declarations.
use Rattle.std.specs.Prelude.{List, [], ◌∷◌}
use Rattle.wm_program.specs.Tree.{Effect, Fresh}
use Rattle.wm_flow.specs.declared.scene.Scene.{Scene}
use Rattle.wm_flow.specs.Places.{Plan}
use Rattle.wm_flow.specs.Effects.{effect_size, effect_strokes, effects_size, effects_strokes, fresh_size, fresh_strokes, declared_size, declared_strokes}
use Rattle.wm_pen.specs.Ink.{Ink, put}

unfoldable pub acting : Plan → Scene → Effect → Ink → Ink
acting plan scene effect ink = put (effect_size plan scene effect) (effect_strokes plan scene effect ink.node) ink

unfoldable pub acting_all : Plan → Scene → List Effect → Ink → Ink
acting_all plan scene effects ink = put (effects_size plan scene effects) (effects_strokes plan scene effects ink.node) ink

-- one name of a declaration
unfoldable pub making : Plan → Scene → Fresh → Ink → Ink
making plan scene fresh ink = put (fresh_size plan scene fresh) (fresh_strokes plan scene fresh ink.node) ink

unfoldable pub declaring : Plan → Scene → List Fresh → Ink → Ink
declaring plan scene fresh ink = put (declared_size plan scene fresh) (declared_strokes plan scene fresh ink.node) ink

-- ---- one after another

abbrev pub acting_each : Plan → Scene → List Effect → Ink → Ink
acting_each plan scene [] ink = ink
acting_each plan scene (effect ∷ rest) ink = acting_each plan scene rest (acting plan scene effect ink)

abbrev pub making_each : Plan → Scene → List Fresh → Ink → Ink
making_each plan scene [] ink = ink
making_each plan scene (fresh ∷ rest) ink = making_each plan scene rest (making plan scene fresh ink)
