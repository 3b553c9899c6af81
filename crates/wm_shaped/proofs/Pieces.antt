-- Pieces of strokes whose points fit their contexts, one behind another.
use Rattle.std.proofs.Common.{◌≡◌, ℕ, ◌+◌, Bool, true, false, List, [], ◌∷◌, ◌++◌, length, Option, Some}
use Rattle.std.specs.Prelude.{if◌then◌else◌}
use Rattle.wm_flow.specs.declared.scene.Scene.{Scene}
use Rattle.wm_flow.specs.Plain.{Doing}
use Rattle.wm_flow.specs.Places.{Plan, sums_in}
use Rattle.wm_flow.specs.Strokes.{Stroke, Point, Line, Part, Begins, Turns, context_of, point, step}
use Rattle.wm_shaped.specs.Fitting.{AreFitting}

module _ (owner : ℕ → Option ℕ) (counted : ℕ → ℕ) (May : ℕ → Type 0) where
  -- the points at a scene fit their context
  pub record Seated (plan : Plan) (scene : Scene) : Type 0 where
    pub owned : Some scene.instance ≡ owner (context_of plan.tables scene.instance scene.inner)
    pub sized : scene.depth + length (sums_in plan scene.instance scene.inner) ≡ counted (context_of plan.tables scene.instance scene.inner)

  abbrev Fit : List Stroke → Type 0
  Fit = AreFitting owner counted May

  pub join2 : (xs ys : List Stroke) → Fit xs → Fit ys → Fit (xs ++ ys)
  unfolding AreFitting
  join2 [] ys p q = q
  join2 (Point context instance counters temporaries ∷ rest) ys p q = (p.0, p.1, join2 rest ys p.2 q)
  join2 (Line source target doing site ∷ rest) ys p q = join2 rest ys p q
  join2 (Part instance start ∷ rest) ys p q = (p.0, join2 rest ys p.1 q)
  join2 (Begins head instance loop node ∷ rest) ys p q = join2 rest ys p q
  join2 (Turns head ∷ rest) ys p q = join2 rest ys p q

  pub join3 : (x y z : List Stroke) → Fit x → Fit y → Fit z → Fit (x ++ y ++ z)
  join3 x y z p q r = join2 (x ++ y) z (join2 x y p q) r

  pub join4 : (x y z u : List Stroke) → Fit x → Fit y → Fit z → Fit u → Fit (x ++ y ++ z ++ u)
  join4 x y z u p q r s = join2 (x ++ y ++ z) u (join3 x y z p q r) s

  pub join5 : (x y z u v : List Stroke) → Fit x → Fit y → Fit z → Fit u → Fit v → Fit (x ++ y ++ z ++ u ++ v)
  join5 x y z u v p q r s t = join2 (x ++ y ++ z ++ u) v (join4 x y z u p q r s) t

  pub none_fit : Fit []
  unfolding AreFitting
  none_fit = tt

  pub if_fit : (b : Bool) (xs ys : List Stroke) → Fit xs → Fit ys → Fit (if b then xs else ys)
  if_fit true xs ys p q = p
  if_fit false xs ys p q = q

  pub line_fits : (source target : ℕ) (doing : Doing) (site : Option ℕ) → Fit (Line source target doing site ∷ [])
  unfolding AreFitting
  line_fits source target doing site = tt

  pub step_fits : (plan : Plan) (scene : Scene) → Seated plan scene → (node : ℕ) (doing : Doing) (site : Option ℕ) (temporaries : ℕ) → Fit (step plan scene node doing site temporaries)
  unfolding step point AreFitting
  step_fits plan scene seat node doing site temporaries = (seat.owned, seat.sized, tt)

  pub point_fits : (plan : Plan) (scene : Scene) → Seated plan scene → (temporaries : ℕ) (rest : List Stroke) → Fit rest → Fit (point plan scene temporaries ∷ rest)
  unfolding point AreFitting
  point_fits plan scene seat temporaries rest h = (seat.owned, seat.sized, h)
