-- What strokes, calls and loops count, one behind another.
use Rattle.std.proofs.Common.{◌≡◌, ℕ, ◌+◌, Bool, true, false, List, [], ◌∷◌, ◌++◌, Option, refl, arith}
use Rattle.std.specs.Prelude.{if◌then◌else◌}
use Rattle.wm_program.specs.WellFormed.{Calling}
use Rattle.wm_flow.specs.declared.seats.Tables.{Tables}
use Rattle.wm_flow.specs.declared.scene.Scene.{Scene}
use Rattle.wm_flow.specs.Plain.{Doing}
use Rattle.wm_flow.specs.Places.{Plan}
use Rattle.wm_flow.specs.Strokes.{Stroke, Point, Line, Part, Begins, Turns, point, step}
use Rattle.wm_heads.specs.Tally.{begins, called, own}

module _ (n : ℕ) (part : ℕ → ℕ) where
  pub join2 : (xs ys : List Stroke) (a b : ℕ) → begins n part xs ≡ a → begins n part ys ≡ b → begins n part (xs ++ ys) ≡ a + b
  unfolding begins
  join2 [] ys a b p q = omega (arith, p, q)
  join2 (Point context instance counters temporaries ∷ rest) ys a b p q = join2 rest ys a b p q
  join2 (Line source target doing site ∷ rest) ys a b p q = join2 rest ys a b p q
  join2 (Part instance start ∷ rest) ys a b p q = omega (arith, p, join2 rest ys (begins n part rest) b refl q)
  join2 (Begins head instance loop node ∷ rest) ys a b p q = omega (arith, p, join2 rest ys (begins n part rest) b refl q)
  join2 (Turns head ∷ rest) ys a b p q = join2 rest ys a b p q

  pub join3 : (x y z : List Stroke) (a b c : ℕ) → begins n part x ≡ a → begins n part y ≡ b → begins n part z ≡ c → begins n part (x ++ y ++ z) ≡ a + b + c
  join3 x y z a b c p q r = join2 (x ++ y) z (a + b) c (join2 x y a b p q) r

  pub join4 : (x y z u : List Stroke) (a b c d : ℕ) → begins n part x ≡ a → begins n part y ≡ b → begins n part z ≡ c → begins n part u ≡ d → begins n part (x ++ y ++ z ++ u) ≡ a + b + c + d
  join4 x y z u a b c d p q r s = join2 (x ++ y ++ z) u (a + b + c) d (join3 x y z a b c p q r) s

  pub join5 : (x y z u v : List Stroke) (a b c d e : ℕ) → begins n part x ≡ a → begins n part y ≡ b → begins n part z ≡ c → begins n part u ≡ d → begins n part v ≡ e → begins n part (x ++ y ++ z ++ u ++ v) ≡ a + b + c + d + e
  join5 x y z u v a b c d e p q r s t = join2 (x ++ y ++ z ++ u) v (a + b + c + d) e (join4 x y z u a b c d p q r s) t

  pub quiet_none : begins n part [] ≡ 0
  unfolding begins
  quiet_none = refl

  pub quiet_if : (b : Bool) (xs ys : List Stroke) → begins n part xs ≡ 0 → begins n part ys ≡ 0 → begins n part (if b then xs else ys) ≡ 0
  quiet_if true xs ys p q = p
  quiet_if false xs ys p q = q

  pub quiet_step : (plan : Plan) (scene : Scene) (node : ℕ) (doing : Doing) (site : Option ℕ) (temporaries : ℕ) → begins n part (step plan scene node doing site temporaries) ≡ 0
  unfolding step point begins
  quiet_step plan scene node doing site temporaries = refl

  pub quiet_point : (plan : Plan) (scene : Scene) (temporaries : ℕ) (rest : List Stroke) → begins n part (point plan scene temporaries ∷ rest) ≡ begins n part rest
  unfolding point begins
  quiet_point plan scene temporaries rest = refl

pub called_join : (part : ℕ → ℕ) (instance : ℕ) (xs ys : List Calling) → called part instance (xs ++ ys) ≡ called part instance xs + called part instance ys
called_join part instance [] ys = omega arith
called_join part instance (x ∷ xs) ys = omega (arith, called_join part instance xs ys)

pub own_join : (n : ℕ) (tables : Tables) (instance : ℕ) (xs ys : List ℕ) → own n tables instance (xs ++ ys) ≡ own n tables instance xs + own n tables instance ys
own_join n tables instance [] ys = omega arith
own_join n tables instance (x ∷ xs) ys = omega (arith, own_join n tables instance xs ys)
