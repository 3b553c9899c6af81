-- A function that is applied again and again.
use Rattle.std.specs.Prelude.{ℕ, zero, suc}

unfoldable pub repeated : {A : Type 0} → ℕ → (A → A) → A → A
repeated zero f x = x
repeated (suc n) f x = repeated n f (f x)
