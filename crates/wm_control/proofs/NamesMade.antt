-- The scalars that declarations make, and statements that make none.
use Rattle.std.proofs.Common.{◌≡◌, ℕ, ℤ, Bool, List, [], ◌∷◌, Option, Some, None, refl}
use Rattle.wm_ops.specs.declared.operators.Width.{Width}
use Rattle.wm_program.specs.declared.tree.Converted.{Converted}
use Rattle.wm_program.specs.declared.tree.Expr.{Expr}
use Rattle.wm_program.specs.declared.tree.Otherwise.{Otherwise}
use Rattle.wm_program.specs.Tree.{Test, Tree}
use Rattle.wm_program.specs.Trees.{scalar_of, array_of, if_of, return_of}
use Rattle.wm_flow.specs.Statements.{scalar_made, made_in}

pub scalar_named : (local : ℕ) (width : Width) (initial : Option (Converted Expr)) → scalar_made (scalar_of local width initial) ≡ local ∷ []
scalar_named local width None = refl
scalar_named local width (Some initial) = refl

pub array_named : (local length : ℕ) (values : Option (List ℤ)) → scalar_made (array_of local length values) ≡ []
array_named local length None = refl
array_named local length (Some values) = refl

pub none_in_if : (is_counted : Bool) (test : Test) (first : Tree) (otherwise : Option (Otherwise Tree)) → made_in (if_of is_counted test first otherwise) ≡ []
none_in_if is_counted test first None = refl
none_in_if is_counted test first (Some otherwise) = refl

pub none_in_return : (value : Option (Converted Expr)) → made_in (return_of value) ≡ []
none_in_return None = refl
none_in_return (Some value) = refl
