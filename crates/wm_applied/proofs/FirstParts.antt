-- A chain is its first part where there is nothing behind it, and else a plain operator.
use Rattle.std.proofs.Common.{◌≡◌, ◌∙◌, false, List, [], ◌∷◌, None, map, refl, ap}
use Rattle.wm_program.specs.declared.tree.Expr.{Expr}
use Rattle.wm_program.specs.declared.tree.Expr.TheVariants as expr
use Rattle.wm_program.specs.declared.tree.Link.{Link}
use Rattle.wm_program.specs.Tree.{Expression, Plain}
use Rattle.wm_program.specs.Trees.{chain_of, expression_of}
use Rattle.wm_program.specs.UsedParts.{plain_link}
use Rattle.wm_flow.specs.Tests.{is_nought}
use Rattle.wm_applied.specs.Applications.{operator_in}
use Rattle.wm_applied.proofs.Levels.{of_chain}

operator_behind : (first : Expression) (link : Link Expression) (rest : List (Link Expression)) → operator_in (chain_of first (link ∷ rest)) ≡ None
operator_behind first link [] = refl
operator_behind first link (next ∷ rest) = operator_behind (Plain link.mark first link.operand link.site) next rest

nought_behind : (first : Expression) (link : Link Expression) (rest : List (Link Expression)) → is_nought (chain_of first (link ∷ rest)) ≡ false
nought_behind first link [] = refl
nought_behind first link (next ∷ rest) = nought_behind (Plain link.mark first link.operand link.site) next rest

pub operator_alone : (first : Expr) → operator_in (expression_of (expr.Chain first [])) ≡ operator_in (expression_of first)
operator_alone first = ap operator_in (of_chain first [])

pub operator_among : (first : Expr) (link : Link Expr) (rest : List (Link Expr)) → operator_in (expression_of (expr.Chain first (link ∷ rest))) ≡ None
operator_among first link rest = ap operator_in (of_chain first (link ∷ rest)) ∙ operator_behind (expression_of first) (plain_link link) (map plain_link rest)

pub nought_alone : (first : Expr) → is_nought (expression_of (expr.Chain first [])) ≡ is_nought (expression_of first)
nought_alone first = ap is_nought (of_chain first [])

pub nought_among : (first : Expr) (link : Link Expr) (rest : List (Link Expr)) → is_nought (expression_of (expr.Chain first (link ∷ rest))) ≡ false
nought_among first link rest = ap is_nought (of_chain first (link ∷ rest)) ∙ nought_behind (expression_of first) (plain_link link) (map plain_link rest)
