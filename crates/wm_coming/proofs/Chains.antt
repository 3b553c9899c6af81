-- What a chain calls is what its first part calls, and then what the parts behind it call.
use Rattle.std.proofs.Common.{◌≡◌, ◌∙◌, Bool, true, false, List, [], ◌∷◌, map, refl, ap, sym}
use Rattle.std.specs.Prelude.{◌||◌}
use Rattle.wm_program.specs.declared.tree.Expr.{Expr}
use Rattle.wm_program.specs.declared.tree.Expr.TheVariants as expr
use Rattle.wm_program.specs.declared.tree.Link.{Link}
use Rattle.wm_program.specs.Tree.{Expression, Plain}
use Rattle.wm_program.specs.declared.tree.Expr.TheOpen.{Expr-F}
use Rattle.wm_program.specs.declared.tree.Expr.TheFolds.{fold-roll-Expr}
use Rattle.wm_program.specs.Trees.{chain_of, expression_of, expression_step}
use Rattle.wm_program.specs.UsedParts.{plain_link}
use Rattle.wm_flow.specs.Yields.{calls, operates}
use Rattle.wm_coming.specs.Chains.{calls_links, operates_links}

regroup : (a b c : Bool) → ((a || b) || c) ≡ (a || (b || c))
regroup true b c = refl
regroup false b c = refl

behind_none : (a : Bool) → (a || false) ≡ a
behind_none true = refl
behind_none false = refl

in_calls : (first : Expression) (rest : List (Link Expression)) → calls (chain_of first rest) ≡ (calls first || calls_links rest)
in_calls first [] = sym (behind_none (calls first))
in_calls first (link ∷ rest) =
    in_calls (Plain link.mark first link.operand link.site) rest ∙ regroup (calls first) (calls link.operand) (calls_links rest)

in_operates : (first : Expression) (rest : List (Link Expression)) → operates (chain_of first rest) ≡ (operates first || operates_links rest)
in_operates first [] = sym (behind_none (operates first))
in_operates first (link ∷ rest) =
    in_operates (Plain link.mark first link.operand link.site) rest ∙ regroup (operates first) (operates link.operand) (operates_links rest)

of_chain : (first : Expr) (rest : List (Link Expr)) → expression_of (expr.Chain first rest) ≡ chain_of (expression_of first) (map plain_link rest)
of_chain first rest = ap expression_of (sym (expr.rolls-Chain first rest)) ∙ fold-roll-Expr Expression expression_step (Expr-F.Chain first rest)

pub chain_calls : (x first : Expr) (rest : List (Link Expr)) → x ≡ expr.Chain first rest → (calls (expression_of first) || calls_links (map plain_link rest)) ≡ calls (expression_of x)
chain_calls x first rest is =
    sym (in_calls (expression_of first) (map plain_link rest)) ∙ ap calls (sym (of_chain first rest) ∙ ap expression_of (sym is))

pub chain_operates : (x first : Expr) (rest : List (Link Expr)) → x ≡ expr.Chain first rest → (operates (expression_of first) || operates_links (map plain_link rest)) ≡ operates (expression_of x)
chain_operates x first rest is =
    sym (in_operates (expression_of first) (map plain_link rest)) ∙ ap operates (sym (of_chain first rest) ∙ ap expression_of (sym is))

pub chain_calls_then : (x first : Expr) (rest : List (Link Expr)) (found : Bool) → x ≡ expr.Chain first rest → found ≡ calls (expression_of first) → found ≡ true → true ≡ calls (expression_of x)
chain_calls_then x first rest found is one holds =
    ap (λ (b : Bool). b || calls_links (map plain_link rest)) (sym holds ∙ one) ∙ chain_calls x first rest is

pub chain_calls_else : (x first : Expr) (rest : List (Link Expr)) (found result : Bool) → x ≡ expr.Chain first rest → found ≡ calls (expression_of first) → found ≡ false → result ≡ calls_links (map plain_link rest) → result ≡ calls (expression_of x)
chain_calls_else x first rest found result is one fails all =
    all ∙ (ap (λ (b : Bool). b || calls_links (map plain_link rest)) (sym fails ∙ one) ∙ chain_calls x first rest is)

pub chain_operates_then : (x first : Expr) (rest : List (Link Expr)) (found : Bool) → x ≡ expr.Chain first rest → found ≡ operates (expression_of first) → found ≡ true → true ≡ operates (expression_of x)
chain_operates_then x first rest found is one holds =
    ap (λ (b : Bool). b || operates_links (map plain_link rest)) (sym holds ∙ one) ∙ chain_operates x first rest is

pub chain_operates_else : (x first : Expr) (rest : List (Link Expr)) (found result : Bool) → x ≡ expr.Chain first rest → found ≡ operates (expression_of first) → found ≡ false → result ≡ operates_links (map plain_link rest) → result ≡ operates (expression_of x)
chain_operates_else x first rest found result is one fails all =
    all ∙ (ap (λ (b : Bool). b || operates_links (map plain_link rest)) (sym fails ∙ one) ∙ chain_operates x first rest is)
