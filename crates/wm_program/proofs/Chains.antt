-- The words of a chain are those of its first part, and then of the parts behind it.
use Rattle.std.proofs.Common.{◌≡◌, ◌∙◌, ℕ, Bool, List, [], ◌∷◌, map, refl, ap, sym}
use Rattle.wm_program.specs.declared.tree.Condition.{Condition}
use Rattle.wm_program.specs.declared.tree.Condition.TheVariants as condition
use Rattle.wm_program.specs.declared.tree.Expr.{Expr}
use Rattle.wm_program.specs.declared.tree.Expr.TheVariants as expr
use Rattle.wm_program.specs.declared.tree.Link.{Link}
use Rattle.wm_program.specs.Tree.{Expression, Test, Plain}
use Rattle.wm_program.specs.declared.tree.Expr.TheOpen.{Expr-F}
use Rattle.wm_program.specs.declared.tree.Expr.TheFolds.{fold-roll-Expr}
use Rattle.wm_program.specs.declared.tree.Condition.TheOpen.{Condition-F}
use Rattle.wm_program.specs.declared.tree.Condition.TheFolds.{fold-roll-Condition}
use Rattle.wm_program.specs.Trees.{chain_of, either_of, both_of, expression_of, expression_step, test_of, test_step}
use Rattle.wm_program.specs.UsedParts.{plain_link}
use Rattle.wm_program.specs.Used.{in_expression, in_links, in_test, in_tests}

pub in_chain : (word : ℕ) (first : Expression) (rest : List (Link Expression)) (found : Bool) → in_expression word (chain_of first rest) found ≡ in_links word rest (in_expression word first found)
in_chain word first [] found = refl
in_chain word first (link ∷ rest) found = in_chain word (Plain link.mark first link.operand link.site) rest found

pub in_either : (word : ℕ) (first : Test) (rest : List Test) (found : Bool) → in_test word (either_of first rest) found ≡ in_tests word rest (in_test word first found)
in_either word first [] found = refl
in_either word first (test ∷ rest) found = in_either word test rest (in_test word first found)

pub in_both : (word : ℕ) (first : Test) (rest : List Test) (found : Bool) → in_test word (both_of first rest) found ≡ in_tests word rest (in_test word first found)
in_both word first [] found = refl
in_both word first (test ∷ rest) found = in_both word test rest (in_test word first found)

-- ---- the same of the trees that the code walks

of_chain : (first : Expr) (rest : List (Link Expr)) → expression_of (expr.Chain first rest) ≡ chain_of (expression_of first) (map plain_link rest)
of_chain first rest = ap expression_of (sym (expr.rolls-Chain first rest)) ∙ fold-roll-Expr Expression expression_step (Expr-F.Chain first rest)

of_or : (first : Condition) (rest : List Condition) → test_of (condition.Or first rest) ≡ either_of (test_of first) (map test_of rest)
of_or first rest = ap test_of (sym (condition.rolls-Or first rest)) ∙ fold-roll-Condition Test test_step (Condition-F.Or first rest)

of_and : (first : Condition) (rest : List Condition) → test_of (condition.And first rest) ≡ both_of (test_of first) (map test_of rest)
of_and first rest = ap test_of (sym (condition.rolls-And first rest)) ∙ fold-roll-Condition Test test_step (Condition-F.And first rest)

pub chain_found : (word : ℕ) (x first : Expr) (rest : List (Link Expr)) (found before result : Bool) → x ≡ expr.Chain first rest → before ≡ in_expression word (expression_of first) found
    → result ≡ in_links word (map plain_link rest) before → result ≡ in_expression word (expression_of x) found
chain_found word x first rest found before result is one all =
    all
    ∙ ap (in_links word (map plain_link rest)) one
    ∙ sym (in_chain word (expression_of first) (map plain_link rest) found)
    ∙ ap (λ (e : Expression). in_expression word e found) (sym (of_chain first rest) ∙ ap expression_of (sym is))

pub or_found : (word : ℕ) (x first : Condition) (rest : List Condition) (found before result : Bool) → x ≡ condition.Or first rest → before ≡ in_test word (test_of first) found
    → result ≡ in_tests word (map test_of rest) before → result ≡ in_test word (test_of x) found
or_found word x first rest found before result is one all =
    all
    ∙ ap (in_tests word (map test_of rest)) one
    ∙ sym (in_either word (test_of first) (map test_of rest) found)
    ∙ ap (λ (t : Test). in_test word t found) (sym (of_or first rest) ∙ ap test_of (sym is))

pub and_found : (word : ℕ) (x first : Condition) (rest : List Condition) (found before result : Bool) → x ≡ condition.And first rest → before ≡ in_test word (test_of first) found
    → result ≡ in_tests word (map test_of rest) before → result ≡ in_test word (test_of x) found
and_found word x first rest found before result is one all =
    all
    ∙ ap (in_tests word (map test_of rest)) one
    ∙ sym (in_both word (test_of first) (map test_of rest) found)
    ∙ ap (λ (t : Test). in_test word t found) (sym (of_and first rest) ∙ ap test_of (sym is))
