-- The plain parts of declared ones, that a tree has more than one of.
use Rattle.std.specs.Prelude.{List, map}
use Rattle.wm_program.specs.declared.tree.Converted.{Converted}
use Rattle.wm_program.specs.declared.tree.Link.{Link}
use Rattle.wm_program.specs.declared.tree.View.{View}
use Rattle.wm_program.specs.declared.tree.View.TheVariants as view
use Rattle.wm_program.specs.declared.tree.Passed.{Passed}
use Rattle.wm_program.specs.declared.tree.Passed.TheVariants as passed
use Rattle.wm_program.specs.declared.tree.Expr.{Expr}
use Rattle.wm_program.specs.declared.tree.Condition.{Condition}
use Rattle.wm_program.specs.declared.tree.Statement.{Statement}
use Rattle.wm_program.specs.Tree.{Expression, Arguments, Tree}
use Rattle.wm_program.specs.Trees.{expression_of, tree_of, values_of, arguments_of, all_of}

abbrev pub plain_value : Converted Expr → Converted Expression
plain_value x = record { value = expression_of x.value; narrowing = x.narrowing }

abbrev pub plain_link : Link Expr → Link Expression
plain_link link = record { mark = link.mark; site = link.site; operand = expression_of link.operand }

abbrev pub plain_view : View Expr → View Expression
plain_view (view.Whole array) = view.Whole array
plain_view (view.From array index site) = view.From array (expression_of index) site

abbrev pub plain_passed : Passed Expr → Passed Expression
plain_passed (passed.Value x) = passed.Value (plain_value x)
plain_passed (passed.View x) = passed.View (plain_view x)

-- the arguments of an operator, and of a function
abbrev pub operands_of : List (Converted Expr) → Arguments
operands_of xs = values_of (map plain_value xs)

abbrev pub passed_in : List (Passed Expr) → Arguments
passed_in xs = arguments_of (map plain_passed xs)

abbrev pub tree_all : List Statement → Tree
tree_all statements = all_of (map tree_of statements)
