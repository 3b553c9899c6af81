-- Whether a counted word stands in a body: each answer is that of what was looked at before, or that the word stands here.
use Rattle.std.specs.Prelude.{ℕ, Bool, true, false, ◌||◌, ◌&&◌, ◌==◌, List, [], ◌∷◌, map, Option, Some, None, slice_get}
use Rattle.std.specs.Option.{option_map_or}
use Rattle.wm_ops.specs.declared.words.ControlWord.{ControlWord}
use Rattle.wm_ops.specs.declared.words.ControlWord.TheVariants as control
use Rattle.wm_ops.specs.declared.words.Counted.{Counted}
use Rattle.wm_ops.specs.declared.words.Counted.TheVariants as counted
use Rattle.wm_ops.specs.Words.{word_number_of}
use Rattle.wm_program.specs.declared.program.FunctionInfo.{FunctionInfo}
use Rattle.wm_program.specs.declared.program.InstanceInfo.{InstanceInfo}
use Rattle.wm_program.specs.declared.program.Program.{Program}
use Rattle.wm_program.specs.declared.tree.Link.{Link}
use Rattle.wm_program.specs.Tree.{Expression, Arguments, Test, Target, Effect, Fresh, Tree, Constant, Named, Element, Operator, Invoke, Plain, Negate, Plus, Cast, Done, Value, Whole, From, Always, Either, Both, Not, Compare, Truth, Variable, Item, Assign, Update, Evaluate, Count, Given, Filled, Blank, Listed, Skip, Seq, Block, Empty, Declare, Act, If, IfElse, For, While, Do, Break, Continue, Return, Leave}
use Rattle.wm_program.specs.UsedParts.{tree_all}

-- the word of this number is this one
abbrev pub is_word : ℕ → Counted → Bool → Bool
is_word word this found = found || (word_number_of this == word)

-- a control word in capitals
abbrev pub is_control : ℕ → Bool → ControlWord → Bool → Bool
is_control word is_counted this found = found || (is_counted && (word_number_of (counted.Word this) == word))

abbrev mutual
  pub in_expression : ℕ → Expression → Bool → Bool
  in_expression word (Constant z) found = found
  in_expression word (Named scalar) found = found
  in_expression word (Element array index site) found = in_expression word index found
  in_expression word (Operator op args site) found = in_arguments word args (is_word word (counted.Operator op) found)
  in_expression word (Invoke function offset args) found = in_arguments word args found
  in_expression word (Plain mark x y site) found = in_expression word y (in_expression word x found)
  in_expression word (Negate x site) found = in_expression word x found
  in_expression word (Plus x) found = in_expression word x found
  in_expression word (Cast width x) found = in_expression word x found

  pub in_arguments : ℕ → Arguments → Bool → Bool
  in_arguments word Done found = found
  in_arguments word (Value x narrowing rest) found = in_arguments word rest (in_expression word x found)
  in_arguments word (Whole array rest) found = in_arguments word rest found
  in_arguments word (From array index site rest) found = in_arguments word rest (in_expression word index found)

-- the operands behind the first of a chain
abbrev pub in_links : ℕ → List (Link Expression) → Bool → Bool
in_links word [] found = found
in_links word (link ∷ rest) found = in_links word rest (in_expression word link.operand found)

abbrev pub in_test : ℕ → Test → Bool → Bool
in_test word Always found = found
in_test word (Either a b) found = in_test word b (in_test word a found)
in_test word (Both a b) found = in_test word b (in_test word a found)
in_test word (Not a) found = in_test word a found
in_test word (Compare x mark y) found = in_expression word y (in_expression word x found)
in_test word (Truth x) found = in_expression word x found

-- the conditions behind the first of a chain
abbrev pub in_tests : ℕ → List Test → Bool → Bool
in_tests word [] found = found
in_tests word (test ∷ rest) found = in_tests word rest (in_test word test found)

abbrev pub in_target : ℕ → Target → Bool → Bool
in_target word (Variable scalar) found = found
in_target word (Item array index site) found = in_expression word index found

abbrev pub in_effect : ℕ → Effect → Bool → Bool
in_effect word (Assign target x narrowing) found = in_expression word x (in_target word target found)
in_effect word (Update target mark x arithmetic narrowing) found = in_expression word x (in_target word target found)
in_effect word (Evaluate x) found = in_expression word x found
in_effect word (Count call) found = is_word word (counted.Call call) found

abbrev pub in_effects : ℕ → List Effect → Bool → Bool
in_effects word [] found = found
in_effects word (effect ∷ rest) found = in_effects word rest (in_effect word effect found)

abbrev pub in_fresh : ℕ → Fresh → Bool → Bool
in_fresh word (Given local x narrowing) found = in_expression word x found
in_fresh word (Filled local width) found = found
in_fresh word (Blank local length) found = found
in_fresh word (Listed local length values) found = found

abbrev pub in_all_fresh : ℕ → List Fresh → Bool → Bool
in_all_fresh word [] found = found
in_all_fresh word (fresh ∷ rest) found = in_all_fresh word rest (in_fresh word fresh found)

-- the tail word of a do is `WHILE`
abbrev pub in_tree : ℕ → Tree → Bool → Bool
in_tree word Skip found = found
in_tree word (Seq a b) found = in_tree word b (in_tree word a found)
in_tree word (Block a) found = in_tree word a found
in_tree word Empty found = found
in_tree word (Declare all) found = in_all_fresh word all found
in_tree word (Act effect) found = in_effect word effect found
in_tree word (If is_counted test a) found = in_tree word a (in_test word test (is_control word is_counted control.If found))
in_tree word (IfElse is_counted test a is_else_counted b) found =
    in_tree word b (is_control word is_else_counted control.Else (in_tree word a (in_test word test (is_control word is_counted control.If found))))
in_tree word (For is_counted loop begin test step a) found =
    in_tree word a (in_effects word step (in_test word test (in_effects word begin (is_control word is_counted control.For found))))
in_tree word (While is_counted loop test a) found = in_tree word a (in_test word test (is_control word is_counted control.While found))
in_tree word (Do is_counted is_tail_counted loop a test) found =
    in_test word test (is_control word is_tail_counted control.While (in_tree word a (is_control word is_counted control.Do found)))
in_tree word (Break is_counted) found = is_control word is_counted control.Break found
in_tree word (Continue is_counted) found = is_control word is_counted control.Continue found
in_tree word (Return x narrowing) found = in_expression word x found
in_tree word Leave found = found

-- ---- programs

abbrev pub in_function : ℕ → Option FunctionInfo → Bool → Bool
in_function word None found = found
in_function word (Some function) found = in_tree word (tree_all function.body.statements) found

abbrev pub in_instances : ℕ → List FunctionInfo → List InstanceInfo → Bool → Bool
in_instances word functions [] found = found
in_instances word functions (instance ∷ rest) found =
    in_instances word functions rest (in_function word (slice_get functions instance.function) found)

-- the word stands in the body of a function that has an instance
unfoldable pub uses : Program → Counted → Bool
uses program word = in_instances (word_number_of word) program.functions program.instances false
