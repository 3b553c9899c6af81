-- Each kind of expression: its value, and its strokes behind those of its parts.
use Rattle.std.proofs.Common.{◌≡◌, ℕ, suc, ◌+◌, ℤ, List, [], ◌∷◌, ◌++◌, Some, None, map, refl, ap, sym, ◌∙◌, arith}
use Rattle.wm_ops.specs.declared.operators.Op.{Op}
use Rattle.wm_ops.specs.declared.operators.Width.{Width}
use Rattle.wm_program.specs.declared.tree.Array.{Array}
use Rattle.wm_program.specs.declared.tree.Scalar.{Scalar}
use Rattle.wm_program.specs.declared.tree.Converted.{Converted}
use Rattle.wm_program.specs.declared.tree.Call as call_type
use Rattle.wm_program.specs.declared.tree.Expr.{Expr}
use Rattle.wm_program.specs.declared.tree.Expr.TheVariants as expr
use Rattle.wm_program.specs.Trees.{expression_of}
use Rattle.wm_program.specs.UsedParts.{plain_value, plain_passed, operands_of, passed_in}
use Rattle.wm_applied.proofs.Levels.{of_constant, of_scalar, of_element, of_operator, of_call, of_negate, of_plus, of_cast}
use Rattle.wm_program.specs.Tree.{Expression, Arguments, Constant, Named, Element, Operator, Invoke, Negate, Plus, Cast}
use Rattle.wm_program.specs.Code.{function_of}
use Rattle.wm_flow.specs.declared.action.Combined.TheVariants.{Negative}
use Rattle.wm_flow.specs.declared.scene.Scene.{Scene}
use Rattle.wm_flow.specs.Kept.{constant, variable, negative_of}
use Rattle.wm_flow.specs.Places.{Plan, bases_of, temporary, scalar_source, offset_of}
use Rattle.wm_flow.specs.Strokes.{step, tested}
use Rattle.wm_flow.specs.Yields.{after}
use Rattle.wm_flow.specs.Expressions.{value, values_after, no_values, named_value, call_value, size, sizes, strokes, all_strokes, place_size, element_strokes, operate_size, operate_strokes, call_size, call_strokes, cast_doing, least32, greatest32}
use Rattle.wm_pen.specs.Ink.{Ink, put}
use Rattle.wm_pen.proofs.Joins.{put_none, put_after}
use Rattle.wm_steps.specs.Moves.{stepped, naming, operating}
use Rattle.wm_results.specs.Draws.{indexing, negating, casting, calling}
use Rattle.wm_values.specs.Draws.{evaluating, evaluating_all}
use Rattle.wm_values.specs.Turns.{argued_all, arguing_all, handed_all, handing_all}
use Rattle.wm_values.proofs.ArgumentsDrawn.{operands_after, operands_drawn, passed_after, passed_drawn}
use Rattle.wm_flow.specs.declared.scene.Held.{Held}

-- ---- values

value_constant : (plan : Plan) (scene : Scene) (z : ℤ) (t : ℕ) → value plan scene (Constant z) t ≡ constant z
unfolding value
value_constant plan scene z t = refl

value_named : (plan : Plan) (scene : Scene) (scalar : Scalar) (t : ℕ) → value plan scene (Named scalar) t ≡ named_value plan scene (scalar_source plan scene scalar) t
unfolding value
value_named plan scene scalar t = refl

value_element : (plan : Plan) (scene : Scene) (array : Array) (index : Expression) (site t : ℕ) → value plan scene (Element array index site) t ≡ variable (temporary (bases_of plan scene) t)
unfolding value
value_element plan scene array index site t = refl

value_operator : (plan : Plan) (scene : Scene) (op : Op) (args : Arguments) (site t : ℕ) → value plan scene (Operator op args site) t ≡ variable (temporary (bases_of plan scene) t)
unfolding value
value_operator plan scene op args site t = refl

value_invoke : (plan : Plan) (scene : Scene) (function offset : ℕ) (args : Arguments) (t : ℕ) → value plan scene (Invoke function offset args) t ≡ call_value plan (bases_of plan scene) (function_of plan.code (scene.instance + offset)) t
unfolding value
value_invoke plan scene function offset args t = refl

value_negate : (plan : Plan) (scene : Scene) (x : Expression) (site t : ℕ) → value plan scene (Negate x site) t ≡ negative_of (value plan scene x t)
unfolding value
value_negate plan scene x site t = refl

value_plus : (plan : Plan) (scene : Scene) (x : Expression) (t : ℕ) → value plan scene (Plus x) t ≡ value plan scene x t
unfolding value
value_plus plan scene x t = refl

value_cast : (plan : Plan) (scene : Scene) (width : Width) (x : Expression) (t : ℕ) → value plan scene (Cast width x) t ≡ variable (temporary (bases_of plan scene) t)
unfolding value
value_cast plan scene width x t = refl

-- ---- strokes

drawn_constant : (plan : Plan) (scene : Scene) (z : ℤ) (t : ℕ) (ink : Ink) → evaluating plan scene (Constant z) t ink ≡ ink
unfolding evaluating size strokes
drawn_constant plan scene z t ink = put_none ink

drawn_named : (plan : Plan) (scene : Scene) (scalar : Scalar) (t : ℕ) (ink : Ink) → evaluating plan scene (Named scalar) t ink ≡ naming plan scene (scalar_source plan scene scalar) t ink
unfolding evaluating size strokes naming
drawn_named plan scene scalar t ink = refl

drawn_element : (plan : Plan) (scene : Scene) (array : Array) (index : Expression) (site t : ℕ) (ink : Ink) → evaluating plan scene (Element array index site) t ink ≡ indexing plan scene array site (value plan scene index t) t (evaluating plan scene index t ink)
unfolding evaluating size strokes indexing
drawn_element plan scene array index site t ink =
    let a = size plan scene index t in
    let b = place_size (offset_of plan scene array) (value plan scene index t) in
    let both = strokes plan scene index ink.node t ++ element_strokes plan scene array site (value plan scene index t) (ink.node + a) t in
    let e : a + b + 1 ≡ a + (b + 1) = omega arith in
    ap (λ n. put n both ink) e
    ∙ sym (put_after a (b + 1) (strokes plan scene index ink.node t) (λ node. element_strokes plan scene array site (value plan scene index t) node t) ink)

drawn_operator : (plan : Plan) (scene : Scene) (op : Op) (args : Arguments) (site t : ℕ) (ink : Ink) → evaluating plan scene (Operator op args site) t ink ≡ operating plan scene op site (values_after plan scene args (no_values plan scene t)) (temporary (bases_of plan scene) t) (suc t) (evaluating_all plan scene args (no_values plan scene t) ink)
unfolding evaluating evaluating_all size strokes operating
drawn_operator plan scene op args site t ink =
    let none = no_values plan scene t in
    let held = values_after plan scene args none in
    sym (put_after (sizes plan scene args none) (operate_size (bases_of plan scene) held) (all_strokes plan scene args ink.node none) (λ node. operate_strokes plan scene op site held node (temporary (bases_of plan scene) t) (suc t)) ink)

drawn_invoke : (plan : Plan) (scene : Scene) (function offset : ℕ) (args : Arguments) (t : ℕ) (ink : Ink) → evaluating plan scene (Invoke function offset args) t ink ≡ calling plan scene (function_of plan.code (scene.instance + offset)) (scene.instance + offset) (values_after plan scene args (no_values plan scene t)).values t (evaluating_all plan scene args (no_values plan scene t) ink)
unfolding evaluating evaluating_all size strokes calling
drawn_invoke plan scene function offset args t ink =
    let none = no_values plan scene t in
    let instance = scene.instance + offset in
    sym (put_after (sizes plan scene args none) (call_size plan instance) (all_strokes plan scene args ink.node none) (λ node. call_strokes plan scene (function_of plan.code instance) instance (values_after plan scene args none).values node t) ink)

drawn_negate : (plan : Plan) (scene : Scene) (x : Expression) (site t : ℕ) (ink : Ink) → evaluating plan scene (Negate x site) t ink ≡ negating plan scene (value plan scene x t) site t (evaluating plan scene x t ink)
unfolding evaluating size strokes negating stepped
drawn_negate plan scene x site t ink =
    let a = value plan scene x t in
    sym (put_after (size plan scene x t) 1 (strokes plan scene x ink.node t) (λ node. step plan scene node (tested (negative_of a) (a ∷ []) least32 greatest32 Negative) (Some site) (after (bases_of plan scene) a t)) ink)

drawn_plus : (plan : Plan) (scene : Scene) (x : Expression) (t : ℕ) (ink : Ink) → evaluating plan scene (Plus x) t ink ≡ evaluating plan scene x t ink
unfolding evaluating size strokes
drawn_plus plan scene x t ink = refl

drawn_cast : (plan : Plan) (scene : Scene) (width : Width) (x : Expression) (t : ℕ) (ink : Ink) → evaluating plan scene (Cast width x) t ink ≡ casting plan scene width (value plan scene x t) t (evaluating plan scene x t ink)
unfolding evaluating size strokes casting stepped
drawn_cast plan scene width x t ink =
    sym (put_after (size plan scene x t) 1 (strokes plan scene x ink.node t) (λ node. step plan scene node (cast_doing plan scene width (value plan scene x t) (temporary (bases_of plan scene) t)) None (suc t)) ink)

-- ---- the variants of the declared tree

pub on_constant_value : (plan : Plan) (scene : Scene) (z : ℤ) (t : ℕ) → value plan scene (expression_of (expr.Constant z)) t ≡ constant z
on_constant_value plan scene z t = ap (λ (e : Expression). value plan scene e t) (of_constant z) ∙ value_constant plan scene z t

pub on_constant_drawn : (plan : Plan) (scene : Scene) (z : ℤ) (t : ℕ) (ink : Ink) → evaluating plan scene (expression_of (expr.Constant z)) t ink ≡ ink
on_constant_drawn plan scene z t ink = ap (λ (e : Expression). evaluating plan scene e t ink) (of_constant z) ∙ drawn_constant plan scene z t ink

pub on_scalar_value : (plan : Plan) (scene : Scene) (scalar : Scalar) (t : ℕ) → value plan scene (expression_of (expr.Scalar scalar)) t ≡ named_value plan scene (scalar_source plan scene scalar) t
on_scalar_value plan scene scalar t = ap (λ (e : Expression). value plan scene e t) (of_scalar scalar) ∙ value_named plan scene scalar t

pub on_scalar_drawn : (plan : Plan) (scene : Scene) (scalar : Scalar) (t : ℕ) (ink : Ink) → evaluating plan scene (expression_of (expr.Scalar scalar)) t ink ≡ naming plan scene (scalar_source plan scene scalar) t ink
on_scalar_drawn plan scene scalar t ink = ap (λ (e : Expression). evaluating plan scene e t ink) (of_scalar scalar) ∙ drawn_named plan scene scalar t ink

pub on_element_value : (plan : Plan) (scene : Scene) (array : Array) (index : Expr) (site : ℕ) (t : ℕ) → value plan scene (expression_of (expr.Element array index site)) t ≡ variable (temporary (bases_of plan scene) t)
on_element_value plan scene array index site t = ap (λ (e : Expression). value plan scene e t) (of_element array index site) ∙ value_element plan scene array (expression_of index) site t

pub on_element_drawn : (plan : Plan) (scene : Scene) (array : Array) (index : Expr) (site : ℕ) (t : ℕ) (ink : Ink) → evaluating plan scene (expression_of (expr.Element array index site)) t ink ≡ indexing plan scene array site (value plan scene (expression_of index) t) t (evaluating plan scene (expression_of index) t ink)
on_element_drawn plan scene array index site t ink = ap (λ (e : Expression). evaluating plan scene e t ink) (of_element array index site) ∙ drawn_element plan scene array (expression_of index) site t ink

pub on_operator_value : (plan : Plan) (scene : Scene) (op : Op) (args : List (Converted Expr)) (site : ℕ) (t : ℕ) → value plan scene (expression_of (expr.Operator op args site)) t ≡ variable (temporary (bases_of plan scene) t)
on_operator_value plan scene op args site t = ap (λ (e : Expression). value plan scene e t) (of_operator op args site) ∙ value_operator plan scene op (operands_of args) site t

pub on_operator_drawn : (plan : Plan) (scene : Scene) (op : Op) (args : List (Converted Expr)) (site : ℕ) (t : ℕ) (ink : Ink) → evaluating plan scene (expression_of (expr.Operator op args site)) t ink ≡ operating plan scene op site (argued_all plan scene (map plain_value args) (no_values plan scene t)) (temporary (bases_of plan scene) t) (suc t) (arguing_all plan scene (map plain_value args) (no_values plan scene t) ink)
on_operator_drawn plan scene op args site t ink =
    let none = no_values plan scene t in
    let target = temporary (bases_of plan scene) t in
    ap (λ (e : Expression). evaluating plan scene e t ink) (of_operator op args site)
    ∙ (drawn_operator plan scene op (operands_of args) site t ink
    ∙ (ap (λ (held : Held). operating plan scene op site held target (suc t) (evaluating_all plan scene (operands_of args) none ink)) (sym (operands_after plan scene (map plain_value args) none))
    ∙ ap (λ (k : Ink). operating plan scene op site (argued_all plan scene (map plain_value args) none) target (suc t) k) (sym (operands_drawn plan scene (map plain_value args) none ink))))

pub on_call_value : (plan : Plan) (scene : Scene) (call : call_type.Call Expr) (t : ℕ) → value plan scene (expression_of (expr.Call call)) t ≡ call_value plan (bases_of plan scene) (function_of plan.code (scene.instance + call.offset)) t
on_call_value plan scene call t = ap (λ (e : Expression). value plan scene e t) (of_call call) ∙ value_invoke plan scene call.function call.offset (passed_in call.arguments) t

pub on_call_drawn : (plan : Plan) (scene : Scene) (call : call_type.Call Expr) (t : ℕ) (ink : Ink) → evaluating plan scene (expression_of (expr.Call call)) t ink ≡ calling plan scene (function_of plan.code (scene.instance + call.offset)) (scene.instance + call.offset) (handed_all plan scene (map plain_passed call.arguments) (no_values plan scene t)).values t (handing_all plan scene (map plain_passed call.arguments) (no_values plan scene t) ink)
on_call_drawn plan scene call t ink =
    let none = no_values plan scene t in
    let instance = scene.instance + call.offset in
    let function = function_of plan.code instance in
    ap (λ (e : Expression). evaluating plan scene e t ink) (of_call call)
    ∙ (drawn_invoke plan scene call.function call.offset (passed_in call.arguments) t ink
    ∙ (ap (λ (held : Held). calling plan scene function instance held.values t (evaluating_all plan scene (passed_in call.arguments) none ink)) (sym (passed_after plan scene (map plain_passed call.arguments) none))
    ∙ ap (λ (k : Ink). calling plan scene function instance (handed_all plan scene (map plain_passed call.arguments) none).values t k) (sym (passed_drawn plan scene (map plain_passed call.arguments) none ink))))

pub on_negate_value : (plan : Plan) (scene : Scene) (operand : Expr) (site : ℕ) (t : ℕ) → value plan scene (expression_of (expr.Negate operand site)) t ≡ negative_of (value plan scene (expression_of operand) t)
on_negate_value plan scene operand site t = ap (λ (e : Expression). value plan scene e t) (of_negate operand site) ∙ value_negate plan scene (expression_of operand) site t

pub on_negate_drawn : (plan : Plan) (scene : Scene) (operand : Expr) (site : ℕ) (t : ℕ) (ink : Ink) → evaluating plan scene (expression_of (expr.Negate operand site)) t ink ≡ negating plan scene (value plan scene (expression_of operand) t) site t (evaluating plan scene (expression_of operand) t ink)
on_negate_drawn plan scene operand site t ink = ap (λ (e : Expression). evaluating plan scene e t ink) (of_negate operand site) ∙ drawn_negate plan scene (expression_of operand) site t ink

pub on_plus_value : (plan : Plan) (scene : Scene) (operand : Expr) (t : ℕ) → value plan scene (expression_of (expr.Plus operand)) t ≡ value plan scene (expression_of operand) t
on_plus_value plan scene operand t = ap (λ (e : Expression). value plan scene e t) (of_plus operand) ∙ value_plus plan scene (expression_of operand) t

pub on_plus_drawn : (plan : Plan) (scene : Scene) (operand : Expr) (t : ℕ) (ink : Ink) → evaluating plan scene (expression_of (expr.Plus operand)) t ink ≡ evaluating plan scene (expression_of operand) t ink
on_plus_drawn plan scene operand t ink = ap (λ (e : Expression). evaluating plan scene e t ink) (of_plus operand) ∙ drawn_plus plan scene (expression_of operand) t ink

pub on_cast_value : (plan : Plan) (scene : Scene) (to : Width) (operand : Expr) (t : ℕ) → value plan scene (expression_of (expr.Cast to operand)) t ≡ variable (temporary (bases_of plan scene) t)
on_cast_value plan scene to operand t = ap (λ (e : Expression). value plan scene e t) (of_cast to operand) ∙ value_cast plan scene to (expression_of operand) t

pub on_cast_drawn : (plan : Plan) (scene : Scene) (to : Width) (operand : Expr) (t : ℕ) (ink : Ink) → evaluating plan scene (expression_of (expr.Cast to operand)) t ink ≡ casting plan scene to (value plan scene (expression_of operand) t) t (evaluating plan scene (expression_of operand) t ink)
on_cast_drawn plan scene to operand t ink = ap (λ (e : Expression). evaluating plan scene e t ink) (of_cast to operand) ∙ drawn_cast plan scene to (expression_of operand) t ink

pub on_operator_is : (plan : Plan) (scene : Scene) (x : Expr) (op : Op) (args : List (Converted Expr)) (site t : ℕ) → x ≡ expr.Operator op args site → value plan scene (expression_of x) t ≡ variable (temporary (bases_of plan scene) t)
on_operator_is plan scene x op args site t is =
    ap (λ (y : Expr). value plan scene (expression_of y) t) is ∙ on_operator_value plan scene op args site t
