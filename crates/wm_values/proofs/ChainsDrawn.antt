-- A chain of operators is one operator on another: each operand is drawn behind those before it.
use Rattle.std.proofs.Common.{◌≡◌, ℕ, ◌+◌, pos, List, [], ◌∷◌, ◌++◌, map, refl, ap, sym, ◌∙◌}
use Rattle.wm_program.specs.declared.tree.Expr.{Expr}
use Rattle.wm_program.specs.declared.tree.Expr.TheVariants as expr
use Rattle.wm_program.specs.declared.tree.Link.{Link}
use Rattle.wm_program.specs.declared.tree.PlainMark.{PlainMark}
use Rattle.wm_program.specs.Tree.{Expression, Plain}
use Rattle.wm_program.specs.Trees.{chain_of, expression_of}
use Rattle.wm_program.specs.UsedParts.{plain_link}
use Rattle.wm_flow.specs.declared.kept.Kept.{Kept}
use Rattle.wm_flow.specs.declared.scene.Scene.{Scene}
use Rattle.wm_flow.specs.Kept.{constant}
use Rattle.wm_flow.specs.Places.{Plan, bases_of}
use Rattle.wm_flow.specs.Yields.{coming, after, yield_size, yield_strokes}
use Rattle.wm_flow.specs.Expressions.{value, size, strokes, left_waiting, only_value, plain_value, plain_strokes}
use Rattle.wm_applied.proofs.Levels.{of_chain}
use Rattle.wm_pen.specs.Ink.{Ink, put}
use Rattle.wm_pen.proofs.Joins.{put_after3, put_after4}
use Rattle.wm_steps.specs.Moves.{combining, yielding}
use Rattle.wm_steps.proofs.ValuesWait.{one_waits, one_value, one_count}
use Rattle.wm_values.specs.Draws.{evaluating}
use Rattle.wm_values.specs.Turns.{first_waits, linked, linking, linked_all, linking_all}

-- ---- one operator behind any value

waits_as : (plan : Plan) (scene : Scene) (mark : PlainMark) (y : Expression) (site : ℕ) (a : Kept) (t : ℕ) (ink : Ink) → linking plan scene mark y site a t ink ≡ combining plan scene mark (only_value plan scene (left_waiting plan scene a y t)) (value plan scene y (left_waiting plan scene a y t).temporaries) site t (evaluating plan scene y (left_waiting plan scene a y t).temporaries (yielding plan scene (coming y) (a ∷ []) (after (bases_of plan scene) a t) ink))
unfolding linking first_waits
waits_as plan scene mark y site a t ink =
    let bases = bases_of plan scene in
    let count = after bases a t in
    let wait = first_waits plan scene y a t in
    let left = left_waiting plan scene a y t in
    ap (λ (k : Ink). combining plan scene mark wait.value (value plan scene y wait.temporaries) site t (evaluating plan scene y wait.temporaries k)) (one_waits plan scene (coming y) a count ink)
    ∙ (ap (λ (n : ℕ). combining plan scene mark wait.value (value plan scene y n) site t (evaluating plan scene y n (yielding plan scene (coming y) (a ∷ []) count ink))) (sym (one_count bases (coming y) a count))
    ∙ ap (λ (v : Kept). combining plan scene mark v (value plan scene y left.temporaries) site t (evaluating plan scene y left.temporaries (yielding plan scene (coming y) (a ∷ []) count ink))) (sym (one_value bases (coming y) a count (constant (pos 0)))))

pub linking_as : (plan : Plan) (scene : Scene) (mark : PlainMark) (y : Expression) (site : ℕ) (a : Kept) (t : ℕ) (ink : Ink) → linking plan scene mark y site a t ink ≡ put (yield_size (bases_of plan scene) (coming y) (a ∷ []) + size plan scene y (left_waiting plan scene a y t).temporaries + 1) (yield_strokes plan scene (coming y) (a ∷ []) ink.node (after (bases_of plan scene) a t) ++ strokes plan scene y (ink.node + yield_size (bases_of plan scene) (coming y) (a ∷ [])) (left_waiting plan scene a y t).temporaries ++ plain_strokes plan scene mark (only_value plan scene (left_waiting plan scene a y t)) (value plan scene y (left_waiting plan scene a y t).temporaries) site (ink.node + yield_size (bases_of plan scene) (coming y) (a ∷ []) + size plan scene y (left_waiting plan scene a y t).temporaries) t) ink
unfolding combining evaluating yielding
linking_as plan scene mark y site a t ink =
    let left = left_waiting plan scene a y t in
    waits_as plan scene mark y site a t ink
    ∙ put_after3 (yield_size (bases_of plan scene) (coming y) (a ∷ [])) (size plan scene y left.temporaries) 1
    (yield_strokes plan scene (coming y) (a ∷ []) ink.node (after (bases_of plan scene) a t))
    (λ node. strokes plan scene y node left.temporaries)
    (λ node. plain_strokes plan scene mark (only_value plan scene left) (value plan scene y left.temporaries) site node t) ink

pub linked_as : (plan : Plan) (scene : Scene) (mark : PlainMark) (y : Expression) (a : Kept) (t : ℕ) → linked plan scene mark y a t ≡ plain_value (bases_of plan scene) mark (only_value plan scene (left_waiting plan scene a y t)) (value plan scene y (left_waiting plan scene a y t).temporaries) t
unfolding linked first_waits
linked_as plan scene mark y a t =
    let bases = bases_of plan scene in
    let count = after bases a t in
    let wait = first_waits plan scene y a t in
    let left = left_waiting plan scene a y t in
    ap (λ (n : ℕ). plain_value bases mark wait.value (value plan scene y n) t) (sym (one_count bases (coming y) a count))
    ∙ ap (λ (v : Kept). plain_value bases mark v (value plan scene y left.temporaries) t) (sym (one_value bases (coming y) a count (constant (pos 0))))

-- ---- one operator behind an expression

plain_drawn : (plan : Plan) (scene : Scene) (mark : PlainMark) (x y : Expression) (site t : ℕ) (ink : Ink) → combining plan scene mark (only_value plan scene (left_waiting plan scene (value plan scene x t) y t)) (value plan scene y (left_waiting plan scene (value plan scene x t) y t).temporaries) site t (evaluating plan scene y (left_waiting plan scene (value plan scene x t) y t).temporaries (yielding plan scene (coming y) (value plan scene x t ∷ []) (after (bases_of plan scene) (value plan scene x t) t) (evaluating plan scene x t ink))) ≡ evaluating plan scene (Plain mark x y site) t ink
unfolding combining evaluating yielding size strokes
plain_drawn plan scene mark x y site t ink =
    let a = value plan scene x t in
    let left = left_waiting plan scene a y t in
    put_after4 (size plan scene x t) (yield_size (bases_of plan scene) (coming y) (a ∷ [])) (size plan scene y left.temporaries) 1
    (strokes plan scene x ink.node t)
    (λ node. yield_strokes plan scene (coming y) (a ∷ []) node (after (bases_of plan scene) a t))
    (λ node. strokes plan scene y node left.temporaries)
    (λ node. plain_strokes plan scene mark (only_value plan scene left) (value plan scene y left.temporaries) site node t) ink

link_drawn : (plan : Plan) (scene : Scene) (mark : PlainMark) (x y : Expression) (site t : ℕ) (ink : Ink) → linking plan scene mark y site (value plan scene x t) t (evaluating plan scene x t ink) ≡ evaluating plan scene (Plain mark x y site) t ink
link_drawn plan scene mark x y site t ink =
    waits_as plan scene mark y site (value plan scene x t) t (evaluating plan scene x t ink) ∙ plain_drawn plan scene mark x y site t ink

link_value : (plan : Plan) (scene : Scene) (mark : PlainMark) (x y : Expression) (site t : ℕ) → linked plan scene mark y (value plan scene x t) t ≡ value plan scene (Plain mark x y site) t
unfolding value
link_value plan scene mark x y site t = linked_as plan scene mark y (value plan scene x t) t

-- ---- all

all_drawn : (plan : Plan) (scene : Scene) (first : Expression) (rest : List (Link Expression)) (t : ℕ) (ink : Ink) → linking_all plan scene rest (value plan scene first t) t (evaluating plan scene first t ink) ≡ evaluating plan scene (chain_of first rest) t ink
all_drawn plan scene first [] t ink = refl
all_drawn plan scene first (link ∷ rest) t ink =
    ap (λ (a : Kept). linking_all plan scene rest a t (linking plan scene link.mark link.operand link.site (value plan scene first t) t (evaluating plan scene first t ink))) (link_value plan scene link.mark first link.operand link.site t)
    ∙ (ap (λ (k : Ink). linking_all plan scene rest (value plan scene (Plain link.mark first link.operand link.site) t) t k) (link_drawn plan scene link.mark first link.operand link.site t ink)
    ∙ all_drawn plan scene (Plain link.mark first link.operand link.site) rest t ink)

all_value : (plan : Plan) (scene : Scene) (first : Expression) (rest : List (Link Expression)) (t : ℕ) → linked_all plan scene rest (value plan scene first t) t ≡ value plan scene (chain_of first rest) t
all_value plan scene first [] t = refl
all_value plan scene first (link ∷ rest) t =
    ap (λ (a : Kept). linked_all plan scene rest a t) (link_value plan scene link.mark first link.operand link.site t)
    ∙ all_value plan scene (Plain link.mark first link.operand link.site) rest t

-- a chain, by what its first part gave
pub chain_value : (plan : Plan) (scene : Scene) (first : Expr) (rest : List (Link Expr)) (t : ℕ) → value plan scene (expression_of (expr.Chain first rest)) t ≡ linked_all plan scene (map plain_link rest) (value plan scene (expression_of first) t) t
chain_value plan scene first rest t =
    ap (λ (e : Expression). value plan scene e t) (of_chain first rest) ∙ sym (all_value plan scene (expression_of first) (map plain_link rest) t)

pub chain_drawn : (plan : Plan) (scene : Scene) (first : Expr) (rest : List (Link Expr)) (t : ℕ) (ink : Ink) → evaluating plan scene (expression_of (expr.Chain first rest)) t ink ≡ linking_all plan scene (map plain_link rest) (value plan scene (expression_of first) t) t (evaluating plan scene (expression_of first) t ink)
chain_drawn plan scene first rest t ink =
    ap (λ (e : Expression). evaluating plan scene e t ink) (of_chain first rest) ∙ sym (all_drawn plan scene (expression_of first) (map plain_link rest) t ink)
