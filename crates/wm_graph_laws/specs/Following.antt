-- How strokes follow each other: each edge begins at the last node, those of one node by their targets, and leads to a
-- later one, but for the edge back to the head of the innermost open loop.
use Rattle.std.specs.Prelude.{◌≡◌, ℕ, suc, ◌+◌, ◌<◌, ◌≤◌, Bool, true, false, ◌==◌, List, [], ◌∷◌}
use Rattle.wm_graph_laws.specs.Each.{Each}
use Rattle.wm_flow.specs.Places.{Plan}
use Rattle.wm_flow.specs.Strokes.{Stroke, Point, Line, Part, Begins, Turns}
use Rattle.wm_flow.specs.Expressions.{size_at}
use Rattle.wm_graph_laws.specs.Manner.{Manner, Into, Back, Onward, manner}

-- not between two nodes
abbrev pub IsAway : (low high : ℕ) → ℕ → Type 0
IsAway low high t = low < t → t < high → ⊥

abbrev pub Away : (low high : ℕ) → List ℕ → Type 0
Away low high far = Each (IsAway low high) far

-- the targets to which edges lead that are no next nodes
abbrev pub landed : Bool → ℕ → List ℕ → List ℕ
landed true target far = far
landed false target far = target ∷ far

-- An open loop: its head was entered, then it got the head's number, and at last its back edge was drawn.
pub data Open : Type 0 where
  Entered : (node : ℕ) → Open
  Inside : (node number : ℕ) → Open
  Turned : (node number : ℕ) → Open

-- What holds behind strokes: for so many nodes, the least target that one more edge of the last node may have, the far
-- targets of earlier edges, and the open loops, the innermost first.
abbrev pub Behind : Type 1
Behind = (nodes least : ℕ) → (far : List ℕ) (heads : List Open) → Type 0

unfoldable pub Led : Manner → Behind → (nodes least : ℕ) → (far : List ℕ) → (heads : List Open) → ℕ → Type 0
Led Into K nodes least far heads target =
    (target ≡ nodes) × (least ≡ 0) × Each (λ t. t ≡ nodes → ⊥) far × K nodes (suc target) far (Entered nodes ∷ heads)
Led Back K nodes least far [] target = ⊥
Led Back K nodes least far (Entered node ∷ heads) target = ⊥
Led Back K nodes least far (Inside node number ∷ heads) target =
    (target ≡ node) × (node < nodes) × (least ≤ target) × K nodes (suc target) far (Turned node number ∷ heads)
Led Back K nodes least far (Turned node number ∷ heads) target = ⊥
Led Onward K nodes least far heads target =
    (nodes ≤ target) × (least ≤ target) × K nodes (suc target) (landed (target == nodes) target far) heads

-- the last edge enters a loop, at this node
unfoldable pub Begun : Behind → (nodes least : ℕ) → (far : List ℕ) → (heads : List Open) → (number node : ℕ) → Type 0
Begun K nodes least far [] number node = ⊥
Begun K nodes least far (Entered at ∷ heads) number node = (node ≡ at) × (least ≡ suc at) × K nodes least far (Inside at number ∷ heads)
Begun K nodes least far (Inside at other ∷ heads) number node = ⊥
Begun K nodes least far (Turned at other ∷ heads) number node = ⊥

-- the last edge is the back edge of the innermost loop
unfoldable pub Ended : Behind → (nodes least : ℕ) → (far : List ℕ) → (heads : List Open) → (number : ℕ) → Type 0
Ended K nodes least far [] number = ⊥
Ended K nodes least far (Entered at ∷ heads) number = ⊥
Ended K nodes least far (Inside at other ∷ heads) number = ⊥
Ended K nodes least far (Turned at other ∷ heads) number = (number ≡ other) × (least ≡ suc at) × K nodes least far heads

-- strokes that follow each other, where each instance that is called has a property, and then this holds
module _ (plan : Plan) (May : ℕ → Type 0) where
  unfoldable pub Follows : List Stroke → Behind → Behind
  Follows [] K nodes least far heads = K nodes least far heads
  Follows (Point context instance counters temporaries ∷ rest) K nodes least far heads =
      Follows rest K (suc nodes) 0 far heads
  Follows (Line source target doing site ∷ rest) K nodes least far heads =
      (suc source ≡ nodes) × Led (manner doing) (Follows rest K) nodes least far heads target
  Follows (Part instance start ∷ rest) K nodes least far heads =
      (start ≡ nodes) × May instance × Away start (start + size_at plan instance) far
      × Follows rest K (suc (start + size_at plan instance)) 0 far heads
  Follows (Begins head instance loop node ∷ rest) K nodes least far heads =
      Begun (Follows rest K) nodes least far heads head node
  Follows (Turns head ∷ rest) K nodes least far heads = Ended (Follows rest K) nodes least far heads head
