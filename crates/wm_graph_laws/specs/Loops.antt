-- The loops of a graph while it is drawn: the edge into each head, its back edge, and that no other edge leads there.
use Rattle.std.specs.Prelude.{◌≡◌, ℕ, zero, suc, ◌<◌, ◌≤◌, ◌⊎◌, List, [], ◌∷◌, ◌++◌, length, Option, Some, None, slice_index_or}
use Rattle.wm_flow.specs.declared.graph.Head.{Head}
use Rattle.wm_flow.specs.Plain.{Arc}
use Rattle.wm_flow.specs.Graphs.{Sketch, no_head}
use Rattle.wm_graph_laws.specs.Each.{Each}
use Rattle.wm_graph_laws.specs.Begun.{IsAmong, AreDistinct}
use Rattle.wm_graph_laws.specs.Following.{Open, Entered, Inside, Turned}

-- the edge of a number
abbrev pub At : List Arc → ℕ → Arc → Type 0
At [] k arc = ⊥
At (it ∷ rest) zero arc = it ≡ arc
At (it ∷ rest) (suc k) arc = At rest k arc

pub record Enters (arcs : List Arc) (node number : ℕ) : Type 0 where
  pub arc : Arc
  pub at : At arcs number arc
  pub target : arc.target ≡ node
  pub source : suc arc.source ≡ node

pub record Returns (arcs : List Arc) (node number : ℕ) : Type 0 where
  pub arc : Arc
  pub at : At arcs number arc
  pub target : arc.target ≡ node
  pub source : node ≤ arc.source

abbrev pub IfReturns : List Arc → ℕ → Option ℕ → Type 0
IfReturns arcs node None = Unit {0}
IfReturns arcs node (Some back) = Returns arcs node back

abbrev pub IsOneOf : ℕ → ℕ → Option ℕ → Type 0
IsOneOf k entry None = k ≡ entry
IsOneOf k entry (Some back) = (k ≡ entry) ⊎ (k ≡ back)

-- the edges that lead to a head
pub record Loop (arcs : List Arc) (node entry : ℕ) (back : Option ℕ) : Type 0 where
  pub enters : Enters arcs node entry
  pub returns : IfReturns arcs node back
  pub only : (k : ℕ) (arc : Arc) → At arcs k arc → arc.target ≡ node → IsOneOf k entry back

-- the head of a number, at a node
pub record Stored (heads : List Head) (node number : ℕ) (head : Head) : Type 0 where
  pub there : number < length heads
  pub is : slice_index_or heads number no_head ≡ head
  pub at : head.node ≡ node

abbrev pub IsOpen : List Arc → List Head → Open → Type 0
IsOpen arcs heads (Entered node) = (entry : ℕ) × Loop arcs node entry None
IsOpen arcs heads (Inside node number) = (head : Head) × Stored heads node number head × Loop arcs node head.entry None
IsOpen arcs heads (Turned node number) =
    (head : Head) × (back : ℕ) × Stored heads node number head × Loop arcs node head.entry (Some back)

abbrev pub IsClosed : List Arc → List Head → Open → Type 0
IsClosed arcs heads (Entered node) = ⊥
IsClosed arcs heads (Inside node number) = ⊥
IsClosed arcs heads (Turned node number) =
    (head : Head) × Stored heads node number head × Loop arcs node head.entry (Some head.back)

abbrev pub node_of : Open → ℕ
node_of (Entered node) = node
node_of (Inside node number) = node
node_of (Turned node number) = node

-- the loop has another number
abbrev pub Lacks : ℕ → Open → Type 0
Lacks n (Entered node) = Unit {0}
Lacks n (Inside node number) = n ≡ number → ⊥
Lacks n (Turned node number) = n ≡ number → ⊥

-- two loops have different nodes and numbers
abbrev pub Differ : Open → Open → Type 0
Differ a (Entered node) = node_of a ≡ node → ⊥
Differ a (Inside node number) = (node_of a ≡ node → ⊥) × Lacks number a
Differ a (Turned node number) = (node_of a ≡ node → ⊥) × Lacks number a

abbrev pub AreApart : List Open → Type 0
AreApart [] = Unit {0}
AreApart (a ∷ rest) = Each (Differ a) rest × AreApart rest

-- some loop has the number
abbrev pub HasNumber : ℕ → Open → Type 0
HasNumber n (Entered node) = ⊥
HasNumber n (Inside node number) = n ≡ number
HasNumber n (Turned node number) = n ≡ number

abbrev pub IsNamed : ℕ → List Open → Type 0
IsNamed n [] = ⊥
IsNamed n (a ∷ rest) = HasNumber n a ⊎ IsNamed n rest

-- some loop has its head at the node
abbrev pub IsNode : ℕ → List Open → Type 0
IsNode n [] = ⊥
IsNode n (a ∷ rest) = (n ≡ node_of a) ⊎ IsNode n rest

-- an edge that leads to no later node leads to a head
abbrev pub GoesBack : List Open → Arc → Type 0
GoesBack loops arc = arc.target ≤ arc.source → IsNode arc.target loops

-- the numbers are new, and different from each other
pub record AreFresh (count : ℕ) (numbers : List ℕ) (loops : List Open) : Type 0 where
  pub within : Each (λ n. n < count) numbers
  pub distinct : AreDistinct numbers
  pub fresh : Each (λ n. Each (Lacks n) loops) numbers

-- the edge leads to the next node, to one that has been drawn, or to a far one
abbrev pub Lands : (nodes : ℕ) → List ℕ → Arc → Type 0
Lands nodes far arc = (arc.target ≡ suc arc.source) ⊎ ((arc.target < nodes) ⊎ IsAmong arc.target far)

-- the last edge
pub record Lasting (nodes least : ℕ) (arcs : List Arc) : Type 0 where
  pub number : ℕ
  pub count : suc number ≡ length arcs
  pub arc : Arc
  pub at : At arcs number arc
  pub source : suc arc.source ≡ nodes
  pub target : suc arc.target ≡ least

abbrev pub IsLast : (nodes least : ℕ) → List Arc → Type 0
IsLast nodes least arcs = (least ≡ 0) ⊎ Lasting nodes least arcs

abbrev pub IsPast : (nodes least : ℕ) → Open → Type 0
IsPast nodes least loop = (node_of loop < nodes) ⊎ ((node_of loop ≡ nodes) × (nodes < least))

pub record HeadsHold (nodes least : ℕ) (far : List ℕ) (open_loops closed : List Open) (count : ℕ) (sketch : Sketch) : Type 0 where
  pub lands : Each (Lands nodes far) sketch.arcs
  pub last : IsLast nodes least sketch.arcs
  pub past : Each (IsPast nodes least) (open_loops ++ closed)
  pub apart : AreApart (open_loops ++ closed)
  pub opens : Each (IsOpen sketch.arcs sketch.heads) open_loops
  pub closes : Each (IsClosed sketch.arcs sketch.heads) closed
  pub table : length sketch.heads ≡ count
  pub backs : Each (GoesBack (open_loops ++ closed)) sketch.arcs
