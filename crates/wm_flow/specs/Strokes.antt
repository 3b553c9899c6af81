-- The strokes with which a graph is drawn: nodes, edges and heads in their order.
use Rattle.std.specs.Prelude.{ℕ, suc, ◌+◌, List, [], ◌∷◌, ◌++◌, map, length, ℤ, Option, Some, None}
use Rattle.wm_ops.specs.declared.words.Counted.{Counted}
use Rattle.wm_flow.specs.Plain.{Range, Doing, AssignForm, AssignRange, Read, Clear, Test, Count}
use Rattle.wm_flow.specs.Kept.{form_of}
use Rattle.wm_flow.specs.declared.action.Combined.{Combined}
use Rattle.wm_flow.specs.declared.kept.Kept.{Kept}
use Rattle.wm_flow.specs.declared.scene.Scene.{Scene}
use Rattle.wm_flow.specs.declared.scene.Bases.{Bases}
use Rattle.wm_flow.specs.Places.{Plan, sums_in, head_of, bases_of}
use Rattle.wm_flow.specs.declared.seats.Tables.{Tables}

pub data Stroke : Type 0 where
  -- the next node: the head or instance by which its shape is numbered, its instance, its counters of both kinds and its
  -- temporaries
  Point : (context : ℕ) → (instance : Option ℕ) → (counters temporaries : ℕ) → Stroke
  -- the next edge
  Line : (source target : ℕ) → Doing → (site : Option ℕ) → Stroke
  -- the nodes and edges of an instance, from this node on
  Part : (instance start : ℕ) → Stroke
  -- the last edge enters a head, at this node
  Begins : (head : ℕ) → (instance loop : Option ℕ) → (node : ℕ) → Stroke
  -- the last edge is the back edge of a head
  Turns : (head : ℕ) → Stroke

-- the number of a shape's context: a head for a node of its loop, then the instances for their nodes outside of loops
abbrev pub context_of : Tables → ℕ → Option ℕ → ℕ
context_of tables instance None = tables.heads + instance
context_of tables instance (Some loop) = head_of tables instance loop

-- a node at a scene
unfoldable pub point : Plan → Scene → (temporaries : ℕ) → Stroke
point plan scene temporaries =
    Point (context_of plan.tables scene.instance scene.inner) (Some scene.instance)
    (scene.depth + length (sums_in plan scene.instance scene.inner)) temporaries

-- one edge to a new node
unfoldable pub step : Plan → Scene → (node : ℕ) → Doing → (site : Option ℕ) → (temporaries : ℕ) → List Stroke
step plan scene node doing site temporaries = Line node (suc node) doing site ∷ point plan scene temporaries ∷ []

-- an edge without effect
abbrev pub nothing : Doing
nothing = Clear []

abbrev pub tested : Kept → List Kept → ℤ → ℤ → Combined → Doing
tested kept args low high how = Test (map form_of args) (form_of kept) low high how
