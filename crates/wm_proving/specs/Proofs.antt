-- What is proved of a program: an accepted certificate for its graph.
use Rattle.std.specs.Prelude.{◌≡◌, ℕ, Bool, List, []}
use Rattle.wm_program.specs.declared.program.Program.{Program}
use Rattle.wm_program.specs.Code.{code_of}
use Rattle.wm_flow.specs.declared.graph.Graph.{Graph}
use Rattle.wm_flow.specs.declared.graph.Sum.{Sum}
use Rattle.wm_flow.specs.Graphs.{graph_of}
use Rattle.wm_flow.specs.Views.{flow_of}
use Rattle.wm_domain.specs.declared.shape.Shape.{Shape}
use Rattle.wm_domain.specs.Points.{Point}
use Rattle.wm_labels.specs.Accepted.{IsAccepted}
use Rattle.wm_started.specs.Starting.{Starts}
use Rattle.wm_stepped.specs.Allowing.{Allows}
use Rattle.wm_cert_states.specs.Answers.{Accepts}
use Rattle.wm_cert_sums.specs.Answers.{Asks}

-- the graph is that of the program for these sum counters
abbrev pub IsDrawnFor : Program → List Sum → Graph → Type 0
IsDrawnFor program sums graph = flow_of graph ≡ graph_of (code_of program) sums

-- the graph is that of the program, for some sum counters
pub record IsGraphOf (program : Program) (graph : Graph) : Type 0 where
  pub sums : List Sum
  pub drawn : IsDrawnFor program sums graph

-- the bytes ask for these sum counters of the program's graph without any
pub record IsAsked (program : Program) (bytes : List ℕ) (sums : List Sum) : Type 0 where
  pub plain : Graph
  pub drawn : IsDrawnFor program [] plain
  pub asked : Asks plain bytes sums

module _ {S : Type 0} (Has : S → Point → Type 0) (shape_of : S → Shape) where
  -- the states of the heads hold what the edges of the graph allow from the labels, by the rules for points
  abbrev pub AreAccepted : Program → Graph → List S → Type 0
  AreAccepted program graph heads = IsAccepted Allows (λ program graph. Starts program) Has shape_of program graph heads

  -- the states are accepted by a graph of the program
  pub record IsProved (program : Program) (graph : Graph) (heads : List S) : Type 0 where
    pub is_graph : IsGraphOf program graph
    pub accepted : AreAccepted program graph heads

  -- the bytes are a text with this graph's heads, and the states are accepted by it
  pub record IsByText (pairs : Bool) (program : Program) (bytes : List ℕ) (given graph : Graph) (heads : List S) : Type 0 where
    pub same : graph ≡ given
    pub told : Accepts pairs graph bytes
    pub accepted : AreAccepted program graph heads

  -- the bytes ask for sum counters of the program, and are a text with the heads of the graph for these; and the states are accepted
  pub record IsChecked (pairs : Bool) (program : Program) (bytes : List ℕ) (graph : Graph) (heads : List S) : Type 0 where
    pub sums : List Sum
    pub asked : IsAsked program bytes sums
    pub drawn : IsDrawnFor program sums graph
    pub told : Accepts pairs graph bytes
    pub accepted : AreAccepted program graph heads
