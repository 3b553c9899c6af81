-- What a reader of sum counters answers.
use Rattle.std.specs.Prelude.{◌≡◌, ℕ, true, List, length, Result, Ok, Err}
use Rattle.wm_flow.specs.declared.graph.Graph.{Graph}
use Rattle.wm_flow.specs.declared.graph.Sum.{Sum}
use Rattle.wm_cert_text.specs.declared.told.Head.{Head}
use Rattle.wm_cert_read.specs.Whole.{read}
use Rattle.wm_cert_fault.specs.declared.fault.CertFault.{CertFault}
use Rattle.wm_cert_fault.specs.declared.fault.CertFault.TheVariants as fault
use Rattle.wm_cert_sums.specs.Asked.{sums_from}

-- the bytes are a text with as many heads as the graph, and these are its sum counters
pub record Asks (graph : Graph) (bytes : List ℕ) (sums : List Sum) : Type 0 where
  pub heads : List Head
  pub read_as : read true bytes ≡ Ok heads
  pub count : length heads ≡ length graph.heads
  pub are : sums ≡ sums_from 0 heads

-- the first line through which the bytes begin no text; or they are one
abbrev pub RefusesSums : Graph → List ℕ → CertFault → Type 0
RefusesSums graph bytes (fault.BadText line) = read true bytes ≡ Err line
RefusesSums graph bytes fault.WrongHeads = (heads : List Head) × (read true bytes ≡ Ok heads)
RefusesSums graph bytes fault.NoMemory = Unit {0}
