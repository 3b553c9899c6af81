-- What a reader of certificates answers.
use Rattle.std.specs.Prelude.{◌≡◌, ℕ, Bool, true, false, List, Result, Ok, Err}
use Rattle.wm_flow.specs.declared.graph.Graph.{Graph}
use Rattle.wm_cert_text.specs.declared.told.Head.{Head}
use Rattle.wm_cert_read.specs.Whole.{read}
use Rattle.wm_cert_heads.specs.Matching.{has_heads}
use Rattle.wm_cert_fault.specs.declared.fault.CertFault.{CertFault}
use Rattle.wm_cert_fault.specs.declared.fault.CertFault.TheVariants as fault

-- the bytes are a text with these heads, or begin none from a line on
abbrev pub heads_in : (pairs : Bool) → List ℕ → Result (List Head) ℕ
heads_in pairs bytes = read pairs bytes

-- a text of the graph's heads; else its first line that begins no text, or that it is of other heads
abbrev pub Refuses : Bool → Graph → List ℕ → CertFault → Type 0
Refuses pairs graph bytes (fault.BadText line) = heads_in pairs bytes ≡ Err line
Refuses pairs graph bytes fault.WrongHeads = (heads : List Head) × (heads_in pairs bytes ≡ Ok heads) × (has_heads graph heads ≡ false)
Refuses pairs graph bytes fault.NoMemory = Unit {0}

-- the heads that are read are those of the graph
pub record Accepts (pairs : Bool) (graph : Graph) (bytes : List ℕ) : Type 0 where
  pub heads : List Head
  pub read_as : heads_in pairs bytes ≡ Ok heads
  pub matched : has_heads graph heads ≡ true
