-- The graphs of small programs, written out.
use Rattle.std.specs.Prelude.{◌≡◌, ℕ, true, false, List, [], ◌∷◌, ℤ, pos, negsuc, Option, Some, None}
use Rattle.wm_ops.specs.declared.operators.Op.TheVariants.{Sub, Shl, DivS}
use Rattle.wm_ops.specs.declared.words.Counted.TheVariants as counted
use Rattle.wm_domain.specs.declared.form.Form.{Form}
use Rattle.wm_domain.specs.declared.form.Relation.TheVariants.{AtMost}
use Rattle.wm_program.specs.declared.program.LoopInfo.{LoopInfo}
use Rattle.wm_program.specs.Code.{Code}
use Rattle.wm_program.specs.Examples.{quotient_code, shifting_code}
use Rattle.wm_flow.specs.declared.graph.Head.{Head}
use Rattle.wm_flow.specs.Plain.{Range, Layout, Bounded, Doing, Arc, Flow, Operate, Clear, Keep, Count, Enter, Reset, Turn, Inputs}
use Rattle.wm_flow.specs.Graphs.{graph_of}

abbrev pub number : ℤ → Form
number z = record { terms = []; constant = z }

-- v + z
abbrev pub plus : ℕ → ℤ → Form
plus v z = record { terms = record { variable = v; negative = false } ∷ []; constant = z }

-- -v + z
abbrev pub minus : ℕ → ℤ → Form
minus v z = record { terms = record { variable = v; negative = true } ∷ []; constant = z }

abbrev pub arc : ℕ → ℕ → Doing → Option ℕ → Arc
arc source target doing site = record { source = source; target = target; doing = doing; site = site }

abbrev pub sixteen : Range
sixteen = record { low = negsuc 32767; high = pos 32767 }

abbrev pub thirty_two : Range
thirty_two = record { low = negsuc 2147483647; high = pos 2147483647 }

abbrev pub input_from : ℕ → Bounded
input_from v = record { target = v; range = sixteen }

abbrev pub frame_head : ℕ → Head
frame_head back = record { node = 1; instance = None; loop_id = None; entry = 0; back = back }

-- ---- `Word16 a, b, q; void frame(void) { q = div_s(a, b); }`: q is the one variable of the group, then come a, b and
-- Overflow

abbrev pub QuotientGraph : Type 0
QuotientGraph =
    graph_of quotient_code []
    ≡ record {
      layouts =
          record { group = sixteen ∷ []; singles = thirty_two ∷ []; arrays = [] }
          ∷ record { group = sixteen ∷ []; singles = sixteen ∷ sixteen ∷ thirty_two ∷ []; arrays = [] } ∷ [];
      node_shape = 0 ∷ 0 ∷ 1 ∷ 1 ∷ 1 ∷ 1 ∷ 1 ∷ [];
      node_instance = None ∷ None ∷ Some 0 ∷ Some 0 ∷ Some 0 ∷ Some 0 ∷ Some 0 ∷ [];
      arcs =
          arc 0 1 (Enter (Some 0 ∷ Some 1 ∷ []) [] []) None
          ∷ arc 1 2 (Enter (Some 0 ∷ None ∷ None ∷ Some 1 ∷ []) [] []) None
          ∷ arc 2 3 (Inputs (input_from 1 ∷ input_from 2 ∷ []) []) None
          ∷ arc 3 4 (Count (counted.Operator DivS)) None
          ∷ arc 4 5 (Operate DivS (plus 1 (pos 0) ∷ plus 2 (pos 0) ∷ number (pos 0) ∷ []) 0 3) (Some 0)
          ∷ arc 5 6 (Clear []) None
          ∷ arc 6 1 (Enter (Some 0 ∷ Some 3 ∷ []) [] []) None ∷ [];
      heads = frame_head 6 ∷ [];
      sums = [];
    }

-- ---- `Word16 x; void frame(void) { while (sub(x, 16384) < 0) x = shl(x, 1); }`: in the loop its counter is the one
-- variable of the group, then come x, Overflow and a temporary

abbrev pub shifting_loop : LoopInfo
shifting_loop =
    record { function = 0; token = 5; place = record { file = 0; line = 1; column = 1 }; step = 1; depth = 0 }

abbrev pub shifting : Code
shifting = record shifting_code { loops = shifting_loop ∷ [] }

abbrev pub ShiftingArcs : Type 0
ShiftingArcs =
    (graph_of shifting []).arcs
    ≡ arc 0 1 (Enter (Some 0 ∷ []) [] []) None
    ∷ arc 1 2 (Enter (None ∷ Some 0 ∷ []) [] []) None
    ∷ arc 2 3 (Inputs (input_from 0 ∷ []) []) None
    ∷ arc 3 4 (Reset (0 ∷ [])) None
    ∷ arc 4 5 (Count (counted.Operator Sub)) None
    ∷ arc 5 6 (Operate Sub (plus 1 (pos 0) ∷ number (pos 16384) ∷ number (pos 0) ∷ []) 3 2) (Some 0)
    ∷ arc 6 7 (Keep (plus 1 (negsuc 16382)) AtMost) None
    ∷ arc 6 11 (Keep (minus 1 (pos 16384)) AtMost) None
    ∷ arc 7 8 (Count (counted.Operator Shl)) None
    ∷ arc 8 9 (Operate Shl (plus 1 (pos 0) ∷ number (pos 1) ∷ number (pos 0) ∷ []) 1 2) (Some 1)
    ∷ arc 9 10 (Clear []) None
    ∷ arc 10 4 (Turn (record { variable = 0; step = 1 } ∷ [])) None
    ∷ arc 11 12 (Clear []) None
    ∷ arc 12 1 (Enter (Some 1 ∷ []) [] []) None ∷ []

abbrev pub ShiftingHeads : Type 0
ShiftingHeads =
    (graph_of shifting []).heads
    ≡ frame_head 13 ∷ record { node = 4; instance = Some 0; loop_id = Some 0; entry = 3; back = 11 } ∷ []
