-- What single strokes do to a sketch.
use Rattle.std.specs.Prelude.{ℕ, ◌-◌, List, [], ◌∷◌, ◌++◌, length, replicate, Option, slice_set, slice_index_or}
use Rattle.wm_flow.specs.Plain.{Doing}
use Rattle.wm_flow.specs.Graphs.{Sketch, no_head}

-- nothing is drawn, of so many contexts and heads
abbrev pub blank : (contexts heads : ℕ) → Sketch
blank contexts heads =
    record {
      known = replicate contexts [];
      layouts = [];
      node_shape = [];
      node_instance = [];
      arcs = [];
      heads = replicate heads no_head;
    }

abbrev pub with_arc : (source target : ℕ) → Doing → Option ℕ → Sketch → Sketch
with_arc source target doing site sketch =
    record sketch { arcs = sketch.arcs ++ record { source = source; target = target; doing = doing; site = site } ∷ [] }

abbrev pub with_head : ℕ → (instance loop : Option ℕ) → (node : ℕ) → Sketch → Sketch
with_head head instance loop node sketch =
    record sketch {
      heads = slice_set sketch.heads head (record { node = node; instance = instance; loop_id = loop; entry = length sketch.arcs - 1; back = 0 });
    }

abbrev pub with_turn : ℕ → Sketch → Sketch
with_turn head sketch =
    record sketch {
      heads = slice_set sketch.heads head (record (slice_index_or sketch.heads head no_head) { back = length sketch.arcs - 1 });
    }
