-- The heads that strokes begin, in their order, with those of the instances in their places.
use Rattle.std.specs.Prelude.{◌≡◌, ℕ, zero, suc, ◌<◌, ◌⊎◌, List, [], ◌∷◌, ◌++◌}
use Rattle.wm_flow.specs.Places.{Plan}
use Rattle.wm_flow.specs.Strokes.{Stroke, Point, Line, Part, Begins, Turns}
use Rattle.wm_flow.specs.Parts.{part_strokes, instance_count}
use Rattle.wm_flow.specs.Graphs.{before_frames, frame_strokes}
use Rattle.wm_graph_laws.specs.Each.{Each}

module _ (parts : ℕ → ℕ → List ℕ) where
  abbrev pub begun_in : List Stroke → List ℕ
  begun_in [] = []
  begun_in (Point context instance counters temporaries ∷ rest) = begun_in rest
  begun_in (Line source target doing site ∷ rest) = begun_in rest
  begun_in (Part instance start ∷ rest) = parts instance start ++ begun_in rest
  begun_in (Begins head instance loop node ∷ rest) = head ∷ begun_in rest
  begun_in (Turns head ∷ rest) = begun_in rest

unfoldable pub begun_part : Plan → (levels : ℕ) → (instance start : ℕ) → List ℕ
begun_part plan zero instance start = []
begun_part plan (suc levels) instance start = begun_in (begun_part plan levels) (part_strokes plan instance start)

-- those of the whole graph
unfoldable pub all_begun : Plan → List ℕ
all_begun plan =
    begun_in (begun_part plan (instance_count plan.code)) (before_frames plan plan.code.init)
    ++ begun_in (begun_part plan (instance_count plan.code)) (frame_strokes plan)

-- no number stands twice
abbrev pub AreDistinct : List ℕ → Type 0
AreDistinct [] = Unit {0}
AreDistinct (n ∷ rest) = Each (λ m. n ≡ m → ⊥) rest × AreDistinct rest

abbrev pub IsAmong : ℕ → List ℕ → Type 0
IsAmong n [] = ⊥
IsAmong n (m ∷ rest) = (n ≡ m) ⊎ IsAmong n rest

-- each head of the tables is begun, and none twice
pub record HeadsStand (plan : Plan) : Type 0 where
  pub within : Each (λ n. n < plan.tables.heads) (all_begun plan)
  pub distinct : AreDistinct (all_begun plan)
  pub covered : (head : ℕ) → head < plan.tables.heads → IsAmong head (all_begun plan)
