-- What a pen does with the pieces of statements: each goes so many nodes further, with the strokes of the definition.
use Rattle.std.specs.Prelude.{ℕ, suc, ◌+◌, Bool, true, false, List, [], ◌∷◌, length, None}
use Rattle.wm_ops.specs.declared.words.ControlWord.{ControlWord}
use Rattle.wm_flow.specs.declared.graph.Sum.{Sum}
use Rattle.wm_flow.specs.declared.scene.Scene.{Scene}
use Rattle.wm_flow.specs.Places.{Plan}
use Rattle.wm_flow.specs.Strokes.{step, nothing}
use Rattle.wm_flow.specs.Statements as statements
use Rattle.wm_flow.specs.Statements.{clear_of, clear_size, clear_strokes, word_size, word_strokes, ties_size, ties_strokes, ties_from, enter_strokes, turn_strokes, jump, jump_strokes}
use Rattle.wm_pen.specs.Ink.{Ink, put}

-- a word, where it is counted
unfoldable pub wording : Plan → Scene → Bool → ControlWord → Ink → Ink
wording plan scene is_counted word ink =
    put (word_size is_counted) (word_strokes plan scene is_counted word ink.node) ink

abbrev pub no_variables : List ℕ → Bool
no_variables [] = true
no_variables (v ∷ rest) = false

-- variables may have any number from here on
unfoldable pub clearing_these : Plan → Scene → List ℕ → (temporaries : ℕ) → Ink → Ink
clearing_these plan scene variables temporaries ink =
    put (clear_of variables) (statements.clearing plan scene variables ink.node temporaries) ink

-- locals are left
unfoldable pub clearing : Plan → Scene → List ℕ → (temporaries : ℕ) → Ink → Ink
clearing plan scene locals temporaries ink =
    put (clear_size plan scene locals) (clear_strokes plan scene locals ink.node temporaries) ink

-- to a node
unfoldable pub jumping : Plan → Scene → (target : ℕ) → Ink → Ink
jumping plan scene target ink = put 1 (jump plan scene ink.node target) ink

-- to the next node
unfoldable pub joining : Plan → Scene → (temporaries : ℕ) → Ink → Ink
joining plan scene temporaries ink = put 1 (step plan scene ink.node nothing None temporaries) ink

-- a break or a continue
unfoldable pub jumping_out : Plan → Scene → Bool → ControlWord → List ℕ → (target : ℕ) → Ink → Ink
jumping_out plan scene is_counted word locals target ink =
    put (word_size is_counted + clear_size plan scene locals + 1)
    (jump_strokes plan scene is_counted word locals ink.node target) ink

-- a loop is entered
unfoldable pub entering : Plan → Scene → (loop : ℕ) → Ink → Ink
entering plan scene loop ink = put 1 (enter_strokes plan scene loop ink.node) ink

-- the back edge of a loop
unfoldable pub turning : Plan → Scene → (loop head : ℕ) → Ink → Ink
turning plan scene loop head ink = put 1 (turn_strokes plan scene loop ink.node head) ink

-- the ties of sum counters from a variable on, and all
unfoldable pub tying_from : Plan → Scene → (loop variable : ℕ) → List Sum → Ink → Ink
tying_from plan scene loop variable sums ink =
    put (length sums) (ties_from plan scene loop variable sums ink.node) ink

unfoldable pub tying : Plan → Scene → (loop : ℕ) → Ink → Ink
tying plan scene loop ink = put (ties_size plan scene) (ties_strokes plan scene loop ink.node) ink
