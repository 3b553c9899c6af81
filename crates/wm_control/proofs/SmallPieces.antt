-- Words, blocks that are left, and jumps.
use Rattle.std.proofs.Common.{◌≡◌, ℕ, suc, ◌+◌, Bool, true, false, List, [], ◌∷◌, ◌++◌, None, refl, ap, sym, ◌∙◌, arith}
use Rattle.wm_ops.specs.declared.words.ControlWord.{ControlWord}
use Rattle.wm_ops.specs.declared.words.Counted.TheVariants as counted
use Rattle.wm_flow.specs.declared.scene.Scene.{Scene}
use Rattle.wm_flow.specs.Plain.{Clear}
use Rattle.wm_flow.specs.Plain as plain
use Rattle.wm_flow.specs.Places.{Plan}
use Rattle.wm_flow.specs.Strokes.{Line, point, step, nothing}
use Rattle.wm_flow.specs.Statements.{variables_of, clear_size, clear_strokes, word_size, word_strokes, jump}
use Rattle.wm_pen.specs.Ink.{Ink, put}
use Rattle.wm_pen.proofs.Joins.{put_none, put_twice, put_after3}
use Rattle.wm_steps.specs.Moves.{stepped}
use Rattle.wm_control.specs.Moves.{wording, no_variables, clearing_these, clearing, jumping, joining, jumping_out}

pub word_counted : (plan : Plan) (scene : Scene) (word : ControlWord) (ink : Ink) → stepped plan scene (plain.Count (counted.Word word)) None 0 ink ≡ wording plan scene true word ink
unfolding stepped wording word_strokes
word_counted plan scene word ink = refl

pub word_plain : (plan : Plan) (scene : Scene) (word : ControlWord) (ink : Ink) → ink ≡ wording plan scene false word ink
unfolding wording word_strokes
word_plain plan scene word ink = sym (put_none ink)

pub none_cleared : (plan : Plan) (scene : Scene) (variables : List ℕ) (temporaries : ℕ) (ink : Ink) → no_variables variables ≡ true → ink ≡ clearing_these plan scene variables temporaries ink
unfolding clearing_these
none_cleared plan scene [] temporaries ink h = sym (put_none ink)
none_cleared plan scene (v ∷ rest) temporaries ink h = cc

pub some_cleared : (plan : Plan) (scene : Scene) (variables : List ℕ) (temporaries : ℕ) (ink : Ink) → no_variables variables ≡ false → stepped plan scene (Clear variables) None temporaries ink ≡ clearing_these plan scene variables temporaries ink
unfolding clearing_these stepped
some_cleared plan scene [] temporaries ink h = cc
some_cleared plan scene (v ∷ rest) temporaries ink h = refl

pub clearing_is : (plan : Plan) (scene : Scene) (locals variables : List ℕ) (temporaries : ℕ) (ink : Ink) → variables ≡ variables_of plan scene locals → clearing_these plan scene variables temporaries ink ≡ clearing plan scene locals temporaries ink
unfolding clearing_these clearing clear_size clear_strokes
clearing_is plan scene locals variables temporaries ink h = ap (λ (xs : List ℕ). clearing_these plan scene xs temporaries ink) h

pub jumping_joins : (plan : Plan) (scene : Scene) (target : ℕ) (ink : Ink) → put 1 (point plan scene 0 ∷ []) (put 0 (Line ink.node target nothing None ∷ []) ink) ≡ jumping plan scene target ink
unfolding jumping
jumping_joins plan scene target ink = put_twice 0 1 (Line ink.node target nothing None ∷ []) (point plan scene 0 ∷ []) ink

pub joining_steps : (plan : Plan) (scene : Scene) (temporaries : ℕ) (ink : Ink) → stepped plan scene (Clear []) None temporaries ink ≡ joining plan scene temporaries ink
unfolding stepped joining
joining_steps plan scene temporaries ink = refl

pub jumping_out_joins : (plan : Plan) (scene : Scene) (is_counted : Bool) (word : ControlWord) (locals : List ℕ) (target : ℕ) (ink : Ink) → jumping plan scene target (clearing plan scene locals 0 (wording plan scene is_counted word ink)) ≡ jumping_out plan scene is_counted word locals target ink
unfolding jumping clearing wording jumping_out
jumping_out_joins plan scene is_counted word locals target ink =
    put_after3 (word_size is_counted) (clear_size plan scene locals) 1 (word_strokes plan scene is_counted word ink.node) (λ node. clear_strokes plan scene locals node 0) (λ node. jump plan scene node target) ink
