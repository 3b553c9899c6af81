-- How what is recorded in pieces stands together.
use Rattle.std.proofs.Common.{◌≡◌, ℕ, ◌+◌, suc, true, List, [], ◌∷◌, ◌++◌, Option, refl, ap, sym, ◌∙◌, append_assoc, append-nil, add-one, arith}
use Rattle.wm_flow.specs.Plain.{Doing}
use Rattle.wm_flow.specs.Places.{Plan}
use Rattle.wm_flow.specs.declared.scene.Scene.{Scene}
use Rattle.wm_flow.specs.Strokes as strokes
use Rattle.wm_flow.specs.Strokes.{Line, point, step}
use Rattle.wm_pen.specs.declared.stroke.Stroke.{Stroke}
use Rattle.wm_pen.specs.declared.pen.Mode.{Mode}
use Rattle.wm_pen.specs.declared.pen.Mode.TheVariants.{Draws, Measures, Rests}
use Rattle.wm_pen.specs.Ink.{Ink, put, ruler, ahead, is_rest}
use Rattle.wm_pen.specs.Seen.{stroke_of, strokes_of}

pub strokes_of_one : (xs : List Stroke) (x : Stroke) → strokes_of (xs ++ x ∷ []) ≡ strokes_of xs ++ stroke_of x ∷ []
strokes_of_one [] x = refl
strokes_of_one (y ∷ ys) x = ap (λ rest. stroke_of y ∷ rest) (strokes_of_one ys x)

pub append_nothing : (xs : List strokes.Stroke) → xs ++ [] ≡ xs
append_nothing xs = append-nil xs

-- ---- one piece, by what the pen does

pub put_drawn : (size node : ℕ) (xs old : List strokes.Stroke) → put size xs (record { node = node; mode = Draws; strokes = old }) ≡ record { node = node + size; mode = Draws; strokes = old ++ xs }
unfolding put
put_drawn size node xs old = refl

pub put_measured : (size node : ℕ) (xs old : List strokes.Stroke) → put size xs (record { node = node; mode = Measures; strokes = old }) ≡ record { node = node + size; mode = Measures; strokes = old }
unfolding put
put_measured size node xs old = refl

pub put_rested : (size node : ℕ) (xs old : List strokes.Stroke) → put size xs (record { node = node; mode = Rests; strokes = old }) ≡ record { node = node; mode = Rests; strokes = old }
unfolding put
put_rested size node xs old = refl

-- ---- nothing, and two pieces, of which the second begins where the first ends

put_none_as : (node : ℕ) (old : List strokes.Stroke) (mode : Mode) → put 0 [] (record { node = node; mode = mode; strokes = old }) ≡ record { node = node; mode = mode; strokes = old }
unfolding put
put_none_as node old Draws =
    let e : node + 0 ≡ node = omega arith in
    let h : old ++ [] ≡ old = append-nil old in
    cc
put_none_as node old Measures =
    let e : node + 0 ≡ node = omega arith in
    cc
put_none_as node old Rests = refl

pub put_none : (ink : Ink) → put 0 [] ink ≡ ink
put_none ink = put_none_as ink.node ink.strokes ink.mode

put_after_as : (a b node : ℕ) (xs : List strokes.Stroke) (f : ℕ → List strokes.Stroke) (old : List strokes.Stroke) (mode : Mode) → put b (f (put a xs (record { node = node; mode = mode; strokes = old })).node) (put a xs (record { node = node; mode = mode; strokes = old })) ≡ put (a + b) (xs ++ f (node + a)) (record { node = node; mode = mode; strokes = old })
unfolding put
put_after_as a b node xs f old Draws =
    let e : node + a + b ≡ node + (a + b) = omega arith in
    let h : (old ++ xs) ++ f (node + a) ≡ old ++ (xs ++ f (node + a)) = append_assoc old xs (f (node + a)) in
    cc
put_after_as a b node xs f old Measures =
    let e : node + a + b ≡ node + (a + b) = omega arith in
    ap (λ n. record { node = n; mode = Measures; strokes = old }) e
put_after_as a b node xs f old Rests = refl

pub put_after : (a b : ℕ) (xs : List strokes.Stroke) (f : ℕ → List strokes.Stroke) (ink : Ink) → put b (f (put a xs ink).node) (put a xs ink) ≡ put (a + b) (xs ++ f (ink.node + a)) ink
put_after a b xs f ink = put_after_as a b ink.node xs f ink.strokes ink.mode

pub put_twice : (a b : ℕ) (xs ys : List strokes.Stroke) (ink : Ink) → put b ys (put a xs ink) ≡ put (a + b) (xs ++ ys) ink
put_twice a b xs ys ink = put_after a b xs (λ node. ys) ink

-- ---- an edge to a new node

pub step_joins : (plan : Plan) (scene : Scene) (doing : Doing) (site : Option ℕ) (temporaries : ℕ) (ink : Ink) → put 1 (point plan scene temporaries ∷ []) (put 0 (Line ink.node (suc ink.node) doing site ∷ []) ink) ≡ put 1 (step plan scene ink.node doing site temporaries) ink
unfolding step
step_joins plan scene doing site temporaries ink = put_twice 0 1 (Line ink.node (suc ink.node) doing site ∷ []) (point plan scene temporaries ∷ []) ink

-- ---- what the ruler tells

ruled_as : (size : ℕ) (xs : List strokes.Stroke) (node : ℕ) (old : List strokes.Stroke) (mode : Mode) → (put size xs (ruler (record { node = node; mode = mode; strokes = old }))).node ≡ ahead (record { node = node; mode = mode; strokes = old }) size
unfolding put ahead
ruled_as size xs node old Draws = grind arith
ruled_as size xs node old Measures = refl
ruled_as size xs node old Rests = refl

pub ruled : (size : ℕ) (xs : List strokes.Stroke) (ink : Ink) → (put size xs (ruler ink)).node ≡ ahead ink size
ruled size xs ink = ruled_as size xs ink.node ink.strokes ink.mode

put_ahead_as : (n size : ℕ) (f : ℕ → List strokes.Stroke) (node : ℕ) (old : List strokes.Stroke) (mode : Mode) → put n (f (ahead (record { node = node; mode = mode; strokes = old }) size)) (record { node = node; mode = mode; strokes = old }) ≡ put n (f size) (record { node = node; mode = mode; strokes = old })
unfolding put ahead
put_ahead_as n size f node old Draws = refl
put_ahead_as n size f node old Measures = refl
put_ahead_as n size f node old Rests = refl

-- what is drawn with it is what is drawn with the number itself
pub put_ahead : (n size : ℕ) (f : ℕ → List strokes.Stroke) (ink : Ink) → put n (f (ahead ink size)) ink ≡ put n (f size) ink
put_ahead n size f ink = put_ahead_as n size f ink.node ink.strokes ink.mode

-- one that rests stays where it is
rested_as : (size : ℕ) (xs : List strokes.Stroke) (node : ℕ) (old : List strokes.Stroke) (mode : Mode) → is_rest mode ≡ true → put size xs (record { node = node; mode = mode; strokes = old }) ≡ record { node = node; mode = mode; strokes = old }
unfolding put
rested_as size xs node old Draws h = cc
rested_as size xs node old Measures h = cc
rested_as size xs node old Rests h = refl

pub rested : (size : ℕ) (xs : List strokes.Stroke) (ink : Ink) → is_rest ink.mode ≡ true → put size xs ink ≡ ink
rested size xs ink h = rested_as size xs ink.node ink.strokes ink.mode h

-- how far a pen that measures has come, and what one that draws has recorded
pub measured : (size : ℕ) (xs : List strokes.Stroke) → (put size xs (record { node = 0; mode = Measures; strokes = [] })).node ≡ size
unfolding put
measured size xs = grind arith

pub recorded : (size node : ℕ) (xs : List strokes.Stroke) → (put size xs (record { node = node; mode = Draws; strokes = [] })).strokes ≡ xs
unfolding put
recorded size node xs = refl

-- ---- more pieces, each from where the one before ends

put_after3_as : (a b c node : ℕ) (x : List strokes.Stroke) (y z : ℕ → List strokes.Stroke) (old : List strokes.Stroke) (mode : Mode) → put c (z (put b (y (put a x (record { node = node; mode = mode; strokes = old })).node) (put a x (record { node = node; mode = mode; strokes = old }))).node) (put b (y (put a x (record { node = node; mode = mode; strokes = old })).node) (put a x (record { node = node; mode = mode; strokes = old }))) ≡ put (a + b + c) (x ++ y (node + a) ++ z (node + a + b)) (record { node = node; mode = mode; strokes = old })
unfolding put
put_after3_as a b c node x y z old Draws =
    let e : node + a + b + c ≡ node + (a + b + c) = omega arith in
    let h : old ++ x ++ y (node + a) ++ z (node + a + b) ≡ old ++ (x ++ y (node + a) ++ z (node + a + b)) = simp append_assoc in
    cc
put_after3_as a b c node x y z old Measures =
    let e : node + a + b + c ≡ node + (a + b + c) = omega arith in
    ap (λ n. record { node = n; mode = Measures; strokes = old }) e
put_after3_as a b c node x y z old Rests = refl

pub put_after3 : (a b c : ℕ) (x : List strokes.Stroke) (y z : ℕ → List strokes.Stroke) (ink : Ink) → put c (z (put b (y (put a x ink).node) (put a x ink)).node) (put b (y (put a x ink).node) (put a x ink)) ≡ put (a + b + c) (x ++ y (ink.node + a) ++ z (ink.node + a + b)) ink
put_after3 a b c x y z ink = put_after3_as a b c ink.node x y z ink.strokes ink.mode

-- one more behind three
pub put_after4 : (a b c d : ℕ) (x : List strokes.Stroke) (y z w : ℕ → List strokes.Stroke) (ink : Ink) → put d (w (put c (z (put b (y (put a x ink).node) (put a x ink)).node) (put b (y (put a x ink).node) (put a x ink))).node) (put c (z (put b (y (put a x ink).node) (put a x ink)).node) (put b (y (put a x ink).node) (put a x ink))) ≡ put (a + b + c + d) (x ++ y (ink.node + a) ++ z (ink.node + a + b) ++ w (ink.node + a + b + c)) ink
put_after4 a b c d x y z w ink =
    let e : ink.node + (a + b + c) ≡ ink.node + a + b + c = omega arith in
    ap (λ (it : Ink). put d (w it.node) it) (put_after3 a b c x y z ink)
    ∙ (put_after (a + b + c) d (x ++ y (ink.node + a) ++ z (ink.node + a + b)) w ink
    ∙ ap (λ n. put (a + b + c + d) (x ++ y (ink.node + a) ++ z (ink.node + a + b) ++ w n) ink) e)
