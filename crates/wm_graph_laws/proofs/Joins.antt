-- Strokes behind others.
use Rattle.std.proofs.Common.{◌≡◌, ℕ, suc, ◌+◌, ◌≤◌, Bool, true, false, List, [], ◌∷◌, ◌++◌, Option, refl, arith}
use Rattle.std.proofs.lemmas.Bool.Decides.{nat_tests}
use Rattle.std.specs.Prelude.{◌==◌, if◌then◌else◌}
use Rattle.wm_graph_laws.specs.Each.{Each}
use Rattle.wm_flow.specs.Plain.{Doing}
use Rattle.wm_flow.specs.Places.{Plan}
use Rattle.wm_flow.specs.Strokes.{Stroke, Point, Line, Part, Begins, Turns, point, step}
use Rattle.wm_flow.specs.declared.scene.Scene.{Scene}
use Rattle.wm_flow.specs.Expressions.{size_at}
use Rattle.wm_graph_laws.specs.Manner.{Manner, Into, Back, Onward, manner}
use Rattle.wm_graph_laws.specs.Following.{Open, Entered, Inside, Turned, Begun, Ended, Away, landed, Behind, Led, Follows}

led_on : (m : Manner) (K L : Behind) → ((n l : ℕ) (f : List ℕ) (o : List Open) → K n l f o → L n l f o) → (nodes least : ℕ) (far : List ℕ) (heads : List Open) (target : ℕ) → Led m K nodes least far heads target → Led m L nodes least far heads target
unfolding Led
led_on Into K L on nodes least far heads target h = (h.0, h.1, h.2, on nodes (suc target) far (Entered nodes ∷ heads) h.3)
led_on Back K L on nodes least far [] target h = h
led_on Back K L on nodes least far (Entered node ∷ heads) target h = h
led_on Back K L on nodes least far (Inside node number ∷ heads) target h = (h.0, h.1, h.2, on nodes (suc target) far (Turned node number ∷ heads) h.3)
led_on Back K L on nodes least far (Turned node number ∷ heads) target h = h
led_on Onward K L on nodes least far heads target h = (h.0, h.1, on nodes (suc target) (landed (target == nodes) target far) heads h.2)

begun_on : (K L : Behind) → ((n l : ℕ) (f : List ℕ) (o : List Open) → K n l f o → L n l f o) → (nodes least : ℕ) (far : List ℕ) (heads : List Open) (number node : ℕ) → Begun K nodes least far heads number node → Begun L nodes least far heads number node
unfolding Begun
begun_on K L on nodes least far [] number node h = h
begun_on K L on nodes least far (Entered at ∷ heads) number node h = (h.0, h.1, on nodes least far (Inside at number ∷ heads) h.2)
begun_on K L on nodes least far (Inside at other ∷ heads) number node h = h
begun_on K L on nodes least far (Turned at other ∷ heads) number node h = h

ended_on : (K L : Behind) → ((n l : ℕ) (f : List ℕ) (o : List Open) → K n l f o → L n l f o) → (nodes least : ℕ) (far : List ℕ) (heads : List Open) (number : ℕ) → Ended K nodes least far heads number → Ended L nodes least far heads number
unfolding Ended
ended_on K L on nodes least far [] number h = h
ended_on K L on nodes least far (Entered at ∷ heads) number h = h
ended_on K L on nodes least far (Inside at other ∷ heads) number h = h
ended_on K L on nodes least far (Turned at other ∷ heads) number h = (h.0, h.1, on nodes least far heads h.2)

module _ (plan : Plan) (May : ℕ → Type 0) where
  pub follows_join : (xs ys : List Stroke) (K : Behind) (nodes least : ℕ) (far : List ℕ) (heads : List Open) → Follows plan May xs (Follows plan May ys K) nodes least far heads → Follows plan May (xs ++ ys) K nodes least far heads
  unfolding Follows
  follows_join [] ys K nodes least far heads h = h
  follows_join (Point context instance counters temporaries ∷ rest) ys K nodes least far heads h = follows_join rest ys K (suc nodes) 0 far heads h
  follows_join (Line source target doing site ∷ rest) ys K nodes least far heads h =
      (h.0, led_on (manner doing) (Follows plan May rest (Follows plan May ys K)) (Follows plan May (rest ++ ys) K) (follows_join rest ys K) nodes least far heads target h.1)
  follows_join (Part instance start ∷ rest) ys K nodes least far heads h =
      (h.0, h.1, h.2, follows_join rest ys K (suc (start + size_at plan instance)) 0 far heads h.3)
  follows_join (Begins head instance loop node ∷ rest) ys K nodes least far heads h =
      begun_on (Follows plan May rest (Follows plan May ys K)) (Follows plan May (rest ++ ys) K) (follows_join rest ys K) nodes least far heads head node h
  follows_join (Turns head ∷ rest) ys K nodes least far heads h =
      ended_on (Follows plan May rest (Follows plan May ys K)) (Follows plan May (rest ++ ys) K) (follows_join rest ys K) nodes least far heads head h

-- an edge to the next node, the first of its node
landed_next : (n : ℕ) (far : List ℕ) → landed (n == n) n far ≡ far
landed_next n far = landed_same (n == n) n far (same n)
  where
    same : (n : ℕ) → (n == n) ≡ true
    same n = grind (arith, nat_tests)

    landed_same : (b : Bool) (n : ℕ) (far : List ℕ) → b ≡ true → landed b n far ≡ far
    landed_same true n far e = refl
    landed_same false n far e = cc

pub led_next : (m : Manner) (K : Behind) (nodes : ℕ) (far : List ℕ) (heads : List Open) → m ≡ Onward → K nodes (suc nodes) far heads → Led m K nodes 0 far heads nodes
unfolding Led
led_next Into K nodes far heads e h = cc
led_next Back K nodes far heads e h = cc
led_next Onward K nodes far heads e h = (omega arith, omega arith, rw (landed_next nodes far) h)

module _ (plan : Plan) (May : ℕ → Type 0) (scene : Scene) (far : List ℕ) (heads : List Open) where
  pub step_follows : (node : ℕ) (doing : Doing) (site : Option ℕ) (temporaries : ℕ) (K : Behind) → manner doing ≡ Onward → K (suc (suc node)) 0 far heads → Follows plan May (step plan scene node doing site temporaries) K (suc node) 0 far heads
  unfolding step point Follows
  step_follows node doing site temporaries K e h =
      (refl, led_next (manner doing) (Follows plan May (point plan scene temporaries ∷ []) K) (suc node) far heads e h)

  pub step_to : (node end : ℕ) (doing : Doing) (site : Option ℕ) (temporaries : ℕ) (K : Behind) → manner doing ≡ Onward → end ≡ suc node → K (suc end) 0 far heads → Follows plan May (step plan scene node doing site temporaries) K (suc node) 0 far heads
  step_to node end doing site temporaries K e last h =
      step_follows node doing site temporaries K e (rw last at h)

  -- one of two ways to draw a piece
  pub if_follows : (b : Bool) (xs ys : List Stroke) (m n base end : ℕ) (K : Behind) (nodes least : ℕ) → end ≡ base + (if b then m else n) → (end ≡ base + m → Follows plan May xs K nodes least far heads) → (end ≡ base + n → Follows plan May ys K nodes least far heads) → Follows plan May (if b then xs else ys) K nodes least far heads
  if_follows true xs ys m n base end K nodes least e h i = h e
  if_follows false xs ys m n base end K nodes least e h i = i e

  -- a node, before which edges may lead elsewhere
  pub point_then : (rest : List Stroke) (temporaries : ℕ) (K : Behind) (nodes least : ℕ) → Follows plan May rest K (suc nodes) 0 far heads → Follows plan May (point plan scene temporaries ∷ rest) K nodes least far heads
  unfolding point Follows
  point_then rest temporaries K nodes least h = h

-- an edge to a later node
pub led_onward : (m : Manner) (K : Behind) (nodes least : ℕ) (far : List ℕ) (heads : List Open) (target : ℕ) → m ≡ Onward → nodes ≤ target → least ≤ target → K nodes (suc target) (landed (target == nodes) target far) heads → Led m K nodes least far heads target
unfolding Led
led_onward Into K nodes least far heads target e a b h = cc
led_onward Back K nodes least far heads target e a b h = cc
led_onward Onward K nodes least far heads target e a b h = (a, b, h)

pub each_landed : (P : ℕ → Type 0) (b : Bool) (target : ℕ) (far : List ℕ) → P target → Each P far → Each P (landed b target far)
each_landed P true target far p h = h
each_landed P false target far p h = (p, h)

pub each_both : (P Q : ℕ → Type 0) (far : List ℕ) → Each P far → Each Q far → Each (λ t. P t × Q t) far
each_both P Q [] p q = tt
each_both P Q (t ∷ far) p q = ((p.0, q.0), each_both P Q far p.1 q.1)

pub each_on : (P Q : ℕ → Type 0) (far : List ℕ) → ((t : ℕ) → P t → Q t) → Each P far → Each Q far
each_on P Q [] on h = tt
each_on P Q (t ∷ far) on h = (on t h.0, each_on P Q far on h.1)

-- a wider way holds fewer
pub away_within : (far : List ℕ) (low high a b : ℕ) → low ≤ a → b ≤ high → Away low high far → Away a b far
away_within [] low high a b p q h = tt
away_within (t ∷ far) low high a b p q h =
    (λ x y. h.0 (omega arith) (omega arith), away_within far low high a b p q h.1)

-- several pieces, one behind another
module _ (plan : Plan) (May : ℕ → Type 0) where
  pub join3 : (a b c : List Stroke) (K : Behind) (nodes least : ℕ) (far : List ℕ) (heads : List Open) → Follows plan May a (Follows plan May b (Follows plan May c K)) nodes least far heads → Follows plan May (a ++ b ++ c) K nodes least far heads
  join3 a b c K nodes least far heads h = follows_join plan May (a ++ b) c K nodes least far heads (follows_join plan May a b (Follows plan May c K) nodes least far heads h)

  pub join4 : (a b c d : List Stroke) (K : Behind) (nodes least : ℕ) (far : List ℕ) (heads : List Open) → Follows plan May a (Follows plan May b (Follows plan May c (Follows plan May d K))) nodes least far heads → Follows plan May (a ++ b ++ c ++ d) K nodes least far heads
  join4 a b c d K nodes least far heads h = follows_join plan May (a ++ b ++ c) d K nodes least far heads (join3 a b c (Follows plan May d K) nodes least far heads h)

  pub join5 : (a b c d e : List Stroke) (K : Behind) (nodes least : ℕ) (far : List ℕ) (heads : List Open) → Follows plan May a (Follows plan May b (Follows plan May c (Follows plan May d (Follows plan May e K)))) nodes least far heads → Follows plan May (a ++ b ++ c ++ d ++ e) K nodes least far heads
  join5 a b c d e K nodes least far heads h = follows_join plan May (a ++ b ++ c ++ d) e K nodes least far heads (join4 a b c d (Follows plan May e K) nodes least far heads h)

  pub join6 : (a b c d e g : List Stroke) (K : Behind) (nodes least : ℕ) (far : List ℕ) (heads : List Open) → Follows plan May a (Follows plan May b (Follows plan May c (Follows plan May d (Follows plan May e (Follows plan May g K))))) nodes least far heads → Follows plan May (a ++ b ++ c ++ d ++ e ++ g) K nodes least far heads
  join6 a b c d e g K nodes least far heads h = follows_join plan May (a ++ b ++ c ++ d ++ e) g K nodes least far heads (join5 a b c d e (Follows plan May g K) nodes least far heads h)

  pub join7 : (a b c d e g i : List Stroke) (K : Behind) (nodes least : ℕ) (far : List ℕ) (heads : List Open) → Follows plan May a (Follows plan May b (Follows plan May c (Follows plan May d (Follows plan May e (Follows plan May g (Follows plan May i K)))))) nodes least far heads → Follows plan May (a ++ b ++ c ++ d ++ e ++ g ++ i) K nodes least far heads
  join7 a b c d e g i K nodes least far heads h = follows_join plan May (a ++ b ++ c ++ d ++ e ++ g) i K nodes least far heads (join6 a b c d e g (Follows plan May i K) nodes least far heads h)

  pub join8 : (a b c d e g i j : List Stroke) (K : Behind) (nodes least : ℕ) (far : List ℕ) (heads : List Open) → Follows plan May a (Follows plan May b (Follows plan May c (Follows plan May d (Follows plan May e (Follows plan May g (Follows plan May i (Follows plan May j K))))))) nodes least far heads → Follows plan May (a ++ b ++ c ++ d ++ e ++ g ++ i ++ j) K nodes least far heads
  join8 a b c d e g i j K nodes least far heads h = follows_join plan May (a ++ b ++ c ++ d ++ e ++ g ++ i) j K nodes least far heads (join7 a b c d e g i (Follows plan May j K) nodes least far heads h)

  pub join9 : (a b c d e g i j k : List Stroke) (K : Behind) (nodes least : ℕ) (far : List ℕ) (heads : List Open) → Follows plan May a (Follows plan May b (Follows plan May c (Follows plan May d (Follows plan May e (Follows plan May g (Follows plan May i (Follows plan May j (Follows plan May k K)))))))) nodes least far heads → Follows plan May (a ++ b ++ c ++ d ++ e ++ g ++ i ++ j ++ k) K nodes least far heads
  join9 a b c d e g i j k K nodes least far heads h = follows_join plan May (a ++ b ++ c ++ d ++ e ++ g ++ i ++ j) k K nodes least far heads (join8 a b c d e g i j (Follows plan May k K) nodes least far heads h)

  pub join10 : (a b c d e g i j k l : List Stroke) (K : Behind) (nodes least : ℕ) (far : List ℕ) (heads : List Open) → Follows plan May a (Follows plan May b (Follows plan May c (Follows plan May d (Follows plan May e (Follows plan May g (Follows plan May i (Follows plan May j (Follows plan May k (Follows plan May l K))))))))) nodes least far heads → Follows plan May (a ++ b ++ c ++ d ++ e ++ g ++ i ++ j ++ k ++ l) K nodes least far heads
  join10 a b c d e g i j k l K nodes least far heads h = follows_join plan May (a ++ b ++ c ++ d ++ e ++ g ++ i ++ j ++ k) l K nodes least far heads (join9 a b c d e g i j k (Follows plan May l K) nodes least far heads h)

  pub join11 : (a b c d e g i j k l m : List Stroke) (K : Behind) (nodes least : ℕ) (far : List ℕ) (heads : List Open) → Follows plan May a (Follows plan May b (Follows plan May c (Follows plan May d (Follows plan May e (Follows plan May g (Follows plan May i (Follows plan May j (Follows plan May k (Follows plan May l (Follows plan May m K)))))))))) nodes least far heads → Follows plan May (a ++ b ++ c ++ d ++ e ++ g ++ i ++ j ++ k ++ l ++ m) K nodes least far heads
  join11 a b c d e g i j k l m K nodes least far heads h = follows_join plan May (a ++ b ++ c ++ d ++ e ++ g ++ i ++ j ++ k ++ l) m K nodes least far heads (join10 a b c d e g i j k l (Follows plan May m K) nodes least far heads h)
