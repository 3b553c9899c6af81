-- The machine does what the definition does: on each tree, from what is held of a state, it comes to what is held of the
-- state that the definition gives.
use Rattle.std.proofs.Common.{◌≡◌, ℕ, zero, suc, ◌+◌, Bool, true, false, not, List, [], ◌∷◌, ◌++◌, length, map, ℤ, pos, ◌+ℤ◌, Option, Some, None, refl, sym, ap, ◌∙◌, arith, append_assoc}
use Rattle.std.specs.Prelude.{neg_ℤ, slice_index_or}
use Rattle.std.specs.Ordering.{int_eq}
use Rattle.wm_ops.specs.Clamping.{leaves16, leaves32}
use Rattle.wm_ops.specs.Outcomes.{outcome_of}
use Rattle.wm_ops.specs.declared.operators.Op.{Op}
use Rattle.wm_ops.specs.declared.outcomes.Outcome.{Outcome}
use Rattle.wm_ops.specs.declared.outcomes.Outcome.TheVariants as outcome
use Rattle.wm_ops.specs.declared.words.Counted.{Counted}
use Rattle.wm_ops.specs.declared.words.Counted.TheVariants as counted
use Rattle.wm_ops.specs.declared.words.ControlWord.{ControlWord}
use Rattle.wm_program.specs.declared.program.Root.{Root}
use Rattle.wm_program.specs.declared.program.Root.TheVariants as root
use Rattle.wm_program.specs.declared.results.Cause.{Cause}
use Rattle.wm_program.specs.declared.results.Cause.TheVariants as cause
use Rattle.wm_program.specs.declared.results.End.{End}
use Rattle.wm_program.specs.declared.results.End.TheVariants as ends
use Rattle.wm_program.specs.declared.tree.Scalar.{Scalar}
use Rattle.wm_program.specs.declared.tree.Scalar.TheVariants as scalar
use Rattle.wm_program.specs.declared.tree.Array.{Array}
use Rattle.wm_program.specs.declared.tree.Array.TheVariants as array
use Rattle.wm_program.specs.Numbers.{plain_of, compares, cast_to, is_outside, natural, operator_outcome}
use Rattle.wm_program.specs.Tree.{Expression, Arguments, Test, Constant, Named, Element, Operator, Invoke, Plain, Negate, Plus, Cast, Done, Value, Whole, From, Always, Either, Both, Not, Compare, Truth}
use Rattle.wm_program.specs.State.{State, Here, Place, Flag, At, Note, Counts, Evaluated, Failed, root_of, offset_of, place_of, number_at, number_in, set_number, cells_of, noted, failed_if, flagged, counting}
use Rattle.wm_program.specs.Outcomes.{Got, Gives, Halts, then_get, tested}
use Rattle.wm_program.specs.Code.{Code, length_of}
use Rattle.wm_program.specs.Execution.{Calls, converted, computed, operated, operate, read, reach, begin_view, there, evaluate, evaluate_all, when, when_not, ask}
use Rattle.wm_program.specs.Runs.{weight_in}
use Rattle.wm_interp.specs.declared.halt.Location.{Location}
use Rattle.wm_interp.specs.declared.halt.Location.TheVariants as location
use Rattle.wm_interp.specs.Held.{Held, Gets, Has, Ends, then_on, with_count, failed_on, failed_if_on, flagged_on, tested_on}
use Rattle.wm_interp.specs.Going.{Setting, Calling, counted_on, converted_on, computed_on, operated_on, operate_on, number_or_stop, place_seen, read_on, reach_on, element_on, view_on, named_on, offset_on, evaluate_on, three_on, two_on, one_on, gather_on}
use Rattle.wm_interp.specs.Doing.{ask_on, unless_on, when_on}
use Rattle.wm_interp.specs.Projected.{bare, seen, show}
use Rattle.wm_interp.proofs.Notes.{seen_counts, seen_failed, seen_evaluated, seen_failed_if, seen_flagged}
use Rattle.wm_interp.proofs.Arms.{on_and_on, alike_on}

-- ---- what joins two evaluations

pub follows : {A B : Type 0} (w : Counted → Option ℕ) (got : Got A) (f : A → State → Got B) (on : Gets A) (g : A → Held → Gets B) → show w got ≡ on → ((x : A) (s : State) → show w (f x s) ≡ g x (seen w s)) → show w (then_get got f) ≡ then_on on g
follows w (Gives x s) f on g h k = k x s ∙ ap (λ got. then_on got g) h
follows w (Halts end s) f on g h k = ap (λ got. then_on got g) h

got_assoc : {A B C : Type 0} (got : Got A) (f : A → State → Got B) (g : B → State → Got C) → then_get (then_get got f) g ≡ then_get got (λ x s. then_get (f x s) g)
got_assoc (Gives x s) f g = refl
got_assoc (Halts end s) f g = refl

append_nil : (zs : List ℤ) → zs ++ [] ≡ zs
append_nil [] = refl
append_nil (z ∷ zs) = ap (λ l. z ∷ l) (append_nil zs)

-- ---- single operations

tested_agrees : {A : Type 0} (w : Counted → Option ℕ) (site : ℕ) (why : Cause) (fails : Bool) (x : A) (s : State) → show w (tested site why fails s (Gives x)) ≡ tested_on site why fails x (seen w s)
tested_agrees w site why true x s = ap (Ends (ends.Stopped site why)) (seen_failed w site why (noted (Evaluated site) s) ∙ ap (failed_on site why) (seen_evaluated w site s))
tested_agrees w site why false x s = ap (Has x) (seen_evaluated w site s)

pub converted_agrees : (w : Counted → Option ℕ) (narrowing : Option ℕ) (z : ℤ) (s : State) → show w (converted narrowing z s) ≡ converted_on narrowing z (seen w s)
converted_agrees w None z s = refl
converted_agrees w (Some site) z s = tested_agrees w site cause.Narrowing (leaves16 z) z s

pub computed_agrees : (w : Counted → Option ℕ) (site : ℕ) (z : ℤ) (s : State) → show w (computed site z s) ≡ computed_on site z (seen w s)
computed_agrees w site z s = tested_agrees w site cause.Arithmetic (leaves32 z) z s

operated_agrees : (w : Counted → Option ℕ) (site : ℕ) (out : Outcome) (s : State) → show w (operated site out s) ≡ operated_on site out (seen w s)
operated_agrees w site (outcome.Value value saturates flag) s =
    ap (Has value) (seen_flagged w flag (failed_if saturates site cause.Saturates s) ∙ ap (flagged_on flag) (seen_failed_if w saturates site cause.Saturates s))
operated_agrees w site outcome.OutOfDomain s = ap (Ends (ends.Stopped site cause.Domain)) (seen_failed w site cause.Domain s)

-- Where something runs, and that calls do the same in both.
module _ (code : Code) (w : Counted → Option ℕ) (calls : Calls) (machine : Calling) (here : Here) (calls_agree : (function : ℕ) (there : Here) (args : List ℤ) (s : State) → show w (calls function there args s) ≡ machine function there args (seen w s)) where
  abbrev pub at : Setting
  at = record { code = code; weights = w; calls = machine; here = here }

  pub operate_agrees : (op : Op) (site : ℕ) (args : List ℤ) (s : State) → show w (operate op site args s) ≡ operate_on at op site args (seen w s)
  unfolding operate operate_on
  operate_agrees op site args s =
      operated_agrees w site (operator_outcome op args) (noted (Evaluated site) (noted (Counts (counted.Operator op)) s))
      ∙ ap (operated_on site (operator_outcome op args)) (seen_evaluated w site (noted (Counts (counted.Operator op)) s) ∙ seen_counts w (counted.Operator op) s)

  pub number_agrees : (place : Place) (s : State) → number_at place s ≡ number_at place (bare s)
  number_agrees Flag s = refl
  number_agrees (At (root.Object object) index) s = refl
  number_agrees (At (root.Local instance local) index) s = refl

  pub named_agrees : (scalar : Scalar) (s : State) → set_number (number_at (place_of here scalar) s) ≡ named_on at scalar (seen w s)
  unfolding named_on
  named_agrees scalar s = ap set_number (number_agrees (place_of here scalar) s)

  offset_bare : (array : Array) (s : State) → offset_of here array s ≡ offset_of here array (bare s)
  offset_bare (array.Object object) s = refl
  offset_bare (array.Local local) s = refl
  offset_bare (array.View local number) s = refl

  pub offset_agrees : (array : Array) (s : State) → offset_of here array s ≡ offset_on at array (seen w s)
  unfolding offset_on
  offset_agrees array s = offset_bare array s

  stops_unset : (site : ℕ) (n : Option ℤ) (s : State) → show w (read site n s) ≡ number_or_stop site n (seen w s)
  stops_unset site None s = refl
  stops_unset site (Some z) s = refl

  pub read_agrees : (site : ℕ) (l : Location) (s : State) → show w (read site (number_at (place_seen l) s) s) ≡ read_on site l (seen w s)
  unfolding read_on
  read_agrees site l s = stops_unset site (number_at (place_seen l) s) s ∙ ap (λ n. number_or_stop site n (seen w s)) (number_agrees (place_seen l) s)

  reach_at : (site : ℕ) (fails : Bool) (root : Root) (n : ℕ) (s : State) → show w (tested site cause.Index fails s (Gives (At root n))) ≡ then_on (tested_on site cause.Index fails (location.Cell root n) (seen w s)) (λ l. Has (place_seen l))
  reach_at site true root n s = ap (Ends (ends.Stopped site cause.Index)) (seen_failed w site cause.Index (noted (Evaluated site) s) ∙ ap (failed_on site cause.Index) (seen_evaluated w site s))
  reach_at site false root n s = ap (Has (At root n)) (seen_evaluated w site s)

  pub reach_agrees : (array : Array) (site : ℕ) (i : ℤ) (s : State) → show w (reach site (length_of code (root_of here array)) (root_of here array) (offset_of here array s +ℤ i) s) ≡ then_on (reach_on at array site i (seen w s)) (λ l. Has (place_seen l))
  unfolding reach_on
  reach_agrees array site i s =
      ap (λ z. show w (reach site (length_of code (root_of here array)) (root_of here array) (z +ℤ i) s)) (offset_bare array s)
      ∙ reach_at site _ (root_of here array) _ s

  read_at : (site : ℕ) (fails : Bool) (root : Root) (n : ℕ) (s : State) → show w (then_get (tested site cause.Index fails s (Gives (At root n))) (λ place s. read site (number_at place s) s)) ≡ then_on (tested_on site cause.Index fails (location.Cell root n) (seen w s)) (read_on site)
  read_at site true root n s = ap (Ends (ends.Stopped site cause.Index)) (seen_failed w site cause.Index (noted (Evaluated site) s) ∙ ap (failed_on site cause.Index) (seen_evaluated w site s))
  read_at site false root n s = read_agrees site (location.Cell root n) (noted (Evaluated site) s) ∙ ap (read_on site (location.Cell root n)) (seen_evaluated w site s)

  pub element_agrees : (array : Array) (site : ℕ) (i : ℤ) (s : State) → show w (then_get (reach site (length_of code (root_of here array)) (root_of here array) (offset_of here array s +ℤ i) s) (λ place s. read site (number_at place s) s)) ≡ element_on at array site i (seen w s)
  unfolding element_on reach_on
  element_agrees array site i s =
      ap (λ z. show w (then_get (reach site (length_of code (root_of here array)) (root_of here array) (z +ℤ i) s) (λ place s. read site (number_at place s) s))) (offset_bare array s)
      ∙ read_at site _ (root_of here array) _ s

  pub view_agrees : (array : Array) (site : ℕ) (i : ℤ) (s : State) → show w (begin_view site (length_of code (root_of here array)) (offset_of here array s +ℤ i) s) ≡ view_on at array site i (seen w s)
  unfolding view_on
  view_agrees array site i s =
      ap (λ z. show w (begin_view site (length_of code (root_of here array)) (z +ℤ i) s)) (offset_bare array s)
      ∙ tested_agrees w site cause.Index _ _ s

  -- ---- an operator's numbers are the first three of those that are gathered

  one_gathered : (op : Op) (site : ℕ) (args : Arguments) (a b : ℤ) (q : Held) → then_on (one_on at args a b q) (operate_on at op site) ≡ then_on (gather_on at args (a ∷ b ∷ []) q) (operate_on at op site)
  unfolding operate_on
  one_gathered op site Done a b q = refl
  one_gathered op site (Value x n rest) a b q = refl
  one_gathered op site (Whole array rest) a b q = refl
  one_gathered op site (From array index i rest) a b q = refl

  two_gathered : (op : Op) (site : ℕ) (args : Arguments) (a : ℤ) (q : Held) → then_on (two_on at args a q) (operate_on at op site) ≡ then_on (gather_on at args (a ∷ []) q) (operate_on at op site)
  unfolding operate_on
  two_gathered op site Done a q = refl
  two_gathered op site (Value x n rest) a q =
      on_and_on (evaluate_on at x q) _ _ ∙ (alike_on (evaluate_on at x q) _ _ (λ b q.
      on_and_on (converted_on n b q) _ _ ∙ (alike_on (converted_on n b q) _ _ (λ b q. one_gathered op site rest a b q) ∙ sym (on_and_on (converted_on n b q) _ _)))
      ∙ sym (on_and_on (evaluate_on at x q) _ _))
  two_gathered op site (Whole array rest) a q = refl
  two_gathered op site (From array index i rest) a q = refl

  pub three_gathered : (op : Op) (site : ℕ) (args : Arguments) (q : Held) → then_on (three_on at args q) (operate_on at op site) ≡ then_on (gather_on at args [] q) (operate_on at op site)
  unfolding operate_on
  three_gathered op site Done q = refl
  three_gathered op site (Value x n rest) q =
      on_and_on (evaluate_on at x q) _ _ ∙ (alike_on (evaluate_on at x q) _ _ (λ a q.
      on_and_on (converted_on n a q) _ _ ∙ (alike_on (converted_on n a q) _ _ (λ a q. two_gathered op site rest a q) ∙ sym (on_and_on (converted_on n a q) _ _)))
      ∙ sym (on_and_on (evaluate_on at x q) _ _))
  three_gathered op site (Whole array rest) q = refl
  three_gathered op site (From array index i rest) q = refl

  -- ---- expressions

  -- numbers behind those that were found before
  abbrev behind : List ℤ → List ℤ → State → Got (List ℤ)
  behind zs ys s = Gives (zs ++ ys) s

  nothing_before : (got : Got (List ℤ)) → got ≡ then_get got (behind [])
  nothing_before (Gives ys s) = refl
  nothing_before (Halts end s) = refl

  one_more : (all : Got (List ℤ)) (zs : List ℤ) (z : ℤ) → then_get (then_get all (λ ys s. Gives (z ∷ ys) s)) (behind zs) ≡ then_get all (behind (zs ++ z ∷ []))
  one_more (Gives ys s) zs z = ap (λ l. Gives l s) (sym (append_assoc zs (z ∷ []) ys))
  one_more (Halts end s) zs z = refl

  moved : (got : Got ℤ) (next : ℤ → State → Got ℤ) (all : State → Got (List ℤ)) (zs : List ℤ) → then_get (then_get got (λ z s. then_get (next z s) (λ z s. then_get (all s) (λ ys s. Gives (z ∷ ys) s)))) (behind zs) ≡ then_get got (λ z s. then_get (next z s) (λ z s. then_get (then_get (all s) (λ ys s. Gives (z ∷ ys) s)) (behind zs)))
  moved (Gives z s) next all zs = got_assoc (next z s) (λ z s. then_get (all s) (λ ys s. Gives (z ∷ ys) s)) (behind zs)
  moved (Halts end s) next all zs = refl

  mutual
    pub evaluate_agrees : (x : Expression) (s : State) → show w (evaluate (length_of code) calls here x s) ≡ evaluate_on at x (seen w s)
    evaluate_agrees (Constant z) s = refl
    evaluate_agrees (Named scalar) s = ap (λ z. Has z (seen w s)) (named_agrees scalar s)
    evaluate_agrees (Element array index site) s =
        follows w (evaluate (length_of code) calls here index s) _ _ (element_on at array site) (evaluate_agrees index s) (λ i s. element_agrees array site i s)
    evaluate_agrees (Operator op args site) s =
        follows w (evaluate_all (length_of code) calls here args s) _ _ (operate_on at op site) (ap (show w) (nothing_before (evaluate_all (length_of code) calls here args s)) ∙ gather_agrees args [] s) (λ zs s. operate_agrees op site zs s)
        ∙ sym (three_gathered op site args (seen w s))
    evaluate_agrees (Invoke function offset args) s =
        follows w (evaluate_all (length_of code) calls here args s) _ _ (machine function (there here offset args)) (ap (show w) (nothing_before (evaluate_all (length_of code) calls here args s)) ∙ gather_agrees args [] s) (λ zs s. calls_agree function (there here offset args) zs s)
    evaluate_agrees (Plain mark x y site) s =
        follows w (evaluate (length_of code) calls here x s) _ _ (λ a q. then_on (evaluate_on at y q) (λ b. computed_on site (plain_of mark a b))) (evaluate_agrees x s) (λ a s.
        follows w (evaluate (length_of code) calls here y s) _ _ (λ b. computed_on site (plain_of mark a b)) (evaluate_agrees y s) (λ b s. computed_agrees w site (plain_of mark a b) s))
    evaluate_agrees (Negate x site) s = follows w (evaluate (length_of code) calls here x s) _ _ (λ z. computed_on site (neg_ℤ z)) (evaluate_agrees x s) (λ z s. computed_agrees w site (neg_ℤ z) s)
    evaluate_agrees (Plus x) s = evaluate_agrees x s
    evaluate_agrees (Cast width x) s = follows w (evaluate (length_of code) calls here x s) _ _ (λ z. Has (cast_to width z)) (evaluate_agrees x s) (λ z s. refl)

    pub gather_agrees : (args : Arguments) (zs : List ℤ) (s : State) → show w (then_get (evaluate_all (length_of code) calls here args s) (behind zs)) ≡ gather_on at args zs (seen w s)
    gather_agrees Done zs s = ap (λ l. Has l (seen w s)) (append_nil zs)
    gather_agrees (Value x narrowing rest) zs s =
        ap (show w) (moved (evaluate (length_of code) calls here x s) (converted narrowing) (evaluate_all (length_of code) calls here rest) zs)
        ∙ follows w (evaluate (length_of code) calls here x s) _ _ (λ z q. then_on (converted_on narrowing z q) (λ z. gather_on at rest (zs ++ z ∷ []))) (evaluate_agrees x s) (λ z s.
        follows w (converted narrowing z s) _ _ (λ z. gather_on at rest (zs ++ z ∷ [])) (converted_agrees w narrowing z s) (λ z s.
        ap (show w) (one_more (evaluate_all (length_of code) calls here rest s) zs z) ∙ gather_agrees rest (zs ++ z ∷ []) s))
    gather_agrees (Whole array rest) zs s =
        ap (show w) (one_more (evaluate_all (length_of code) calls here rest s) zs (offset_of here array s))
        ∙ (gather_agrees rest (zs ++ offset_of here array s ∷ []) s ∙ ap (λ z. gather_on at rest (zs ++ z ∷ []) (seen w s)) (offset_agrees array s))
    gather_agrees (From array index site rest) zs s =
        ap (show w) (moved (evaluate (length_of code) calls here index s) (λ i s. begin_view site (length_of code (root_of here array)) (offset_of here array s +ℤ i) s) (evaluate_all (length_of code) calls here rest) zs)
        ∙ follows w (evaluate (length_of code) calls here index s) _ _ (λ i q. then_on (view_on at array site i q) (λ z. gather_on at rest (zs ++ z ∷ []))) (evaluate_agrees index s) (λ i s.
        follows w (begin_view site (length_of code (root_of here array)) (offset_of here array s +ℤ i) s) _ _ (λ z. gather_on at rest (zs ++ z ∷ [])) (view_agrees array site i s) (λ z s.
        ap (show w) (one_more (evaluate_all (length_of code) calls here rest s) zs z) ∙ gather_agrees rest (zs ++ z ∷ []) s))

  -- ---- conditions

  unless_same : (holds : Bool) (f : State → Got Bool) (g : Held → Gets Bool) (s : State) → show w (f s) ≡ g (seen w s) → show w (when_not (length_of code) calls here holds f s) ≡ unless_on holds g (seen w s)
  unless_same true f g s h = refl
  unless_same false f g s h = h

  when_same : (holds : Bool) (f : State → Got Bool) (g : Held → Gets Bool) (s : State) → show w (f s) ≡ g (seen w s) → show w (when (length_of code) calls here holds f s) ≡ when_on holds g (seen w s)
  when_same true f g s h = h
  when_same false f g s h = refl

  pub ask_agrees : (c : Test) (s : State) → show w (ask (length_of code) calls here c s) ≡ ask_on at c (seen w s)
  ask_agrees Always s = refl
  ask_agrees (Either c d) s =
      follows w (ask (length_of code) calls here c s) _ _ (λ holds. unless_on holds (ask_on at d)) (ask_agrees c s) (λ holds s. unless_same holds (ask (length_of code) calls here d) (ask_on at d) s (ask_agrees d s))
  ask_agrees (Both c d) s =
      follows w (ask (length_of code) calls here c s) _ _ (λ holds. when_on holds (ask_on at d)) (ask_agrees c s) (λ holds s. when_same holds (ask (length_of code) calls here d) (ask_on at d) s (ask_agrees d s))
  ask_agrees (Not c) s = follows w (ask (length_of code) calls here c s) _ _ (λ holds. Has (not holds)) (ask_agrees c s) (λ holds s. refl)
  ask_agrees (Compare x mark y) s =
      follows w (evaluate (length_of code) calls here x s) _ _ (λ a q. then_on (evaluate_on at y q) (λ b. Has (compares mark a b))) (evaluate_agrees x s) (λ a s.
      follows w (evaluate (length_of code) calls here y s) _ _ (λ b. Has (compares mark a b)) (evaluate_agrees y s) (λ b s. refl))
  ask_agrees (Truth x) s = follows w (evaluate (length_of code) calls here x s) _ _ (λ z. Has (not (int_eq z (pos 0)))) (evaluate_agrees x s) (λ z s. refl)
