-- What the machine does, by cases, in the order of its own steps.
use Rattle.std.specs.Prelude.{ℕ, zero, suc, ◌+◌, Bool, true, false, not, List, [], ◌∷◌, ◌++◌, ℤ, pos, ◌+ℤ◌, neg_ℤ, Option, Some, None, slice_index_or}
use Rattle.std.specs.Ordering.{int_eq}
use Rattle.wm_ops.specs.Clamping.{leaves16, leaves32}
use Rattle.wm_ops.specs.Outcomes.{outcome_of}
use Rattle.wm_ops.specs.declared.operators.Op.{Op}
use Rattle.wm_ops.specs.declared.outcomes.Outcome.{Outcome}
use Rattle.wm_ops.specs.declared.outcomes.Outcome.TheVariants as outcome
use Rattle.wm_ops.specs.declared.words.Counted.{Counted}
use Rattle.wm_ops.specs.declared.words.Counted.TheVariants as counted
use Rattle.wm_ops.specs.declared.words.ControlWord.{ControlWord}
use Rattle.wm_ops.specs.declared.words.ControlWord.TheVariants as word
use Rattle.wm_program.specs.declared.program.Root.{Root}
use Rattle.wm_program.specs.declared.results.Cause.TheVariants as cause
use Rattle.wm_program.specs.declared.results.End.TheVariants as ends
use Rattle.wm_program.specs.declared.tree.Scalar.{Scalar}
use Rattle.wm_program.specs.declared.tree.Array.{Array}
use Rattle.wm_program.specs.declared.tree.Link.{Link}
use Rattle.wm_program.specs.Numbers.{plain_of, compares, cast_to, is_outside, natural}
use Rattle.wm_program.specs.Tree.{Expression, Arguments, Test, Constant, Named, Element, Operator, Invoke, Plain, Negate, Plus, Cast, Done, Value, Whole, From, Always, Either, Both, Not, Compare, Truth}
use Rattle.wm_program.specs.State.{State, Here, Place, Flag, At, set_number, root_of, offset_of, place_of, number_at}
use Rattle.wm_program.specs.Code.{Code, length_of}
use Rattle.wm_program.specs.Execution.{there}
use Rattle.wm_program.specs.Runs.{weight_in}
use Rattle.wm_interp.specs.declared.halt.Location.{Location}
use Rattle.wm_interp.specs.declared.halt.Location.TheVariants as location
use Rattle.wm_interp.specs.Held.{Held, Gets, Has, Ends, then_on, with_count, failed_on, failed_if_on, flagged_on, tested_on}

-- what a call does
abbrev pub Calling : Type 0
Calling = ℕ → Here → List ℤ → Held → Gets ℤ

-- where something runs: the program, the weights, what calls do, and the instance
pub record Setting : Type 0 where
  pub code : Code
  pub weights : Counted → Option ℕ
  pub calls : Calling
  pub here : Here

-- ---- single operations

abbrev pub counted_on : Setting → Counted → Held → Held
counted_on at word q = with_count (weight_in at.weights word) q

abbrev pub counting_on : Setting → Bool → ControlWord → Held → Held
counting_on at true word q = counted_on at (counted.Word word) q
counting_on at false word q = q

abbrev pub converted_on : Option ℕ → ℤ → Held → Gets ℤ
converted_on None z q = Has z q
converted_on (Some site) z q = tested_on site cause.Narrowing (leaves16 z) z q

abbrev pub computed_on : ℕ → ℤ → Held → Gets ℤ
computed_on site z q = tested_on site cause.Arithmetic (leaves32 z) z q

abbrev pub operated_on : ℕ → Outcome → Held → Gets ℤ
operated_on site (outcome.Value value saturates flag) q = Has value (flagged_on flag (failed_if_on saturates site cause.Saturates q))
operated_on site outcome.OutOfDomain q = Ends (ends.Stopped site cause.Domain) (failed_on site cause.Domain q)

unfoldable pub operate_on : Setting → Op → ℕ → List ℤ → Held → Gets ℤ
operate_on at op site args q =
    operated_on site (outcome_of op (slice_index_or args 0 (pos 0)) (slice_index_or args 1 (pos 0)) (slice_index_or args 2 (pos 0)))
    (counted_on at (counted.Operator op) q)

abbrev pub number_or_stop : ℕ → Option ℤ → Held → Gets ℤ
number_or_stop site None q = Ends (ends.Stopped site cause.Unset) q
number_or_stop site (Some z) q = Has z q

-- where an assignment writes, or an element is read
abbrev pub place_seen : Location → Place
place_seen location.Flag = Flag
place_seen (location.Cell root index) = At root index

unfoldable pub read_on : ℕ → Location → Held → Gets ℤ
read_on site location q = number_or_stop site (number_at (place_seen location) q.state) q

-- the place of an element, whose index is tested
unfoldable pub reach_on : Setting → Array → ℕ → ℤ → Held → Gets Location
reach_on at array site i q =
    let root = root_of at.here array in
    let z = offset_of at.here array q.state +ℤ i in
    tested_on site cause.Index (is_outside (length_of at.code root) z) (location.Cell root (natural z)) q

unfoldable pub element_on : Setting → Array → ℕ → ℤ → Held → Gets ℤ
element_on at array site i q = then_on (reach_on at array site i q) (read_on site)

unfoldable pub view_on : Setting → Array → ℕ → ℤ → Held → Gets ℤ
view_on at array site i q =
    let z = offset_of at.here array q.state +ℤ i in
    tested_on site cause.Index (is_outside (suc (length_of at.code (root_of at.here array))) z) z q

unfoldable pub named_on : Setting → Scalar → Held → ℤ
named_on at scalar q = set_number (number_at (place_of at.here scalar) q.state)

unfoldable pub offset_on : Setting → Array → Held → ℤ
offset_on at array q = offset_of at.here array q.state

-- ---- expressions

abbrev mutual
  pub evaluate_on : Setting → Expression → Held → Gets ℤ
  evaluate_on at (Constant z) q = Has z q
  evaluate_on at (Named scalar) q = Has (named_on at scalar q) q
  evaluate_on at (Element array index site) q = then_on (evaluate_on at index q) (element_on at array site)
  evaluate_on at (Operator op args site) q = then_on (three_on at args q) (operate_on at op site)
  evaluate_on at (Invoke function offset args) q = then_on (gather_on at args [] q) (at.calls function (there at.here offset args))
  evaluate_on at (Plain mark x y site) q =
      then_on (evaluate_on at x q) (λ a q. then_on (evaluate_on at y q) (λ b. computed_on site (plain_of mark a b)))
  evaluate_on at (Negate x site) q = then_on (evaluate_on at x q) (λ z. computed_on site (neg_ℤ z))
  evaluate_on at (Plus x) q = evaluate_on at x q
  evaluate_on at (Cast width x) q = then_on (evaluate_on at x q) (λ z. Has (cast_to width z))

  -- the numbers of an operator's arguments, and 0 for those that it does not take
  pub three_on : Setting → Arguments → Held → Gets (List ℤ)
  three_on at Done q = Has (pos 0 ∷ pos 0 ∷ pos 0 ∷ []) q
  three_on at (Value x narrowing rest) q =
      then_on (evaluate_on at x q) (λ a q. then_on (converted_on narrowing a q) (λ a. two_on at rest a))
  three_on at (Whole array rest) q = gather_on at rest (offset_on at array q ∷ []) q
  three_on at (From array index site rest) q =
      then_on (evaluate_on at index q) (λ i q. then_on (view_on at array site i q) (λ a. gather_on at rest (a ∷ [])))

  pub two_on : Setting → Arguments → ℤ → Held → Gets (List ℤ)
  two_on at Done a q = Has (a ∷ pos 0 ∷ pos 0 ∷ []) q
  two_on at (Value x narrowing rest) a q =
      then_on (evaluate_on at x q) (λ b q. then_on (converted_on narrowing b q) (λ b. one_on at rest a b))
  two_on at (Whole array rest) a q = gather_on at rest (a ∷ offset_on at array q ∷ []) q
  two_on at (From array index site rest) a q =
      then_on (evaluate_on at index q) (λ i q. then_on (view_on at array site i q) (λ b. gather_on at rest (a ∷ b ∷ [])))

  pub one_on : Setting → Arguments → ℤ → ℤ → Held → Gets (List ℤ)
  one_on at Done a b q = Has (a ∷ b ∷ pos 0 ∷ []) q
  one_on at (Value x narrowing rest) a b q =
      then_on (evaluate_on at x q) (λ c q. then_on (converted_on narrowing c q) (λ c. gather_on at rest (a ∷ b ∷ c ∷ [])))
  one_on at (Whole array rest) a b q = gather_on at rest (a ∷ b ∷ offset_on at array q ∷ []) q
  one_on at (From array index site rest) a b q =
      then_on (evaluate_on at index q) (λ i q. then_on (view_on at array site i q) (λ c. gather_on at rest (a ∷ b ∷ c ∷ [])))

  -- the numbers of arguments, behind those that were evaluated before
  pub gather_on : Setting → Arguments → List ℤ → Held → Gets (List ℤ)
  gather_on at Done zs q = Has zs q
  gather_on at (Value x narrowing rest) zs q =
      then_on (evaluate_on at x q) (λ z q. then_on (converted_on narrowing z q) (λ z. gather_on at rest (zs ++ z ∷ [])))
  gather_on at (Whole array rest) zs q = gather_on at rest (zs ++ offset_on at array q ∷ []) q
  gather_on at (From array index site rest) zs q =
      then_on (evaluate_on at index q) (λ i q. then_on (view_on at array site i q) (λ z. gather_on at rest (zs ++ z ∷ [])))

-- plain operators of one level behind a number
abbrev pub links_on : Setting → List (Link Expression) → ℤ → Held → Gets ℤ
links_on at [] a q = Has a q
links_on at (link ∷ rest) a q =
    then_on (evaluate_on at link.operand q) (λ b q. then_on (computed_on link.site (plain_of link.mark a b) q) (links_on at rest))
