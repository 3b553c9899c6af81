-- Small programs, written out, and what they do.
use Rattle.std.specs.Prelude.{◌≡◌, ℕ, Bool, true, false, List, [], ◌∷◌, ℤ, pos, negsuc, Option, Some, None}
use Rattle.wm_ops.specs.declared.operators.Op.TheVariants.{Add, Sub, AbsS, Shl, Shr, DivS}
use Rattle.wm_ops.specs.declared.operators.Width.TheVariants.{W16, W32}
use Rattle.wm_ops.specs.declared.words.Counted.{Counted}
use Rattle.wm_ops.specs.declared.words.CountCall.TheVariants.{Move16}
use Rattle.wm_program.specs.declared.program.LocalInfo.{LocalInfo}
use Rattle.wm_program.specs.declared.program.ObjectInfo.{ObjectInfo}
use Rattle.wm_program.specs.declared.program.InstanceInfo.{InstanceInfo}
use Rattle.wm_program.specs.declared.program.Root.TheVariants as root
use Rattle.wm_program.specs.declared.results.Cause.{Cause}
use Rattle.wm_program.specs.declared.results.Cause.TheVariants.{Saturates, Domain, Index, Narrowing, Unset}
use Rattle.wm_program.specs.declared.results.End.{End}
use Rattle.wm_program.specs.declared.results.End.TheVariants.{Ended, Stopped, StepLimit}
use Rattle.wm_program.specs.declared.results.Event.{Event}
use Rattle.wm_program.specs.declared.results.FrameResult.{FrameResult}
use Rattle.wm_program.specs.declared.tree.Scalar.TheVariants as scalar
use Rattle.wm_program.specs.declared.tree.Array.TheVariants as array
use Rattle.wm_program.specs.declared.tree.PlainMark.TheVariants.{Plus}
use Rattle.wm_program.specs.declared.tree.Comparison.TheVariants.{Less, Equal}
use Rattle.wm_program.specs.Tree.{Expression, Arguments, Tree, Constant, Named, Element, Operator, Invoke, Done, Value, From, Always, Compare, Variable, Item, Assign, Update, Evaluate, Count, Filled, Blank, Skip, Seq, Block, Declare, Act, If, IfElse, For, While}
use Rattle.wm_program.specs.Code.{Code, Input, Routine}
use Rattle.wm_program.specs.Failure.{FailsAt}
use Rattle.wm_program.specs.Runs.{Frame, run_of}

-- each word weighs 1
abbrev pub ones : Counted → Option ℕ
ones word = Some 1

abbrev pub word16 : Bool → ObjectInfo
word16 input =
    record {
      name = [];
      width = W16;
      length = 1;
      scalar = true;
      constant = false;
      addressed = false;
      initial = [];
      input = input;
    }

abbrev pub root_instance : ℕ → InstanceInfo
root_instance function = record { function = function; caller = None; call = None; roots = [] }

abbrev pub without_locals : Tree → Routine
without_locals body = record { result = None; locals = []; parameters = 0; body = body }

abbrev pub input16 : ℕ → Input
input16 object = record { object = object; low = negsuc 32767; high = pos 32767 }

abbrev pub called_instance : ℕ → InstanceInfo
called_instance function = record { function = function; caller = Some 0; call = None; roots = [] }

abbrev pub frame_of : ℕ → List ℤ → Frame
frame_of steps values = record { values = values; steps = steps }

abbrev pub object : ℕ → Expression
object k = Named (scalar.Object k)

-- a block of one statement
abbrev pub only : Tree → Tree
only tree = Block (Seq tree Skip)

abbrev pub shown : ℕ → ℤ → List Event → End → FrameResult
shown count overflow events end = record { count = count; overflow = overflow; events = events; end = end }

-- the result of a start without init
abbrev pub at_rest : FrameResult
at_rest = shown 0 (pos 0) [] Ended

-- `f();`
abbrev pub call_of : ℕ → ℕ → Tree
call_of function offset = Act (Evaluate (Invoke function offset Done))

-- what an operator takes
abbrev pub one_value : Expression → Arguments
one_value x = Value x None Done

abbrev pub two_values : Expression → Expression → Arguments
two_values x y = Value x None (Value y None Done)

abbrev pub set_object : ℕ → Expression → Tree
set_object k x = Act (Assign (Variable (scalar.Object k)) x None)

abbrev pub set_local : ℕ → Expression → Tree
set_local k x = Act (Assign (Variable (scalar.Local k)) x None)

-- a program of one function without parameters, on scalars of 16 bits
abbrev pub single : List ObjectInfo → List Input → Routine → Code
single objects inputs routine =
    record {
      routines = routine ∷ [];
      objects = objects;
      sites = [];
      loops = [];
      instances = root_instance 0 ∷ [];
      inputs = inputs;
      init = None;
      frame = 0;
    }

abbrev pub failing : ℕ → Cause → List Event
failing site cause = record { site = site; cause = cause; times = 1 } ∷ []

-- ---- `Word16 a, b, q; void frame(void) { q = div_s(a, b); }`

abbrev pub quotient_code : Code
quotient_code =
    single (word16 true ∷ word16 true ∷ word16 false ∷ []) (input16 0 ∷ input16 1 ∷ [])
    (without_locals (only (set_object 2 (Operator DivS (two_values (object 0) (object 1)) 0))))

-- 11 / 10 is outside the domain: the operator is counted, fails and stops the run, and no later frame is run
abbrev pub QuotientStops : Type 0
QuotientStops =
    run_of quotient_code ones [] 100 (frame_of 100 (pos 11 ∷ pos 10 ∷ []) ∷ frame_of 100 (pos 1 ∷ pos 2 ∷ []) ∷ [])
    ≡ at_rest ∷ shown 1 (pos 0) (failing 0 Domain) (Stopped 0 Domain) ∷ shown 0 (pos 0) [] (Stopped 0 Domain) ∷ []

-- ---- `Word16 x, y; void frame(void) { y = abs_s(x); }`

abbrev pub size_code : Code
size_code =
    single (word16 true ∷ word16 false ∷ []) (input16 0 ∷ [])
    (without_locals (only (set_object 1 (Operator AbsS (one_value (object 0)) 0))))

-- the size of -32768 saturates; the run goes on, and this operator leaves Overflow as it is
abbrev pub SizeSaturates : Type 0
SizeSaturates =
    run_of size_code ones [] 100 (frame_of 100 (negsuc 32767 ∷ []) ∷ [])
    ≡ at_rest ∷ shown 1 (pos 0) (failing 0 Saturates) Ended ∷ []

-- ---- `Word16 x; void frame(void) { while (sub(x, 16384) < 0) x = shl(x, 1); }`

abbrev pub shifting_code : Code
shifting_code =
    single (word16 true ∷ []) (input16 0 ∷ [])
    (without_locals (only (While false 0
    (Compare (Operator Sub (two_values (object 0) (Constant (pos 16384))) 0) Less (Constant (pos 0)))
    (set_object 0 (Operator Shl (two_values (object 0) (Constant (pos 1))) 1)))))

-- from 0 it never ends: the block, the loop, and then a test and a statement with each turn are the ten steps
abbrev pub ShiftingRunsOut : Type 0
ShiftingRunsOut =
    run_of shifting_code ones [] 10 (frame_of 10 (pos 0 ∷ []) ∷ [])
    ≡ at_rest ∷ shown 8 (pos 0) [] StepLimit ∷ []

-- ---- `Word16 x, y; void frame(void) { Word16 t[4]; y = t[0]; }`

abbrev pub local16 : Option ℕ → LocalInfo
local16 array = record { name = []; width = W16; array = array; view = false; addressed = false }

abbrev pub unset_code : Code
unset_code =
    single (word16 true ∷ word16 false ∷ []) (input16 0 ∷ [])
    (record {
      result = None;
      locals = local16 (Some 4) ∷ [];
      parameters = 0;
      body =
          Block (Seq (Declare (Blank 0 4 ∷ [])) (Seq
          (set_object 1 (Element (array.Local 0) (Constant (pos 0)) 0)) Skip));
    })

-- reading an unset cell stops the run, and is no event
abbrev pub UnsetStops : Type 0
UnsetStops =
    run_of unset_code ones [] 100 (frame_of 100 (pos 0 ∷ []) ∷ [])
    ≡ at_rest ∷ shown 0 (pos 0) [] (Stopped 0 Unset) ∷ []

-- ---- `Word16 c; void low(void) { c = 0; move16(); }`
-- ---- `void high(void) { if (sub(c, 9) < 0) { c = add(c, 1); move16(); } }`, both frame functions

abbrev pub rates_code : Code
rates_code =
    record {
      routines =
          without_locals (Block (Seq (set_object 0 (Constant (pos 0))) (Seq (Act (Count Move16)) Skip)))
          ∷ without_locals (only (If false
          (Compare (Operator Sub (two_values (object 0) (Constant (pos 9))) 0) Less (Constant (pos 0)))
          (Block (Seq (set_object 0 (Operator Add (two_values (object 0) (Constant (pos 1))) 1)) (Seq (Act (Count Move16)) Skip)))))
          ∷ without_locals (only (IfElse false (Compare (object 1) Equal (Constant (pos 1))) (call_of 0 1) false (call_of 1 2)))
          ∷ [];
      objects = word16 false ∷ word16 true ∷ [];
      sites = [];
      loops = [];
      instances = root_instance 2 ∷ called_instance 0 ∷ called_instance 1 ∷ [];
      inputs = input16 1 ∷ [];
      init = None;
      frame = 0;
    }

-- a frame of the second function and then one of the first
abbrev pub RatesCount : Type 0
RatesCount =
    run_of rates_code ones [] 100 (frame_of 100 (pos 2 ∷ []) ∷ frame_of 100 (pos 1 ∷ []) ∷ [])
    ≡ at_rest ∷ shown 3 (pos 0) [] Ended ∷ shown 1 (pos 0) [] Ended ∷ []

-- four steps go before the first statement of the first function: with four steps nothing is counted
abbrev pub RatesBegin : Type 0
RatesBegin =
    run_of rates_code ones [] 4 (frame_of 4 (pos 1 ∷ []) ∷ []) ≡ at_rest ∷ shown 0 (pos 0) [] StepLimit ∷ []

-- ---- `Word16 x[4]; void half(Word16 a[], Word16 n) { Word16 i; for (i = 0; i < n; i++) a[i] = shr(a[i], 1); }`
-- ---- `void frame(void) { half(&x[2], 3); }`

abbrev pub view16 : LocalInfo
view16 = record { name = []; width = W16; array = None; view = true; addressed = false }

abbrev pub halving : Routine
halving =
    record {
      result = None;
      locals = view16 ∷ local16 None ∷ local16 None ∷ [];
      parameters = 2;
      body =
          Block (Seq (Declare (Filled 2 W16 ∷ [])) (Seq
          (For false 0 (Assign (Variable (scalar.Local 2)) (Constant (pos 0)) None ∷ [])
          (Compare (Named (scalar.Local 2)) Less (Named (scalar.Local 1)))
          (Update (Variable (scalar.Local 2)) Plus (Constant (pos 1)) 0 (Some 1) ∷ [])
          (Act (Assign (Item (array.View 0 0) (Named (scalar.Local 2)) 2)
          (Operator Shr (two_values (Element (array.View 0 0) (Named (scalar.Local 2)) 4) (Constant (pos 1))) 3) None)))
          Skip));
    }

abbrev pub halving_code : Code
halving_code =
    record {
      routines = halving ∷ without_locals (only (Act (Evaluate (Invoke 0 1 (From (array.Object 0) (Constant (pos 2)) 5 (Value (Constant (pos 3)) None Done)))))) ∷ [];
      objects = record (word16 true) { length = 4; scalar = false } ∷ [];
      sites = [];
      loops = [];
      instances = root_instance 1 ∷ record (called_instance 0) { roots = root.Object 0 ∷ [] } ∷ [];
      inputs = input16 0 ∷ [];
      init = None;
      frame = 0;
    }

-- the third element is past the end of x: its index is tested before the value is evaluated, so two shifts are counted
abbrev pub HalvingStops : Type 0
HalvingStops =
    run_of halving_code ones [] 100 (frame_of 100 (pos 8 ∷ pos 8 ∷ pos 8 ∷ pos 8 ∷ []) ∷ [])
    ≡ at_rest ∷ shown 2 (pos 0) (failing 2 Index) (Stopped 2 Index) ∷ []

-- ---- `Word32 L; Word16 y; void frame(void) { y = add(L, 1); }`

abbrev pub narrow_code : Code
narrow_code =
    single (record (word16 true) { width = W32 } ∷ word16 false ∷ []) (record (input16 0) { high = pos 40000 } ∷ [])
    (without_locals (only (set_object 1 (Operator Add (Value (object 0) (Some 1) (Value (Constant (pos 1)) None Done)) 0))))

-- the argument does not fit 16 bits: the run stops before the operator is counted
abbrev pub NarrowStops : Type 0
NarrowStops =
    run_of narrow_code ones [] 100 (frame_of 100 (pos 40000 ∷ []) ∷ [])
    ≡ at_rest ∷ shown 0 (pos 0) (failing 1 Narrowing) (Stopped 1 Narrowing) ∷ []

-- ---- `void frame(void) { FOR (;;) move16(); }`

abbrev pub endless_code : Code
endless_code = single [] [] (without_locals (only (For true 0 [] Always [] (Act (Count Move16)))))

-- an absent condition is a step and an absent step part is none: block, loop, test, move, test, move
abbrev pub EndlessCounts : Type 0
EndlessCounts =
    run_of endless_code ones [] 6 (frame_of 6 [] ∷ []) ≡ at_rest ∷ shown 3 (pos 0) [] StepLimit ∷ []

-- ---- `Word16 y; void frame(void) { Word16 v; y = add(v, 1); }`

abbrev pub filled_code : Code
filled_code =
    single (word16 false ∷ []) []
    (record {
      result = None;
      locals = local16 None ∷ [];
      parameters = 0;
      body =
          Block (Seq (Declare (Filled 0 W16 ∷ [])) (Seq
          (set_object 0 (Operator Add (two_values (Named (scalar.Local 0)) (Constant (pos 1))) 0)) Skip));
    })

-- a number of the fill list is clamped to the type; the sum then saturates and sets Overflow, which stays
abbrev pub FilledSaturates : Type 0
FilledSaturates =
    run_of filled_code ones (pos 40000 ∷ pos 5 ∷ []) 100 (frame_of 100 [] ∷ frame_of 100 [] ∷ [])
    ≡ at_rest ∷ shown 1 (pos 1) (failing 0 Saturates) Ended ∷ shown 1 (pos 1) [] Ended ∷ []

-- as values alone: the site fails on 11 and 10, and not on 1 and 2
abbrev pub QuotientFails : Type 0
QuotientFails = FailsAt quotient_code 0 0 (pos 11 ∷ pos 10 ∷ []) × ¬ FailsAt quotient_code 0 0 (pos 1 ∷ pos 2 ∷ [])

-- the view of x begins at 2, and its index 2 is the cell 4, past the last; 3 is the last
abbrev pub HalvingFails : Type 0
HalvingFails = FailsAt halving_code 2 1 (pos 4 ∷ []) × ¬ FailsAt halving_code 2 1 (pos 3 ∷ [])
