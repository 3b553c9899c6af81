-- Single operations of a program with structs, each over the state.
use Rattle.std.specs.Prelude.{ℕ, suc, ◌+◌, Bool, true, false, if◌then◌else◌, ◌||◌, List, [], ◌∷◌, length, ℤ, pos, negsuc, ◌+ℤ◌, int_lt, Option, Some, None}
use Rattle.wm_ops.specs.Clamping.{leaves16, leaves32}
use Rattle.wm_ops.specs.declared.operators.Op.{Op}
use Rattle.wm_ops.specs.declared.operators.Width.{Width}
use Rattle.wm_ops.specs.declared.operators.Width.TheVariants.{W16, W32}
use Rattle.wm_ops.specs.declared.outcomes.Outcome.{Outcome}
use Rattle.wm_ops.specs.declared.outcomes.Outcome.TheVariants as outcome
use Rattle.wm_ops.specs.declared.words.Counted.TheVariants as counted
use Rattle.wm_program.specs.declared.results.Cause.TheVariants as cause
use Rattle.wm_program.specs.declared.results.End.TheVariants as ends
use Rattle.wm_program.specs.Numbers.{is_outside, natural, operator_outcome}
use Rattle.wm_program.specs.State.{Counts, Evaluated, Failed}
use Rattle.wm_struct_run.specs.Memory.{State, Key, Variable, Place, At, cells_of, noted, flagged, failed_if}
use Rattle.wm_struct_run.specs.Flow.{Got, Gives, Halts, tested}

-- an array from an offset on: what a view looks into
pub record Sight : Type 0 where
  pub key : Key
  pub offset : ℤ

abbrev pub no_sight : Sight
no_sight = record { key = Variable 0; offset = pos 0 }

-- a plain operation whose exact value is z
abbrev pub computed : ℕ → ℤ → State → Got ℤ
computed site z s = tested site cause.Arithmetic (leaves32 z) s (Gives z)

abbrev pub operated : ℕ → Outcome → State → Got ℤ
operated site (outcome.Value value saturates flag) s = Gives value (flagged flag (failed_if saturates site cause.Saturates s))
operated site outcome.OutOfDomain s = Halts (ends.Stopped site cause.Domain) (noted (Failed site cause.Domain) s)

-- an operator is counted before its value or domain is looked at
abbrev pub operate : Op → ℕ → List ℤ → State → Got ℤ
operate op site args s =
    operated site (operator_outcome op args) (noted (Evaluated site) (noted (Counts (counted.Operator op)) s))

-- a cell that is read at a site
abbrev pub read : ℕ → Option ℤ → State → Got ℤ
read site None s = Halts (ends.Stopped site cause.Unset) s
read site (Some z) s = Gives z s

-- an index, which lies in the array with the offset of the view
abbrev pub reach : ℕ → Sight → ℤ → State → Got Place
reach site sight i s =
    tested site cause.Index (is_outside (length (cells_of sight.key s)) (sight.offset +ℤ i)) s
    (Gives (At sight.key (natural (sight.offset +ℤ i))))

-- the part of an array from an index on, which may be its end
abbrev pub begin_at : ℕ → Sight → ℤ → State → Got Sight
begin_at site sight i s =
    tested site cause.Index (is_outside (suc (length (cells_of sight.key s))) (sight.offset +ℤ i)) s
    (Gives (record { key = sight.key; offset = sight.offset +ℤ i }))

-- ---- conversions

-- whether a value of this type, constant where it is known, may not fit 16 bits
abbrev pub leaves : Option ℤ → Width → Bool
leaves None W16 = false
leaves None W32 = true
leaves (Some z) width = int_lt z (negsuc 32767) || int_lt (pos 32767) z

abbrev pub narrows : Width → Option ℤ → Width → Bool
narrows W16 constant from = leaves constant from
narrows W32 constant from = false

-- a conversion, at a site where the value may not fit
abbrev pub converted : Bool → ℕ → ℤ → State → Got ℤ
converted true site z s = tested site cause.Narrowing (leaves16 z) s (Gives z)
converted false site z s = Gives z s
