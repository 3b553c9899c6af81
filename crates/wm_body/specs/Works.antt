-- What stands while a unit is read, and the steps that change it.
use Rattle.std.specs.Prelude.{ℕ, suc, ◌+◌, Bool, true, false, if◌then◌else◌, ◌==◌, nat_lt, List, [], ◌∷◌, ◌++◌, length, Option, Some, None}
use Rattle.wm_lang.specs.declared.expression.Identifier.{Identifier}
use Rattle.wm_lang.specs.declared.place.Position.{Position}
use Rattle.wm_ops.specs.declared.operators.Width.{Width}
use Rattle.wm_program.specs.declared.faults.What.TheVariants.{Objects, Locals, LoopNest}
use Rattle.wm_program.specs.declared.program.ObjectInfo.{ObjectInfo}
use Rattle.wm_scope.specs.declared.fault.TokenFault.{TokenFault}
use Rattle.wm_scope.specs.declared.fault.TokenFault.TheVariants.{Redefined, BreakOutside, TooMany}
use Rattle.wm_scope.specs.declared.meaning.Meaning.{Meaning}
use Rattle.wm_scope.specs.declared.scope.Scope.{Scope}
use Rattle.wm_scope.specs.Scopes.{is_here, with_name, opened, closed}
use Rattle.wm_marks.specs.declared.marks.Marks.{Marks}
use Rattle.wm_marks.specs.Marking.{Step, Marking, ◌>>=◌, ◌>>◌, pure, noted, looped}
use Rattle.wm_body.specs.declared.work.Work.{Work}

-- a step of what is collected, with the names in force
abbrev pub put_back : {A : Type 0} → Work → A × Marks → A × Work
put_back w (a, m) = (a, record w { marks = m })

abbrev pub within : {A : Type 0} → (Scope → Marking A) → Step Work A
within step = λ w. put_back w (step w.scope w.marks)

abbrev pub tell : TokenFault → Position → Work → Work
tell fault at w = record w { marks = noted fault at w.marks }

-- a change without a value
abbrev pub change : (Work → Work) → Step Work (Unit {0})
change f = λ w. (tt, f w)

unfoldable pub checked : Identifier → Work → Work
checked name w = if is_here name.name w.scope then tell Redefined name.at w else w

unfoldable pub declare : Identifier → Meaning → Step Work (Unit {0})
declare name meaning = λ w. (tt, record w { scope = with_name name.name meaning w.scope })

-- at most 256 locals
abbrev pub noted_local : Position → Work → Work
noted_local at w = if nat_lt (length w.locals) 256 then w else tell (TooMany Locals) at w

abbrev pub with_local : Identifier → Width → Option ℕ → Bool → Work → ℕ × Work
with_local name width array view w =
    (length w.locals, record w { locals = w.locals ++ (record { name = name.name; width = width; array = array; view = view; addressed = false }) ∷ [] })

unfoldable pub make_local : Identifier → Width → Option ℕ → Bool → Step Work ℕ
make_local name width array view = λ w. with_local name width array view (noted_local name.at w)

-- at most 512 objects
abbrev pub noted_object : Position → Work → Work
noted_object at w = if nat_lt (length w.objects) 512 then w else tell (TooMany Objects) at w

abbrev pub with_object : ObjectInfo → Work → ℕ × Work
with_object object w = (length w.objects, record w { objects = w.objects ++ object ∷ [] })

unfoldable pub make_object : Position → ObjectInfo → Step Work ℕ
make_object at object = λ w. with_object object (noted_object at w)

-- at most 8 loops inside one another
abbrev pub noted_loop : Position → ℕ → Work → Work
noted_loop at depth w = if nat_lt depth 8 then w else tell (TooMany LoopNest) at w

abbrev pub with_loop : Position → ℕ → ℕ → Work → ℕ × Work
with_loop at step depth w =
    put_back w (looped (record { function = w.function; token = at.token; place = at.place; step = step; depth = depth }) w.marks)

unfoldable pub make_loop : Position → ℕ → ℕ → Step Work ℕ
make_loop at step depth = λ w. with_loop at step depth (noted_loop at depth w)

unfoldable pub leapt : Position → ℕ → Work → Work
leapt at depth w = if depth == 0 then tell BreakOutside at w else w

abbrev pub deeper : ℕ → ℕ
deeper depth = if nat_lt depth 8 then depth + 1 else depth

-- a block is entered, and left where so many names stand outside of the one around it
unfoldable pub entered : Work → Work
entered w = record w { scope = opened w.scope }

unfoldable pub quit : ℕ → Work → Work
quit outer w = record w { scope = closed outer w.scope }

abbrev pub static_name : List ℕ → List ℕ → List ℕ
static_name function name = (function ++ 46 ∷ []) ++ name
