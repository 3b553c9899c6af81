-- Values that wait, one after another.
use Rattle.std.proofs.Common.{◌≡◌, ℕ, suc, ◌+◌, ◌≤◌, length, drop, Bool, true, false, if◌then◌else◌, List, [], ◌∷◌, ◌++◌, refl, ap, sym, ◌∙◌, append_assoc, append-nil, arith}
use Rattle.std.proofs.lemmas.List.{at_drop_all}
use Rattle.std.specs.Prelude.{slice_index_or}
use Rattle.wm_flow.specs.declared.kept.Kept.{Kept}
use Rattle.wm_flow.specs.declared.scene.Bases.{Bases}
use Rattle.wm_flow.specs.declared.scene.Coming.{Coming}
use Rattle.wm_flow.specs.declared.scene.Held.{Held}
use Rattle.wm_flow.specs.declared.scene.Scene.{Scene}
use Rattle.wm_flow.specs.Kept.{variable}
use Rattle.wm_flow.specs.Places.{Plan, bases_of, temporary}
use Rattle.wm_flow.specs.Yields.{must_yield, yielded, yield_size, yield_strokes, to_temporary, before_value}
use Rattle.wm_pen.specs.Ink.{Ink, put}
use Rattle.wm_pen.proofs.Joins.{put_none, put_after}
use Rattle.wm_steps.specs.Moves.{kept_away, waiting, yielding}
use Rattle.wm_steps.specs.Values.{waited, waited_by, with_waited, all_waited}

-- ---- the values, and the temporaries in use

pub held_is : (held : Held) (values : List Kept) (count : ℕ) → values ≡ held.values → count ≡ held.temporaries → record { values = values; temporaries = count } ≡ held
held_is held values count hv hc =
    ap (λ (all : List Kept). record { values = all; temporaries = count }) hv
    ∙ ap (λ n. record { values = held.values; temporaries = n }) hc

pub none_values : (bases : Bases) (it : Coming) (temporaries : ℕ) → (yielded bases it [] temporaries).values ≡ []
unfolding yielded
none_values bases it temporaries = refl

pub none_count : (bases : Bases) (it : Coming) (temporaries : ℕ) → (yielded bases it [] temporaries).temporaries ≡ temporaries
unfolding yielded
none_count bases it temporaries = refl

next_as : (must : Bool) (bases : Bases) (it : Coming) (kept : Kept) (rest : List Kept) (temporaries : ℕ) → (if must then before_value (variable (temporary bases temporaries)) (yielded bases it rest (suc temporaries)) else before_value kept (yielded bases it rest temporaries)) ≡ before_value (waited_by must bases kept temporaries).value (yielded bases it rest (waited_by must bases kept temporaries).temporaries)
next_as true bases it kept rest temporaries = refl
next_as false bases it kept rest temporaries = refl

next_held : (bases : Bases) (it : Coming) (kept : Kept) (rest : List Kept) (temporaries : ℕ) → yielded bases it (kept ∷ rest) temporaries ≡ before_value (waited bases it kept temporaries).value (yielded bases it rest (waited bases it kept temporaries).temporaries)
unfolding yielded waited
next_held bases it kept rest temporaries = next_as (must_yield bases it kept) bases it kept rest temporaries

pub next_values : (bases : Bases) (it : Coming) (kept : Kept) (rest : List Kept) (temporaries : ℕ) → (yielded bases it (kept ∷ rest) temporaries).values ≡ (waited bases it kept temporaries).value ∷ (yielded bases it rest (waited bases it kept temporaries).temporaries).values
next_values bases it kept rest temporaries = ap (λ (held : Held). held.values) (next_held bases it kept rest temporaries)

pub next_count : (bases : Bases) (it : Coming) (kept : Kept) (rest : List Kept) (temporaries : ℕ) → (yielded bases it (kept ∷ rest) temporaries).temporaries ≡ (yielded bases it rest (waited bases it kept temporaries).temporaries).temporaries
next_count bases it kept rest temporaries = ap (λ (held : Held). held.temporaries) (next_held bases it kept rest temporaries)

pub yielding_none : (plan : Plan) (scene : Scene) (it : Coming) (temporaries : ℕ) (ink : Ink) → yielding plan scene it [] temporaries ink ≡ ink
unfolding yielding yield_size yield_strokes
yielding_none plan scene it temporaries ink = put_none ink

moves_as : (must : Bool) (plan : Plan) (scene : Scene) (it : Coming) (kept : Kept) (rest : List Kept) (temporaries : ℕ) (ink : Ink) → put (if must then suc (yield_size (bases_of plan scene) it rest) else yield_size (bases_of plan scene) it rest) (if must then to_temporary plan scene ink.node temporaries kept ++ yield_strokes plan scene it rest (suc ink.node) (suc temporaries) else yield_strokes plan scene it rest ink.node temporaries) ink ≡ yielding plan scene it rest (waited_by must (bases_of plan scene) kept temporaries).temporaries (if must then kept_away plan scene temporaries kept ink else ink)
unfolding yielding kept_away
moves_as true plan scene it kept rest temporaries ink =
    let s = yield_size (bases_of plan scene) it rest in
    let e : 1 + s ≡ suc s = omega arith in
    let h : ink.node + 1 ≡ suc ink.node = omega arith in
    sym (put_after 1 s (to_temporary plan scene ink.node temporaries kept) (λ node. yield_strokes plan scene it rest node (suc temporaries)) ink
    ∙ (ap (λ n. put n (to_temporary plan scene ink.node temporaries kept ++ yield_strokes plan scene it rest (ink.node + 1) (suc temporaries)) ink) e
    ∙ ap (λ n. put (suc s) (to_temporary plan scene ink.node temporaries kept ++ yield_strokes plan scene it rest n (suc temporaries)) ink) h))
moves_as false plan scene it kept rest temporaries ink = refl

pub yielding_next : (plan : Plan) (scene : Scene) (it : Coming) (kept : Kept) (rest : List Kept) (temporaries : ℕ) (ink : Ink) → yielding plan scene it (kept ∷ rest) temporaries ink ≡ yielding plan scene it rest (waited (bases_of plan scene) it kept temporaries).temporaries (waiting plan scene it kept temporaries ink)
unfolding yielding waiting waited yield_size yield_strokes
yielding_next plan scene it kept rest temporaries ink = moves_as (must_yield (bases_of plan scene) it kept) plan scene it kept rest temporaries ink

-- ---- a turn for each value

pub all_end : (bases : Bases) (it : Coming) (held : Held) → all_waited bases it held [] ≡ held
unfolding all_waited
all_end bases it held = refl

pub all_turn : (bases : Bases) (it : Coming) (held : Held) (kept : Kept) (rest : List Kept) → all_waited bases it held (kept ∷ rest) ≡ all_waited bases it (with_waited bases it held kept) rest
unfolding all_waited
all_turn bases it held kept rest = refl

pub yielding_turn : (plan : Plan) (scene : Scene) (it : Coming) (held : Held) (kept : Kept) (rest : List Kept) (ink : Ink) → yielding plan scene it (kept ∷ rest) held.temporaries ink ≡ yielding plan scene it rest (with_waited (bases_of plan scene) it held kept).temporaries (waiting plan scene it kept held.temporaries ink)
unfolding with_waited
yielding_turn plan scene it held kept rest ink = yielding_next plan scene it kept rest held.temporaries ink

pub turn_values : (bases : Bases) (it : Coming) (values : List Kept) (i : ℕ) (kept : Kept) (held new whole : Held) → drop i values ≡ kept ∷ drop (i + 1) values → new ≡ with_waited bases it held kept → all_waited bases it held (drop i values) ≡ whole → all_waited bases it new (drop (i + 1) values) ≡ whole
turn_values bases it values i kept held new whole next grown left =
    ap (λ (h : Held). all_waited bases it h (drop (i + 1) values)) grown
    ∙ (sym (all_turn bases it held kept (drop (i + 1) values))
    ∙ (sym (ap (λ (xs : List Kept). all_waited bases it held xs) next) ∙ left))

pub turn_strokes : (plan : Plan) (scene : Scene) (it : Coming) (values : List Kept) (i : ℕ) (kept : Kept) (held new : Held) (ink drawn whole : Ink) → drop i values ≡ kept ∷ drop (i + 1) values → new ≡ with_waited (bases_of plan scene) it held kept → drawn ≡ waiting plan scene it kept held.temporaries ink → yielding plan scene it (drop i values) held.temporaries ink ≡ whole → yielding plan scene it (drop (i + 1) values) new.temporaries drawn ≡ whole
turn_strokes plan scene it values i kept held new ink drawn whole next grown waits left =
    ap (λ (h : Held). yielding plan scene it (drop (i + 1) values) h.temporaries drawn) grown
    ∙ (ap (λ (k : Ink). yielding plan scene it (drop (i + 1) values) (with_waited (bases_of plan scene) it held kept).temporaries k) waits
    ∙ (sym (yielding_turn plan scene it held kept (drop (i + 1) values) ink)
    ∙ (sym (ap (λ (xs : List Kept). yielding plan scene it xs held.temporaries ink) next) ∙ left)))

-- nothing is left
pub ended_values : (bases : Bases) (it : Coming) (values : List Kept) (i : ℕ) (held whole : Held) → length values ≤ i → all_waited bases it held (drop i values) ≡ whole → held ≡ whole
ended_values bases it values i held whole past left =
    sym (all_end bases it held) ∙ (sym (at_drop_all (λ xs. all_waited bases it held xs) values i past) ∙ left)

pub ended_strokes : (plan : Plan) (scene : Scene) (it : Coming) (values : List Kept) (i temporaries : ℕ) (ink whole : Ink) → length values ≤ i → yielding plan scene it (drop i values) temporaries ink ≡ whole → ink ≡ whole
ended_strokes plan scene it values i temporaries ink whole past left =
    sym (yielding_none plan scene it temporaries ink)
    ∙ (sym (at_drop_all (λ xs. yielding plan scene it xs temporaries ink) values i past) ∙ left)

-- the values behind others
abbrev behind : List Kept → Held → Held
behind values held = record { values = values ++ held.values; temporaries = held.temporaries }

all_as : (bases : Bases) (it : Coming) (held : Held) (values : List Kept) → all_waited bases it held values ≡ behind held.values (yielded bases it values held.temporaries)
unfolding all_waited with_waited yielded
all_as bases it held [] = ap (λ (all : List Kept). record { values = all; temporaries = held.temporaries }) (sym (append-nil held.values))
all_as bases it held (kept ∷ rest) =
    let waits = waited bases it kept held.temporaries in
    all_as bases it (with_waited bases it held kept) rest
    ∙ (ap (λ (all : List Kept). record { values = all; temporaries = (yielded bases it rest waits.temporaries).temporaries }) (append_assoc held.values (waits.value ∷ []) (yielded bases it rest waits.temporaries).values)
    ∙ ap (λ (more : Held). behind held.values more) (sym (next_held bases it kept rest held.temporaries)))

pub all_yielded : (bases : Bases) (it : Coming) (values : List Kept) (temporaries : ℕ) → all_waited bases it (record { values = []; temporaries = temporaries }) values ≡ yielded bases it values temporaries
all_yielded bases it values temporaries = all_as bases it (record { values = []; temporaries = temporaries }) values

-- one value alone
pub one_waits : (plan : Plan) (scene : Scene) (it : Coming) (kept : Kept) (temporaries : ℕ) (ink : Ink) → waiting plan scene it kept temporaries ink ≡ yielding plan scene it (kept ∷ []) temporaries ink
one_waits plan scene it kept temporaries ink =
    sym (yielding_next plan scene it kept [] temporaries ink
    ∙ yielding_none plan scene it (waited (bases_of plan scene) it kept temporaries).temporaries (waiting plan scene it kept temporaries ink))

one_as : (must : Bool) (bases : Bases) (it : Coming) (kept : Kept) (temporaries : ℕ) (none : Kept) → slice_index_or (if must then before_value (variable (temporary bases temporaries)) (yielded bases it [] (suc temporaries)) else before_value kept (yielded bases it [] temporaries)).values 0 none ≡ (waited_by must bases kept temporaries).value
unfolding yielded
one_as true bases it kept temporaries none = refl
one_as false bases it kept temporaries none = refl

-- its value, and the temporaries in use
pub one_value : (bases : Bases) (it : Coming) (kept : Kept) (temporaries : ℕ) (none : Kept) → slice_index_or (yielded bases it (kept ∷ []) temporaries).values 0 none ≡ (waited bases it kept temporaries).value
unfolding yielded waited
one_value bases it kept temporaries none = one_as (must_yield bases it kept) bases it kept temporaries none

count_as : (must : Bool) (bases : Bases) (it : Coming) (kept : Kept) (temporaries : ℕ) → (if must then before_value (variable (temporary bases temporaries)) (yielded bases it [] (suc temporaries)) else before_value kept (yielded bases it [] temporaries)).temporaries ≡ (waited_by must bases kept temporaries).temporaries
unfolding yielded
count_as true bases it kept temporaries = refl
count_as false bases it kept temporaries = refl

pub one_count : (bases : Bases) (it : Coming) (kept : Kept) (temporaries : ℕ) → (yielded bases it (kept ∷ []) temporaries).temporaries ≡ (waited bases it kept temporaries).temporaries
unfolding yielded waited
one_count bases it kept temporaries = count_as (must_yield bases it kept) bases it kept temporaries
