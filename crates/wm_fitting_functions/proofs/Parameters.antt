-- Parameters of a function with a block.
use Rattle.std.proofs.Common.{◌≡◌, ℕ, ◌+◌, Bool, true, false, cond, List, [], ◌∷◌, ◌++◌, length, map, take, Option, Some, None, refl, sym, ap, subst, ◌∙◌, append_assoc, append-nil, arith}
use Rattle.std.proofs.lemmas.List.{map-append}
use Rattle.std.proofs.lemmas.List.Elements.{All-head, All-tail}
use Rattle.std.proofs.lemmas.List.Sums.{fold-append}
use Rattle.std.specs.List.{All, count_by}
use Rattle.std.specs.Prelude.{IsSomeAnd, nat_lt, slice_get}
use Rattle.wm_lang.specs.declared.expression.Expr.{Expr}
use Rattle.wm_lang.specs.declared.expression.Identifier.{Identifier}
use Rattle.wm_lang.specs.declared.place.Position.{Position}
use Rattle.wm_lang.specs.declared.unit.Parameter.{Parameter}
use Rattle.wm_lang.specs.declared.unit.ParameterKind.{ParameterKind}
use Rattle.wm_lang.specs.declared.unit.ParameterKind.TheVariants as kinds
use Rattle.wm_program.specs.declared.faults.What.TheVariants.{Locals}
use Rattle.wm_program.specs.declared.program.LocalInfo.{LocalInfo}
use Rattle.wm_program.specs.WellFormed.{Slot as Place, slot_of_local, views_before}
use Rattle.wm_scope.specs.declared.fault.TokenFault.{TokenFault}
use Rattle.wm_scope.specs.declared.fault.TokenFault.TheVariants.{Redefined, TooMany}
use Rattle.wm_scope.specs.declared.scope.Scope.{Scope}
use Rattle.wm_scope.specs.declared.scope.Slot.{Slot}
use Rattle.wm_scope.specs.Scopes.{is_here}
use Rattle.wm_marks.specs.declared.marks.Marks.{Marks}
use Rattle.wm_body.specs.declared.work.Work.{Work}
use Rattle.wm_body.specs.Works.{within, tell, checked, declare, noted_local, make_local}
use Rattle.wm_reading.specs.Functions.{length_in_brackets, brackets, parameter_meaning, parameter_by, parameter, parameters}
use Rattle.wm_reading.specs.Outlines.{slot_of, slots_of}
use Rattle.wm_fitting.specs.Fitting.{Setting, MeaningFits, Grows, slot_seen}
use Rattle.wm_fitting.proofs.Collecting.{grows_none}
use Rattle.wm_fitting_growth_acts.proofs.Parts.{lengths_grow}
use Rattle.wm_fitting_scopes.proofs.Meanings.{parameters_fit}
use Rattle.wm_fitting_declarations.specs.Works.{Home, seen, LikeLocal, Reads}
use Rattle.wm_fitting_declarations.proofs.Stepping.{stays, gives, then_reads, within_reads}
use Rattle.wm_fitting_declarations.proofs.Making.{check_reads, declare_reads, made_local, make_local_reads}
use Rattle.wm_fitting_functions.specs.Units.{IsThere, IsNamed}
use Rattle.wm_fitting_functions.proofs.Likeness.{AreLike, is_view, count_like}

-- ---- the locals that they make

kept : (b : Bool) (fault : TokenFault) (at : Position) (v : Work) → (cond b (tell fault at v) v).locals ≡ v.locals
kept true fault at v = refl
kept false fault at v = refl

kept_unless : (b : Bool) (fault : TokenFault) (at : Position) (v : Work) → (cond b v (tell fault at v)).locals ≡ v.locals
kept_unless true fault at v = refl
kept_unless false fault at v = refl

checked_locals : (name : Identifier) (v : Work) → (checked name v).locals ≡ v.locals
unfolding checked
checked_locals name v = kept (is_here name.name v.scope) Redefined name.at v

noted_locals : (at : Position) (v : Work) → (noted_local at v).locals ≡ v.locals
noted_locals at v = kept_unless (nat_lt (length v.locals) 256) (TooMany Locals) at v

-- the local of a parameter
abbrev made : Parameter → Identifier → LocalInfo
made it name = made_local name (slot_of it).width None (slot_of it).is_view

one_made : (views : ℕ) (it : Parameter) (name : Identifier) (v : Work) → (parameter_by views it (Some name) v).1.locals ≡ v.locals ++ made it name ∷ []
unfolding make_local declare
one_made views it name v =
    let b = (within (brackets it.kind name.at) v).1 in
    ap (λ (xs : List LocalInfo). xs ++ made it name ∷ []) (noted_locals name.at (checked name b) ∙ checked_locals name b)

one_slot : (views : ℕ) (it : Parameter) (o : Option Identifier) → IsThere o → (v : Work) → map slot_of_local (parameter_by views it o v).1.locals ≡ map slot_of_local v.locals ++ slot_seen (slot_of it) ∷ []
one_slot views it None h v = absurd h
one_slot views it (Some name) h v = ap (map slot_of_local) (one_made views it name v) ∙ map-append slot_of_local v.locals (made it name ∷ [])

next_slot : (views : ℕ) (it : Parameter) → IsNamed it → (v : Work) → map slot_of_local (parameter views it v).1.locals ≡ map slot_of_local v.locals ++ slot_seen (slot_of it) ∷ []
unfolding parameter
next_slot views it h v = one_slot views it it.name h v

pub slots_made : (views : ℕ) (its : List Parameter) → All IsNamed its → (v : Work) → map slot_of_local (parameters views its v).1.locals ≡ map slot_of_local v.locals ++ map slot_seen (slots_of its)
slots_made views [] q v = sym (append-nil (map slot_of_local v.locals))
slots_made views (it ∷ rest) q v =
    let r = parameter views it v in
    slots_made r.0 rest (All-tail IsNamed it rest q) r.1
    ∙ (ap (λ (ss : List Place). ss ++ map slot_seen (slots_of rest)) (next_slot views it (All-head IsNamed it rest q) v)
    ∙ append_assoc (map slot_of_local v.locals) (slot_seen (slot_of it) ∷ []) (map slot_seen (slots_of rest)))

-- ---- how many of them are views

counted : (b : Bool) (n : ℕ) → cond b (n + 1) n ≡ n + cond b 1 0
counted true n = refl
counted false n = grind (arith)

one_count : (views : ℕ) (it : Parameter) (o : Option Identifier) → IsThere o → (v : Work) → views ≡ count_by is_view v.locals → (parameter_by views it o v).0 ≡ count_by is_view (parameter_by views it o v).1.locals
one_count views it None h v e = absurd h
one_count views it (Some name) h v e =
    counted (slot_of it).is_view views
    ∙ (ap (λ n. n + cond (slot_of it).is_view 1 0) e
    ∙ (sym (fold-append (λ n x. n + cond (is_view x) 1 0) 0 v.locals (made it name ∷ []))
    ∙ ap (count_by is_view) (sym (one_made views it name v))))

next_count : (views : ℕ) (it : Parameter) → IsNamed it → (v : Work) → views ≡ count_by is_view v.locals → (parameter views it v).0 ≡ count_by is_view (parameter views it v).1.locals
unfolding parameter
next_count views it h v e = one_count views it it.name h v e

-- ---- what their names mean

length_grows : (length : Option Expr) (at : Position) (scope : Scope) (m : Marks) → Grows m (length_in_brackets length at scope m).1
length_grows None at scope m = grows_none m
length_grows (Some expression) at scope m = lengths_grow scope (Some expression) 0 at m

brackets_grow : (it : ParameterKind) (at : Position) (scope : Scope) (m : Marks) → Grows m (brackets it at scope m).1
unfolding brackets
brackets_grow (kinds.Scalar base) at scope m = grows_none m
brackets_grow (kinds.Array element bracket length) at scope m = length_grows length at scope m
brackets_grow (kinds.Pointer base) at scope m = grows_none m
brackets_grow (kinds.Struct structure) at scope m = grows_none m

brackets_read : {H : Home} {P : Type 0} (it : ParameterKind) (at : Position) (v : Work) → Reads {A = Unit {0}} H P (λ u. Unit {0}) v (within (brackets it at) v)
brackets_read it at v =
    let g = brackets_grow it at v.scope v.marks in
    within_reads (brackets it at) g (λ p i. record { grows = g; fits = λ l t. tt })

-- the locals so far stand in the function
stand_reads : {H : Home} {P : Type 0} (v : Work) → Reads {A = Unit {0}} H P (λ u. AreLike v.locals H.routine.locals) v (tt, v)
stand_reads v = record { grows = stays v; fits = λ p l t i. (t.locals, i) }

meaning_by : (S : Setting) (slot : Slot) (local views : ℕ) (info : LocalInfo) → info.width ≡ slot.width → info.view ≡ slot.is_view → info.array ≡ None → views ≡ views_before S.routine local → (o : Option LocalInfo) → slice_get S.routine.locals local ≡ o → IsSomeAnd o (LikeLocal info) → MeaningFits S (parameter_meaning slot local views)
meaning_by S slot local views info w b a n None e h = absurd h
meaning_by S slot local views info w b a n (Some it) e h =
    subst (λ k. MeaningFits S (parameter_meaning slot local k)) (sym n)
    (parameters_fit S slot local it e (h.width ∙ w) (h.view ∙ b) (h.array ∙ a))

no_false : (b : Bool) → true ≡ false → b ≡ false
no_false b e = cc

-- the views before a parameter are those that were counted
views_are : (v : Work) (views : ℕ) (it : Parameter) (name : Identifier) → views ≡ count_by is_view v.locals → (ys : List LocalInfo)
    → AreLike (checked name (within (brackets it.kind name.at) v).1).locals ys
    → views ≡ count_by is_view (take (make_local name (slot_of it).width None (slot_of it).is_view (checked name (within (brackets it.kind name.at) v).1)).0 ys)
unfolding make_local
views_are v views it name e ys h =
    let w = checked name (within (brackets it.kind name.at) v).1 in
    e ∙ (ap (count_by is_view) (sym (checked_locals name (within (brackets it.kind name.at) v).1))
    ∙ (sym (count_like w.locals ys h) ∙ ap (λ (xs : List LocalInfo). count_by is_view (take (length xs) ys)) (sym (noted_locals name.at w))))

parameter_by_reads : {H : Home} {P : Type 0} → H.has_views ≡ true → (views : ℕ) (it : Parameter) (o : Option Identifier) → IsThere o → (v : Work) → views ≡ count_by is_view v.locals → Reads {A = ℕ} H P (λ after. Unit {0}) v (parameter_by views it o v)
parameter_by_reads f views it None h v e = absurd h
parameter_by_reads {H = H} f views it (Some name) h v e =
    let slot = slot_of it in
    let b = within (brackets it.kind name.at) v in
    let w = checked name b.1 in
    let l = make_local name slot.width None slot.is_view w in
    then_reads (brackets_read it.kind name.at v) (then_reads (check_reads name b.1) (then_reads (stand_reads w)
    (then_reads (make_local_reads name slot.width None slot.is_view w (λ g. no_false slot.is_view (sym f ∙ g)))
    (then_reads (declare_reads name (parameter_meaning slot l.0 views) l.1
    (λ p. meaning_by (seen H (l.1).scope) slot l.0 views (made it name) refl refl refl
    (views_are v views it name e H.routine.locals p.0.1) (slice_get H.routine.locals l.0) refl p.1.1))
    (gives (λ p. tt))))))

parameter_reads : {H : Home} {P : Type 0} → H.has_views ≡ true → (views : ℕ) (it : Parameter) → IsNamed it → (v : Work) → views ≡ count_by is_view v.locals → Reads {A = ℕ} H P (λ after. Unit {0}) v (parameter views it v)
unfolding parameter
parameter_reads f views it h v e = parameter_by_reads f views it it.name h v e

pub parameters_read : {H : Home} → H.has_views ≡ true → (views : ℕ) (its : List Parameter) → All IsNamed its → {P : Type 0} (v : Work) → views ≡ count_by is_view v.locals → Reads {A = ℕ} H P (λ after. Unit {0}) v (parameters views its v)
parameters_read f views [] q v e = gives (λ p. tt)
parameters_read f views (it ∷ rest) q v e =
    let r = parameter views it v in
    then_reads (parameter_reads f views it (All-head IsNamed it rest q) v e)
    (parameters_read f r.0 rest (All-tail IsNamed it rest q) r.1 (next_count views it (All-head IsNamed it rest q) v e))
