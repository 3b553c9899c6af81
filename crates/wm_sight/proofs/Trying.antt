-- What trials show.
use Rattle.std.proofs.Common.{◌≡◌, inl, inr, ℕ, ◌<◌, length, ℤ, pos, Bool, true, false, List, [], ◌∷◌, Option, Some, None, refl, sym, subst, ◌∙◌}
use Rattle.std.specs.Prelude.{◌↔◌, if◌then◌else◌, IsTrue, nat_lt, slice_get, slice_index_or, Result, Ok, Err, IfOk, MatchOption}
use Rattle.std.proofs.lemmas.List.{get_or_default}
use Rattle.wm_interval.specs.declared.Interval.{Interval}
use Rattle.wm_arrays.specs.declared.summary.Summary.{Summary}
use Rattle.wm_arrays.specs.declared.summary.Summary.TheVariants.{Empty}
use Rattle.wm_arrays.specs.Meaning.{IsLeastFor}
use Rattle.wm_domain.specs.Changes.{IsCellOf}
use Rattle.wm_domain.specs.Points.{Point}
use Rattle.wm_domain.specs.declared.form.Form.{Form}
use Rattle.wm_ops.specs.Operators.{arg_widths_of, arity_of}
use Rattle.wm_ops.specs.declared.operators.Op.{Op}
use Rattle.wm_ops.specs.declared.operators.Op.TheVariants.{Add, Sub, LAdd, LSub}
use Rattle.wm_hull.specs.Boxes.{zero_box}
use Rattle.wm_failing.specs.declared.trial.Trial.{Trial}
use Rattle.wm_failing.specs.declared.trial.Trial.TheVariants.{Applies, Computes, Negates, Stays}
use Rattle.wm_program.specs.declared.program.SiteKind.{SiteKind}
use Rattle.wm_program.specs.declared.tree.PlainMark.{PlainMark}
use Rattle.wm_program.specs.declared.tree.PlainMark.TheVariants.{Plus, Minus}
use Rattle.wm_flow.specs.declared.action.Action.{Action}
use Rattle.wm_flow.specs.declared.action.Combined.{Combined}
use Rattle.wm_flow.specs.declared.action.Combined.TheVariants.{Itself, Sum, Difference, Negative}
use Rattle.wm_failing.specs.Trials.{operands_of, box_at, IsToldFirst}
use Rattle.wm_tally.specs.declared.seen.Seen.{Seen}
use Rattle.wm_tally.specs.declared.seen.Seen.TheVariants as sights
use Rattle.wm_sight.specs.Sights.{Operand, HasBox, IsOut, argument_of, operand_of, tested_of, word_of, form_at, shown_of, AreBoxes, IsShown, IsTried, IsOperated, FitsByForm, SumFits16, SumFits32, HasCell, StaysIn, IsTested, IsSeen}
use Rattle.wm_sight.specs.Ranges as ranges

pub shown_told : (trial : Trial) (x y z : Interval) (fits : Bool) (values : Option (List ℤ)) → IsToldFirst trial x y z values
    → IsShown trial (fits ≡ true) x y z (shown_of fits (operands_of trial) (x ∷ y ∷ z ∷ []) values)
shown_told trial x y z fits None h = inr h
shown_told trial x y z true (Some values) h = inl refl
shown_told trial x y z false (Some values) h = record { boxes = refl; operands = refl; first = h; unfit = λ e. cc }

-- with something that is as good as what makes it fit
pub shown_for : (trial : Trial) (F G : Type 0) (x y z : Interval) (seen : Seen) → F ↔ G → IsShown trial F x y z seen → IsShown trial G x y z seen
shown_for trial F G x y z sights.Away e h = h
shown_for trial F G x y z sights.Fine e (inl h) = inl (e.0 h)
shown_for trial F G x y z sights.Fine e (inr h) = inr h
shown_for trial F G x y z (sights.Failing failure) e h = record { boxes = h.boxes; operands = h.operands; first = h.first; unfit = λ g. h.unfit (e.1 g) }
shown_for trial F G x y z sights.Unset e h = h

pub tried_by : (trial : Trial) (F : Type 0) (Has : Point → Type 0) (a b c : Option Operand) (x y z : Interval) (seen : Seen) → AreBoxes Has a b c x y z
    → IsShown trial F x y z seen → IsTried trial F Has a b c seen
tried_by trial F Has a b c x y z sights.Away boxes h = absurd h
tried_by trial F Has a b c x y z sights.Fine boxes h = record { x = x; y = y; z = z; boxes = boxes; shows = h }
tried_by trial F Has a b c x y z (sights.Failing failure) boxes h = record { x = x; y = y; z = z; boxes = boxes; shows = h }
tried_by trial F Has a b c x y z sights.Unset boxes h = absurd h

pub tried_for : (trial : Trial) (F G : Type 0) (Has : Point → Type 0) (a b c : Option Operand) (seen : Seen) → F ↔ G → IsTried trial F Has a b c seen → IsTried trial G Has a b c seen
tried_for trial F G Has a b c sights.Away e h = h
tried_for trial F G Has a b c sights.Fine e h = record { x = h.x; y = h.y; z = h.z; boxes = h.boxes; shows = shown_for trial F G h.x h.y h.z sights.Fine e h.shows }
tried_for trial F G Has a b c (sights.Failing failure) e h = record { x = h.x; y = h.y; z = h.z; boxes = h.boxes; shows = shown_for trial F G h.x h.y h.z (sights.Failing failure) e h.shows }
tried_for trial F G Has a b c sights.Unset e h = h

-- ---- operators

box_is : (Has : Point → Type 0) (b : Bool) (o : Option Operand) (x : Interval) → HasBox Has (if b then o else None) x → (if b then x else zero_box) ≡ x
box_is Has true o x h = refl
box_is Has false o x h = sym h

pub first_is : (Has : Point → Type 0) (op : Op) (form : Form) (x y z : Interval) → HasBox Has (argument_of op 0 form) x → box_at (Applies op) (x ∷ y ∷ z ∷ []) 0 ≡ x
first_is Has op form x y z h = box_is Has (nat_lt 0 (arity_of op)) (operand_of (slice_get (arg_widths_of op) 0) form) x h

pub second_is : (Has : Point → Type 0) (op : Op) (form : Form) (x y z : Interval) → HasBox Has (argument_of op 1 form) y → box_at (Applies op) (x ∷ y ∷ z ∷ []) 1 ≡ y
second_is Has op form x y z h = box_is Has (nat_lt 1 (arity_of op)) (operand_of (slice_get (arg_widths_of op) 1) form) y h

pub third_is : (Has : Point → Type 0) (op : Op) (form : Form) (x y z : Interval) → HasBox Has (argument_of op 2 form) z → box_at (Applies op) (x ∷ y ∷ z ∷ []) 2 ≡ z
third_is Has op form x y z h = box_is Has (nat_lt 2 (arity_of op)) (operand_of (slice_get (arg_widths_of op) 2) form) z h

pub applied_by : (op : Op) (x y z : Interval) (fits : Bool) (values : Option (List ℤ))
    → box_at (Applies op) (x ∷ y ∷ z ∷ []) 0 ≡ x → box_at (Applies op) (x ∷ y ∷ z ∷ []) 1 ≡ y → box_at (Applies op) (x ∷ y ∷ z ∷ []) 2 ≡ z
    → IsToldFirst (Applies op) (box_at (Applies op) (x ∷ y ∷ z ∷ []) 0) (box_at (Applies op) (x ∷ y ∷ z ∷ []) 1) (box_at (Applies op) (x ∷ y ∷ z ∷ []) 2) values
    → IsShown (Applies op) (fits ≡ true) x y z (shown_of fits (arity_of op) (x ∷ y ∷ z ∷ []) values)
applied_by op x y z fits values a b c told =
    let one = subst (λ u. IsToldFirst (Applies op) u (box_at (Applies op) (x ∷ y ∷ z ∷ []) 1) (box_at (Applies op) (x ∷ y ∷ z ∷ []) 2) values) a told in
    let two = subst (λ u. IsToldFirst (Applies op) x u (box_at (Applies op) (x ∷ y ∷ z ∷ []) 2) values) b one in
    let three = subst (λ u. IsToldFirst (Applies op) x y u values) c two in
    shown_told (Applies op) x y z fits values three

pub operated_by : (op : Op) (Has : Point → Type 0) (args : List Form) (x y z : Interval) (fits : Bool) (seen : Seen)
    → HasBox Has (argument_of op 0 (form_at args 0)) x → HasBox Has (argument_of op 1 (form_at args 1)) y → HasBox Has (argument_of op 2 (form_at args 2)) z
    → (fits ≡ true) ↔ FitsByForm op Has args
    → IsShown (Applies op) (fits ≡ true) x y z seen
    → IsOperated Has op args seen
operated_by op Has args x y z fits seen f g h e shown =
    tried_by (Applies op) (FitsByForm op Has args) Has (argument_of op 0 (form_at args 0)) (argument_of op 1 (form_at args 1)) (argument_of op 2 (form_at args 2)) x y z seen
    (record { first = f; second = g; third = h })
    (shown_for (Applies op) (fits ≡ true) (FitsByForm op Has args) x y z seen e shown)

-- the operator's argument k, from the box in its type
pub past_arity : (op : Op) (k : ℕ) (form : Form) (Has : Point → Type 0) → nat_lt k (arity_of op) ≡ false → HasBox Has (argument_of op k form) zero_box
past_arity op k form Has e = subst (λ b. HasBox Has (if b then operand_of (slice_get (arg_widths_of op) k) form else None) zero_box) (sym e) refl

pub some_of : (P : Type 0) (Q : Interval → Type 0) (o : Option Interval) (x : Interval) → o ≡ Some x → MatchOption o P Q → Q x
some_of P Q o x e h = subst (λ u. MatchOption u P Q) e h

-- ---- sums

pub fits_add : (Has : Point → Type 0) (args : List Form) (r : Bool) → (r ≡ true) ↔ SumFits16 Has false args → (r ≡ true) ↔ FitsByForm Add Has args
fits_add Has args r h = (λ e. inl (refl, h.0 e), by)
  where
    by : FitsByForm Add Has args → r ≡ true
    by (inl (e, s)) = h.1 s
    by (inr (inl (e, s))) = cc
    by (inr (inr (inl (e, s)))) = cc
    by (inr (inr (inr (e, s)))) = cc

pub fits_sub : (Has : Point → Type 0) (args : List Form) (r : Bool) → (r ≡ true) ↔ SumFits16 Has true args → (r ≡ true) ↔ FitsByForm Sub Has args
fits_sub Has args r h = (λ e. inr (inl (refl, h.0 e)), by)
  where
    by : FitsByForm Sub Has args → r ≡ true
    by (inl (e, s)) = cc
    by (inr (inl (e, s))) = h.1 s
    by (inr (inr (inl (e, s)))) = cc
    by (inr (inr (inr (e, s)))) = cc

pub fits_long_add : (Has : Point → Type 0) (args : List Form) (r : Bool) → (r ≡ true) ↔ SumFits32 Has false args → (r ≡ true) ↔ FitsByForm LAdd Has args
fits_long_add Has args r h = (λ e. inr (inr (inl (refl, h.0 e))), by)
  where
    by : FitsByForm LAdd Has args → r ≡ true
    by (inl (e, s)) = cc
    by (inr (inl (e, s))) = cc
    by (inr (inr (inl (e, s)))) = h.1 s
    by (inr (inr (inr (e, s)))) = cc

pub fits_long_sub : (Has : Point → Type 0) (args : List Form) (r : Bool) → (r ≡ true) ↔ SumFits32 Has true args → (r ≡ true) ↔ FitsByForm LSub Has args
fits_long_sub Has args r h = (λ e. inr (inr (inr (refl, h.0 e))), by)
  where
    by : FitsByForm LSub Has args → r ≡ true
    by (inl (e, s)) = cc
    by (inr (inl (e, s))) = cc
    by (inr (inr (inl (e, s)))) = cc
    by (inr (inr (inr (e, s)))) = h.1 s

pub fits_none : (op : Op) (Has : Point → Type 0) (args : List Form) → (op ≡ Add → ⊥) → (op ≡ Sub → ⊥) → (op ≡ LAdd → ⊥) → (op ≡ LSub → ⊥) → FitsByForm op Has args → ⊥
fits_none op Has args a b c d (inl (e, s)) = a e
fits_none op Has args a b c d (inr (inl (e, s))) = b e
fits_none op Has args a b c d (inr (inr (inl (e, s)))) = c e
fits_none op Has args a b c d (inr (inr (inr (e, s)))) = d e

pub fits_for : {E : Type 0} (op one : Op) (Has : Point → Type 0) (args : List Form) (F : Type 0) (r : Result Bool E) → op ≡ one
    → ((b : Bool) → (b ≡ true) ↔ F → (b ≡ true) ↔ FitsByForm one Has args)
    → IfOk r (λ fits. (fits ≡ true) ↔ F) → IfOk r (λ fits. (fits ≡ true) ↔ FitsByForm op Has args)
fits_for op one Has args F (Ok b) e f h = subst (λ o. (b ≡ true) ↔ FitsByForm o Has args) (sym e) (f b h)
fits_for op one Has args F (Err refused) e f h = tt

-- ---- reads

pub not_bare : (b : Bool) (P : Type 0) → b ≡ false → IsTrue b ↔ P → P → ⊥
not_bare true P e h p = cc
not_bare false P e h p = let k : false ≡ true = h.1 p in cc

pub none_set : (Has : Point → Type 0) (a : ℕ) (s : Summary) → s ≡ Empty → IsLeastFor (IsCellOf Has a) s → HasCell Has a → ⊥
none_set Has a s e h cell = subst (λ u. IsLeastFor (IsCellOf Has a) u) e h cell.number cell.is

pub stays_in : {E : Type 0} (r : Result Bool E) (Has : Point → Type 0) (form : Form) (o p : Option Form) (low high : ℤ) → p ≡ Some form → p ≡ o
    → IfOk r (λ s. (s ≡ true) ↔ ranges.Stays Has form low high) → IfOk r (λ s. (s ≡ true) ↔ StaysIn Has o low high)
stays_in r Has form o p low high e f h = subst (λ u. IfOk r (λ s. (s ≡ true) ↔ StaysIn Has u low high)) (sym e ∙ f) h

-- ---- places

pub placed : (xs : List Form) (k n : ℕ) (x : Form) → k < n → length xs ≡ n → slice_index_or xs k x ≡ form_at xs k
placed xs k n x h e = get_or_default xs k x (record { terms = []; constant = pos 0 }) (subst (λ m. k < m) (sym e) h)

pub argument_placed : (Has : Point → Type 0) (op : Op) (k : ℕ) (form other : Form) (o : Option Interval) (x : Interval) → form ≡ other → o ≡ Some x
    → MatchOption o (IsOut Has (argument_of op k form)) (HasBox Has (argument_of op k form)) → HasBox Has (argument_of op k other) x
argument_placed Has op k form other o x e f h =
    subst (λ u. HasBox Has (argument_of op k u) x) e (some_of (IsOut Has (argument_of op k form)) (HasBox Has (argument_of op k form)) o x f h)

pub out_placed : (Has : Point → Type 0) (op : Op) (k : ℕ) (form other : Form) (o : Option Interval) → form ≡ other → o ≡ None
    → MatchOption o (IsOut Has (argument_of op k form)) (HasBox Has (argument_of op k form)) → IsOut Has (argument_of op k other)
out_placed Has op k form other o e f h =
    subst (λ u. IsOut Has (argument_of op k u)) e (subst (λ u. MatchOption u (IsOut Has (argument_of op k form)) (HasBox Has (argument_of op k form))) f h)

pub computed_at : {E : Type 0} (mark : PlainMark) (Has : Point → Type 0) (a b c d : Form) (r : Result Seen E) → a ≡ c → b ≡ d
    → IfOk r (λ seen. IsTried (Computes mark) (false ≡ true) Has (word_of a) (word_of b) None seen)
    → IfOk r (λ seen. IsTried (Computes mark) ⊥ Has (word_of c) (word_of d) None seen)
computed_at mark Has a b c d (Err refused) e f h = tt
computed_at mark Has a b c d (Ok seen) e f h =
    let k = subst (λ u. IsTried (Computes mark) (false ≡ true) Has (word_of u) (word_of b) None seen) e h in
    let l = subst (λ u. IsTried (Computes mark) (false ≡ true) Has (word_of c) (word_of u) None seen) f k in
    tried_for (Computes mark) (false ≡ true) ⊥ Has (word_of c) (word_of d) None seen ((λ e. cc), (λ e. absurd e)) l

-- ---- tests

pub tested_for : {E : Type 0} (kind : SiteKind) (F G : Type 0) (Has : Point → Type 0) (args : List Form) (low high : ℤ) (how : Combined) (r : Result Seen E) → F ↔ G
    → IfOk r (λ seen. IsTested kind F Has args low high how seen) → IfOk r (λ seen. IsTested kind G Has args low high how seen)
tested_for kind F G Has args low high how (Err refused) e h = tt
tested_for kind F G Has args low high Itself (Ok seen) e h = tried_for (Stays low high) F G Has (tested_of kind (form_at args 0)) None None seen e h
tested_for kind F G Has args low high Sum (Ok seen) e h = tried_for (Computes Plus) F G Has (word_of (form_at args 0)) (word_of (form_at args 1)) None seen e h
tested_for kind F G Has args low high Difference (Ok seen) e h = tried_for (Computes Minus) F G Has (word_of (form_at args 0)) (word_of (form_at args 1)) None seen e h
tested_for kind F G Has args low high Negative (Ok seen) e h = tried_for Negates F G Has (word_of (form_at args 0)) None None seen e h

-- ---- edges

pub seen_at : {E : Type 0} (kind : SiteKind) (Has : Point → Type 0) (a b : Action) (r : Result Seen E) → a ≡ b
    → IfOk r (λ seen. IsSeen kind Has b seen) → IfOk r (λ seen. IsSeen kind Has a seen)
seen_at kind Has a b r e h = subst (λ u. IfOk r (λ seen. IsSeen kind Has u seen)) (sym e) h
