-- The clamp of a sum of two variables.
use Rattle.std.proofs.Common.{◌≡◌, ℕ, zero, suc, ◌<◌, ℤ, Bool, List, [], ◌∷◌, length, Option, Some, None, refl, sym, ◌∙◌, ap, subst, arith}
use Rattle.std.specs.Prelude.{◌↔◌, MatchOption, slice_index_or}
use Rattle.wm_numbers.specs.Within.{Within}
use Rattle.wm_numbers.proofs.Extremes.{least_once, greatest_once}
use Rattle.wm_interval.specs.declared.Interval.{Interval}
use Rattle.wm_interval.specs.Holds.{Holds, InBoth, IsHullOf}
use Rattle.wm_ops.specs.declared.operators.Op.{Op}
use Rattle.wm_ops.specs.declared.operators.Width.{Width}
use Rattle.wm_ops.specs.Operators.{result_width_of}
use Rattle.wm_domain.specs.declared.form.Form.{Form}
use Rattle.wm_domain.specs.Points.{Point}
use Rattle.wm_domain.specs.Changes.{IsFormValue}
use Rattle.wm_step.specs.Operating.{IsResult, sum_sign, sum_form, nothing, form_at, variable_of, clamped_to}
use Rattle.wm_operated.specs.declared.sums.Pair.{Pair}
use Rattle.wm_operated.specs.Clamping.{Adds, IsPair, IsClamped, AreDifferent}

some_of : {A : Type 0} {x y : A} → Some x ≡ Some y → x ≡ y
some_of e = cc

none_of : {A : Type 0} {P : Type 0} {x : A} → None ≡ Some x → P
none_of e = cc

-- an item that there is, whatever stands for those that there are not
index_same : (args : List Form) (k : ℕ) (d e : Form) → k < length args → slice_index_or args k d ≡ slice_index_or args k e
index_same [] k d e h = absurd (omega (arith, h))
index_same (f ∷ rest) zero d e h = refl
index_same (f ∷ rest) (suc k) d e h = index_same rest k d e (omega (arith, h))

-- the variable of an argument
pub argument_variable : (args : List Form) (k : ℕ) (d : Form) (o : Option ℕ) → k < length args → o ≡ variable_of (slice_index_or args k d) → o ≡ variable_of (form_at args k)
argument_variable args k d o h e = e ∙ ap variable_of (index_same args k d nothing h)

-- no sign, no pair
pub unsigned : (op : Op) (args : List Form) → sum_sign op ≡ None → IsPair op args None
unsigned op args e = λ pair a. none_of (sym e ∙ a.sign)

pub signed_pair : (op : Op) (args : List Form) (away : Bool) (first second : Option ℕ) (o : Option Pair) → sum_sign op ≡ Some away → first ≡ variable_of (form_at args 0) → second ≡ variable_of (form_at args 1) → AreDifferent first second away o → IsPair op args o
signed_pair op args away first second None e f g d = λ pair a. d pair.first pair.second (f ∙ a.first) (g ∙ a.second) a.apart
signed_pair op args away first second (Some pair) e f g d = record { sign = e ∙ ap Some (sym d.3); first = sym f ∙ d.0; second = sym g ∙ d.1; apart = d.2 }

pub no_pair : (Has : Point → Type 0) (op : Op) (args : List Form) (z : ℤ) → IsPair op args None → IsClamped Has op args z
no_pair Has op args z n = λ v w away s e f d sums h. absurd (n (record { first = v; second = w; away = away }) (record { sign = s; first = e; second = f; apart = d }))

hull_once : (Is : ℤ → Type 0) (a b : Interval) → IsHullOf Is a → IsHullOf Is b → (a.low ≡ b.low) × (a.high ≡ b.high)
hull_once Is a b h k = (least_once h.low_is k.low_is, greatest_once h.high_is k.high_is)

-- z lies between the clamps where it does so for the pair and its range
pair_clamped : (Has : Point → Type 0) (op : Op) (args : List Form) (pair : Pair) (sums : Interval) (z : ℤ) → Adds op args pair → IsHullOf (IsFormValue Has (sum_form pair.first pair.second pair.away)) sums
    → Within (clamped_to (result_width_of op) sums.low) (clamped_to (result_width_of op) sums.high) z → IsClamped Has op args z
pair_clamped Has op args pair sums z a h w = λ v u away s e f d others k.
    let first : pair.first ≡ v = some_of (sym a.first ∙ e) in
    let second : pair.second ≡ u = some_of (sym a.second ∙ f) in
    let sign : pair.away ≡ away = some_of (sym a.sign ∙ s) in
    let moved : IsHullOf (IsFormValue Has (sum_form v u away)) sums =
    subst (λ (b : Bool). IsHullOf (IsFormValue Has (sum_form v u b)) sums) sign
    (subst (λ (n : ℕ). IsHullOf (IsFormValue Has (sum_form v n pair.away)) sums) second
    (subst (λ (n : ℕ). IsHullOf (IsFormValue Has (sum_form n pair.second pair.away)) sums) first h)) in
    let same = hull_once (IsFormValue Has (sum_form v u away)) sums others moved k in
    subst (λ (x : ℤ). Within x (clamped_to (result_width_of op) others.high) z) (ap (clamped_to (result_width_of op)) same.0)
    (subst (λ (x : ℤ). Within (clamped_to (result_width_of op) sums.low) x z) (ap (clamped_to (result_width_of op)) same.1) w)

clamped_pair : (Has : Point → Type 0) (op : Op) (args : List Form) (pair : Pair) (sums : Interval) (z : ℤ) → Adds op args pair → IsHullOf (IsFormValue Has (sum_form pair.first pair.second pair.away)) sums
    → IsClamped Has op args z → Within (clamped_to (result_width_of op) sums.low) (clamped_to (result_width_of op) sums.high) z
clamped_pair Has op args pair sums z a h c = c pair.first pair.second pair.away a.sign a.first a.second a.apart sums h

-- the clamped range of the sum holds what lies between the clamps
pub in_clamps : (Has : Point → Type 0) (op : Op) (args : List Form) (pair : Pair) (form : Form) (width : Width) (sums all : Interval) → Adds op args pair → form ≡ sum_form pair.first pair.second pair.away
    → IsHullOf (IsFormValue Has form) sums → width ≡ result_width_of op → all.low ≡ clamped_to width sums.low → all.high ≡ clamped_to width sums.high → (z : ℤ) → Holds all z ↔ IsClamped Has op args z
in_clamps Has op args pair form width sums all a e h ew el eh = λ z.
    let hull = subst (λ (f : Form). IsHullOf (IsFormValue Has f) sums) e h in
    let low : all.low ≡ clamped_to (result_width_of op) sums.low = el ∙ ap (λ (k : Width). clamped_to k sums.low) ew in
    let high : all.high ≡ clamped_to (result_width_of op) sums.high = eh ∙ ap (λ (k : Width). clamped_to k sums.high) ew in (
      λ i. pair_clamped Has op args pair sums z a hull (subst (λ (x : ℤ). Within x (clamped_to (result_width_of op) sums.high) z) low (subst (λ (x : ℤ). Within all.low x z) high i)),
      λ c. subst (λ (x : ℤ). Within x all.high z) (sym low) (subst (λ (x : ℤ). Within (clamped_to (result_width_of op) sums.low) x z) (sym high) (clamped_pair Has op args pair sums z a hull c)),
    )

-- what is common to the operator's range and the clamps
pub part_of : (Has : Point → Type 0) (op : Op) (args : List Form) (range all : Interval) (o : Option Interval) → ((z : ℤ) → Holds all z ↔ IsClamped Has op args z)
    → MatchOption o ((z : ℤ) → InBoth range all z → ⊥) (λ r. IsHullOf (InBoth range all) r) → MatchOption o (Unit {0}) (λ r. (z : ℤ) → Holds r z ↔ InBoth range all z)
    → (z : ℤ) → IsResult o z ↔ (Holds range z × IsClamped Has op args z)
part_of Has op args range all None to none each = λ z. (λ i. absurd i, λ k. none z (k.0, (to z).1 k.1))
part_of Has op args range all (Some r) to some each = λ z. (
  λ i. let b = (each z).0 i in (b.0, (to z).0 b.1),
  λ k. (each z).1 (k.0, (to z).1 k.1),
)
