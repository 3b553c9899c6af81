-- The points that an operator leaves.
use Rattle.std.proofs.Common.{◌≡◌, ◌≢◌, ◌⊎◌, inl, inr, ℕ, ◌<◌, ℤ, pos, List, [], ◌∷◌, Option, Some, None, Bool, true, false, refl, sym, ◌∙◌, subst, arith}
use Rattle.std.specs.Prelude.{All, if◌then◌else◌}
use Rattle.std.specs.Ordering.{int_eq}
use Rattle.std.proofs.lemmas.List.Elements.{All-get_or}
use Rattle.wm_interval.specs.declared.Interval.{Interval}
use Rattle.wm_ops.specs.declared.operators.Op.{Op}
use Rattle.wm_domain.specs.declared.form.Term.{Term}
use Rattle.wm_domain.specs.declared.form.Form.{Form}
use Rattle.wm_domain.specs.declared.shape.Shape.{Shape}
use Rattle.wm_domain.specs.Points.{Point}
use Rattle.wm_domain.specs.Forms.{AreTerms, IsForm}
use Rattle.wm_domain.specs.States.{count_of, IsShape, InShape}
use Rattle.wm_carry.specs.Following.{origin, Comes, Follows, IsWay}
use Rattle.wm_carry.proofs.Changing.{Before, before}
use Rattle.wm_assign.specs.Giving.{Sets, IsSeen, AreSeen}
use Rattle.wm_step.specs.Operating.{AreBoxes, OperateImage, FlagsSomewhere, IsFlag, nothing, form_at, variable_by, variable_of}
use Rattle.wm_operated.specs.Differences.{HasWord, IsSeenBy}
use Rattle.wm_filters.proofs.Staying.{word_at}

none_of : {A : Type 0} {P : Type 0} {x : A} → None ≡ Some x → P
none_of e = cc

some_of : {A : Type 0} {x y : A} → Some x ≡ Some y → x ≡ y
some_of e = cc

-- ---- a form that is a variable

record IsTermOf (ts : List Term) (w : ℕ) : Type 0 where
  term : Term
  is : ts ≡ term ∷ []
  same : term.variable ≡ w

plain : (n b : Bool) (v w : ℕ) → (if n then None else (if b then Some v else None)) ≡ Some w → v ≡ w
plain true b v w e = none_of e
plain false true v w e = some_of e
plain false false v w e = none_of e

term_of : (ts : List Term) (c : ℤ) (w : ℕ) → variable_by ts c ≡ Some w → IsTermOf ts w
term_of [] c w e = none_of e
term_of (t ∷ []) c w e = record { term = t; is = refl; same = plain t.negative (int_eq c (pos 0)) t.variable w e }
term_of (t ∷ u ∷ rest) c w e = none_of e

-- the form at the first place
pub first_form : (n : ℕ) (args : List Form) → All (IsForm n) args → IsForm n (form_at args 0)
first_form n [] h = record { terms = tt; small = omega arith }
first_form n (f ∷ rest) h = All-get_or (IsForm n) (f ∷ rest) 0 nothing (omega arith) h

variable_in : (n w : ℕ) (args : List Form) → IsForm n (form_at args 0) → variable_of (form_at args 0) ≡ Some w → w < n
variable_in n w args f e =
    let k = term_of (form_at args 0).terms (form_at args 0).constant w e in
    let terms : k.term.variable < n = subst (λ (ts : List Term). AreTerms n ts) k.is f.terms in
    subst (λ (x : ℕ). x < n) k.same terms

head_of : {A B : Type 0} → A × B → A
head_of h = h.0

pub seen_by : (s t : Shape) (v : ℕ) (args : List Form) → IsForm (count_of s) (form_at args 0) → AreSeen s t v (form_at args 0).terms → IsSeenBy s t v args
seen_by s t v args f seen = λ w e.
    let k = term_of (form_at args 0).terms (form_at args 0).constant w e in
    let sees : AreSeen s t v (k.term ∷ []) = subst (λ (ts : List Term). AreSeen s t v ts) k.is seen in
    (variable_in (count_of s) w args f e, subst (λ (x : ℕ). IsSeen s t v x) k.same (head_of sees))

pub has_word : (s : Shape) (args : List Form) (was : Point) → IsShape s → InShape s was → IsForm (count_of s) (form_at args 0) → HasWord args was
has_word s args was sh i f = λ w e. word_at s was w sh i (variable_in (count_of s) w args f e)

-- ---- the point before the flag has changed

swapped : (s t : Shape) (v o : ℕ) (was p : Point) → Follows s t (v ∷ o ∷ []) was p → Follows s t (o ∷ v ∷ []) was p
swapped s t v o was p f = record { numbers = λ u h a. f.numbers u h (turn (u ≢ o) (u ≢ v) a) }
  where
    turn : (A B : Type 0) → A × (B × Unit {0}) → B × (A × Unit {0})
    turn A B h = (h.1.0, (h.0, tt))

pub before_flag : (s t : Shape) (Has : Point → Type 0) (op : Op) (args : List Form) (v o : ℕ) (p : Point) → IsWay s t → ((x : Point) → Has x → InShape s x) → o < count_of t → InShape t p
    → (m : OperateImage s t Has op args v o p) → Before s t Has o (v ∷ []) [] m.was p
before_flag s t Has op args v o p way inside h i m =
    before s t Has o (v ∷ []) [] m.was p way inside h i (record { point = m.carried.point; numbers = swapped s t v o m.was p m.carried.numbers; cells = m.carried.cells })

-- there the result is set
pub result_set : (s t : Shape) (Has : Point → Type 0) (v o : ℕ) (What : Point → ℤ → Type 0) (was p : Point) → v ≢ o → (b : Before s t Has o (v ∷ []) [] was p) → What was (p.values v) → Sets s t Has v What b.point
result_set s t Has v o What was p ne b k = record { was = was; carried = b.carried; value = subst (What was) (b.others.numbers v ne) k }

-- and the flag has its number from before, or becomes 1
pub flag_set : (s t : Shape) (Has : Point → Type 0) (op : Op) (args : List Form) (boxes : List Interval) (v o : ℕ) (was p : Point) → origin s t o ≡ Some o → AreBoxes Has op args boxes → (b : Before s t Has o (v ∷ []) [] was p) → IsFlag Has op args (was.values o) (p.values o)
    → (p.values o ≡ b.point.values o) ⊎ (FlagsSomewhere op boxes × (p.values o ≡ pos 1))
flag_set s t Has op args boxes v o was p e are b (inl same) = inl (same ∙ sym (subst (λ (x : Option ℕ). Comes was x (b.point.values o)) e b.number))
flag_set s t Has op args boxes v o was p e are b (inr k) = inr (k.0 boxes are, k.1)
