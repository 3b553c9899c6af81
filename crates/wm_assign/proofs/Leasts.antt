-- The least states where one variable gets a number.
use Rattle.std.proofs.Common.{◌≡◌, ◌≢◌, ℕ, ◌<◌, ℤ, ◌-ℤ◌, ◌+ℤ◌, Bool, [], ◌∷◌, Option, Some, None, refl, sym, ◌∙◌, ap, subst}
use Rattle.std.specs.Prelude.{◌↔◌}
use Rattle.wm_interval.specs.declared.Interval.{Interval}
use Rattle.wm_interval.specs.Holds.{Holds}
use Rattle.wm_domain.specs.declared.shape.Shape.{Shape}
use Rattle.wm_domain.specs.declared.form.Form.{Form}
use Rattle.wm_domain.specs.Points.{Point, SameBut}
use Rattle.wm_domain.specs.Forms.{form_value}
use Rattle.wm_domain.specs.States.{count_of, InShape, Keeps, IsLeast}
use Rattle.wm_domain.specs.Changes.{Freed, Assigned, Near}
use Rattle.wm_carry.specs.Following.{origin, Comes, IsWay, Carried, Moved}
use Rattle.wm_carry.proofs.Ranks.{origin_apart}
use Rattle.wm_carry.proofs.Reaching.{Laws, least_as, through_not}
use Rattle.wm_carry.proofs.Passing.{carried_not, moved_through}
use Rattle.wm_assign.specs.Giving.{Sets, IsSeen, AreSeen}
use Rattle.wm_assign.proofs.Setting.{seen_number, same_terms}

-- what follows a point of a state follows it but for v after v has changed
changed : (s t : Shape) (Has : Point → Type 0) (v : ℕ) (was q y : Point) → Carried s t Has [] [] was q → SameBut v q y → Carried s t Has (v ∷ []) [] was y
changed s t Has v was q y c o = record {
  point = c.point;
  numbers = record { numbers = λ u h a. subst (Comes was (origin s t u)) (sym (o.numbers u a.0)) (c.numbers.numbers u h tt) };
  cells = record { kept = λ a h l n. o.cells a ∙ c.cells.kept a h l n; new = λ a h l n. o.cells a ∙ c.cells.new a h l n };
}

came : (s t : Shape) (v o u : ℕ) (was q : Point) (z : ℤ) (i : Option ℕ) → origin s t v ≡ Some o → origin s t u ≡ i → u ≢ v → SameBut o was q → Comes q i z → Comes was i z
came s t v o u was q z None e f ne b h = tt
came s t v o u was q z (Some w) e f ne b h = h ∙ b.numbers w (λ k. ne (origin_apart s t u v o (f ∙ ap Some k) e))

-- what follows a point after the variable from which v comes has changed follows the one before but for v
changed_before : (s t : Shape) (Has Step : Point → Type 0) (v o : ℕ) (was q p : Point) → origin s t v ≡ Some o → Has was → Carried s t Step [] [] q p → SameBut o was q → Carried s t Has (v ∷ []) [] was p
changed_before s t Has Step v o was q p e h c b = record {
  point = h;
  numbers = record { numbers = λ u hu a. came s t v o u was q (p.values u) (origin s t u) e refl a.0 b (c.numbers.numbers u hu tt) };
  cells = record { kept = λ a ha l n. c.cells.kept a ha l n ∙ b.cells a; new = c.cells.new };
}

own_number : (s t : Shape) (Step : Point → Type 0) (v o : ℕ) (q p : Point) → v < count_of t → origin s t v ≡ Some o → Carried s t Step [] [] q p → p.values v ≡ q.values o
own_number s t Step v o q p hv e c = subst (λ (i : Option ℕ). Comes q i (p.values v)) e (c.numbers.numbers v hv tt)

module _ (S : Type 0) (pairs : Bool) (holds : S → Point → Type 0) (shape_of : S → Shape) (laws : Laws S pairs holds shape_of) (s t : Shape) (way : IsWay s t) (at middle state : S) (ea : shape_of at ≡ s) (es : shape_of state ≡ t) where
  -- a state was carried, and then v changed
  module _ (em : shape_of middle ≡ t) (km : Keeps holds shape_of middle (Moved s t (holds at) [] [])) (lm : IsLeast holds shape_of middle (Moved s t (holds at) [] [])) (v : ℕ) where
    changed_least : (What : Point → ℤ → Type 0) (Step : Point → Type 0) (was_of : (y : Point) → Step y → Point) → ((y : Point) (h : Step y) → holds middle (was_of y h)) → ((y : Point) (h : Step y) → SameBut v (was_of y h) y)
        → ((y : Point) (h : Step y) (m : Moved s t (holds at) [] [] (was_of y h)) → What m.was (y.values v)) → IsLeast holds shape_of state Step → IsLeast holds shape_of state (Sets s t (holds at) v What)
    changed_least What Step was_of point others value l = through_not S pairs holds shape_of laws state Step (Sets s t (holds at) v What)
        (λ y w never. carried_not S pairs holds shape_of laws s t way at middle ea em km lm (was_of y w.is) (point y w.is)
        (λ m. never (record { was = m.was; carried = changed s t (holds at) v m.was (was_of y w.is) y m.carried (others y w.is); value = value y w.is m })))
        l

    pub any_least : (r : Interval) → IsLeast holds shape_of state (Freed (holds middle) v r) → IsLeast holds shape_of state (Sets s t (holds at) v (λ was z. Holds r z))
    any_least r l = changed_least (λ was z. Holds r z) (Freed (holds middle) v r) (λ y h. h.was) (λ y h. h.point) (λ y h. h.others) (λ y h m. h.value) l

    pub near_new_least : (w : ℕ) (d r : Interval) → origin s t v ≡ None → IsSeen s t v w → IsLeast holds shape_of state (Near (holds middle) v w d r)
        → IsLeast holds shape_of state (Sets s t (holds at) v (λ was z. Holds r z × Holds d (z -ℤ was.values w)))
    near_new_least w d r e seen l = changed_least (λ was z. Holds r z × Holds d (z -ℤ was.values w)) (Near (holds middle) v w d r) (λ y h. h.was) (λ y h. h.point) (λ y h. h.others)
        (λ y h m. (h.value, subst (λ (x : ℤ). Holds d (y.values v -ℤ x)) (seen_number s t v w m.was h.was e seen m.carried.numbers) h.near)) l

    pub form_new_least : (f : Form) → origin s t v ≡ None → AreSeen s t v f.terms → IsLeast holds shape_of state (Assigned (holds middle) v f)
        → IsLeast holds shape_of state (Sets s t (holds at) v (λ was z. z ≡ form_value was.values f))
    form_new_least f e seen l = changed_least (λ was z. z ≡ form_value was.values f) (Assigned (holds middle) v f) (λ y h. h.was) (λ y h. h.point) (λ y h. h.others)
        (λ y h m. h.value ∙ ap (λ (x : ℤ). x +ℤ f.constant) (same_terms s t v m.was h.was f.terms e seen m.carried.numbers)) l

  -- a state changed in the variable from which v comes, and then was carried
  module _ (em : shape_of middle ≡ s) (v o : ℕ) (hv : v < count_of t) (e : origin s t v ≡ Some o) where
    before_least : (What : Point → ℤ → Type 0) (Step : Point → Type 0) (was_of : (q : Point) → Step q → Point) → ((q : Point) (h : Step q) → holds at (was_of q h)) → ((q : Point) (h : Step q) → SameBut o (was_of q h) q)
        → ((q : Point) (h : Step q) → What (was_of q h) (q.values o)) → Keeps holds shape_of middle Step → IsLeast holds shape_of middle Step → IsLeast holds shape_of state (Moved s t (holds middle) [] [])
        → IsLeast holds shape_of state (Sets s t (holds at) v What)
    before_least What Step was_of point others value k l ls = least_as holds shape_of state (Moved s t Step [] []) (Sets s t (holds at) v What)
        (λ p i m.
        let q = m.was in
        let h = m.carried.point in
        record {
          was = was_of q h;
          carried = changed_before s t (holds at) Step v o (was_of q h) q p e (point q h) m.carried (others q h);
          value = subst (What (was_of q h)) (sym (own_number s t Step v o q p hv e m.carried)) (value q h);
        })
        (moved_through S pairs holds shape_of laws s t way middle state Step em es k l ls)

    pub near_old_least : (Copy : Point → Type 0) (w : ℕ) (d r : Interval) → ((p : Point) → Copy p ↔ holds at p) → Keeps holds shape_of middle (Near Copy o w d r) → IsLeast holds shape_of middle (Near Copy o w d r)
        → IsLeast holds shape_of state (Moved s t (holds middle) [] []) → IsLeast holds shape_of state (Sets s t (holds at) v (λ was z. Holds r z × Holds d (z -ℤ was.values w)))
    near_old_least Copy w d r same k l ls = before_least (λ was z. Holds r z × Holds d (z -ℤ was.values w)) (Near Copy o w d r) (λ q h. h.was) (λ q h. (same h.was).0 h.point) (λ q h. h.others) (λ q h. (h.value, h.near)) k l ls

    pub form_old_least : (Copy : Point → Type 0) (f : Form) → ((p : Point) → Copy p ↔ holds at p) → Keeps holds shape_of middle (Assigned Copy o f) → IsLeast holds shape_of middle (Assigned Copy o f)
        → IsLeast holds shape_of state (Moved s t (holds middle) [] []) → IsLeast holds shape_of state (Sets s t (holds at) v (λ was z. z ≡ form_value was.values f))
    form_old_least Copy f same k l ls = before_least (λ was z. z ≡ form_value was.values f) (Assigned Copy o f) (λ q h. h.was) (λ q h. (same h.was).0 h.point) (λ q h. h.others) (λ q h. h.value) k l ls

-- the least state for some numbers is the least for more numbers that keeps them
pub least_more : {S : Type 0} (Holds_of : S → Point → Type 0) (shape_of : S → Shape) (state : S) (s t : Shape) (Has : Point → Type 0) (v : ℕ) (What More : Point → ℤ → Type 0) → ((was p : Point) → Has was → InShape (shape_of state) p → What was (p.values v) → More was (p.values v))
    → IsLeast Holds_of shape_of state (Sets s t Has v What) → IsLeast Holds_of shape_of state (Sets s t Has v More)
least_more Holds_of shape_of state s t Has v What More to l = least_as Holds_of shape_of state (Sets s t Has v What) (Sets s t Has v More)
    (λ p i h. record { was = h.was; carried = h.carried; value = to h.was p h.carried.point i h.value }) l
