-- The points of a state that was cut and then carried.
use Rattle.std.proofs.Common.{◌≡◌, inl, inr, ℤ, Bool, [], sym, subst}
use Rattle.std.specs.Prelude.{◌↔◌}
use Rattle.wm_domain.specs.declared.shape.Shape.{Shape}
use Rattle.wm_domain.specs.declared.form.Form.{Form}
use Rattle.wm_domain.specs.declared.form.Relation.{Relation}
use Rattle.wm_domain.specs.declared.form.Relation.TheVariants.{AtMost, Equal, NotEqual}
use Rattle.wm_domain.specs.Points.{Point}
use Rattle.wm_domain.specs.Forms.{form_value}
use Rattle.wm_domain.specs.States.{InShape, Keeps, IsLeast}
use Rattle.wm_domain.specs.Changes.{Kept, Meets, IsSided}
use Rattle.wm_carry.specs.Following.{IsWay, Moved}
use Rattle.wm_carry.proofs.Reaching.{Laws, least_as}
use Rattle.wm_carry.proofs.Passing.{moved_through}
use Rattle.wm_tested.specs.Likes.{Between}

pub keeps_after : {S : Type 0} (Holds_of : S → Point → Type 0) (shape_of : S → Shape) (middle state : S) (s t : Shape) (P Step : Point → Type 0) → ((x : Point) → P x → InShape s x) → shape_of middle ≡ s → ((x : Point) → P x → Step x)
    → Keeps Holds_of shape_of middle Step → Keeps Holds_of shape_of state (Moved s t (Holds_of middle) [] []) → Keeps Holds_of shape_of state (Moved s t P [] [])
keeps_after Holds_of shape_of middle state s t P Step inside e to km ks = record {
  kept = λ p i h. ks.kept p i (record {
    was = h.was;
    carried = record {
      point = km.kept h.was (subst (λ (x : Shape). InShape x h.was) (sym e) (inside h.was h.carried.point)) (to h.was h.carried.point);
      numbers = h.carried.numbers;
      cells = h.carried.cells;
    };
  });
}

pub least_after : (S : Type 0) (pairs : Bool) (Holds_of : S → Point → Type 0) (shape_of : S → Shape) → Laws S pairs Holds_of shape_of → (middle state : S) (s t : Shape) (P Step : Point → Type 0) → IsWay s t → shape_of middle ≡ s → shape_of state ≡ t → ((x : Point) → Step x → P x)
    → Keeps Holds_of shape_of middle Step → IsLeast Holds_of shape_of middle Step → IsLeast Holds_of shape_of state (Moved s t (Holds_of middle) [] []) → IsLeast Holds_of shape_of state (Moved s t P [] [])
least_after S pairs Holds_of shape_of laws middle state s t P Step way em es from km lm ls = least_as Holds_of shape_of state (Moved s t Step [] []) (Moved s t P [] [])
    (λ p i m. record { was = m.was; carried = record { point = from m.was m.carried.point; numbers = m.carried.numbers; cells = m.carried.cells } })
    (moved_through S pairs Holds_of shape_of laws s t way middle state Step em es km lm ls)

sided_same : (Has Copy : Point → Type 0) (f : Form) → ((p : Point) → Copy p ↔ Has p) → IsSided Copy f → IsSided Has f
sided_same Has Copy f same s = record {
  side = elim s.side [
    | inl h ↦ inl (λ q i. h q ((same q).1 i))
    | inr h ↦ inr (λ q i. h q ((same q).1 i))
  ];
}

meets_same : (Has Copy : Point → Type 0) (f : Form) (r : Relation) (z : ℤ) → ((p : Point) → Copy p ↔ Has p) → Meets Has f r z → Meets Copy f r z
meets_same Has Copy f AtMost z same m = m
meets_same Has Copy f Equal z same m = m
meets_same Has Copy f NotEqual z same m = λ s. m (sided_same Has Copy f same s)

pub kept_same : (Has Copy : Point → Type 0) (f : Form) (r : Relation) → ((p : Point) → Copy p ↔ Has p) → (x : Point) → Kept Has f r x → Kept Copy f r x
kept_same Has Copy f r same x k = record { point = (same x).1 k.point; meets = meets_same Has Copy f r (form_value x.values f) same k.meets }

pub between_same : (Has Copy : Point → Type 0) (f : Form) (low high : ℤ) → ((p : Point) → Copy p ↔ Has p) → (x : Point) → Between Has f low high x → Between Copy f low high x
between_same Has Copy f low high same x k = record { point = (same x).1 k.point; above = k.above; below = k.below }
