-- What is told of fewer points is told of more.
use Rattle.std.proofs.Common.{◌≡◌, ℕ, ℤ, List, Option, inl, inr}
use Rattle.wm_interval.specs.declared.Interval.{Interval}
use Rattle.wm_arrays.specs.declared.summary.Summary.{Summary}
use Rattle.wm_domain.specs.Points.{Point}
use Rattle.wm_domain.specs.Forms.{form_value}
use Rattle.wm_domain.specs.declared.form.Form.{Form}
use Rattle.wm_domain.specs.declared.form.Relation.{Relation}
use Rattle.wm_domain.specs.declared.form.Relation.TheVariants.{AtMost, Equal, NotEqual}
use Rattle.wm_domain.specs.declared.shape.Shape.{Shape}
use Rattle.wm_domain.specs.Changes.{Projected, Meets, IsSided, Kept, Freed, Assigned, Near, ArraySet, Written, InEither}
use Rattle.wm_domain.specs.States.{Keeps, IsLeast}
use Rattle.wm_growing.specs.Growing.{Included, Grows, JoinGrows}

module _ (S : Type 0) (Holds : S → Point → Type 0) (shape_of : S → Shape) where
  -- what keeps more keeps less
  less : (image great : S) (P Q : Point → Type 0) → ((p : Point) → P p → Q p) → shape_of great ≡ shape_of image → IsLeast Holds shape_of image P → Keeps Holds shape_of great Q → Included Holds image great
  less image great P Q f e l k = λ p h. l.least great e (record { kept = λ q i w. k.kept q i (f q w) }) p h

  pub project_grows : (picks arrays : List (Option ℕ)) → Grows Holds shape_of (λ (Has : Point → Type 0). Projected Has picks arrays)
  project_grows picks arrays = record {
    grows = λ s t image great f e l k. less image great (Projected (Holds s) picks arrays) (Projected (Holds t) picks arrays) (λ p w. record { was = w.was; point = f w.was w.point; numbers = w.numbers; cells = w.cells }) e l k;
  }

  sided : (s t : S) (f : Form) → Included Holds s t → IsSided (Holds t) f → IsSided (Holds s) f
  sided s t f i w = record { side = elim w.side [ inl h ↦ inl (λ q j. h q (i q j)) | inr h ↦ inr (λ q j. h q (i q j)) ] }

  meets : (s t : S) (f : Form) (r : Relation) (z : ℤ) → Included Holds s t → Meets (Holds s) f r z → Meets (Holds t) f r z
  meets s t f AtMost z i h = h
  meets s t f Equal z i h = h
  meets s t f NotEqual z i h = λ w. h (sided s t f i w)

  pub keep_grows : (f : Form) (r : Relation) → Grows Holds shape_of (λ (Has : Point → Type 0). Kept Has f r)
  keep_grows f r = record {
    grows = λ s t image great i e l k. less image great (Kept (Holds s) f r) (Kept (Holds t) f r) (λ p w. record { point = i p w.point; meets = meets s t f r (form_value p.values f) i w.meets }) e l k;
  }

  pub form_grows : (v : ℕ) (f : Form) → Grows Holds shape_of (λ (Has : Point → Type 0). Assigned Has v f)
  form_grows v f = record {
    grows = λ s t image great i e l k. less image great (Assigned (Holds s) v f) (Assigned (Holds t) v f) (λ p w. record { was = w.was; point = i w.was w.point; others = w.others; value = w.value }) e l k;
  }

  pub near_grows : (v w : ℕ) (d r : Interval) → Grows Holds shape_of (λ (Has : Point → Type 0). Near Has v w d r)
  near_grows v w d r = record {
    grows = λ s t image great i e l k. less image great (Near (Holds s) v w d r) (Near (Holds t) v w d r) (λ p n. record { was = n.was; point = i n.was n.point; others = n.others; value = n.value; near = n.near }) e l k;
  }

  pub range_grows : (v : ℕ) (r : Interval) → Grows Holds shape_of (λ (Has : Point → Type 0). Freed Has v r)
  range_grows v r = record {
    grows = λ s t image great i e l k. less image great (Freed (Holds s) v r) (Freed (Holds t) v r) (λ p w. record { was = w.was; point = i w.was w.point; others = w.others; value = w.value }) e l k;
  }

  pub array_grows : (a : ℕ) (c : Summary) → Grows Holds shape_of (λ (Has : Point → Type 0). ArraySet Has a c)
  array_grows a c = record {
    grows = λ s t image great i e l k. less image great (ArraySet (Holds s) a c) (ArraySet (Holds t) a c) (λ p w. record { was = w.was; point = i w.was w.point; others = w.others; cell = w.cell }) e l k;
  }

  pub write_grows : (full : Interval) (a : ℕ) (r : Interval) (n : ℕ) → Grows Holds shape_of (λ (Has : Point → Type 0). Written Has full a r n)
  write_grows full a r n = record {
    grows = λ s t image great i e l k. less image great (Written (Holds s) full a r n) (Written (Holds t) full a r n) (λ p w. record { was = w.was; point = i w.was w.point; others = w.others; number = w.number; in_range = w.in_range; fits = w.fits; cell = w.cell }) e l k;
  }

  either : (s t u v : S) (p : Point) → Included Holds s u → Included Holds t v → InEither (Holds s) (Holds t) p → InEither (Holds u) (Holds v) p
  either s t u v p f g (inl h) = inl (f p h)
  either s t u v p f g (inr h) = inr (g p h)

  pub join_grows : JoinGrows Holds shape_of
  join_grows = record {
    grows = λ s t u v image great f g e l k. less image great (InEither (Holds s) (Holds t)) (InEither (Holds u) (Holds v)) (λ p w. either s t u v p f g w) e l k;
  }
