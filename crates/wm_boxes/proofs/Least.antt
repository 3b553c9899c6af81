-- The least box of what ranges and summaries leave.
use Rattle.std.proofs.Common.{◌≡◌, ℕ, ◌<◌, List, ◌++◌, length, take, drop, false, sym, ◌∙◌, ap, subst, refl}
use Rattle.std.specs.Prelude.{IsTrue}
use Rattle.std.proofs.Math.Seq.{take-append_seam, drop-append_seam}
use Rattle.wm_interval.specs.declared.Interval.{Interval}
use Rattle.wm_domain.specs.declared.shape.Shape.{Shape}
use Rattle.wm_domain.specs.Points.{Point, IsInside}
use Rattle.wm_domain.specs.States.{variables_of, count_of, array_count, InShape, Keeps, IsLeast}
use Rattle.wm_spans.specs.Spanned.{Spanned, In}
use Rattle.wm_spans.specs.Exact.{Exactly, Leaves, Inside}
use Rattle.wm_spans.proofs.Forming.{exactly_left}
use Rattle.wm_spans.proofs.Summing.{spanned_as, moved_in}
use Rattle.wm_boxes.specs.Shapes.{shape_at}
use Rattle.wm_boxes.specs.Laws.{all_variables, to_shape, of_shape, of_count, boxes_told}
use Rattle.wm_boxes.specs.declared.boxes.Boxes.{Boxes}

abbrev pub holds : Boxes → Point → Type 0
holds b p = In b.spans p

abbrev pub shape_of : Boxes → Shape
shape_of b = shape_at b.group b.spans

never : {P : Type 0} → IsTrue false → P
never t = cc

pub same_shape : (g : ℕ) (s t : Spanned) → t.full ≡ s.full → t.array_full ≡ s.array_full → shape_at g t ≡ shape_at g s
same_shape g s t e f = ap (λ (xs : List Interval). let r : Shape = record { group = take g xs; singles = drop g xs; arrays = t.array_full } in r) e
    ∙ ap (λ (xs : List Interval). let r : Shape = record { group = take g s.full; singles = drop g s.full; arrays = xs } in r) f

pub new_shape : (shape : Shape) (g : ℕ) (s : Spanned) → g ≡ length shape.group → s.full ≡ shape.group ++ shape.singles → s.array_full ≡ shape.arrays → shape_at g s ≡ shape
new_shape shape g s e f h =
    ap (λ (n : ℕ). shape_at n s) e
    ∙ ap (λ (xs : List Interval). let r : Shape = record { group = take (length shape.group) xs; singles = drop (length shape.group) xs; arrays = s.array_full } in r) f
    ∙ ap (λ (xs : List Interval). let r : Shape = record { group = xs; singles = drop (length shape.group) (shape.group ++ shape.singles); arrays = s.array_full } in r) (take-append_seam shape.group shape.singles)
    ∙ ap (λ (xs : List Interval). let r : Shape = record { group = shape.group; singles = xs; arrays = s.array_full } in r) (drop-append_seam shape.group shape.singles)
    ∙ ap (λ (xs : List Interval). let r : Shape = record { group = shape.group; singles = shape.singles; arrays = xs } in r) h

module _ (g : ℕ) (s : Spanned) (c : Boxes) (P : Point → Type 0) (same : c.group ≡ g) (l : Leaves s c.spans P) where
  -- the points of the shape are those within the full ranges
  inside_before : (p : Point) → InShape (shape_of c) p → IsInside s.full s.array_full p
  inside_before p i = moved_in c.spans s p (sym l.full) (sym l.array_full) (of_shape c.group c.spans p i)

  inside_after : (p : Point) → IsInside s.full s.array_full p → InShape (shape_of c) p
  inside_after p i = to_shape c.group c.spans p (moved_in s c.spans p l.full l.array_full i)

  pub leaves_keeps : Keeps holds shape_of c P
  leaves_keeps = record { kept = λ p i h. l.kept p (inside_before p i) h }

  pub leaves_least : IsLeast holds shape_of c P
  leaves_least = record {
    least = λ t e k p h.
        let q = spanned_as (length s.full) (length s.array_full) (Inside s P) (In t.spans) p (λ x w. k.kept x (subst (λ (r : Shape). InShape r x) (sym e) (inside_after x w.inside)) w.is) (l.spanned p h) in
        boxes_told t.group t.spans p (record {
          some = q.some;
          some_is = q.some_is;
          each = λ w hw. q.each w (subst (λ (xs : List Interval). w.variable < length xs) l.full (of_count c.group c.spans w.variable (subst (λ (r : Shape). w.variable < count_of r) e hw)));
          pair = λ on. never on;
          cells = λ a ha. q.cells a (subst (λ (xs : List Interval). a < length xs) l.array_full (subst (λ (r : Shape). a < array_count r) e ha));
        });
  }

-- what is exactly the points
pub exactly_keeps : (c : Boxes) (P : Point → Type 0) → Exactly c.spans P → Keeps holds shape_of c P
exactly_keeps c P x = leaves_keeps c.group c.spans c P refl (exactly_left c.spans c.spans P refl refl x)

pub exactly_least : (c : Boxes) (P : Point → Type 0) → Exactly c.spans P → IsLeast holds shape_of c P
exactly_least c P x = leaves_least c.group c.spans c P refl (exactly_left c.spans c.spans P refl refl x)

-- boxes of one shape have the same full ranges
pub full_of : (b c : Boxes) → shape_of b ≡ shape_of c → b.spans.full ≡ c.spans.full
full_of b c e = sym (all_variables b.group b.spans) ∙ ap variables_of e ∙ all_variables c.group c.spans

pub arrays_of : (b c : Boxes) → shape_of b ≡ shape_of c → b.spans.array_full ≡ c.spans.array_full
arrays_of b c e = ap (λ (r : Shape). r.arrays) e
