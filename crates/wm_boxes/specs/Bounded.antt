-- The bounds of boxes: what one more cuts, and that a box holds what meets all.
use Rattle.std.proofs.Common.{◌≡◌, ℕ, ◌<◌, ℤ, ◌≤ℤ◌, List, length, Bool, false, true, sym, ◌∙◌, ap, subst, refl, take, drop}
use Rattle.std.specs.Prelude.{◌↔◌, IsTrue}
use Rattle.wm_interval.specs.declared.Interval.{Interval}
use Rattle.wm_arrays.specs.declared.summary.Summary.{Summary}
use Rattle.wm_domain.specs.Points.{Point, AllowsCell}
use Rattle.wm_domain.specs.Forms.{signed, term_value}
use Rattle.wm_domain.specs.Bounds.{Bound, NoPoint, TermBelow, SumBelow, CellIn, Meets, IsBound, MeetsAll}
use Rattle.wm_domain.specs.declared.shape.Shape.{Shape}
use Rattle.wm_spans.specs.Spanned.{Spanned, In}
use Rattle.wm_spans.proofs.Capping.{IsCapped, bare_capped, term_capped, cells_capped}
use Rattle.wm_spans.proofs.Stable.{spans_closed}
use Rattle.wm_boxes.specs.Shapes.{shape_at}
use Rattle.wm_boxes.specs.Laws.{to_count, of_count}

no_pairs : {P : Type 0} → IsTrue false → P
no_pairs t = cc

same_by : (g : ℕ) (s t : Spanned) → t.full ≡ s.full → t.array_full ≡ s.array_full → shape_at g t ≡ shape_at g s
same_by g s t e f = ap (λ (xs : List Interval). let r : Shape = record { group = take g xs; singles = drop g xs; arrays = t.array_full } in r) e
    ∙ ap (λ (xs : List Interval). let r : Shape = record { group = take g s.full; singles = drop g s.full; arrays = xs } in r) f

pub boxes_capped : (g : ℕ) (s : Spanned) (p : Point) → In s p → (b : Bound) → IsBound false (shape_at g s) b → IsCapped s (Meets b)
boxes_capped g s p i NoPoint ok = bare_capped s (Meets NoPoint) (λ q j m. m)
boxes_capped g s p i (TermBelow t c) ok = term_capped s i.kept t.variable t.negative c (of_count g s t.variable ok)
boxes_capped g s p i (SumBelow t u c) ok = no_pairs ok.0
boxes_capped g s p i (CellIn a r) ok = cells_capped s i.kept a r ok

pub capped_shape : (g : ℕ) (s : Spanned) (Fact : Point → Type 0) (c : IsCapped s Fact) → shape_at g c.to ≡ shape_at g s
capped_shape g s Fact c = same_by g s c.to c.full c.array_full

pub boxes_closed : (g : ℕ) (s : Spanned) (p : Point) → MeetsAll false (shape_at g s) (In s) p → In s p
boxes_closed g s p all = spans_closed s p (λ none. all NoPoint tt none)
    (λ v b c hv each. all (TermBelow (record { variable = v; negative = b }) c) (to_count g s v hv) each)
    (λ a r ha each. all (CellIn a r) ha each)
