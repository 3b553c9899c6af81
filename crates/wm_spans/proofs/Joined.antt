-- A join as the code makes it: one of the two may have no point.
use Rattle.std.proofs.Common.{◌≡◌, inl, inr, ℕ, List, length, Bool, false, true, sym, ◌∙◌, ap, subst, refl}
use Rattle.wm_interval.specs.declared.Interval.{Interval}
use Rattle.wm_domain.specs.Points.{Point}
use Rattle.wm_domain.specs.Changes.{InEither}
use Rattle.wm_spans.specs.Spanned.{Spanned, Kept, In}
use Rattle.wm_spans.specs.Exact.{IsRaised, IsSpanned}
use Rattle.wm_spans.proofs.Listed.{not_both}
use Rattle.wm_spans.proofs.Raising.{own_spanned, raised_kept, raised_spanned}

-- the other has no point
pub join_none_kept : (s t : Spanned) → t.empty ≡ true → (p : Point) → InEither (In s) (In t) p → In s p
join_none_kept s t e p (inl i) = i
join_none_kept s t e p (inr i) = not_both (sym e ∙ i.some)

pub join_none_spanned : (s t : Spanned) (p : Point) → In s p → IsSpanned (length s.full) (length s.array_full) (InEither (In s) (In t)) p
join_none_spanned s t p i = own_spanned (length s.full) (length s.array_full) (InEither (In s) (In t)) p (inl i)

-- a state with a point that is marked as such
marked : (t : Spanned) (p : Point) → t.empty ≡ false → In (record t { empty = false }) p → In t p
marked t p e i = record { some = e; kept = i.kept; numbers = i.numbers; cells = i.cells }

marked_back : (t : Spanned) (p : Point) → In t p → In (record t { empty = false }) p
marked_back t p i = record { some = refl; kept = i.kept; numbers = i.numbers; cells = i.cells }

-- this one has no point, and takes over the other
pub join_like_kept : (s t u : Spanned) → s.empty ≡ true → t.empty ≡ false → u ≡ record t { empty = false } → (p : Point) → InEither (In s) (In t) p → In u p
join_like_kept s t u es et e p (inl i) = not_both (sym es ∙ i.some)
join_like_kept s t u es et e p (inr i) = subst (λ (x : Spanned). In x p) (sym e) (marked_back t p i)

pub join_like_spanned : (s t u : Spanned) → t.empty ≡ false → u ≡ record t { empty = false } → (p : Point) → In u p → IsSpanned (length s.full) (length s.array_full) (InEither (In s) (In t)) p
join_like_spanned s t u et e p i = own_spanned (length s.full) (length s.array_full) (InEither (In s) (In t)) p (inr (marked t p et (subst (λ (x : Spanned). In x p) e i)))

-- both have points
pub join_two_kept : (s t u : Spanned) → Kept s → Kept t → s.empty ≡ false → t.empty ≡ false → s.full ≡ t.full → s.array_full ≡ t.array_full → IsRaised s t u → (p : Point) → InEither (In s) (In t) p → In u p
join_two_kept s t u ks kt es et f g r p h = raised_kept s t u ks kt es et f g r p h

pub join_two_spanned : (s t u : Spanned) → Kept s → Kept t → s.empty ≡ false → t.empty ≡ false → s.full ≡ t.full → s.array_full ≡ t.array_full → IsRaised s t u
    → (p : Point) → In u p → IsSpanned (length s.full) (length s.array_full) (InEither (In s) (In t)) p
join_two_spanned s t u ks kt es et f g r p i = raised_spanned s t u ks kt es et f g r p i
