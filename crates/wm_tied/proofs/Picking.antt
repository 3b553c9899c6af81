-- The turns of the loops over picked variables.
use Rattle.std.proofs.Common.{◌≡◌, ◌≢◌, ◌⊎◌, inl, inr, ℕ, ◌+◌, ◌<◌, ℤ, List, length, Option, Some, None, sym, ◌∙◌, ap, subst, arith, refl}
use Rattle.std.specs.Prelude.{slice_index_or}
use Rattle.std.proofs.lemmas.Bool.{cases_eq}
use Rattle.wm_interval.specs.declared.Interval.{Interval}
use Rattle.wm_interval.specs.Holds.{Holds}
use Rattle.wm_domain.specs.Points.{Point, range_at}
use Rattle.wm_spans.specs.Spanned.{Spanned}
use Rattle.wm_spans.specs.Spanned as spanned
use Rattle.wm_spans.specs.Exact.{Exactly, Bounded}
use Rattle.wm_spans.proofs.Summing.{moved_in}
use Rattle.wm_tied.specs.Pointed.{TiedView, In}
use Rattle.wm_tied.specs.Leaving.{IsAlike, IsExactly}
use Rattle.wm_tied.specs.Projecting.{IsPickedIn, ArePicked, AreWithin}
use Rattle.wm_tied.proofs.Bounding.{moved_full}

none_is : {P : Type 0} (v : ℕ) → None ≡ Some v → P
none_is v e = cc

some_is : (x y : ℕ) → Some x ≡ Some y → x ≡ y
some_is x y e = cc

below_zero : {P : Type 0} (k : ℕ) → k < 0 → P
below_zero k h = absurd (omega arith)

before : (j k : ℕ) → j < k + 1 → j ≢ k → j < k
before j k h ne = omega arith

more : (j k : ℕ) → j < k → j < k + 1
more j k h = omega arith

more_own : (k : ℕ) → k < k + 1
more_own k = omega arith

-- ---- one variable is cut

pub cut_pick_none : (s : TiedView) (r : Interval) → IsExactly s (IsPickedIn (In s) r None)
cut_pick_none s r = record { made = λ p i. record { point = i; number = λ v e. none_is v e }; kept = λ p f h. h.point }

pub cut_pick_some : (s t : TiedView) (r : Interval) (v : ℕ) → IsExactly t (Bounded (In s) v r) → IsExactly t (IsPickedIn (In s) r (Some v))
cut_pick_some s t r v e = record {
  made = λ p i. let b = e.made p i in record { point = b.point; number = λ u q. subst (λ (w : ℕ). Holds r (p.values w)) (some_is v u q) b.bounded };
  kept = λ p f h. e.kept p f (record { point = h.point; bounded = h.number v refl });
}

pub no_pick : (s : TiedView) (full : List Interval) (picks : List (Option ℕ)) (first : ℕ) → IsExactly s (ArePicked (In s) full picks first 0)
no_pick s full picks first = record { made = λ p i. record { point = i; numbers = λ k v h e. below_zero k h }; kept = λ p f h. h.point }

back_alike : (s t : TiedView) → IsAlike s t → IsAlike t s
back_alike s t a = record { group = sym a.group; full = sym a.full; array_full = sym a.array_full }

pub one_pick : (start s t : TiedView) (full : List Interval) (picks : List (Option ℕ)) (first k : ℕ) (o : Option ℕ) (r : Interval) → o ≡ slice_index_or picks (first + k) None → r ≡ range_at full k → IsAlike s t
    → IsExactly s (ArePicked (In start) full picks first k) → IsExactly t (IsPickedIn (In s) r o) → IsExactly t (ArePicked (In start) full picks first (k + 1))
one_pick start s t full picks first k o r at range alike e x = record {
  made = λ p i.
      let c = x.made p i in
      let d = e.made p c.point in
      record {
        point = d.point;
        numbers = λ j v h q. elim (cases_eq j k) [
          | inl y ↦ subst (λ (n : ℕ). Holds (range_at full n) (p.values v)) (sym y) (subst (λ (z : Interval). Holds z (p.values v)) range (c.number v (at ∙ subst (λ (n : ℕ). slice_index_or picks (first + n) None ≡ Some v) y q)))
          | inr ne ↦ d.numbers j v (before j k h ne) q
        ];
      };
  kept = λ p f h. x.kept p f (record {
    point = e.kept p (moved_full t s p (back_alike s t alike) f) (record { point = h.point; numbers = λ j v l q. h.numbers j v (more j k l) q });
    number = λ v q. subst (λ (z : Interval). Holds z (p.values v)) (sym range) (h.numbers k v (more_own k) (sym at ∙ q));
  });
}

-- ---- each variable is cut to its range

pub none_within : (s : Spanned) (ranges : List Interval) → Exactly s (AreWithin (spanned.In s) ranges 0)
none_within s ranges = record { made = λ p i. record { point = i; numbers = λ k h. below_zero k h }; kept = λ p f h. h.point }

pub one_within : (start s t : Spanned) (ranges : List Interval) (k : ℕ) (r : Interval) → r ≡ range_at ranges k → t.full ≡ s.full → t.array_full ≡ s.array_full
    → Exactly s (AreWithin (spanned.In start) ranges k) → Exactly t (Bounded (spanned.In s) k r) → Exactly t (AreWithin (spanned.In start) ranges (k + 1))
one_within start s t ranges k r range f g e x = record {
  made = λ p i.
      let c = x.made p i in
      let d = e.made p c.point in
      record {
        point = d.point;
        numbers = λ j h. elim (cases_eq j k) [
          | inl y ↦ subst (λ (n : ℕ). Holds (range_at ranges n) (p.values n)) (sym y) (subst (λ (z : Interval). Holds z (p.values k)) range c.bounded)
          | inr ne ↦ d.numbers j (before j k h ne)
        ];
      };
  kept = λ p i h. x.kept p i (record {
    point = e.kept p (moved_in t s p (sym f) (sym g) i) (record { point = h.point; numbers = λ j l. h.numbers j (more j k l) });
    bounded = subst (λ (z : Interval). Holds z (p.values k)) (sym range) (h.numbers k (more_own k));
  });
}
