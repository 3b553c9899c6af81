-- A state at the next node holds exactly what follows the state before: each of its points cannot but follow one of it.
use Rattle.std.proofs.Common.{◌≡◌, ◌⊎◌, inl, inr, ℕ, zero, suc, ◌+◌, ◌-◌, ◌<◌, ◌≤◌, ℤ, pos, ◌+ℤ◌, ◌≤ℤ◌, Bool, true, false, cond, nat_lt, [], length, Option, Some, None, refl, sym, ◌∙◌, ap, subst, arith}
use Rattle.wm_interval.specs.Holds.{Holds}
use Rattle.wm_arrays.specs.declared.summary.Summary.TheVariants.{Empty}
use Rattle.wm_domain.specs.declared.shape.Shape.{Shape}
use Rattle.wm_domain.specs.Points.{Point, AllowsCell}
use Rattle.wm_domain.specs.Forms.{signed, term_value}
use Rattle.wm_domain.specs.States.{count_of, array_count, InShape}
use Rattle.wm_domain.specs.Bounds.{Bound, NoPoint, TermBelow, SumBelow, CellIn, Meets, IsBound, MeetsAll}
use Rattle.wm_domain.proofs.Moving.{moved, moved-there}
use Rattle.wm_carry.specs.Following.{origin, IsWay, Follows, FollowsCells, Carried, Moved}
use Rattle.wm_carry.specs.Following as following
use Rattle.wm_carry.proofs.Ranks.{side, in_here, in_group, in_singles, none_of, Comes, Grouped, Single, comes_of, count_is, origin_below, origin_apart}
use Rattle.wm_carry.proofs.Changing.{come, come_held}
use Rattle.wm_carry.proofs.Extending.{Fits, extended}
use Rattle.wm_carry.proofs.Reaching.{Wanted}

-- ---- from where a variable comes, and to where it goes

back_single : (g h n v w : ℕ) → h ≤ w → w < h + n → v + h ≡ g + w → (v - g < n) × (h + (v - g) ≡ w)
back_single g h n v w a b e = (omega arith, omega arith)

zero_plus : (v w : ℕ) → v ≡ w → 0 + v ≡ w
zero_plus v w e = omega arith

-- what goes to a place comes from there
pub origin_back : (s t : Shape) (w v : ℕ) → w < count_of s → origin t s w ≡ Some v → origin s t v ≡ Some w
origin_back s t w v hw e = by (comes_of t s w v e)
  where
    by : Comes t s w v → origin s t v ≡ Some w
    by (Grouped h k f) = in_group s t v k ∙ in_here 0 (length s.group) v (subst (λ (n : ℕ). n < length s.group) (sym f) h) ∙ ap Some (zero_plus v w f)
    by (Single h k l f) =
        let b = back_single (length t.group) (length s.group) (length s.singles) v w h (subst (λ (n : ℕ). w < n) (count_is s) hw) f in
        in_singles s t v k ∙ in_here (length s.group) (length s.singles) (v - length t.group) b.0 ∙ ap Some b.1

-- a variable of the group goes to one
grouped_to : (s t : Shape) (w v : ℕ) → w < length s.group → origin t s w ≡ Some v → v < length t.group
grouped_to s t w v h e = by (comes_of t s w v e)
  where
    by : Comes t s w v → v < length t.group
    by (Grouped i k f) = k
    by (Single i k l f) = absurd (omega (arith, h, i))

-- it goes to some place
pub record Stays (s t : Shape) (w : ℕ) : Type 0 where
  pub to : ℕ
  pub from : origin t s w ≡ Some to

pub stays_or : (s t : Shape) (w : ℕ) → Stays s t w ⊎ (origin t s w ≡ None)
stays_or s t w = by (origin t s w) refl
  where
    by : (o : Option ℕ) → origin t s w ≡ o → Stays s t w ⊎ (origin t s w ≡ None)
    by None e = inr e
    by (Some v) e = inl (record { to = v; from = e })

one_of : {x y : ℕ} → Some x ≡ Some y → x ≡ y
one_of e = cc

-- ---- what follows a point, but with the numbers of another where nothing is told

abbrev pub cells_after : Shape → Point → ℕ → Option ℤ
cells_after s m a = cond (nat_lt a (array_count s)) (m.cells a) None

pub cell_kept : (s : Shape) (m : Point) (a : ℕ) → a < array_count s → cells_after s m a ≡ m.cells a
cell_kept s m a h = let e : nat_lt a (array_count s) ≡ true = grind arith in rw e refl

pub cell_new : (s : Shape) (m : Point) (a : ℕ) → array_count s ≤ a → cells_after s m a ≡ None
cell_new s m a h = let e : nat_lt a (array_count s) ≡ false = grind arith in rw e refl

abbrev pub after_point : Shape → Shape → Point → Point → Point
after_point s t m y = record { values = λ v. come (origin s t v) m (y.values v); cells = cells_after s m }

come_own : (o : Option ℕ) (m : Point) (z : ℤ) → following.Comes m o (come o m z)
come_own None m z = tt
come_own (Some w) m z = refl

pub after_inside : (s t : Shape) (m y : Point) → IsWay s t → InShape s m → InShape t y → InShape t (after_point s t m y)
after_inside s t m y way i j = record {
  numbers = λ v hv. come_held s t v (origin s t v) m y way i j hv refl;
  set_cells = λ a z ha e. elim (side a (array_count s)) [
    | inl h ↦ subst (λ r. Holds r z) (sym (way.arrays_alike a ha h)) (i.set_cells a z h (sym (cell_kept s m a h) ∙ e))
    | inr h ↦ no_cell (sym (cell_new s m a h) ∙ e)
  ];
}
  where
    no_cell : {P : Type 0} {z : ℤ} → None ≡ Some z → P
    no_cell e = cc

pub after_follows : (s t : Shape) (Has : Point → Type 0) (m y : Point) → Has m → Carried s t Has [] [] m (after_point s t m y)
after_follows s t Has m y h = record {
  point = h;
  numbers = record { numbers = λ v hv a. come_own (origin s t v) m (y.values v) };
  cells = record { kept = λ a ht hs ap. cell_kept s m a hs; new = λ a ht hs ap. cell_new s m a hs };
}

-- ---- exactness

comes_at : (o : Option ℕ) (was : Point) (z : ℤ) (w : ℕ) → o ≡ Some w → following.Comes was o z → z ≡ was.values w
comes_at o was z w e h = subst (λ (x : Option ℕ). following.Comes was x z) e h

fits_as : (pairs : Bool) (shape : Shape) (Has : Point → Type 0) (On Fewer : ℕ → Type 0) (x : ℕ → ℤ) → ((w : ℕ) → Fewer w → On w) → Fits pairs shape Has On x → Fits pairs shape Has Fewer x
fits_as pairs shape Has On Fewer x g f = record {
  term = λ t c h o all. f.term t c h (g t.variable o) all;
  sum = λ on t u c ht hu ne ot ou all. f.sum on t u c ht hu ne (g t.variable ot) (g u.variable ou) all;
}

empty_cell : (c : Option ℤ) → AllowsCell Empty c → c ≡ None
empty_cell None h = refl
empty_cell (Some z) h = absurd h

less_or : (w n : ℕ) → w < suc n → (w ≡ n) ⊎ (w < n)
less_or w n h = grind arith

module _ (pairs : Bool) (s t : Shape) (way : IsWay s t) (Has : Point → Type 0) (inside : (m : Point) → Has m → InShape s m) (closed : (x : Point) → MeetsAll pairs s Has x → Has x)
    (y : Point) (yi : InShape t y) (met : (b : Bound) → IsBound pairs t b → ((m : Point) → Wanted t (Moved s t Has [] []) m → Meets b m) → Meets b y) where
  some : ((q : Point) → Has q → ⊥) → ⊥
  some none = met NoPoint tt (λ m w. none w.is.was w.is.carried.point)

  -- the numbers of y where it has them
  known : ℕ → ℤ
  known w = come (origin t s w) y (pos 0)

  known-at : (w v : ℕ) → origin t s w ≡ Some v → known w ≡ y.values v
  unfolding known
  known-at w v e = ap (λ (o : Option ℕ). come o y (pos 0)) e

  moved_at : (w v : ℕ) (m : Point) (i : Moved s t Has [] [] m) → w < count_of s → origin t s w ≡ Some v → m.values v ≡ i.was.values w
  moved_at w v m i hw e = comes_at (origin s t v) i.was (m.values v) w (origin_back s t w v hw e) (i.carried.numbers.numbers v (origin_below t s w v e) tt)

  base : Fits pairs s Has (Stays s t) known
  base = record {
    term = λ u c hu o all.
        subst (λ (z : ℤ). signed u.negative z ≤ℤ c) (sym (known-at u.variable o.to o.from))
        (met (TermBelow (record { variable = o.to; negative = u.negative }) c) (origin_below t s u.variable o.to o.from)
        (λ m w. subst (λ (z : ℤ). signed u.negative z ≤ℤ c) (sym (moved_at u.variable o.to m w.is hu o.from)) (all w.is.was w.is.carried.point)));
    sum = λ on u r c hu hr ne ou or all.
        subst (λ (z : ℤ). (signed u.negative z +ℤ term_value known r) ≤ℤ c) (sym (known-at u.variable ou.to ou.from))
        (subst (λ (z : ℤ). (signed u.negative (y.values ou.to) +ℤ signed r.negative z) ≤ℤ c) (sym (known-at r.variable or.to or.from))
        (met (SumBelow (record { variable = ou.to; negative = u.negative }) (record { variable = or.to; negative = r.negative }) c) (
          on,
          grouped_to s t u.variable ou.to hu ou.from,
          grouped_to s t r.variable or.to hr or.from,
          λ e. ne (origin_apart t s u.variable r.variable ou.to ou.from (or.from ∙ ap Some (sym e))),
        )
        (λ m w.
        subst (λ (z : ℤ). (signed u.negative z +ℤ signed r.negative (m.values or.to)) ≤ℤ c) (sym (moved_at u.variable ou.to m w.is (whole u.variable hu) ou.from))
        (subst (λ (z : ℤ). (signed u.negative (w.is.was.values u.variable) +ℤ signed r.negative z) ≤ℤ c) (sym (moved_at r.variable or.to m w.is (whole r.variable hr) or.from))
        (all w.is.was w.is.carried.point)))));
  }
    where
      in_front : (n k l v : ℕ) → l ≡ n + k → v < n → v < l
      in_front n k l v e h = omega arith

      whole : (v : ℕ) → v < length s.group → v < count_of s
      whole v h = in_front (length s.group) (length s.singles) (count_of s) v (count_is s) h

  -- numbers of the first variables, and of those that stay
  record Filled (n : ℕ) : Type 0 where
    x : ℕ → ℤ
    fits : Fits pairs s Has (λ w. (w < n) ⊎ Stays s t w) x
    agrees : (w : ℕ) → Stays s t w → x w ≡ known w

  start : Filled 0
  start = record { x = known; fits = fits_as pairs s Has (Stays s t) (λ w. (w < 0) ⊎ Stays s t w) known (λ w o. elim o [ inl h ↦ absurd (omega (arith, h)) | inr k ↦ k ]) base; agrees = λ w o. refl }

  more : (n : ℕ) → n < count_of s → Filled n → (Filled (suc n) → ⊥) → ⊥
  more n hn f never = elim (stays_or s t n) [
    | inl o ↦ never (record {
      x = f.x;
      fits = fits_as pairs s Has (λ w. (w < n) ⊎ Stays s t w) (λ w. (w < suc n) ⊎ Stays s t w) f.x (λ w k. elim k [
        | inl h ↦ elim (less_or w n h) [ inl e ↦ inr (subst (Stays s t) (sym e) o) | inr l ↦ inl l ]
        | inr q ↦ inr q
      ]) f.fits;
      agrees = f.agrees;
    })
    | inr none ↦ extended pairs s Has inside some (λ w. (w < n) ⊎ Stays s t w) f.x f.fits n hn (λ z g. never (record {
      x = moved f.x n z;
      fits = fits_as pairs s Has (λ w. (w ≡ n) ⊎ ((w < n) ⊎ Stays s t w)) (λ w. (w < suc n) ⊎ Stays s t w) (moved f.x n z) (λ w k. elim k [
        | inl h ↦ elim (less_or w n h) [ inl e ↦ inl e | inr l ↦ inr (inl l) ]
        | inr q ↦ inr (inr q)
      ]) g;
      agrees = λ w o. moved-there f.x n z w (λ e. none_of (sym none ∙ ap (origin t s) (sym e) ∙ o.from)) ∙ f.agrees w o;
    }))
  ]

  filled : (n : ℕ) → n ≤ count_of s → (Filled n → ⊥) → ⊥
  filled zero h never = never start
  filled (suc n) h never = filled n (omega (arith, h)) (λ f. more n (omega (arith, h)) f never)

  -- such a point is one of the state
  abbrev whole_point : Filled (count_of s) → Point
  whole_point f = record { values = f.x; cells = cells_after t y }

  whole_is : (f : Filled (count_of s)) → Has (whole_point f)
  whole_is f = closed (whole_point f) all_met
    where
      all_met : MeetsAll pairs s Has (whole_point f)
      all_met NoPoint ok all = some all
      all_met (TermBelow u c) ok all = f.fits.term u c ok (inl ok) all
      all_met (SumBelow u r c) ok all = f.fits.sum ok.0 u r c ok.1 ok.2 ok.3 (inl (of_group u.variable ok.1)) (inl (of_group r.variable ok.2)) all
        where
          of_group : (v : ℕ) → v < length s.group → v < count_of s
          of_group v h = subst (λ (n : ℕ). v < n) (sym (count_is s)) (omega (arith, h))
      all_met (CellIn a r) ok all = elim (side a (array_count t)) [
        | inl h ↦ subst (AllowsCell r) (sym (cell_kept t y a h)) (met (CellIn a r) h (λ m w. subst (AllowsCell r) (sym (w.is.carried.cells.kept a h ok tt)) (all w.is.was w.is.carried.point)))
        | inr h ↦ subst (AllowsCell r) (sym (cell_new t y a h)) tt
      ]

  comes_known : (f : Filled (count_of s)) (v : ℕ) → v < count_of t → (o : Option ℕ) → origin s t v ≡ o → following.Comes (whole_point f) o (y.values v)
  comes_known f v hv None e = tt
  comes_known f v hv (Some w) e =
      let b = origin_back t s v w hv e in
      sym (f.agrees w (record { to = v; from = b }) ∙ known-at w v b)

  pub follows_one : (Moved s t Has [] [] y → ⊥) → ⊥
  follows_one never = filled (count_of s) (omega arith) (λ f. never (record {
    was = whole_point f;
    carried = record {
      point = whole_is f;
      numbers = record { numbers = λ v hv a. comes_known f v hv (origin s t v) refl };
      cells = record {
        kept = λ a ht hs b. sym (cell_kept t y a ht);
        new = λ a ht hs b. empty_cell (y.cells a) (met (CellIn a Empty) ht (λ m w. subst (AllowsCell Empty) (sym (w.is.carried.cells.new a ht hs tt)) tt));
      };
    };
  }))
