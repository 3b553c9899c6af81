-- What a variable that is set free, or gets a new value, leaves is the least octagon of the points so made.
use Rattle.std.proofs.Common.{◌≡◌, ◌⊎◌, inl, inr, ℕ, ◌+◌, ◌*◌, ◌/◌, ◌%◌, ◌<◌, ◌≢◌, ℤ, pos, ◌+ℤ◌, ◌-ℤ◌, ◌≤ℤ◌, neg_ℤ, List, refl, sym, ◌∙◌, ap, subst, arith, nat_eq, true, false, cond}
use Rattle.std.proofs.lemmas.Int.{ints}
use Rattle.std.proofs.lemmas.Bool.{cases_eq}
use Rattle.wm_numbers.specs.Within.{Within}
use Rattle.wm_octagon.specs.Layout.{opposite, bound, table}
use Rattle.wm_octagon.specs.Closing.{top}
use Rattle.wm_octagon.specs.Points.{side_value, IsPoint, IsTight, Attains, LeastOctagon}
use Rattle.wm_octagon.specs.Changes.{loosened, source_of, rise, assigned, Forgotten, Assigned}
use Rattle.wm_octagon.proofs.Rows.{entry-table}
use Rattle.wm_octagon.proofs.Tables.{opposite-opposite, opposite-lt, half_le, le_half}
use Rattle.wm_octagon.proofs.Attained.{side_value-opposite, side_value-even, side_value-odd}
use Rattle.wm_octagon.proofs.Tight.{table_of, meets_of, column-lt, attains_bound}
use Rattle.wm_octagon.proofs.Least.{value_le_top}

-- a side's greatest value is that of a point
pub record Peak (n : ℕ) (xs : List ℤ) (k : ℕ) : Type 0 where
  pub x : ℕ → ℤ
  pub point : IsPoint n xs x
  pub gives : side_value x k ≡ top (bound xs) k

pub peak : (n : ℕ) (xs : List ℤ) (k : ℕ) → IsTight n xs → k < 2 * n → Peak n xs k
unfolding top
peak n xs k t hk =
    let a = attains_bound n (IsPoint n xs) xs t.attained (opposite k) k (opposite-lt n k hk) hk in
    let g = a.gives in
    let s = side_value-opposite a.x k in
    let p = half_le (bound xs (opposite k) k) in
    let q = le_half (bound xs (opposite k) k) in
    record { x = a.x; point = a.is; gives = omega (arith, ints) }

-- x with another value of variable v
pub moved : (ℕ → ℤ) → ℕ → ℤ → ℕ → ℤ
moved x v t w = cond (nat_eq w v) t (x w)

pub moved-here : (x : ℕ → ℤ) (v : ℕ) (t : ℤ) → moved x v t v ≡ t
unfolding moved
moved-here x v t = let e : nat_eq v v ≡ true = grind arith in rw e refl

pub moved-there : (x : ℕ → ℤ) (v : ℕ) (t : ℤ) (w : ℕ) → w ≢ v → moved x v t w ≡ x w
unfolding moved
moved-there x v t w h = let e : nat_eq w v ≡ false = grind arith in rw e refl

-- ---- sides of one variable and of others

pub side_plus : (x : ℕ → ℤ) (v : ℕ) → side_value x (2 * v) ≡ x v
side_plus x v = side_value-even x (2 * v) (omega arith) ∙ ap x (omega arith)

pub side_minus : (x : ℕ → ℤ) (v : ℕ) → side_value x (2 * v + 1) ≡ neg_ℤ (x v)
side_minus x v = side_value-odd x (2 * v + 1) (omega arith) ∙ ap (λ w. neg_ℤ (x w)) (omega arith)

pub even_or_odd : (k : ℕ) → (k % 2 ≡ 0) ⊎ (k % 2 ≡ 1)
even_or_odd k = grind arith

pub side_other : (x y : ℕ → ℤ) (k : ℕ) → x (k / 2) ≡ y (k / 2) → side_value x k ≡ side_value y k
side_other x y k e = elim (even_or_odd k) [
  | inl h ↦ side_value-even x k h ∙ e ∙ sym (side_value-even y k h)
  | inr h ↦ side_value-odd x k h ∙ ap neg_ℤ e ∙ sym (side_value-odd y k h)
]

-- which of the sides of v side k is
pub data Which (v k : ℕ) : Type 0 where
  plus : k ≡ 2 * v → Which v k
  minus : k ≡ 2 * v + 1 → Which v k
  other : k / 2 ≢ v → Which v k

pub which : (v k : ℕ) → Which v k
which v k = elim (cases_eq (k / 2) v) [
  | inl e ↦ elim (even_or_odd k) [ inl h ↦ plus (omega arith) | inr h ↦ minus (omega arith) ]
  | inr h ↦ other h
]

-- ---- a variable is set free

-- the greatest value of each side: of v from its new range, of others from the list
pub record FreeTops (n : ℕ) (xs : List ℤ) (v : ℕ) (low high : ℤ) (tops : ℕ → ℤ) : Type 0 where
  pub at_plus : tops (2 * v) ≡ high
  pub at_minus : tops (2 * v + 1) ≡ neg_ℤ low
  pub elsewhere : (k : ℕ) → k < 2 * n → k / 2 ≢ v → tops k ≡ top (bound xs) k

forgotten_le : (n : ℕ) (xs : List ℤ) (v : ℕ) (low high : ℤ) (tops : ℕ → ℤ) → FreeTops n xs v low high tops → (x : ℕ → ℤ) → Forgotten n xs v low high x → (k : ℕ) → k < 2 * n → side_value x k ≤ℤ tops k
forgotten_le n xs v low high tops f x p k hk =
    let below = p.value.below in
    let above = p.value.above in
    elim (which v k) [
      | plus e ↦ (let s = ap (side_value x) e ∙ side_plus x v in let t = ap tops e ∙ f.at_plus in omega (arith, ints))
      | minus e ↦ (let s = ap (side_value x) e ∙ side_minus x v in let t = ap tops e ∙ f.at_minus in omega (arith, ints))
      | other h ↦ (
          let s = side_other x p.was k (p.others (k / 2) h) in
          let t = f.elsewhere k hk h in
          let a = value_le_top n (bound xs) p.was (meets_of n xs p.was p.point) k hk in
          omega (arith, ints))
    ]

forgotten-moved : (n : ℕ) (xs : List ℤ) (v : ℕ) (low high : ℤ) (x : ℕ → ℤ) (t : ℤ) → IsPoint n xs x → Within low high t → Forgotten n xs v low high (moved x v t)
forgotten-moved n xs v low high x t p w = record {
  was = x;
  point = p;
  others = λ u h. moved-there x v t u h;
  value = subst (Within low high) (sym (moved-here x v t)) w;
}

-- a forgotten point at which side k, and any side of another variable, is at its greatest
record Highest (n : ℕ) (xs : List ℤ) (v : ℕ) (low high : ℤ) (tops : ℕ → ℤ) (k l : ℕ) : Type 0 where
  x : ℕ → ℤ
  is : Forgotten n xs v low high x
  first : side_value x k ≡ tops k
  second : side_value x l ≡ tops l

-- the value of v at which its side k is at its greatest
record Choice (v : ℕ) (low high : ℤ) (tops : ℕ → ℤ) (k : ℕ) : Type 0 where
  t : ℤ
  inside : Within low high t
  gives : (x : ℕ → ℤ) → side_value (moved x v t) k ≡ tops k

choice : (n : ℕ) (xs : List ℤ) (v : ℕ) (low high : ℤ) (tops : ℕ → ℤ) → FreeTops n xs v low high tops → low ≤ℤ high → (k : ℕ) → k / 2 ≡ v → Choice v low high tops k
choice n xs v low high tops f o k h = elim (which v k) [
  | plus e ↦ record {
    t = high;
    inside = record { above = o; below = omega (arith, ints) };
    gives = λ x. ap (side_value (moved x v high)) e ∙ side_plus (moved x v high) v ∙ moved-here x v high ∙ sym (ap tops e ∙ f.at_plus);
  }
  | minus e ↦ record {
    t = low;
    inside = record { above = omega (arith, ints); below = o };
    gives = λ x. ap (side_value (moved x v low)) e ∙ side_minus (moved x v low) v ∙ ap neg_ℤ (moved-here x v low) ∙ sym (ap tops e ∙ f.at_minus);
  }
  | other away ↦ absurd (away h)
]

highest : (n : ℕ) (xs : List ℤ) (v : ℕ) (low high : ℤ) (tops : ℕ → ℤ) → IsTight n xs → FreeTops n xs v low high tops → low ≤ℤ high → (k l : ℕ) → k / 2 ≡ v → l / 2 ≢ v → l < 2 * n → Highest n xs v low high tops k l
highest n xs v low high tops t f o k l hk hl l_in =
    let c = choice n xs v low high tops f o k hk in
    let p = peak n xs l t l_in in
    record {
      x = moved p.x v c.t;
      is = forgotten-moved n xs v low high p.x c.t p.point c.inside;
      first = c.gives p.x;
      second = side_other (moved p.x v c.t) p.x l (moved-there p.x v c.t (l / 2) hl) ∙ p.gives ∙ sym (f.elsewhere l l_in hl);
    }

loosened-same : (v : ℕ) (tops : ℕ → ℤ) (m : ℕ → ℕ → ℤ) (k : ℕ) → m k k ≡ pos 0 → loosened v tops m k k ≡ pos 0
loosened-same v tops m k h =
    let e : nat_eq k k ≡ true = grind arith in
    elim (cases_eq (k / 2) v) [
      | inl s ↦ (let a : nat_eq (k / 2) v ≡ true = grind arith in rw (a, e) refl)
      | inr s ↦ (let a : nat_eq (k / 2) v ≡ false = grind arith in rw a h)
    ]

loosened-left : (v : ℕ) (tops : ℕ → ℤ) (m : ℕ → ℕ → ℤ) (k l : ℕ) → k ≢ l → k / 2 ≡ v → loosened v tops m k l ≡ tops (opposite k) +ℤ tops l
loosened-left v tops m k l h s =
    let e : nat_eq k l ≡ false = grind arith in
    let a : nat_eq (k / 2) v ≡ true = grind arith in
    rw (a, e) refl

loosened-right : (v : ℕ) (tops : ℕ → ℤ) (m : ℕ → ℕ → ℤ) (k l : ℕ) → k ≢ l → k / 2 ≢ v → l / 2 ≡ v → loosened v tops m k l ≡ tops (opposite k) +ℤ tops l
loosened-right v tops m k l h r s =
    let e : nat_eq k l ≡ false = grind arith in
    let a : nat_eq (k / 2) v ≡ false = grind arith in
    let b : nat_eq (l / 2) v ≡ true = grind arith in
    rw (a, b, e) refl

loosened-none : (v : ℕ) (tops : ℕ → ℤ) (m : ℕ → ℕ → ℤ) (k l : ℕ) → k / 2 ≢ v → l / 2 ≢ v → loosened v tops m k l ≡ m k l
loosened-none v tops m k l r s =
    let a : nat_eq (k / 2) v ≡ false = grind arith in
    let b : nat_eq (l / 2) v ≡ false = grind arith in
    rw (a, b) refl

forget-holds : (n : ℕ) (xs : List ℤ) (v : ℕ) (low high : ℤ) (tops : ℕ → ℤ) → IsTight n xs → FreeTops n xs v low high tops
    → (x : ℕ → ℤ) → Forgotten n xs v low high x → (k l : ℕ) → k < 2 * n → l < 2 * n → (side_value x l -ℤ side_value x k) ≤ℤ loosened v tops (bound xs) k l
forget-holds n xs v low high tops t f x p k l hk hl =
    let a = forgotten_le n xs v low high tops f x p (opposite k) (opposite-lt n k hk) in
    let b = forgotten_le n xs v low high tops f x p l hl in
    let s = side_value-opposite x k in
    elim (cases_eq k l) [
      | inl e ↦ (
          let z = ap (loosened v tops (bound xs) k) (sym e) ∙ loosened-same v tops (bound xs) k ((table_of n xs t).same k hk) in
          let y = ap (side_value x) e in
          omega (arith, ints))
      | inr d ↦ elim (cases_eq (k / 2) v) [
        | inl free ↦ (let z = loosened-left v tops (bound xs) k l d free in omega (arith, ints))
        | inr r ↦ elim (cases_eq (l / 2) v) [
          | inl free ↦ (let z = loosened-right v tops (bound xs) k l d r free in omega (arith, ints))
          | inr q ↦ (
              let z = loosened-none v tops (bound xs) k l r q in
              let ek = side_other x p.was k (p.others (k / 2) r) in
              let el = side_other x p.was l (p.others (l / 2) q) in
              let w = (meets_of n xs p.was p.point).within k l hk hl in
              omega (arith, ints))
        ]
      ]
    ]

forget-attained : (n : ℕ) (xs : List ℤ) (v : ℕ) (low high : ℤ) (tops : ℕ → ℤ) → IsTight n xs → FreeTops n xs v low high tops → low ≤ℤ high
    → (k l : ℕ) → k < 2 * n → l < 2 * n → Attains (Forgotten n xs v low high) k l (loosened v tops (bound xs) k l)
forget-attained n xs v low high tops t f o k l hk hl =
    let low_in : Within low high low = record { above = omega (arith, ints); below = o } in
    elim (cases_eq k l) [
      | inl e ↦ record {
        x = moved t.point v low;
        is = forgotten-moved n xs v low high t.point low t.is_point low_in;
        gives =
            let z = ap (loosened v tops (bound xs) k) (sym e) ∙ loosened-same v tops (bound xs) k ((table_of n xs t).same k hk) in
            let y = ap (side_value (moved t.point v low)) e in
            omega (arith, ints);
      }
      | inr d ↦ elim (cases_eq (k / 2) v) [
        | inl free ↦ elim (cases_eq (l / 2) v) [
          | inl both ↦ (
              let c = choice n xs v low high tops f o l both in
              let same : l ≡ opposite k = omega arith in
              record {
                x = moved t.point v c.t;
                is = forgotten-moved n xs v low high t.point c.t t.is_point c.inside;
                gives =
                    let z = loosened-left v tops (bound xs) k l d free in
                    let g = c.gives t.point in
                    let s = side_value-opposite (moved t.point v c.t) k in
                    let y = ap (side_value (moved t.point v c.t)) same in
                    let w = ap tops same in
                    omega (arith, ints);
              })
          | inr q ↦ (
              let h = highest n xs v low high tops t f o (opposite k) l (omega arith) q hl in
              record {
                x = h.x;
                is = h.is;
                gives =
                    let z = loosened-left v tops (bound xs) k l d free in
                    let s = side_value-opposite h.x k in
                    let g1 = h.first in
                    let g2 = h.second in
                    omega (arith, ints);
              })
        ]
        | inr r ↦ elim (cases_eq (l / 2) v) [
          | inl free ↦ (
              let h = highest n xs v low high tops t f o l (opposite k) free (λ e. r (omega arith)) (opposite-lt n k hk) in
              record {
                x = h.x;
                is = h.is;
                gives =
                    let z = loosened-right v tops (bound xs) k l d r free in
                    let s = side_value-opposite h.x k in
                    let g1 = h.first in
                    let g2 = h.second in
                    omega (arith, ints);
              })
          | inr q ↦ (
              let a = attains_bound n (IsPoint n xs) xs t.attained k l hk hl in
              record {
                x = moved a.x v low;
                is = forgotten-moved n xs v low high a.x low a.is low_in;
                gives =
                    let z = loosened-none v tops (bound xs) k l r q in
                    let ek = side_other (moved a.x v low) a.x k (moved-there a.x v low (k / 2) r) in
                    let el = side_other (moved a.x v low) a.x l (moved-there a.x v low (l / 2) q) in
                    let g = a.gives in
                    omega (arith, ints);
              })
        ]
      ]
    ]

pub forget-least : (n : ℕ) (xs : List ℤ) (v : ℕ) (low high : ℤ) (tops : ℕ → ℤ) → IsTight n xs → FreeTops n xs v low high tops → low ≤ℤ high → LeastOctagon n (Forgotten n xs v low high) (table (2 * n) (loosened v tops (bound xs)))
forget-least n xs v low high tops t f o = record {
  some = moved t.point v low;
  some_is = forgotten-moved n xs v low high t.point low t.is_point (record { above = omega (arith, ints); below = o });
  holds = λ x p. record {
    meets = λ k l hk here.
        let a = forget-holds n xs v low high tops t f x p k l hk (column-lt n k l hk here) in
        let e = entry-table (2 * n) (loosened v tops (bound xs)) k l hk here in
        omega (arith, ints);
  };
  attained = λ k l hk here.
      let a = forget-attained n xs v low high tops t f o k l hk (column-lt n k l hk here) in
      record { x = a.x; is = a.is; gives = a.gives ∙ sym (entry-table (2 * n) (loosened v tops (bound xs)) k l hk here) };
}

-- ---- a variable gets a new value

-- the old value that side k is measured by: of v the one of side s, of another its own
pub source_plus : (v s : ℕ) → source_of v s (2 * v) ≡ s
source_plus v s = let e : nat_eq (2 * v) (2 * v) ≡ true = grind arith in rw e refl

pub source_minus : (v s : ℕ) → source_of v s (2 * v + 1) ≡ opposite s
source_minus v s =
    let e : nat_eq (2 * v + 1) (2 * v) ≡ false = grind arith in
    let f : nat_eq (2 * v + 1) (2 * v + 1) ≡ true = grind arith in
    rw (e, f) refl

pub source_other : (v s k : ℕ) → k / 2 ≢ v → source_of v s k ≡ k
source_other v s k h =
    let e : nat_eq k (2 * v) ≡ false = grind arith in
    let f : nat_eq k (2 * v + 1) ≡ false = grind arith in
    rw (e, f) refl

rise_plus : (v : ℕ) (low high : ℤ) → rise v low high (2 * v) ≡ high
rise_plus v low high = let e : nat_eq (2 * v) (2 * v) ≡ true = grind arith in rw e refl

rise_minus : (v : ℕ) (low high : ℤ) → rise v low high (2 * v + 1) ≡ neg_ℤ low
rise_minus v low high =
    let e : nat_eq (2 * v + 1) (2 * v) ≡ false = grind arith in
    let f : nat_eq (2 * v + 1) (2 * v + 1) ≡ true = grind arith in
    rw (e, f) refl

rise_other : (v : ℕ) (low high : ℤ) (k : ℕ) → k / 2 ≢ v → rise v low high k ≡ pos 0
rise_other v low high k h =
    let e : nat_eq k (2 * v) ≡ false = grind arith in
    let f : nat_eq k (2 * v + 1) ≡ false = grind arith in
    rw (e, f) refl

pub source-lt : (n v s k : ℕ) → s < 2 * n → k < 2 * n → source_of v s k < 2 * n
source-lt n v s k hs hk = elim (which v k) [
  | plus e ↦ subst (λ j. source_of v s j < 2 * n) (sym e) (subst (λ j. j < 2 * n) (sym (source_plus v s)) hs)
  | minus e ↦ subst (λ j. source_of v s j < 2 * n) (sym e) (subst (λ j. j < 2 * n) (sym (source_minus v s)) (opposite-lt n s hs))
  | other h ↦ subst (λ j. j < 2 * n) (sym (source_other v s k h)) hk
]

source-opposite : (v s k : ℕ) → source_of v s (opposite k) ≡ opposite (source_of v s k)
source-opposite v s k = elim (which v k) [
  | plus e ↦ (
      let a : opposite k ≡ 2 * v + 1 = omega arith in
      ap (source_of v s) a ∙ source_minus v s ∙ ap opposite (sym (ap (source_of v s) e ∙ source_plus v s)))
  | minus e ↦ (
      let a : opposite k ≡ 2 * v = omega arith in
      ap (source_of v s) a ∙ source_plus v s ∙ sym (opposite-opposite s) ∙ ap opposite (sym (ap (source_of v s) e ∙ source_minus v s)))
  | other h ↦ (
      let a : opposite k / 2 ≢ v = (λ e. h (omega arith)) in
      source_other v s (opposite k) a ∙ ap opposite (sym (source_other v s k h)))
]

-- how side k of a new point differs from the old one
record Rises (v s : ℕ) (low high : ℤ) (was x : ℕ → ℤ) (more : ℤ) (k : ℕ) : Type 0 where
  below : side_value x k ≤ℤ (side_value was (source_of v s k) +ℤ rise v low high k)
  at_high : (k ≡ 2 * v) → more ≡ high → side_value x k ≡ side_value was (source_of v s k) +ℤ rise v low high k
  at_low : (k ≡ 2 * v + 1) → more ≡ low → side_value x k ≡ side_value was (source_of v s k) +ℤ rise v low high k
  else_same : (k / 2 ≢ v) → side_value x k ≡ side_value was (source_of v s k) +ℤ rise v low high k

rises : (n : ℕ) (xs : List ℤ) (v s : ℕ) (low high : ℤ) (x : ℕ → ℤ) (p : Assigned n xs v s low high x) (k : ℕ) → Rises v s low high p.was x p.more k
rises n xs v s low high x p k =
    let value = p.value in
    let below = p.more_in.below in
    let above = p.more_in.above in
    let on_plus = λ (e : k ≡ 2 * v).
    let a : (side_value x k ≡ x v) × (source_of v s k ≡ s) × (rise v low high k ≡ high) = (ap (side_value x) e ∙ side_plus x v, ap (source_of v s) e ∙ source_plus v s, ap (rise v low high) e ∙ rise_plus v low high) in a in
    let on_minus = λ (e : k ≡ 2 * v + 1).
    let a : (side_value x k ≡ neg_ℤ (x v)) × (side_value p.was (source_of v s k) ≡ neg_ℤ (side_value p.was s)) × (rise v low high k ≡ neg_ℤ low) = (ap (side_value x) e ∙ side_minus x v, ap (side_value p.was) (ap (source_of v s) e ∙ source_minus v s) ∙ side_value-opposite p.was s, ap (rise v low high) e ∙ rise_minus v low high) in a in
    let elsewhere = λ (h : k / 2 ≢ v).
    let a : (side_value x k ≡ side_value p.was (source_of v s k)) × (rise v low high k ≡ pos 0) = (side_other x p.was k (p.others (k / 2) h) ∙ ap (side_value p.was) (sym (source_other v s k h)), rise_other v low high k h) in a in
    record {
      below = elim (which v k) [
        | plus e ↦ (let a = (on_plus e).0 in let b = ap (side_value p.was) (on_plus e).1 in let d = (on_plus e).2 in omega (arith, ints))
        | minus e ↦ (let a = (on_minus e).0 in let b = (on_minus e).1 in let d = (on_minus e).2 in omega (arith, ints))
        | other h ↦ (let a = (elsewhere h).0 in let b = (elsewhere h).1 in omega (arith, ints))
      ];
      at_high = λ e m. let a = (on_plus e).0 in let b = ap (side_value p.was) (on_plus e).1 in let d = (on_plus e).2 in omega (arith, ints);
      at_low = λ e m. let a = (on_minus e).0 in let b = (on_minus e).1 in let d = (on_minus e).2 in omega (arith, ints);
      else_same = λ h. let a = (elsewhere h).0 in let b = (elsewhere h).1 in omega (arith, ints);
    }

assigned-moved : (n : ℕ) (xs : List ℤ) (v s : ℕ) (low high : ℤ) (x : ℕ → ℤ) (more : ℤ) → IsPoint n xs x → Within low high more → Assigned n xs v s low high (moved x v (side_value x s +ℤ more))
assigned-moved n xs v s low high x more p w = record {
  was = x;
  point = p;
  others = λ u h. moved-there x v (side_value x s +ℤ more) u h;
  more = more;
  more_in = w;
  value = moved-here x v (side_value x s +ℤ more);
}

assigned-same : (v s : ℕ) (low high : ℤ) (m : ℕ → ℕ → ℤ) (k l : ℕ) → k ≡ l → assigned v s low high m k l ≡ pos 0
assigned-same v s low high m k l h = let e : nat_eq k l ≡ true = grind arith in rw e refl

assigned-apart : (v s : ℕ) (low high : ℤ) (m : ℕ → ℕ → ℤ) (k l : ℕ) → k ≢ l → assigned v s low high m k l ≡ m (source_of v s k) (source_of v s l) +ℤ (rise v low high (opposite k) +ℤ rise v low high l)
assigned-apart v s low high m k l h = let e : nat_eq k l ≡ false = grind arith in rw e refl

assign-holds : (n : ℕ) (xs : List ℤ) (v s : ℕ) (low high : ℤ) → s < 2 * n → (x : ℕ → ℤ) → Assigned n xs v s low high x → (k l : ℕ) → k < 2 * n → l < 2 * n → (side_value x l -ℤ side_value x k) ≤ℤ assigned v s low high (bound xs) k l
assign-holds n xs v s low high hs x p k l hk hl = elim (cases_eq k l) [
  | inl e ↦ (let z = assigned-same v s low high (bound xs) k l e in let y = ap (side_value x) e in omega (arith, ints))
  | inr d ↦ (
      let z = assigned-apart v s low high (bound xs) k l d in
      let a = (rises n xs v s low high x p l).below in
      let b = (rises n xs v s low high x p (opposite k)).below in
      let sk = side_value-opposite x k in
      let so = ap (side_value p.was) (source-opposite v s k) ∙ side_value-opposite p.was (source_of v s k) in
      let w = (meets_of n xs p.was p.point).within (source_of v s k) (source_of v s l) (source-lt n v s k hs hk) (source-lt n v s l hs hl) in
      omega (arith, ints))
]

-- the number at which the sides l and -k of v, if they are sides of v, rise the most
record More (v : ℕ) (low high : ℤ) (k l : ℕ) : Type 0 where
  more : ℤ
  inside : Within low high more
  left : (opposite k / 2 ≢ v) ⊎ (((opposite k ≡ 2 * v) × (more ≡ high)) ⊎ ((opposite k ≡ 2 * v + 1) × (more ≡ low)))
  right : (l / 2 ≢ v) ⊎ (((l ≡ 2 * v) × (more ≡ high)) ⊎ ((l ≡ 2 * v + 1) × (more ≡ low)))

more_of : (v : ℕ) (low high : ℤ) (k l : ℕ) → low ≤ℤ high → k ≢ l → More v low high k l
more_of v low high k l o d =
    let high_in : Within low high high = record { above = o; below = omega (arith, ints) } in
    let low_in : Within low high low = record { above = omega (arith, ints); below = o } in
    elim (which v l) [
      | plus e ↦ record {
        more = high;
        inside = high_in;
        left = elim (which v k) [ plus h ↦ absurd (d (omega arith)) | minus h ↦ inr (inl (omega arith, refl)) | other h ↦ inl (λ q. h (omega arith)) ];
        right = inr (inl (e, refl));
      }
      | minus e ↦ record {
        more = low;
        inside = low_in;
        left = elim (which v k) [ plus h ↦ inr (inr (omega arith, refl)) | minus h ↦ absurd (d (omega arith)) | other h ↦ inl (λ q. h (omega arith)) ];
        right = inr (inr (e, refl));
      }
      | other e ↦ elim (which v k) [
        | plus h ↦ record { more = low; inside = low_in; left = inr (inr (omega arith, refl)); right = inl e }
        | minus h ↦ record { more = high; inside = high_in; left = inr (inl (omega arith, refl)); right = inl e }
        | other h ↦ record { more = low; inside = low_in; left = inl (λ q. h (omega arith)); right = inl e }
      ]
    ]

rises_most : (v s : ℕ) (low high : ℤ) (was x : ℕ → ℤ) (more : ℤ) (k : ℕ) → Rises v s low high was x more k
    → (k / 2 ≢ v) ⊎ (((k ≡ 2 * v) × (more ≡ high)) ⊎ ((k ≡ 2 * v + 1) × (more ≡ low))) → side_value x k ≡ side_value was (source_of v s k) +ℤ rise v low high k
rises_most v s low high was x more k r (inl h) = r.else_same h
rises_most v s low high was x more k r (inr (inl h)) = r.at_high h.0 h.1
rises_most v s low high was x more k r (inr (inr h)) = r.at_low h.0 h.1

assign-attained : (n : ℕ) (xs : List ℤ) (v s : ℕ) (low high : ℤ) → IsTight n xs → s < 2 * n → low ≤ℤ high → (k l : ℕ) → k < 2 * n → l < 2 * n → Attains (Assigned n xs v s low high) k l (assigned v s low high (bound xs) k l)
unfolding assigned-moved more_of
assign-attained n xs v s low high t hs o k l hk hl = elim (cases_eq k l) [
  | inl e ↦ (
      let low_in : Within low high low = record { above = omega (arith, ints); below = o } in
      let x = moved t.point v (side_value t.point s +ℤ low) in
      record {
        x = x;
        is = assigned-moved n xs v s low high t.point low t.is_point low_in;
        gives = let z = assigned-same v s low high (bound xs) k l e in let y = ap (side_value x) e in omega (arith, ints);
      })
  | inr d ↦ (
      let a = attains_bound n (IsPoint n xs) xs t.attained (source_of v s k) (source_of v s l) (source-lt n v s k hs hk) (source-lt n v s l hs hl) in
      let c = more_of v low high k l o d in
      let x = moved a.x v (side_value a.x s +ℤ c.more) in
      let p = assigned-moved n xs v s low high a.x c.more a.is c.inside in
      record {
        x = x;
        is = p;
        gives =
            let z = assigned-apart v s low high (bound xs) k l d in
            let b = rises_most v s low high a.x x c.more l (rises n xs v s low high x p l) c.right in
            let e = rises_most v s low high a.x x c.more (opposite k) (rises n xs v s low high x p (opposite k)) c.left in
            let sk = side_value-opposite x k in
            let so = ap (side_value a.x) (source-opposite v s k) ∙ side_value-opposite a.x (source_of v s k) in
            let g = a.gives in
            omega (arith, ints);
      })
]

pub assign-least : (n : ℕ) (xs : List ℤ) (v s : ℕ) (low high : ℤ) → IsTight n xs → s < 2 * n → low ≤ℤ high → LeastOctagon n (Assigned n xs v s low high) (table (2 * n) (assigned v s low high (bound xs)))
assign-least n xs v s low high t hs o = record {
  some = moved t.point v (side_value t.point s +ℤ low);
  some_is = assigned-moved n xs v s low high t.point low t.is_point (record { above = omega (arith, ints); below = o });
  holds = λ x p. record {
    meets = λ k l hk here.
        let a = assign-holds n xs v s low high hs x p k l hk (column-lt n k l hk here) in
        let e = entry-table (2 * n) (assigned v s low high (bound xs)) k l hk here in
        omega (arith, ints);
  };
  attained = λ k l hk here.
      let a = assign-attained n xs v s low high t hs o k l hk (column-lt n k l hk here) in
      record { x = a.x; is = a.is; gives = a.gives ∙ sym (entry-table (2 * n) (assigned v s low high (bound xs)) k l hk here) };
}
