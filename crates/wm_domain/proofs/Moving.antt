-- Points that differ in one variable, and the values of terms there.
use Rattle.std.proofs.Common.{◌≡◌, ◌≢◌, ◌⊎◌, inl, inr, ℕ, ◌<◌, ℤ, pos, neg_ℤ, ◌≤ℤ◌, ◌+ℤ◌, Bool, true, false, cond, nat_eq, refl, sym, ◌∙◌, ap, subst, arith}
use Rattle.std.proofs.lemmas.Int.{ints}
use Rattle.std.proofs.lemmas.Bool.{cases_eq}
use Rattle.wm_domain.specs.declared.form.Term.{Term}
use Rattle.wm_domain.specs.Points.{Point, SameBut}
use Rattle.wm_domain.specs.Forms.{signed, term_value}

pub moved : (ℕ → ℤ) → ℕ → ℤ → ℕ → ℤ
moved x v z w = cond (nat_eq w v) z (x w)

pub moved-here : (x : ℕ → ℤ) (v : ℕ) (z : ℤ) → moved x v z v ≡ z
unfolding moved
moved-here x v z = let e : nat_eq v v ≡ true = grind arith in rw e refl

pub moved-there : (x : ℕ → ℤ) (v : ℕ) (z : ℤ) (w : ℕ) → w ≢ v → moved x v z w ≡ x w
unfolding moved
moved-there x v z w h = let e : nat_eq w v ≡ false = grind arith in rw e refl

-- p with another number at variable v
abbrev pub with_value : Point → ℕ → ℤ → Point
with_value p v z = record p { values = moved p.values v z }

pub with_value-but : (p : Point) (v : ℕ) (z : ℤ) → SameBut v p (with_value p v z)
with_value-but p v z = record { numbers = λ w h. moved-there p.values v z w h; cells = λ a. refl }

pub same_but_all : (v : ℕ) (p : Point) → SameBut v p p
same_but_all v p = record { numbers = λ w h. refl; cells = λ a. refl }

-- r is like q, which is like p
pub but-but : (v : ℕ) (p q r : Point) → SameBut v p q → SameBut v p r → SameBut v q r
but-but v p q r s t = record { numbers = λ w h. t.numbers w h ∙ sym (s.numbers w h); cells = λ a. t.cells a ∙ sym (s.cells a) }

pub signed-signed : (b : Bool) (z : ℤ) → signed b (signed b z) ≡ z
signed-signed true z = omega (arith, ints)
signed-signed false z = refl

-- p where the term has the value z
abbrev pub with_term : Point → Term → ℤ → Point
with_term p t z = with_value p t.variable (signed t.negative z)

pub with_term-value : (p : Point) (t : Term) (z : ℤ) → term_value (with_term p t z).values t ≡ z
with_term-value p t z = ap (signed t.negative) (moved-here p.values t.variable (signed t.negative z)) ∙ signed-signed t.negative z

-- a term of another variable keeps its value
pub term-but : (v : ℕ) (p q : Point) (t : Term) → SameBut v p q → t.variable ≢ v → term_value q.values t ≡ term_value p.values t
term-but v p q t s h = ap (signed t.negative) (s.numbers t.variable h)

-- the order of the values of a term is that of its variable, or the reverse
pub signed-order : (b : Bool) (x y z : ℤ) → signed b x ≤ℤ signed b y → signed b y ≤ℤ signed b z → ((x ≤ℤ y) × (y ≤ℤ z)) ⊎ ((z ≤ℤ y) × (y ≤ℤ x))
signed-order true x y z h k = inr (omega (arith, ints), omega (arith, ints))
signed-order false x y z h k = inl (h, k)
