-- Counters that grow: whole steps, sticking, and the cases of both.
use Rattle.std.proofs.Common.{◌≡◌, ◌⊎◌, inl, inr, ℕ, ℤ, pos, ◌+ℤ◌, ◌-ℤ◌, ◌<ℤ◌, ◌≤ℤ◌, List, [], ◌∷◌, false, refl, sym, ◌∙◌, subst, arith}
use Rattle.std.specs.Prelude.{◌↔◌}
use Rattle.std.specs.Int.{int_min}
use Rattle.std.proofs.lemmas.Int.{ints}
use Rattle.wm_numbers.proofs.Order.{min_cases}
use Rattle.wm_interval.specs.declared.Interval.{Interval}
use Rattle.wm_interval.specs.Holds.{Holds, IsHullOf}
use Rattle.wm_domain.specs.declared.shape.Shape.{Shape}
use Rattle.wm_domain.specs.declared.form.Form.{Form}
use Rattle.wm_domain.specs.Points.{Point, SameBut}
use Rattle.wm_domain.specs.States.{InShape, Keeps}
use Rattle.wm_domain.specs.Forms.{form_value}
use Rattle.wm_domain.specs.Changes.{Assigned, Freed, IsValueOf, InEither}
use Rattle.wm_tested.specs.Likes.{variable_form, Below, Above}
use Rattle.wm_flow.specs.declared.action.Growth.{Growth}
use Rattle.wm_turned.specs.Turning.{most, grown, Grown, Whole, Stuck, AllGrown}

under_room : (x high : ℤ) (n : ℕ) → high ≡ most -ℤ pos n → (x +ℤ pos n) ≤ℤ most → ((x +ℤ pos 0) +ℤ pos 0) ≤ℤ high
under_room x high n e h = omega (arith, ints)

over_brim : (x low : ℤ) (n : ℕ) → low ≡ pos 2147483648 -ℤ pos n → most <ℤ (x +ℤ pos n) → low ≤ℤ ((x +ℤ pos 0) +ℤ pos 0)
over_brim x low n e h = omega (arith, ints)

one_more : (z x step : ℤ) (n : ℕ) → step ≡ pos n → z ≡ x +ℤ pos n → z ≡ (x +ℤ pos 0) +ℤ step
one_more z x step n e h = omega (arith, ints)

in_most : (m : Interval) (z : ℤ) → m.low ≡ most → m.high ≡ most → z ≡ most → Holds m z
in_most m z e f h = record { above = omega (arith, ints, e, h); below = omega (arith, ints, f, h) }

module _ {S : Type 0} (Holds_of : S → Point → Type 0) (shape_of : S → Shape) (middle state : S) (Has : Point → Type 0) (it : Growth) where
  pub keeps_whole : (f g : Form) (high step : ℤ) → ((x : Point) → Has x → InShape (shape_of middle) x) → f ≡ variable_form it.variable false (pos 0) → high ≡ most -ℤ pos it.step → g ≡ variable_form it.variable false step → step ≡ pos it.step
      → Keeps Holds_of shape_of middle (Below Has f high) → Keeps Holds_of shape_of state (Assigned (Holds_of middle) it.variable g) → Keeps Holds_of shape_of state (Whole Has it)
  keeps_whole f g high step inside ef eh eg es km ks = record {
    kept = λ p i h. ks.kept p i (record {
      was = h.was;
      point = km.kept h.was (inside h.was h.point) (subst (λ (x : Form). Below Has x high h.was) (sym ef) (record { point = h.point; below = under_room (h.was.values it.variable) high it.step eh h.fits }));
      others = h.others;
      value = subst (λ (x : Form). p.values it.variable ≡ form_value h.was.values x) (sym eg) (one_more (p.values it.variable) (h.was.values it.variable) step it.step es h.value);
    });
  }

  pub keeps_stuck : (f : Form) (low : ℤ) (m : Interval) → ((x : Point) → Has x → InShape (shape_of middle) x) → f ≡ variable_form it.variable false (pos 0) → low ≡ pos 2147483648 -ℤ pos it.step → m.low ≡ most → m.high ≡ most
      → Keeps Holds_of shape_of middle (Above Has f low) → Keeps Holds_of shape_of state (Freed (Holds_of middle) it.variable m) → Keeps Holds_of shape_of state (Stuck Has it)
  keeps_stuck f low m inside ef el em en km ks = record {
    kept = λ p i h. ks.kept p i (record {
      was = h.was;
      point = km.kept h.was (inside h.was h.point) (subst (λ (x : Form). Above Has x low h.was) (sym ef) (record { point = h.point; above = over_brim (h.was.values it.variable) low it.step el h.past }));
      others = h.others;
      value = in_most m (p.values it.variable) em en h.value;
    });
  }

no_room : (x r high : ℤ) (n : ℕ) → high ≡ most -ℤ pos n → r ≤ℤ high → x ≤ℤ r → (x +ℤ pos n) ≤ℤ most
no_room x r high n e h k = omega (arith, ints)

pub never_sticks : (Has : Point → Type 0) (v n : ℕ) (r : Interval) (high : ℤ) → IsHullOf (IsValueOf Has v) r → high ≡ most -ℤ pos n → r.high ≤ℤ high → (p : Point) → Has p → (p.values v +ℤ pos n) ≤ℤ most
never_sticks Has v n r high hull e h p i = no_room (p.values v) r.high high n e h (hull.high_is.greatest (p.values v) (record { x = p; is = i; gives = refl }))

-- ---- all counters

pub all_more : (shape : Shape) (P Q : Point → Type 0) → ((q : Point) → P q → Q q) → (gs : List Growth) (p : Point) → AllGrown shape P gs p → AllGrown shape Q gs p
all_more shape P Q to [] p h = to p h
all_more shape P Q to (g ∷ rest) p h = all_more shape (Grown shape P g) (Grown shape Q g) (λ q k. record { was = k.was; point = to k.was k.point; others = k.others; value = k.value; inside = k.inside }) rest p h

pub all_either : (shape : Shape) (P Q : Point → Type 0) (gs : List Growth) (p : Point) → AllGrown shape (λ q. P q ⊎ Q q) gs p → AllGrown shape P gs p ⊎ AllGrown shape Q gs p
all_either shape P Q [] p h = h
all_either shape P Q (g ∷ rest) p h =
    all_either shape (Grown shape P g) (Grown shape Q g) rest p
    (all_more shape (Grown shape (λ (q : Point). P q ⊎ Q q) g) (λ (q : Point). Grown shape P g q ⊎ Grown shape Q g q) split rest p h)
  where
    split : (q : Point) → Grown shape (λ (q : Point). P q ⊎ Q q) g q → Grown shape P g q ⊎ Grown shape Q g q
    split q k = elim k.point [
      | inl a ↦ inl (record { was = k.was; point = a; others = k.others; value = k.value; inside = k.inside })
      | inr b ↦ inr (record { was = k.was; point = b; others = k.others; value = k.value; inside = k.inside })
    ]

least_whole : (x : ℤ) → x ≤ℤ most → int_min most x ≡ x
least_whole x h = elim (min_cases most x) [
  | inl e ↦ omega (arith, ints, e.0, e.1)
  | inr e ↦ omega (arith, ints, e.0, e.1)
]

pub whole_of : (shape : Shape) (Has : Point → Type 0) (g : Growth) (q : Point) (k : Grown shape Has g q) → (k.was.values g.variable +ℤ pos g.step) ≤ℤ most → Whole Has g q
whole_of shape Has g q k h = record { was = k.was; point = k.point; others = k.others; fits = h; value = k.value ∙ least_whole (k.was.values g.variable +ℤ pos g.step) h }

stuck_least : (x : ℤ) → most <ℤ x → int_min most x ≡ most
stuck_least x h = elim (min_cases most x) [
  | inl e ↦ omega (arith, ints, e.0, e.1)
  | inr e ↦ omega (arith, ints, e.0, e.1)
]

pub stuck_of : (shape : Shape) (Has : Point → Type 0) (g : Growth) (q : Point) (k : Grown shape Has g q) → most <ℤ (k.was.values g.variable +ℤ pos g.step) → Stuck Has g q
stuck_of shape Has g q k h = record { was = k.was; point = k.point; others = k.others; past = h; value = k.value ∙ stuck_least (k.was.values g.variable +ℤ pos g.step) h }

sides : (x : ℤ) → (x ≤ℤ most) ⊎ (most <ℤ x)
sides x = grind (arith, ints)

-- the cases of one counter
pub either_of : (shape : Shape) (Has : Point → Type 0) (g : Growth) (q : Point) → Grown shape Has g q → Whole Has g q ⊎ Stuck Has g q
either_of shape Has g q k = elim (sides (k.was.values g.variable +ℤ pos g.step)) [
  | inl h ↦ inl (whole_of shape Has g q k h)
  | inr h ↦ inr (stuck_of shape Has g q k h)
]

pub grown_whole : (shape : Shape) (Has : Point → Type 0) (g : Growth) (q : Point) → InShape shape q → Whole Has g q → Grown shape Has g q
grown_whole shape Has g q i h = record { was = h.was; point = h.point; others = h.others; value = h.value ∙ sym (least_whole (h.was.values g.variable +ℤ pos g.step) h.fits); inside = i }

pub grown_stuck : (shape : Shape) (Has : Point → Type 0) (g : Growth) (q : Point) → InShape shape q → Stuck Has g q → Grown shape Has g q
grown_stuck shape Has g q i h = record { was = h.was; point = h.point; others = h.others; value = h.value ∙ sym (stuck_least (h.was.values g.variable +ℤ pos g.step) h.past); inside = i }

-- ---- the state behind one counter, and behind the rest

module _ {S : Type 0} (Holds_of : S → Point → Type 0) (shape_of : S → Shape) (shape : Shape) (Has : Point → Type 0) (it : Growth) (rest gs : List Growth) where
  abbrev pub Behind : S → S → Type 0
  Behind moved all = (p : Point) → InShape (shape_of moved) p → AllGrown (shape_of moved) (Holds_of moved) rest p → Holds_of all p

  whole_in : (copy moved : S) → shape_of moved ≡ shape → ((p : Point) → Holds_of copy p ↔ Has p) → Keeps Holds_of shape_of moved (Whole (Holds_of copy) it) → (q : Point) → InShape shape q → Whole Has it q → Holds_of moved q
  whole_in copy moved e same k q i h = k.kept q (subst (λ (x : Shape). InShape x q) (sym e) i) (record { was = h.was; point = (same h.was).1 h.point; others = h.others; fits = h.fits; value = h.value })

  stuck_in : (copy held : S) → shape_of held ≡ shape → ((p : Point) → Holds_of copy p ↔ Has p) → Keeps Holds_of shape_of held (Stuck (Holds_of copy) it) → (q : Point) → InShape shape q → Stuck Has it q → Holds_of held q
  stuck_in copy held e same k q i h = k.kept q (subst (λ (x : Shape). InShape x q) (sym e) i) (record { was = h.was; point = (same h.was).1 h.point; others = h.others; past = h.past; value = h.value })

  behind : (moved all : S) → shape_of moved ≡ shape → Behind moved all → (p : Point) → InShape shape p → AllGrown shape (Holds_of moved) rest p → Holds_of all p
  behind moved all e h p i a = h p (subst (λ (x : Shape). InShape x p) (sym e) i) (subst (λ (x : Shape). AllGrown x (Holds_of moved) rest p) (sym e) a)

  -- no point sticks
  pub turn_whole : (copy moved all : S) → gs ≡ it ∷ rest → shape_of moved ≡ shape → ((p : Point) → Holds_of copy p ↔ Has p) → Keeps Holds_of shape_of moved (Whole (Holds_of copy) it) → ((p : Point) → Has p → (p.values it.variable +ℤ pos it.step) ≤ℤ most)
      → Behind moved all → (p : Point) → InShape shape p → AllGrown shape Has gs p → Holds_of all p
  turn_whole copy moved all eg e same k never h p i a =
      behind moved all e h p i
      (all_more shape (Grown shape Has it) (Holds_of moved) (λ q g. whole_in copy moved e same k q g.inside (whole_of shape Has it q g (never g.was g.point))) rest p
      (subst (λ (xs : List Growth). AllGrown shape Has xs p) eg a))

  -- the cases of a counter that may stick
  pub turn_both : (copy moved all copy2 held others joined : S) → gs ≡ it ∷ rest → shape_of moved ≡ shape → shape_of held ≡ shape → shape_of joined ≡ shape → ((p : Point) → Holds_of copy p ↔ Has p) → ((p : Point) → Holds_of copy2 p ↔ Has p)
      → Keeps Holds_of shape_of moved (Whole (Holds_of copy) it) → Keeps Holds_of shape_of held (Stuck (Holds_of copy2) it) → Behind moved all → Behind held others → Keeps Holds_of shape_of joined (InEither (Holds_of all) (Holds_of others))
      → (p : Point) → InShape shape p → AllGrown shape Has gs p → Holds_of joined p
  turn_both copy moved all copy2 held others joined eg em eh ej same same2 km kh hm hh kj p i a =
      kj.kept p (subst (λ (x : Shape). InShape x p) (sym ej) i)
      (elim (all_either shape (Holds_of moved) (Holds_of held) rest p
      (all_more shape (Grown shape Has it) (λ (q : Point). Holds_of moved q ⊎ Holds_of held q) cases rest p (subst (λ (xs : List Growth). AllGrown shape Has xs p) eg a))) [
        | inl h ↦ inl (behind moved all em hm p i h)
        | inr h ↦ inr (behind held others eh hh p i h)
      ])
    where
      cases : (q : Point) → Grown shape Has it q → Holds_of moved q ⊎ Holds_of held q
      cases q g = elim (either_of shape Has it q g) [
        | inl h ↦ inl (whole_in copy moved em same km q g.inside h)
        | inr h ↦ inr (stuck_in copy2 held eh same2 kh q g.inside h)
      ]
