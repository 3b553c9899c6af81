-- Operands of 32 bits, and results over their boxes.
use Rattle.std.proofs.Common.{◌≡◌, ℕ, ℤ, pos, negsuc, ◌≤ℤ◌, ◌^◌, ◌<◌, ◌≤◌, unsigned_abs, Option, Some, None, refl, sym, subst, arith}
use Rattle.std.specs.Prelude.{◌↔◌, MatchOption}
use Rattle.std.proofs.lemmas.Int.{ints}
use Rattle.wm_numbers.specs.Within.{Within, IsWord32}
use Rattle.wm_numbers.specs.Extremes.{ResultOf2}
use Rattle.wm_numbers.proofs.Order.{le_trans, le_refl}
use Rattle.wm_interval.specs.declared.Interval.{Interval}
use Rattle.wm_interval.specs.Holds.{Holds, IsHullOf, ResultOn, InBoth, SizesAtMost, SizesBelow}
use Rattle.wm_domain.specs.declared.form.Form.{Form}
use Rattle.wm_domain.specs.Points.{Point}
use Rattle.wm_domain.specs.States.{IsSized}
use Rattle.wm_assign.specs.Giving.{InRange}
use Rattle.wm_given.specs.Parts.{IsCut}
use Rattle.wm_plain.specs.Results.{InWord32, InResults, HoldsOperand, IsOperand}

word_in : (all : Interval) (z : ℤ) → all.low ≡ negsuc 2147483647 → all.high ≡ pos 2147483647 → IsWord32 z → Holds all z
word_in all z el eh h = record { above = omega (arith, ints, el, h.above); below = omega (arith, ints, eh, h.below) }

in_word : (all : Interval) (z : ℤ) → all.low ≡ negsuc 2147483647 → all.high ≡ pos 2147483647 → Holds all z → IsWord32 z
in_word all z el eh h = record { above = omega (arith, ints, el, h.above); below = omega (arith, ints, eh, h.below) }

most_size : (z : ℤ) → IsWord32 z → unsigned_abs z ≤ 2 ^ 31
most_size z h = omega (arith, ints, h.above, h.below)

below_size : (z : ℤ) → IsWord32 z → unsigned_abs z < 2 ^ 62
below_size z h = omega (arith, ints, h.above, h.below)

small_size : (z : ℤ) → IsWord32 z → unsigned_abs z < 2 ^ 50
small_size z h = omega (arith, ints, h.above, h.below)

low_held : (r : Interval) → Holds r r.low
low_held r = record { above = le_refl r.low; below = r.ordered }

high_held : (r : Interval) → Holds r r.high
high_held r = record { above = r.ordered; below = le_refl r.high }

pub operand_of : (Has : Point → Type 0) (f : Form) (all : Interval) (o : Option Interval) → all.low ≡ negsuc 2147483647 → all.high ≡ pos 2147483647 → IsCut Has f all o → IsOperand Has f o
operand_of Has f all None el eh cut = λ z i. cut z i.0 (word_in all z el eh i.1)
operand_of Has f all (Some r) el eh cut =
    let low : IsWord32 r.low = in_word all r.low el eh ((cut r.low).0 (low_held r)).1 in
    let high : IsWord32 r.high = in_word all r.high el eh ((cut r.high).0 (high_held r)).1 in
    record {
      sizes = record { low_size = most_size r.low low; high_size = most_size r.high high };
      below = record { low_size = below_size r.low low; high_size = below_size r.high high };
      all = λ z i. (cut z).1 (i.0, word_in all z el eh i.1);
      only = λ z h. let b = (cut z).0 h in (b.0, in_word all z el eh b.1);
    }

pub none_kept : (results all : Interval) (z : ℤ) → all.low ≡ negsuc 2147483647 → all.high ≡ pos 2147483647 → ((z : ℤ) → InBoth results all z → ⊥) → Holds results z → IsWord32 z → ⊥
none_kept results all z el eh bare h w = bare z (h, word_in all z el eh w)

pub some_kept : (results all r : Interval) (z : ℤ) → all.low ≡ negsuc 2147483647 → all.high ≡ pos 2147483647 → ((z : ℤ) → Holds r z ↔ InBoth results all z) → Holds results z → IsWord32 z → Holds r z
some_kept results all r z el eh each h w = (each z).1 (h, word_in all z el eh w)

pub only_kept : (results all r : Interval) (z : ℤ) → all.low ≡ negsuc 2147483647 → all.high ≡ pos 2147483647 → ((z : ℤ) → Holds r z ↔ InBoth results all z) → Holds r z → Holds results z × IsWord32 z
only_kept results all r z el eh each h = let b = (each z).0 h in (b.0, in_word all z el eh b.1)

pub kept_sized : (results all r : Interval) → all.low ≡ negsuc 2147483647 → all.high ≡ pos 2147483647 → ((z : ℤ) → Holds r z ↔ InBoth results all z) → IsSized r
kept_sized results all r el eh each = record {
  low_size = small_size r.low (in_word all r.low el eh ((each r.low).0 (low_held r)).1);
  high_size = small_size r.high (in_word all r.high el eh ((each r.high).0 (high_held r)).1);
}

pub in_results : (Has : Point → Type 0) (operation : ℤ → ℤ → ℤ) (f g : Form) (x y r : Interval) → HoldsOperand Has f x → HoldsOperand Has g y → IsHullOf (ResultOn operation x y) r → (z : ℤ) → InResults Has operation f g z → Holds r z
in_results Has operation f g x y r hx hy hull z i = record {
  above = le_trans (hull.low_is.least (operation i.a i.b) (record { x = i.a; y = i.b; x_in = hx.all i.a i.a_in; y_in = hy.all i.b i.b_in; gives = refl })) i.above;
  below = le_trans i.below (hull.high_is.greatest (operation i.c i.d) (record { x = i.c; y = i.d; x_in = hx.all i.c i.c_in; y_in = hy.all i.d i.d_in; gives = refl }));
}

pub made_results : (Has : Point → Type 0) (operation : ℤ → ℤ → ℤ) (f g : Form) (x y r : Interval) → HoldsOperand Has f x → HoldsOperand Has g y → IsHullOf (ResultOn operation x y) r → (z : ℤ) → Holds r z × IsWord32 z → InResults Has operation f g z
made_results Has operation f g x y r hx hy hull z k =
    let low = hull.low_is.attained in
    let high = hull.high_is.attained in
    record {
      a = low.x;
      b = low.y;
      c = high.x;
      d = high.y;
      a_in = hx.only low.x low.x_in;
      b_in = hy.only low.y low.y_in;
      c_in = hx.only high.x high.x_in;
      d_in = hy.only high.y high.y_in;
      above = subst (λ (w : ℤ). w ≤ℤ z) (sym low.gives) k.0.above;
      below = subst (λ (w : ℤ). z ≤ℤ w) (sym high.gives) k.0.below;
      fits = k.1;
    }
