-- The value of a constant expression lies in 32 bits, and what it is called in where it needs no site.
use Rattle.std.proofs.Common.{◌≡◌, Bool, true, false, cond, Option, Some, None, ℤ, pos, negsuc, neg_ℤ, refl, subst, arith}
use Rattle.std.proofs.lemmas.Int.{ints}
use Rattle.std.specs.Prelude.{int_lt, int_div, ◌||◌, ◌+ℤ◌, ◌-ℤ◌, ◌*ℤ◌}
use Rattle.std.specs.Ordering.{int_eq}
use Rattle.wm_lang.specs.declared.expression.UnaryMark.{UnaryMark}
use Rattle.wm_lang.specs.declared.expression.UnaryMark.TheVariants as unary
use Rattle.wm_numbers.specs.Within.{IsWord16, IsWord32}
use Rattle.wm_ops.proofs.WidthLemmas.{low_half_fits}
use Rattle.wm_ops.specs.declared.operators.Width.{Width}
use Rattle.wm_ops.specs.declared.operators.Width.TheVariants.{W16, W32}
use Rattle.wm_source.specs.Constants.{value_of, value_on, within32, and_also, operated, signed, wrapped, width_of}
use Rattle.wm_source.specs.Source.{Mark, Either, Both, Equal, NotEqual, Less, LessEqual, Greater, GreaterEqual, Plus, Minus, Times, Divide, Disjunction, Conjunction, Comparisons, Sums, Products, Source, Chain, Unary, Cast, Number, Scalar, Element, Pointed, Member, Call, Parenthesis, AddressOf, AddressOfElement, AddressOfOther, Parts, End, Part}

pub none_some : {X : Type 0} (x : X) → ◌≡◌ {A = Option X} None (Some x) → ⊥
none_some x e = cc

record Kept (p q : Bool) (z y : ℤ) : Type 0 where
  left : p ≡ false
  right : q ≡ false
  same : z ≡ y

kept : (p q : Bool) (z y : ℤ) → cond (p || q) None (Some z) ≡ Some y → Kept p q z y
kept true q z y e = absurd (none_some y e)
kept false true z y e = absurd (none_some y e)
kept false false z y e = record { left = refl; right = refl; same = cc }

in_word : (z : ℤ) → int_lt z (negsuc 2147483647) ≡ false → int_lt (pos 2147483647) z ≡ false → IsWord32 z
in_word z a b = record { above = omega (arith, ints); below = omega (arith, ints) }

within_range : (z y : ℤ) → within32 z ≡ Some y → IsWord32 y
within_range z y e =
    let k = kept (int_lt z (negsuc 2147483647)) (int_lt (pos 2147483647) z) z y e in
    subst IsWord32 k.same (in_word z k.left k.right)

word_of_16 : (z : ℤ) → IsWord16 z → IsWord32 z
word_of_16 z w =
    let a = w.above in
    let b = w.below in
    record { above = omega (arith, ints); below = omega (arith, ints) }

wrapped_range : (width : Width) (z : ℤ) → IsWord32 z → IsWord32 (wrapped width z)
wrapped_range W16 z w = word_of_16 _ (low_half_fits z)
wrapped_range W32 z w = w

divide_range : (b : Bool) (z y : ℤ) → cond b None (within32 z) ≡ Some y → IsWord32 y
divide_range true z y e = absurd (none_some y e)
divide_range false z y e = within_range z y e

operated_range : (mark : Mark) (a b y : ℤ) → operated mark a b ≡ Some y → IsWord32 y
operated_range Plus a b y e = within_range (a +ℤ b) y e
operated_range Minus a b y e = within_range (a -ℤ b) y e
operated_range Times a b y e = within_range (a *ℤ b) y e
operated_range Divide a b y e = divide_range (int_eq b (pos 0)) (int_div a b) y e
operated_range Either a b y e = absurd (none_some y e)
operated_range Both a b y e = absurd (none_some y e)
operated_range Equal a b y e = absurd (none_some y e)
operated_range NotEqual a b y e = absurd (none_some y e)
operated_range Less a b y e = absurd (none_some y e)
operated_range LessEqual a b y e = absurd (none_some y e)
operated_range Greater a b y e = absurd (none_some y e)
operated_range GreaterEqual a b y e = absurd (none_some y e)

signed_range : (mark : UnaryMark) (z y : ℤ) → IsWord32 z → signed mark z ≡ Some y → IsWord32 y
signed_range unary.Minus z y w e = within_range (neg_ℤ z) y e
signed_range unary.Plus z y w e = let s : z ≡ y = cc in subst IsWord32 s w
signed_range unary.Not z y w e = absurd (none_some y e)

-- what stands first has a value, and what follows it one of this value
also : {P : Type 0} (o : Option ℤ) (f : ℤ → Option ℤ) (y : ℤ) → and_also o f ≡ Some y → ((x : ℤ) → o ≡ Some x → f x ≡ Some y → P) → P
also None f y e k = absurd (none_some y e)
also (Some x) f y e k = k x refl e

mutual
  pub value_range : (source : Source) (y : ℤ) → value_of source ≡ Some y → IsWord32 y
  value_range (Chain Disjunction at first parts) y e = absurd (none_some y e)
  value_range (Chain Conjunction at first parts) y e = absurd (none_some y e)
  value_range (Chain Comparisons at first parts) y e = absurd (none_some y e)
  value_range (Chain Sums at first parts) y e = also (value_of first) (λ z. value_on z parts) y e (λ x h k. parts_range parts x y (value_range first x h) k)
  value_range (Chain Products at first parts) y e = also (value_of first) (λ z. value_on z parts) y e (λ x h k. parts_range parts x y (value_range first x h) k)
  value_range (Unary mark at operand) y e = also (value_of operand) (signed mark) y e (λ x h k. signed_range mark x y (value_range operand x h) k)
  value_range (Cast at to operand) y e =
      also (value_of operand) (λ z. Some (wrapped (width_of to) z)) y e
      (λ x h k. let s : wrapped (width_of to) x ≡ y = cc in subst IsWord32 s (wrapped_range (width_of to) x (value_range operand x h)))
  value_range (Number at z) y e = within_range z y e
  value_range (Scalar at name) y e = absurd (none_some y e)
  value_range (Element at name bracket index) y e = absurd (none_some y e)
  value_range (Pointed at star name) y e = absurd (none_some y e)
  value_range (Member at object) y e = absurd (none_some y e)
  value_range (Call name arguments) y e = absurd (none_some y e)
  value_range (Parenthesis at inner) y e = value_range inner y e
  value_range (AddressOf at name) y e = absurd (none_some y e)
  value_range (AddressOfElement at name bracket index) y e = absurd (none_some y e)
  value_range (AddressOfOther at object) y e = absurd (none_some y e)

  parts_range : (parts : Parts) (z y : ℤ) → IsWord32 z → value_on z parts ≡ Some y → IsWord32 y
  parts_range End z y w e = let s : z ≡ y = cc in subst IsWord32 s w
  parts_range (Part mark at operand rest) z y w e =
      also (value_of operand) (λ x. and_also (operated mark z x) (λ v. value_on v rest)) y e
      (λ x h k. also (operated mark z x) (λ v. value_on v rest) y k (λ v i l. parts_range rest v y (operated_range mark z x v i) l))

-- a number of 32 bits stands for itself
pub word_told : (z : ℤ) → IsWord32 z → within32 z ≡ None → ⊥
word_told z w e = by (int_lt z (negsuc 2147483647)) (int_lt (pos 2147483647) z) refl refl
  where
    by : (p q : Bool) → int_lt z (negsuc 2147483647) ≡ p → int_lt (pos 2147483647) z ≡ q → ⊥
    by true q h k = let a = w.above in absurd (omega (arith, ints))
    by false true h k = let a = w.below in absurd (omega (arith, ints))
    by false false h k =
        let f : cond (false || false) None (Some z) ≡ None = subst (λ p. cond (p || false) None (Some z) ≡ None) h (subst (λ q. cond (int_lt z (negsuc 2147483647) || q) None (Some z) ≡ None) k e) in
        cc
