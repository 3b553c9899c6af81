-- Where a bound is passed, some point of the first state is none of the second.
use Rattle.std.proofs.Common.{ℤ, Option, Some, None, arith}
use Rattle.std.proofs.lemmas.Int.{ints}
use Rattle.std.specs.Prelude.{◌≤ℤ◌, ◌<ℤ◌, MatchOption}
use Rattle.wm_cert.specs.declared.gap.End2.{End2}
use Rattle.wm_cert.specs.declared.gap.End2.TheVariants.{Low, High}
use Rattle.wm_cert.specs.declared.gap.Line.{Line}
use Rattle.wm_cert.specs.declared.gap.Line.TheVariants.{Bound, Minus, Plus, Array}
use Rattle.wm_domain.specs.Points.{Point}
use Rattle.wm_gaps.specs.declared.passed.Passed.{Passed}
use Rattle.wm_gaps.specs.Passed.{IsOn, IsEnd, IsBeyond}
use Rattle.wm_gaps.specs.First.{IsFirst, IsWithin}

on_more : (Has Allowed : Point → Type 0) → IsWithin Has Allowed → (l : Line) (z : ℤ) → IsOn Has l z → IsOn Allowed l z
on_more Has Allowed h (Bound v) z i = record { x = i.x; is = h i.x i.is; gives = i.gives }
on_more Has Allowed h (Minus j k) z i = record { x = i.x; is = h i.x i.is; gives = i.gives }
on_more Has Allowed h (Plus j k) z i = record { x = i.x; is = h i.x i.is; gives = i.gives }
on_more Has Allowed h (Array a) z i = record { x = i.x; is = h i.x i.is; gives = i.gives }

attained : (e : End2) (Is : ℤ → Type 0) (z : ℤ) → IsEnd e Is z → Is z
attained Low Is z h = h.attained
attained High Is z h = h.attained

less : (a b : ℤ) → a <ℤ b → b ≤ℤ a → ⊥
less a b h k = omega (arith, ints)

not_beyond : (e : End2) (Is : ℤ → Type 0) (have allowed : ℤ) → IsEnd e Is allowed → IsBeyond e have allowed → Is have → ⊥
not_beyond Low Is have allowed end h i = less have allowed h (end.least have i)
not_beyond High Is have allowed end h i = less allowed have h (end.greatest have i)

not_on : (e : End2) (Is : ℤ → Type 0) (have : ℤ) (a : Option ℤ) → MatchOption a ((z : ℤ) → Is z → ⊥) (λ z. IsEnd e Is z × IsBeyond e have z) → Is have → ⊥
not_on e Is have None h i = h have i
not_on e Is have (Some z) h i = not_beyond e Is have z h.0 h.1 i

pub outside : (IsOne : Line → Type 0) (Has Allowed : Point → Type 0) (it : Passed) → IsFirst IsOne Has Allowed it → IsWithin Has Allowed → ⊥
outside IsOne Has Allowed it h within =
    not_on it.end (IsOn Allowed it.line) it.have it.allowed h.passed.allowed (on_more Has Allowed within it.line it.have (attained it.end (IsOn Has it.line) it.have h.passed.have))
