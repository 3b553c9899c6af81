-- Equal lists of intervals; intervals with the same ends are one.
use denote.Struct.Props as logic
use Rattle.std.proofs.Common.{◌≡◌, ℤ, int_eq, ap, subst}
use Rattle.std.specs.Prelude.{◌≤ℤ◌}
use Rattle.std.specs.Bool.{Decides}
use Rattle.std.proofs.lemmas.Bool.Decides.{Decides-int_eq, Decides-and}
use Rattle.wm_interval.specs.declared.Interval.{Interval}
use Rattle.wm_interval.specs.contracts.IntervalPartialEq.TheImpl.{eq-value}

made : (low high : ℤ) → low ≤ℤ high → Interval
made low high ordered = record { low = low; high = high; ordered = ordered }

one_way : (a b : ℤ) (o p : a ≤ℤ b) → o ≡ p
one_way a b o p = let once : IsProp (a ≤ℤ b) = hlevel logic.props in once o p

meet : (a b : ℤ) (o : a ≤ℤ b) (c d : ℤ) (p : c ≤ℤ d) → a ≡ c → b ≡ d → made a b o ≡ made c d p
meet a b o c d p l h =
    subst (λ (c : ℤ). (p : c ≤ℤ d) → made a b o ≡ made c d p) l
    (subst (λ (d : ℤ). (p : a ≤ℤ d) → made a b o ≡ made a d p) h (λ p. ap (made a b) (one_way a b o p))) p

alike : (i j : Interval) → i.low ≡ j.low → i.high ≡ j.high → i ≡ j
unfolding made
alike i j l h = meet i.low i.high i.ordered j.low j.high j.ordered l h

pub same_range : (a b : Interval) → Decides (eq-value.it a b) (a ≡ b)
same_range a b = let both = Decides-and (int_eq a.low b.low) (int_eq a.high b.high) (Decides-int_eq a.low b.low) (Decides-int_eq a.high b.high) in (
  λ e. let ends = both.0 e in alike a b ends.0 ends.1,
  λ e. both.1 (ap (λ (r : Interval). r.low) e, ap (λ (r : Interval). r.high) e),
)
