-- Intervals with the same ends are one.
use denote.Struct.Props as logic
use Rattle.std.proofs.Common.{◌≡◌, ap, subst, ℤ}
use Rattle.std.specs.Prelude.{◌≤ℤ◌}
use Rattle.wm_interval.specs.declared.Interval.{Interval}

make : (low high : ℤ) → low ≤ℤ high → Interval
make low high ordered = record { low = low; high = high; ordered = ordered }

one_way : (a b : ℤ) (o p : a ≤ℤ b) → o ≡ p
one_way a b o p = let once : IsProp (a ≤ℤ b) = hlevel logic.props in once o p

meet : (a b : ℤ) (o : a ≤ℤ b) (c d : ℤ) (p : c ≤ℤ d) → a ≡ c → b ≡ d → make a b o ≡ make c d p
meet a b o c d p l h =
    subst (λ (c : ℤ). (p : c ≤ℤ d) → make a b o ≡ make c d p) l
    (subst (λ (d : ℤ). (p : a ≤ℤ d) → make a b o ≡ make a d p) h (λ p. ap (make a b) (one_way a b o p))) p

pub alike : (i j : Interval) → i.low ≡ j.low → i.high ≡ j.high → i ≡ j
unfolding make
alike i j l h = meet i.low i.high i.ordered j.low j.high j.ordered l h
