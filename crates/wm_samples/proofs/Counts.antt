-- A frame that takes more bytes than 64 bits can count takes more than any file has.
use Rattle.std.proofs.Common.{◌≡◌, refl, sym, ap, ◌∙◌, ℕ, ◌+◌, ◌-◌, ◌/◌, ◌%◌, ◌^◌, ◌<◌, ◌≤◌, min, Bool, true, false, cond, nat_le, nat_eq, Result, Ok, Err, arith, le-leb}
use Rattle.std.proofs.Math.Nat.{mod-eq_of_lt, div-eq_of_lt, min-eq_left, min-eq_right}
use Rattle.std.proofs.lemmas.Bool.{ltb-false}
use Rattle.std.proofs.lemmas.Bool.Decides.{nat_tests}
use Rattle.wm_samples.specs.Samples.{count_of}
use Rattle.wm_samples.specs.declared.fault.SampleFault.{SampleFault}
use Rattle.wm_samples.specs.declared.fault.SampleFault.TheVariants.{Rest}

-- of fewer bytes than one frame takes, all are left over
few_bytes : (size bytes : ℕ) → bytes < size → count_of size bytes ≡ (cond (nat_eq bytes 0) (Ok 0) (Err (Rest bytes)))
few_bytes size bytes few =
    let some : nat_eq size 0 ≡ false = grind (arith, nat_tests, few) in
    rw (some, mod-eq_of_lt few, div-eq_of_lt few) refl

pub count_of-min : (size bytes most : ℕ) → bytes < most → count_of (min size most) bytes ≡ count_of size bytes
count_of-min size bytes most few =
    elim (nat_le size most) as (λ test. nat_le size most ≡ test → count_of (min size most) bytes ≡ count_of size bytes) [
      | true ↦ λ test. ap (λ n. count_of n bytes) (min-eq_left (within test))
      | false ↦ λ test. ap (λ n. count_of n bytes) (min-eq_right (beyond test)) ∙ few_bytes most bytes few ∙ sym (few_bytes size bytes (omega (arith, few, beyond test)))
    ] refl
  where
    within : nat_le size most ≡ true → size ≤ most
    within test = grind (arith, nat_tests, test)

    beyond : nat_le size most ≡ false → most ≤ size
    beyond test = grind (arith, nat_tests, test)
