-- Whether an operator fails, told from the ranges of the numbers that its clamps are put on.
use Rattle.std.proofs.Common.{◌≡◌, refl, sym, subst, ap, ◌∙◌, ℕ, ℤ, pos, negsuc, ◌+ℤ◌, ◌-ℤ◌, ◌*ℤ◌, neg_ℤ, ◌≤ℤ◌, Bool, true, false, ◌||◌, ◌&&◌, min, unsigned_abs, true≢false, arith}
use Rattle.std.proofs.lemmas.Int.{ints}
use Rattle.wm_numbers.specs.Clamp.{clamp32}
use Rattle.wm_numbers.specs.Floor.{floor_shift}
use Rattle.wm_interval.specs.Holds.{Holds}
use Rattle.wm_interval.specs.declared.Interval.{Interval}
use Rattle.wm_ops.specs.Clamping.{leaves16, leaves32}
use Rattle.wm_ops.specs.Outcomes.{formula_of, in_domain, is_quiet, fails_of, flags_of}
use Rattle.wm_ops.specs.Shifts.{shifted, shl_of, shr_of, shr_r_of, l_shl_of, l_shr_of, l_shr_r_of}
use Rattle.wm_ops.specs.declared.operators.Op.{Op}
use Rattle.wm_ops.specs.declared.operators.Op.TheVariants.{Add, Sub, AbsS, Negate, Mult, MultR, Shl, Shr, ShrR, LAdd, LSub, LAbs, LNegate, LMult, LMac, LMsu, LShl, LShr, LShrR, ExtractH, ExtractL, LDepositH, LDepositL, Round, MacR, MsuR, NormS, NormL, DivS, SMax, SMin, LMax, LMin, LMult0, LMac0, LMsu0}
use Rattle.wm_hull.specs.Ranges.{IsRangeOf}
use Rattle.wm_hull.specs.Failures.{TellsWhether, TellsLeaving16, TellsLeaving32, sets_flag_of}
use Rattle.wm_hull.proofs.Rising.{add_rises}
use Rattle.wm_hull.proofs.Spans.{range_step}
use Rattle.wm_hull.proofs.Telling.{tells32, tells_same, tells_never, or_false}
use Rattle.wm_hull.proofs.ShiftRanges.{left_leaves, short16, short32, leaving16, leaving32, never_leaves, leaves_somewhere, leaves_nowhere}

-- an answer that is computed from others
pub told_by : (test : ℤ → ℤ → ℤ → Bool) (x y z : Interval) (answer other : Bool) → answer ≡ other → TellsWhether other test x y z → TellsWhether answer test x y z
told_by test x y z answer other same told =
    let P : Bool → Type 0 = λ b. TellsWhether b test x y z in
    subst P (sym same) told

-- the operator is known
pub told_of : (op known : Op) (test : ℤ → ℤ → ℤ → Bool) (x y z : Interval) (answer : Bool) → op ≡ known →
    ((a b c : ℤ) → test a b c ≡ fails_of known a b c) → TellsWhether answer test x y z → TellsWhether answer (fails_of op) x y z
told_of op known test x y z answer is same told =
    let P : Op → Type 0 = λ o. TellsWhether answer (fails_of o) x y z in
    subst P (sym is) (tells_same test (fails_of known) x y z same answer told)

-- the operator is known, and never fails
pub never_of : (op known : Op) (x y z : Interval) → op ≡ known → ((a b c : ℤ) → fails_of known a b c ≡ false) → TellsWhether false (fails_of op) x y z
never_of op known x y z is never =
    let P : Op → Type 0 = λ o. TellsWhether false (fails_of o) x y z in
    subst P (sym is) (tells_never (fails_of known) x y z never)

-- half a unit of the upper half is added to a number whose range is known
module _ (f : ℤ → ℤ → ℤ → ℤ) (x y z range : Interval) (h : IsRangeOf f x y z range) where
  raised_range : Interval
  raised_range = record { low = range.low +ℤ pos 32768; high = range.high +ℤ pos 32768; ordered = (add_rises (pos 32768)).keeps _ _ range.ordered }

  pub tells_raised : (answer : Bool) → TellsLeaving32 answer (range.low +ℤ pos 32768) (range.high +ℤ pos 32768) →
      TellsWhether answer (λ a b c. leaves32 (f a b c +ℤ pos 32768)) x y z
  unfolding raised_range
  tells_raised answer told =
      tells32 (λ a b c. f a b c +ℤ pos 32768) x y z raised_range
      (range_step f x y z range (λ v. v +ℤ pos 32768) raised_range (add_rises (pos 32768)) h refl refl) answer told

-- ---- shifts to the left
pub moved16 : (answer : Bool) (low high x_low x_high : ℤ) (places k : ℕ) → low ≡ shifted x_low (min places 32) → high ≡ shifted x_high (min places 32) →
    places ≡ k → TellsLeaving16 answer low high → TellsLeaving16 answer (shifted x_low (min k 32)) (shifted x_high (min k 32))
moved16 answer low high x_low x_high places k l u same told =
    let P : ℤ → Type 0 = λ v. TellsLeaving16 answer v (shifted x_high (min k 32)) in
    let Q : ℤ → Type 0 = λ v. TellsLeaving16 answer low v in
    subst P (l ∙ ap (λ (n : ℕ). shifted x_low (min n 32)) same) (subst Q (u ∙ ap (λ (n : ℕ). shifted x_high (min n 32)) same) told)

pub moved32 : (answer : Bool) (low high x_low x_high : ℤ) (places k : ℕ) → low ≡ shifted x_low (min places 32) → high ≡ shifted x_high (min places 32) →
    places ≡ k → TellsLeaving32 answer low high → TellsLeaving32 answer (shifted x_low (min k 32)) (shifted x_high (min k 32))
moved32 answer low high x_low x_high places k l u same told =
    let P : ℤ → Type 0 = λ v. TellsLeaving32 answer v (shifted x_high (min k 32)) in
    let Q : ℤ → Type 0 = λ v. TellsLeaving32 answer low v in
    subst P (l ∙ ap (λ (n : ℕ). shifted x_low (min n 32)) same) (subst Q (u ∙ ap (λ (n : ℕ). shifted x_high (min n 32)) same) told)

module _ (s : ℤ → ℤ) (x y z : Interval) (at_n : ℤ) (n_in : Holds y at_n) (most : (k : ℤ) → Holds y k → s k ≤ℤ s at_n) where
  left16 : (k : ℕ) → s at_n ≡ pos k → (answer : Bool) → TellsLeaving16 answer (shifted x.low (min k 32)) (shifted x.high (min k 32)) →
      TellsWhether answer (λ a b c. left_leaves leaves16 a (s b)) x y z
  left16 k is true told = leaves_somewhere leaves16 (negsuc 32767) (pos 32767) leaving16 short16 s x y z at_n n_in most k is told
  left16 k is false told = leaves_nowhere leaves16 (negsuc 32767) (pos 32767) leaving16 short16 s x y z at_n n_in most k is told

  by16 : (n : ℤ) → s at_n ≡ n → (answer : Bool) → (n ≤ℤ negsuc 0 → answer ≡ false) →
      ((k : ℕ) → n ≡ pos k → TellsLeaving16 answer (shifted x.low (min k 32)) (shifted x.high (min k 32))) →
      TellsWhether answer (λ a b c. left_leaves leaves16 a (s b)) x y z
  by16 (pos k) is answer right left = left16 k is answer (left k refl)
  by16 (negsuc k) is answer right left =
      told_by (λ a b c. left_leaves leaves16 a (s b)) x y z answer false (right (omega (arith, ints)))
      (never_leaves leaves16 (negsuc 32767) (pos 32767) leaving16 short16 s x y z at_n n_in most (omega (arith, ints, is)))

  pub tells_left16 : (answer : Bool) → (s at_n ≤ℤ negsuc 0 → answer ≡ false) →
      ((k : ℕ) → s at_n ≡ pos k → TellsLeaving16 answer (shifted x.low (min k 32)) (shifted x.high (min k 32))) →
      TellsWhether answer (λ a b c. left_leaves leaves16 a (s b)) x y z
  tells_left16 answer right left = by16 (s at_n) refl answer right left

  -- the count as the code has it
  pub tells_count16 : (answer : Bool) (count : ℤ) → count ≡ s at_n → (count ≤ℤ negsuc 0 → answer ≡ false) →
      ((k : ℕ) → count ≡ pos k → TellsLeaving16 answer (shifted x.low (min k 32)) (shifted x.high (min k 32))) →
      TellsWhether answer (λ a b c. left_leaves leaves16 a (s b)) x y z
  tells_count16 answer count is right left = by16 count (sym is) answer right left

  left32 : (k : ℕ) → s at_n ≡ pos k → (answer : Bool) → TellsLeaving32 answer (shifted x.low (min k 32)) (shifted x.high (min k 32)) →
      TellsWhether answer (λ a b c. left_leaves leaves32 a (s b)) x y z
  left32 k is true told = leaves_somewhere leaves32 (negsuc 2147483647) (pos 2147483647) leaving32 short32 s x y z at_n n_in most k is told
  left32 k is false told = leaves_nowhere leaves32 (negsuc 2147483647) (pos 2147483647) leaving32 short32 s x y z at_n n_in most k is told

  by32 : (n : ℤ) → s at_n ≡ n → (answer : Bool) → (n ≤ℤ negsuc 0 → answer ≡ false) →
      ((k : ℕ) → n ≡ pos k → TellsLeaving32 answer (shifted x.low (min k 32)) (shifted x.high (min k 32))) →
      TellsWhether answer (λ a b c. left_leaves leaves32 a (s b)) x y z
  by32 (pos k) is answer right left = left32 k is answer (left k refl)
  by32 (negsuc k) is answer right left =
      told_by (λ a b c. left_leaves leaves32 a (s b)) x y z answer false (right (omega (arith, ints)))
      (never_leaves leaves32 (negsuc 2147483647) (pos 2147483647) leaving32 short32 s x y z at_n n_in most (omega (arith, ints, is)))

  pub tells_left32 : (answer : Bool) → (s at_n ≤ℤ negsuc 0 → answer ≡ false) →
      ((k : ℕ) → s at_n ≡ pos k → TellsLeaving32 answer (shifted x.low (min k 32)) (shifted x.high (min k 32))) →
      TellsWhether answer (λ a b c. left_leaves leaves32 a (s b)) x y z
  tells_left32 answer right left = by32 (s at_n) refl answer right left

  -- the count as the code has it
  pub tells_count32 : (answer : Bool) (count : ℤ) → count ≡ s at_n → (count ≤ℤ negsuc 0 → answer ≡ false) →
      ((k : ℕ) → count ≡ pos k → TellsLeaving32 answer (shifted x.low (min k 32)) (shifted x.high (min k 32))) →
      TellsWhether answer (λ a b c. left_leaves leaves32 a (s b)) x y z
  tells_count32 answer count is right left = by32 count (sym is) answer right left

-- ---- flags
and_false : (b : Bool) → b && false ≡ false
and_false true = refl
and_false false = refl

and_true : (b : Bool) → b ≡ b && true
and_true true = refl
and_true false = refl

pub flags_never : (op : Op) → sets_flag_of op ≡ false → (a b c : ℤ) → flags_of op a b c ≡ false
unfolding formula_of is_quiet
flags_never Add h a b c = absurd (true≢false h)
flags_never Sub h a b c = absurd (true≢false h)
flags_never AbsS h a b c = and_false _
flags_never Negate h a b c = and_false _
flags_never Mult h a b c = absurd (true≢false h)
flags_never MultR h a b c = absurd (true≢false h)
flags_never Shl h a b c = absurd (true≢false h)
flags_never Shr h a b c = absurd (true≢false h)
flags_never ShrR h a b c = absurd (true≢false h)
flags_never LAdd h a b c = absurd (true≢false h)
flags_never LSub h a b c = absurd (true≢false h)
flags_never LAbs h a b c = and_false _
flags_never LNegate h a b c = and_false _
flags_never LMult h a b c = absurd (true≢false h)
flags_never LMac h a b c = absurd (true≢false h)
flags_never LMsu h a b c = absurd (true≢false h)
flags_never LShl h a b c = absurd (true≢false h)
flags_never LShr h a b c = absurd (true≢false h)
flags_never LShrR h a b c = absurd (true≢false h)
flags_never ExtractH h a b c = absurd (true≢false h)
flags_never ExtractL h a b c = absurd (true≢false h)
flags_never LDepositH h a b c = absurd (true≢false h)
flags_never LDepositL h a b c = absurd (true≢false h)
flags_never Round h a b c = absurd (true≢false h)
flags_never MacR h a b c = absurd (true≢false h)
flags_never MsuR h a b c = absurd (true≢false h)
flags_never NormS h a b c = absurd (true≢false h)
flags_never NormL h a b c = absurd (true≢false h)
flags_never DivS h a b c = refl
flags_never SMax h a b c = absurd (true≢false h)
flags_never SMin h a b c = absurd (true≢false h)
flags_never LMax h a b c = absurd (true≢false h)
flags_never LMin h a b c = absurd (true≢false h)
flags_never LMult0 h a b c = absurd (true≢false h)
flags_never LMac0 h a b c = absurd (true≢false h)
flags_never LMsu0 h a b c = absurd (true≢false h)

pub flags_same : (op : Op) → sets_flag_of op ≡ true → (a b c : ℤ) → fails_of op a b c ≡ flags_of op a b c
unfolding formula_of in_domain is_quiet
flags_same Add h a b c = and_true _
flags_same Sub h a b c = and_true _
flags_same AbsS h a b c = absurd (true≢false (sym h))
flags_same Negate h a b c = absurd (true≢false (sym h))
flags_same Mult h a b c = and_true _
flags_same MultR h a b c = and_true _
flags_same Shl h a b c = and_true _
flags_same Shr h a b c = and_true _
flags_same ShrR h a b c = and_true _
flags_same LAdd h a b c = and_true _
flags_same LSub h a b c = and_true _
flags_same LAbs h a b c = absurd (true≢false (sym h))
flags_same LNegate h a b c = absurd (true≢false (sym h))
flags_same LMult h a b c = and_true _
flags_same LMac h a b c = and_true _
flags_same LMsu h a b c = and_true _
flags_same LShl h a b c = and_true _
flags_same LShr h a b c = and_true _
flags_same LShrR h a b c = and_true _
flags_same ExtractH h a b c = and_true _
flags_same ExtractL h a b c = and_true _
flags_same LDepositH h a b c = and_true _
flags_same LDepositL h a b c = and_true _
flags_same Round h a b c = and_true _
flags_same MacR h a b c = and_true _
flags_same MsuR h a b c = and_true _
flags_same NormS h a b c = and_true _
flags_same NormL h a b c = and_true _
flags_same DivS h a b c = absurd (true≢false (sym h))
flags_same SMax h a b c = and_true _
flags_same SMin h a b c = and_true _
flags_same LMax h a b c = and_true _
flags_same LMin h a b c = and_true _
flags_same LMult0 h a b c = and_true _
flags_same LMac0 h a b c = and_true _
flags_same LMsu0 h a b c = and_true _

-- ---- what each operator tests
module _ (a b c : ℤ) where
  pub add_test : leaves16 (a +ℤ b) ≡ fails_of Add a b c
  unfolding formula_of in_domain
  add_test = refl

  pub sub_test : leaves16 (a -ℤ b) ≡ fails_of Sub a b c
  unfolding formula_of in_domain
  sub_test = refl

  pub abs_s_test : leaves16 (pos (unsigned_abs a)) ≡ fails_of AbsS a b c
  unfolding formula_of in_domain
  abs_s_test = refl

  pub negate_test : leaves16 (neg_ℤ a) ≡ fails_of Negate a b c
  unfolding formula_of in_domain
  negate_test = refl

  pub mult_test : leaves16 (floor_shift (a *ℤ b) 15) ≡ fails_of Mult a b c
  unfolding formula_of in_domain
  mult_test = refl

  pub mult_r_test : leaves16 (floor_shift ((a *ℤ b) +ℤ pos 16384) 15) ≡ fails_of MultR a b c
  unfolding formula_of in_domain
  mult_r_test = refl

  pub shl_test : (shl_of a b).changed ≡ fails_of Shl a b c
  unfolding formula_of in_domain
  shl_test = refl

  pub shr_test : (shr_of a b).changed ≡ fails_of Shr a b c
  unfolding formula_of in_domain
  shr_test = refl

  pub shr_r_test : (shr_r_of a b).changed ≡ fails_of ShrR a b c
  unfolding formula_of in_domain
  shr_r_test = refl

  pub l_add_test : leaves32 (a +ℤ b) ≡ fails_of LAdd a b c
  unfolding formula_of in_domain
  l_add_test = refl

  pub l_sub_test : leaves32 (a -ℤ b) ≡ fails_of LSub a b c
  unfolding formula_of in_domain
  l_sub_test = refl

  pub l_abs_test : leaves32 (pos (unsigned_abs a)) ≡ fails_of LAbs a b c
  unfolding formula_of in_domain
  l_abs_test = refl

  pub l_negate_test : leaves32 (neg_ℤ a) ≡ fails_of LNegate a b c
  unfolding formula_of in_domain
  l_negate_test = refl

  pub l_mult_test : leaves32 (pos 2 *ℤ (a *ℤ b)) ≡ fails_of LMult a b c
  unfolding formula_of in_domain
  l_mult_test = refl

  pub l_mac_test : (leaves32 (pos 2 *ℤ (b *ℤ c)) || leaves32 (a +ℤ clamp32 (pos 2 *ℤ (b *ℤ c)))) ≡ fails_of LMac a b c
  unfolding formula_of in_domain
  l_mac_test = refl

  pub l_msu_test : (leaves32 (pos 2 *ℤ (b *ℤ c)) || leaves32 (a -ℤ clamp32 (pos 2 *ℤ (b *ℤ c)))) ≡ fails_of LMsu a b c
  unfolding formula_of in_domain
  l_msu_test = refl

  pub l_shl_test : (l_shl_of a b).changed ≡ fails_of LShl a b c
  unfolding formula_of in_domain
  l_shl_test = refl

  pub l_shr_test : (l_shr_of a b).changed ≡ fails_of LShr a b c
  unfolding formula_of in_domain
  l_shr_test = refl

  pub l_shr_r_test : (l_shr_r_of a b).changed ≡ fails_of LShrR a b c
  unfolding formula_of in_domain
  l_shr_r_test = refl

  pub extract_h_never : fails_of ExtractH a b c ≡ false
  unfolding formula_of in_domain
  extract_h_never = refl

  pub extract_l_never : fails_of ExtractL a b c ≡ false
  unfolding formula_of in_domain
  extract_l_never = refl

  pub l_deposit_h_never : fails_of LDepositH a b c ≡ false
  unfolding formula_of in_domain
  l_deposit_h_never = refl

  pub l_deposit_l_never : fails_of LDepositL a b c ≡ false
  unfolding formula_of in_domain
  l_deposit_l_never = refl

  pub round_test : leaves32 (a +ℤ pos 32768) ≡ fails_of Round a b c
  unfolding formula_of in_domain
  round_test = or_false _

  pub mac_r_test : ((leaves32 (pos 2 *ℤ (b *ℤ c)) || leaves32 (a +ℤ clamp32 (pos 2 *ℤ (b *ℤ c)))) || leaves32 (clamp32 (a +ℤ clamp32 (pos 2 *ℤ (b *ℤ c))) +ℤ pos 32768)) ≡ fails_of MacR a b c
  unfolding formula_of in_domain
  mac_r_test = ap (λ (t : Bool). (leaves32 (pos 2 *ℤ (b *ℤ c)) || leaves32 (a +ℤ clamp32 (pos 2 *ℤ (b *ℤ c)))) || t) (or_false _)

  pub msu_r_test : ((leaves32 (pos 2 *ℤ (b *ℤ c)) || leaves32 (a -ℤ clamp32 (pos 2 *ℤ (b *ℤ c)))) || leaves32 (clamp32 (a -ℤ clamp32 (pos 2 *ℤ (b *ℤ c))) +ℤ pos 32768)) ≡ fails_of MsuR a b c
  unfolding formula_of in_domain
  msu_r_test = ap (λ (t : Bool). (leaves32 (pos 2 *ℤ (b *ℤ c)) || leaves32 (a -ℤ clamp32 (pos 2 *ℤ (b *ℤ c)))) || t) (or_false _)

  pub norm_s_never : fails_of NormS a b c ≡ false
  unfolding formula_of in_domain
  norm_s_never = refl

  pub norm_l_never : fails_of NormL a b c ≡ false
  unfolding formula_of in_domain
  norm_l_never = refl

  pub s_max_never : fails_of SMax a b c ≡ false
  unfolding formula_of in_domain
  s_max_never = refl

  pub s_min_never : fails_of SMin a b c ≡ false
  unfolding formula_of in_domain
  s_min_never = refl

  pub l_max_never : fails_of LMax a b c ≡ false
  unfolding formula_of in_domain
  l_max_never = refl

  pub l_min_never : fails_of LMin a b c ≡ false
  unfolding formula_of in_domain
  l_min_never = refl

  pub l_mult0_never : fails_of LMult0 a b c ≡ false
  unfolding formula_of in_domain
  l_mult0_never = refl

  pub l_mac0_test : leaves32 (a +ℤ (b *ℤ c)) ≡ fails_of LMac0 a b c
  unfolding formula_of in_domain
  l_mac0_test = refl

  pub l_msu0_test : leaves32 (a -ℤ (b *ℤ c)) ≡ fails_of LMsu0 a b c
  unfolding formula_of in_domain
  l_msu0_test = refl
