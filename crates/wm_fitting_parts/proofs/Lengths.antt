-- Lengths of arrays, and numbers that are to be constant.
use Rattle.std.proofs.Common.{◌≡◌, ℕ, ◌+◌, ◌<◌, ◌≤◌, Bool, true, false, ◌||◌, cond, Option, Some, None, List, [], ◌∷◌, ◌++◌, length, ℤ, pos, negsuc, refl, length-append, arith}
use Rattle.std.proofs.lemmas.Bool.Decides.{nat_tests}
use Rattle.std.proofs.lemmas.List.Elements.{All-nil, All-head, All-tail, All-push}
use Rattle.std.specs.List.{All}
use Rattle.std.specs.Prelude.{nat_lt}
use Rattle.wm_lang.specs.declared.expression.Expr.{Expr}
use Rattle.wm_lang.specs.declared.place.Position.{Position}
use Rattle.wm_numbers.specs.Within.{IsWord32}
use Rattle.wm_ops.proofs.WidthLemmas.{low_half_fits}
use Rattle.wm_ops.specs.Arguments.{HasWidth}
use Rattle.wm_ops.specs.declared.operators.Width.{Width}
use Rattle.wm_ops.specs.declared.operators.Width.TheVariants.{W16, W32}
use Rattle.wm_program.specs.WellFormed.{ObjectFits}
use Rattle.wm_scope.specs.declared.fault.TokenFault.TheVariants.{NotConstant, BadLength}
use Rattle.wm_source.specs.Constants.{constant_of, wrapped}
use Rattle.wm_source.specs.Firsts.{first_of}
use Rattle.wm_source.specs.Reading.{source_of}
use Rattle.wm_marks.specs.declared.marks.Marks.{Marks}
use Rattle.wm_marks.specs.Marking.{pure}
use Rattle.wm_value.specs.Needs.{number_in}
use Rattle.wm_body.specs.Declarations.{info}
use Rattle.wm_body.specs.Lengths.{no_constant, constant_by, constant_in, constants_in, bad_length, told_length, counted_length, length_by, array_length}
use Rattle.wm_fitting.specs.Plain.{IsPlain}
use Rattle.wm_fitting.specs.Fitting.{Setting, ScopeFits, Good}
use Rattle.wm_fitting.proofs.Collecting.{chain, done, faulty}
use Rattle.wm_fitting.proofs.Naming.{also}
use Rattle.wm_fitting.proofs.Ranges.{value_range}
use Rattle.wm_fitting_acts.proofs.Dropping.{number_in_fits}
use Rattle.wm_fitting_parts.specs.Laws.{IsLength}
use Rattle.wm_fitting_parts.specs.PlainParts.{IsPlainOption}

-- ---- what is no constant

no_constant_fits : (S : Setting) (names : ScopeFits S) (x : Expr) → IsPlain (source_of x) → (m : Marks) → Good {A = Unit {0}} S (λ u. ⊥) m (no_constant S.scope x m)
unfolding no_constant
no_constant_fits S names x p m = chain (number_in_fits S names x p m) (faulty NotConstant (first_of x) (number_in S.scope x m).1)

-- ---- lengths

abbrev IsTold : ℕ → ℕ → Type 0
IsTold count n = (0 < n) × (n ≤ 65536) × (count ≤ n)

not_less : (a b : ℕ) → nat_lt a b ≡ false → b ≤ a
not_less a b e = grind (arith, nat_tests, e)

neither : (p q : Bool) → (p || q) ≡ false → (p ≡ false) × (q ≡ false)
neither true q e = cc
neither false q e = (refl, e)

counted_by : (S : Setting) (count : ℕ) (at : Position) (b : Bool) → (nat_lt count 1 || nat_lt 65536 count) ≡ b → (m : Marks) → Good S (IsTold count) m (cond b (bad_length at) (pure count) m)
counted_by S count at true e m = faulty BadLength at m
counted_by S count at false e m =
    let h = neither (nat_lt count 1) (nat_lt 65536 count) e in
    done (not_less count 1 h.0, not_less 65536 count h.1, omega arith)

counted_fits : (S : Setting) (count : ℕ) (at : Position) (m : Marks) → Good S (IsTold count) m (counted_length count at m)
counted_fits S count at m = counted_by S count at (nat_lt count 1 || nat_lt 65536 count) refl m

long_enough : (S : Setting) (n count : ℕ) (at : Position) (b : Bool) → nat_lt n count ≡ b → 0 < n → n ≤ 65536 → (m : Marks) → Good S (IsTold count) m (cond b (bad_length at) (pure n) m)
long_enough S n count at true e l h m = faulty BadLength at m
long_enough S n count at false e l h m = done (l, h, not_less n count e)

told_by : (S : Setting) (n count : ℕ) (at : Position) (b : Bool) → (nat_lt n 1 || nat_lt 65536 n) ≡ b → (m : Marks) → Good S (IsTold count) m (cond b (bad_length at) (cond (nat_lt n count) (bad_length at) (pure n)) m)
told_by S n count at true e m = faulty BadLength at m
told_by S n count at false e m =
    let h = neither (nat_lt n 1) (nat_lt 65536 n) e in
    long_enough S n count at (nat_lt n count) refl (not_less n 1 h.0) (not_less 65536 n h.1) m

told_fits : (S : Setting) (z : ℤ) (count : ℕ) (at : Position) (m : Marks) → Good S (IsTold count) m (told_length z count at m)
told_fits S (pos n) count at m = told_by S n count at (nat_lt n 1 || nat_lt 65536 n) refl m
told_fits S (negsuc n) count at m = faulty BadLength at m

length_by_fits : (S : Setting) (names : ScopeFits S) (x : Expr) → IsPlain (source_of x) → (count : ℕ) (at : Position) (o : Option ℤ) (m : Marks) → Good S (IsTold count) m (length_by S.scope x count at o m)
length_by_fits S names x p count at (Some z) m = told_fits S z count at m
length_by_fits S names x p count at None m = chain (no_constant_fits S names x p m) (done (λ f. absurd f))

pub lengths_fit : (S : Setting) → ScopeFits S → (expression : Option Expr) → IsPlainOption expression → (count : ℕ) (at : Position) (m : Marks) → Good S (λ length. (0 < length) × (length ≤ 65536) × (count ≤ length)) m (array_length S.scope expression count at m)
unfolding array_length
lengths_fit S names None p count at m = counted_fits S count at m
lengths_fit S names (Some x) p count at m = length_by_fits S names x p count at (constant_of x) m

-- ---- constants

wrapped_has : (width : Width) (z : ℤ) → IsWord32 z → HasWidth width (wrapped width z)
wrapped_has W16 z w = low_half_fits z
wrapped_has W32 z w = w

constant_by_fits : (S : Setting) (names : ScopeFits S) (width : Width) (x : Expr) → IsPlain (source_of x) → (o : Option ℤ) → constant_of x ≡ o → (m : Marks) → Good S (HasWidth width) m (constant_by S.scope width x o m)
constant_by_fits S names width x p (Some z) e m = done (wrapped_has width z (value_range (source_of x) z e))
constant_by_fits S names width x p None e m = chain (no_constant_fits S names x p m) (done (λ f. absurd f))

constant_fits : (S : Setting) (names : ScopeFits S) (width : Width) (x : Expr) → IsPlain (source_of x) → (m : Marks) → Good S (HasWidth width) m (constant_in S.scope width x m)
unfolding constant_in
constant_fits S names width x p m = constant_by_fits S names width x p (constant_of x) refl m

abbrev AreConstants : Width → ℕ → List ℤ → Type 0
AreConstants width count numbers = All (HasWidth width) numbers × (length numbers ≡ count)

constants_behind : (S : Setting) (names : ScopeFits S) (width : Width) (found : List ℤ) (values : List Expr) → All (λ value. IsPlainOption (Some value)) values → (m : Marks)
    → Good S (λ numbers. All (HasWidth width) found → AreConstants width (length found + length values) numbers) m (constants_in S.scope width found values m)
constants_behind S names width found [] p m = done (λ h. (h, omega arith))
constants_behind S names width found (x ∷ rest) p m =
    let z = constant_in S.scope width x m in
    chain (constant_fits S names width x (All-head (λ value. IsPlainOption (Some value)) x rest p) m)
    (also (constants_behind S names width (found ++ z.0 ∷ []) rest (All-tail (λ value. IsPlainOption (Some value)) x rest p) z.1)
    (λ numbers k f h. let r = k (All-push (HasWidth width) found z.0 h f) in (r.0, omega (arith, r.1, length-append found (z.0 ∷ [])))))

pub constants_fit : (S : Setting) → ScopeFits S → (width : Width) (values : List Expr) → All (λ value. IsPlainOption (Some value)) values → (m : Marks)
    → Good S (λ numbers. All (HasWidth width) numbers × (length numbers ≡ length values)) m (constants_in S.scope width [] values m)
constants_fit S names width values p m =
    also (constants_behind S names width [] values p m) (λ numbers k. let r = k (All-nil (HasWidth width)) in (r.0, omega (arith, r.1)))

-- ---- objects

pub objects_fit : (name : List ℕ) (width : Width) (constant : Bool) (count : Option ℕ) (numbers : List ℤ) → IsLength count numbers → All (HasWidth width) numbers → ObjectFits (info name width constant count numbers)
objects_fit name width constant None numbers h a = record { not_empty = omega arith; scalar_length = λ e. refl; initial_length = h; initial_width = a }
objects_fit name width constant (Some count) numbers h a = record { not_empty = h.0; scalar_length = λ e. cc; initial_length = h.1; initial_width = a }
