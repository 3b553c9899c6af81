-- The digits of a number, one at a time.
use Rattle.std.proofs.Common.{◌≡◌, ℕ, ◌+◌, ◌*◌, ◌<◌, ◌≤◌, Bool, true, false, cond, List, [], ◌∷◌, length, get_or, drop, Option, Some, None, refl, sym, ap, subst, ◌∙◌, arith}
use Rattle.std.specs.Prelude.{nat_lt, nat_le, ◌==◌, option_and_then, ℤ, IfSome}
use Rattle.std.proofs.Math.Nat.{mul-le-mul_left}
use Rattle.std.proofs.lemmas.Bool.{lt-ltb, le-ltb, le-leb, lt-leb}
use Rattle.std.proofs.lemmas.List.{drop_more, drop_all}
use Rattle.wm_lex.specs.Numbers.{digit_value, value_from, wrapped, up_to, in_base}

-- a digit of the base goes into the value
pub digit_step : (base value i : ℕ) (digits : List ℕ) (total : Option ℕ) → i < length digits → digit_value (get_or digits i 0) < base
    → value_from base value (drop i digits) ≡ total → value_from base (value * base + digit_value (get_or digits i 0)) (drop (i + 1) digits) ≡ total
digit_step base value i digits total lt small so_far =
    let one : value_from base value (get_or digits i 0 ∷ drop (i + 1) digits) ≡ total = subst (λ (t : List ℕ). value_from base value t ≡ total) (drop_more digits i 0 lt) so_far in
    let test : nat_lt (digit_value (get_or digits i 0)) base ≡ true = lt-ltb (digit_value (get_or digits i 0)) base small in
    rw test at one

-- a byte that is no digit of the base ends the number
pub digit_none : (base value i : ℕ) (digits : List ℕ) (total : Option ℕ) → i < length digits → base ≤ digit_value (get_or digits i 0)
    → value_from base value (drop i digits) ≡ total → total ≡ None
digit_none base value i digits total lt great so_far =
    let one : value_from base value (get_or digits i 0 ∷ drop (i + 1) digits) ≡ total = subst (λ (t : List ℕ). value_from base value t ≡ total) (drop_more digits i 0 lt) so_far in
    let test : nat_lt (digit_value (get_or digits i 0)) base ≡ false = le-ltb (digit_value (get_or digits i 0)) base great in
    let two : None ≡ total = rw test at one in
    sym two

pub digit_end : (base value i : ℕ) (digits : List ℕ) (total : Option ℕ) → length digits ≤ i → value_from base value (drop i digits) ≡ total → total ≡ Some value
digit_end base value i digits total le so_far =
    let one : value_from base value [] ≡ total = subst (λ (t : List ℕ). value_from base value t ≡ total) (drop_all i digits le) so_far in
    sym one

lower : (least most : ℕ) (o : Option ℕ) → least ≤ most → IfSome o (λ v. most ≤ v) → IfSome o (λ v. least ≤ v)
lower least most None le h = tt
lower least most (Some v) le h = omega arith

at_test : (test : Bool) (least : ℕ) (o : Option ℕ) → IfSome o (λ v. least ≤ v) → IfSome (cond test o None) (λ v. least ≤ v)
at_test true least o h = h
at_test false least o h = tt

-- a value only grows
grows : (base value : ℕ) (digits : List ℕ) → 0 < base → IfSome (value_from base value digits) (λ v. value ≤ v)
grows base value [] positive = omega arith
grows base value (b ∷ rest) positive =
    let one : value * 1 ≤ value * base = mul-le-mul_left value positive in
    at_test (nat_lt (digit_value b) base) value (value_from base (value * base + digit_value b) rest)
    (lower value (value * base + digit_value b) (value_from base (value * base + digit_value b) rest) (omega arith) (grows base (value * base + digit_value b) rest positive))

-- digits whose value so far is above a limit stay above it
pub stays_above : (base value limit : ℕ) (digits : List ℕ) → 0 < base → limit + 1 ≤ value → IfSome (value_from base value digits) (λ v. limit + 1 ≤ v)
stays_above base value limit digits positive above = lower (limit + 1) value (value_from base value digits) above (grows base value digits positive)

none_above : (limit : ℕ) (o : Option ℕ) → IfSome o (λ v. limit + 1 ≤ v) → option_and_then (up_to limit) o ≡ None
none_above limit None h = refl
none_above limit (Some v) h =
    let test : nat_le v limit ≡ false = lt-leb v limit (omega arith) in
    rw test refl

either : (test : Bool) (o : Option ℤ) → o ≡ None → cond test None o ≡ None
either true o h = refl
either false o h = h

-- no number where the value is none or above the limit
pub in_base_refused : (base limit : ℕ) (digits : List ℕ) → IfSome (value_from base 0 digits) (λ v. limit + 1 ≤ v) → in_base base limit digits ≡ None
in_base_refused base limit digits h = either (length digits == 0) (option_and_then (up_to limit) (value_from base 0 digits)) (none_above limit (value_from base 0 digits) h)

pub in_base_found : (base limit value : ℕ) (digits : List ℕ) → (length digits == 0) ≡ false → value_from base 0 digits ≡ Some value → value ≤ limit → in_base base limit digits ≡ Some (wrapped value)
in_base_found base limit value digits some found within =
    let test : nat_le value limit ≡ true = le-leb value limit within in
    rw (some, found, test) refl

-- a value above the limit is no number, whatever follows
pub too_great : (base limit value i digit : ℕ) (digits : List ℕ) → i < length digits → digit ≡ digit_value (get_or digits i 0) → digit < base → limit < value * base + digit
    → value_from base value (drop i digits) ≡ value_from base 0 digits → None ≡ in_base base limit digits
too_great base limit value i digit digits lt digit-is small above so_far =
    let small_here : digit_value (get_or digits i 0) < base = omega (arith, digit-is) in
    let next = digit_step base value i digits (value_from base 0 digits) lt small_here so_far in
    let above_here : limit + 1 ≤ value * base + digit_value (get_or digits i 0) = omega (arith, digit-is) in
    let stays = stays_above base (value * base + digit_value (get_or digits i 0)) limit (drop (i + 1) digits) (omega arith) above_here in
    sym (in_base_refused base limit digits (subst (λ (o : Option ℕ). IfSome o (λ v. limit + 1 ≤ v)) next stays))
