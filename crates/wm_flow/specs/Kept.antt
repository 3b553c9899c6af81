-- Forms in a fixed room: sums of at most two terms of different variables and a constant below 2^50 in size.
use Rattle.std.specs.Prelude.{ℕ, Bool, true, false, not, ◌&&◌, ◌||◌, if◌then◌else◌, ◌==◌, nat_lt, List, [], ◌∷◌, ◌++◌, ℤ, pos, negsuc, neg_ℤ, ◌+ℤ◌, ◌*ℤ◌, Option, Some, None, int_lt, slice_index_or}
use Rattle.std.specs.Option.{option_map_or}
use Rattle.wm_domain.specs.declared.form.Term.{Term}
use Rattle.wm_domain.specs.declared.form.Form.{Form}
use Rattle.wm_flow.specs.declared.kept.Kept.{Kept}
use Rattle.wm_flow.specs.declared.kept.Pair.{Pair}

abbrev pub constant : ℤ → Kept
constant z = record { first = None; second = None; constant = z }

abbrev pub variable : ℕ → Kept
variable v = record { first = Some (record { variable = v; negative = false }); second = None; constant = pos 0 }

-- ---- what it is

abbrev pub terms_of : Option Term → List Term
terms_of None = []
terms_of (Some term) = term ∷ []

abbrev pub form_of : Kept → Form
form_of kept = record { terms = terms_of kept.first ++ terms_of kept.second; constant = kept.constant }

abbrev pub all_terms : (Term → Bool) → Kept → Bool
all_terms test kept = option_map_or test kept.first true && option_map_or test kept.second true

abbrev pub any_term : (Term → Bool) → Kept → Bool
any_term test kept = option_map_or test kept.first false || option_map_or test kept.second false

-- all its variables are below this number
abbrev pub is_below : ℕ → Kept → Bool
is_below limit = all_terms (λ term. nat_lt term.variable limit)

-- a variable or a constant, and nothing more
abbrev pub is_zero : ℤ → Bool
is_zero z = if int_lt z (pos 0) then false else if int_lt (pos 0) z then false else true

abbrev pub is_plain : Option Term → Option Term → ℤ → Bool
is_plain None second z = true
is_plain (Some term) None z = not term.negative && is_zero z
is_plain (Some term) (Some other) z = false

abbrev pub is_side : Kept → Bool
is_side kept = is_plain kept.first kept.second kept.constant

-- ---- sums and differences

abbrev pub turned : Bool → Bool → Bool
turned true negative = not negative
turned false negative = negative

abbrev pub turned_term : Bool → Term → Term
turned_term turn term = record term { negative = turned turn term.negative }

abbrev pub turned_terms : Bool → Option Term → Option Term
turned_terms turn None = None
turned_terms turn (Some term) = Some (turned_term turn term)

abbrev pub turned_number : Bool → ℤ → ℤ
turned_number true z = neg_ℤ z
turned_number false z = z

-- the form itself, or its negative
abbrev pub signed : Bool → Kept → Kept
signed turn kept =
    record {
      first = turned_terms turn kept.first;
      second = turned_terms turn kept.second;
      constant = turned_number turn kept.constant;
    }

abbrev pub negative_of : Kept → Kept
negative_of = signed true

abbrev pub same_variable : Term → Term → Bool
same_variable a b = a.variable == b.variable

abbrev pub same_sign : Bool → Bool → Bool
same_sign true b = b
same_sign false b = not b

-- one more term: a term that cancels goes, a new one stands last; none where a variable would stand twice or there is no
-- room
abbrev pub with_second : Term → Term → Option Term → Option Pair
with_second term a None =
    if same_variable a term
    then (if same_sign a.negative term.negative then None else Some (record { first = None; second = None }))
    else Some (record { first = Some a; second = Some term })
with_second term a (Some b) =
    if same_variable a term
    then (if same_sign a.negative term.negative then None else Some (record { first = Some b; second = None }))
    else if same_variable b term
    then (if same_sign b.negative term.negative then None else Some (record { first = Some a; second = None }))
    else None

unfoldable pub with_term : Term → Option Term → Option Term → Option Pair
with_term term None second = Some (record { first = Some term; second = None })
with_term term (Some a) second = with_second term a second

-- the term stands in the pair
abbrev pub has_variable : Term → Option Term → Option Term → Bool
has_variable term first second =
    option_map_or (same_variable term) first false || option_map_or (same_variable term) second false

abbrev pub then_term : Term → Option Pair → Option Pair
then_term term None = None
then_term term (Some pair) = with_term term pair.first pair.second

-- two more terms of different variables, one that cancels first
unfoldable pub with_terms : Option Term → Option Term → Option Term → Option Term → Option Pair
with_terms a b None other = Some (record { first = a; second = b })
with_terms a b (Some c) None = with_term c a b
with_terms a b (Some c) (Some d) =
    if has_variable d a b then then_term c (with_term d a b) else then_term d (with_term c a b)

-- where the constant is below 2^50 in size
abbrev pub kept_of : Option Pair → ℤ → Option Kept
kept_of None z = None
kept_of (Some pair) z =
    if int_lt (negsuc 1125899906842623) z
    then (if int_lt z (pos 1125899906842624) then Some (record { first = pair.first; second = pair.second; constant = z }) else None)
    else None

-- the sum, or the difference where the second is turned; none where it is no form
unfoldable pub collected : Kept → Bool → Kept → Option Kept
collected a turn b =
    kept_of (with_terms a.first a.second (turned_terms turn b.first) (turned_terms turn b.second))
    (a.constant +ℤ turned_number turn b.constant)

-- ---- the value at a point: the numbers of the variables in their order

abbrev pub at : List ℤ → ℕ → ℤ
at point v = slice_index_or point v (pos 0)

abbrev pub term_value : List ℤ → Term → ℤ
term_value point term = turned_number term.negative (at point term.variable)

abbrev pub terms_value : List ℤ → List Term → ℤ
terms_value point [] = pos 0
terms_value point (term ∷ rest) = term_value point term +ℤ terms_value point rest

abbrev pub form_value : List ℤ → Form → ℤ
form_value point form = terms_value point form.terms +ℤ form.constant
