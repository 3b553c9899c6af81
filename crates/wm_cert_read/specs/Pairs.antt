-- When the line of a pair may follow what has been read.
use Rattle.std.specs.Prelude.{ℕ, ◌-◌, Bool, true, false, if◌then◌else◌, ◌==◌, nat_lt, nat_le, List, ℤ, pos, ◌+ℤ◌, ◌-ℤ◌, int_lt, int_le, length, Option, Some, None, slice_get, slice_index_or}
use Rattle.wm_cert_text.specs.declared.told.Ends.{Ends}
use Rattle.wm_cert_text.specs.declared.told.Kind.{Kind}
use Rattle.wm_cert_text.specs.declared.told.Kind.TheVariants.{Minus, Plus}
use Rattle.wm_cert_text.specs.declared.told.Pair.{Pair}

abbrev pub no_ends : Ends
no_ends = record { low = pos 0; high = pos 0 }

abbrev pub ends_at : List Ends → ℕ → Ends
ends_at bounds k = slice_index_or bounds k no_ends

-- what two ranges give for a pair
abbrev pub given : Kind → Ends → Ends → Ends
given Minus a b = record { low = a.low -ℤ b.high; high = a.high -ℤ b.low }
given Plus a b = record { low = a.low +ℤ b.low; high = a.high +ℤ b.high }

-- tighter at one end, and at no end wider
abbrev pub is_tighter : (inner outer : Ends) → Bool
is_tighter inner outer =
    if int_lt inner.low outer.low then false
    else if int_lt outer.high inner.high then false
    else if int_lt outer.low inner.low then true
    else int_lt inner.high outer.high

-- the order of the pairs: by the first variable, by the second, and the difference before the sum
abbrev pub before_kind : Kind → Kind → Bool
before_kind Minus Minus = false
before_kind Minus Plus = true
before_kind Plus it = false

abbrev pub is_before : Pair → Pair → Bool
is_before a b =
    if nat_lt a.first b.first then true
    else if nat_lt b.first a.first then false
    else if nat_lt a.second b.second then true
    else if nat_lt b.second a.second then false
    else before_kind a.kind b.kind

abbrev pub follows : Option Pair → Pair → Bool
follows None pair = true
follows (Some last) pair = is_before last pair

unfoldable pub is_next : List Pair → Pair → Bool
is_next pairs pair = follows (slice_get pairs (length pairs - 1)) pair

-- two different variables that are bounded, of the 32 of a group
abbrev pub is_of : ℕ → Pair → Bool
is_of count pair =
    if nat_lt pair.first pair.second then (if nat_lt pair.second count then nat_lt pair.second 32 else false) else false

unfoldable pub tells : List Ends → Pair → Bool
tells bounds pair = is_tighter pair.ends (given pair.kind (ends_at bounds pair.first) (ends_at bounds pair.second))

unfoldable pub fits_pair : List Ends → List Pair → Pair → Bool
fits_pair bounds pairs pair =
    if is_of (length bounds) pair then (if is_next pairs pair then tells bounds pair else false) else false
