-- A number above the greatest number of stages stays above it, whatever digits follow.
use Rattle.std.proofs.Common.{◌≡◌, refl, ℕ, ◌+◌, ◌-◌, ◌*◌, ◌<◌, true, false, cond, List, [], ◌∷◌, Some, None, arith, rules, length, drop, slice_index_or}
use Rattle.std.proofs.lemmas.List.{drop_more}
use Rattle.std.specs.Char.{is_ascii_digit}
use Rattle.wm_words.specs.Stages.{spelled_after, in_range}

out_of_range : (n : ℕ) → 500 < n → in_range (Some n) ≡ None
out_of_range n above = search rules

pub stays_above : (n : ℕ) (bytes : List ℕ) → 500 < n → in_range (spelled_after n bytes) ≡ None
stays_above n [] above = out_of_range n above
stays_above n (byte ∷ bytes) above =
    elim (is_ascii_digit byte) as (λ digit. in_range (cond digit (spelled_after (10 * n + (byte - 48)) bytes) None) ≡ None) [
      | true ↦ stays_above (10 * n + (byte - 48)) bytes (omega (arith, above))
      | false ↦ refl
    ]

-- the digit at a place takes the number out of range
pub gone_above : (n i : ℕ) (word : List ℕ) → i < length word → is_ascii_digit (slice_index_or word i 0) ≡ true → 500 < 10 * n + (slice_index_or word i 0 - 48) → in_range (spelled_after n (drop i word)) ≡ None
gone_above n i word within digit above =
    rw (drop_more word i 0 within, digit) (stays_above (10 * n + (slice_index_or word i 0 - 48)) (drop (i + 1) word) above)
