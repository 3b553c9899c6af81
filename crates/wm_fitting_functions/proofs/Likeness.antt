-- Locals that are alike in width, length and kind.
use Rattle.std.proofs.Common.{◌≡◌, ℕ, zero, suc, ◌+◌, Bool, cond, List, [], ◌∷◌, length, map, take, Some, refl, ap, ◌∙◌}
use Rattle.std.specs.List.{fold, count_by}
use Rattle.std.specs.Prelude.{IsSomeAnd, slice_get}
use Rattle.wm_ops.specs.declared.operators.Width.{Width}
use Rattle.wm_program.specs.declared.program.LocalInfo.{LocalInfo}
use Rattle.wm_program.specs.WellFormed.{Slot, slot_of_local}
use Rattle.wm_fitting_declarations.specs.Works.{LikeLocal}

-- those of the first list stand at the same places of the second
abbrev pub AreLike : List LocalInfo → List LocalInfo → Type 0
AreLike xs ys = (k : ℕ) (info : LocalInfo) → slice_get xs k ≡ Some info → IsSomeAnd (slice_get ys k) (LikeLocal info)

abbrev pub is_view : LocalInfo → Bool
is_view info = info.view

slot : Width → Bool → Slot
slot width view = record { width = width; view = view }

slot_like : (x y : LocalInfo) → LikeLocal x y → slot_of_local y ≡ slot_of_local x
slot_like x y h = cc
  where
    w : y.width ≡ x.width
    w = h.width

    v : y.view ≡ x.view
    v = h.view

count_from : (a : ℕ) (xs ys : List LocalInfo) → AreLike xs ys → fold (λ n x. n + cond (is_view x) 1 0) a (take (length xs) ys) ≡ fold (λ n x. n + cond (is_view x) 1 0) a xs
count_from a [] ys h = refl
count_from a (x ∷ xs) [] h = absurd (h zero x refl)
count_from a (x ∷ xs) (y ∷ ys) h =
    ap (λ b. fold (λ n x. n + cond (is_view x) 1 0) (a + cond b 1 0) (take (length xs) ys)) (h zero x refl).view
    ∙ count_from (a + cond (is_view x) 1 0) xs ys (λ k info e. h (suc k) info e)

pub count_like : (xs ys : List LocalInfo) → AreLike xs ys → count_by is_view (take (length xs) ys) ≡ count_by is_view xs
count_like xs ys h = count_from 0 xs ys h

pub slots_like : (xs ys : List LocalInfo) → AreLike xs ys → map slot_of_local (take (length xs) ys) ≡ map slot_of_local xs
slots_like [] ys h = refl
slots_like (x ∷ xs) [] h = absurd (h zero x refl)
slots_like (x ∷ xs) (y ∷ ys) h =
    ap (λ s. s ∷ map slot_of_local (take (length xs) ys)) (slot_like x y (h zero x refl))
    ∙ ap (λ ss. slot_of_local x ∷ ss) (slots_like xs ys (λ k info e. h (suc k) info e))
