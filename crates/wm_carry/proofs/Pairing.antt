-- What is paired by place is what each variable and each array comes from.
use Rattle.std.proofs.Common.{◌≡◌, inl, inr, ℕ, ◌+◌, ◌-◌, ◌<◌, ◌≤◌, [], length, Some, None, refl, sym, ◌∙◌, ap, subst, arith}
use Rattle.std.specs.Prelude.{slice_index_or}
use Rattle.std.proofs.lemmas.List.{get_or_append_left, get_or-append_right}
use Rattle.wm_domain.specs.declared.shape.Shape.{Shape}
use Rattle.wm_domain.specs.Points.{Point, range_at, nought}
use Rattle.wm_domain.specs.States.{variables_of, count_of, array_count, Keeps, IsLeast}
use Rattle.wm_domain.specs.Places.{places, array_places, ArePaired, Followed}
use Rattle.wm_domain.proofs.Pairs.{placed_length, placed_here, placed_past, places_length, places_group, places_single}
use Rattle.wm_carry.specs.Following.{origin_in, origin, array_origin, IsWay, Moved}
use Rattle.wm_carry.proofs.Ranks.{side, in_here, in_past, in_group, in_singles, count_is, array_here, array_new}
use Rattle.wm_carry.proofs.Carrying.{keeps_moved, of_projected}
use Rattle.wm_carry.proofs.Reaching.{least_as}

none_more : (v : ℕ) → 0 + v ≡ v
none_more v = omega arith

past_first : (h v : ℕ) → h ≤ h + v
past_first h v = omega arith

past_rest : (h v : ℕ) → h + v - h ≡ v
past_rest h v = omega arith

rest_less : (h m v : ℕ) → h ≤ v → v < h + m → v - h < m
rest_less h m v a b = omega arith

more_less : (h m v : ℕ) → v < m → h + v < h + m
more_less h m v a = omega arith

less_more : (h m v : ℕ) → v < h → v < h + m
less_more h m v a = omega arith

in_counted : (t : Shape) (v : ℕ) → v < length t.group + length t.singles → v < count_of t
in_counted t v h = subst (λ (n : ℕ). v < n) (sym (count_is t)) h

module _ (s t : Shape) where
  group_comes : (v : ℕ) → v < length s.group → v < length t.group → origin s t v ≡ Some v
  group_comes v h k = in_group s t v k ∙ in_here 0 (length s.group) v h ∙ ap Some (none_more v)

  single_comes : (v : ℕ) → v < length s.singles → origin s t (length t.group + v) ≡ Some (length s.group + v)
  single_comes v h = in_singles s t (length t.group + v) (past_first (length t.group) v)
      ∙ ap (origin_in (length s.group) (length s.singles)) (past_rest (length t.group) v)
      ∙ in_here (length s.group) (length s.singles) v h

  single_at : (r : Shape) (v : ℕ) → range_at (variables_of r) (length r.group + v) ≡ range_at r.singles v
  single_at r v = get_or-append_right r.group r.singles (length r.group) (length r.group + v) nought refl (past_first (length r.group) v) ∙ ap (range_at r.singles) (past_rest (length r.group) v)

  -- what is paired by place has one full range
  pub way_paired : IsWay s t → ArePaired s t
  way_paired way = record {
    group = λ v h k. sym (get_or_append_left t.group t.singles nought v k)
        ∙ way.alike v v (in_counted t v (less_more (length t.group) (length t.singles) v k)) (group_comes v h k)
        ∙ get_or_append_left s.group s.singles nought v h;
    singles = λ v h k. sym (single_at t v)
        ∙ way.alike (length t.group + v) (length s.group + v) (in_counted t (length t.group + v) (more_less (length t.group) (length t.singles) v k)) (single_comes v h)
        ∙ single_at s v;
    arrays = λ a h k. way.arrays_alike a k h;
  }

  group_each : (v : ℕ) → v < length t.group → slice_index_or (places s t) v None ≡ origin s t v
  group_each v k = places_group (length s.group) (length s.singles) (length t.group) (length t.singles) v k ∙ elim (side v (length s.group)) [
    | inl h ↦ placed_here 0 (length s.group) (length t.group) v h k ∙ sym (in_group s t v k ∙ in_here 0 (length s.group) v h)
    | inr h ↦ placed_past 0 (length s.group) (length t.group) v h ∙ sym (in_group s t v k ∙ in_past 0 (length s.group) v h)
  ]

  single_each : (v : ℕ) → length t.group ≤ v → v < length t.group + length t.singles → slice_index_or (places s t) v None ≡ origin s t v
  single_each v g k = places_single (length s.group) (length s.singles) (length t.group) (length t.singles) v g ∙ elim (side (v - length t.group) (length s.singles)) [
    | inl h ↦ placed_here (length s.group) (length s.singles) (length t.singles) (v - length t.group) h (rest_less (length t.group) (length t.singles) v g k)
        ∙ sym (in_singles s t v g ∙ in_here (length s.group) (length s.singles) (v - length t.group) h)
    | inr h ↦ placed_past (length s.group) (length s.singles) (length t.singles) (v - length t.group) h ∙ sym (in_singles s t v g ∙ in_past (length s.group) (length s.singles) (v - length t.group) h)
  ]

  places_long : length (places s t) ≡ length t.group + length t.singles
  places_long = places_length (length s.group) (length s.singles) (length t.group) (length t.singles)

  arrays_long : length (array_places s t) ≡ array_count t
  arrays_long = placed_length 0 (length s.arrays) (length t.arrays)

  each : (v : ℕ) → v < length (places s t) → slice_index_or (places s t) v None ≡ origin s t v
  each v h = elim (side v (length t.group)) [
    | inl k ↦ group_each v k
    | inr k ↦ single_each v k (subst (λ (n : ℕ). v < n) places_long h)
  ]

  array_each : (a : ℕ) → a < length (array_places s t) → slice_index_or (array_places s t) a None ≡ array_origin s a
  array_each a k = elim (side a (length s.arrays)) [
    | inl h ↦ placed_here 0 (length s.arrays) (length t.arrays) a h (subst (λ (n : ℕ). a < n) arrays_long k) ∙ ap Some (none_more a) ∙ sym (array_here s a h)
    | inr h ↦ placed_past 0 (length s.arrays) (length t.arrays) a h ∙ sym (array_new s a h)
  ]

  pub keeps_followed : {S : Type 0} (Holds : S → Point → Type 0) (shape_of : S → Shape) (state : S) (Has : Point → Type 0) → Keeps Holds shape_of state (Followed s t Has) → Keeps Holds shape_of state (Moved s t Has [] [])
  keeps_followed Holds shape_of state Has k = keeps_moved Holds shape_of state s t Has (places s t) (array_places s t) places_long arrays_long each array_each k

  pub least_followed : {S : Type 0} (Holds : S → Point → Type 0) (shape_of : S → Shape) (state : S) (Has : Point → Type 0) → IsLeast Holds shape_of state (Followed s t Has) → IsLeast Holds shape_of state (Moved s t Has [] [])
  least_followed Holds shape_of state Has l = least_as Holds shape_of state (Followed s t Has) (Moved s t Has [] []) (λ p i m. of_projected s t Has (places s t) (array_places s t) p places_long arrays_long each array_each m) l
