-- A projection by which everything stays at its place leaves the points that there were.
use Rattle.std.proofs.Common.{◌≡◌, ℕ, ◌+◌, ◌<◌, List, length, Option, None, sym, subst, refl}
use Rattle.std.specs.Prelude.{slice_index_or}
use Rattle.std.proofs.lemmas.List.{length-append}
use Rattle.wm_interval.specs.declared.Interval.{Interval}
use Rattle.wm_domain.specs.Points.{Point, Alike}
use Rattle.wm_domain.specs.States.{count_of, array_count}
use Rattle.wm_domain.specs.Changes.{IsPicked, IsPickedCell, Projected}
use Rattle.wm_tied.specs.Pointed.{TiedView, In, shape_of}
use Rattle.wm_tied.specs.Leaving.{IsLeft}
use Rattle.wm_tied.proofs.Cutting.{in_full}
use Rattle.wm_tied.proofs.Laws.{tied_alike}
use Rattle.wm_tied.proofs.Told.{own_told}
use Rattle.wm_projected.specs.Fitting.{IsIdentity}

module _ (t : TiedView) (group singles arrays : List Interval) (picks array_picks : List (Option ℕ)) (long : length picks ≡ length group + length singles) (arrays_long : length array_picks ≡ length arrays) (same : IsIdentity t group singles arrays picks array_picks) where
  variable_lt : (v : ℕ) → v < count_of (shape_of t) → v < length picks
  variable_lt v h = subst (λ (n : ℕ). v < n) (sym long) (subst (λ (xs : List Interval). v < length group + length xs) same.whole.same_full (subst (λ (xs : List Interval). v < length xs + length t.spans.full) same.whole.same_group (subst (λ (n : ℕ). v < n) (length-append t.group t.spans.full) h)))

  array_lt : (a : ℕ) → a < array_count (shape_of t) → a < length array_picks
  array_lt a h = subst (λ (n : ℕ). a < n) (sym arrays_long) (subst (λ (xs : List Interval). a < length xs) same.whole.same_arrays h)

  number : (v : ℕ) → v < length picks → (was p : Point) → IsPicked (slice_index_or picks v None) was (p.values v) → p.values v ≡ was.values v
  number v h was p i = subst (λ (o : Option ℕ). IsPicked o was (p.values v)) (same.variables v h) i

  cell : (a : ℕ) → a < length array_picks → (was p : Point) → IsPickedCell (slice_index_or array_picks a None) was (p.cells a) → p.cells a ≡ was.cells a
  cell a h was p i = subst (λ (o : Option ℕ). IsPickedCell o was (p.cells a)) (same.cells a h) i

  alike : (p : Point) (d : Projected (In t) picks array_picks p) → Alike (count_of (shape_of t)) (array_count (shape_of t)) d.was p
  alike p d = record {
    numbers = λ v h. number v (variable_lt v h) d.was p (d.numbers v (variable_lt v h));
    cells = λ a h. cell a (array_lt a h) d.was p (d.cells a (array_lt a h));
  }

  own : (p : Point) → In t p → Projected (In t) picks array_picks p
  own p i = record {
    was = p;
    point = i;
    numbers = λ v h. subst (λ (o : Option ℕ). IsPicked o p (p.values v)) (sym (same.variables v h)) refl;
    cells = λ a h. subst (λ (o : Option ℕ). IsPickedCell o p (p.cells a)) (sym (same.cells a h)) refl;
  }

  same_left : IsLeft t (Projected (In t) picks array_picks)
  same_left = record {
    kept = λ p f d. tied_alike t d.was p (alike p d) d.point;
    told = λ p i. own_told t (Projected (In t) picks array_picks) p (own p i) (in_full t p i);
  }

  pub copy_left : (c : TiedView) → c ≡ t → IsLeft c (Projected (In t) picks array_picks)
  copy_left c e = subst (λ (x : TiedView). IsLeft x (Projected (In t) picks array_picks)) (sym e) same_left
