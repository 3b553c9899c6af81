-- What is told of one object after another.
use Rattle.std.proofs.Common.{◌≡◌, ◌⊎◌, inl, inr, ℕ, zero, suc, List, [], ◌∷◌, ◌++◌, Option, Some, length, refl, subst, sym, ap, ◌∙◌}
use Rattle.std.specs.Prelude.{slice_get}
use Rattle.wm_arrays.specs.declared.summary.Summary.{Summary}
use Rattle.wm_domain.specs.Points.{Point}
use Rattle.wm_flow.specs.declared.seats.Seat.{Seat}
use Rattle.wm_program.specs.declared.program.ObjectInfo.{ObjectInfo}
use Rattle.wm_state_lines.specs.Lines.{IsToldOf}

some_there : {X : Type 0} (x y : X) → Some x ≡ Some y → x ≡ y
some_there x y e = cc

got_cases : {X : Type 0} (xs : List X) (x y : X) (k : ℕ) → slice_get (xs ++ x ∷ []) k ≡ Some y → (slice_get xs k ≡ Some y) ⊎ ((k ≡ length xs) × (x ≡ y))
got_cases [] x y zero e = inr (refl, some_there x y e)
got_cases [] x y (suc k) e = inl e
got_cases (z ∷ xs) x y zero e = inl e
got_cases (z ∷ xs) x y (suc k) e = later (got_cases xs x y k e)
  where
    later : (slice_get xs k ≡ Some y) ⊎ ((k ≡ length xs) × (x ≡ y)) → (slice_get xs k ≡ Some y) ⊎ ((suc k ≡ suc (length xs)) × (x ≡ y))
    later (inl h) = inl h
    later (inr h) = inr (ap suc h.0, h.1)

module _ (Has : Point → Type 0) where
  abbrev pub Each : List ObjectInfo → List Seat → List (Option Summary) → Type 0
  Each objects seats told = (k : ℕ) (object : ObjectInfo) (place : Seat) (own : Option Summary) → slice_get objects k ≡ Some object → slice_get seats k ≡ Some place → slice_get told k ≡ Some own
      → IsToldOf Has object.input place own

  pub told_push : (objects : List ObjectInfo) (seats : List Seat) (told next : List (Option Summary)) (n : ℕ) (object : ObjectInfo) (place : Seat) (own : Option Summary) → next ≡ told ++ own ∷ [] → length told ≡ n → Each objects seats told
      → slice_get objects n ≡ Some object → slice_get seats n ≡ Some place → IsToldOf Has object.input place own → Each objects seats next
  told_push objects seats told next n object place own pushed count each o s is = λ k another other one ok sk tk.
      by k another other one ok sk (got_cases told own one k (subst (λ ts. slice_get ts k ≡ Some one) pushed tk))
    where
      by : (k : ℕ) (another : ObjectInfo) (other : Seat) (one : Option Summary) → slice_get objects k ≡ Some another → slice_get seats k ≡ Some other → (slice_get told k ≡ Some one) ⊎ ((k ≡ length told) × (own ≡ one))
          → IsToldOf Has another.input other one
      by k another other one ok sk (inl t) = each k another other one ok sk t
      by k another other one ok sk (inr e) =
          let objects_same : object ≡ another = some_there object another (sym o ∙ ap (slice_get objects) (sym (e.0 ∙ count)) ∙ ok) in
          let seats_same : place ≡ other = some_there place other (sym s ∙ ap (slice_get seats) (sym (e.0 ∙ count)) ∙ sk) in
          subst (λ (u : Option Summary). IsToldOf Has another.input other u) e.1
          (subst (λ (u : Seat). IsToldOf Has another.input u own) seats_same
          (subst (λ (u : ObjectInfo). IsToldOf Has u.input place own) objects_same is))
