-- Lists that grow at their ends.
use Rattle.std.proofs.Common.{◌≡◌, ℕ, ◌+◌, ◌<◌, ℤ, List, [], ◌∷◌, ◌++◌, length, get_or, sym, ap, ◌∙◌, subst, below_more}
use Rattle.std.proofs.lemmas.List.{length_push, get_or_append_left, get_or_push}
use Rattle.std.specs.Prelude.{All}
use Rattle.std.proofs.lemmas.List.{map-append}
use Rattle.std.proofs.lemmas.List.Elements.{All-push}
use Rattle.wm_arrays.specs.declared.summary.Summary.{Summary}
use Rattle.wm_arrays.specs.declared.summary.Summary.TheVariants as summary
use Rattle.wm_arrays.specs.Meaning.{IsLeastFor}
use Rattle.wm_domain.specs.Points.{Point}
use Rattle.wm_domain.specs.Changes.{IsValueOf, IsFormValue, IsCellOf}
use Rattle.wm_domain.specs.declared.form.Form.{Form}
use Rattle.wm_interval.specs.declared.Interval.{Interval}
use Rattle.wm_interval.specs.Holds.{IsHullOf}
use Rattle.wm_cert_text.specs.declared.told.Cells.{Cells}
use Rattle.wm_cert_text.specs.declared.told.Cells.TheVariants.{Empty}
use Rattle.wm_cert_text.specs.declared.told.Ends.{Ends}
use Rattle.wm_cert_text.specs.declared.told.Pair.{Pair}
use Rattle.wm_told.specs.Tells.{IsPairOf, name_of, names_of, AreEnds, AreCells, AreRanges, AreArrays, cells_of, no_ends}

each_pushed : {A : Type 0} (P : ℕ → A → Type 0) (n : ℕ) (xs : List A) (x d : A) → length xs ≡ n
    → ((k : ℕ) → k < n → P k (get_or xs k d)) → P n x → (k : ℕ) → k < n + 1 → P k (get_or (xs ++ x ∷ []) k d)
each_pushed P n xs x d e h p =
    below_more (λ k. P k (get_or (xs ++ x ∷ []) k d)) n
    (λ k hk. subst (P k) (sym (get_or_append_left xs (x ∷ []) d k (subst (λ m. k < m) (sym e) hk))) (h k hk))
    (subst (P n) (sym (get_or_push xs x d n e)) p)

longer : {A : Type 0} (n : ℕ) (xs : List A) (x : A) → length xs ≡ n → length (xs ++ x ∷ []) ≡ n + 1
longer n xs x e = length_push xs x ∙ ap (λ m. m + 1) e

pub ranges_pushed : (Has : Point → Type 0) (n : ℕ) (xs : List Ends) (x : Ends) → AreRanges Has n xs → AreEnds (IsValueOf Has n) x → AreRanges Has (n + 1) (xs ++ x ∷ [])
ranges_pushed Has n xs x h e = record {
  long = longer n xs x h.long;
  each = each_pushed (λ k it. AreEnds (IsValueOf Has k) it) n xs x no_ends h.long h.each e;
}

pub arrays_pushed : (Has : Point → Type 0) (n : ℕ) (xs : List Cells) (x : Cells) → AreArrays Has n xs → AreCells (IsCellOf Has n) x → AreArrays Has (n + 1) (xs ++ x ∷ [])
arrays_pushed Has n xs x h e = record {
  long = longer n xs x h.long;
  each = each_pushed (λ k it. AreCells (IsCellOf Has k) it) n xs x Empty h.long h.each e;
}

-- the least summary tells the cells
pub cells_told : (Is : ℤ → Type 0) (s : Summary) → IsLeastFor Is s → AreCells Is (cells_of s)
cells_told Is summary.Empty h = h
cells_told Is (summary.Range range) h = record { low_is = h.low_is; high_is = h.high_is }

-- ---- pairs
pub right_pushed : (Has : Point → Type 0) (xs : List Pair) (x : Pair) → All (IsPairOf Has) xs → IsPairOf Has x → All (IsPairOf Has) (xs ++ x ∷ [])
right_pushed Has xs x h k = All-push (IsPairOf Has) xs x h k

pub names_pushed : (xs : List Pair) (x : Pair) → names_of (xs ++ x ∷ []) ≡ names_of xs ++ name_of x ∷ []
names_pushed xs x = map-append name_of xs (x ∷ [])

pub form_ends : (Has : Point → Type 0) (f h : Form) (range : Interval) (ends : Ends) → f ≡ h → IsHullOf (IsFormValue Has f) range → ends ≡ record { low = range.low; high = range.high } → AreEnds (IsFormValue Has h) ends
form_ends Has f h range ends e k s =
    subst (λ x. AreEnds (IsFormValue Has x) ends) e
    (subst (AreEnds (IsFormValue Has f)) (sym s) (record { low_is = k.low_is; high_is = k.high_is }))
