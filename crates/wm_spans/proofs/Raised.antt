-- Joins and inclusion, as the code has them over the lists of a state.
use Rattle.std.proofs.Common.{◌≡◌, ◌⊎◌, inl, inr, ℕ, ◌<◌, ℤ, List, ◌++◌, length, take, Bool, false, true, sym, ◌∙◌, ap, subst, refl, arith}
use Rattle.std.specs.Prelude.{◌↔◌, IsTrue}
use Rattle.std.proofs.Math.Seq.{take-append_seam}
use Rattle.std.proofs.lemmas.Int.{ints, clamps}
use Rattle.wm_interval.specs.declared.Interval.{Interval}
use Rattle.wm_arrays.specs.declared.summary.Summary.{Summary}
use Rattle.wm_arrays.specs.declared.summary.Summary.TheVariants.{Empty, Range}
use Rattle.wm_arrays.specs.Meaning.{Allows, IsEither, IsLeastFor, IsIncluded}
use Rattle.wm_interval.specs.Holds.{Holds}
use Rattle.wm_domain.specs.Points.{range_at}
use Rattle.wm_spans.specs.Spanned.{Spanned, cell_at, Lies, CellsLie, IsKept, Kept}
use Rattle.wm_spans.specs.Exact.{IsJoined, IsRaised, IsBelow}
use Rattle.wm_spans.proofs.Listed.{cell_lies_holds}

never : {P : Type 0} → IsTrue false → P
never t = cc

pub written_back : {A : Type 0} (xs ys : List A) (n : ℕ) → length xs ≡ n → take n (xs ++ ys) ≡ xs
written_back xs ys n e = subst (λ (k : ℕ). take k (xs ++ ys) ≡ xs) e (take-append_seam xs ys)

-- a state from its parts
abbrev pub state_of : List Interval → List Interval → List Interval → List Summary → Bool → Spanned
state_of full array_full ranges cells empty = record { full = full; array_full = array_full; ranges = ranges; cells = cells; empty = empty }

joined_lies : (full a b r : Interval) → Lies full a → Lies full b → IsJoined a b r → Lies full r
joined_lies full a b r h k j = record { above = omega (arith, ints, clamps, h.above, k.above, j.low); below = omega (arith, ints, clamps, h.below, k.below, j.high) }

least_lies : (full : Interval) (a b t : Summary) → CellsLie full a → CellsLie full b → IsLeastFor (IsEither a b) t → CellsLie full t
least_lies full a b Empty h k l = tt
least_lies full a b (Range i) h k l = record { above = (held i.low l.low_is.attained).above; below = (held i.high l.high_is.attained).below }
  where
    held : (z : ℤ) → IsEither a b z → Holds full z
    held z (inl w) = cell_lies_holds full a z h w
    held z (inr w) = cell_lies_holds full b z k w

-- the lists in their places
pub joined_as : (xs ys ns rs os : List Interval) → xs ≡ rs → ys ≡ os → ((v : ℕ) → v < length xs → IsJoined (range_at xs v) (range_at ys v) (range_at ns v)) → (v : ℕ) → v < length rs → IsJoined (range_at rs v) (range_at os v) (range_at ns v)
joined_as xs ys ns rs os e f each = subst (λ (l : List Interval). (v : ℕ) → v < length l → IsJoined (range_at l v) (range_at os v) (range_at ns v)) e
    (subst (λ (l : List Interval). (v : ℕ) → v < length xs → IsJoined (range_at xs v) (range_at l v) (range_at ns v)) f each)

pub least_as : (xs ys ns cs ds : List Summary) → xs ≡ cs → ys ≡ ds → ((v : ℕ) → v < length xs → IsLeastFor (IsEither (cell_at xs v) (cell_at ys v)) (cell_at ns v)) → (v : ℕ) → v < length cs → IsLeastFor (IsEither (cell_at cs v) (cell_at ds v)) (cell_at ns v)
least_as xs ys ns cs ds e f each = subst (λ (l : List Summary). (v : ℕ) → v < length l → IsLeastFor (IsEither (cell_at l v) (cell_at ds v)) (cell_at ns v)) e
    (subst (λ (l : List Summary). (v : ℕ) → v < length xs → IsLeastFor (IsEither (cell_at xs v) (cell_at l v)) (cell_at ns v)) f each)

pub moved_kept : (full array_full others other_arrays os : List Interval) (ds : List Summary) → full ≡ others → array_full ≡ other_arrays → IsKept others other_arrays os ds → IsKept full array_full os ds
moved_kept full array_full others other_arrays os ds e f k = subst (λ (xs : List Interval). IsKept xs array_full os ds) (sym e) (subst (λ (xs : List Interval). IsKept others xs os ds) (sym f) k)

module _ (full array_full rs os ns : List Interval) (cs ds es : List Summary) (k : IsKept full array_full rs cs) (l : IsKept full array_full os ds) (rl : length ns ≡ length rs) (cl : length es ≡ length cs)
    (ranges : (v : ℕ) → v < length rs → IsJoined (range_at rs v) (range_at os v) (range_at ns v)) (cells : (a : ℕ) → a < length cs → IsLeastFor (IsEither (cell_at cs a) (cell_at ds a)) (cell_at es a)) where
  joined_at : (v : ℕ) → v < length full → IsJoined (range_at rs v) (range_at os v) (range_at ns v)
  joined_at v h = ranges v (subst (λ (n : ℕ). v < n) (sym k.ranges_long) h)

  least_at : (a : ℕ) → a < length array_full → IsLeastFor (IsEither (cell_at cs a) (cell_at ds a)) (cell_at es a)
  least_at a h = cells a (subst (λ (n : ℕ). a < n) (sym k.cells_long) h)

  pub kept_raised : IsKept full array_full ns es
  kept_raised = record {
    ranges_long = rl ∙ k.ranges_long;
    cells_long = cl ∙ k.cells_long;
    narrow = k.narrow;
    ranges_lie = λ v h. joined_lies (range_at full v) (range_at rs v) (range_at os v) (range_at ns v) (k.ranges_lie v h) (l.ranges_lie v h) (joined_at v h);
    cells_lie = λ a h. least_lies (range_at array_full a) (cell_at cs a) (cell_at ds a) (cell_at es a) (k.cells_lie a h) (l.cells_lie a h) (least_at a h);
  }

  pub raised : (e b : Bool) (others other_arrays : List Interval) → IsRaised (record { full = full; array_full = array_full; ranges = rs; cells = cs; empty = e }) (record { full = others; array_full = other_arrays; ranges = os; cells = ds; empty = b })
      (record { full = full; array_full = array_full; ranges = ns; cells = es; empty = e })
  raised e b others other_arrays = record { full = refl; array_full = refl; empty = refl; kept = kept_raised; ranges = joined_at; summaries = least_at }

-- ---- inclusion

module _ (s t : Spanned) (ks : Kept s) (xs ys : List Interval) (ex : xs ≡ s.ranges) (ey : ys ≡ t.ranges) (is : Bool) (h : IsTrue is ↔ ((v : ℕ) → v < length xs → Lies (range_at ys v) (range_at xs v))) where
  lies_to : ((v : ℕ) → v < length s.full → Lies (range_at t.ranges v) (range_at s.ranges v)) → (v : ℕ) → v < length xs → Lies (range_at ys v) (range_at xs v)
  lies_to all = subst (λ (l : List Interval). (v : ℕ) → v < length l → Lies (range_at ys v) (range_at l v)) (sym ex) (subst (λ (l : List Interval). (v : ℕ) → v < length s.ranges → Lies (range_at l v) (range_at s.ranges v)) (sym ey)
      (λ v hv. all v (subst (λ (n : ℕ). v < n) ks.ranges_long hv)))

  lies_back : ((v : ℕ) → v < length xs → Lies (range_at ys v) (range_at xs v)) → (v : ℕ) → v < length s.full → Lies (range_at t.ranges v) (range_at s.ranges v)
  lies_back all v hv = (subst (λ (l : List Interval). (v : ℕ) → v < length l → Lies (range_at t.ranges v) (range_at l v)) ex (subst (λ (l : List Interval). (v : ℕ) → v < length xs → Lies (range_at l v) (range_at xs v)) ey all)) v
      (subst (λ (n : ℕ). v < n) (sym ks.ranges_long) hv)

  pub not_below : is ≡ false → IsTrue false ↔ IsBelow s t
  not_below e = (λ y. never y, λ b. subst IsTrue e (h.1 (lies_to b.ranges)))

  module _ (yes : is ≡ true) (cs ds : List Summary) (ec : cs ≡ s.cells) (ed : ds ≡ t.cells) (too : Bool) (k : IsTrue too ↔ ((a : ℕ) → a < length cs → IsIncluded (cell_at cs a) (cell_at ds a))) where
    cells_to : ((a : ℕ) → a < length s.array_full → IsIncluded (cell_at s.cells a) (cell_at t.cells a)) → (a : ℕ) → a < length cs → IsIncluded (cell_at cs a) (cell_at ds a)
    cells_to all = subst (λ (l : List Summary). (a : ℕ) → a < length l → IsIncluded (cell_at l a) (cell_at ds a)) (sym ec) (subst (λ (l : List Summary). (a : ℕ) → a < length s.cells → IsIncluded (cell_at s.cells a) (cell_at l a)) (sym ed)
        (λ a ha. all a (subst (λ (n : ℕ). a < n) ks.cells_long ha)))

    cells_back : ((a : ℕ) → a < length cs → IsIncluded (cell_at cs a) (cell_at ds a)) → (a : ℕ) → a < length s.array_full → IsIncluded (cell_at s.cells a) (cell_at t.cells a)
    cells_back all a ha = (subst (λ (l : List Summary). (a : ℕ) → a < length l → IsIncluded (cell_at l a) (cell_at t.cells a)) ec (subst (λ (l : List Summary). (a : ℕ) → a < length cs → IsIncluded (cell_at cs a) (cell_at l a)) ed all)) a
        (subst (λ (n : ℕ). a < n) (sym ks.cells_long) ha)

    pub both_below : IsTrue too ↔ IsBelow s t
    both_below = (λ y. record { ranges = lies_back (h.0 (subst IsTrue (sym yes) refl)); summaries = cells_back (k.0 y) }, λ b. k.1 (cells_to b.summaries))
