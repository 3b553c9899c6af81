-- What picked variables and arrays leave of ties beside ranges and summaries.
use Rattle.std.proofs.Common.{◌≡◌, ◌≢◌, ◌⊎◌, inl, inr, ℕ, zero, suc, ◌+◌, ◌-◌, ◌*◌, ◌/◌, ◌<◌, ◌≤◌, ℤ, ◌≤ℤ◌, ◌+ℤ◌, ◌-ℤ◌, List, [], ◌∷◌, ◌++◌, length, Option, Some, None, Bool, true, false, cond, nat_lt, sym, ◌∙◌, ap, subst, arith, refl, All}
use Rattle.std.specs.Prelude.{slice_index_or, IfSome}
use Rattle.std.proofs.lemmas.Bool.{cases_eq, cases_lt}
use Rattle.std.proofs.lemmas.Int.{ints}
use Rattle.std.proofs.lemmas.List.{length-append, get_or_append_left, get_or-append_right}
use Rattle.std.proofs.lemmas.List.Elements.{All-get_or}
use Rattle.std.proofs.Math.ListN.{get_or-map}
use Rattle.wm_numbers.specs.Within.{Within}
use Rattle.wm_numbers.proofs.Order.{le_refl, le_trans, le_of_eq, low_within, high_within}
use Rattle.wm_interval.specs.declared.Interval.{Interval}
use Rattle.wm_interval.specs.Holds.{Holds, IsHullOf}
use Rattle.wm_arrays.specs.declared.summary.Summary.{Summary}
use Rattle.wm_arrays.specs.Meaning.{Allows}
use Rattle.wm_domain.specs.declared.form.Term.{Term}
use Rattle.wm_domain.specs.Points.{Point, range_at, nought, IsNarrow, IsInside, SameBut, SameButCell, AllowsCell}
use Rattle.wm_domain.specs.Forms.{signed, term_value}
use Rattle.wm_domain.specs.Changes.{IsValueOf, Projected, ArePicks, IsPicked, IsPickedCell}
use Rattle.wm_domain.specs.States.{IsReached, IsCellTold, IsTold}
use Rattle.wm_domain.proofs.Moving.{with_value, with_value-but, moved-here, moved-there}
use Rattle.wm_octagon.specs.View.{OctagonView, IsLeast}
use Rattle.wm_octagon.specs.View as view
use Rattle.wm_octagon.specs.Ranges.{low_of, high_of}
use Rattle.wm_octagon.specs.Projecting.{picked, ProjectedOf}
use Rattle.wm_octagon.specs.Projecting as drawing
use Rattle.wm_ties.specs.Exact.{AreInside}
use Rattle.wm_ties.proofs.Reach.{reach_range, holds_of}
use Rattle.wm_spans.specs.Spanned.{Spanned, cell_at}
use Rattle.wm_spans.specs.Spanned as spanned
use Rattle.wm_spans.specs.Exact.{Exactly, IsDrawn, AreDrawn}
use Rattle.wm_spans.proofs.Ends.{in_but, in_but_cell}
use Rattle.wm_spans.proofs.Writing.{with_cell, with_cell-but, cell_moved-here, cell_moved-there}
use Rattle.wm_tied.specs.Pointed.{TiedView, IsTied, In, HasPoint, InFull, shape_of, shifted}
use Rattle.wm_tied.specs.Leaving.{IsExactly, Inside, IsLeft}
use Rattle.wm_tied.specs.Projecting.{ArePicked, IsDrawnRange, kept_pick, AreWithin}
use Rattle.wm_tied.proofs.Mixed.{mix, mix-group, mix-past, mix-single, mixed, mixed_in, ties_alike}
use Rattle.wm_tied.proofs.Cutting.{past_number, past_lt, full_spans}

-- ---- lists and picks

pub any_default : {A : Type 0} (xs : List A) (k : ℕ) (d e : A) → k < length xs → slice_index_or xs k d ≡ slice_index_or xs k e
any_default [] k d e h = absurd (omega arith)
any_default (x ∷ xs) zero d e h = refl
any_default (x ∷ xs) (suc k) d e h = any_default xs k d e (omega arith)

pub all_of : (P : Interval → Type 0) (xs : List Interval) → ((k : ℕ) → k < length xs → P (range_at xs k)) → All P xs
all_of P xs h = λ k d hk. subst P (any_default xs k nought d hk) (h k hk)

all_named : (n : ℕ) (xs : List (Option ℕ)) → ((k : ℕ) → k < length xs → IfSome (slice_index_or xs k None) (λ v. v < n)) → All (λ (p : Option ℕ). IfSome p (λ v. v < n)) xs
all_named n xs h = λ k d hk. subst (λ (p : Option ℕ). IfSome p (λ v. v < n)) (any_default xs k None d hk) (h k hk)

pub kept_in : (n v : ℕ) → v < n → kept_pick n (Some v) ≡ Some v
kept_in n v h = let e : nat_lt v n ≡ true = grind arith in rw e refl

pub kept_out : (n v : ℕ) → n ≤ v → kept_pick n (Some v) ≡ None
kept_out n v h = let e : nat_lt v n ≡ false = grind arith in rw e refl

kept_by : (n : ℕ) (o p : Option ℕ) → p ≡ kept_pick n o → IfSome p (λ v. v < n)
kept_by n None p e = subst (λ (x : Option ℕ). IfSome x (λ v. v < n)) (sym e) tt
kept_by n (Some u) p e = elim (cases_lt u n) [
  | inl h ↦ subst (λ (x : Option ℕ). IfSome x (λ v. v < n)) (sym (e ∙ kept_in n u h)) h
  | inr h ↦ subst (λ (x : Option ℕ). IfSome x (λ v. v < n)) (sym (e ∙ kept_out n u h)) tt
]

pub kept_named : (n m : ℕ) (keep picks : List (Option ℕ)) → length keep ≡ m → ((k : ℕ) → k < m → slice_index_or keep k None ≡ kept_pick n (slice_index_or picks k None)) → All (λ (p : Option ℕ). IfSome p (λ v. v < n)) keep
kept_named n m keep picks long each = all_named n keep (λ k hk. kept_by n (slice_index_or picks k None) (slice_index_or keep k None) (each k (subst (λ (j : ℕ). k < j) long hk)))

pub none_some : {P : Type 0} (o : Option ℕ) (v : ℕ) → o ≡ None → o ≡ Some v → P
none_some o v e f = cc

pub same_some : (o : Option ℕ) (u v : ℕ) → o ≡ Some u → o ≡ Some v → u ≡ v
same_some o u v e f = cc

last_or : (k n : ℕ) → k < suc n → (k < n) ⊎ (k ≡ n)
last_or k n h = grind arith

less_not : (k n : ℕ) → k < n → k ≢ n
less_not k n h = omega arith

below_zero : {P : Type 0} (k : ℕ) → k < 0 → P
below_zero k h = absurd (omega arith)

not_both_sides : {P : Type 0} (u n : ℕ) → u < n → n ≤ u → P
not_both_sides u n h k = absurd (omega arith)

-- the number of a variable that is not of the ties
abbrev pub alone : ℕ → Option ℕ → (ℕ → ℤ) → ℤ → ℤ
alone n None z w = w
alone n (Some v) z w = cond (nat_lt v n) (z v) w

pub alone-none : (n : ℕ) (o : Option ℕ) (z : ℕ → ℤ) (w : ℤ) → o ≡ None → alone n o z w ≡ w
alone-none n None z w e = refl
alone-none n (Some v) z w e = cc

pub alone-own : (n : ℕ) (o : Option ℕ) (z : ℕ → ℤ) (w : ℤ) (v : ℕ) → o ≡ Some v → v < n → alone n o z w ≡ z v
alone-own n None z w v e h = cc
alone-own n (Some u) z w v e h = let f : u ≡ v = same_some (Some u) u v refl e in let g : nat_lt u n ≡ true = grind arith in rw g (ap z f)

pub alone-other : (n : ℕ) (o : Option ℕ) (z : ℕ → ℤ) (w : ℤ) (v : ℕ) → o ≡ Some v → n ≤ v → alone n o z w ≡ w
alone-other n None z w v e h = refl
alone-other n (Some u) z w v e h = let f : u ≡ v = same_some (Some u) u v refl e in let g : nat_lt u n ≡ false = grind arith in rw g refl

picked_is : (was : Point) (z : ℤ) (o : Option ℕ) → ((v : ℕ) → o ≡ Some v → was.values v ≡ z) → IsPicked o was z
picked_is was z None h = tt
picked_is was z (Some v) h = sym (h v refl)

pub picked_number : (was : Point) (z : ℤ) (o : Option ℕ) (v : ℕ) → o ≡ Some v → IsPicked o was z → z ≡ was.values v
picked_number was z o v e h = subst (λ (x : Option ℕ). IsPicked x was z) e h

picked_cell : (old : ℕ → Summary) (was : Point) (c : Option ℤ) (o : Option ℕ) → IsDrawn old o c → ((v : ℕ) → o ≡ Some v → was.cells v ≡ c) → IsPickedCell o was c
picked_cell old was c None d h = d
picked_cell old was c (Some v) d h = sym (h v refl)

drawn_allows : (old : ℕ → Summary) (o : Option ℕ) (a : ℕ) (c : Option ℤ) → o ≡ Some a → IsDrawn old o c → AllowsCell (old a) c
drawn_allows old o a c e d = allows a c (subst (λ (x : Option ℕ). IsDrawn old x c) e d)
  where
    allows : (a : ℕ) (c : Option ℤ) → IsDrawn old (Some a) c → AllowsCell (old a) c
    allows a None d = tt
    allows a (Some z) d = d

pub cell_drawn : (s : Spanned) (was : Point) (o : Option ℕ) (c : Option ℤ) → spanned.In s was → ((a : ℕ) → o ≡ Some a → a < length s.array_full) → IsPickedCell o was c → IsDrawn (cell_at s.cells) o c
cell_drawn s was None c i n h = h
cell_drawn s was (Some a) c i n h = drawn (cell_at s.cells a) c a refl (subst (AllowsCell (cell_at s.cells a)) (sym h) (i.cells a (n a refl)))
  where
    drawn : (t : Summary) (c : Option ℤ) (a : ℕ) → t ≡ cell_at s.cells a → AllowsCell t c → IsDrawn (cell_at s.cells) (Some a) c
    drawn t None a e h = tt
    drawn t (Some z) a e h = subst (λ (x : Summary). Allows x z) e h

-- ---- a point of the older state, from the numbers and cells of a picked one

module _ (c : TiedView) (picks arrays : List (Option ℕ)) (hp : ArePicks (length c.group + length c.spans.full) picks) (ha : ArePicks (length c.spans.array_full) arrays) where
  apart_of : (u v w : ℕ) → u < w → w ≤ v → u ≢ v
  apart_of u v w h k = omega arith

  shift_not : (n v w : ℕ) → n ≤ v → w ≢ v - n → n + w ≢ v
  shift_not n v w h ne e = ne (omega arith)

  single_but : (p q : Point) (v : ℕ) → length c.group ≤ v → In c p → SameBut v p q → Holds (range_at c.spans.ranges (v - length c.group)) (q.values v) → In c q
  single_but p q v hv i b hq = record {
    tied = i.tied;
    ties = ties_alike c.ties p.values q.values (λ u hu. b.numbers u (apart_of u v (length c.group) (subst (λ (n : ℕ). u < n) i.tied.counted hu) hv)) i.ties;
    spans = in_but c.spans (shifted (length c.group) p) (shifted (length c.group) q) (v - length c.group) i.spans (record { numbers = λ w ne. b.numbers (length c.group + w) (shift_not (length c.group) v w hv ne); cells = b.cells })
        (subst (λ (u : ℕ). Holds (range_at c.spans.ranges (v - length c.group)) (q.values u)) (sym (past_number (length c.group) v hv)) hq);
  }

  cell_but : (p q : Point) (a : ℕ) → In c p → SameButCell a p q → AllowsCell (cell_at c.spans.cells a) (q.cells a) → In c q
  cell_but p q a i b hq = record {
    tied = i.tied;
    ties = ties_alike c.ties p.values q.values (λ u hu. b.numbers u) i.ties;
    spans = in_but_cell c.spans (shifted (length c.group) p) (shifted (length c.group) q) a i.spans (record { numbers = λ w. b.numbers (length c.group + w); cells = b.cells }) hq;
  }

  module _ (p base : Point) (base_in : In c base)
      (numbers : (k v : ℕ) → k < length picks → slice_index_or picks k None ≡ Some v → length c.group ≤ v → Holds (range_at c.spans.ranges (v - length c.group)) (p.values k))
      (cells : (a : ℕ) → a < length arrays → IsDrawn (cell_at c.spans.cells) (slice_index_or arrays a None) (p.cells a)) where
    record Numbered (n : ℕ) : Type 0 where
      was : Point
      is : In c was
      own : (v : ℕ) → v < length c.group → was.values v ≡ base.values v
      numbers_of : (k v : ℕ) → k < n → slice_index_or picks k None ≡ Some v → length c.group ≤ v → was.values v ≡ p.values k

    record Celled (n : ℕ) : Type 0 where
      was : Point
      is : In c was
      own : (v : ℕ) → v < length c.group → was.values v ≡ base.values v
      numbers_of : (k v : ℕ) → k < length picks → slice_index_or picks k None ≡ Some v → length c.group ≤ v → was.values v ≡ p.values k
      cells_of : (k a : ℕ) → k < n → slice_index_or arrays k None ≡ Some a → was.cells a ≡ p.cells k

    numbered_own : (n : ℕ) → Numbered n → ((v : ℕ) → slice_index_or picks n None ≡ Some v → length c.group ≤ v → ⊥) → Numbered (suc n)
    numbered_own n b none = record {
      was = b.was;
      is = b.is;
      own = b.own;
      numbers_of = λ j v hj q hv. elim (last_or j n hj) [ inl l ↦ b.numbers_of j v l q hv | inr y ↦ absurd (none v (subst (λ (m : ℕ). slice_index_or picks m None ≡ Some v) y q) hv) ];
    }

    numbered_single : (n u : ℕ) → n < length picks → Numbered n → slice_index_or picks n None ≡ Some u → length c.group ≤ u → Numbered (suc n)
    numbered_single n u h b e hu = record {
      was = with_value b.was u (p.values n);
      is = single_but b.was (with_value b.was u (p.values n)) u hu b.is (with_value-but b.was u (p.values n)) (subst (Holds (range_at c.spans.ranges (u - length c.group))) (sym (moved-here b.was.values u (p.values n))) (numbers n u h e hu));
      own = λ v hv. moved-there b.was.values u (p.values n) v (apart_of v u (length c.group) hv hu) ∙ b.own v hv;
      numbers_of = λ j v hj q hv. elim (last_or j n hj) [
        | inl l ↦ moved-there b.was.values u (p.values n) v (λ y. less_not j n l (hp.apart j n u (q ∙ ap Some y) e)) ∙ b.numbers_of j v l q hv
        | inr y ↦ let w : u ≡ v = same_some (slice_index_or picks n None) u v e (subst (λ (m : ℕ). slice_index_or picks m None ≡ Some v) y q) in
            subst (λ (x : ℕ). (with_value b.was u (p.values n)).values x ≡ p.values j) w (moved-here b.was.values u (p.values n) ∙ ap p.values (sym y))
      ];
    }

    numbered_more : (n : ℕ) → n < length picks → Numbered n → (o : Option ℕ) → slice_index_or picks n None ≡ o → Numbered (suc n)
    numbered_more n h b None e = numbered_own n b (λ v q hv. none_some (slice_index_or picks n None) v e q)
    numbered_more n h b (Some u) e = elim (cases_lt u (length c.group)) [
      | inl l ↦ numbered_own n b (λ v q hv. not_both_sides v (length c.group) (subst (λ (x : ℕ). x < length c.group) (same_some (slice_index_or picks n None) u v e q) l) hv)
      | inr g ↦ numbered_single n u h b e g
    ]

    numbered : (n : ℕ) → n ≤ length picks → Numbered n
    numbered zero h = record { was = base; is = base_in; own = λ v hv. refl; numbers_of = λ j v hj q hv. below_zero j hj }
    numbered (suc n) h = numbered_more n (omega arith) (numbered n (omega arith)) (slice_index_or picks n None) refl

    celled_more : (n : ℕ) → n < length arrays → Celled n → (o : Option ℕ) → slice_index_or arrays n None ≡ o → Celled (suc n)
    celled_more n h b None e = record {
      was = b.was;
      is = b.is;
      own = b.own;
      numbers_of = b.numbers_of;
      cells_of = λ j v hj q. elim (last_or j n hj) [ inl l ↦ b.cells_of j v l q | inr y ↦ none_some (slice_index_or arrays n None) v e (subst (λ (m : ℕ). slice_index_or arrays m None ≡ Some v) y q) ];
    }
    celled_more n h b (Some u) e = record {
      was = with_cell b.was u (p.cells n);
      is = cell_but b.was (with_cell b.was u (p.cells n)) u b.is (with_cell-but b.was u (p.cells n)) (subst (AllowsCell (cell_at c.spans.cells u)) (sym (cell_moved-here b.was.cells u (p.cells n))) (drawn_allows (cell_at c.spans.cells) (slice_index_or arrays n None) u (p.cells n) e (cells n h)));
      own = b.own;
      numbers_of = b.numbers_of;
      cells_of = λ j v hj q. elim (last_or j n hj) [
        | inl l ↦ cell_moved-there b.was.cells u (p.cells n) v (λ y. less_not j n l (ha.apart j n u (q ∙ ap Some y) e)) ∙ b.cells_of j v l q
        | inr y ↦ let w : u ≡ v = same_some (slice_index_or arrays n None) u v e (subst (λ (m : ℕ). slice_index_or arrays m None ≡ Some v) y q) in
            subst (λ (x : ℕ). (with_cell b.was u (p.cells n)).cells x ≡ p.cells j) w (cell_moved-here b.was.cells u (p.cells n) ∙ ap p.cells (sym y))
      ];
    }

    celled : (n : ℕ) → n ≤ length arrays → Celled n
    celled zero h = let b = numbered (length picks) (omega arith) in record { was = b.was; is = b.is; own = b.own; numbers_of = b.numbers_of; cells_of = λ j v hj q. below_zero j hj }
    celled (suc n) h = celled_more n (omega arith) (celled n (omega arith)) (slice_index_or arrays n None) refl

    pub gathered_point : ((k v : ℕ) → k < length picks → slice_index_or picks k None ≡ Some v → v < length c.group → p.values k ≡ base.values v) → Projected (In c) picks arrays p
    gathered_point own =
        let b = celled (length arrays) (omega arith) in
        record {
          was = b.was;
          point = b.is;
          numbers = λ k h. picked_is b.was (p.values k) (slice_index_or picks k None) (λ v q. elim (cases_lt v (length c.group)) [
            | inl l ↦ b.own v l ∙ sym (own k v h q l)
            | inr g ↦ b.numbers_of k v h q g
          ]);
          cells = λ a h. picked_cell (cell_at c.spans.cells) b.was (p.cells a) (slice_index_or arrays a None) (cells a h) (λ u q. b.cells_of a u h q);
        }
