use Rattle.std.proofs.Common.{◌≡◌, ℕ, ◌+◌, ◌-◌, ◌*◌, ◌<◌, ◌≤◌, List, ℤ, pos, length, get_or, arith, ap, sym, subst, ◌∙◌, inl, inr}
use Rattle.std.proofs.lemmas.Bool.{cases_lt}
use Rattle.std.proofs.lemmas.List.{get_or_past}
use borrow.Rule.Slice.PartMut.{put_mid}
use Rattle.wm_octagon.specs.Layout.{row_len, row_start, entry}
use Rattle.wm_octagon.specs.HalfTable.{IsSmall}
use Rattle.wm_octagon.proofs.Small.{small-zero}
use Rattle.wm_octagon.proofs.Rows.{row_start-more, row_end-le, table-all, length-part, part_entry, written_before, written_in, written_after}
use Rattle.wm_octagon.proofs.layout.change_all.Goals as goal

-- where the columns of row k that are changed stand in a list
record Part (k start first count long : ℕ) : Type 0 where
  room : start + first + count ≤ long
  in_row : first + count ≤ row_len k
  row_in : start + row_len k ≤ long

part_of : (n k start first count long begin columns : ℕ) → k < 2 * n → start ≡ row_start k → long ≡ row_start (2 * n) → first ≡ begin → count ≡ columns → begin + columns ≤ row_len k → Part k start first count long
part_of n k start first count long begin columns h at whole e f inside =
    let r = row_end-le (2 * n) k h in
    record { room = omega arith; in_row = omega arith; row_in = omega arith }

pub slice_bounds-change_row-end : goal.slice_bounds-change_row-end
slice_bounds-change_row-end g c =
    let p = part_of c.args.variables c.loop-k.k c.loop-k.start c.first_column-first.result c.column_count.result (length c.loop-k.bounds) _ _
    c.loop-k-test.true c.loop-k.invariant.at (c.loop-k.auto.bounds ∙ c.requires.whole) c.first_column-first.ensures c.column_count.ensures (c.requires.beside.inside c.loop-k.k c.loop-k-test.true) in
    let room = p.room in
    omega arith

pub change_row-requires-clause-known : goal.change_row-requires-clause-known
change_row-requires-clause-known g c =
    let known = c.requires.known in
    omega arith

pub change_row-requires-clause-columns : goal.change_row-requires-clause-columns
change_row-requires-clause-columns g c =
    let p = part_of c.args.variables c.loop-k.k c.loop-k.start c.first_column-first.result c.column_count.result (length c.loop-k.bounds) _ _
    c.loop-k-test.true c.loop-k.invariant.at (c.loop-k.auto.bounds ∙ c.requires.whole) c.first_column-first.ensures c.column_count.ensures (c.requires.beside.inside c.loop-k.k c.loop-k-test.true) in
    let known = c.requires.known in
    let row = p.in_row in
    let m = length-part (c.loop-k.start + c.first_column-first.result) c.column_count.result c.loop-k.bounds p.room in
    omega arith

pub change_row-requires-clause-few : goal.change_row-requires-clause-few
change_row-requires-clause-few g c =
    let p = part_of c.args.variables c.loop-k.k c.loop-k.start c.first_column-first.result c.column_count.result (length c.loop-k.bounds) _ _
    c.loop-k-test.true c.loop-k.invariant.at (c.loop-k.auto.bounds ∙ c.requires.whole) c.first_column-first.ensures c.column_count.ensures (c.requires.beside.inside c.loop-k.k c.loop-k-test.true) in
    let few = c.requires.few in
    let row = p.in_row in
    let m = length-part (c.loop-k.start + c.first_column-first.result) c.column_count.result c.loop-k.bounds p.room in
    omega arith

pub change_row-requires-clause-small : goal.change_row-requires-clause-small
change_row-requires-clause-small g c = λ l.
    let p = part_of c.args.variables c.loop-k.k c.loop-k.start c.first_column-first.result c.column_count.result (length c.loop-k.bounds) _ _
    c.loop-k-test.true c.loop-k.invariant.at (c.loop-k.auto.bounds ∙ c.requires.whole) c.first_column-first.ensures c.column_count.ensures (c.requires.beside.inside c.loop-k.k c.loop-k-test.true) in
    let start = c.loop-k.start + c.first_column-first.result in
    let room = p.room in
    let part = length-part (c.loop-k.start + c.first_column-first.result) c.column_count.result c.loop-k.bounds p.room in
    elim (cases_lt l c.column_count.result) [
      | inl within ↦
          subst IsSmall (sym (part_entry (c.loop-k.start + c.first_column-first.result) c.column_count.result c.loop-k.bounds l room within ∙ c.loop-k.invariant.rest (l + (c.loop-k.start + c.first_column-first.result)) (omega arith)))
          (c.requires.small (l + (c.loop-k.start + c.first_column-first.result)))
      | inr past ↦ subst IsSmall (sym (get_or_past _ l (pos 0) (omega arith))) small-zero
    ]

-- a row after its part was written: the new numbers there, and the old ones beside it
row_written : (k start first count : ℕ) (xs olds new : List ℤ) (f : ℕ → ℕ → ℤ → ℤ) → Part k start first count (length xs) → start ≡ row_start k → length new ≡ count
    → ((l : ℕ) → start ≤ l → get_or xs l (pos 0) ≡ get_or olds l (pos 0))
    → ((l : ℕ) → l < count → get_or new l (pos 0) ≡ f k (first + l) (get_or xs (l + (start + first)) (pos 0)))
    → ((l : ℕ) → l < first → f k l (entry olds k l) ≡ entry olds k l)
    → ((l : ℕ) → first + count ≤ l → l < row_len k → f k l (entry olds k l) ≡ entry olds k l)
    → (i : ℕ) → i < row_len k → entry (put_mid (start + first) (start + first + count - (start + first)) xs new) k i ≡ f k i (entry olds k i)
row_written k start first count xs olds new f p at long rest each before after i in_row =
    let room = p.room in
    elim (cases_lt i first) [
      | inl early ↦
          written_before (start + first) count xs new (i + row_start k) room long (omega arith)
          ∙ rest (i + row_start k) (omega arith) ∙ sym (before i early)
      | inr on ↦ elim (cases_lt i (first + count)) [
        | inl within ↦ (
            let e : i + row_start k ≡ (i - first) + (start + first) = omega arith in
            let g : first + (i - first) ≡ i = omega arith in
            let j : i - first < count = omega arith in
            ap (λ n. get_or (put_mid (start + first) (start + first + count - (start + first)) xs new) n (pos 0)) e
            ∙ written_in (start + first) count xs new (i - first) room long j
            ∙ each (i - first) j
            ∙ ap (λ n. f k n (get_or xs ((i - first) + (start + first)) (pos 0))) g
            ∙ ap (f k i) (rest ((i - first) + (start + first)) (omega arith) ∙ ap (λ n. get_or olds n (pos 0)) (sym e)))
        | inr late ↦
            written_after (start + first) count xs new (i + row_start k) room long (omega arith)
            ∙ rest (i + row_start k) (omega arith) ∙ sym (after i late in_row)
      ]
    ]

pub loop-k-preserved : goal.loop-k-preserved
loop-k-preserved g c =
    let first = c.first_column-first.result in
    let count = c.column_count.result in
    let beside = c.requires.beside in
    let p = part_of c.args.variables c.loop-k.k c.loop-k.start c.first_column-first.result c.column_count.result (length c.loop-k.bounds) _ _
    c.loop-k-test.true c.loop-k.invariant.at (c.loop-k.auto.bounds ∙ c.requires.whole) c.first_column-first.ensures c.column_count.ensures (c.requires.beside.inside c.loop-k.k c.loop-k-test.true) in
    let room = p.room in
    let inside = p.in_row in
    let part = length-part (c.loop-k.start + c.first_column-first.result) c.column_count.result c.loop-k.bounds p.room in
    let long : length c.change_row.new.row ≡ c.column_count.result = c.change_row.auto.row ∙ part in
    let this_row = row_written c.loop-k.k c.loop-k.start c.first_column-first.result c.column_count.result c.loop-k.bounds c.args.bounds.now c.change_row.new.row (g.C.Change.value c.args.change.now) p c.loop-k.invariant.at long
    c.loop-k.invariant.rest
    (λ l h. c.change_row.ensures l (subst (λ n. l < n) (sym part) h)
    ∙ ap (g.C.Change.value c.args.change.now c.loop-k.k (c.first_column-first.result + l)) (part_entry (c.loop-k.start + c.first_column-first.result) c.column_count.result c.loop-k.bounds l p.room h))
    (λ l h. c.requires.beside.before c.loop-k.k l c.loop-k-test.true (subst (λ n. l < n) c.first_column-first.ensures h))
    (λ l h r. c.requires.beside.after c.loop-k.k l c.loop-k-test.true (let e = c.first_column-first.ensures in let f = c.column_count.ensures in subst (λ n. n + g.C.Change.columns c.args.change.now c.loop-k.k ≤ l) e (subst (λ n. c.first_column-first.result + n ≤ l) f h)) r) in
    record {
      at = ap (λ n. c.loop-k.start + n) c.row_len-start.ensures ∙ ap (λ n. n + row_len c.loop-k.k) c.loop-k.invariant.at ∙ sym (row_start-more c.loop-k.k);
      done = λ j i below in_row. elim (cases_lt j c.loop-k.k) [
        | inl before ↦ (
            let f = row_end-le c.loop-k.k j before in
            let s = c.loop-k.invariant.at in
            written_before (c.loop-k.start + c.first_column-first.result) c.column_count.result c.loop-k.bounds c.change_row.new.row (i + row_start j) p.room long (omega arith)
            ∙ c.loop-k.invariant.done j i before in_row)
        | inr at ↦ (
            let same : c.loop-k.k ≡ j = omega arith in
            subst (λ n. i < row_len n → entry (put_mid (c.loop-k.start + c.first_column-first.result) (c.loop-k.start + c.first_column-first.result + c.column_count.result - (c.loop-k.start + c.first_column-first.result)) c.loop-k.bounds c.change_row.new.row) n i ≡ g.C.Change.value c.args.change.now n i (entry c.args.bounds.now n i)) same (this_row i) in_row)
      ];
      rest = λ i after.
          let e = c.row_len-start.ensures in
          written_after (c.loop-k.start + c.first_column-first.result) c.column_count.result c.loop-k.bounds c.change_row.new.row i p.room long (omega arith)
          ∙ c.loop-k.invariant.rest i (omega arith);
    }

pub returns : goal.returns
returns g c =
    let all : c.loop-k.k ≡ 2 * c.args.variables = omega arith in
    table-all (2 * c.args.variables) _ c.loop-k.bounds (c.loop-k.auto.bounds ∙ c.requires.whole) (λ k l below in_row. c.loop-k.invariant.done k l (omega arith) in_row)
