-- What is added at the heads of loops.
use Rattle.std.proofs.Common.{◌≡◌, ◌≢◌, ℕ, zero, suc, ◌+◌, ◌-◌, ◌*◌, ◌<◌, ◌≤◌, Bool, true, false, cond, List, [], ◌∷◌, length, get_or, Option, Some, None, refl, ap, sym, ◌∙◌, arith}
use Rattle.std.proofs.Math.ListN.{set, length-set}
use Rattle.std.proofs.lemmas.Grind.{get_or-set_at}
use Rattle.std.proofs.lemmas.List.{get_or-set_other}
use Rattle.std.proofs.lemmas.Option.{none-some}
use Rattle.wm_ways.specs.declared.ways.Turning.{Turning}
use Rattle.wm_ways.specs.declared.ways.Way.{Way}
use Rattle.wm_ways.specs.Numbers.{cut, along, greater, or_nought}
use Rattle.wm_ways.specs.Sweeps.{best_at, onward, relaxed, swept, ending_at, stretch}
use Rattle.wm_ways.specs.Loops.{body, with_turns, filled}
use Rattle.wm_path_laws.specs.Paths.{AreOrdered}

-- ---- what is added behind a node decides what is known there

one_same : (first : ℕ) (added added' : List ℕ) (way : Way) (best : List (Option ℕ)) (b : Bool) → way.open ≡ b → (way.open ≡ true → get_or added way.target 0 ≡ get_or added' way.target 0) → relaxed first added way best ≡ relaxed first added' way best
unfolding relaxed
one_same first added added' way best true e same =
    ap (λ (n : ℕ). cond way.open (set best (way.source - first) (greater (best_at first best way.source) (along way.weight n (best_at first best way.target)))) best) (same e)
one_same first added added' way best false e same =
    ap (λ (b : Bool). cond b (set best (way.source - first) (onward first added way best)) best) e
    ∙ sym (ap (λ (b : Bool). cond b (set best (way.source - first) (onward first added' way best)) best) e)

pub swept_same : (lowest count least first : ℕ) (added added' : List ℕ) (ways : List Way) (best : List (Option ℕ)) → AreOrdered lowest count least ways → ((j : ℕ) → least < j → get_or added j 0 ≡ get_or added' j 0) → swept first added ways best ≡ swept first added' ways best
swept_same lowest count least first added added' [] best o same = refl
swept_same lowest count least first added added' (w ∷ ws) best o same =
    one_same first added added' w (swept first added ws best) w.open refl
    (λ e. let up : w.source < w.target = o.2 e in same w.target (omega (arith, o.0, up)))
    ∙ ap (relaxed first added' w) (swept_same lowest count w.source first added added' ws best o.3 (λ j h. same j (omega (arith, o.0, h))))

-- ---- heads, from the last to the first

with_none : (ways : List Way) (firsts added : List ℕ) → with_turns ways firsts None added ≡ added
unfolding with_turns
with_none ways firsts added = refl

with_some : (ways : List Way) (firsts : List ℕ) (t : Turning) (added : List ℕ) → with_turns ways firsts (Some t) added ≡ set added t.node (cut (t.turns * body ways firsts added t))
unfolding with_turns
with_some ways firsts t added = refl

module _ (ways : List Way) (firsts : List ℕ) (count : ℕ) (behind : (node back : ℕ) → node < count → AreOrdered 0 count node (stretch ways (get_or firsts node 0) back)) where
  body_same : (t : Turning) (added added' : List ℕ) → t.node < count → ((j : ℕ) → t.node < j → get_or added j 0 ≡ get_or added' j 0) → body ways firsts added t ≡ body ways firsts added' t
  unfolding body
  body_same t added added' h same =
      ap (λ (b : List (Option ℕ)). or_nought (best_at t.node b t.node))
      (swept_same 0 count t.node t.node added added' (stretch ways (get_or firsts t.node 0) t.back) (ending_at t.node t.last) (behind t.node t.back h) same)

  length_with : (mark : Option Turning) (added : List ℕ) → length (with_turns ways firsts mark added) ≡ length added
  length_with None added = ap length (with_none ways firsts added)
  length_with (Some t) added = ap length (with_some ways firsts t added) ∙ length-set added t.node (cut (t.turns * body ways firsts added t))

  length_filled : (marks : List (Option Turning)) (added : List ℕ) → length (filled ways firsts marks added) ≡ length added
  length_filled [] added = refl
  length_filled (mark ∷ marks) added = length_with mark (filled ways firsts marks added) ∙ length_filled marks added

  -- the mark of a node changes what is added there alone
  elsewhere : (mark : Option Turning) (node : ℕ) (added : List ℕ) (j : ℕ) → ((t : Turning) → mark ≡ Some t → t.node ≡ node) → j ≢ node → get_or (with_turns ways firsts mark added) j 0 ≡ get_or added j 0
  elsewhere None node added j is ne = ap (λ (xs : List ℕ). get_or xs j 0) (with_none ways firsts added)
  elsewhere (Some t) node added j is ne =
      let here : t.node ≡ node = is t refl in
      ap (λ (xs : List ℕ). get_or xs j 0) (with_some ways firsts t added)
      ∙ get_or-set_other added t.node j (cut (t.turns * body ways firsts added t)) 0 (λ e. ne (e ∙ here))

  abbrev AreMarks : (node : ℕ) → List (Option Turning) → Type 0
  AreMarks node marks = (i : ℕ) (t : Turning) → get_or marks i None ≡ Some t → t.node ≡ node + i

  first_mark : (node : ℕ) (mark : Option Turning) (marks : List (Option Turning)) → AreMarks node (mark ∷ marks) → (t : Turning) → mark ≡ Some t → t.node ≡ node
  first_mark node mark marks are t e = omega (arith, are 0 t e)

  rest_marks : (node : ℕ) (mark : Option Turning) (marks : List (Option Turning)) → AreMarks node (mark ∷ marks) → AreMarks (suc node) marks
  rest_marks node mark marks are i t e = omega (arith, are (suc i) t e)

  pub nothing_at : (node : ℕ) (marks : List (Option Turning)) (added : List ℕ) (i : ℕ) → AreMarks node marks → get_or marks i None ≡ None → get_or (filled ways firsts marks added) (node + i) 0 ≡ get_or added (node + i) 0
  nothing_at node [] added i are none = refl
  nothing_at node (mark ∷ marks) added zero are none =
      ap (λ (m : Option Turning). get_or (with_turns ways firsts m (filled ways firsts marks added)) (node + 0) 0) none
      ∙ ap (λ (xs : List ℕ). get_or xs (node + 0) 0) (with_none ways firsts (filled ways firsts marks added))
      ∙ below (suc node) marks (node + 0) (rest_marks node mark marks are) (omega arith)
    where
      below : (least : ℕ) (marks : List (Option Turning)) (j : ℕ) → AreMarks least marks → j < least → get_or (filled ways firsts marks added) j 0 ≡ get_or added j 0
      below least [] j are h = refl
      below least (mark ∷ marks) j are h =
          elsewhere mark least (filled ways firsts marks added) j (first_mark least mark marks are) (omega (arith, h))
          ∙ below (suc least) marks j (rest_marks least mark marks are) (omega (arith, h))
  nothing_at node (mark ∷ marks) added (suc i) are none =
      let ne : node + suc i ≢ node = omega arith in
      let same : node + suc i ≡ suc node + i = omega arith in
      elsewhere mark node (filled ways firsts marks added) (node + suc i) (first_mark node mark marks are) ne
      ∙ ap (λ (j : ℕ). get_or (filled ways firsts marks added) j 0) same
      ∙ nothing_at (suc node) marks added i (rest_marks node mark marks are) none
      ∙ sym (ap (λ (j : ℕ). get_or added j 0) same)

  pub turns_at : (node : ℕ) (marks : List (Option Turning)) (added : List ℕ) (i : ℕ) (t : Turning) → AreMarks node marks → node + length marks ≤ count → count ≤ length added → get_or marks i None ≡ Some t → get_or (filled ways firsts marks added) (node + i) 0 ≡ cut (t.turns * body ways firsts (filled ways firsts marks added) t)
  turns_at node [] added i t are small long e = absurd (none-some t e)
  turns_at node (mark ∷ marks) added zero t are small long e =
      let table : List ℕ = filled ways firsts marks added in
      let here : t.node ≡ node + 0 = are 0 t e in
      let long_table : length table ≡ length added = length_filled marks added in
      let inside : t.node < length table = omega (arith, here, long_table, small, long) in
      let all : with_turns ways firsts mark table ≡ set table t.node (cut (t.turns * body ways firsts table t)) = ap (λ (m : Option Turning). with_turns ways firsts m table) e ∙ with_some ways firsts t table in
      ap (λ (xs : List ℕ). get_or xs (node + 0) 0) all
      ∙ get_or-set_at table t.node (node + 0) (cut (t.turns * body ways firsts table t)) 0 (sym here) inside
      ∙ ap (λ (n : ℕ). cut (t.turns * n))
      (body_same t table (with_turns ways firsts mark table) (omega (arith, here, small))
      (λ j h. sym (elsewhere mark node table j (first_mark node mark marks are) (omega (arith, here, h)))))
  turns_at node (mark ∷ marks) added (suc i) t are small long e =
      let table : List ℕ = filled ways firsts marks added in
      let here : t.node ≡ node + suc i = are (suc i) t e in
      let within : i < length marks = short marks i t e in
      let ne : node + suc i ≢ node = omega arith in
      let same : node + suc i ≡ suc node + i = omega arith in
      elsewhere mark node table (node + suc i) (first_mark node mark marks are) ne
      ∙ ap (λ (j : ℕ). get_or table j 0) same
      ∙ turns_at (suc node) marks added i t (rest_marks node mark marks are) (omega (arith, small)) long e
      ∙ ap (λ (n : ℕ). cut (t.turns * n))
      (body_same t table (with_turns ways firsts mark table) (omega (arith, here, small, within))
      (λ j h. sym (elsewhere mark node table j (first_mark node mark marks are) (omega (arith, here, h)))))
    where
      short : (marks : List (Option Turning)) (i : ℕ) (t : Turning) → get_or marks i None ≡ Some t → i < length marks
      short [] i t e = absurd (none-some t e)
      short (m ∷ ms) zero t e = omega arith
      short (m ∷ ms) (suc i) t e = omega (arith, short ms i t e)
