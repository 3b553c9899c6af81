use Rattle.std.proofs.Common.{◌≡◌, ◌∙◌, inl, inr, ℕ, ◌<◌, ◌≤◌, ◌≢◌, List, length, get_or, set, replicate, arith, refl, ap, sym, subst, to_z, of_z, w64}
use Rattle.std.proofs.lemmas.Bool.{cases_lt, cases_eq}
use Rattle.std.proofs.lemmas.List.{get_or_past, get_or-set_same, get_or-set_other, get_or-replicate, length-replicate, length-set}
use Rattle.wm_octagon.specs.Layout.{row_len, bound}
use Rattle.wm_octagon.specs.Ways.{at, IsUnmoved}
use Rattle.wm_octagon.proofs.Small.{medium_read}
use Rattle.wm_octagon.proofs.closing.fill_begins.Goals as goal

zeros : (xs : List ℕ) (z k : ℕ) → z ≡ 0 → xs ≡ replicate 64 z → get_or xs k z ≡ z
zeros xs z k h e = elim (cases_lt k 64) [
  | inl inside ↦ ap (λ ys. get_or ys k z) e ∙ get_or-replicate 64 k z z inside
  | inr past ↦ (let f = length-replicate 64 z in ap (λ ys. get_or ys k z) e ∙ get_or_past (replicate 64 z) k z (omega arith))
]

pub loop-k-init : goal.loop-k-init
loop-k-init c = record {
  long = ap length c.requires.clear ∙ length-replicate {A = ℕ} 64 0;
  inside = λ k. subst (λ n. n ≤ row_len k) (sym (zeros c.args.begins.now 0 k refl c.requires.clear)) (omega arith);
  unmoved = λ j i lt. absurd (omega arith);
}

pub loop-k-preserved : goal.loop-k-preserved
loop-k-preserved c =
    let here : c.loop-k.k < length c.loop-k.begins = omega arith in
    let now = get_or-set_same c.loop-k.begins c.loop-k.k c.begin_at.result 0 here in
    record {
      long = length-set _ _ _ ∙ c.loop-k.invariant.long;
      inside = λ j. elim (cases_eq j c.loop-k.k) [
        | inl same ↦ subst (λ i. get_or (set c.loop-k.begins c.loop-k.k c.begin_at.result) i 0 ≤ row_len i) (sym same) (subst (λ n. n ≤ row_len c.loop-k.k) (sym now) c.begin_at.ensures.inside)
        | inr other ↦ subst (λ n. n ≤ row_len j) (sym (get_or-set_other c.loop-k.begins c.loop-k.k j c.begin_at.result 0 other)) (c.loop-k.invariant.inside j)
      ];
      unmoved = λ j i below before. elim (cases_lt j c.loop-k.k) [
        | inl earlier ↦ (
            let other : j ≢ c.loop-k.k = λ e. omega arith in
            c.loop-k.invariant.unmoved j i earlier (subst (λ n. i < n) (get_or-set_other c.loop-k.begins c.loop-k.k j c.begin_at.result 0 other) before))
        | inr at_k ↦ (
            let same : c.loop-k.k ≡ j = omega arith in
            let start = subst (λ n. i < get_or (set c.loop-k.begins c.loop-k.k c.begin_at.result) n 0) (sym same) before in
            subst (λ n. IsUnmoved (bound c.args.half.now.bounds) c.args.j c.args.i (at c.args.to_j.now n) (at c.args.to_i.now n) c.args.lowered n i) same
            (subst (λ z. IsUnmoved (bound c.args.half.now.bounds) c.args.j c.args.i z (at c.args.to_i.now c.loop-k.k) c.args.lowered c.loop-k.k i) (medium_read _ (c.requires.to_j c.loop-k.k))
            (subst (λ z. IsUnmoved (bound c.args.half.now.bounds) c.args.j c.args.i (to_z w64 (of_z w64 (at c.args.to_j.now c.loop-k.k))) z c.args.lowered c.loop-k.k i) (medium_read _ (c.requires.to_i c.loop-k.k))
            (c.begin_at.ensures.unmoved i (subst (λ n. i < n) now start)))))
      ];
    }

pub returns-clause-unmoved : goal.returns-clause-unmoved
returns-clause-unmoved c = λ k l hk hl.
    let e = c.sides-k-end.ensures.value in
    c.loop-k.invariant.unmoved k l (omega arith) hl
