-- Tables of bounds in which no bound follows more tightly from others, and that one more bound leaves them so.
use Rattle.std.proofs.Common.{◌≡◌, ◌⊎◌, inl, inr, ℕ, ◌*◌, ◌<◌, ℤ, pos, negsuc, ◌+ℤ◌, ◌≤ℤ◌, sym, ◌∙◌, ap, subst, arith}
use Rattle.std.proofs.lemmas.Int.{ints, clamps}
use Rattle.std.specs.Int.{int_min}
use Rattle.wm_octagon.specs.Layout.{opposite}
use Rattle.wm_octagon.specs.Closing.{half_of, top, through, with_bound, joined, closed}

-- ---- sides

pub opposite-opposite : (k : ℕ) → opposite (opposite k) ≡ k
opposite-opposite k = omega arith

pub opposite-lt : (n k : ℕ) → k < 2 * n → opposite k < 2 * n
opposite-lt n k h = omega arith

-- ---- halves

pub half_le : (z : ℤ) → (half_of z +ℤ half_of z) ≤ℤ z
unfolding half_of
half_le (pos a) = omega (arith, ints)
half_le (negsuc a) = omega (arith, ints)

pub le_half : (z : ℤ) → z ≤ℤ (half_of z +ℤ half_of z +ℤ pos 1)
unfolding half_of
le_half (pos a) = omega (arith, ints)
le_half (negsuc a) = omega (arith, ints)

pub half-double : (z : ℤ) → half_of (z +ℤ z) ≡ z
half-double z = let a = half_le (z +ℤ z) in let b = le_half (z +ℤ z) in omega (arith, ints)

-- ---- least of two

pub min_le_left : (x y : ℤ) → int_min x y ≤ℤ x
min_le_left x y = omega (arith, ints, clamps)

pub min_le_right : (x y : ℤ) → int_min x y ≤ℤ y
min_le_right x y = omega (arith, ints, clamps)

pub le_min : (x y z : ℤ) → z ≤ℤ x → z ≤ℤ y → z ≤ℤ int_min x y
le_min x y z h k = omega (arith, ints, clamps)

pub min_is : (x y : ℤ) → (int_min x y ≡ x) ⊎ (int_min x y ≡ y)
min_is x y = grind (arith, ints)

-- ---- tables

-- no bound follows more tightly from two others, from itself seen from the other side, from its being even, or from the
-- bounds of the two sides alone
pub record IsTable (n : ℕ) (m : ℕ → ℕ → ℤ) : Type 0 where
  pub same : (k : ℕ) → k < 2 * n → m k k ≡ pos 0
  pub coherent : (k l : ℕ) → k < 2 * n → l < 2 * n → m k l ≡ m (opposite l) (opposite k)
  pub triangle : (k r l : ℕ) → k < 2 * n → r < 2 * n → l < 2 * n → m k l ≤ℤ (m k r +ℤ m r l)
  pub even : (k : ℕ) → k < 2 * n → m (opposite k) k ≡ top m k +ℤ top m k
  pub join : (k l : ℕ) → k < 2 * n → l < 2 * n → m k l ≤ℤ (top m (opposite k) +ℤ top m l)

-- the bound of -l less -k, from the one of k less l
back : (n : ℕ) (m : ℕ → ℕ → ℤ) → IsTable n m → (k l : ℕ) → k < 2 * n → l < 2 * n → m (opposite k) l ≡ m (opposite l) k
back n m t k l hk hl =
    t.coherent (opposite k) l (opposite-lt n k hk) hl ∙ ap (m (opposite l)) (opposite-opposite k)

-- what a new bound of j less i by c asks of the table: it does not contradict what is known
record CanAdd (n : ℕ) (m : ℕ → ℕ → ℤ) (i j : ℕ) (c : ℤ) : Type 0 where
  table : IsTable n m
  i_in : i < 2 * n
  j_in : j < 2 * n
  room : pos 0 ≤ℤ (c +ℤ m j i)

-- the way from side k into side j, and into side -i, that ends with the new bound
abbrev to_j : (ℕ → ℕ → ℤ) → ℕ → ℕ → ℤ → ℕ → ℤ
to_j m i j c k = through (m (opposite i)) (m j) (c +ℤ c +ℤ m (opposite i) i) c k

abbrev to_i : (ℕ → ℕ → ℤ) → ℕ → ℕ → ℤ → ℕ → ℤ
to_i m i j c k = through (m j) (m (opposite i)) (c +ℤ c +ℤ m j (opposite j)) c k

-- the facts on the two sides of the new bound that everything rests on
record Around (m : ℕ → ℕ → ℤ) (i j : ℕ) (c : ℤ) : Type 0 where
  room : pos 0 ≤ℤ (c +ℤ m j i)
  mirror : m (opposite i) (opposite j) ≡ m j i
  round : pos 0 ≤ℤ (c +ℤ c +ℤ m j (opposite j) +ℤ m (opposite i) i)
  even_i : m (opposite i) i ≡ top m i +ℤ top m i
  even_j : m j (opposite j) ≡ top m (opposite j) +ℤ top m (opposite j)
  joined_ji : m j i ≤ℤ (top m (opposite j) +ℤ top m i)

around : (n : ℕ) (m : ℕ → ℕ → ℤ) (i j : ℕ) (c : ℤ) → CanAdd n m i j c → Around m i j c
around n m i j c a =
    let even_i = a.table.even i a.i_in in
    let even_j : m j (opposite j) ≡ top m (opposite j) +ℤ top m (opposite j) =
    ap (λ k. m k (opposite j)) (sym (opposite-opposite j)) ∙ a.table.even (opposite j) (opposite-lt n j a.j_in) in
    let joined_ji = a.table.join j i a.j_in a.i_in in
    let room = a.room in
    record {
      room = a.room;
      mirror = sym (a.table.coherent j i a.j_in a.i_in);
      round = omega (arith, ints);
      even_i = even_i;
      even_j = even_j;
      joined_ji = joined_ji;
    }

-- how the two rows of the new bound stand to one more side
record Rows (m : ℕ → ℕ → ℤ) (i j k : ℕ) : Type 0 where
  jk_ki : m j i ≤ℤ (m j k +ℤ m (opposite i) (opposite k))
  ik_kj : m j i ≤ℤ (m (opposite i) k +ℤ m j (opposite k))
  ik_ki : m (opposite i) i ≤ℤ (m (opposite i) k +ℤ m (opposite i) (opposite k))
  jk_kj : m j (opposite j) ≤ℤ (m j k +ℤ m j (opposite k))

rows : (n : ℕ) (m : ℕ → ℕ → ℤ) (i j : ℕ) (c : ℤ) → CanAdd n m i j c → (k : ℕ) → k < 2 * n → Rows m i j k
rows n m i j c a k hk =
    let t = a.table in
    let oi = opposite-lt n i a.i_in in
    let oj = opposite-lt n j a.j_in in
    let ok = opposite-lt n k hk in
    let ki : m k i ≡ m (opposite i) (opposite k) = t.coherent k i hk a.i_in in
    let kj : m k (opposite j) ≡ m j (opposite k) = t.coherent k (opposite j) hk oj ∙ ap (λ p. m p (opposite k)) (opposite-opposite j) in
    let mirror : m j i ≡ m (opposite i) (opposite j) = t.coherent j i a.j_in a.i_in in
    let t1 = t.triangle j k i a.j_in hk a.i_in in
    let t2 = t.triangle (opposite i) k (opposite j) oi hk oj in
    let t3 = t.triangle (opposite i) k i oi hk a.i_in in
    let t4 = t.triangle j k (opposite j) a.j_in hk oj in
    record {
      jk_ki = omega (arith, ints);
      ik_kj = omega (arith, ints);
      ik_ki = omega (arith, ints);
      jk_kj = omega (arith, ints);
    }

-- a way from k goes no further than one by way of r
through_le : (n : ℕ) (m : ℕ → ℕ → ℤ) (p q : ℕ) (d c : ℤ) → IsTable n m → p < 2 * n → q < 2 * n → (k r : ℕ) → k < 2 * n → r < 2 * n → through (m p) (m q) d c k ≤ℤ (m k r +ℤ through (m p) (m q) d c r)
unfolding through
through_le n m p q d c t hp hq k r hk hr =
    let ok = opposite-lt n k hk in
    let or = opposite-lt n r hr in
    let mirror : m k r ≡ m (opposite r) (opposite k) = t.coherent k r hk hr in
    let t1 = t.triangle p (opposite r) (opposite k) hp or ok in
    let t2 = t.triangle q (opposite r) (opposite k) hq or ok in
    omega (arith, ints, clamps)

-- the ways round that begin and end with the new bound cost nothing less than the direct ones
record Ways (m : ℕ → ℕ → ℤ) (i j : ℕ) (c : ℤ) (k : ℕ) : Type 0 where
  j_to_j : pos 0 ≤ℤ (m j k +ℤ to_j m i j c k)
  i_to_i : pos 0 ≤ℤ (m (opposite i) k +ℤ to_i m i j c k)

j_to_j-plain : (c jk ik jo io ji jj ii : ℤ) → pos 0 ≤ℤ (c +ℤ ji) → pos 0 ≤ℤ (c +ℤ c +ℤ jj +ℤ ii) → ji ≤ℤ (jk +ℤ io) → jj ≤ℤ (jk +ℤ jo) → pos 0 ≤ℤ (jk +ℤ int_min (io +ℤ c) (jo +ℤ (c +ℤ c +ℤ ii)))
j_to_j-plain c jk ik jo io ji jj ii h1 h2 h3 h4 = omega (arith, ints, clamps)

ways : (n : ℕ) (m : ℕ → ℕ → ℤ) (i j : ℕ) (c : ℤ) → CanAdd n m i j c → (k : ℕ) → k < 2 * n → Ways m i j c k
unfolding through
ways n m i j c a k hk =
    let f = around n m i j c a in
    let r = rows n m i j c a k hk in
    record {
      j_to_j = j_to_j-plain c (m j k) (m (opposite i) k) (m j (opposite k)) (m (opposite i) (opposite k)) (m j i) (m j (opposite j)) (m (opposite i) i) f.room f.round r.jk_ki r.jk_kj;
      i_to_i = j_to_j-plain c (m (opposite i) k) (m j k) (m (opposite i) (opposite k)) (m j (opposite k)) (m j i) (m (opposite i) i) (m j (opposite j)) f.room (let h = f.round in omega (arith, ints)) r.ik_kj r.ik_ki;
    }

-- a way into j, on to k, and from there into -i: no shorter than a way into -i
onward-plain : (c a b jk jo io ji jj ii : ℤ) → pos 0 ≤ℤ (c +ℤ ji) → pos 0 ≤ℤ (c +ℤ c +ℤ jj +ℤ ii) → ji ≤ℤ (jk +ℤ io) → jj ≤ℤ (jk +ℤ jo)
    → int_min (b +ℤ c) (a +ℤ (c +ℤ c +ℤ jj)) ≤ℤ (int_min (a +ℤ c) (b +ℤ (c +ℤ c +ℤ ii)) +ℤ jk +ℤ int_min (jo +ℤ c) (io +ℤ (c +ℤ c +ℤ jj)))
onward-plain c a b jk jo io ji jj ii h1 h2 h3 h4 = omega (arith, ints, clamps)

record Onward (m : ℕ → ℕ → ℤ) (i j : ℕ) (c : ℤ) (k r : ℕ) : Type 0 where
  j_then_i : to_i m i j c k ≤ℤ (to_j m i j c k +ℤ m j r +ℤ to_i m i j c r)
  i_then_j : to_j m i j c k ≤ℤ (to_i m i j c k +ℤ m (opposite i) r +ℤ to_j m i j c r)

onward : (n : ℕ) (m : ℕ → ℕ → ℤ) (i j : ℕ) (c : ℤ) → CanAdd n m i j c → (k r : ℕ) → r < 2 * n → Onward m i j c k r
unfolding through
onward n m i j c a k r hr =
    let f = around n m i j c a in
    let w = rows n m i j c a r hr in
    record {
      j_then_i = onward-plain c (m (opposite i) (opposite k)) (m j (opposite k)) (m j r) (m j (opposite r)) (m (opposite i) (opposite r)) (m j i) (m j (opposite j)) (m (opposite i) i) f.room f.round w.jk_ki w.jk_kj;
      i_then_j = onward-plain c (m j (opposite k)) (m (opposite i) (opposite k)) (m (opposite i) r) (m (opposite i) (opposite r)) (m j (opposite r)) (m j i) (m (opposite i) i) (m j (opposite j)) f.room (let h = f.round in omega (arith, ints)) w.ik_kj w.ik_ki;
    }

-- the three bounds of which the new one is the least
record Least3 (z a b c : ℤ) : Type 0 where
  first : z ≤ℤ a
  second : z ≤ℤ b
  third : z ≤ℤ c
  one_of : (z ≡ a) ⊎ ((z ≡ b) ⊎ (z ≡ c))

least3 : (a b c : ℤ) → Least3 (int_min a (int_min b c)) a b c
least3 a b c = record {
  first = omega (arith, ints, clamps);
  second = omega (arith, ints, clamps);
  third = omega (arith, ints, clamps);
  one_of = elim (min_is a (int_min b c)) [
    | inl e ↦ inl e
    | inr e ↦ elim (min_is b c) [ inl f ↦ inr (inl (e ∙ f)) | inr f ↦ inr (inr (e ∙ f)) ]
  ];
}

bounded : (m : ℕ → ℕ → ℤ) (i j : ℕ) (c : ℤ) (k l : ℕ) → Least3 (with_bound m i j c k l) (m k l) (to_j m i j c k +ℤ m j l) (to_i m i j c k +ℤ m (opposite i) l)
unfolding with_bound
bounded m i j c k l = least3 (m k l) (to_j m i j c k +ℤ m j l) (to_i m i j c k +ℤ m (opposite i) l)

with_bound-triangle : (n : ℕ) (m : ℕ → ℕ → ℤ) (i j : ℕ) (c : ℤ) → CanAdd n m i j c → (k r l : ℕ) → k < 2 * n → r < 2 * n → l < 2 * n → with_bound m i j c k l ≤ℤ (with_bound m i j c k r +ℤ with_bound m i j c r l)
with_bound-triangle n m i j c a k r l hk hr hl =
    let t = a.table in
    let oi = opposite-lt n i a.i_in in
    let kl = bounded m i j c k l in
    let kl1 = kl.first in
    let kl2 = kl.second in
    let kl3 = kl.third in
    let kr = bounded m i j c k r in
    let rl = bounded m i j c r l in
    let w = ways n m i j c a r hr in
    let w1 = w.j_to_j in
    let w2 = w.i_to_i in
    let o = onward n m i j c a k r hr in
    let o1 = o.j_then_i in
    let o2 = o.i_then_j in
    let t1 = t.triangle k r l hk hr hl in
    let t2 = through_le n m (opposite i) j (c +ℤ c +ℤ m (opposite i) i) c t oi a.j_in k r hk hr in
    let t3 = through_le n m j (opposite i) (c +ℤ c +ℤ m j (opposite j)) c t a.j_in oi k r hk hr in
    let t4 = t.triangle j r l a.j_in hr hl in
    let t5 = t.triangle (opposite i) r l oi hr hl in
    elim kr.one_of [
      | inl e ↦ elim rl.one_of [ inl f ↦ omega (arith, ints) | inr g ↦ elim g [ inl f ↦ omega (arith, ints) | inr f ↦ omega (arith, ints) ] ]
      | inr h ↦ elim h [
        | inl e ↦ elim rl.one_of [ inl f ↦ omega (arith, ints) | inr g ↦ elim g [ inl f ↦ omega (arith, ints) | inr f ↦ omega (arith, ints) ] ]
        | inr e ↦ elim rl.one_of [ inl f ↦ omega (arith, ints) | inr g ↦ elim g [ inl f ↦ omega (arith, ints) | inr f ↦ omega (arith, ints) ] ]
      ]
    ]

with_bound-same : (n : ℕ) (m : ℕ → ℕ → ℤ) (i j : ℕ) (c : ℤ) → CanAdd n m i j c → (k : ℕ) → k < 2 * n → with_bound m i j c k k ≡ pos 0
with_bound-same n m i j c a k hk =
    let b = bounded m i j c k k in
    let b1 = b.first in
    let w = ways n m i j c a k hk in
    let w1 = w.j_to_j in
    let w2 = w.i_to_i in
    let s = a.table.same k hk in
    elim b.one_of [ inl e ↦ e ∙ s | inr g ↦ elim g [ inl f ↦ omega (arith, ints) | inr f ↦ omega (arith, ints) ] ]

-- the same ways, from the other end
turned-plain : (c a b jl il ii jj kl : ℤ) →
    int_min kl (int_min (int_min (a +ℤ c) (b +ℤ (c +ℤ c +ℤ ii)) +ℤ jl) (int_min (b +ℤ c) (a +ℤ (c +ℤ c +ℤ jj)) +ℤ il))
    ≤ℤ int_min kl (int_min (int_min (il +ℤ c) (jl +ℤ (c +ℤ c +ℤ ii)) +ℤ b) (int_min (jl +ℤ c) (il +ℤ (c +ℤ c +ℤ jj)) +ℤ a))
turned-plain c a b jl il ii jj kl = omega (arith, ints, clamps)

turned : (n : ℕ) (m : ℕ → ℕ → ℤ) (i j : ℕ) (c : ℤ) → CanAdd n m i j c → (k l : ℕ) → k < 2 * n → l < 2 * n → with_bound m i j c k l ≤ℤ with_bound m i j c (opposite l) (opposite k)
unfolding with_bound through
turned n m i j c a k l hk hl =
    let e = a.table.coherent k l hk hl in
    let p = turned-plain c (m (opposite i) (opposite k)) (m j (opposite k)) (m j l) (m (opposite i) l) (m (opposite i) i) (m j (opposite j)) (m k l) in
    let ll = opposite-opposite l in
    let q : with_bound m i j c (opposite l) (opposite k) ≡ int_min (m (opposite l) (opposite k)) (int_min (int_min (m (opposite i) l +ℤ c) (m j l +ℤ (c +ℤ c +ℤ m (opposite i) i)) +ℤ m j (opposite k)) (int_min (m j l +ℤ c) (m (opposite i) l +ℤ (c +ℤ c +ℤ m j (opposite j))) +ℤ m (opposite i) (opposite k))) =
    ap (λ p. int_min (m (opposite l) (opposite k)) (int_min (int_min (m (opposite i) p +ℤ c) (m j p +ℤ (c +ℤ c +ℤ m (opposite i) i)) +ℤ m j (opposite k)) (int_min (m j p +ℤ c) (m (opposite i) p +ℤ (c +ℤ c +ℤ m j (opposite j))) +ℤ m (opposite i) (opposite k)))) ll in
    subst (λ z. with_bound m i j c k l ≤ℤ z) (sym q) (subst (λ z. with_bound m i j c k l ≤ℤ int_min z (int_min (int_min (m (opposite i) l +ℤ c) (m j l +ℤ (c +ℤ c +ℤ m (opposite i) i)) +ℤ m j (opposite k)) (int_min (m j l +ℤ c) (m (opposite i) l +ℤ (c +ℤ c +ℤ m j (opposite j))) +ℤ m (opposite i) (opposite k)))) e p)

with_bound-coherent : (n : ℕ) (m : ℕ → ℕ → ℤ) (i j : ℕ) (c : ℤ) → CanAdd n m i j c → (k l : ℕ) → k < 2 * n → l < 2 * n → with_bound m i j c k l ≡ with_bound m i j c (opposite l) (opposite k)
with_bound-coherent n m i j c a k l hk hl =
    let there = turned n m i j c a k l hk hl in
    let here = turned n m i j c a (opposite l) (opposite k) (opposite-lt n l hl) (opposite-lt n k hk) in
    let here' : with_bound m i j c (opposite l) (opposite k) ≤ℤ with_bound m i j c k l =
    subst (λ p. with_bound m i j c (opposite l) (opposite k) ≤ℤ with_bound m i j c k p) (opposite-opposite l)
    (subst (λ p. with_bound m i j c (opposite l) (opposite k) ≤ℤ with_bound m i j c p (opposite (opposite l))) (opposite-opposite k) here) in
    omega (arith, ints)

-- ---- halving the bound of a side and the one of its opposite leaves room for a whole number

-- a side's own new bound is even, or uses the new bound once
record OwnBound (u own a b c jj ii : ℤ) : Type 0 where
  once : u ≤ℤ (a +ℤ c +ℤ b)
  cases : (u ≡ own) ⊎ ((u ≡ a +ℤ c +ℤ b) ⊎ ((u ≡ b +ℤ b +ℤ (c +ℤ c +ℤ ii)) ⊎ (u ≡ a +ℤ a +ℤ (c +ℤ c +ℤ jj))))

own_bound-plain : (own a b c jj ii : ℤ) → OwnBound (int_min own (int_min (int_min (a +ℤ c) (b +ℤ (c +ℤ c +ℤ ii)) +ℤ b) (int_min (b +ℤ c) (a +ℤ (c +ℤ c +ℤ jj)) +ℤ a))) own a b c jj ii
own_bound-plain own a b c jj ii =
    let l3 = least3 own (int_min (a +ℤ c) (b +ℤ (c +ℤ c +ℤ ii)) +ℤ b) (int_min (b +ℤ c) (a +ℤ (c +ℤ c +ℤ jj)) +ℤ a) in
    record {
      once = omega (arith, ints, clamps);
      cases = elim l3.one_of [
        | inl e ↦ inl e
        | inr g ↦ elim g [
          | inl e ↦ elim (min_is (a +ℤ c) (b +ℤ (c +ℤ c +ℤ ii))) [ inl f ↦ inr (inl (omega (arith, ints))) | inr f ↦ inr (inr (inl (omega (arith, ints)))) ]
          | inr e ↦ elim (min_is (b +ℤ c) (a +ℤ (c +ℤ c +ℤ jj))) [ inl f ↦ inr (inl (omega (arith, ints))) | inr f ↦ inr (inr (inr (omega (arith, ints)))) ]
        ]
      ];
    }

own_bound : (m : ℕ → ℕ → ℤ) (i j : ℕ) (c : ℤ) (k : ℕ) → OwnBound (with_bound m i j c (opposite k) k) (m (opposite k) k) (m (opposite i) k) (m j k) c (m j (opposite j)) (m (opposite i) i)
unfolding with_bound through
own_bound m i j c k =
    subst (λ p. OwnBound (int_min (m (opposite k) k) (int_min (int_min (m (opposite i) p +ℤ c) (m j p +ℤ (c +ℤ c +ℤ m (opposite i) i)) +ℤ m j k) (int_min (m j p +ℤ c) (m (opposite i) p +ℤ (c +ℤ c +ℤ m j (opposite j))) +ℤ m (opposite i) k))) (m (opposite k) k) (m (opposite i) k) (m j k) c (m j (opposite j)) (m (opposite i) i))
    (sym (opposite-opposite k))
    (own_bound-plain (m (opposite k) k) (m (opposite i) k) (m j k) c (m j (opposite j)) (m (opposite i) i))

-- where a number is even, or the other is, half of each leaves room
half_even : (u v t : ℤ) → u ≡ t +ℤ t → pos 0 ≤ℤ (u +ℤ v) → pos 0 ≤ℤ (half_of u +ℤ half_of v)
half_even u v t e h =
    let a = le_half u in
    let b = le_half v in
    omega (arith, ints)

half_even_right : (u v t : ℤ) → v ≡ t +ℤ t → pos 0 ≤ℤ (u +ℤ v) → pos 0 ≤ℤ (half_of u +ℤ half_of v)
half_even_right u v t e h =
    let a = le_half u in
    let b = le_half v in
    omega (arith, ints)

half_both : (u v : ℤ) → pos 1 ≤ℤ (u +ℤ v) → pos 0 ≤ℤ (half_of u +ℤ half_of v)
half_both u v h =
    let a = le_half u in
    let b = le_half v in
    omega (arith, ints)

-- both use the new bound once: were they each other's negative and odd, so would be the bounds of -i and j, and
-- these, made even, would contradict the new bound
half_once : (u v a b a' b' c ji ti tj : ℤ) → u ≡ a +ℤ c +ℤ b → v ≡ a' +ℤ c +ℤ b' → pos 0 ≤ℤ (u +ℤ v)
    → ji ≤ℤ (b +ℤ a') → ji ≤ℤ (a +ℤ b') → (ti +ℤ ti) ≤ℤ (a +ℤ a') → (tj +ℤ tj) ≤ℤ (b +ℤ b') → pos 0 ≤ℤ (c +ℤ ji) → ji ≤ℤ (tj +ℤ ti)
    → pos 0 ≤ℤ (half_of u +ℤ half_of v)
half_once u v a b a' b' c ji ti tj hu hv h f1 f2 f3 f4 f5 f6 =
    let p = le_half u in
    let p' = half_le u in
    let q = le_half v in
    let q' = half_le v in
    omega (arith, ints)

halves_meet-plain : (u v own own' a b a' b' c jj ii ji ti tj t t' : ℤ)
    → OwnBound u own a b c jj ii → OwnBound v own' a' b' c jj ii → pos 0 ≤ℤ (u +ℤ v)
    → ji ≤ℤ (b +ℤ a') → ji ≤ℤ (a +ℤ b') → ii ≤ℤ (a +ℤ a') → jj ≤ℤ (b +ℤ b') → pos 0 ≤ℤ (c +ℤ ji) → ji ≤ℤ (tj +ℤ ti)
    → ii ≡ ti +ℤ ti → jj ≡ tj +ℤ tj → own ≡ t +ℤ t → own' ≡ t' +ℤ t'
    → pos 0 ≤ℤ (half_of u +ℤ half_of v)
halves_meet-plain u v own own' a b a' b' c jj ii ji ti tj t t' x y h f1 f2 f3 f4 f5 f6 ei ej e e' =
    elim x.cases [
      | inl p ↦ half_even u v t (p ∙ e) h
      | inr g ↦ elim g [
        | inl p ↦ elim y.cases [
          | inl q ↦ half_even_right u v t' (q ∙ e') h
          | inr k ↦ elim k [
            | inl q ↦ half_once u v a b a' b' c ji ti tj p q h f1 f2 (omega (arith, ints)) (omega (arith, ints)) f5 f6
            | inr k ↦ elim k [
              | inl q ↦ half_even_right u v (b' +ℤ c +ℤ ti) (omega (arith, ints)) h
              | inr q ↦ half_even_right u v (a' +ℤ c +ℤ tj) (omega (arith, ints)) h
            ]
          ]
        ]
        | inr g ↦ elim g [
          | inl p ↦ half_even u v (b +ℤ c +ℤ ti) (omega (arith, ints)) h
          | inr p ↦ half_even u v (a +ℤ c +ℤ tj) (omega (arith, ints)) h
        ]
      ]
    ]

halves_meet : (n : ℕ) (m : ℕ → ℕ → ℤ) (i j : ℕ) (c : ℤ) → CanAdd n m i j c → (k : ℕ) → k < 2 * n → pos 0 ≤ℤ (top (with_bound m i j c) k +ℤ top (with_bound m i j c) (opposite k))
unfolding top
halves_meet n m i j c a k hk =
    let t = a.table in
    let ok = opposite-lt n k hk in
    let f = around n m i j c a in
    let r = rows n m i j c a k hk in
    let sum : pos 0 ≤ℤ (with_bound m i j c (opposite k) k +ℤ with_bound m i j c (opposite (opposite k)) (opposite k)) =
    let tri = with_bound-triangle n m i j c a (opposite k) k (opposite k) ok hk ok in
    let same = with_bound-same n m i j c a (opposite k) ok in
    let turn = ap (λ p. with_bound m i j c p (opposite k)) (opposite-opposite k) in
    omega (arith, ints) in
    halves_meet-plain (with_bound m i j c (opposite k) k) (with_bound m i j c (opposite (opposite k)) (opposite k)) (m (opposite k) k) (m (opposite (opposite k)) (opposite k))
    (m (opposite i) k) (m j k) (m (opposite i) (opposite k)) (m j (opposite k)) c (m j (opposite j)) (m (opposite i) i) (m j i)
    (half_of (m (opposite i) i)) (half_of (m (opposite (opposite j)) (opposite j))) (half_of (m (opposite k) k)) (half_of (m (opposite (opposite k)) (opposite k)))
    (own_bound m i j c k) (own_bound m i j c (opposite k)) sum r.jk_ki r.ik_kj r.ik_ki r.jk_kj f.room f.joined_ji f.even_i f.even_j (t.even k hk) (t.even (opposite k) ok)

-- ---- the joining pass keeps all

top_bounds : (m : ℕ → ℕ → ℤ) (k : ℕ) → ((top m k +ℤ top m k) ≤ℤ m (opposite k) k) × (m (opposite k) k ≤ℤ (top m k +ℤ top m k +ℤ pos 1))
unfolding top
top_bounds m k = (half_le (m (opposite k) k), le_half (m (opposite k) k))

-- a table but for the even bounds and those of one side alone, which leave room
record IsNearTable (n : ℕ) (m : ℕ → ℕ → ℤ) : Type 0 where
  same : (k : ℕ) → k < 2 * n → m k k ≡ pos 0
  coherent : (k l : ℕ) → k < 2 * n → l < 2 * n → m k l ≡ m (opposite l) (opposite k)
  triangle : (k r l : ℕ) → k < 2 * n → r < 2 * n → l < 2 * n → m k l ≤ℤ (m k r +ℤ m r l)
  meet : (k : ℕ) → k < 2 * n → pos 0 ≤ℤ (top m k +ℤ top m (opposite k))

near : (n : ℕ) (m : ℕ → ℕ → ℤ) (i j : ℕ) (c : ℤ) → CanAdd n m i j c → IsNearTable n (with_bound m i j c)
near n m i j c a = record {
  same = with_bound-same n m i j c a;
  coherent = with_bound-coherent n m i j c a;
  triangle = with_bound-triangle n m i j c a;
  meet = halves_meet n m i j c a;
}

-- a side's greatest value goes no further than one by way of r
top_le : (n : ℕ) (m : ℕ → ℕ → ℤ) → IsNearTable n m → (k r : ℕ) → k < 2 * n → r < 2 * n → top m k ≤ℤ (top m r +ℤ m r k)
top_le n m t k r hk hr =
    let ok = opposite-lt n k hk in
    let or = opposite-lt n r hr in
    let a = top_bounds m k in
    let a0 = a.0 in
    let b = top_bounds m r in
    let b1 = b.1 in
    let t1 = t.triangle (opposite k) (opposite r) k ok or hk in
    let t2 = t.triangle (opposite r) r k or hr hk in
    let e : m r k ≡ m (opposite k) (opposite r) = t.coherent r k hr hk in
    omega (arith, ints)

record Least2 (z a b : ℤ) : Type 0 where
  first : z ≤ℤ a
  second : z ≤ℤ b
  one_of : (z ≡ a) ⊎ (z ≡ b)

least2 : (m : ℕ → ℕ → ℤ) (k l : ℕ) → Least2 (joined m k l) (m k l) (top m (opposite k) +ℤ top m l)
unfolding joined
least2 m k l = record {
  first = min_le_left _ _;
  second = min_le_right _ _;
  one_of = min_is _ _;
}

joined-same : (n : ℕ) (m : ℕ → ℕ → ℤ) → IsNearTable n m → (k : ℕ) → k < 2 * n → joined m k k ≡ pos 0
joined-same n m t k hk =
    let l2 = least2 m k k in
    let first = l2.first in
    let s = t.same k hk in
    let meet = t.meet k hk in
    elim l2.one_of [ inl e ↦ e ∙ s | inr e ↦ omega (arith, ints) ]

joined-coherent : (n : ℕ) (m : ℕ → ℕ → ℤ) → IsNearTable n m → (k l : ℕ) → k < 2 * n → l < 2 * n → joined m k l ≡ joined m (opposite l) (opposite k)
joined-coherent n m t k l hk hl =
    let e = t.coherent k l hk hl in
    let there = least2 m k l in
    let here = least2 m (opposite l) (opposite k) in
    let f : top m (opposite (opposite l)) ≡ top m l = ap (top m) (opposite-opposite l) in
    let a1 = there.first in
    let a2 = there.second in
    let b1 = here.first in
    let b2 = here.second in
    elim there.one_of [
      | inl p ↦ elim here.one_of [ inl q ↦ omega (arith, ints) | inr q ↦ omega (arith, ints) ]
      | inr p ↦ elim here.one_of [ inl q ↦ omega (arith, ints) | inr q ↦ omega (arith, ints) ]
    ]

joined-triangle : (n : ℕ) (m : ℕ → ℕ → ℤ) → IsNearTable n m → (k r l : ℕ) → k < 2 * n → r < 2 * n → l < 2 * n → joined m k l ≤ℤ (joined m k r +ℤ joined m r l)
joined-triangle n m t k r l hk hr hl =
    let ok = opposite-lt n k hk in
    let or = opposite-lt n r hr in
    let kl = least2 m k l in
    let kl1 = kl.first in
    let kl2 = kl.second in
    let kr = least2 m k r in
    let rl = least2 m r l in
    let tri = t.triangle k r l hk hr hl in
    let left = top_le n m t (opposite k) (opposite r) ok or in
    let e : m (opposite r) (opposite k) ≡ m k r = sym (t.coherent k r hk hr) in
    let right = top_le n m t l r hl hr in
    let meet = t.meet r hr in
    elim kr.one_of [
      | inl p ↦ elim rl.one_of [ inl q ↦ omega (arith, ints) | inr q ↦ omega (arith, ints) ]
      | inr p ↦ elim rl.one_of [ inl q ↦ omega (arith, ints) | inr q ↦ omega (arith, ints) ]
    ]

joined-own : (m : ℕ → ℕ → ℤ) (k : ℕ) → joined m (opposite k) k ≡ top m k +ℤ top m k
joined-own m k =
    let l2 = least2 m (opposite k) k in
    let second = l2.second in
    let f : top m (opposite (opposite k)) ≡ top m k = ap (top m) (opposite-opposite k) in
    let b = top_bounds m k in
    let b0 = b.0 in
    elim l2.one_of [ inl e ↦ omega (arith, ints) | inr e ↦ omega (arith, ints) ]

top-joined : (m : ℕ → ℕ → ℤ) (k : ℕ) → top (joined m) k ≡ top m k
unfolding top
top-joined m k = ap half_of (joined-own m k) ∙ half-double (half_of (m (opposite k) k))

joined-table : (n : ℕ) (m : ℕ → ℕ → ℤ) → IsNearTable n m → IsTable n (joined m)
joined-table n m t = record {
  same = joined-same n m t;
  coherent = joined-coherent n m t;
  triangle = joined-triangle n m t;
  even = λ k hk. let e = top-joined m k in let o = joined-own m k in omega (arith, ints);
  join = λ k l hk hl.
      let s = (least2 m k l).second in
      let e = top-joined m (opposite k) in
      let f = top-joined m l in
      omega (arith, ints);
}

-- one more bound that does not contradict a table leaves a table
pub closed-table : (n : ℕ) (m : ℕ → ℕ → ℤ) (i j : ℕ) (c : ℤ) → IsTable n m → i < 2 * n → j < 2 * n → pos 0 ≤ℤ (c +ℤ m j i) → IsTable n (closed m i j c)
unfolding closed
closed-table n m i j c t hi hj h = joined-table n (with_bound m i j c) (near n m i j c (record { table = t; i_in = hi; j_in = hj; room = h }))

-- no bound rises
pub closed_le : (m : ℕ → ℕ → ℤ) (i j : ℕ) (c : ℤ) (k l : ℕ) → closed m i j c k l ≤ℤ m k l
unfolding closed
closed_le m i j c k l =
    let a = (least2 (with_bound m i j c) k l).first in
    let b = (bounded m i j c k l).first in
    omega (arith, ints)

-- the new bound stands in the table
pub closed_new : (n : ℕ) (m : ℕ → ℕ → ℤ) (i j : ℕ) (c : ℤ) → IsTable n m → i < 2 * n → j < 2 * n → closed m i j c i j ≤ℤ c
unfolding closed through
closed_new n m i j c t hi hj =
    let a = (least2 (with_bound m i j c) i j).first in
    let b = (bounded m i j c i j).second in
    let d = t.same (opposite i) (opposite-lt n i hi) in
    let e = t.same j hj in
    let f = min_le_left (m (opposite i) (opposite i) +ℤ c) (m j (opposite i) +ℤ (c +ℤ c +ℤ m (opposite i) i)) in
    omega (arith, ints)
