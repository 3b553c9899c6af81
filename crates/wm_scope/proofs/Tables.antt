-- What a table of words has after a write.
use Rattle.std.proofs.Common.{◌≡◌, ℕ, Bool, true, false, cond, List, [], ◌∷◌, Option, Some, None, Vec, refl, ap, sym, ◌∙◌, subst, bytes_eq, true≢false, is_some}
use Rattle.std.proofs.lemmas.Slice.Eq.{bytes_eq-Decides}
use Rattle.std.specs.Map.{lookup, set_value}
use Rattle.indexmap.specs.IndexMap.{insert_entry}
use Rattle.wm_scope.specs.declared.places.Last.{Last}
use Rattle.wm_scope.specs.Pairs.{pairs}
use Rattle.wm_scope.specs.Places.{last_in, put, put_back}

-- ---- the entries as pairs

abbrev pub flat : Option (Option Last) → Option Last
flat None = None
flat (Some last) = last

flat-cond : (b : Bool) (x : Option Last) (y : Option (Option Last)) → flat (cond b (Some x) y) ≡ cond b x (flat y)
flat-cond true x y = refl
flat-cond false x y = refl

module _ {A : Type 0} where
  pairs-cond : (b : Bool) (xs ys : List (Vec ℕ A × Option Last)) → pairs (cond b xs ys) ≡ cond b (pairs xs) (pairs ys)
  pairs-cond true xs ys = refl
  pairs-cond false xs ys = refl

  pub lookup-pairs : (word : List ℕ) (es : List (Vec ℕ A × Option Last)) → flat (lookup (λ k. bytes_eq word k.items) es) ≡ last_in word (pairs es)
  lookup-pairs word [] = refl
  lookup-pairs word (e ∷ es) = flat-cond (bytes_eq word e.0.items) e.1 _ ∙ ap (λ r. cond (bytes_eq word e.0.items) e.1 r) (lookup-pairs word es)

  pub pairs-insert : (k : Vec ℕ A) (last : Last) (es : List (Vec ℕ A × Option Last)) → pairs (insert_entry (λ x y. bytes_eq x.items y.items) es k (Some last)) ≡ put k.items last (pairs es)
  pairs-insert k last [] = refl
  pairs-insert k last (e ∷ es) =
      pairs-cond (bytes_eq k.items e.0.items) _ _
      ∙ ap (λ r. cond (bytes_eq k.items e.0.items) ((e.0.items, Some last) ∷ pairs es) ((e.0.items, e.1) ∷ r)) (pairs-insert k last es)

  pub pairs-set : (word : List ℕ) (before : Option Last) (es : List (Vec ℕ A × Option Last)) → pairs (set_value (λ k. bytes_eq word k.items) es before) ≡ put_back word before (pairs es)
  pairs-set word before [] = refl
  pairs-set word before (e ∷ es) =
      pairs-cond (bytes_eq word e.0.items) _ _
      ∙ ap (λ r. cond (bytes_eq word e.0.items) ((e.0.items, before) ∷ pairs es) ((e.0.items, e.1) ∷ r)) (pairs-set word before es)

  -- a word that is not there
  pub pairs-absent : (word : List ℕ) (before : Option Last) (es : List (Vec ℕ A × Option Last)) → lookup (λ k. bytes_eq word k.items) es ≡ None → put_back word before (pairs es) ≡ pairs es
  pairs-absent word before [] h = refl
  pairs-absent word before (e ∷ es) h = by (bytes_eq word e.0.items) h (pairs-absent word before es)
    where
      by : (b : Bool) → cond b (Some e.1) (lookup (λ k. bytes_eq word k.items) es) ≡ None
          → (lookup (λ k. bytes_eq word k.items) es ≡ None → put_back word before (pairs es) ≡ pairs es)
          → cond b ((e.0.items, before) ∷ pairs es) ((e.0.items, e.1) ∷ put_back word before (pairs es)) ≡ (e.0.items, e.1) ∷ pairs es
      by true h rest = absurd (true≢false (ap is_some h))
      by false h rest = ap (λ r. (e.0.items, e.1) ∷ r) (rest h)

-- ---- what is found behind a write

again : (b : Bool) (new old rest : Option Last) → cond b new rest ≡ cond b new (cond b old rest)
again true new old rest = refl
again false new old rest = refl

-- the word that is written
written : (x w k : List ℕ) (new old rest : Option Last) → bytes_eq w k ≡ true → cond (bytes_eq x k) new rest ≡ cond (bytes_eq x w) new (cond (bytes_eq x k) old rest)
written x w k new old rest h =
    subst (λ v. cond (bytes_eq x v) new rest ≡ cond (bytes_eq x w) new (cond (bytes_eq x v) old rest)) ((bytes_eq-Decides w k).0 h) (again (bytes_eq x w) new old rest)

-- another word
passed : (x w k : List ℕ) (new old rest : Option Last) → bytes_eq w k ≡ false → cond (bytes_eq x k) old (cond (bytes_eq x w) new rest) ≡ cond (bytes_eq x w) new (cond (bytes_eq x k) old rest)
passed x w k new old rest h = by (bytes_eq x k) (bytes_eq x w) refl refl
  where
    by : (a b : Bool) → bytes_eq x k ≡ a → bytes_eq x w ≡ b → cond a old (cond b new rest) ≡ cond b new (cond a old rest)
    by true true p q =
        let same : w ≡ k = sym ((bytes_eq-Decides x w).0 q) ∙ (bytes_eq-Decides x k).0 p in
        absurd (true≢false (sym ((bytes_eq-Decides w k).1 same) ∙ h))
    by true false p q = refl
    by false true p q = refl
    by false false p q = refl

last_in-cond : (x : List ℕ) (b : Bool) (es fs : List (List ℕ × Option Last)) → last_in x (cond b es fs) ≡ cond b (last_in x es) (last_in x fs)
last_in-cond x true es fs = refl
last_in-cond x false es fs = refl

pub last_in-put : (x w : List ℕ) (last : Last) (es : List (List ℕ × Option Last)) → last_in x (put w last es) ≡ cond (bytes_eq x w) (Some last) (last_in x es)
last_in-put x w last [] = refl
last_in-put x w last (e ∷ es) = by (bytes_eq w e.0) refl (last_in-put x w last es)
  where
    by : (b : Bool) → bytes_eq w e.0 ≡ b → last_in x (put w last es) ≡ cond (bytes_eq x w) (Some last) (last_in x es)
        → last_in x (cond b ((e.0, Some last) ∷ es) (e ∷ put w last es)) ≡ cond (bytes_eq x w) (Some last) (last_in x (e ∷ es))
    by true h rest = written x w e.0 (Some last) e.1 (last_in x es) h
    by false h rest = ap (λ r. cond (bytes_eq x e.0) e.1 r) rest ∙ passed x w e.0 (Some last) e.1 (last_in x es) h

pub last_in-put_back : (x w : List ℕ) (before : Option Last) (last : Last) (es : List (List ℕ × Option Last)) → last_in w es ≡ Some last → last_in x (put_back w before es) ≡ cond (bytes_eq x w) before (last_in x es)
last_in-put_back x w before last [] there = absurd (true≢false (sym (ap is_some there)))
last_in-put_back x w before last (e ∷ es) there = by (bytes_eq w e.0) refl there (last_in-put_back x w before last es)
  where
    by : (b : Bool) → bytes_eq w e.0 ≡ b → cond b e.1 (last_in w es) ≡ Some last
        → (last_in w es ≡ Some last → last_in x (put_back w before es) ≡ cond (bytes_eq x w) before (last_in x es))
        → last_in x (cond b ((e.0, before) ∷ es) (e ∷ put_back w before es)) ≡ cond (bytes_eq x w) before (last_in x (e ∷ es))
    by true h there rest = written x w e.0 before e.1 (last_in x es) h
    by false h there rest = ap (λ r. cond (bytes_eq x e.0) e.1 r) (rest there) ∙ passed x w e.0 before e.1 (last_in x es) h
