-- There is one worst choice.
use Rattle.std.proofs.Common.{◌≡◌, ℕ, zero, suc, ◌≤◌, inl, inr, List, [], ◌∷◌, get_or, None, refl, ap, sym, ◌∙◌, subst, arith}
use Rattle.std.specs.Prelude.{slice_get}
use Rattle.std.proofs.lemmas.Option.{same_Some}
use Rattle.wm_flow.specs.declared.graph.Edge.{Edge}
use Rattle.wm_flow.specs.declared.graph.Head.{Head}
use Rattle.wm_path.specs.declared.choice.Body.{Body}
use Rattle.wm_path.specs.declared.choice.Choice.{Choice}
use Rattle.wm_path.specs.declared.choice.Choice.TheViews.{out-Choice, roll-Choice, roll-out-Choice}
use Rattle.wm_path_laws.specs.Choices.{IsLaidOut, Setting, IsThrough, Leads, Meets, IsTurn, AreTurns, IsWithin, last_of, weight_of}
use Rattle.wm_path_laws.specs.Paths.{IsNotAfter}
use Rattle.wm_path_laws.specs.Worst.{IsFirstOfGreatest, AreWorst, IsEndOf, IsWorstWithin, OneIsWorst}

not_after_both : (p q : List ℕ) → IsNotAfter p q → IsNotAfter q p → p ≡ q
not_after_both [] [] h k = refl
not_after_both [] (m ∷ q) h k = absurd k
not_after_both (n ∷ p) [] h k = absurd h
not_after_both (n ∷ p) (m ∷ q) (inl h) (inl k) = absurd (omega (arith, h, k))
not_after_both (n ∷ p) (m ∷ q) (inl h) (inr k) = absurd (omega (arith, h, k.0))
not_after_both (n ∷ p) (m ∷ q) (inr h) (inl k) = absurd (omega (arith, h.0, k))
not_after_both (n ∷ p) (m ∷ q) (inr h) (inr k) = λ i. (h.0 i) ∷ (not_after_both p q h.1 k.1 i)

same_choice : (a b : Choice) → (out-Choice a).edges ≡ (out-Choice b).edges → (out-Choice a).bodies ≡ (out-Choice b).bodies → a ≡ b
same_choice a b e f =
    let is : out-Choice a ≡ out-Choice b = λ i. record { edges = e i; bodies = f i } in
    sym (roll-out-Choice a) ∙ ap roll-Choice is ∙ roll-out-Choice b

same_body : (a b : Body Choice) → a.head ≡ b.head → a.turns ≡ b.turns → a.choice ≡ b.choice → a ≡ b
same_body a b h t c = λ i. record { head = h i; turns = t i; choice = c i }

within_leads : (levels : ℕ) (s : Setting) (from to : ℕ) (choice : Choice) → IsWithin levels s from to choice → Leads s from (out-Choice choice).edges to
within_leads zero s from to choice is = absurd is
within_leads (suc levels) s from to choice is = is.0

module _ (s : Setting) (laid : IsLaidOut s.graph) where
  -- an edge leads into one head at most
  same_number : (number k k' : ℕ) (head head' : Head) → Meets s number k head → Meets s number k' head' → k ≡ k'
  same_number number k k' head head' m m' =
      let same : m.0 ≡ m'.0 = same_Some m.0 m'.0 (sym m.1 ∙ m'.1) in
      laid.apart k k' head head' m.2.0 m'.2.0 (sym m.3 ∙ ap (λ (e : Edge). e.target) same ∙ m'.3)

  same_head : (number k k' : ℕ) (head head' : Head) → Meets s number k head → Meets s number k' head' → head ≡ head'
  same_head number k k' head head' m m' =
      same_Some head head' (sym m.2.0 ∙ ap (slice_get s.graph.heads) (same_number number k k' head head' m m') ∙ m'.2.0)

  -- a turn of a loop through whose body nothing leads
  no_turn : (levels number k k' : ℕ) (head head' : Head) (body : Body Choice) → Meets s number k head → ((way : List ℕ) → IsThrough s head way → ⊥) → Meets s number k' head' → IsTurn (IsWithin levels s) s k' head' body → ⊥
  no_turn levels number k k' head head' body m closed m' turn =
      closed (out-Choice body.choice).edges
      (subst (λ (h : Head). IsThrough s h (out-Choice body.choice).edges) (sym (same_head number k k' head head' m m')) (within_leads levels s head'.node (last_of s head') body.choice turn.2))

  module _ (a_levels b_levels x y : ℕ) (inner : (from : ℕ) (IsEnd : ℕ → Type 0) (a b : Choice) → IsWorstWithin x s from IsEnd a → IsWorstWithin y s from IsEnd b → a ≡ b) where
    abbrev IsTurnWith : (levels number : ℕ) (numbers : List ℕ) (bodies : List (Body Choice)) → Type 0
    IsTurnWith levels number numbers bodies =
        (k : ℕ) × (head : Head) × (body : Body Choice) × (rest : List (Body Choice)) × Meets s number k head × (bodies ≡ body ∷ rest)
        × IsTurn (IsWithin levels s) s k head body × AreTurns (IsWithin levels s) s numbers rest

    -- two turns of one loop
    one_turn : (number : ℕ) (numbers : List ℕ) (bodies bodies' : List (Body Choice)) (t : IsTurnWith a_levels number numbers bodies) (u : IsTurnWith b_levels number numbers bodies') → AreWorst (IsWorstWithin x s) s bodies → AreWorst (IsWorstWithin y s) s bodies' → (AreWorst (IsWorstWithin x s) s t.3 → AreWorst (IsWorstWithin y s) s u.3 → t.3 ≡ u.3) → bodies ≡ bodies'
    one_turn number numbers bodies bodies' t u w v rest =
        let w' : AreWorst (IsWorstWithin x s) s (t.2 ∷ t.3) = subst (AreWorst (IsWorstWithin x s) s) t.5 w in
        let v' : AreWorst (IsWorstWithin y s) s (u.2 ∷ u.3) = subst (AreWorst (IsWorstWithin y s) s) u.5 v in
        let number_same : t.0 ≡ u.0 = same_number number t.0 u.0 t.1 u.1 t.4 u.4 in
        let heads : t.2.head ≡ u.2.head = t.6.0 ∙ number_same ∙ sym u.6.0 in
        let turns : t.2.turns ≡ u.2.turns = same_Some t.2.turns u.2.turns (sym t.6.1 ∙ ap (λ (k : ℕ). get_or s.facts.turns k None) number_same ∙ u.6.1) in
        let head_same : w'.0.0 ≡ v'.0.0 = same_Some w'.0.0 v'.0.0 (sym w'.0.1 ∙ ap (slice_get s.graph.heads) heads ∙ v'.0.1) in
        let choices : t.2.choice ≡ u.2.choice =
        inner v'.0.0.node (λ node. node ≡ last_of s v'.0.0) t.2.choice u.2.choice
        (subst (λ (h : Head). IsWorstWithin x s h.node (λ node. node ≡ last_of s h) t.2.choice) head_same w'.0.2) v'.0.2 in
        t.5 ∙ ap (λ (b : Body Choice). b ∷ t.3) (same_body t.2 u.2 heads turns choices) ∙ ap (λ (bs : List (Body Choice)). u.2 ∷ bs) (rest w'.1 v'.1) ∙ sym u.5

    same_bodies : (numbers : List ℕ) (bodies bodies' : List (Body Choice)) → AreTurns (IsWithin a_levels s) s numbers bodies → AreTurns (IsWithin b_levels s) s numbers bodies' → AreWorst (IsWorstWithin x s) s bodies → AreWorst (IsWorstWithin y s) s bodies' → bodies ≡ bodies'
    same_bodies [] bodies bodies' t u w v = t ∙ sym u
    same_bodies (number ∷ numbers) bodies bodies' (inl t) (inl u) w v = same_bodies numbers bodies bodies' t.1 u.1 w v
    same_bodies (number ∷ numbers) bodies bodies' (inl t) (inr (inl u)) w v = absurd (t.0 u.0.0 u.0.1 u.0.2)
    same_bodies (number ∷ numbers) bodies bodies' (inl t) (inr (inr u)) w v = absurd (t.0 u.0 u.1 u.4)
    same_bodies (number ∷ numbers) bodies bodies' (inr (inl t)) (inl u) w v = absurd (u.0 t.0.0 t.0.1 t.0.2)
    same_bodies (number ∷ numbers) bodies bodies' (inr (inl t)) (inr (inl u)) w v = same_bodies numbers bodies bodies' t.1 u.1 w v
    same_bodies (number ∷ numbers) bodies bodies' (inr (inl t)) (inr (inr u)) w v = absurd (no_turn b_levels number t.0.0 u.0 t.0.1 u.1 u.2 t.0.2 t.0.3 u.4 u.6)
    same_bodies (number ∷ numbers) bodies bodies' (inr (inr t)) (inl u) w v = absurd (u.0 t.0 t.1 t.4)
    same_bodies (number ∷ numbers) bodies bodies' (inr (inr t)) (inr (inl u)) w v = absurd (no_turn a_levels number u.0.0 t.0 u.0.1 t.1 t.2 u.0.2 u.0.3 t.4 t.6)
    same_bodies (number ∷ numbers) bodies bodies' (inr (inr t)) (inr (inr u)) w v =
        one_turn number numbers bodies bodies' t u w v (λ w' v'. same_bodies numbers t.3 u.3 t.7 u.7 w' v')

  -- the parts of a choice
  same_parts : (a_levels b_levels x y from a_to b_to : ℕ) (a b : Choice) → ((from : ℕ) (IsEnd : ℕ → Type 0) (a b : Choice) → IsWorstWithin x s from IsEnd a → IsWorstWithin y s from IsEnd b → a ≡ b) → (out-Choice a).edges ≡ (out-Choice b).edges → IsWithin a_levels s from a_to a → IsWithin b_levels s from b_to b → AreWorst (IsWorstWithin x s) s (out-Choice a).bodies → AreWorst (IsWorstWithin y s) s (out-Choice b).bodies → a ≡ b
  same_parts zero b_levels x y from a_to b_to a b inner e p q w v = absurd p
  same_parts (suc a_levels) zero x y from a_to b_to a b inner e p q w v = absurd q
  same_parts (suc a_levels) (suc b_levels) x y from a_to b_to a b inner e p q w v =
      same_choice a b e
      (same_bodies a_levels b_levels x y inner (out-Choice b).edges (out-Choice a).bodies (out-Choice b).bodies
      (subst (λ (es : List ℕ). AreTurns (IsWithin a_levels s) s es (out-Choice a).bodies) e p.1) q.1 w v)

  same_edges : (from : ℕ) (IsEnd : ℕ → Type 0) (a b : Choice) → IsFirstOfGreatest s from IsEnd a → IsFirstOfGreatest s from IsEnd b → (out-Choice a).edges ≡ (out-Choice b).edges
  same_edges from IsEnd a b p q =
      let up : weight_of s b ≤ weight_of s a = p.greatest b q.to q.ends q.is in
      let down : weight_of s a ≤ weight_of s b = q.greatest a p.to p.ends p.is in
      let same : weight_of s a ≡ weight_of s b = omega (arith, up, down) in
      not_after_both (out-Choice a).edges (out-Choice b).edges (p.before b q.to q.ends q.is (sym same)) (q.before a p.to p.ends p.is same)

  one_worst : (x y from : ℕ) (IsEnd : ℕ → Type 0) (a b : Choice) → IsWorstWithin x s from IsEnd a → IsWorstWithin y s from IsEnd b → a ≡ b
  one_worst zero y from IsEnd a b p q = absurd p
  one_worst (suc x) zero from IsEnd a b p q = absurd q
  one_worst (suc x) (suc y) from IsEnd a b p q =
      same_parts p.0.is.0 q.0.is.0 x y from p.0.to q.0.to a b (λ from' IsEnd' a' b' p' q'. one_worst x y from' IsEnd' a' b' p' q')
      (same_edges from IsEnd a b p.0 q.0) p.0.is.1 q.0.is.1 p.1 q.1

pub one_is_worst : OneIsWorst
one_is_worst s frame a b laid p q = one_worst s laid p.0 q.0 frame.node (IsEndOf s frame) a b p.1 q.1
