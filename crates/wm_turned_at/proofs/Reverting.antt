-- A point as it was before its counters grew.
use Rattle.std.proofs.Common.{◌≡◌, ◌≢◌, ◌⊎◌, inl, inr, ℕ, zero, suc, ◌<◌, ◌≤◌, ℤ, pos, ◌+ℤ◌, List, [], ◌∷◌, length, map, All, Option, Some, None, refl, sym, ◌∙◌, ap, subst, arith}
use Rattle.std.proofs.lemmas.Bool.{cases_eq}
use Rattle.std.specs.Int.{int_min}
use Rattle.wm_interval.specs.Holds.{Holds}
use Rattle.wm_domain.specs.declared.shape.Shape.{Shape}
use Rattle.wm_domain.specs.Points.{Point, SameBut, range_at}
use Rattle.wm_domain.specs.States.{variables_of, count_of, InShape}
use Rattle.wm_domain.proofs.Moving.{with_value, moved-here, moved-there}
use Rattle.wm_flow.specs.declared.action.Growth.{Growth}
use Rattle.wm_carry.specs.Following.{origin, Comes, IsApart, IsWay, Follows, Carried, Moved}
use Rattle.wm_carry.proofs.Changing.{come, inside_with}
use Rattle.wm_carry.proofs.Ranks.{origin_below}
use Rattle.wm_turned.specs.Turning.{Grown, AllGrown, grown}
use Rattle.wm_step.specs.Images.{TurnImage}
use Rattle.wm_turned_at.specs.Counters.{IsOther, IsCounter, AreCounters}

held : (s t : Shape) (v : ℕ) (o : Option ℕ) (was p : Point) → IsWay s t → InShape s was → InShape t p → v < count_of t → origin s t v ≡ o → Holds (range_at (variables_of t) v) (come o was (p.values v))
held s t v None was p way i j h e = j.numbers v h
held s t v (Some w) was p way i j h e = subst (λ r. Holds r (was.values w)) (sym (way.alike v w h e)) (i.numbers w (origin_below s t v w e))

pub all_inside : (s t : Shape) (gs : List Growth) → AreCounters s t gs → All (λ (g : Growth). g.variable < count_of t) gs
all_inside s t [] c k d l = absurd (omega (arith, l))
all_inside s t (it ∷ rest) c zero d l = c.0.inside
all_inside s t (it ∷ rest) c (suc k) d l = all_inside s t rest c.2 k d (omega (arith, l))

module _ (s t : Shape) (was : Point) where
  -- the number of a counter before
  abbrev pub number : ℕ → ℤ → ℤ
  number v z = come (origin s t v) was z

  abbrev pub revert : List Growth → Point → Point
  revert [] p = p
  revert (it ∷ rest) p = with_value (revert rest p) it.variable (number it.variable (p.values it.variable))

  revert_other : (gs : List Growth) (p : Point) (v : ℕ) → IsOther v gs → (revert gs p).values v ≡ p.values v
  revert_other [] p v h = refl
  revert_other (it ∷ rest) p v h = moved-there (revert rest p).values it.variable (number it.variable (p.values it.variable)) v h.0 ∙ revert_other rest p v h.1

  revert_cells : (gs : List Growth) (p : Point) (a : ℕ) → (revert gs p).cells a ≡ p.cells a
  revert_cells [] p a = refl
  revert_cells (it ∷ rest) p a = revert_cells rest p a

  pub revert_inside : IsWay s t → InShape s was → (gs : List Growth) (p : Point) → AreCounters s t gs → InShape t p → InShape t (revert gs p)
  revert_inside way j [] p h i = i
  revert_inside way j (it ∷ rest) p h i =
      inside_with t (revert rest p) it.variable (number it.variable (p.values it.variable)) (revert_inside way j rest p h.2 i)
      (held s t it.variable (origin s t it.variable) was p way j i h.0.inside refl)

  pub revert_follows : (gs : List Growth) (p : Point) → Follows s t (map (λ (g : Growth). g.variable) gs) was p → Follows s t [] was (revert gs p)
  revert_follows gs p f = record { numbers = λ v h a. at gs v (side gs v) (λ n. f.numbers v h n) }
    where
      comes : (o : Option ℕ) (z : ℤ) → Comes was o (come o was z)
      comes None z = tt
      comes (Some w) z = refl

      side : (gs : List Growth) (v : ℕ) → IsApart (map (λ (g : Growth). g.variable) gs) v ⊎ (IsApart (map (λ (g : Growth). g.variable) gs) v → ⊥)
      side [] v = inl tt
      side (it ∷ rest) v = elim (cases_eq v it.variable) [
        | inl e ↦ inr (λ n. n.0 e)
        | inr ne ↦ elim (side rest v) [
          | inl r ↦ inl (ne, r)
          | inr r ↦ inr (λ n. r n.1)
        ]
      ]

      other : (gs : List Growth) (v : ℕ) → IsApart (map (λ (g : Growth). g.variable) gs) v → IsOther v gs
      other [] v n = tt
      other (it ∷ rest) v n = (n.0, other rest v n.1)

      reverted : (hs : List Growth) (v : ℕ) → (IsApart (map (λ (g : Growth). g.variable) hs) v → ⊥) → Comes was (origin s t v) ((revert hs p).values v)
      reverted [] v n = absurd (n tt)
      reverted (it ∷ rest) v n = elim (cases_eq v it.variable) [
        | inl e ↦ subst (λ (k : ℕ). Comes was (origin s t k) ((revert (it ∷ rest) p).values k)) (sym e)
            (subst (λ (z : ℤ). Comes was (origin s t it.variable) z) (sym (moved-here (revert rest p).values it.variable (number it.variable (p.values it.variable)))) (comes (origin s t it.variable) (p.values it.variable)))
        | inr ne ↦ subst (λ (z : ℤ). Comes was (origin s t v) z) (sym (moved-there (revert rest p).values it.variable (number it.variable (p.values it.variable)) v ne)) (reverted rest v (λ r. n (ne, r)))
      ]

      at : (hs : List Growth) (v : ℕ) → (IsApart (map (λ (g : Growth). g.variable) hs) v ⊎ (IsApart (map (λ (g : Growth). g.variable) hs) v → ⊥)) → (IsApart (map (λ (g : Growth). g.variable) hs) v → Comes was (origin s t v) (p.values v)) → Comes was (origin s t v) ((revert hs p).values v)
      at hs v (inl n) f = subst (λ (z : ℤ). Comes was (origin s t v) z) (sym (revert_other hs p v (other hs v n))) (f n)
      at hs v (inr n) f = reverted hs v n

  -- each counter has grown from its number before
  abbrev pub AllFrom : List Growth → Point → Type 0
  AllFrom gs p = All (λ (g : Growth). (w : ℕ) → origin s t g.variable ≡ Some w → p.values g.variable ≡ grown (was.values w) g.step) gs

  one_grown : (P : Point → Type 0) (it : Growth) (rest : List Growth) (p : Point) → IsCounter s t it → IsOther it.variable rest → InShape t (revert rest p) → ((w : ℕ) → origin s t it.variable ≡ Some w → p.values it.variable ≡ grown (was.values w) it.step)
      → P (revert (it ∷ rest) p) → Grown t P it (revert rest p)
  one_grown P it rest p counter other i from h =
      let z = number it.variable (p.values it.variable) in
      record {
        was = revert (it ∷ rest) p;
        point = h;
        others = record { numbers = λ w ne. sym (moved-there (revert rest p).values it.variable z w ne); cells = λ a. refl };
        value =
            revert_other rest p it.variable other ∙ from counter.from counter.comes
            ∙ ap (λ (x : ℤ). grown x it.step) (sym (moved-here (revert rest p).values it.variable z ∙ ap (λ (o : Option ℕ). come o was (p.values it.variable)) counter.comes));
        inside = i;
      }

  pub all_grown : IsWay s t → InShape s was → (P : Point → Type 0) (gs : List Growth) (p : Point) → AreCounters s t gs → InShape t p → AllFrom gs p → P (revert gs p) → AllGrown t P gs p
  all_grown way j P [] p c i f h = h
  all_grown way j P (it ∷ rest) p c i f h =
      all_grown way j (Grown t P it) rest p c.2 i (λ k d l. f (suc k) d (omega (arith, l)))
      (one_grown P it rest p c.0 c.1 (revert_inside way j rest p c.2 i) (f 0 it (omega arith)) h)

module _ (s t : Shape) (Has : Point → Type 0) (gs : List Growth) (p : Point) where
  -- the point before is one that follows the state
  pub turn_moved : (m : TurnImage s t Has gs p) → Moved s t Has [] [] (revert s t m.was gs p)
  turn_moved m = record {
    was = m.was;
    carried = record {
      point = m.carried.point;
      numbers = revert_follows s t m.was gs p m.carried.numbers;
      cells = record {
        kept = λ a ht hs n. revert_cells s t m.was gs p a ∙ m.carried.cells.kept a ht hs n;
        new = λ a ht hs n. revert_cells s t m.was gs p a ∙ m.carried.cells.new a ht hs n;
      };
    };
  }
