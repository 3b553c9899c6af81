-- A point behind a turn has what the turn's image has: each counter has grown from its number at the point before.
use Rattle.std.proofs.Common.{◌≡◌, ◌≢◌, ◌⊎◌, inl, inr, ℕ, zero, suc, ◌<◌, ◌≤◌, ℤ, Bool, List, [], ◌∷◌, length, map, All, Option, Some, None, refl, sym, ◌∙◌, ap, subst, arith}
use Rattle.wm_domain.specs.declared.shape.Shape.{Shape}
use Rattle.wm_domain.specs.Points.{Point}
use Rattle.wm_domain.specs.States.{count_of, array_count, Keeps, IsLeast}
use Rattle.wm_flow.specs.declared.action.Growth.{Growth}
use Rattle.wm_carry.specs.Following.{origin, Comes, IsApart, IsWay, Moved}
use Rattle.wm_carry.proofs.Reaching.{Laws, through_not}
use Rattle.wm_carry.proofs.Passing.{carried_not}
use Rattle.wm_turned.specs.Turning.{Grown, AllGrown, grown}
use Rattle.wm_turned.proofs.Growing.{all_more}
use Rattle.wm_turned_all.proofs.Leasts.{all_more_not}
use Rattle.wm_step.specs.Images.{TurnImage}
use Rattle.wm_turned_at.specs.Counters.{IsOther, AreCounters}

module _ (s t : Shape) (Has : Point → Type 0) where
  -- some variables follow a point of the state, and some counters have grown from their numbers there
  record Since (Same : ℕ → Type 0) (Done : Growth → Type 0) (p : Point) : Type 0 where
    was : Point
    point : Has was
    numbers : (v : ℕ) → v < count_of t → Same v → Comes was (origin s t v) (p.values v)
    kept : (a : ℕ) → a < array_count t → a < array_count s → p.cells a ≡ was.cells a
    new : (a : ℕ) → a < array_count t → array_count s ≤ a → p.cells a ≡ None
    done : (g : Growth) → Done g → (w : ℕ) → origin s t g.variable ≡ Some w → p.values g.variable ≡ grown (was.values w) g.step

  -- so have these counters
  record Behind (Same : ℕ → Type 0) (Done : Growth → Type 0) (gs : List Growth) (p : Point) : Type 0 where
    was : Point
    point : Has was
    numbers : (v : ℕ) → v < count_of t → Same v → IsApart (map (λ (g : Growth). g.variable) gs) v → Comes was (origin s t v) (p.values v)
    kept : (a : ℕ) → a < array_count t → a < array_count s → p.cells a ≡ was.cells a
    new : (a : ℕ) → a < array_count t → array_count s ≤ a → p.cells a ≡ None
    done : (g : Growth) → Done g → (w : ℕ) → origin s t g.variable ≡ Some w → p.values g.variable ≡ grown (was.values w) g.step
    grew : All (λ (g : Growth). (w : ℕ) → origin s t g.variable ≡ Some w → p.values g.variable ≡ grown (was.values w) g.step) gs

  -- the counters still have their numbers, and are none of those that have grown
  abbrev AreFresh : (ℕ → Type 0) → (Growth → Type 0) → List Growth → Type 0
  AreFresh Same Done [] = Unit {0}
  AreFresh Same Done (it ∷ rest) = (it.variable < count_of t) × Same it.variable × ((g : Growth) → Done g → g.variable ≢ it.variable) × AreFresh Same Done rest

  still_fresh : (Same : ℕ → Type 0) (Done : Growth → Type 0) (it : Growth) (rest : List Growth) → IsOther it.variable rest → AreFresh Same Done rest → AreFresh (λ v. Same v × (v ≢ it.variable)) (λ g. Done g ⊎ (g ≡ it)) rest
  still_fresh Same Done it [] other fresh = tt
  still_fresh Same Done it (r ∷ rest) other fresh = (
    fresh.0,
    (fresh.1, λ e. other.0 (sym e)),
    λ g d. elim d [ inl k ↦ fresh.2 g k | inr e ↦ subst (λ (x : Growth). x.variable ≢ r.variable) (sym e) other.0 ],
    still_fresh Same Done it rest other.1 fresh.3,
  )

  comes_at : (o : Option ℕ) (was : Point) (z : ℤ) (w : ℕ) → o ≡ Some w → Comes was o z → z ≡ was.values w
  comes_at o was z w e h = subst (λ (x : Option ℕ). Comes was x z) e h

  one_more : (Same : ℕ → Type 0) (Done : Growth → Type 0) (it : Growth) (q : Point) → it.variable < count_of t → Same it.variable → ((g : Growth) → Done g → g.variable ≢ it.variable) → Grown t (Since Same Done) it q → Since (λ v. Same v × (v ≢ it.variable)) (λ g. Done g ⊎ (g ≡ it)) q
  one_more Same Done it q hv same apart k =
      let m = k.point in
      record {
        was = m.was;
        point = m.point;
        numbers = λ v h n. subst (λ (z : ℤ). Comes m.was (origin s t v) z) (sym (k.others.numbers v n.1)) (m.numbers v h n.0);
        kept = λ a ht hs. k.others.cells a ∙ m.kept a ht hs;
        new = λ a ht hs. k.others.cells a ∙ m.new a ht hs;
        done = λ g d w e. elim d [
          | inl n ↦ k.others.numbers g.variable (apart g n) ∙ m.done g n w e
          | inr i ↦ subst (λ (x : Growth). origin s t x.variable ≡ Some w → q.values x.variable ≡ grown (m.was.values w) x.step) (sym i)
              (λ f. k.value ∙ ap (λ (z : ℤ). grown z it.step) (comes_at (origin s t it.variable) m.was (k.was.values it.variable) w f (m.numbers it.variable hv same))) e
        ];
      }

  all_behind : (Same : ℕ → Type 0) (Done : Growth → Type 0) (gs : List Growth) (p : Point) → AreCounters s t gs → AreFresh Same Done gs → AllGrown t (Since Same Done) gs p → Behind Same Done gs p
  all_behind Same Done [] p c fresh h = record { was = h.was; point = h.point; numbers = λ v hv m n. h.numbers v hv m; kept = h.kept; new = h.new; done = h.done; grew = λ k d l. absurd (omega (arith, l)) }
  all_behind Same Done (it ∷ rest) p c fresh h =
      let Less = λ (v : ℕ). Same v × (v ≢ it.variable) in
      let More = λ (g : Growth). Done g ⊎ (g ≡ it) in
      let b = all_behind Less More rest p c.2 (still_fresh Same Done it rest c.1 fresh.3) (all_more t (Grown t (Since Same Done) it) (Since Less More) (λ q k. one_more Same Done it q fresh.0 fresh.1 fresh.2 k) rest p h) in
      record {
        was = b.was;
        point = b.point;
        numbers = λ v hv m n. b.numbers v hv (m, n.0) n.1;
        kept = b.kept;
        new = b.new;
        done = λ g d. b.done g (inl d);
        grew = grew_all it rest p b.was (b.done it (inr refl)) b.grew;
      }
    where
      grew_all : (it : Growth) (rest : List Growth) (p was : Point) → ((w : ℕ) → origin s t it.variable ≡ Some w → p.values it.variable ≡ grown (was.values w) it.step)
          → All (λ (g : Growth). (w : ℕ) → origin s t g.variable ≡ Some w → p.values g.variable ≡ grown (was.values w) g.step) rest
          → All (λ (g : Growth). (w : ℕ) → origin s t g.variable ≡ Some w → p.values g.variable ≡ grown (was.values w) g.step) (it ∷ rest)
      grew_all it rest p was first others zero d l = first
      grew_all it rest p was first others (suc k) d l = others k d (omega (arith, l))

  all_fresh : (gs : List Growth) → AreCounters s t gs → AreFresh (λ v. Unit {0}) (λ g. ⊥) gs
  all_fresh [] c = tt
  all_fresh (it ∷ rest) c = (c.0.inside, tt, λ g d. absurd d, all_fresh rest c.2)

  turn_of : (gs : List Growth) (p : Point) → AreCounters s t gs → AllGrown t (Moved s t Has [] []) gs p → TurnImage s t Has gs p
  turn_of gs p c h =
      let b = all_behind (λ v. Unit {0}) (λ g. ⊥) gs p c (all_fresh gs c)
      (all_more t (Moved s t Has [] []) (Since (λ v. Unit {0}) (λ g. ⊥)) (λ q m. record {
        was = m.was;
        point = m.carried.point;
        numbers = λ v hv u. m.carried.numbers.numbers v hv tt;
        kept = λ a ht hs. m.carried.cells.kept a ht hs tt;
        new = λ a ht hs. m.carried.cells.new a ht hs tt;
        done = λ g d. absurd d;
      }) gs p h)
      in
      record {
        was = b.was;
        carried = record {
          point = b.point;
          numbers = record { numbers = λ v hv n. b.numbers v hv tt n };
          cells = record { kept = λ a ht hs n. b.kept a ht hs; new = λ a ht hs n. b.new a ht hs };
        };
        grown = b.grew;
      }

module _ (S : Type 0) (pairs : Bool) (holds : S → Point → Type 0) (shape_of : S → Shape) (laws : Laws S pairs holds shape_of) where
  pub turned_least : (s t : Shape) → IsWay s t → (at moved state : S) (gs : List Growth) → AreCounters s t gs → shape_of at ≡ s → shape_of moved ≡ t
      → Keeps holds shape_of moved (Moved s t (holds at) [] []) → IsLeast holds shape_of moved (Moved s t (holds at) [] []) → IsLeast holds shape_of state (AllGrown (shape_of moved) (holds moved) gs) → IsLeast holds shape_of state (TurnImage s t (holds at) gs)
  turned_least s t way at moved state gs counters ea em km lm l = through_not S pairs holds shape_of laws state (AllGrown (shape_of moved) (holds moved) gs) (TurnImage s t (holds at) gs)
      (λ p w never. all_more_not t (holds moved) (Moved s t (holds at) [] []) (λ q h none. carried_not S pairs holds shape_of laws s t way at moved ea em km lm q h none) gs p
      (subst (λ (x : Shape). AllGrown x (holds moved) gs p) em w.is)
      (λ g. never (turn_of s t (holds at) gs p counters g)))
      l
