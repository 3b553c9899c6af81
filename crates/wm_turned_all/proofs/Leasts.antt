-- The least state behind a turn: that behind the first counter, and behind the rest.
use Rattle.std.proofs.Common.{◌≡◌, inl, inr, Bool, List, [], ◌∷◌, sym, ◌∙◌, subst}
use Rattle.std.specs.Prelude.{◌↔◌}
use Rattle.wm_domain.specs.declared.shape.Shape.{Shape}
use Rattle.wm_domain.specs.Points.{Point}
use Rattle.wm_domain.specs.States.{InShape, Keeps, IsLeast}
use Rattle.wm_domain.specs.Bounds.{Bound, Meets, IsBound}
use Rattle.wm_domain.specs.Changes.{InEither}
use Rattle.wm_carry.proofs.Reaching.{Laws, Wanted, bound_met, reach, through, through_not}
use Rattle.wm_flow.specs.declared.action.Growth.{Growth}
use Rattle.wm_turned.specs.Turning.{Grown, Whole, Stuck, AllGrown}
use Rattle.wm_turned.proofs.Growing.{grown_whole, grown_stuck}

-- points that cannot but be such lead to points that cannot but be behind such
pub all_more_not : (shape : Shape) (P Q : Point → Type 0) → ((q : Point) → P q → (Q q → ⊥) → ⊥) → (gs : List Growth) (p : Point) → AllGrown shape P gs p → (AllGrown shape Q gs p → ⊥) → ⊥
all_more_not shape P Q to [] p h never = to p h never
all_more_not shape P Q to (g ∷ rest) p h never =
    all_more_not shape (Grown shape P g) (Grown shape Q g)
    (λ q k none. to k.was k.point (λ x. none (record { was = k.was; point = x; others = k.others; value = k.value; inside = k.inside })))
    rest p h never

module _ (S : Type 0) (pairs : Bool) (holds : S → Point → Type 0) (shape_of : S → Shape) (laws : Laws S pairs holds shape_of) where
  pub same_least : (state same : S) (gs : List Growth) → gs ≡ [] → ((p : Point) → holds same p ↔ holds state p) → IsLeast holds shape_of same (AllGrown (shape_of state) (holds state) gs)
  same_least state same gs e each = record {
    least = λ t et k p h. k.kept p (subst (λ (s : Shape). InShape s p) (sym et) (laws.inside same p h)) (subst (λ (xs : List Growth). AllGrown (shape_of state) (holds state) xs p) (sym e) ((each p).0 h));
  }

  module _ (shape : Shape) (Has : Point → Type 0) (it : Growth) (rest : List Growth) where
    pub whole_to : (copy moved : S) → shape_of moved ≡ shape → ((p : Point) → holds copy p ↔ Has p) → ((p : Point) → holds moved p → Whole (holds copy) it p) → (q : Point) → holds moved q → (Grown shape Has it q → ⊥) → ⊥
    whole_to copy moved em same made q h none =
        let w = made q h in
        none (grown_whole shape Has it q (subst (λ (s : Shape). InShape s q) em (laws.inside moved q h)) (record { was = w.was; point = (same w.was).0 w.point; others = w.others; fits = w.fits; value = w.value }))

    pub stuck_to : (copy held : S) → shape_of held ≡ shape → ((p : Point) → holds copy p ↔ Has p) → ((p : Point) → holds held p → (Stuck (holds copy) it p → ⊥) → ⊥) → (q : Point) → holds held q → (Grown shape Has it q → ⊥) → ⊥
    stuck_to copy held eh same made q h none = made q h (λ w.
        none (grown_stuck shape Has it q (subst (λ (s : Shape). InShape s q) eh (laws.inside held q h)) (record { was = w.was; point = (same w.was).0 w.point; others = w.others; past = w.past; value = w.value })))

    -- a state behind the first counter, and one behind the rest
    record Behind (moved all : S) : Type 0 where
      shape_is : shape_of moved ≡ shape
      all_shape : shape_of all ≡ shape_of moved
      to : (q : Point) → holds moved q → (Grown shape Has it q → ⊥) → ⊥
      sound : (p : Point) → InShape (shape_of moved) p → AllGrown (shape_of moved) (holds moved) rest p → holds all p
      least : IsLeast holds shape_of all (AllGrown (shape_of moved) (holds moved) rest)

    least_in : (moved all : S) → Behind moved all → IsLeast holds shape_of all (AllGrown shape (holds moved) rest)
    least_in moved all b = subst (λ (s : Shape). IsLeast holds shape_of all (AllGrown s (holds moved) rest)) b.shape_is b.least

    keeps_in : (moved all : S) → Behind moved all → Keeps holds shape_of all (AllGrown shape (holds moved) rest)
    keeps_in moved all b = record {
      kept = λ p i h. b.sound p (subst (λ (s : Shape). InShape s p) b.all_shape i) (subst (λ (s : Shape). AllGrown s (holds moved) rest p) (sym b.shape_is) h);
    }

    met_behind : (moved all : S) → Behind moved all → (b : Bound) → IsBound pairs (shape_of all) b → ((m : Point) → Wanted (shape_of all) (AllGrown shape (Grown shape Has it) rest) m → Meets b m) → (p : Point) → holds all p → Meets b p
    met_behind moved all d b ok every p h = reach S pairs holds shape_of laws all (AllGrown shape (holds moved) rest) (keeps_in moved all d) (least_in moved all d) b ok
        (λ m w. bound_met b m (λ never. all_more_not shape (holds moved) (Grown shape Has it) d.to rest m w.is (λ g. never (every m (record { inside = w.inside; is = g })))))
        p h

    behind_of : (moved all : S) → shape_of moved ≡ shape → shape_of all ≡ shape_of moved → ((q : Point) → holds moved q → (Grown shape Has it q → ⊥) → ⊥)
        → ((p : Point) → InShape (shape_of moved) p → AllGrown (shape_of moved) (holds moved) rest p → holds all p) → IsLeast holds shape_of all (AllGrown (shape_of moved) (holds moved) rest) → Behind moved all
    behind_of moved all em ea to sound least = record { shape_is = em; all_shape = ea; to = to; sound = sound; least = least }

    -- no point sticks
    pub least_whole : (moved all : S) (gs : List Growth) → gs ≡ it ∷ rest → shape_of moved ≡ shape → shape_of all ≡ shape_of moved → ((q : Point) → holds moved q → (Grown shape Has it q → ⊥) → ⊥)
        → ((p : Point) → InShape (shape_of moved) p → AllGrown (shape_of moved) (holds moved) rest p → holds all p) → IsLeast holds shape_of all (AllGrown (shape_of moved) (holds moved) rest)
        → IsLeast holds shape_of all (AllGrown shape Has gs)
    least_whole moved all gs e em ea to sound least =
        let d = behind_of moved all em ea to sound least in
        subst (λ (xs : List Growth). IsLeast holds shape_of all (AllGrown shape Has xs)) (sym e)
        (through_not S pairs holds shape_of laws all (AllGrown shape (holds moved) rest) (AllGrown shape (Grown shape Has it) rest)
        (λ p w never. all_more_not shape (holds moved) (Grown shape Has it) to rest p w.is never) (least_in moved all d))

    -- the cases of a counter that may stick
    pub least_both : (moved all held others joined : S) (gs : List Growth) → gs ≡ it ∷ rest → shape_of moved ≡ shape → shape_of all ≡ shape_of moved → shape_of held ≡ shape → shape_of others ≡ shape_of held → shape_of joined ≡ shape_of all
        → ((q : Point) → holds moved q → (Grown shape Has it q → ⊥) → ⊥) → ((q : Point) → holds held q → (Grown shape Has it q → ⊥) → ⊥)
        → ((p : Point) → InShape (shape_of moved) p → AllGrown (shape_of moved) (holds moved) rest p → holds all p) → IsLeast holds shape_of all (AllGrown (shape_of moved) (holds moved) rest)
        → ((p : Point) → InShape (shape_of held) p → AllGrown (shape_of held) (holds held) rest p → holds others p) → IsLeast holds shape_of others (AllGrown (shape_of held) (holds held) rest)
        → IsLeast holds shape_of joined (InEither (holds all) (holds others)) → IsLeast holds shape_of joined (AllGrown shape Has gs)
    least_both moved all held others joined gs e em ea eh eo ej to to_held sound least sound_held least_held lj =
        let d = behind_of moved all em ea to sound least in
        let f = behind_of held others eh eo to_held sound_held least_held in
        let eu : shape_of joined ≡ shape_of others = ej ∙ ea ∙ em ∙ sym eh ∙ sym eo in
        subst (λ (xs : List Growth). IsLeast holds shape_of joined (AllGrown shape Has xs)) (sym e)
        (through S pairs holds shape_of laws joined (InEither (holds all) (holds others)) (AllGrown shape (Grown shape Has it) rest)
        (λ p w b ok every. elim w.is [
          | inl h ↦ met_behind moved all d b (subst (λ (s : Shape). IsBound pairs s b) ej ok) (λ m v. every m (record { inside = subst (λ (s : Shape). InShape s m) (sym ej) v.inside; is = v.is })) p h
          | inr h ↦ met_behind held others f b (subst (λ (s : Shape). IsBound pairs s b) eu ok) (λ m v. every m (record { inside = subst (λ (s : Shape). InShape s m) (sym eu) v.inside; is = v.is })) p h
        ])
        lj)
