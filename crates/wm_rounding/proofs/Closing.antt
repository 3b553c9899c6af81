-- A rounding is the least state on the grid.
use Rattle.std.proofs.Common.{ℕ, ◌<◌, ◌≤◌, ℤ, Bool, true, false, List, length, arith}
use Rattle.std.specs.Prelude.{IsTrue}
use Rattle.wm_domain.specs.Points.{Point}
use Rattle.wm_domain.specs.States.{InShape, IsBare, count_of, array_count}
use Rattle.wm_domain.specs.declared.form.Form.{Form}
use Rattle.wm_domain.specs.declared.shape.Shape.{Shape}
use Rattle.wm_rounding.specs.Forms.{one_form, pair_form}
use Rattle.wm_rounding.specs.Rounding.{MeetsForm, MeetsCell, MeetsAll, MeetsVariables, MeetsPairs, IsOnGrid, IsRounding}
use Rattle.wm_rounding.specs.Cuts.{Cut, HasCells}

module _ (numbers : List ℤ) where
  -- a point that meets the bounds of some points meets those of more
  form_more : (A B : Point → Type 0) (f : Form) (p : Point) → ((q : Point) → A q → B q) → MeetsForm numbers A f p → MeetsForm numbers B f p
  form_more A B f p h m = record { above = λ z c k. m.above z c (λ q i. k q (h q i)); below = λ z c k. m.below z c (λ q i. k q (h q i)) }

  cell_more : (A B : Point → Type 0) (a : ℕ) (p : Point) → ((q : Point) → A q → B q) → MeetsCell numbers A a p → MeetsCell numbers B a p
  cell_more A B a p h m = record { allowed = λ s o k. m.allowed s o (λ q i. k q (h q i)) }

  module _ (pairs : Bool) (shape : Shape) where
    all_more : (A B : Point → Type 0) (p : Point) → ((q : Point) → A q → B q) → MeetsAll numbers A pairs shape p → MeetsAll numbers B pairs shape p
    all_more A B p h m = record {
      inside = m.inside;
      variables = λ v l. form_more A B (one_form v) p h (m.variables v l);
      related = λ t w k v l. (form_more A B (pair_form v w true) p h (m.related t w k v l).0, form_more A B (pair_form v w false) p h (m.related t w k v l).1);
      cells = λ a l. cell_more A B a p h (m.cells a l);
    }

    -- a point meets its own bounds
    own : (A : Point → Type 0) (p : Point) → ((q : Point) → A q → InShape shape q) → A p → MeetsAll numbers A pairs shape p
    own A p inside i = record {
      inside = inside p i;
      variables = λ v l. record { above = λ z c k. k p i; below = λ z c k. k p i };
      related = λ t w k v l. (record { above = λ z c k. k p i; below = λ z c k. k p i }, record { above = λ z c k. k p i; below = λ z c k. k p i });
      cells = λ a l. record { allowed = λ s o k. k p i };
    }

    -- the bounds of a rounding are those of what is rounded
    back : (A B : Point → Type 0) (p : Point) → ((q : Point) → B q → MeetsAll numbers A pairs shape q) → MeetsAll numbers B pairs shape p → MeetsAll numbers A pairs shape p
    back A B p h m = record {
      inside = m.inside;
      variables = λ v l. record {
        above = λ z c k. (m.variables v l).above z c (λ q i. ((h q i).variables v l).above z c k);
        below = λ z c k. (m.variables v l).below z c (λ q i. ((h q i).variables v l).below z c k);
      };
      related = λ t w k v l. (
        record {
          above = λ z c j. (m.related t w k v l).0.above z c (λ q i. ((h q i).related t w k v l).0.above z c j);
          below = λ z c j. (m.related t w k v l).0.below z c (λ q i. ((h q i).related t w k v l).0.below z c j);
        },
        record {
          above = λ z c j. (m.related t w k v l).1.above z c (λ q i. ((h q i).related t w k v l).1.above z c j);
          below = λ z c j. (m.related t w k v l).1.below z c (λ q i. ((h q i).related t w k v l).1.below z c j);
        },
      );
      cells = λ a l. record { allowed = λ s o k. (m.cells a l).allowed s o (λ q i. ((h q i).cells a l).allowed s o k) };
    }

    module _ (Old New : Point → Type 0) (r : IsRounding numbers pairs shape Old New) where
      pub holds_old : ((q : Point) → Old q → InShape shape q) → (p : Point) → Old p → New p
      holds_old inside p i = r.all (λ none. none p i) p (own Old p inside i)

      pub on_grid : IsOnGrid numbers pairs shape New
      on_grid = record { all = λ some p m. r.all (λ none. some (r.none none)) p (back Old New p r.meets m) }

      pub least : (T : Point → Type 0) → IsOnGrid numbers pairs shape T → ((p : Point) → Old p → T p) → (p : Point) → New p → T p
      least T on h p i = on.all (λ none. r.none (λ q j. none q (h q j)) p i) p (all_more Old T p h (r.meets p i))

    pub none_rounds : (Old New : Point → Type 0) → IsBare Old → IsBare New → IsRounding numbers pairs shape Old New
    none_rounds Old New h k = record { none = λ n. k; meets = λ p i. absurd (k p i); all = λ some. absurd (some h) }

    -- the steps together
    pub all_rounds : (Old A B New : Point → Type 0) → (IsBare Old → ⊥) → ((p : Point) → A p → InShape shape p) → HasCells numbers Old A shape (array_count shape) (array_count shape)
        → Cut A B (MeetsVariables numbers Old (count_of shape)) → Cut B New (λ p. IsTrue pairs → MeetsPairs numbers Old (length shape.group) p) → IsRounding numbers pairs shape Old New
    all_rounds Old A B New some inside cells h k = record {
      none = λ n. absurd (some n);
      meets = λ p i.
          let b = k.fewer p i in
          let a = h.fewer p b in
          record { inside = inside p a; variables = h.meets p b; related = k.meets p i; cells = cells.meets p a };
      all = λ s p m. k.kept p (h.kept p (cells.kept p m.inside m.cells (λ b l j. absurd (past b l j))) m.variables) m.related;
    }
      where
        past : (b : ℕ) → array_count shape ≤ b → b < array_count shape → ⊥
        past b l j = omega arith
