-- Numbers and cells that are put behind others.
use Rattle.std.proofs.Common.{◌≡◌, ◌≢◌, ℕ, ◌<◌, Bool, ℤ, List, ◌++◌, [], ◌∷◌, Option, Some, None, sym, ◌∙◌, subst, ◌≤ℤ◌}
use Rattle.std.proofs.lemmas.List.Elements.{All-push}
use Rattle.wm_numbers.proofs.Order.{le_refl}
use Rattle.wm_interval.specs.Holds.{Holds}
use Rattle.wm_interval.specs.declared.Interval.{Interval}
use Rattle.wm_arrays.specs.declared.summary.Summary.TheVariants.{Range}
use Rattle.wm_domain.specs.Points.{Point, AllowsCell}
use Rattle.wm_program.specs.declared.program.ObjectInfo.{ObjectInfo}
use Rattle.wm_flow.specs.declared.action.Given.{Given}
use Rattle.wm_flow.specs.declared.scene.Bases.{Bases}
use Rattle.wm_flow.specs.declared.seats.Seat.{Seat}
use Rattle.wm_flow.specs.Seats.{low_of, high_of}
use Rattle.wm_carry.specs.Following.{IsApart}
use Rattle.wm_started.specs.Starting.{NumberAt, variable_of, first_number, CellBegins, CellsAt, array_of, IsOther, AllNumbers, AllCells, IsAutomatic}
use Rattle.wm_started.specs.Filling.{targets_of, AreBelow, AreHeld, AreCells}

-- ---- one more

pub below_more : (count : ℕ) (given more : List Given) (g : Given) → more ≡ given ++ g ∷ [] → g.target < count → AreBelow count given → AreBelow count more
below_more count given more g e h k = subst (λ (xs : List Given). AreBelow count xs) (sym e) (All-push (λ (x : Given). x.target < count) given g k h)

pub only_held : (r : Interval) (x z : ℤ) → r.low ≡ z → r.high ≡ z → x ≡ z → Holds r x
only_held r x z low high e = record {
  above = subst (λ (y : ℤ). y ≤ℤ x) (sym (low ∙ sym e)) (le_refl x);
  below = subst (λ (y : ℤ). x ≤ℤ y) (sym (high ∙ sym e)) (le_refl x);
}

pub held_more : (given more : List Given) (g : Given) (p : Point) (z : ℤ) → more ≡ given ++ g ∷ [] → g.range.low ≡ z → g.range.high ≡ z → p.values g.target ≡ z → AreHeld given p → AreHeld more p
held_more given more g p z e low high is k =
    subst (λ (xs : List Given). AreHeld xs p) (sym e) (All-push (λ (x : Given). Holds x.range (p.values x.target)) given g k (only_held g.range (p.values g.target) z low high is))

allowed_by : (object : ObjectInfo) (r : Interval) (cell : Option ℤ) → r.low ≡ low_of object.length object.initial → r.high ≡ high_of object.length object.initial → CellBegins object cell → AllowsCell (Range r) cell
allowed_by object r None low high h = tt
allowed_by object r (Some z) low high h = record {
  above = subst (λ (y : ℤ). y ≤ℤ z) (sym low) h.0;
  below = subst (λ (y : ℤ). z ≤ℤ y) (sym high) h.1;
}

pub cells_more : (given more : List Given) (g : Given) (object : ObjectInfo) (p : Point) → more ≡ given ++ g ∷ [] → g.range.low ≡ low_of object.length object.initial → g.range.high ≡ high_of object.length object.initial
    → CellBegins object (p.cells g.target) → AreCells given p → AreCells more p
cells_more given more g object p e low high h k =
    subst (λ (xs : List Given). AreCells xs p) (sym e) (All-push (λ (x : Given). AllowsCell (Range x.range) (p.cells x.target)) given g k (allowed_by object g.range (p.cells g.target) low high h))

apart_parts : (given : List Given) (g : Given) (a : ℕ) → IsApart (targets_of (given ++ g ∷ [])) a → (a ≢ g.target) × IsApart (targets_of given) a
apart_parts [] g a h = (h.0, tt)
apart_parts (x ∷ rest) g a h = let i = apart_parts rest g a h.1 in (i.0, (h.0, i.1))

pub apart_less : (given more : List Given) (g : Given) (a : ℕ) → more ≡ given ++ g ∷ [] → IsApart (targets_of more) a → (a ≢ g.target) × IsApart (targets_of given) a
apart_less given more g a e h = apart_parts given g a (subst (λ (xs : List Given). IsApart (targets_of xs) a) e h)

-- ---- the first object and the others

module _ (seats rest : List Seat) (objects more : List ObjectInfo) (seat : Seat) (object : ObjectInfo) where
  pub numbers_parts : (bases : Bases) (inputs : Bool) (p : Point) → seats ≡ seat ∷ rest → objects ≡ object ∷ more → AllNumbers bases inputs seats objects p → NumberAt (variable_of bases inputs seat) (first_number object) p × AllNumbers bases inputs rest more p
  numbers_parts bases inputs p e f h =
      subst (λ (xs : List Seat). AllNumbers bases inputs xs (object ∷ more) p) e (subst (λ (ys : List ObjectInfo). AllNumbers bases inputs seats ys p) f h)

  pub cells_parts : (p : Point) → seats ≡ seat ∷ rest → objects ≡ object ∷ more → AllCells seats objects p → CellsAt (array_of seat) object p × AllCells rest more p
  cells_parts p e f h = subst (λ (xs : List Seat). AllCells xs (object ∷ more) p) e (subst (λ (ys : List ObjectInfo). AllCells seats ys p) f h)

  pub automatic_more : (a : ℕ) → seats ≡ seat ∷ rest → objects ≡ object ∷ more → IsOther a (array_of seat) → IsAutomatic a rest more → IsAutomatic a seats objects
  automatic_more a e f h k =
      subst (λ (ys : List ObjectInfo). IsAutomatic a seats ys) (sym f) (subst (λ (xs : List Seat). IsAutomatic a xs (object ∷ more)) (sym e) (h, k))

automatic_none : (a : ℕ) (objects : List ObjectInfo) → IsAutomatic a [] objects
automatic_none a [] = tt
automatic_none a (object ∷ objects) = tt

pub no_seats : (a : ℕ) (seats : List Seat) (objects : List ObjectInfo) → seats ≡ [] → IsAutomatic a seats objects
no_seats a seats objects e = subst (λ (xs : List Seat). IsAutomatic a xs objects) (sym e) (automatic_none a objects)

pub no_objects : (a : ℕ) (seats : List Seat) (objects : List ObjectInfo) → objects ≡ [] → IsAutomatic a seats objects
no_objects a seats objects e = subst (λ (ys : List ObjectInfo). IsAutomatic a seats ys) (sym e) tt
