use Rattle.std.proofs.Common.{◌≡◌, ◌∙◌, ℕ, ◌*◌, ◌<◌, ℤ, pos, ◌+ℤ◌, ◌<ℤ◌, ◌≤ℤ◌, subst, sym, ap, List, w64, true, false}
use Rattle.std.proofs.lemmas.Int.{to_z-of_z}
use Rattle.wm_octagon.specs.Layout.{bound, table}
use Rattle.wm_octagon.specs.HalfTable.{HalfTable, IsWhole}
use Rattle.wm_octagon.specs.Closing.{closed}
use Rattle.wm_octagon.specs.Points.{IsPoint, IsTight, LeastOctagon, WithBound}
use Rattle.wm_octagon.proofs.Small.{fits_small, lt_of, le_of, not_le}
use Rattle.wm_octagon.proofs.Tight.{column-lt}
use Rattle.wm_octagon.proofs.Closings.{closed_small}
use Rattle.wm_octagon.proofs.Least.{tight_of_least, closed-least, closed-points, known-least, known-points, contradicts}
use Rattle.wm_octagon.proofs.half.Half.close_one.Goals as goal
use mir.Val.{SFits}
use lib.Signed.{lt_z}
use Rattle.std.specs.Prelude.{int_le}

pub returns-then-room-lt0-clause-least : goal.returns-then-room-lt0-clause-least
returns-then-room-lt0-clause-least c = λ x w.
    let fc = c.ranges.c in
    let fb = fits_small _ c.bound.ensures.small in
    let fp : SFits w64 c.plus-room.result = record { sfits = c.plus-room.type_inv } in
    let sum : c.plus-room.result ≡ c.args.c +ℤ bound c.args.self.now.bounds c.args.j c.args.i = (simp to_z-of_z at c.plus-room.ensures) ∙ ap (λ z. c.args.c +ℤ z) c.bound.ensures.value in
    let test : lt_z c.plus-room.result (pos 0) ≡ true = simp to_z-of_z at c.if-room-lt0.true in
    let j_in = column-lt c.args.self.now.variables c.args.i c.args.j c.requires.row c.requires.column in
    contradicts c.args.self.now.variables c.args.self.now.bounds c.args.i c.args.j c.args.c c.requires.row j_in (subst (λ z. z <ℤ pos 0) sum (lt_of _ _ test)) x w

pub take_in-requires-clause-sized : goal.take_in-requires-clause-sized
take_in-requires-clause-sized c = λ k l hk hl.
    let fc = c.ranges.c in
    let fb = fits_small _ c.bound.ensures.small in
    let fp : SFits w64 c.plus-room.result = record { sfits = c.plus-room.type_inv } in
    let sum : c.plus-room.result ≡ c.args.c +ℤ bound c.args.self.now.bounds c.args.j c.args.i = (simp to_z-of_z at c.plus-room.ensures) ∙ ap (λ z. c.args.c +ℤ z) c.bound.ensures.value in
    let test : lt_z c.plus-room.result (pos 0) ≡ false = simp to_z-of_z at c.if-room-lt0.false in
    let room : pos 0 ≤ℤ (c.args.c +ℤ bound c.args.self.now.bounds c.args.j c.args.i) = subst (λ z. pos 0 ≤ℤ z) sum (le_of _ _ test) in
    let j_in = column-lt c.args.self.now.variables c.args.i c.args.j c.requires.row c.requires.column in
    let whole : IsWhole c.args.self.now.variables c.args.self.now.bounds = subst (λ (h : HalfTable). IsWhole h.variables h.bounds) c.self.view_is c.self.invariant in
    closed_small c.args.self.now.variables c.args.self.now.bounds c.args.i c.args.j _ whole c.requires.tight c.requires.row j_in (subst (λ z. pos 0 ≤ℤ (z +ℤ bound c.args.self.now.bounds c.args.j c.args.i)) (sym (to_z-of_z w64 c.args.c c.ranges.c)) room) k l hk (column-lt c.args.self.now.variables k l hk hl)

-- what is known once the bound is seen to be new and not to contradict the list
record Known (n : ℕ) (xs : List ℤ) (i j : ℕ) (c : ℤ) : Type 0 where
  room : pos 0 ≤ℤ (c +ℤ bound xs j i)
  fresh : c <ℤ bound xs i j
  j_in : j < 2 * n

-- the list after the change
changed : (c : goal.After-take_in) → c.take_in.new.half ≡ record { variables = c.args.self.now.variables; bounds = table (2 * c.args.self.now.variables) (closed (bound c.args.self.now.bounds) c.args.i c.args.j c.args.c) }
changed c =
    c.take_in.ensures.list
    ∙ ap (λ z. let h : HalfTable = record { variables = c.args.self.now.variables; bounds = table (2 * c.args.self.now.variables) (closed (bound c.args.self.now.bounds) c.args.i c.args.j z) } in h) (to_z-of_z w64 c.args.c c.ranges.c)

known_after : (c : goal.After-take_in) → Known c.args.self.now.variables c.args.self.now.bounds c.args.i c.args.j c.args.c
known_after c =
    let fc = c.ranges.c in
    let fb = fits_small _ c.bound.ensures.small in
    let fb2 = fits_small _ c.bound-2.ensures.small in
    let fp : SFits w64 c.plus-room.result = record { sfits = c.plus-room.type_inv } in
    let sum : c.plus-room.result ≡ c.args.c +ℤ bound c.args.self.now.bounds c.args.j c.args.i = (simp to_z-of_z at c.plus-room.ensures) ∙ ap (λ z. c.args.c +ℤ z) c.bound.ensures.value in
    let test : lt_z c.plus-room.result (pos 0) ≡ false = simp to_z-of_z at c.if-room-lt0.false in
    let test2 : lt_z c.args.c c.bound-2.result ≡ true = simp to_z-of_z at c.if-c-bound.true in
    record {
      room = subst (λ z. pos 0 ≤ℤ z) sum (le_of _ _ test);
      fresh = subst (λ z. c.args.c <ℤ z) c.bound-2.ensures.value (lt_of _ _ test2);
      j_in = column-lt c.args.self.now.variables c.args.i c.args.j c.requires.row c.requires.column;
    }

pub returns-then-c-bound-clause-list : goal.returns-then-c-bound-clause-list
returns-then-c-bound-clause-list c =
    let f = known_after c in
    let e : int_le (bound c.args.self.now.bounds c.args.i c.args.j) c.args.c ≡ false = not_le _ _ f.fresh in
    rw e (changed c)

pub returns-then-c-bound-clause-least : goal.returns-then-c-bound-clause-least
returns-then-c-bound-clause-least c =
    let f = known_after c in
    subst (λ (h : HalfTable). LeastOctagon c.args.self.now.variables (WithBound c.args.self.now.variables c.args.self.now.bounds c.args.i c.args.j c.args.c) h.bounds) (sym (changed c))
    (closed-least c.args.self.now.variables c.args.self.now.bounds c.args.i c.args.j c.args.c c.requires.tight c.requires.row f.j_in f.room)

pub returns-then-c-bound-clause-points : goal.returns-then-c-bound-clause-points
returns-then-c-bound-clause-points c = λ x.
    let f = known_after c in
    let least = closed-least c.args.self.now.variables c.args.self.now.bounds c.args.i c.args.j c.args.c c.requires.tight c.requires.row f.j_in f.room in
    subst (λ (h : HalfTable). (IsPoint h.variables h.bounds x → WithBound c.args.self.now.variables c.args.self.now.bounds c.args.i c.args.j c.args.c x) × (WithBound c.args.self.now.variables c.args.self.now.bounds c.args.i c.args.j c.args.c x → IsPoint h.variables h.bounds x)) (sym (changed c))
    (closed-points c.args.self.now.variables c.args.self.now.bounds c.args.i c.args.j c.args.c c.requires.tight c.requires.row f.j_in f.room x, least.holds x)

pub returns-then-c-bound-clause-tight : goal.returns-then-c-bound-clause-tight
returns-then-c-bound-clause-tight c =
    let f = known_after c in
    subst (λ (h : HalfTable). IsTight h.variables h.bounds) (sym (changed c))
    (tight_of_least _ _ _ (closed-least c.args.self.now.variables c.args.self.now.bounds c.args.i c.args.j c.args.c c.requires.tight c.requires.row f.j_in f.room))

pub returns-else-c-bound-clause-least : goal.returns-else-c-bound-clause-least
returns-else-c-bound-clause-least c =
    let fc = c.ranges.c in
    let fb2 = fits_small _ c.bound-2.ensures.small in
    let test2 : lt_z c.args.c c.bound-2.result ≡ false = simp to_z-of_z at c.if-c-bound.false in
    let j_in = column-lt c.args.self.now.variables c.args.i c.args.j c.requires.row c.requires.column in
    known-least c.args.self.now.variables c.args.self.now.bounds c.args.i c.args.j c.args.c c.requires.tight c.requires.row j_in (subst (λ z. z ≤ℤ c.args.c) c.bound-2.ensures.value (le_of _ _ test2))

pub returns-else-c-bound-clause-points : goal.returns-else-c-bound-clause-points
returns-else-c-bound-clause-points c = λ x.
    let fc = c.ranges.c in
    let fb2 = fits_small _ c.bound-2.ensures.small in
    let test2 : lt_z c.args.c c.bound-2.result ≡ false = simp to_z-of_z at c.if-c-bound.false in
    let j_in = column-lt c.args.self.now.variables c.args.i c.args.j c.requires.row c.requires.column in
    known-points c.args.self.now.variables c.args.self.now.bounds c.args.i c.args.j c.args.c c.requires.row j_in (subst (λ z. z ≤ℤ c.args.c) c.bound-2.ensures.value (le_of _ _ test2)) x
